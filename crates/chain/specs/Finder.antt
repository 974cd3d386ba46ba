-- Document 01, "The writer and the finder": the next LOAD rise of a block, and the number of samples passed.
-- Assumes nothing.
use Rattle.std.specs.Prelude.{ℕ, suc, ◌+◌, List, [], ◌∷◌, leb, length}
use Rattle.base.specs.Pick.{pick}
use Rattle.base.specs.Refusals.{Told, done, refused, Outcome, hands_back, tells}
use Rattle.chip.specs.Edges.{load_rises}
use Rattle.chain.specs.declared.finder.Found.{Found}
use Rattle.chain.specs.declared.finder.Way.{Way}
use Rattle.chain.specs.Chain.{checked_from}
use Rattle.std.specs.declared.option.Option.{Option}
use Rattle.std.specs.declared.option.Option.TheVariants.{Some, None}

-- where the next LOAD rise stands, by document 01's values: a place, or none
pub data NextRise : Type 0 where
  rise_at : ℕ → NextRise
  no_rise : NextRise

-- the value of each case of the answer
abbrev pub next_rise_of : Option ℕ → NextRise
next_rise_of (Some place) = rise_at place
next_rise_of None = no_rise

-- the place of the next LOAD rise, given the levels before
unfoldable pub rise_from : ℕ → ℕ → List ℕ → NextRise
rise_from place was [] = no_rise
rise_from place was (s ∷ ss) = pick (load_rises was s) (rise_at place) (rise_from (suc place) s ss)

-- how many samples were passed: the place plus 1, or the whole length
abbrev pub passed_by : NextRise → ℕ → ℕ
passed_by (rise_at place) whole = place + 1
passed_by no_rise whole = whole

-- what the finder reports: the rise, and how many samples it passed
pub record Report : Type 0 where
  pub rise : NextRise
  pub passed : ℕ

-- the report of what was found on the way
abbrev pub report_of : Way → Report
report_of w = record { rise = next_rise_of w.rise; passed = w.passed }

-- the rise and the count
abbrev pub looked_of : ℕ → List ℕ → Report
looked_of levels samples = record { rise = rise_from 0 levels samples; passed = passed_by (rise_from 0 levels samples) (length samples) }

-- the report handed back
abbrev pub handed_found : Found → Outcome Report (Unit {0})
handed_found r = record { state = record { rise = next_rise_of r.rise; passed = r.passed }; told = tells r.answer }

-- no rise and 0 passed
abbrev pub no_report : Report
no_report = record { rise = no_rise; passed = 0 }

-- where the samples passed their test the report, else none
abbrev pub reported : Told (Unit {0}) → Report → Outcome Report (Unit {0})
reported (done u) report = record { state = report; told = done tt }
reported (refused number place) report = hands_back no_report number place

-- the finder: refusals 12, 1
unfoldable pub found_of : ℕ → List ℕ → Outcome Report (Unit {0})
found_of levels samples = pick (leb levels 7) (reported (checked_from 0 samples) (looked_of levels samples)) (hands_back no_report 12 0)
