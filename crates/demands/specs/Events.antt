-- The third demand: the commands and scans of one chip among samples with key scans between them, as if they had been applied to that
-- chip directly.
-- Assumes nothing.
use Rattle.std.specs.Prelude.{ℕ, Bool, true, false, List, [], ◌∷◌, ◌++◌, get_or, drop}
use Rattle.base.specs.Pick.{pick}
use Rattle.base.specs.Refusals.{Told, done, refused}
use Rattle.word.specs.declared.Command.{Command}
use Rattle.word.specs.Words.{decoded_of}
use Rattle.chip.specs.Edges.{load_rises}
use Rattle.chip.specs.History.{Step, told}
use Rattle.chip.specs.History as History
use Rattle.chain.specs.Events.{Event, sample, scan, scan_at}

-- the command that a word means; an unlisted word, which no accepted row has, adds no step
abbrev pub command_of : Told Command → List Step
command_of (done command) = told command ∷ []
command_of (refused number place) = []

-- chip k's word of a row
abbrev pub word_for : ℕ → List ℕ → ℕ
word_for k row = get_or row k 0

-- at a LOAD rise the command of chip k's word of the next row; at any other sample nothing
abbrev pub told_at : ℕ → Bool → List (List ℕ) → List Step
told_at k false rows = []
told_at k true [] = []
told_at k true (row ∷ rows) = command_of (decoded_of (word_for k row))

-- the rows not yet loaded: a LOAD rise takes the next one
abbrev pub rows_after : Bool → List (List ℕ) → List (List ℕ)
rows_after rises rows = pick rises (drop 1 rows) rows

-- chip k's own commands and its own scans, given the levels before, the rows not yet loaded, and the events
abbrev pub steps_for : ℕ → ℕ → List (List ℕ) → List Event → List Step
steps_for k was rows [] = []
steps_for k was rows (sample s ∷ es) =
    told_at k (load_rises was s) rows ++ steps_for k s (rows_after (load_rises was s) rows) es
steps_for k was rows (scan j bytes ∷ es) = scan_at k j bytes ++ steps_for k was rows es

-- the commands of a history, in order
abbrev pub commands_in : List Step → List Command
commands_in [] = []
commands_in (told command ∷ h) = command ∷ commands_in h
commands_in (History.scan bytes ∷ h) = commands_in h
