-- The public entries of one CH450, refusals and all: what each answers for every input. The writer's is in specs/Written.antt.
-- Assumes nothing.
use Rattle.std.specs.Prelude.{ℕ, List, leb}
use Rattle.base.specs.Pick.{pick}
use Rattle.base.specs.Refusals.{Told, done, refused, Outcome, hands_back, once_tested}
use Rattle.base.specs.Samples as Samples
use Rattle.ch450.specs.declared.Command.{Command}
use Rattle.ch450.specs.declared.Panel.{Panel}
use Rattle.ch450.specs.Panel.{valid, dark, lit_of}
use Rattle.ch450.specs.Commands.{legal, applied, told_at, is_read}
use Rattle.ch450.specs.Samples.{stepped_panel, played, reads_in}
use Rattle.std.specs.declared.option.Option.{Option}
use Rattle.std.specs.declared.option.Option.TheVariants.{Some, None}

-- ---- a command applied directly, and the segments lit

-- a command applied directly: refusals 12, 9
unfoldable pub applied_of : Panel → Command → Outcome Panel (Unit {0})
applied_of p command =
    pick (valid p)
    (pick (legal command) (record { state = applied command p; told = done tt }) (hands_back p 9 0))
    (hands_back p 12 0)

-- the segments lit: refusal 12
unfoldable pub segments_of : Panel → Outcome (List ℕ) (Unit {0})
segments_of p = pick (valid p) (record { state = lit_of p; told = done tt }) (hands_back dark 12 0)

-- ---- samples

-- the tests that come first: refusals 12, and 9 where the key's code is above 127
unfoldable pub tested_of : Panel → ℕ → Told (Unit {0})
tested_of p key = pick (valid p) (pick (leb key 127) (done tt) (refused 9 0)) (refused 12 0)

-- refusal 1's test, by the lowest place of a sample above 3
unfoldable pub checked_from : ℕ → List ℕ → Told (Unit {0})
checked_from place ss = Samples.checked_from 3 place ss

-- what a sample answers: an obeyed 4FH with the caller's code, whatever byte 2 had; anything else with none
abbrev pub answer_to : ℕ → Option Command → Option ℕ
answer_to key what = pick (is_read what) (Some key) None

-- one sample: refusals 12, 9, 1
unfoldable pub sampled_of : Panel → ℕ → ℕ → Outcome Panel (Option ℕ)
sampled_of p key sample =
    once_tested (tested_of p key) p
    (pick (leb sample 3)
    (record { state = stepped_panel sample p; told = done (answer_to key (told_at sample p.wires)) })
    (hands_back p 1 0))

-- a block of samples: refusals 12, 9, 1; the answer is how many times the key was read
unfoldable pub played_of : Panel → ℕ → List ℕ → Outcome Panel ℕ
played_of p key ss =
    once_tested (tested_of p key) p
    (once_tested (checked_from 0 ss) p (record { state = played ss p; told = done (reads_in ss p) }))
