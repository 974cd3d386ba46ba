-- `writer::lights::may_sleep` meets its contract. The invariant: what is said before the rows that were passed is what is said before all.
-- Assumes nothing.
use mathlib.Core.Path.{◌≡◌}
use Prim.Native.Nat.{◌/◌}
use Rattle.writer.specs.Lights.{off_before}
use Rattle.writer.proofs.lights.may_sleep.Given as goal

abbrev pub invariant-loop-row : goal.invariant-loop-row
invariant-loop-row l = off_before l.n l.words l.chip l.row ≡ off_before l.n l.words l.chip (l.place / l.n)
