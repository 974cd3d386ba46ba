-- `chain::play::stretch_of` meets its contract. The invariant: the stretch of the rest is that of the whole.
-- Assumes nothing.
use Rattle.std.proofs.Common.{◌≡◌, ◌≤◌, ◌++◌, ◌-◌, Bool, length, take, drop, max}
use Rattle.chain.specs.Chain.{stepped_row}
use Rattle.chain.specs.Stretch.{stretch_from}
use Rattle.chain.proofs.play.stretch_of.Given as goal

abbrev pub invariant-loop-c : goal.invariant-loop-c
invariant-loop-c l =
    take l.c-index l.c-items ++ stepped_row (l.n - l.c-index) l.was l.s l.d (drop l.c-index l.c-items) ≡ stepped_row l.n l.was l.s l.initial.d l.initial.c-items

abbrev pub invariant-loop-c-then-dclk_falls : goal.invariant-loop-c-then-dclk_falls
invariant-loop-c-then-dclk_falls l =
    (b : Bool) → take l.c-index l.c-items ++ stepped_row (l.n - l.c-index) l.was l.s b (drop l.c-index l.c-items) ≡ stepped_row l.n l.was l.s b l.initial.c-items

abbrev pub invariant-loop-i : goal.invariant-loop-i
invariant-loop-i l = (l.i ≤ max l.from (length l.samples)) × (stretch_from l.n l.i (drop l.i l.samples) (record { chips = l.chips; levels = l.was }) ≡ stretch_from l.n l.from (drop l.from l.samples) l.fn.chain)
