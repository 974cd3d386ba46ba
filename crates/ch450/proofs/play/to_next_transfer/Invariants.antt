-- `ch450::play::to_next_transfer` meets its contract. The invariant: the stretch of the rest is that of the whole.
-- Assumes nothing.
use Rattle.std.proofs.Common.{◌≡◌, ◌≤◌, length, drop, max}
use Rattle.ch450.specs.Panel.{with_wires}
use Rattle.ch450.specs.Stretch.{stretch_from}
use Rattle.ch450.proofs.play.to_next_transfer.Given as goal

abbrev pub invariant-loop-i : goal.invariant-loop-i
invariant-loop-i l = (l.i ≤ max l.from (length l.samples)) × (stretch_from l.i (drop l.i l.samples) (with_wires l.wires l.fn.panel) ≡ stretch_from l.from (drop l.from l.samples) l.fn.panel)
