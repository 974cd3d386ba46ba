-- `chain::blocks::listed` meets its contract. The invariant: the rest, played from here, is the whole played, and the places of the
-- rest's rises, put where the list stands, make the whole list.
-- Assumes nothing.
use mathlib.Core.Path.{◌≡◌}
use Prim.Native.Nat.{◌-◌}
use lib.ListN.{length, drop}
use Rattle.base.proofs.Lent.{Fills}
use Rattle.chain.specs.Chain.{played}
use Rattle.chain.specs.Blocks.{rises_from, rises_in}
use Rattle.chain.proofs.blocks.listed.Given as goal

abbrev pub invariant-loop-i : goal.invariant-loop-i
invariant-loop-i l =
    (played l.n (drop l.i l.samples) l.next ≡ played l.n l.samples l.initial.next) × Fills 0 (rises_in l.initial.next l.samples) l.initial.rises l.at (rises_from l.i l.next.levels (drop l.i l.samples)) l.rises

abbrev pub decreases-loop-i : goal.decreases-loop-i
decreases-loop-i l = length l.samples - l.i
