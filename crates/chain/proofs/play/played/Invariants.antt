-- `chain::play::played` meets its contract. The invariant: the rest, played from here, is the whole played.
-- Assumes nothing.
use mathlib.Core.Path.{◌≡◌}
use Prim.Native.Nat.{◌-◌}
use lib.ListN.{length, drop}
use Rattle.chain.specs.Chain.{played}
use Rattle.chain.proofs.play.played.Given as goal

abbrev pub invariant-loop-i : goal.invariant-loop-i
invariant-loop-i l = played l.n (drop l.i l.samples) l.next ≡ played l.n l.samples l.initial.next

abbrev pub decreases-loop-i : goal.decreases-loop-i
decreases-loop-i l = length l.samples - l.i
