-- `ch450::play::all_played` meets its contract. The invariant: the rest, played from here, is the whole played; the reads so far and those
-- of the rest are the whole's; and there are no more of them than samples so far.
-- Assumes nothing.
use mathlib.Core.Path.{◌≡◌}
use Prim.Native.Nat.{◌+◌, ◌-◌, ◌≤◌}
use lib.ListN.{length, drop}
use Rattle.ch450.specs.Samples.{played, reads_in}
use Rattle.ch450.proofs.play.all_played.Given as goal

abbrev pub invariant-loop-i : goal.invariant-loop-i
invariant-loop-i l =
    (played (drop l.i l.samples) l.next ≡ played l.samples l.initial.next)
    × (l.reads + reads_in (drop l.i l.samples) l.next ≡ reads_in l.samples l.initial.next)
    × (l.reads ≤ l.i)
    × (l.i ≤ length l.samples)

abbrev pub decreases-loop-i : goal.decreases-loop-i
decreases-loop-i l = length l.samples - l.i
