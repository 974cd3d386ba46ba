-- `tallies::adds::rise` meets its contract. The invariant is `Rising`: the chips done so far, and the rest counted, are the whole counted.
-- Assumes nothing.
use Rattle.tallies.proofs.Rises.{Rising}
use Rattle.tallies.proofs.adds.rise.Given as goal

abbrev pub invariant-loop-k : goal.invariant-loop-k
invariant-loop-k l = Rising l.n l.fn.before.chips l.fn.after.chips l.initial.chips l.chips l.k
