-- `settings::puts::row` meets its contract. The invariant is `RowLeft`: the words left, put where the loop stands, make the row.
-- Assumes nothing.
use Rattle.settings.proofs.Putting.{RowLeft}
use Rattle.settings.proofs.puts.row.Given as goal

abbrev pub invariant-loop-k : goal.invariant-loop-k
invariant-loop-k l = RowLeft l.part l.c-items l.at l.initial.words l.k l.words
