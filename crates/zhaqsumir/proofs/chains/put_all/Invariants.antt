-- `zhaqsumir::chains::put_all` meets its contract. The invariant: the numbers of the records before this one are put after N and the
-- levels.
-- Assumes nothing.
use mathlib.Core.Path.{◌≡◌}
use Prim.Native.Nat.{◌*◌}
use lib.ListN.{length}
use Rattle.base.specs.Lent.{placed}
use Rattle.zhaqsumir.specs.Panels.{row_numbers}
use Rattle.zhaqsumir.proofs.chains.put_all.Given as goal

abbrev pub invariant-loop-k : goal.invariant-loop-k
invariant-loop-k l =
    (length l.numbers ≡ length l.initial.numbers) × (length (row_numbers l.k l.first) ≡ 25 * l.k) × (l.numbers ≡ placed 2 (row_numbers l.k l.first) l.initial.numbers)
