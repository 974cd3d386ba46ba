-- `zhaqsumir::chains::chain_of` meets its contract. The invariant: the chips before this one are those that the numbers stand for.
-- Assumes nothing.
use mathlib.Core.Path.{◌≡◌}
use Prim.Native.Nat.{ℕ, ◌<◌}
use lib.ListN.{get_or}
use Rattle.chip.specs.Record.{reset_chip}
use Rattle.zhaqsumir.specs.Panels.{chip_of, from_chip}
use Rattle.zhaqsumir.proofs.chains.chain_of.Given as goal

abbrev pub invariant-loop-k : goal.invariant-loop-k
invariant-loop-k l = (j : ℕ) → j < l.k → get_or l.first j reset_chip ≡ chip_of (from_chip j l.numbers)
