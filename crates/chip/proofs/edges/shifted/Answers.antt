-- `chip::edges::shifted` meets its contract: a bit shifted to place 11 is 2048 or 0.
-- Assumes nothing.
use native.Mathlib.Omega.{arith}
use Rattle.base.proofs.Cuts.{bit_value_lt}
use Rattle.chip.proofs.edges.shifted.Goals as goal

pub overflow_add-result : goal.overflow_add-result
overflow_add-result c = omega (arith, bit_value_lt c.args.din)

pub returns : goal.returns
returns c = omega (arith, bit_value_lt c.args.din)
