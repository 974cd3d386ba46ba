-- `settings::puts::display_byte` meets its contract: MODE-8 + LIMIT is a byte.
-- Assumes nothing.
use mathlib.Core.Path.{ap}
use Prim.Native.Nat.{◌+◌, ◌*◌}
use native.Mathlib.Omega.{arith}
use Rattle.base.proofs.Cuts.{bit_value_lt}
use Rattle.settings.proofs.puts.display_byte.Goals as goal

pub overflow_cast-result : goal.overflow_cast-result
overflow_cast-result c = record { fits = omega (arith, c.bit_value.ensures, bit_value_lt c.args.d.mode) }

pub overflow_mul-result : goal.overflow_mul-result
overflow_mul-result c = record { fits = omega (arith, c.bit_value.ensures, bit_value_lt c.args.d.mode) }

pub overflow_add-result : goal.overflow_add-result
overflow_add-result c = record { fits = omega (arith, c.bit_value.ensures, bit_value_lt c.args.d.mode, c.requires) }

pub returns : goal.returns
returns c = ap (λ b. 8 * b + c.args.d.limit) c.bit_value.ensures
