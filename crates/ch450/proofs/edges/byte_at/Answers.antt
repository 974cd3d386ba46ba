-- `ch450::edges::byte_at` meets its contract: a mask of eight bits is a remainder.
-- Assumes nothing.
use Prim.Native.Nat.{◌/◌, ◌^◌}
use lib.Bits.{and_mask, mask_lt}
use Rattle.ch450.proofs.edges.byte_at.Goals as goal

pub overflow_cast-result : goal.overflow_cast-result
overflow_cast-result c = record { fits = mask_lt (c.args.bits / 2 ^ c.args.at) 8 }

pub returns : goal.returns
returns c = and_mask (c.args.bits / 2 ^ c.args.at) 8
