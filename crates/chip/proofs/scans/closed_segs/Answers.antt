-- `chip::scans::closed_segs` meets its contract: the bytes laid over each other have a bit where some byte has it.
-- Assumes nothing.
use mathlib.Core.Path.{◌∙◌}
use Prim.Native.Nat.{◌+◌, ◌*◌}
use lib.Bits.{mask_lt}
use Rattle.base.specs.Bits.{bit}
use Rattle.base.proofs.Bits.{low_byte}
use Rattle.chip.proofs.Masks.{gathered, gathered_bit, any_set}
use Rattle.chip.proofs.scans.closed_segs.Goals as goal

pub overflow_cast-result : goal.overflow_cast-result
overflow_cast-result c = record { fits = mask_lt (gathered 8 c.args.contacts) 8 }

pub returns : goal.returns
returns c =
    let contacts = c.args.contacts in
    low_byte (gathered 8 contacts) _ (λ seg h. gathered_bit 8 contacts seg ∙ any_set (λ dig. bit contacts (8 * dig + seg)))
