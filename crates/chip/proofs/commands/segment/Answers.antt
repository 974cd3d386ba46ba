-- `chip::commands::segment` meets its contract: one digit's byte changes, or none.
-- Assumes nothing.
use Rattle.std.proofs.Common.{ℕ, ◌<◌, sym, rules, arith, Fits, w8}
use Rattle.chip.proofs.Digits.{segment_none, segment_at}
use Rattle.chip.proofs.commands.segment.Goals as goal

fits_byte : {n : ℕ} → Fits w8 n → n < 256
fits_byte f = f.fits

pub returns-then-addr-gt63 : goal.returns-then-addr-gt63
returns-then-addr-gt63 c =
    let a = c.args in
    sym (segment_none a.on a.addr a.digits (search rules) (λ dig h. fits_byte (search rules)) c.if-addr-gt63.true)

pub returns : goal.returns
returns c =
    let a = c.args in
    sym
    (segment_at a.on a.addr a.digits (search rules) (λ dig h. fits_byte (search rules)) c.from-dig.result c.field-2.result (omega arith) (omega arith)
    c.with_bit.result c.with_bit.ensures)
