-- `chip::scans::packed` meets its contract: each byte of the number is the one that it was read from.
-- Assumes nothing.
use Rattle.std.proofs.Common.{◌≡◌, ap, ap₂, sym, ◌∙◌, ℕ, ◌+◌, ◌*◌, ◌/◌, ◌%◌, ◌<◌, List, get_or, rules, arith, w64}
use Rattle.std.specs.Int.{to_le_bytes}
use Rattle.std.proofs.lemmas.Nat.{le_bytes_8}
use Rattle.base.specs.Bits.{cut, bit}
use Rattle.base.proofs.Tests.{each_below}
use Rattle.base.proofs.Bits.{byte_of_bit}
use Rattle.base.proofs.Cuts.{cut_zero}
use Rattle.chip.proofs.scans.packed.Goals as goal

-- the bytes of a number, as fields of it
apart : (n : ℕ) (bytes : List ℕ) → to_le_bytes w64 n ≡ bytes → (d : ℕ) → d < 8 → cut n (8 * d) 8 ≡ get_or bytes d 0
apart n bytes back =
    let byte : (d : ℕ) → get_or (to_le_bytes w64 n) d 0 ≡ get_or bytes d 0 = λ d. ap (λ bs. get_or bs d 0) back in
    each_below (λ d. cut n (8 * d) 8 ≡ get_or bytes d 0) 8
    (byte 7, (byte 6, (byte 5, (byte 4, (byte 3, (byte 2, (byte 1, (cut_zero n 8 ∙ byte 0, tt))))))))

same_dig : (dig seg : ℕ) → dig < 8 → dig ≡ (8 * seg + dig) % 8
same_dig dig seg h = omega arith

same_seg : (dig seg : ℕ) → dig < 8 → seg ≡ (8 * seg + dig) / 8
same_seg dig seg h = omega arith

pub returns : goal.returns
returns c =
    let bytes = c.args.bytes in
    let n = c.from_le_bytes.result in
    λ dig seg hd hs.
    sym (byte_of_bit n dig seg hs)
    ∙ ap₂ bit
    (apart n bytes (le_bytes_8 bytes n (search rules) (search rules) c.from_le_bytes.ensures) dig hd ∙ ap (λ d. get_or bytes d 0) (same_dig dig seg hd))
    (same_seg dig seg hd)
