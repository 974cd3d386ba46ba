-- `chip::scans::row` meets its contract: of each byte the mask keeps one bit, and moved together each comes to its own place.
-- Assumes nothing.
use mathlib.Core.Path.{◌≡◌, ap, ap₂, ◌∙◌}
use mathlib.Core.Bool.{◌&&◌}
use Prim.Native.Nat.{ℕ, ◌+◌, ◌*◌, ◌/◌, ◌^◌}
use native.Mathlib.Omega.{arith}
use lib.Dec.{eqb}
use lib.Bits.{bit_and, mask_lt}
use Rattle.base.specs.Bits.{bit}
use Rattle.base.proofs.Bits.{and_bit, shr_bit, low_byte}
use Rattle.chip.proofs.Masks.{gathered, gathered_bit, any_same, only_one, mask_bit}
use Rattle.chip.proofs.scans.row.Goals as goal

abbrev kept : ℕ → ℕ → ℕ
kept contacts seg = bit_and (contacts / 2 ^ seg) 0x0101010101010101

-- moved down by 7 for each byte, the bit of byte e comes to place e
together : (dig seg : ℕ) → seg + (7 * dig + dig) ≡ 8 * dig + seg
together dig seg = omega arith

pub overflow_cast-result : goal.overflow_cast-result
overflow_cast-result c = record { fits = mask_lt (gathered 7 (kept c.args.contacts c.args.seg)) 8 }

pub returns : goal.returns
returns c =
    let contacts = c.args.contacts in
    let seg = c.args.seg in
    low_byte (gathered 7 (kept contacts seg)) _
    (λ dig h.
    gathered_bit 7 (kept contacts seg) dig
    ∙ any_same (λ e. bit (kept contacts seg) (7 * e + dig)) (λ e. eqb e dig && bit contacts (seg + (7 * e + dig)))
    (λ e l. and_bit (contacts / 2 ^ seg) 0x0101010101010101 (7 * e + dig) ∙ ap₂ ◌&&◌ (mask_bit e dig l h) (shr_bit contacts seg (7 * e + dig)))
    ∙ only_one (λ e. bit contacts (seg + (7 * e + dig))) dig h
    ∙ ap (bit contacts) (together dig seg))
