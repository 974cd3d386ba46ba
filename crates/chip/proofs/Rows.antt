-- The smallest closed address by rows: of the lowest SEG that has a contact, the lowest DIG.
--     row_closed      a bit of a row is a contact
--     seg_row         a bit of the SEGs tells whether a row is empty
--     row_none        no SEG has a contact: no address is closed
--     row_lowest      where some SEG has a contact, the lowest DIG of the lowest such SEG is the result
-- Assumes nothing.
use mathlib.Core.Path.{◌≡◌, refl, ap, sym, ◌∙◌}
use mathlib.Core.Bool.{true, false, not, false≢true}
use mathlib.Core.List.{List}
use Prim.Native.Nat.{ℕ, ◌+◌, ◌*◌, ◌/◌, ◌%◌, ◌<◌, zero-le}
use native.Mathlib.Nat.{lt_trans, mod-lt}
use native.Mathlib.Omega.{arith}
use lib.Dec.{eqb, lit<}
use lib.Count.{count_trailing_zeros}
use borrow.Author.Tests.{eq-eqb, eqb-true, not-false}
use Rattle.base.specs.Bits.{bit}
use Rattle.base.proofs.Bytes.{byte_below, byte_bit}
use Rattle.base.proofs.Cuts.{cut_past}
use Rattle.base.proofs.Tests.{by_order}
use Rattle.chip.specs.Masks.{Packs, row_of, closed_segs, lowest_in}
use Rattle.chip.specs.Scans.{closed, result}
use Rattle.chip.proofs.Closed.{result_is, result_none}
use Rattle.chip.proofs.Masks.{lowest_set}

-- 0 has no bit
zero_bit : (k : ℕ) → bit 0 k ≡ false
zero_bit k = ap (λ x. eqb x 1) (cut_past 0 0 k 1 (lit< tt) zero-le)

module _ (bytes : List ℕ) (contacts : ℕ) (packs : Packs bytes contacts) where
  -- a bit of a row is a contact
  row_closed : (seg dig : ℕ) → seg < 8 → dig < 8 → bit (row_of contacts seg) dig ≡ closed bytes (8 * seg + dig)
  row_closed seg dig hs hd = byte_bit (λ d. bit contacts (8 * d + seg)) dig hd ∙ packs dig seg hd hs

  -- a bit of the SEGs tells of a row
  seg_row : (seg : ℕ) → seg < 8 → bit (closed_segs contacts) seg ≡ not (eqb (row_of contacts seg) 0)
  seg_row = byte_bit (λ seg. not (eqb (row_of contacts seg) 0))

  -- an address is its SEG and its DIG
  split : (a : ℕ) → 8 * (a / 8) + a % 8 ≡ a
  split a = omega arith

  -- a contact, by a row's bit
  in_row : (seg a : ℕ) → seg < 8 → a / 8 ≡ seg → closed bytes a ≡ bit (row_of contacts seg) (a % 8)
  in_row seg a hs same =
      ap (closed bytes) (sym (split a) ∙ ap (λ s. 8 * s + a % 8) same) ∙ sym (row_closed seg (a % 8) hs (mod-lt a (lit< tt)))

  -- an empty row has no contact
  row_open : (seg a : ℕ) → seg < 8 → bit (closed_segs contacts) seg ≡ false → a / 8 ≡ seg → closed bytes a ≡ false
  row_open seg a hs off same =
      let empty : row_of contacts seg ≡ 0 = eqb-true (row_of contacts seg) 0 (not-false (eqb (row_of contacts seg) 0) (sym (seg_row seg hs) ∙ off)) in
      in_row seg a hs same ∙ ap (λ row. bit row (a % 8)) empty ∙ zero_bit (a % 8)

  pub row_none : closed_segs contacts ≡ 0 → result bytes ≡ 64
  row_none none =
      result_none bytes (λ a h. row_open (a / 8) a (omega arith) (ap (λ segs. bit segs (a / 8)) none ∙ zero_bit (a / 8)) refl)

  module _ (some : closed_segs contacts ≡ 0 → ⊥) where
    -- the lowest SEG that has a contact, and the lowest DIG of its row
    abbrev seg : ℕ
    seg = count_trailing_zeros 8 (closed_segs contacts)

    abbrev dig : ℕ
    dig = count_trailing_zeros 8 (row_of contacts seg)

    lowest_seg : (seg < 8) × (bit (closed_segs contacts) seg ≡ true) × ((j : ℕ) → j < seg → bit (closed_segs contacts) j ≡ false)
    lowest_seg = lowest_set (closed_segs contacts) (byte_below (λ s. not (eqb (row_of contacts s) 0))) some

    seg_lt : seg < 8
    seg_lt = lowest_seg.0

    -- the row of a SEG that has a contact isn't empty
    row_some : row_of contacts seg ≡ 0 → ⊥
    row_some empty =
        false≢true (sym (seg_row seg seg_lt ∙ ap not (eq-eqb (row_of contacts seg) 0 empty)) ∙ lowest_seg.1)

    lowest_dig : (dig < 8) × (bit (row_of contacts seg) dig ≡ true) × ((j : ℕ) → j < dig → bit (row_of contacts seg) j ≡ false)
    lowest_dig = lowest_set (row_of contacts seg) (byte_below (λ d. bit contacts (8 * d + seg))) row_some

    dig_lt : dig < 8
    dig_lt = lowest_dig.0

    -- no address below is closed: its SEG is a lower one, or its DIG is
    none_below : (b : ℕ) → b < 8 * seg + dig → closed bytes b ≡ false
    none_below b h =
        let ls = seg_lt in
        let ld = dig_lt in
        by_order seg (b / 8)
        (λ ge.
        let same : b / 8 ≡ seg = omega arith in
        let lower : b % 8 < dig = omega arith in
        in_row seg b seg_lt same ∙ lowest_dig.2 (b % 8) lower)
        (λ lt. row_open (b / 8) b (lt_trans lt seg_lt) (lowest_seg.2 (b / 8) lt) refl)

    pub row_lowest : result bytes ≡ lowest_in contacts (closed_segs contacts)
    row_lowest =
        let ls = seg_lt in
        let ld = dig_lt in
        result_is bytes (8 * seg + dig) (omega arith) (sym (row_closed seg dig seg_lt dig_lt) ∙ lowest_dig.1) none_below
