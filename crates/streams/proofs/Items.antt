-- The items of a raw stream: what a byte does to one that isn't whole yet, and what its bytes say then.
--     Begun, begun_none, begun_one                   nothing of an item is held, or a scan's first byte and fewer than eight more
--     first_sample, first_scan, first_wrong          an item's first byte, by what it is
--     begun_more                                     a byte of a scan that isn't its last
--     scan_last                                      the last
-- Assumes nothing.
use Rattle.std.proofs.Common.{◌≡◌, ℕ, suc, ◌+◌, ◌-◌, ◌%◌, ◌<◌, ◌≤◌, true, false, T, ltb, leb, List, [], ◌∷◌, ◌++◌, length, get_or, take, drop, sym, refl, ap, ◌∙◌, subst, arith, ltb→lt, leb→le, length-append, le-ltb, lt-ltb}
use Rattle.base.specs.Pick.{pick}
use Rattle.base.proofs.Picks.{pick_yes, pick_no}
use Rattle.base.proofs.Tests.{and_left, and_right}
use Rattle.chain.specs.declared.Chain.{Chain}
use Rattle.chain.specs.Chain.{chip_count}
use Rattle.chain.proofs.Tested.{count_high}
use Rattle.capture.specs.declared.Report.{Report}
use Rattle.reads.specs.declared.Reader.{Reader}
use Rattle.reads.specs.Reads.{is_sample}
use Rattle.streams.specs.declared.State.{State}
use Rattle.streams.specs.declared.held.Held.{Held}
use Rattle.streams.specs.Raw.{Item, sample, scanned, whole, begun, wrong, is_scan, item_of}
use Rattle.streams.specs.Steps.{raw_refused, raw_held, raw_taken, scan_held, raw_byte}
use Rattle.streams.proofs.Holds.{HoldsLine, holds_empty, holds_some}
use Rattle.streams.proofs.RawSteps.{by_items, item_sample, item_scan, item_other, item_more, item_whole}
use Rattle.streams.proofs.Written.{stands}

-- ---- what is held of an item

-- nothing, or a scan's first byte and fewer than eight more
pub Begun : ℕ → List ℕ → Type 0
Begun n [] = Unit {0}
Begun n (f ∷ h) = (is_sample f ≡ false) × (is_scan n f ≡ true) × (length h < 8)

pub begun_none : (n : ℕ) → Begun n []
unfolding Begun
begun_none n = tt

pub begun_one : (n b : ℕ) → is_sample b ≡ false → is_scan n b ≡ true → Begun n (b ∷ [])
unfolding Begun
begun_one n b s k = (s, k, omega arith)

-- eight bytes at the front of an array
eight_held : (xs : List ℕ) → 8 ≤ length xs
    → take 8 xs ≡ get_or xs 0 0 ∷ get_or xs 1 0 ∷ get_or xs 2 0 ∷ get_or xs 3 0 ∷ get_or xs 4 0 ∷ get_or xs 5 0 ∷ get_or xs 6 0 ∷ get_or xs 7 0 ∷ []
eight_held [] l = absurd (omega arith)
eight_held (a ∷ []) l = absurd (omega arith)
eight_held (a ∷ b ∷ []) l = absurd (omega arith)
eight_held (a ∷ b ∷ c ∷ []) l = absurd (omega arith)
eight_held (a ∷ b ∷ c ∷ d ∷ []) l = absurd (omega arith)
eight_held (a ∷ b ∷ c ∷ d ∷ e ∷ []) l = absurd (omega arith)
eight_held (a ∷ b ∷ c ∷ d ∷ e ∷ f ∷ []) l = absurd (omega arith)
eight_held (a ∷ b ∷ c ∷ d ∷ e ∷ f ∷ g ∷ []) l = absurd (omega arith)
eight_held (a ∷ b ∷ c ∷ d ∷ e ∷ f ∷ g ∷ h ∷ more) l = refl

-- a scan by its first eight bytes and its last
abbrev scan_by : ℕ → List ℕ → Item
scan_by b xs = scanned (get_or xs 0 0 % 128) (drop 1 xs ++ b ∷ [])

-- a scan's first byte holds the chip
chip_held : (n f : ℕ) → T (chip_count n) → T (is_scan n f) → f % 128 ≡ f - 0x80
chip_held n f c k =
    let low = leb→le 0x80 f (and_left (leb 0x80 f) (ltb (f - 0x80) n) k) in
    let high = ltb→lt (f - 0x80) n (and_right (leb 0x80 f) (ltb (f - 0x80) n) k) in
    let few = count_high n c in
    omega arith

module _ (what : Report) (n : ℕ) (some : chip_count n ≡ true) (ch : Chain) (rd : Reader) (offset : ℕ) (held : Held) (b : ℕ) where
  -- the state
  abbrev s : State
  s = stands n ch rd offset held

  -- ---- the first byte of an item

  module _ (p : HoldsLine held []) where
    pub first_sample : is_sample b ≡ true
        → (raw_byte what s b ≡ raw_taken what s (sample b)) × (item_of n (b ∷ []) ≡ whole (sample b))
    unfolding item_of
    first_sample y = (by_items what s b some ∙ item_sample what s b (holds_empty p) y, pick_yes _ _ y)

    pub first_scan : is_sample b ≡ false → is_scan n b ≡ true
        → (raw_byte what s b ≡ raw_held s b) × (item_of n (b ∷ []) ≡ begun)
    unfolding item_of
    first_scan y k = (by_items what s b some ∙ item_scan what s b (holds_empty p) y k, pick_no _ _ y ∙ pick_yes _ _ k)

    pub first_wrong : is_sample b ≡ false → is_scan n b ≡ false
        → (raw_byte what s b ≡ raw_refused s) × (item_of n (b ∷ []) ≡ wrong)
    unfolding item_of
    first_wrong y k = (by_items what s b some ∙ item_other what s b (holds_empty p) y k, pick_no _ _ y ∙ pick_no _ _ k)

  -- ---- a later one

  module _ (f : ℕ) (h : List ℕ) (p : HoldsLine held (f ∷ h)) (q : Begun n (f ∷ h)) where
    counted : length h < 8 → held.count ≡ suc (length h)
    counted l = p.count (omega arith)

    of_scan : item_of n (f ∷ (h ++ b ∷ [])) ≡ pick (ltb (length (h ++ b ∷ [])) 8) begun (whole (scanned (f - 0x80) (h ++ b ∷ [])))
    unfolding item_of Begun
    of_scan = pick_no _ _ q.0 ∙ pick_yes _ _ q.1

    more_length : length (h ++ b ∷ []) ≡ length h + 1
    more_length = length-append h (b ∷ [])

    pub begun_more : length h < 7
        → (raw_byte what s b ≡ raw_held s b) × (item_of n (f ∷ (h ++ b ∷ [])) ≡ begun) × Begun n (f ∷ (h ++ b ∷ []))
    unfolding Begun
    begun_more l =
        let c = counted (omega arith) in (
          by_items what s b some ∙ item_more what s b (holds_some f h p) (omega arith),
          of_scan ∙ pick_yes _ _ (lt-ltb (length (h ++ b ∷ [])) 8 (omega (arith, more_length))),
          (q.0, q.1, omega (arith, more_length)),
        )

    pub scan_last : 7 ≤ length h
        → (raw_byte what s b ≡ raw_taken what s (scanned (f - 0x80) (h ++ b ∷ []))) × (item_of n (f ∷ (h ++ b ∷ [])) ≡ whole (scanned (f - 0x80) (h ++ b ∷ [])))
    unfolding Begun
    scan_last l =
        let below : length h < 8 = q.2 in
        let c = counted below in
        let z = p.size in
        let eight : suc (length h) ≡ 8 = omega arith in
        let front : f ∷ h ≡ take 8 held.bytes = sym (p.front (omega arith)) ∙ ap (λ m. take m held.bytes) eight in
        let held_as : scan_held held b ≡ scanned (f - 0x80) (h ++ b ∷ []) =
        ap (scan_by b) (sym (front ∙ eight_held held.bytes (omega arith)))
        ∙ ap (λ m. scanned m (h ++ b ∷ [])) (chip_held n f (subst T (sym some) tt) (subst T (sym q.1) tt)) in (
          by_items what s b some ∙ item_whole what s b (holds_some f h p) (omega arith) ∙ ap (raw_taken what s) held_as,
          of_scan ∙ pick_no _ _ (le-ltb (length (h ++ b ∷ [])) 8 (omega (arith, more_length))),
        )
