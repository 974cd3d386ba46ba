-- The numbers of a panel's chips from N on are not looked at.
--     rest_unread      panels that agree in N, the levels and the numbers of the chips below N pass the same tests and stand for the same
--                      chain, from which every answer is made
-- Assumes nothing.
use mathlib.Core.Path.{◌≡◌, refl, ap, ap₂, sym, ◌∙◌}
use mathlib.Core.Bool.{◌&&◌}
use mathlib.Core.List.{List, [], ◌∷◌}
use Prim.Native.Nat.{ℕ, zero, suc, ◌+◌, ◌*◌, ◌%◌, ◌<◌}
use native.Mathlib.Omega.{arith}
use borrow.Author.Tests.{lt-ltb, le-ltb}
use lib.Dec.{leb}
use lib.ListN.{get_or, take}
use lib.Seq.{get_or-take, get_or-drop}
use Rattle.base.specs.Below.{below}
use Rattle.base.specs.Pick.{pick}
use Rattle.base.specs.Refusals.{done, refused}
use Rattle.base.proofs.Picks.{pick_yes, pick_no}
use Rattle.base.proofs.Tests.{by_order}
use Rattle.chain.specs.Chain.{chip_count}
use Rattle.zhaqsumir.specs.Panels.{chip_fits, chip_of, from_chip, count_in, chip_fits_in, tested_in, record_in, chain_of}
use Rattle.zhaqsumir.proofs.Counts.{at_places}
use Rattle.zhaqsumir.proofs.Fitting.{below_same}

places_same : {A : Type 0} (f g : ℕ → A) (n : ℕ) → ((k : ℕ) → k < n → f k ≡ g k) → at_places f n ≡ at_places g n
places_same f g zero each = refl
places_same f g (suc n) each = ap₂ ◌∷◌ (each 0 (omega arith)) (places_same (λ k. f (suc k)) (λ k. g (suc k)) n (λ k h. each (suc k) (omega arith)))

-- of a chip's numbers 25 are looked at
module _ (xs ys : List ℕ) (same : (j : ℕ) → j < 25 → get_or xs j 0 ≡ get_or ys j 0) where
  chip_same : chip_of xs ≡ chip_of ys
  unfolding chip_of
  chip_same = ap chip_of (places_same (λ j. get_or xs j 0) (λ j. get_or ys j 0) 25 same)

  fits_same : chip_fits xs ≡ chip_fits ys
  unfolding chip_fits
  fits_same = ap chip_fits (places_same (λ j. get_or xs j 0) (λ j. get_or ys j 0) 25 same)

module _ (ns ms : List ℕ) (agree : take (2 + 25 * count_in ns) ns ≡ take (2 + 25 * count_in ns) ms) where
  at : (j : ℕ) → j < 2 + 25 * count_in ns → get_or ns j 0 ≡ get_or ms j 0
  at j h = sym (get_or-take (2 + 25 * count_in ns) ns j 0 h) ∙ ap (λ xs. get_or xs j 0) agree ∙ get_or-take (2 + 25 * count_in ns) ms j 0 h

  -- the numbers of a chip below N
  in_chip : (k : ℕ) → k < count_in ns → (j : ℕ) → j < 25 → get_or (from_chip k ns) j 0 ≡ get_or (from_chip k ms) j 0
  in_chip k h j l = get_or-drop (2 + 25 * k) ns j 0 ∙ at (2 + 25 * k + j) (omega arith) ∙ sym (get_or-drop (2 + 25 * k) ms j 0)

  count_same : count_in ns ≡ count_in ms
  count_same = at 0 (omega arith)

  each_same : (k : ℕ) → record_in ns k ≡ record_in ms k
  each_same k =
      let same = count_same in
      by_order (count_in ns) k
      (λ h. pick_no _ _ (le-ltb k (count_in ns) h) ∙ sym (pick_no _ _ (le-ltb k (count_in ms) (omega arith))))
      (λ h.
      pick_yes _ _ (lt-ltb k (count_in ns) h)
      ∙ chip_same (from_chip k ns) (from_chip k ms) (in_chip k h)
      ∙ sym (pick_yes _ _ (lt-ltb k (count_in ms) (omega arith))))

  pub rest_unread : (tested_in ns ≡ tested_in ms) × (chain_of ns ≡ chain_of ms)
  unfolding tested_in chain_of
  rest_unread =
      let fits : below (chip_fits_in ns) (count_in ns) ≡ below (chip_fits_in ms) (count_in ms) = below_same (chip_fits_in ns) (chip_fits_in ms) (count_in ns) (λ k h. fits_same (from_chip k ns) (from_chip k ms) (in_chip k h)) ∙ ap (below (chip_fits_in ms)) count_same in
      let levels = at 1 (omega arith) in (
        λ i. pick (chip_count (count_same i)) (pick (leb (levels i) 255 && fits i) (done tt) (refused 12 0)) (refused 3 0),
        λ i. record {
          chips = each_same 0 i ∷ each_same 1 i ∷ each_same 2 i ∷ each_same 3 i ∷ each_same 4 i ∷ each_same 5 i ∷ each_same 6 i ∷ each_same 7 i ∷ [];
          levels = levels i % 256;
        },
      )
