-- The places of a block's LOAD rises, `rises_from`.
--     rises_more, rises_over     a sample more, and no sample left
--     stretch_rises              of a stretch: its last sample's place, then the rises after it; none where LOAD didn't rise
--     rises_half                 twice as many rises as there are come to no more than the samples, and one more where LOAD is low before them
--     rises_append               of samples in two parts
--     rises_moved                places counted from further on
-- Assumes nothing.
use mathlib.Core.Path.{◌≡◌, refl, ap, sym, ◌∙◌}
use mathlib.Core.Bool.{Bool, true, false, not, ◌&&◌}
use mathlib.Core.List.{List, [], ◌∷◌, ◌++◌, map}
use Prim.Native.Nat.{ℕ, suc, ◌+◌, ◌*◌, ◌-◌, ◌≤◌, ◌<◌}
use native.Mathlib.Numerals.{add-one}
use native.Mathlib.Omega.{arith}
use lib.ListN.{length, get_or, drop, drop_of_length-le}
use Rattle.base.specs.Bits.{bit_value}
use Rattle.base.specs.Pick.{pick}
use Rattle.base.proofs.Lists.{rest_is}
use Rattle.base.proofs.Picks.{pick_yes, pick_no, pick_ap}
use Rattle.chip.specs.Edges.{load, load_rises}
use Rattle.chain.specs.declared.Chain.{Chain}
use Rattle.chain.specs.declared.play.Stretch.{Stretch}
use Rattle.chain.specs.Blocks.{rises_from}
use Rattle.chain.specs.Stretch.{stretch_from}
use Rattle.chain.proofs.Laws.{last_of}
use Rattle.chain.proofs.Stretch.{each_stretch}

module _ (ss : List ℕ) where
  pub rises_more : (i was : ℕ) → i < length ss
      → rises_from i was (drop i ss)
      ≡ pick (load_rises was (get_or ss i 0)) (i ∷ rises_from (i + 1) (get_or ss i 0) (drop (i + 1) ss)) (rises_from (i + 1) (get_or ss i 0) (drop (i + 1) ss))
  unfolding rises_from
  rises_more i was h =
      ap (rises_from i was) (rest_is ss i 0 h)
      ∙ ap (λ m. pick (load_rises was (get_or ss i 0)) (i ∷ rises_from m (get_or ss i 0) (drop (i + 1) ss)) (rises_from m (get_or ss i 0) (drop (i + 1) ss))) (sym (add-one i))

  pub rises_over : (i was : ℕ) → length ss ≤ i → rises_from i was (drop i ss) ≡ []
  unfolding rises_from
  rises_over i was h = ap (rises_from i was) (drop_of_length-le ss h)

  -- ---- a stretch

  -- the rises from here on, by what a stretch says
  abbrev pub after_stretch : Stretch → List ℕ
  after_stretch t = pick t.rose ((t.stop - 1) ∷ rises_from t.stop t.chain.levels (drop t.stop ss)) (rises_from t.stop t.chain.levels (drop t.stop ss))

  pub stretch_rises : (n i : ℕ) (ch : Chain) (t : Stretch) → t ≡ stretch_from n i (drop i ss) ch → rises_from i ch.levels (drop i ss) ≡ after_stretch t
  stretch_rises n i ch t e =
      each_stretch n ss (λ i ch t. rises_from i ch.levels (drop i ss) ≡ after_stretch t) (λ i ch past. refl)
      (λ i ch more up.
      let back : i ≡ i + 1 - 1 = omega arith in
      rises_more i ch.levels more ∙ pick_yes _ _ up ∙ ap (λ m. m ∷ rises_from (i + 1) (get_or ss i 0) (drop (i + 1) ss)) back)
      (λ i ch t more still p. rises_more i ch.levels more ∙ pick_no _ _ still ∙ p)
      i ch
      ∙ ap after_stretch (sym e)

-- ---- any samples

pub rises_half : (place was : ℕ) (ss : List ℕ) → 2 * length (rises_from place was ss) ≤ length ss + bit_value (not (load was))
unfolding rises_from
rises_half place was [] = omega arith
rises_half place was (s ∷ ss) = go (load was) (load s) (rises_from (suc place) s ss) (rises_half (suc place) s ss)
  where
    go : (a b : Bool) (rest : List ℕ) → 2 * length rest ≤ length ss + bit_value (not b)
        → 2 * length (pick (not a && b) (place ∷ rest) rest) ≤ suc (length ss) + bit_value (not a)
    go true true rest h = omega arith
    go true false rest h = omega arith
    go false true rest h = omega arith
    go false false rest h = omega arith

pub rises_append : (place was : ℕ) (xs ys : List ℕ)
    → rises_from place was (xs ++ ys) ≡ rises_from place was xs ++ rises_from (place + length xs) (last_of was xs) ys
unfolding rises_from last_of
rises_append place was [] ys = ap (λ p. rises_from p was ys) (omega arith)
rises_append place was (x ∷ xs) ys =
    ap (λ r. pick (load_rises was x) (place ∷ r) r)
    (rises_append (suc place) x xs ys ∙ ap (λ p. rises_from (suc place) x xs ++ rises_from p (last_of x xs) ys) (omega arith))
    ∙ sym (pick_ap (λ r. r ++ rises_from (place + suc (length xs)) (last_of x xs) ys) (load_rises was x) (place ∷ rises_from (suc place) x xs) (rises_from (suc place) x xs))

pub rises_moved : (k place was : ℕ) (ss : List ℕ) → rises_from (k + place) was ss ≡ map (λ p. k + p) (rises_from place was ss)
unfolding rises_from
rises_moved k place was [] = refl
rises_moved k place was (s ∷ ss) =
    ap (λ r. pick (load_rises was s) ((k + place) ∷ r) r) (ap (λ p. rises_from p s ss) (omega arith) ∙ rises_moved k (suc place) s ss)
    ∙ sym (pick_ap (map (λ p. k + p)) (load_rises was s) (place ∷ rises_from (suc place) s ss) (rises_from (suc place) s ss))
