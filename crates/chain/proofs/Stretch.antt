-- Samples up to and with the next LOAD rise, `stretch_from`, from a place of them on.
--     stretch_more, stretch_step, stretch_over     a sample more, and no sample left
--     each_stretch                                 what holds at an end and at a rise, and before a sample if after it, holds of a stretch
--     stretch_fewer                                fewer samples are left after a stretch
--     stretch_plays                                a stretch, and then the rest, is the whole
--     stretch_chips                                a number of chips above those there are is as good as theirs
-- Assumes nothing.
use mathlib.Core.Path.{◌≡◌, refl, ap, sym, subst, ◌∙◌}
use mathlib.Core.Bool.{Bool, true, false}
use mathlib.Core.List.{List, [], ◌∷◌}
use Prim.Native.Nat.{ℕ, zero, suc, ◌+◌, ◌-◌, ◌≤◌, ◌<◌}
use native.Mathlib.Nat.{le_of_suc-le-suc}
use native.Mathlib.Numerals.{add-one}
use native.Mathlib.Omega.{arith}
use lib.ListN.{length, get_or, drop, drop_of_length-le}
use Rattle.base.specs.Pick.{pick}
use Rattle.base.proofs.Picks.{pick_no, pick_cases}
use Rattle.base.proofs.Tests.{by_order}
use Rattle.base.proofs.Lists.{rest_is}
use Rattle.chip.specs.declared.Chip.{Chip}
use Rattle.chip.specs.Commands.{dout}
use Rattle.chip.specs.Edges.{din, load_rises, stepped}
use Rattle.chain.specs.declared.Chain.{Chain}
use Rattle.chain.specs.declared.play.Stretch.{Stretch}
use Rattle.chain.specs.Chain.{stepped_row, stepped_chain, played}
use Rattle.chain.specs.Stretch.{stretch_from}
use Rattle.chain.proofs.Rest.{row_length, play_more}

-- no sample is left, and LOAD did not rise
abbrev pub ended : ℕ → Chain → Stretch
ended place ch = record { chain = ch; stop = place; rose = false }

-- LOAD rose at the last sample
abbrev pub risen : ℕ → Chain → Stretch
risen place ch = record { chain = ch; stop = place; rose = true }

module _ (n : ℕ) (ss : List ℕ) where
  -- ---- a sample more

  pub stretch_more : (i : ℕ) (ch : Chain) → i < length ss
      → stretch_from n i (drop i ss) ch
      ≡ pick (load_rises ch.levels (get_or ss i 0)) (risen (i + 1) (stepped_chain n (get_or ss i 0) ch)) (stretch_from n (i + 1) (drop (i + 1) ss) (stepped_chain n (get_or ss i 0) ch))
  unfolding stretch_from
  stretch_more i ch h =
      ap (λ r. stretch_from n i r ch) (rest_is ss i 0 h)
      ∙ ap (λ m. pick (load_rises ch.levels (get_or ss i 0)) (risen m (stepped_chain n (get_or ss i 0) ch)) (stretch_from n m (drop (i + 1) ss) (stepped_chain n (get_or ss i 0) ch)))
      (sym (add-one i))

  pub stretch_step : (i : ℕ) (ch next : Chain) → i < length ss → load_rises ch.levels (get_or ss i 0) ≡ false
      → next.chips ≡ stepped_row n ch.levels (get_or ss i 0) (din (get_or ss i 0)) ch.chips
      → next.levels ≡ get_or ss i 0
      → stretch_from n (i + 1) (drop (i + 1) ss) next ≡ stretch_from n i (drop i ss) ch
  stretch_step i ch next h still cs l =
      ap (stretch_from n (i + 1) (drop (i + 1) ss)) (λ j. record { chips = cs j; levels = l j })
      ∙ sym (stretch_more i ch h ∙ pick_no _ _ still)

  pub stretch_over : (i : ℕ) (ch : Chain) → length ss ≤ i → stretch_from n i (drop i ss) ch ≡ ended i ch
  unfolding stretch_from
  stretch_over i ch h = ap (λ r. stretch_from n i r ch) (drop_of_length-le ss h)

  -- ---- what holds of a stretch

  module _
      (P : ℕ → Chain → Stretch → Type 0)
      (none : (i : ℕ) (ch : Chain) → length ss ≤ i → P i ch (ended i ch))
      (rise : (i : ℕ) (ch : Chain) → i < length ss → load_rises ch.levels (get_or ss i 0) ≡ true → P i ch (risen (i + 1) (stepped_chain n (get_or ss i 0) ch)))
      (quiet : (i : ℕ) (ch : Chain) (t : Stretch) → i < length ss → load_rises ch.levels (get_or ss i 0) ≡ false → P (i + 1) (stepped_chain n (get_or ss i 0) ch) t → P i ch t)
    where
      stretch_of : (left i : ℕ) (ch : Chain) → length ss ≤ i + left → P i ch (stretch_from n i (drop i ss) ch)
      stretch_of zero i ch h = let past : length ss ≤ i = omega arith in subst (P i ch) (sym (stretch_over i ch past)) (none i ch past)
      stretch_of (suc left) i ch h =
          by_order (length ss) i (λ past. subst (P i ch) (sym (stretch_over i ch past)) (none i ch past))
          (λ more.
          subst (P i ch) (sym (stretch_more i ch more))
          (pick_cases (P i ch) (load_rises ch.levels (get_or ss i 0)) (rise i ch more)
          (λ still. quiet i ch _ more still (stretch_of left (i + 1) (stepped_chain n (get_or ss i 0) ch) (omega arith)))))

      pub each_stretch : (i : ℕ) (ch : Chain) → P i ch (stretch_from n i (drop i ss) ch)
      each_stretch i ch = stretch_of (length ss) i ch (omega arith)

  -- a stretch passes one sample at least, if there is one
  stretch_goes : (i : ℕ) (ch : Chain) → i < length ss → i < (stretch_from n i (drop i ss) ch).stop
  stretch_goes i ch =
      (each_stretch (λ i ch t. (i ≤ t.stop) × (i < length ss → i < t.stop)) (λ i ch past. (omega arith, λ h. absurd (omega arith)))
      (λ i ch more up. (omega arith, λ h. omega arith))
      (λ i ch t more still p. let past = p.0 in (omega arith, λ h. omega arith))
      i ch).1

  pub stretch_fewer : (i : ℕ) (ch : Chain) (t : Stretch) → t ≡ stretch_from n i (drop i ss) ch → i < length ss → length ss - t.stop < length ss - i
  stretch_fewer i ch t e h = omega (arith, ap (λ s. s.stop) e, stretch_goes i ch h)

  pub stretch_plays : (i : ℕ) (ch : Chain) (t : Stretch) → t ≡ stretch_from n i (drop i ss) ch → played n (drop t.stop ss) t.chain ≡ played n (drop i ss) ch
  stretch_plays i ch t e =
      ap (λ s. played n (drop s.stop ss) s.chain) e
      ∙ each_stretch (λ i ch t. played n (drop t.stop ss) t.chain ≡ played n (drop i ss) ch) (λ i ch past. refl)
      (λ i ch more up. sym (play_more n ss i ch more))
      (λ i ch t more still p. p ∙ sym (play_more n ss i ch more))
      i ch

-- ---- the number of chips

row_chips : (n m was now : ℕ) (b : Bool) (cs : List Chip) → length cs ≤ n → length cs ≤ m → stepped_row n was now b cs ≡ stepped_row m was now b cs
unfolding stepped_row
row_chips zero zero was now b [] h l = refl
row_chips zero (suc m) was now b [] h l = refl
row_chips (suc n) zero was now b [] h l = refl
row_chips (suc n) (suc m) was now b [] h l = refl
row_chips zero m was now b (c ∷ cs) h l = absurd (omega arith)
row_chips (suc n) zero was now b (c ∷ cs) h l = absurd (omega arith)
row_chips (suc n) (suc m) was now b (c ∷ cs) h l =
    ap (λ r. stepped was now b c ∷ r) (row_chips n m was now (dout c) cs (le_of_suc-le-suc h) (le_of_suc-le-suc l))

pub stretch_chips : (n m place : ℕ) (ss : List ℕ) (ch : Chain) → length ch.chips ≤ n → length ch.chips ≤ m
    → stretch_from n place ss ch ≡ stretch_from m place ss ch
unfolding stretch_from
stretch_chips n m place [] ch h l = refl
stretch_chips n m place (s ∷ ss) ch h l =
    ap (λ (cs : List Chip). pick (load_rises ch.levels s) (risen (suc place) (record { chips = cs; levels = s })) (stretch_from n (suc place) ss (record { chips = cs; levels = s })))
    (row_chips n m ch.levels s (din s) ch.chips h l)
    ∙ ap (pick (load_rises ch.levels s) (risen (suc place) (stepped_chain m s ch)))
    (stretch_chips n m (suc place) ss (stepped_chain m s ch) (omega (arith, same)) (omega (arith, same)))
  where
    same : length (stepped_row m ch.levels s (din s) ch.chips) ≡ length ch.chips
    same = row_length m ch.levels s (din s) ch.chips
