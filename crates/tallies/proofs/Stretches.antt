-- Samples counted from one LOAD rise to the next. `Sampling` is the loop's invariant: what is left, played and counted from here, is the
-- whole played and counted, and every count has room for what is left.
--     one_rise, one_still, same_before        one sample: a LOAD rise, and any other, before and after which the counts are the same
--     stretch_adds, stretch_size              a stretch of samples, up to and with the next LOAD rise
--     sampling_start                          the loop's start
--     turn_room, turn_rose, turn_still        a turn: there is room for one more, and the invariant holds again
--     sampling_over                           no sample is left
-- Assumes nothing.
use mathlib.Core.Path.{◌≡◌, refl, ap, sym, subst, ◌∙◌}
use mathlib.Core.Bool.{Bool, true, false}
use mathlib.Core.List.{List, [], ◌∷◌, ◌++◌, map}
use Prim.Native.Nat.{ℕ, suc, ◌+◌, ◌-◌, ◌≤◌, ◌<◌}
use native.Mathlib.Nat.{add-zero}
use native.Mathlib.Omega.{arith}
use lib.Dec.{ltb}
use lib.ListN.{length, get_or, drop, drop_of_length-le}
use Rattle.base.specs.Pick.{pick}
use Rattle.base.proofs.Picks.{pick_yes, pick_no}
use Rattle.base.proofs.Lists.{rest_is}
use Rattle.word.specs.Words.{decoded_of}
use Rattle.chip.specs.Record.{body_of, reset_chip}
use Rattle.chip.specs.Edges.{din, load_rises}
use Rattle.chip.specs.History.{Step, told, times}
use Rattle.chain.specs.declared.Chain.{Chain}
use Rattle.chain.specs.declared.play.Stretch.{Stretch}
use Rattle.chain.specs.Chain.{most, stepped_chain, played}
use Rattle.chain.specs.Entries.{chip_at}
use Rattle.chain.specs.Events.{sample, obeyed}
use Rattle.chain.specs.Stretch.{stretch_from}
use Rattle.chain.proofs.Histories.{played_happens}
use Rattle.chain.proofs.Laws.{quiet_chain}
use Rattle.chain.proofs.Places.{part_at}
use Rattle.chain.proofs.Rest.{row_length}
use Rattle.chain.proofs.Stretch.{each_stretch, stretch_fewer, stretch_plays}
use Rattle.tallies.specs.declared.Counts.{Counts}
use Rattle.tallies.specs.declared.Tally.{Tally}
use Rattle.tallies.specs.Counts.{plus, step_counts, counts_of}
use Rattle.tallies.specs.Parts.{risen_counts, risen, counting_after}
use Rattle.tallies.specs.Tallies.{each_place, own_history, counts_at, times_in, added, fits}
use Rattle.tallies.proofs.Appends.{step_same, added_append, added_none}
use Rattle.tallies.proofs.Places.{place_none, place_same}
use Rattle.tallies.proofs.Rises.{fits_fewer, risen_room}
use Rattle.tallies.proofs.Steps.{plus_none}
use Rattle.tallies.proofs.Sums.{sum_same, sum_zero}

-- ---- one sample

module _ (n s : ℕ) (ch : Chain) where
  -- what chip k obeys
  abbrev obeys : ℕ → Step
  obeys k = told (obeyed (decoded_of (chip_at k (stepped_chain n s ch)).line.register))

  -- no code is recorded
  no_code : (code k : ℕ) → times code (own_history k n (sample s ∷ []) ch) (chip_at k ch) ≡ 0
  no_code code k = go (ltb k n) (load_rises ch.levels s)
    where
      go : (below rises : Bool) → times code (pick below (pick rises (obeys k ∷ []) [] ++ []) []) (chip_at k ch) ≡ 0
      go true true = refl
      go true false = refl
      go false rises = refl

  codes_stay : (codes : List ℕ) → each_place (λ code x. x + times_in n (sample s ∷ []) ch code) 0 codes ≡ codes
  codes_stay codes =
      place_none (λ code x. x + times_in n (sample s ∷ []) ch code) 0 codes
      (λ code x low high. ap (λ y. x + y) (sum_same (λ k. times code (own_history k n (sample s ∷ []) ch) (chip_at k ch)) (λ k. 0) (no_code code) most ∙ sum_zero most) ∙ add-zero x)

  pub one_rise : load_rises ch.levels s ≡ true → (t : Tally) → added n (sample s ∷ []) ch t ≡ risen n ch (stepped_chain n s ch) t
  unfolding added risen counts_of
  one_rise e t = λ i. record { chips = place_same _ (risen_counts n ch.chips (stepped_chain n s ch).chips) one 0 t.chips i; codes = codes_stay t.codes i; largest = t.largest }
    where
      go : (k : ℕ) (x : Counts) (below : Bool)
          → plus x (counts_of (pick below (pick true (obeys k ∷ []) [] ++ []) []) (chip_at k ch)) ≡ pick below (plus x (step_counts (obeys k) (chip_at k ch))) x
      go k x true = ap (plus x) (plus_none (step_counts (obeys k) (chip_at k ch)))
      go k x false = plus_none x

      one : (k : ℕ) (x : Counts) → plus x (counts_at n (sample s ∷ []) ch k) ≡ risen_counts n ch.chips (stepped_chain n s ch).chips k x
      one k x =
          ap (λ rises. plus x (counts_of (pick (ltb k n) (pick rises (obeys k ∷ []) [] ++ []) []) (chip_at k ch))) e
          ∙ go k x (ltb k n)

  pub one_still : load_rises ch.levels s ≡ false → (t : Tally) → added n (sample s ∷ []) ch t ≡ t
  unfolding added counts_of
  one_still e t = λ i. record { chips = place_none _ 0 t.chips (λ k x low high. one k x) i; codes = codes_stay t.codes i; largest = t.largest }
    where
      go : (k : ℕ) (x : Counts) (below : Bool) → plus x (counts_of (pick below (pick false (obeys k ∷ []) [] ++ []) []) (chip_at k ch)) ≡ x
      go k x true = plus_none x
      go k x false = plus_none x

      one : (k : ℕ) (x : Counts) → plus x (counts_at n (sample s ∷ []) ch k) ≡ x
      one k x =
          ap (λ rises. plus x (counts_of (pick (ltb k n) (pick rises (obeys k ∷ []) [] ++ []) []) (chip_at k ch))) e
          ∙ go k x (ltb k n)

  -- settings, display and key record before a sample without a LOAD rise serve as well as those after it
  pub same_before : load_rises ch.levels s ≡ false → (after : Chain) (t : Tally) → risen n (stepped_chain n s ch) after t ≡ risen n ch after t
  unfolding risen
  same_before e after t = λ i. record { chips = chips i; codes = t.codes; largest = t.largest }
    where
      chips : each_place (risen_counts n (stepped_chain n s ch).chips after.chips) 0 t.chips ≡ each_place (risen_counts n ch.chips after.chips) 0 t.chips
      chips =
          place_same (risen_counts n (stepped_chain n s ch).chips after.chips) (risen_counts n ch.chips after.chips)
          (λ k x.
          ap (λ more. pick (ltb k n) (plus x more) x)
          (step_same (told (obeyed (decoded_of (get_or after.chips k reset_chip).line.register))) (chip_at k (stepped_chain n s ch)) (chip_at k ch)
          (part_at body_of (stepped_chain n s ch).chips ch.chips k reset_chip (quiet_chain n s ch e))))
          0 t.chips

-- ---- a stretch

module _ (n : ℕ) (few : n ≤ most) (ss : List ℕ) where
  -- a tally after a stretch
  abbrev after_stretch_lem : Chain → Stretch → Tally → Tally
  after_stretch_lem ch t tally = pick t.rose (risen n ch t.chain tally) tally

  step_adds : (i : ℕ) (ch : Chain) (tally : Tally) → length ch.chips ≡ most → i < length ss
      → added n (map sample (drop i ss)) ch tally
      ≡ added n (map sample (drop (i + 1) ss)) (stepped_chain n (get_or ss i 0) ch) (added n (sample (get_or ss i 0) ∷ []) ch tally)
  step_adds i ch tally size h =
      ap (λ r. added n (map sample r) ch tally) (rest_is ss i 0 h)
      ∙ added_append n few (sample (get_or ss i 0) ∷ []) (map sample (drop (i + 1) ss)) ch size tally

  size_step : (s : ℕ) (ch : Chain) → length (stepped_chain n s ch).chips ≡ length ch.chips
  size_step s ch = row_length n ch.levels s (din s) ch.chips

  pub stretch_adds : (i : ℕ) (ch : Chain) → length ch.chips ≡ most → (tally : Tally)
      → let t = stretch_from n i (drop i ss) ch in
      added n (map sample (drop i ss)) ch tally ≡ added n (map sample (drop t.stop ss)) t.chain (after_stretch_lem ch t tally)
  stretch_adds =
      each_stretch n ss
      (λ i ch t. length ch.chips ≡ most → (tally : Tally) → added n (map sample (drop i ss)) ch tally ≡ added n (map sample (drop t.stop ss)) t.chain (after_stretch_lem ch t tally))
      (λ i ch past size tally. refl)
      (λ i ch more up size tally.
      step_adds i ch tally size more
      ∙ ap (added n (map sample (drop (i + 1) ss)) (stepped_chain n (get_or ss i 0) ch)) (one_rise n (get_or ss i 0) ch up tally))
      (λ i ch t more still p size tally.
      step_adds i ch tally size more
      ∙ ap (added n (map sample (drop (i + 1) ss)) (stepped_chain n (get_or ss i 0) ch)) (one_still n (get_or ss i 0) ch still tally)
      ∙ p (size_step (get_or ss i 0) ch ∙ size) tally
      ∙ ap (λ u. added n (map sample (drop t.stop ss)) t.chain (pick t.rose u tally)) (same_before n (get_or ss i 0) ch still t.chain tally))

  pub stretch_size : (i : ℕ) (ch : Chain) → length (stretch_from n i (drop i ss) ch).chain.chips ≡ length ch.chips
  stretch_size =
      each_stretch n ss (λ i ch t. length t.chain.chips ≡ length ch.chips) (λ i ch past. refl)
      (λ i ch more up. size_step (get_or ss i 0) ch)
      (λ i ch t more still p. p ∙ size_step (get_or ss i 0) ch)

-- ---- the loop

pub record Sampling (n : ℕ) (ss : List ℕ) (ch₀ : Chain) (t₀ : Tally) (next : Chain) (tally : Tally) (i : ℕ) : Type 0 where
  pub few : n ≤ most
  pub size : length next.chips ≡ most
  pub room : fits (length ss - i) tally ≡ true
  pub plays : played n (drop i ss) next ≡ played n ss ch₀
  pub counted : added n (map sample (drop i ss)) next tally ≡ added n (map sample ss) ch₀ t₀

pub sampling_start : (n : ℕ) (ss : List ℕ) (ch : Chain) (t : Tally) → n ≤ most → length ch.chips ≡ most → fits (length ss) t ≡ true
    → Sampling n ss ch t ch t 0
sampling_start n ss ch t few size room =
    let all : length ss ≡ length ss - 0 = omega arith in
    record { few = few; size = size; room = subst (λ m. fits m t ≡ true) all room; plays = refl; counted = refl }

module _ {n : ℕ} {ss : List ℕ} {ch₀ : Chain} {t₀ : Tally} {next : Chain} {tally : Tally} {i : ℕ} (g : Sampling n ss ch₀ t₀ next tally i) where
  -- ---- a turn of the loop

  module _ (t : Stretch) (e : t ≡ stretch_from n i (drop i ss) next) (more : i < length ss) where
    pub turn_room : fits 1 tally ≡ true
    turn_room = fits_fewer 1 (length ss - i) (omega arith) tally g.room

    size_so : length t.chain.chips ≡ most
    size_so = ap (λ (x : Stretch). length x.chain.chips) e ∙ stretch_size n g.few ss i next ∙ g.size

    counted_so : (after : Tally) → after_stretch_lem n g.few ss next t tally ≡ after
        → added n (map sample (drop t.stop ss)) t.chain after ≡ added n (map sample ss) ch₀ t₀
    counted_so after same =
        ap (added n (map sample (drop t.stop ss)) t.chain) (sym same)
        ∙ ap (λ (x : Stretch). added n (map sample (drop x.stop ss)) x.chain (after_stretch_lem n g.few ss next x tally)) e
        ∙ sym (stretch_adds n g.few ss i next g.size tally)
        ∙ g.counted

    pub turn_rose : t.rose ≡ true → (after : Tally) → after ≡ risen n next t.chain tally → Sampling n ss ch₀ t₀ t.chain after t.stop
    turn_rose up after same =
        record {
          few = g.few;
          size = size_so;
          room =
              subst (λ u. fits (length ss - t.stop) u ≡ true) (sym same)
              (risen_room (length ss - t.stop) n next t.chain tally
              (fits_fewer (suc (length ss - t.stop)) (length ss - i) (omega (arith, stretch_fewer n ss i next t e more)) tally g.room));
          plays = stretch_plays n ss i next t e ∙ g.plays;
          counted = counted_so after (pick_yes _ _ up ∙ sym same);
        }

    pub turn_still : t.rose ≡ false → Sampling n ss ch₀ t₀ t.chain tally t.stop
    turn_still down =
        record {
          few = g.few;
          size = size_so;
          room = fits_fewer (length ss - t.stop) (length ss - i) (omega (arith, stretch_fewer n ss i next t e more)) tally g.room;
          plays = stretch_plays n ss i next t e ∙ g.plays;
          counted = counted_so tally (pick_no _ _ down);
        }

  -- ---- the end

  pub sampling_over : length ss ≤ i → record { chain = next; tally = tally } ≡ counting_after n (map sample ss) (record { chain = ch₀; tally = t₀ })
  unfolding played
  sampling_over h =
      let none = drop_of_length-le ss h in
      let chain = ap (λ xs. played n xs next) (sym none) ∙ g.plays ∙ played_happens n ss ch₀ in
      let counts = sym (ap (λ xs. added n (map sample xs) next tally) none ∙ added_none n next tally) ∙ g.counted in
      λ j. record { chain = chain j; tally = counts j }
