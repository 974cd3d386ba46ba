-- A raw stream's block: samples one after another, and one byte of an item, case by case.
--     raw_run                                   a run of samples steps so
--     item_sample, item_scan, item_other, item_more, item_whole     one byte of an item
--     starts_sample, starts_so                  whether a run of samples starts
--     by_items, by_head                         a byte after the first three, and one of them
-- Assumes nothing.
use Rattle.std.proofs.Common.{◌≡◌, ℕ, zero, suc, ◌+◌, ◌%◌, ◌^◌, ◌<◌, ◌≤◌, true, false, ◌&&◌, T, eqb, List, [], ◌∷◌, ◌++◌, length, take, drop, sym, refl, ap, ◌∙◌, subst, ap₂, append_assoc, arith, le-ltb, lt-ltb, eq-eqb, ne_eqb, eqb-true}
use Rattle.base.proofs.Picks.{pick_yes, pick_no, pick_cases}
use Rattle.base.proofs.Tests.{is_true, and_left, and_right}
use Rattle.chain.specs.declared.Chain.{Chain}
use Rattle.chain.specs.Chain.{chip_count}
use Rattle.capture.specs.declared.Report.{Report}
use Rattle.reads.specs.Parts.{run_length}
use Rattle.reads.specs.declared.Reader.{Reader}
use Rattle.reads.specs.Reads.{is_sample, next_offset, sampled, sampled_all}
use Rattle.streams.specs.declared.State.{State}
use Rattle.streams.specs.Parts.{ran, starts_run}
use Rattle.streams.specs.Raw.{is_scan}
use Rattle.streams.specs.Raw.{sample}
use Rattle.streams.specs.Steps.{Stepped, going, begins, raw_refused, raw_held, raw_taken, head_byte, scan_held, item_byte, raw_byte, then, steps}

-- ---- offsets

offset_stays : (p : ℕ) → p < 2 ^ 64 → (p + 0) % 2 ^ 64 ≡ p
offset_stays p h = omega arith

offset_more : (p k : ℕ) → (next_offset p + k) % 2 ^ 64 ≡ (p + suc k) % 2 ^ 64
offset_more p k = omega arith

offset_low : (p : ℕ) → next_offset p < 2 ^ 64
offset_low p = omega arith

-- ---- whether a run of samples starts

module _ (s : State) (b : ℕ) where
  pub starts_sample : chip_count s.n ≡ true → s.held.count ≡ 0 → is_sample b ≡ starts_run s b
  starts_sample e none = sym (ap₂ (λ t u. t && u && is_sample b) e (eq-eqb s.held.count 0 none))

  pub starts_so : starts_run s b ≡ true → (chip_count s.n ≡ true) × ((s.held.count ≡ 0) × (is_sample b ≡ true))
  starts_so e =
      let all : T (starts_run s b) = subst T (sym e) tt in
      let both = and_left (chip_count s.n && eqb s.held.count 0) (is_sample b) all in (
        is_true (chip_count s.n) (and_left (chip_count s.n) (eqb s.held.count 0) both),
        (
          eqb-true s.held.count 0 (is_true (eqb s.held.count 0) (and_right (chip_count s.n) (eqb s.held.count 0) both)),
          is_true (is_sample b) (and_right (chip_count s.n && eqb s.held.count 0) (is_sample b) all),
        ),
      )

module _ (what : Report) where
  -- ---- one byte, case by case

  pub by_items : (s : State) (b : ℕ) → chip_count s.n ≡ true → raw_byte what s b ≡ item_byte what s b
  unfolding raw_byte
  by_items s b e = pick_yes _ _ e

  pub by_head : (s : State) (b : ℕ) → chip_count s.n ≡ false → raw_byte what s b ≡ head_byte s b
  unfolding raw_byte
  by_head s b e = pick_no _ _ e

  module _ (s : State) (b : ℕ) where
    pub item_sample : s.held.count ≡ 0 → is_sample b ≡ true → item_byte what s b ≡ raw_taken what s (sample b)
    item_sample none e = pick_yes _ _ (eq-eqb s.held.count 0 none) ∙ pick_yes _ _ e

    pub item_scan : s.held.count ≡ 0 → is_sample b ≡ false → is_scan s.n b ≡ true → item_byte what s b ≡ raw_held s b
    item_scan none e y = pick_yes _ _ (eq-eqb s.held.count 0 none) ∙ pick_no _ _ e ∙ pick_yes _ _ y

    pub item_other : s.held.count ≡ 0 → is_sample b ≡ false → is_scan s.n b ≡ false → item_byte what s b ≡ raw_refused s
    item_other none e y = pick_yes _ _ (eq-eqb s.held.count 0 none) ∙ pick_no _ _ e ∙ pick_no _ _ y

    pub item_more : (s.held.count ≡ 0 → ⊥) → s.held.count < 8 → item_byte what s b ≡ raw_held s b
    item_more some few = pick_no _ _ (ne_eqb s.held.count 0 some) ∙ pick_yes _ _ (lt-ltb s.held.count 8 few)

    pub item_whole : (s.held.count ≡ 0 → ⊥) → 8 ≤ s.held.count → item_byte what s b ≡ raw_taken what s (scan_held s.held b)
    item_whole some many = pick_no _ _ (ne_eqb s.held.count 0 some) ∙ pick_no _ _ (le-ltb s.held.count 8 many)

  -- ---- samples one after another

  -- none
  ran_none : (n : ℕ) (ch : Chain) (r : Reader) (p : ℕ) → p < 2 ^ 64 → ran what (begins n ch r p) [] ≡ going (begins n ch r p) []
  unfolding sampled_all
  ran_none n ch r p low = ap (λ q. going (begins n ch r q) []) (offset_stays p low)

  -- one, and then more
  ran_more : (n : ℕ) (ch : Chain) (r : Reader) (p b : ℕ) (bytes : List ℕ) (rest : State → Stepped)
      → then (raw_taken what (begins n ch r p) (sample b))
      (λ next. then (ran what (begins n (sampled what n p b ch r).chain (sampled what n p b ch r).reader (next_offset p)) bytes) rest)
      ≡ then (ran what (begins n ch r p) (b ∷ bytes)) rest
  unfolding sampled_all
  ran_more n ch r p b bytes rest =
      let x = sampled what n p b ch r in
      let more = sampled_all what n (next_offset p) bytes x.chain x.reader in
      let after : ℕ → Stepped = λ q. rest (begins n more.chain more.reader q) in
      let end = after ((p + suc (length bytes)) % 2 ^ 64) in
      ap (λ q. record { state = (after q).state; over = (after q).over; out = x.out ++ (more.out ++ (after q).out) }) (offset_more p (length bytes))
      ∙ ap (λ xs. record { state = end.state; over = end.over; out = xs }) (sym (append_assoc x.out more.out end.out))

  -- a sample at an item's start
  sample_first : (s : State) (b : ℕ) → chip_count s.n ≡ true → s.held.count ≡ 0 → is_sample b ≡ true → raw_byte what s b ≡ raw_taken what s (sample b)
  sample_first s b count none e = by_items s b count ∙ item_sample s b none e

  -- some of the samples that stand first
  run_steps : (m n : ℕ) (ch : Chain) (r : Reader) (p : ℕ) (bytes : List ℕ) → chip_count n ≡ true → p < 2 ^ 64 → m ≤ run_length bytes
      → steps (raw_byte what) (begins n ch r p) bytes ≡ then (ran what (begins n ch r p) (take m bytes)) (λ next. steps (raw_byte what) next (drop m bytes))
  unfolding steps run_length
  run_steps zero n ch r p bytes count low few = sym (ap (λ x. then x (λ next. steps (raw_byte what) next bytes)) (ran_none n ch r p low))
  run_steps (suc m) n ch r p [] count low few = absurd (omega arith)
  run_steps (suc m) n ch r p (b ∷ bytes) count low few =
      let s = begins n ch r p in
      let x = sampled what n p b ch r in
      pick_cases
      (λ k. suc m ≤ k
      → steps (raw_byte what) s (b ∷ bytes) ≡ then (ran what s (take (suc m) (b ∷ bytes))) (λ next. steps (raw_byte what) next (drop (suc m) (b ∷ bytes))))
      (is_sample b) {x = suc (run_length bytes)} {y = 0}
      (λ e l. ap (λ y. then y (λ next. steps (raw_byte what) next bytes)) (sample_first s b count refl e)
      ∙ ap (λ y. then (raw_taken what s (sample b)) (λ next. y)) (run_steps m n x.chain x.reader (next_offset p) bytes count (offset_low p) (omega arith))
      ∙ ran_more n ch r p b (take m bytes) (λ next. steps (raw_byte what) next (drop m bytes)))
      (λ e l. absurd (omega arith)) few

  -- samples from an item's start on
  pub raw_run : (m : ℕ) (s : State) (b : ℕ) (bytes : List ℕ) → 1 ≤ m → chip_count s.n ≡ true → s.held.count ≡ 0 → is_sample b ≡ true → m ≤ run_length (b ∷ bytes)
      → steps (raw_byte what) s (b ∷ bytes) ≡ then (ran what s (take m (b ∷ bytes))) (λ next. steps (raw_byte what) next (drop m (b ∷ bytes)))
  unfolding steps run_length
  raw_run zero s b bytes some count none e few = absurd (omega arith)
  raw_run (suc m) s b bytes some count none e few =
      let x = sampled what s.n s.place b s.chain s.reader in
      let more : run_length (b ∷ bytes) ≡ suc (run_length bytes) = pick_yes _ _ e in
      ap (λ y. then y (λ next. steps (raw_byte what) next bytes)) (sample_first s b count none e)
      ∙ ap (λ y. then (raw_taken what s (sample b)) (λ next. y))
      (run_steps m s.n x.chain x.reader (next_offset s.place) bytes count (offset_low s.place) (omega (arith, more)))
      ∙ ran_more s.n s.chain s.reader s.place b (take m bytes) (λ next. steps (raw_byte what) next (drop m bytes))
