-- The refusals that name a place, and the writer's last, in plain words: each is told exactly when this holds.
--     play_lowest, find_lowest                   1, of `play` and the finder: the lowest place of a sample above 7
--     write_six, write_seven, write_thirteen     6, 7 and 13, of `write`: the first word that isn't accepted
--     write_eight                                8, of `write`: every word is accepted, and the buffer is shorter than the samples
-- Assumes nothing.
use mathlib.Core.Path.{◌≡◌, refl, sym, subst}
use mathlib.Core.Logic.{◌⊎◌, inl, inr, ◌↔◌}
use mathlib.Core.List.{List, [], ◌∷◌, ◌++◌}
use Prim.Native.Nat.{ℕ, ◌<◌}
use native.Mathlib.Omega.{arith}
use lib.ListN.{length, get_or}
use Rattle.base.specs.Refusals.{refused}
use Rattle.word.specs.declared.Command.TheVariants.{Sleep}
use Rattle.word.specs.Words.{word_of, plain}
use Rattle.chain.specs.declared.Chain.{Chain}
use Rattle.chain.specs.Entries.{played_of}
use Rattle.chain.specs.Finder.{found_of}
use Rattle.writer.specs.Written.{answer_of}
use Rattle.demands.specs.Exact.{Row, row, None, First}
use Rattle.demands.specs.Refusals.{SampleAbove7, LowestAbove7, NotOneToMost, NotMultiple, MoreThan64Rows, ListFits, Unlisted, KeypadBeforeLast, SleepsLit, AcceptedBefore, BufferShort, LevelsAbove7, UnheldChain}
use Rattle.demands.specs.Tables.{sample_rows, word_row, word_rows}
use Rattle.demands.proofs.ExactChain.{play_exact, find_exact}
use Rattle.demands.proofs.ExactWriter.{write_exact}
use Rattle.demands.proofs.Readings.{after_one, append_first, first_left, first_right, each_exactly, none_exactly, lowest_exactly}

-- ---- samples

-- of samples, 1 is given at the lowest place of a sample above 7
at_lowest : (ss : List ℕ) (p : ℕ) → First (sample_rows ss) 1 p ↔ LowestAbove7 ss p
at_lowest = lowest_exactly 1 SampleAbove7

pub play_lowest : (n : ℕ) (ch : Chain) (samples : List ℕ) (place : ℕ)
    → ((played_of n ch samples).told ≡ refused 1 place) ↔ ((NotOneToMost n → ⊥) × (UnheldChain n ch → ⊥) × LowestAbove7 samples place)
play_lowest n ch ss p = (
  (λ e.
      let f = after_one (row 3 (NotOneToMost n)) (row 12 (UnheldChain n ch) ∷ sample_rows ss) 1 p (λ q. omega arith) (((play_exact n ch ss).refusal 1 p).0 e) in
      let g = after_one (row 12 (UnheldChain n ch)) (sample_rows ss) 1 p (λ q. omega arith) f.1 in
      (f.0, g.0, (at_lowest ss p).0 g.1)),
  (λ y. ((play_exact n ch ss).refusal 1 p).1 (inr (y.0, inr (y.1, (at_lowest ss p).1 y.2)))),
)

pub find_lowest : (levels : ℕ) (samples : List ℕ) (place : ℕ)
    → ((found_of levels samples).told ≡ refused 1 place) ↔ ((LevelsAbove7 levels → ⊥) × LowestAbove7 samples place)
find_lowest levels ss p = (
  (λ e.
      let f = after_one (row 12 (LevelsAbove7 levels)) (sample_rows ss) 1 p (λ q. omega arith) (((find_exact levels ss).refusal 1 p).0 e) in
      (f.0, (at_lowest ss p).0 f.1)),
  (λ y. ((find_exact levels ss).refusal 1 p).1 (inr (y.0, (at_lowest ss p).1 y.1))),
)

-- ---- words

-- a sleep word is listed, and turns no keypad on
sleep_listed : (w : ℕ) → word_of Sleep ≡ w → Unlisted w → ⊥
unfolding plain
sleep_listed w e (inl n) = n (Sleep, (λ y. y), subst (λ v. word_of Sleep ≡ plain v) e refl)
sleep_listed w e (inr h) = omega arith

sleep_keypad : (n place w : ℕ) → word_of Sleep ≡ w → KeypadBeforeLast n place w → ⊥
sleep_keypad n place w e y = omega (arith, y.0.2)

module _ (n : ℕ) (ws out : List ℕ) where
  abbrev short : List Row
  short = row 8 (BufferShort n ws out) ∷ []

  -- the table past its first three rows
  past_three : (m p : ℕ) → 5 < m → answer_of n ws out ≡ refused m p → ListFits n ws × First (word_rows n ws ++ short) m p
  past_three m p h e =
      let three = row 3 (NotOneToMost n) in
      let four = row 4 (NotMultiple n ws) in
      let five = row 5 (MoreThan64Rows n ws) in
      let words = word_rows n ws ++ short in
      let f = after_one three (four ∷ five ∷ words) m p (λ q. omega arith) (((write_exact n ws out).refusal m p).0 e) in
      let g = after_one four (five ∷ words) m p (λ q. omega arith) f.1 in
      let k = after_one five words m p (λ q. omega arith) g.1 in
      ((f.0, g.0, k.0), k.1)

  with_three : (m p : ℕ) → ListFits n ws → First (word_rows n ws ++ short) m p → answer_of n ws out ≡ refused m p
  with_three m p y f = ((write_exact n ws out).refusal m p).1 (inr (y.0, inr (y.1, inr (y.2, f))))

  -- ---- any refusal of a word

  -- the rows of the word at a place
  abbrev rows_at : ℕ → List Row
  rows_at place = word_row n ws place (get_or ws place 0)

  -- they name that place
  names_place : (k m p : ℕ) → First (rows_at k) m p → k ≡ p
  names_place k m p (inl g) = g.2
  names_place k m p (inr (u, inl g)) = g.2
  names_place k m p (inr (u, inr (v, inl g))) = g.2
  names_place k m p (inr (u, inr (v, inr g))) = absurd g.1

  -- none of them is given at the places of accepted words
  accepted : (p : ℕ) → ((j : ℕ) → j < p → None (rows_at j)) → AcceptedBefore n ws p
  accepted p y q l = ((y q l).0, (y q l).1.0, (y q l).1.1.0)

  none_at : (p : ℕ) → AcceptedBefore n ws p → (j : ℕ) → j < p → None (rows_at j)
  none_at p y j l = ((y j l).0, ((y j l).1, ((y j l).2, tt)))

  -- what is told of the words isn't told of the buffer
  of_words : (m p : ℕ) → (m ≡ 8 → ⊥) → First (word_rows n ws) m p ⊎ (None (word_rows n ws) × First short m p) → First (word_rows n ws) m p
  of_words m p ne (inl f) = f
  of_words m p ne (inr (y, inl g)) = absurd (ne (sym g.1))
  of_words m p ne (inr (y, inr g)) = absurd g.1

  -- a word's refusal, told exactly when it is the first of the word at its place, and the words before are accepted
  word_refused : (m p : ℕ) → 5 < m → (m ≡ 8 → ⊥)
      → (answer_of n ws out ≡ refused m p) ↔ (ListFits n ws × (p < length ws) × First (rows_at p) m p × AcceptedBefore n ws p)
  word_refused m p h ne = (
    (λ e.
        let f = past_three m p h e in
        let y = (each_exactly (word_row n ws) m p ws).0 (of_words m p ne (append_first (word_rows n ws) short m p f.1)) in
        let at = names_place y.0 m p y.1.1 in
        let here = subst (λ k. (k < length ws) × First (rows_at k) m p × AcceptedBefore n ws k) at (y.1.0, y.1.1, accepted y.0 y.1.2) in
        (f.0, here.0, here.1, here.2)),
    (λ y. with_three m p y.0 (first_left (word_rows n ws) short m p ((each_exactly (word_row n ws) m p ws).1 (p, (y.1, y.2, none_at p y.3))))),
  )

  -- ---- which refusal it is

  six_first : (p : ℕ) → First (rows_at p) 6 p → Unlisted (get_or ws p 0)
  six_first p (inl g) = g.0
  six_first p (inr (u, inl g)) = let e = g.1 in absurd (omega arith)
  six_first p (inr (u, inr (v, inl g))) = let e = g.1 in absurd (omega arith)
  six_first p (inr (u, inr (v, inr g))) = absurd g.1

  seven_first : (p : ℕ) → First (rows_at p) 7 p → (Unlisted (get_or ws p 0) → ⊥) × KeypadBeforeLast n p (get_or ws p 0)
  seven_first p (inl g) = let e = g.1 in absurd (omega arith)
  seven_first p (inr (u, inl g)) = (u, g.0)
  seven_first p (inr (u, inr (v, inl g))) = let e = g.1 in absurd (omega arith)
  seven_first p (inr (u, inr (v, inr g))) = absurd g.1

  thirteen_first : (p : ℕ) → First (rows_at p) 13 p → SleepsLit n ws p (get_or ws p 0)
  thirteen_first p (inl g) = let e = g.1 in absurd (omega arith)
  thirteen_first p (inr (u, inl g)) = let e = g.1 in absurd (omega arith)
  thirteen_first p (inr (u, inr (v, inl g))) = g.0
  thirteen_first p (inr (u, inr (v, inr g))) = absurd g.1

  pub write_six : (place : ℕ)
      → (answer_of n ws out ≡ refused 6 place) ↔ (ListFits n ws × (place < length ws) × Unlisted (get_or ws place 0) × AcceptedBefore n ws place)
  write_six p =
      let told = word_refused 6 p (omega arith) (λ q. omega arith) in (
        (λ e. let y = told.0 e in (y.0, y.1, six_first p y.2, y.3)),
        (λ y. told.1 (y.0, y.1, inl (y.2, refl, refl), y.3)),
      )

  pub write_seven : (place : ℕ)
      → (answer_of n ws out ≡ refused 7 place)
      ↔ (ListFits n ws × (place < length ws) × (Unlisted (get_or ws place 0) → ⊥) × KeypadBeforeLast n place (get_or ws place 0) × AcceptedBefore n ws place)
  write_seven p =
      let told = word_refused 7 p (omega arith) (λ q. omega arith) in (
        (λ e. let y = told.0 e in let g = seven_first p y.2 in (y.0, y.1, g.0, g.1, y.3)),
        (λ y. told.1 (y.0, y.1, inr (y.2, inl (y.3, refl, refl)), y.4)),
      )

  pub write_thirteen : (place : ℕ)
      → (answer_of n ws out ≡ refused 13 place)
      ↔ (ListFits n ws × (place < length ws) × SleepsLit n ws place (get_or ws place 0) × AcceptedBefore n ws place)
  write_thirteen p =
      let told = word_refused 13 p (omega arith) (λ q. omega arith) in (
        (λ e. let y = told.0 e in (y.0, y.1, thirteen_first p y.2, y.3)),
        (λ y.
            let w = get_or ws p 0 in
            told.1 (y.0, y.1, inr (sleep_listed w y.2.0, inr (sleep_keypad n p w y.2.0, inl (y.2, refl, refl))), y.3)),
      )

  -- ---- the buffer

  -- no refusal of a word is 8
  not_eight : (k p : ℕ) → First (rows_at k) 8 p → ⊥
  not_eight k p (inl g) = let e = g.1 in omega arith
  not_eight k p (inr (u, inl g)) = let e = g.1 in omega arith
  not_eight k p (inr (u, inr (v, inl g))) = let e = g.1 in omega arith
  not_eight k p (inr (u, inr (v, inr g))) = g.1

  of_buffer : First (word_rows n ws) 8 0 ⊎ (None (word_rows n ws) × First short 8 0) → None (word_rows n ws) × BufferShort n ws out
  of_buffer (inl f) = let y = (each_exactly (word_row n ws) 8 0 ws).0 f in absurd (not_eight y.0 0 y.1.1)
  of_buffer (inr (y, inl g)) = (y, g.0)
  of_buffer (inr (y, inr g)) = absurd g.1

  pub write_eight : (answer_of n ws out ≡ refused 8 0) ↔ (ListFits n ws × AcceptedBefore n ws (length ws) × BufferShort n ws out)
  write_eight = (
    (λ e.
        let f = past_three 8 0 (omega arith) e in
        let b = of_buffer (append_first (word_rows n ws) short 8 0 f.1) in
        (f.0, accepted (length ws) ((none_exactly (word_row n ws) ws).0 b.0), b.1)),
    (λ y.
        with_three 8 0 y.0
        (first_right (word_rows n ws) short 8 0 ((none_exactly (word_row n ws) ws).1 (none_at (length ws) y.1)) (inl (y.2, refl, refl)))),
  )
