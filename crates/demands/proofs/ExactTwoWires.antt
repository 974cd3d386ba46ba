-- Demand 1, the exact table, of the CH450's entries: specs/TwoWires.antt. Each theorem says of every input that a refusal is told exactly
-- when it is the first of the table that is given, and an answer exactly when none is.
--     ch450_encode_exact, ch450_apply_exact, ch450_segments_exact      ch450, ch450::commands
--     ch450_sample_exact, ch450_play_exact                             ch450::play
--     ch450_write_exact                                                ch450::writer
--     lit_by_table, play_by_table                                      row by row, for a panel that is lent as numbers
--     ch450_play_lowest                                                1, of `play`: the lowest place of a sample above 3
--     ch450_write_nine                                                 9, of `write`: the lowest place of such a word
--     ch450_write_eight                                                8, of `write`: every word is accepted, and the buffer is short
-- Assumes nothing.
use mathlib.Core.Path.{◌≡◌, refl}
use mathlib.Core.Logic.{◌⊎◌, inl, inr, ◌↔◌}
use mathlib.Core.List.{List, [], ◌∷◌, ◌++◌}
use Prim.Native.Nat.{ℕ, suc, ◌*◌, ◌<◌}
use native.Mathlib.Omega.{arith}
use lib.Dec.{leb}
use lib.ListN.{length, get_or}
use Rattle.base.specs.Refusals.{Told, done, refused}
use Rattle.ch450.specs.declared.Command.{Command}
use Rattle.ch450.specs.declared.Panel.{Panel}
use Rattle.ch450.specs.Commands.{legal, word_of, encoded_of}
use Rattle.ch450.specs.Entries.{applied_of, segments_of, tested_of, checked_from, sampled_of, played_of}
use Rattle.ch450.specs.Panel.{valid}
use Rattle.ch450.specs.Written.{words_from, list_test, answer_by, answer_of}
use Rattle.demands.specs.Exact.{Row, row, each, None, First, Exactly}
use Rattle.demands.specs.TwoWires.{UnheldPanel, KeyAbove127, SampleAbove3, LowestAbove3, MoreThan64, NotWritable, LowestNotWritable, RoomShort, ch450_encode_table, ch450_apply_table, ch450_lit_table, ch450_sample_table, ch450_play_table, ch450_write_table, above3_row, above3_rows, writable_row, writable_rows}
use Rattle.demands.proofs.ByTable.{ByTable, answered, by_table, tested, told_by, stays, goes_on}
use Rattle.demands.proofs.Conditions.{Tests, leb_tests}
use Rattle.demands.proofs.ExactChain.{told_after, told_only}
use Rattle.demands.proofs.PanelTests.{field_tests, writable_tests, panel_tests}
use Rattle.demands.proofs.Readings.{after_one, append_first, first_left, first_right, each_exactly, none_exactly, lowest_exactly}

-- ---- commands, and the segments lit

pub ch450_encode_exact : (command : Command) → Exactly (encoded_of command) (ch450_encode_table command)
unfolding encoded_of
ch450_encode_exact command = by_table (tested (done (word_of command)) (field_tests command) (answered tt))

pub ch450_apply_exact : (p : Panel) (command : Command) → Exactly (applied_of p command).told (ch450_apply_table p command)
unfolding applied_of
ch450_apply_exact p command =
    by_table (told_by (valid p) _ _ (tested _ (panel_tests p) (told_by (legal command) _ _ (tested _ (field_tests command) (answered tt)))))

pub lit_by_table : (p : Panel) → ByTable (segments_of p).told (ch450_lit_table p)
unfolding segments_of
lit_by_table p = told_by (valid p) _ _ (tested _ (panel_tests p) (answered tt))

pub ch450_segments_exact : (p : Panel) → Exactly (segments_of p).told (ch450_lit_table p)
ch450_segments_exact p = by_table (lit_by_table p)

-- ---- samples

-- the two tests that come first
first_tests : (p : Panel) (key : ℕ) → ByTable (tested_of p key) (row 12 (UnheldPanel p) ∷ row 9 (KeyAbove127 key) ∷ [])
unfolding tested_of
first_tests p key = tested _ (panel_tests p) (tested (done tt) (leb_tests key 127) (answered tt))

sample_tests : (place : ℕ) (ss : List ℕ) → ByTable (checked_from place ss) (each above3_row place ss)
unfolding checked_from
sample_tests place [] = answered tt
sample_tests place (s ∷ ss) = tested (checked_from (suc place) ss) (leb_tests s 3) (sample_tests (suc place) ss)

pub ch450_sample_exact : (p : Panel) (key sample : ℕ) → Exactly (sampled_of p key sample).told (ch450_sample_table p key sample)
unfolding sampled_of
ch450_sample_exact p key sample =
    by_table
    (told_after (tested_of p key) _ _ _ (first_tests p key) (told_by (leb sample 3) _ _ (tested _ (leb_tests sample 3) (answered tt))))

pub play_by_table : (p : Panel) (key : ℕ) (samples : List ℕ) → ByTable (played_of p key samples).told (ch450_play_table p key samples)
unfolding played_of
play_by_table p key samples =
    told_after (tested_of p key) _ _ (above3_rows samples) (first_tests p key) (told_only (checked_from 0 samples) _ _ _ (sample_tests 0 samples))

pub ch450_play_exact : (p : Panel) (key : ℕ) (samples : List ℕ) → Exactly (played_of p key samples).told (ch450_play_table p key samples)
ch450_play_exact p key samples = by_table (play_by_table p key samples)

-- ---- the writer

words_test : (place : ℕ) (ws : List ℕ) → ByTable (words_from place ws) (each writable_row place ws)
unfolding words_from
words_test place [] = answered tt
words_test place (w ∷ ws) = tested (words_from (suc place) ws) (writable_tests w) (words_test (suc place) ws)

answer_by_lem : (t : Told (Unit {0})) (need have : ℕ) (G : Type 0) {rows : List Row} → Tests G (leb need have) → ByTable t rows
    → ByTable (answer_by t need have) (rows ++ row 8 G ∷ [])
answer_by_lem (done u) need have G t y = goes_on y (tested (done need) t (answered tt))
answer_by_lem (refused number place) need have G t y = stays (row 8 G ∷ []) y

pub ch450_write_exact : (words out : List ℕ) → Exactly (answer_of words out) (ch450_write_table words out)
unfolding answer_of list_test
ch450_write_exact ws out =
    by_table
    (answer_by_lem (list_test ws) (40 * length ws) (length out) _ (leb_tests (40 * length ws) (length out))
    (tested (words_from 0 ws) (leb_tests (length ws) 64) (words_test 0 ws)))

-- ---- with their places, in plain words

pub ch450_play_lowest : (p : Panel) (key : ℕ) (samples : List ℕ) (place : ℕ)
    → ((played_of p key samples).told ≡ refused 1 place) ↔ ((UnheldPanel p → ⊥) × (KeyAbove127 key → ⊥) × LowestAbove3 samples place)
ch450_play_lowest p key ss place = (
  (λ e.
      let f = after_one (row 12 (UnheldPanel p)) (row 9 (KeyAbove127 key) ∷ above3_rows ss) 1 place (λ q. omega arith)
      (((ch450_play_exact p key ss).refusal 1 place).0 e) in
      let g = after_one (row 9 (KeyAbove127 key)) (above3_rows ss) 1 place (λ q. omega arith) f.1 in
      (f.0, g.0, (lowest_exactly 1 SampleAbove3 ss place).0 g.1)),
  (λ y. ((ch450_play_exact p key ss).refusal 1 place).1 (inr (y.0, inr (y.1, (lowest_exactly 1 SampleAbove3 ss place).1 y.2)))),
)

module _ (ws out : List ℕ) where
  abbrev short : List Row
  short = row 8 (RoomShort ws out) ∷ []

  -- the table past its first row
  past_five : (m p : ℕ) → 5 < m → answer_of ws out ≡ refused m p → (MoreThan64 ws → ⊥) × First (writable_rows ws ++ short) m p
  past_five m p h e =
      after_one (row 5 (MoreThan64 ws)) (writable_rows ws ++ short) m p (λ q. omega arith) (((ch450_write_exact ws out).refusal m p).0 e)

  of_words : (p : ℕ) → First (writable_rows ws) 9 p ⊎ (None (writable_rows ws) × First short 9 p) → First (writable_rows ws) 9 p
  of_words p (inl f) = f
  of_words p (inr (y, inl g)) = let e = g.1 in absurd (omega arith)
  of_words p (inr (y, inr g)) = absurd g.1

  pub ch450_write_nine : (place : ℕ) → (answer_of ws out ≡ refused 9 place) ↔ ((MoreThan64 ws → ⊥) × LowestNotWritable ws place)
  ch450_write_nine p = (
    (λ e.
        let f = past_five 9 p (omega arith) e in
        (f.0, (lowest_exactly 9 NotWritable ws p).0 (of_words p (append_first (writable_rows ws) short 9 p f.1)))),
    (λ y.
        ((ch450_write_exact ws out).refusal 9 p).1
        (inr (y.0, first_left (writable_rows ws) short 9 p ((lowest_exactly 9 NotWritable ws p).1 y.1)))),
  )

  -- no refusal of a word is 8
  of_buffer : First (writable_rows ws) 8 0 ⊎ (None (writable_rows ws) × First short 8 0) → None (writable_rows ws) × RoomShort ws out
  of_buffer (inl f) = absurd (not_eight ((each_exactly writable_row 8 0 ws).0 f).1.1)
    where
      not_eight : {k w : ℕ} → First (writable_row k w) 8 0 → ⊥
      not_eight (inl g) = let e = g.1 in omega arith
      not_eight (inr g) = g.1
  of_buffer (inr (y, inl g)) = (y, g.0)
  of_buffer (inr (y, inr g)) = absurd g.1

  pub ch450_write_eight : (answer_of ws out ≡ refused 8 0)
      ↔ ((MoreThan64 ws → ⊥) × ((q : ℕ) → q < length ws → NotWritable (get_or ws q 0) → ⊥) × RoomShort ws out)
  ch450_write_eight = (
    (λ e.
        let f = past_five 8 0 (omega arith) e in
        let b = of_buffer (append_first (writable_rows ws) short 8 0 f.1) in
        (f.0, (λ q l. ((none_exactly writable_row ws).0 b.0 q l).0), b.1)),
    (λ y.
        ((ch450_write_exact ws out).refusal 8 0).1
        (inr (y.0, first_right (writable_rows ws) short 8 0 ((none_exactly writable_row ws).1 (λ k h. (y.1 k h, tt))) (inl (y.2, refl, refl))))),
  )
