-- The rows of settings, as the writer and a chip meet them.
--     low, few, whole, kept_legal    settings that pass their tests: 1 to 8 chips, so many below N, no field out of range
--     first_legal, rest_legal        of the first chip, and of those after it
--     first_row, four_rows           the rows are four, one for each part
--     row_means                      chip k's word of a part's row means that part's command
--     last_place, early_place        where a word of the first row is the last chip's, and where not
--     word_passes, word_stops        a word that the writer's tests pass, and one that they refuse with 7
--     row_passes, row_refused        a row that the writer's tests of words pass, and one that they refuse
--     rows_tested                    a list of four rows comes to the tests of its words
-- Assumes nothing.
use mathlib.Core.Path.{◌≡◌, refl, ap, ap₂, sym, subst, ◌∙◌}
use mathlib.Core.Bool.{Bool, true, false, not, ◌&&◌, ◌||◌, and-eq-true_iff}
use mathlib.Core.Logic.{◌⊎◌, inl, inr}
use mathlib.Core.List.{List, [], ◌∷◌, ◌++◌, append_assoc, append-nil}
use Prim.Native.Nat.{ℕ, zero, suc, ◌+◌, ◌-◌, ◌%◌, ◌≤◌, ◌<◌, suc-le-suc}
use native.Mathlib.Nat.{mod-eq_of_lt, not-suc-le-zero, le_of_suc-le-suc, zero-lt-suc}
use native.Mathlib.Omega.{arith}
use borrow.Author.Tests.{eq-eqb, ne_eqb}
use lib.Arith.{digits_mod}
use lib.Dec.{T, leb}
use lib.ListN.{length, get_or, get_or-map}
use lib.Seq.{take_at, drop_at}
use Rattle.base.specs.Below.{every}
use Rattle.base.specs.Pick.{pick}
use Rattle.base.specs.Refusals.{done, refused}
use Rattle.base.proofs.Every.{every_at}
use Rattle.base.proofs.Lists.{get_d_any}
use Rattle.base.proofs.Picks.{pick_yes, pick_no, pick_cases}
use Rattle.word.specs.Words.{decoded_of, word_of}
use Rattle.word.proofs.RoundTrips.{command_back}
use Rattle.chain.specs.Chain.{most}
use Rattle.writer.specs.Lights.{Said, said_by_command, may_sleep, lit_sleep}
use Rattle.writer.specs.Rows.{cut_rows, keypad_on, for_last, word_test, sleep_test, or_else, test_at, words_from, list_test}
use Rattle.writer.specs.Rows as Rows
use Rattle.settings.specs.declared.Kept.{Kept}
use Rattle.settings.specs.declared.Kiosk.{Kiosk}
use Rattle.settings.specs.declared.Part.{Part}
use Rattle.settings.specs.declared.Part.TheVariants.{System, Display, Blink, Custom}
use Rattle.settings.specs.Settings.{no_kept, kept_in, command_for, legal_kept, all_legal, row_for, words_of}
use Rattle.settings.proofs.Bytes.{count_within}
use Rattle.settings.proofs.Captured.{four_words, rows_many}
use Rattle.settings.proofs.Putting.{legal_part, row_length}
use Rattle.settings.proofs.Texts.{passes, kept_length}
use Rattle.demands.specs.Events.{word_for}
use Rattle.demands.specs.Settings.{AskedKiosk}

-- ---- settings that pass their tests

module _ (kiosk : Kiosk) (a : AskedKiosk kiosk) where
  pub low : 1 ≤ kiosk.n
  low = (count_within kiosk.n (passes kiosk a.legal).chips).some

  pub few : kiosk.n ≤ most
  few = (count_within kiosk.n (passes kiosk a.legal).chips).few

  pub whole : length (kept_in kiosk) ≡ kiosk.n
  whole = kept_length kiosk a.legal a.places

  pub kept_legal : all_legal (kept_in kiosk) ≡ true
  kept_legal = (passes kiosk a.legal).legal

pub first_legal : (c : Kept) (cs : List Kept) → all_legal (c ∷ cs) ≡ true → legal_kept c ≡ true
unfolding every
first_legal c cs t = ((and-eq-true_iff (legal_kept c) (all_legal cs)).0 t).0

pub rest_legal : (c : Kept) (cs : List Kept) → all_legal (c ∷ cs) ≡ true → all_legal cs ≡ true
unfolding every
rest_legal c cs t = ((and-eq-true_iff (legal_kept c) (all_legal cs)).0 t).1

-- a part's word means its command
means : (part : Part) (c : Kept) → legal_kept c ≡ true → decoded_of (word_of (command_for part c)) ≡ done (command_for part c)
means part c t = command_back (command_for part c) (subst T (sym (legal_part c t part)) tt)

-- ---- four rows

-- the rows after the first
abbrev pub others : List Kept → List ℕ
others cs = row_for Display cs ++ (row_for Blink cs ++ row_for Custom cs)

pub first_row : (cs : List Kept) → words_of cs ≡ row_for System cs ++ others cs
unfolding words_of
first_row cs =
    append_assoc (row_for System cs ++ row_for Display cs) (row_for Blink cs) (row_for Custom cs)
    ∙ append_assoc (row_for System cs) (row_for Display cs) (row_for Blink cs ++ row_for Custom cs)

module _ (kiosk : Kiosk) (a : AskedKiosk kiosk) where
  -- the number of chips, and those below it
  abbrev n : ℕ
  n = kiosk.n

  abbrev cs : List Kept
  cs = kept_in kiosk

  rows_whole : length (words_of cs) % n ≡ 0
  rows_whole = ap (λ m. m % n) (four_words kiosk a.legal a.places) ∙ digits_mod 4 (low kiosk a)

  -- one row cut off
  cut_row : (count : ℕ) (part : Part) (rest : List ℕ) → cut_rows (suc count) n (row_for part cs ++ rest) ≡ row_for part cs ∷ cut_rows count n rest
  unfolding cut_rows
  cut_row count part rest =
      let e = row_length part cs ∙ whole kiosk a in
      ap₂ (λ x y. x ∷ cut_rows count n y) (take_at (row_for part cs) rest n e) (drop_at (row_for part cs) rest n e)

  none_left : cut_rows {A = ℕ} 0 n [] ≡ []
  unfolding cut_rows
  none_left = refl

  pub four_rows : Rows.rows_of n (words_of cs) ≡ row_for System cs ∷ row_for Display cs ∷ row_for Blink cs ∷ row_for Custom cs ∷ []
  four_rows =
      ap₂ (λ m ws. cut_rows m n ws) (rows_many kiosk a.legal a.places) (first_row cs)
      ∙ cut_row 3 System (others cs)
      ∙ ap (λ xs. row_for System cs ∷ xs)
      (cut_row 2 Display (row_for Blink cs ++ row_for Custom cs)
      ∙ ap (λ xs. row_for Display cs ∷ xs)
      (cut_row 1 Blink (row_for Custom cs)
      ∙ ap (λ xs. row_for Blink cs ∷ xs)
      (ap (cut_rows 1 n) (sym (append-nil (row_for Custom cs))) ∙ cut_row 0 Custom [] ∙ ap (λ xs. row_for Custom cs ∷ xs) none_left)))

  pub rows_tested : list_test n (words_of cs) ≡ words_from n (words_of cs) 0 (words_of cs)
  unfolding list_test
  rows_tested =
      pick_yes _ _ (passes kiosk a.legal).chips
      ∙ pick_yes _ _ (eq-eqb (length (words_of cs) % n) 0 rows_whole)
      ∙ pick_yes _ _ (ap (λ m. leb m 64) (rows_many kiosk a.legal a.places))

pub row_means : (part : Part) (cs : List Kept) (k : ℕ) → k < length cs → all_legal cs ≡ true
    → decoded_of (word_for k (row_for part cs)) ≡ done (command_for part (get_or cs k no_kept))
row_means part cs k h t =
    let inside : k < length (row_for part cs) = omega (arith, row_length part cs) in
    ap decoded_of
    (get_d_any (row_for part cs) k 0 (word_of (command_for part no_kept)) inside ∙ get_or-map (λ c. word_of (command_for part c)) cs k no_kept)
    ∙ means part (get_or cs k no_kept) (every_at legal_kept cs k no_kept t h)

-- ---- the writer's tests of words

-- a place of the first row: the last chip's, and one before it
pub last_place : (n place : ℕ) → place + 1 ≡ n → for_last n place ≡ true
last_place n place e =
    let same : place % n ≡ place = mod-eq_of_lt (omega arith) in
    eq-eqb (place % n) (n - 1) (omega arith)

pub early_place : (n place : ℕ) → place + 1 < n → for_last n place ≡ false
early_place n place h =
    let same : place % n ≡ place = mod-eq_of_lt (omega arith) in
    ne_eqb (place % n) (n - 1) (λ e. omega arith)

-- a keypad that is off, and one on the last chip
pub off_or_last : (on last : Bool) → (on ≡ false) ⊎ (last ≡ true) → (on && not last) ≡ false
off_or_last on last (inl e) = ap (λ b. b && not last) e
off_or_last on last (inr e) = ap (λ b. on && not b) e ∙ never on
  where
    never : (b : Bool) → (b && false) ≡ false
    never true = refl
    never false = refl

-- no part's command is sleep
no_sleep : (part : Part) (c : Kept) (may : Bool) → lit_sleep (said_by_command (command_for part c)) may ≡ false
no_sleep System c may = pick_cases (λ (s : Said). lit_sleep s may ≡ false) (c.system.keyb || c.system.disp) (λ e. refl) (λ e. refl)
no_sleep Display c may = refl
no_sleep Blink c may = refl
no_sleep Custom c may = refl

-- a test that is not 7 is passed
seven_or : (place : ℕ) (keypad lit : Bool) → lit ≡ false
    → or_else (pick keypad (refused 7 place) (done tt)) (pick lit (refused 13 place) (done tt)) ≡ pick keypad (refused 7 place) (done tt)
seven_or place true lit e = refl
seven_or place false lit e = pick_no (refused 13 place) (done tt) e

module _ (n : ℕ) (ws : List ℕ) where
  -- a part's command turns the keypad on at a place before the last chip's
  abbrev early : Part → Kept → ℕ → Bool
  early part c place = keypad_on (command_for part c) && not (for_last n place)

  part_test : (place : ℕ) (part : Part) (c : Kept) → legal_kept c ≡ true
      → test_at n ws place (word_of (command_for part c)) ≡ pick (early part c place) (refused 7 place) (done tt)
  part_test place part c t =
      ap (λ o. or_else (word_test n place o) (sleep_test n ws place o)) (means part c t)
      ∙ seven_or place (early part c place) (lit_sleep (said_by_command (command_for part c)) (may_sleep n ws place)) (no_sleep part c (may_sleep n ws place))

  -- one word that passes, and one that doesn't
  pub word_passes : (place : ℕ) (part : Part) (c : Kept) (rest : List ℕ) → legal_kept c ≡ true → early part c place ≡ false
      → words_from n ws place (word_of (command_for part c) ∷ rest) ≡ words_from n ws (suc place) rest
  unfolding words_from
  word_passes place part c rest t e =
      ap (λ o. or_else o (words_from n ws (suc place) rest)) (part_test place part c t ∙ pick_no (refused 7 place) (done tt) e)

  pub word_stops : (place : ℕ) (part : Part) (c : Kept) (rest : List ℕ) → legal_kept c ≡ true → early part c place ≡ true
      → words_from n ws place (word_of (command_for part c) ∷ rest) ≡ refused 7 place
  unfolding words_from
  word_stops place part c rest t e =
      ap (λ o. or_else o (words_from n ws (suc place) rest)) (part_test place part c t ∙ pick_yes (refused 7 place) (done tt) e)

  pub row_passes : (part : Part) (cs : List Kept) (place : ℕ) (more : List ℕ) → all_legal cs ≡ true
      → ((i : ℕ) → i < length cs → early part (get_or cs i no_kept) (place + i) ≡ false)
      → words_from n ws place (row_for part cs ++ more) ≡ words_from n ws (place + length cs) more
  row_passes part [] place more t off = let same : place ≡ place + 0 = omega arith in ap (λ p. words_from n ws p more) same
  row_passes part (c ∷ cs) place more t off =
      let here : place + 0 ≡ place = omega arith in
      let past : suc place + length cs ≡ place + suc (length cs) = omega arith in
      word_passes place part c (row_for part cs ++ more) (first_legal c cs t) (subst (λ p. early part c p ≡ false) here (off 0 (zero-lt-suc (length cs))))
      ∙ row_passes part cs (suc place) more (rest_legal c cs t)
      (λ i h. let there : place + suc i ≡ suc place + i = omega arith in
      subst (λ p. early part (get_or cs i no_kept) p ≡ false) there (off (suc i) (suc-le-suc h)))
      ∙ ap (λ p. words_from n ws p more) past

  pub row_refused : (part : Part) (cs : List Kept) (place k : ℕ) (more : List ℕ) → all_legal cs ≡ true → k < length cs
      → early part (get_or cs k no_kept) (place + k) ≡ true
      → ((i : ℕ) → i < k → early part (get_or cs i no_kept) (place + i) ≡ false)
      → words_from n ws place (row_for part cs ++ more) ≡ refused 7 (place + k)
  row_refused part [] place k more t h on off = absurd (not-suc-le-zero h)
  row_refused part (c ∷ cs) place zero more t h on off =
      let here : place + 0 ≡ place = omega arith in
      word_stops place part c (row_for part cs ++ more) (first_legal c cs t) (subst (λ p. early part c p ≡ true) here on) ∙ ap (refused 7) (sym here)
  row_refused part (c ∷ cs) place (suc k) more t h on off =
      let here : place + 0 ≡ place = omega arith in
      let past : place + suc k ≡ suc place + k = omega arith in
      word_passes place part c (row_for part cs ++ more) (first_legal c cs t) (subst (λ p. early part c p ≡ false) here (off 0 (zero-lt-suc k)))
      ∙ row_refused part cs (suc place) k more (rest_legal c cs t) (le_of_suc-le-suc h)
      (subst (λ p. early part (get_or cs k no_kept) p ≡ true) past on)
      (λ i l. let there : place + suc i ≡ suc place + i = omega arith in
      subst (λ p. early part (get_or cs i no_kept) p ≡ false) there (off (suc i) (suc-le-suc l)))
      ∙ ap (refused 7) (sym past)
