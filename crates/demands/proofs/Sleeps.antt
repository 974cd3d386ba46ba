-- Refusal 13: the definition looks back row by row, and the table's words speak of the places of a list.
--     spoken_by, spoken_of                   what a word says, in the table's words
--     said_off, said_switch, said_sleep      what is said by a word that the table's words name
--     off_rows                               the search finds off exactly where a row before says so, and none after it has a reset or a system word
--     off_places                             and so exactly where the chip was switched off before the place, in the table's words
--     sleep_tests                            13, of a word that means a command
-- Assumes nothing.
use mathlib.Core.Path.{◌≡◌, refl, ap, ap₂, sym, subst, ◌∙◌}
use mathlib.Core.Bool.{Bool, true, false, not, ◌||◌}
use mathlib.Core.Logic.{inl, inr, ⊎_elim}
use mathlib.Core.List.{List}
use Prim.Native.Nat.{ℕ, zero, suc, ◌+◌, ◌*◌, ◌/◌, ◌%◌, ◌≤◌, ◌<◌}
use native.Mathlib.Nat.{div-add-mod', mul-le-mul_right, lt_of_mul-lt-mul_right, mod-lt, mod-zero, div-zero, zero-lt-suc, not-suc-le-zero, lt-suc_self, eq-or-lt_of_le, le_of_suc-le-suc}
use native.Mathlib.Omega.{arith}
use lib.Arith.{digits_mod, digits_div}
use lib.Dec.{T}
use lib.ListN.{get_or}
use Rattle.base.specs.Refusals.{Told, done, refused}
use Rattle.base.proofs.Picks.{pick_cases}
use Rattle.word.specs.declared.System.{System}
use Rattle.word.specs.declared.Command.{Command}
use Rattle.word.specs.declared.Command.TheVariants.{NoOperation, BarLevel, SegmentClear, SegmentSet, Reset, Sleep, ShiftLeft, ShiftRight, RotateLeft, RotateRight, CustomCharacter, SystemParameters, DisplayParameters, BlinkByte, ReadKey, LoadDigit}
use Rattle.word.specs.Words.{decoded_of, word_of}
use Rattle.word.proofs.RoundTrips.{command_back}
use Rattle.writer.specs.Lights.{Said, off, on, asleep, unsaid, said_by_bits, said_by_command, said_by_meaning, off_after, off_before, may_sleep, lit_sleep}
use Rattle.writer.proofs.Nearest.{row_before}
use Rattle.demands.specs.Refusals.{Switches, SwitchesOff, SwitchedOff, SleepsLit}
use Rattle.demands.proofs.Conditions.{Tests, passed, failed, same_tests}
use Rattle.demands.proofs.Listed.{own_word, system_own}

-- ---- what a command's word says, in the table's words

-- a word that says something is one that the table's words name
data Spoken (w : ℕ) : Said → Type 0 where
  spoken_off : SwitchesOff w → Spoken w off
  spoken_on : Switches w → Spoken w on
  spoken_asleep : word_of Sleep ≡ w → Spoken w asleep
  unspoken : Spoken w unsaid

spoken_by : (w : ℕ) (c : Command) → decoded_of w ≡ done c → Spoken w (said_by_command c)
spoken_by w NoOperation e = unspoken
spoken_by w (BarLevel level) e = unspoken
spoken_by w (SegmentClear addr) e = unspoken
spoken_by w (SegmentSet addr) e = unspoken
spoken_by w Reset e = spoken_off (inl (own_word w Reset e (λ q. omega arith) (λ q. omega arith)))
spoken_by w Sleep e = spoken_asleep (own_word w Sleep e (λ q. omega arith) (λ q. omega arith))
spoken_by w ShiftLeft e = unspoken
spoken_by w ShiftRight e = unspoken
spoken_by w RotateLeft e = unspoken
spoken_by w RotateRight e = unspoken
spoken_by w (CustomCharacter shape) e = unspoken
spoken_by w (SystemParameters s) e = go s.keyb s.disp refl refl
  where
    go : (k d : Bool) → s.keyb ≡ k → s.disp ≡ d → Spoken w (said_by_bits k d)
    go true d p q = spoken_on (inr (s, system_own w s e))
    go false true p q = spoken_on (inr (s, system_own w s e))
    go false false p q = spoken_off (inr (s, p, q, system_own w s e))
spoken_by w (DisplayParameters d) e = unspoken
spoken_by w (BlinkByte byte) e = unspoken
spoken_by w ReadKey e = unspoken
spoken_by w (LoadDigit dig byte) e = unspoken

spoken_of : (w : ℕ) → Spoken w (said_by_meaning (decoded_of w))
spoken_of w = go (decoded_of w) refl
  where
    go : (t : Told Command) → decoded_of w ≡ t → Spoken w (said_by_meaning t)
    go (done c) e = spoken_by w c e
    go (refused number place) e = unspoken

-- ---- and back

said_sleep : (w : ℕ) → word_of Sleep ≡ w → said_by_meaning (decoded_of w) ≡ asleep
said_sleep w e = ap (λ v. said_by_meaning (decoded_of v)) (sym e) ∙ ap said_by_meaning (command_back Sleep tt)

said_reset : (w : ℕ) → word_of Reset ≡ w → said_by_meaning (decoded_of w) ≡ off
said_reset w e = ap (λ v. said_by_meaning (decoded_of v)) (sym e) ∙ ap said_by_meaning (command_back Reset tt)

said_system : (w : ℕ) (s : System) → word_of (SystemParameters s) ≡ w → said_by_meaning (decoded_of w) ≡ said_by_bits s.keyb s.disp
said_system w s e = ap (λ v. said_by_meaning (decoded_of v)) (sym e) ∙ ap said_by_meaning (command_back (SystemParameters s) tt)

said_off : (w : ℕ) → SwitchesOff w → said_by_meaning (decoded_of w) ≡ off
said_off w (inl e) = said_reset w e
said_off w (inr (s, k, d, e)) = said_system w s e ∙ ap₂ said_by_bits k d

-- what a reset or a system word says
abbrev switching : Said → Bool
switching off = true
switching on = true
switching asleep = false
switching unsaid = false

said_switch : (w : ℕ) → Switches w → T (switching (said_by_meaning (decoded_of w)))
said_switch w (inl e) = subst (λ s. T (switching s)) (sym (said_reset w e)) tt
said_switch w (inr (s, e)) = subst (λ x. T (switching x)) (sym (said_system w s e)) (pick_cases (λ x. T (switching x)) (s.keyb || s.disp) (λ q. tt) (λ q. tt))

-- ---- by rows

module _ (n : ℕ) (ws : List ℕ) (k : ℕ) where
  -- chip k's word of a row
  abbrev word_in : ℕ → ℕ
  word_in row = get_or ws (row * n + k) 0

  -- a row before says off, and none after that one has a reset or a system word
  abbrev OffIn : ℕ → Type 0
  OffIn row = (r : ℕ) × (r < row) × SwitchesOff (word_in r) × ((m : ℕ) → r < m → m < row → Switches (word_in m) → ⊥)

  -- the last row before, or an earlier one
  last_or {ℓ} : {A : Type ℓ} (r row : ℕ) → r < suc row → (r ≡ row → A) → (r < row → A) → A
  last_or r row h f g = ⊎_elim f g (eq-or-lt_of_le (le_of_suc-le-suc h))

  -- a row that has neither is passed over
  passed_over : (row : ℕ) {b : Bool} → (Switches (word_in row) → ⊥) → Tests (OffIn row) b → Tests (OffIn (suc row)) b
  passed_over row quiet =
      same_tests
      (λ y. (
        y.0,
        omega (arith, y.1),
        y.2,
        λ m l u s. last_or m row u (λ e. quiet (subst (λ r. Switches (word_in r)) e s)) (λ v. y.3 m l v s),
      ))
      (λ y.
      last_or y.0 row y.1 (λ e. absurd (quiet (switches_off (subst (λ r. SwitchesOff (word_in r)) e y.2))))
      (λ l. (y.0, l, y.2, λ m p q. y.3 m p (omega arith))))
    where
      switches_off : {w : ℕ} → SwitchesOff w → Switches w
      switches_off (inl e) = inl e
      switches_off (inr (s, p, q, e)) = inr (s, e)

  off_rows : (row : ℕ) → Tests (OffIn row) (not (off_before n ws k row))
  unfolding off_before
  off_rows zero = passed (λ y. not-suc-le-zero y.1)
  off_rows (suc row) = go (off_before n ws k row) (said_by_meaning (decoded_of (word_in row))) refl (spoken_of (word_in row)) (off_rows row)
    where
      go : (b : Bool) (says : Said) → said_by_meaning (decoded_of (word_in row)) ≡ says → Spoken (word_in row) says → Tests (OffIn row) (not b)
          → Tests (OffIn (suc row)) (not (off_after says b))
      go b off e (spoken_off h) f = failed (row, lt-suc_self row, h, λ m l u s. omega arith)
      go b on e (spoken_on h) f =
          passed (λ y.
          last_or y.0 row y.1
          (λ q. subst (λ s. T (off_after s false)) (sym (said_off (word_in row) (subst (λ r. SwitchesOff (word_in r)) q y.2)) ∙ e) tt)
          (λ l. y.3 row l (lt-suc_self row) h))
      go b asleep e (spoken_asleep h) f = passed_over row (λ s. subst (λ x. T (switching x)) e (said_switch (word_in row) s)) f
      go b unsaid e unspoken f = passed_over row (λ s. subst (λ x. T (switching x)) e (said_switch (word_in row) s)) f

-- ---- by places

module _ (n : ℕ) (ws : List ℕ) (place : ℕ) (pos : 0 < n) where
  -- the chip of the place
  abbrev chip : ℕ
  chip = place % n

  -- a place of that chip, by its row, and the chip of such a place
  by_row : (q : ℕ) → q % n ≡ chip → q / n * n + chip ≡ q
  by_row q e = ap (λ x. q / n * n + x) (sym e) ∙ div-add-mod' q n

  of_chip : (r : ℕ) → (r * n + chip) % n ≡ chip
  of_chip r = digits_mod r (mod-lt place pos)

  -- its places are in the order of their rows
  in_order : (r m : ℕ) → r < m → r * n + chip < m * n + chip
  in_order r m h = let step : suc r * n ≤ m * n = mul-le-mul_right n h in omega arith

  row_order : (q p : ℕ) → q % n ≡ chip → p % n ≡ chip → q < p → q / n < p / n
  row_order q p d e h = lt_of_mul-lt-mul_right n (omega (arith, by_row q d, by_row p e))

  to_places : OffIn n ws chip (place / n) → SwitchedOff n ws place
  to_places (r, h, says, none) = (
    r * n + chip,
    (row_before n place r pos h, of_chip r),
    says,
    λ m l e s.
        none (m / n) (subst (λ x. x < m / n) (digits_div r (mod-lt place pos)) (row_order (r * n + chip) m (of_chip r) e.1 l)) (row_order m place e.1 refl e.0)
        (subst (λ q. Switches (get_or ws q 0)) (sym (by_row m e.1)) s),
  )

  to_rows : SwitchedOff n ws place → OffIn n ws chip (place / n)
  to_rows (q, e, says, none) = (
    q / n,
    row_order q place e.1 refl e.0,
    subst (λ p. SwitchesOff (get_or ws p 0)) (sym (by_row q e.1)) says,
    λ m l u s. none (m * n + chip) (subst (λ p. p < m * n + chip) (by_row q e.1) (in_order (q / n) m l)) (row_before n place m pos u, of_chip m) s,
  )

off_places : (n : ℕ) (ws : List ℕ) (place : ℕ) → Tests (SwitchedOff n ws place) (not (may_sleep n ws place))
unfolding off_before
off_places zero ws place = rw div-zero (passed (λ y. omega (arith, y.1.0, sym (mod-zero y.0) ∙ y.1.1 ∙ mod-zero place)))
off_places (suc n) ws place =
    same_tests (to_places (suc n) ws place (zero-lt-suc n)) (to_rows (suc n) ws place (zero-lt-suc n)) (off_rows (suc n) ws (place % suc n) (place / suc n))

-- ---- 13

pub sleep_tests : (n : ℕ) (ws : List ℕ) (place w : ℕ) (c : Command) → decoded_of w ≡ done c
    → Tests (SleepsLit n ws place w) (not (lit_sleep (said_by_command c) (may_sleep n ws place)))
sleep_tests n ws place w c e = go (may_sleep n ws place) (said_by_command c) (ap said_by_meaning e) (spoken_by w c e) (off_places n ws place)
  where
    -- of a word that says anything else
    other : {says : Said} → said_by_meaning (decoded_of w) ≡ says → (T (lit_sleep says false) → ⊥) → SleepsLit n ws place w → ⊥
    other q not_sleep y = not_sleep (subst (λ s. T (lit_sleep s false)) (sym (said_sleep w y.0) ∙ q) tt)

    go : (b : Bool) (says : Said) → said_by_meaning (decoded_of w) ≡ says → Spoken w says → Tests (SwitchedOff n ws place) (not b)
        → Tests (SleepsLit n ws place w) (not (lit_sleep says b))
    go b off q h f = passed (other q (λ t. t))
    go b on q h f = passed (other q (λ t. t))
    go true asleep q (spoken_asleep h) (failed y) = passed (λ z. z.1 y)
    go false asleep q (spoken_asleep h) (passed y) = failed (h, y)
    go b unsaid q h f = passed (other q (λ t. t))
