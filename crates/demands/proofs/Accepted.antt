-- What the writer's tests say of the rows: each word is listed, and none before the last chip turns the keypad on.
--     rows_accepted    every row of a list that the writer accepts has a word for each chip, fit for that chip
--     fit_rows         such rows are rows of n words below 4096
--     keyb_applied     a command that doesn't turn the keypad on leaves KEYB off where it was off
-- Assumes nothing.
use mathlib.Core.Path.{◌≡◌, refl, ap, subst, ◌∙◌}
use mathlib.Core.Bool.{Bool, true, false, not, ◌&&◌}
use mathlib.Core.List.{List, [], ◌∷◌}
use Prim.Native.Nat.{ℕ, zero, suc, ◌+◌, ◌-◌, ◌*◌, ◌/◌, ◌≤◌, ◌<◌, suc-le-suc}
use native.Mathlib.Nat.{div-mul-le_self, zero-mul, zero-add, zero-lt-suc, lt_of_lt_of_le}
use native.Mathlib.Omega.{arith}
use borrow.Author.Tests.{ne_eqb}
use lib.Arith.{digits_mod}
use lib.Dec.{eqb}
use lib.ListN.{length, get_or, drop, length-drop}
use lib.Seq.{get_or-take, get_or-drop, length-take-le}
use Rattle.base.specs.Pick.{pick}
use Rattle.base.specs.Refusals.{Told, IsDone, done, refused}
use Rattle.base.proofs.Picks.{pick_cases}
use Rattle.base.proofs.Tests.{by_order}
use Rattle.word.specs.Words.{decoded_of}
use Rattle.word.specs.declared.Command.{Command}
use Rattle.word.specs.declared.Command.TheVariants.{NoOperation, BarLevel, SegmentClear, SegmentSet, Reset, Sleep, ShiftLeft, ShiftRight, RotateLeft, RotateRight, CustomCharacter, SystemParameters, DisplayParameters, BlinkByte, ReadKey, LoadDigit}
use Rattle.word.proofs.Rows.{above_unlisted}
use Rattle.chip.specs.declared.Chip.{Chip}
use Rattle.chip.specs.Commands.{applied, obey, reset, system, read_key, woken}
use Rattle.base.specs.Below.{AllBelow}
use Rattle.writer.specs.Rows.{cut_rows, rows_of, keypad_on, for_last, word_test, sleep_test, list_test}
use Rattle.writer.proofs.Tests.{passed_first, list_passed}
use Rattle.demands.specs.Events.{word_for}
use Rattle.demands.proofs.Writes.{RowsOf}

-- ---- what an accepted word is

-- a word's meaning is fit for chip k: the word is listed, and before the last chip it doesn't turn the keypad on
abbrev pub Fit : ℕ → ℕ → Told Command → Type 0
Fit n k (done command) = suc k < n → keypad_on command ≡ false
Fit n k (refused number place) = ⊥

-- a row has a word for each of n chips, fit for it
pub record RowFits (n : ℕ) (row : List ℕ) : Type 0 where
  pub whole : length row ≡ n
  pub words : (k : ℕ) → k < n → Fit n k (decoded_of (word_for k row))

-- every row is such a one
abbrev pub Fits : ℕ → List (List ℕ) → Type 0
Fits n [] = Unit {0}
Fits n (row ∷ rows) = RowFits n row × Fits n rows

-- ---- the writer's tests

-- a word that passed the test at chip k's place of row m
word_fit : (n m k : ℕ) (o : Told Command) → k < n → IsDone (word_test n (m * n + k) o) → Fit n k o
word_fit n m k (refused number place) h t = t
word_fit n m k (done command) h t = λ l. off (keypad_on command) (subst (λ x. IsDone (pick (keypad_on command && not x) (refused 7 (m * n + k)) (done tt))) (not_last l) t)
  where
    not_last : suc k < n → for_last n (m * n + k) ≡ false
    not_last l = ap (λ x. eqb x (n - 1)) (digits_mod m h) ∙ ne_eqb k (n - 1) (λ e. omega arith)

    off : (b : Bool) → IsDone {A = Unit {0}} (pick (b && not false) (refused 7 (m * n + k)) (done tt)) → b ≡ false
    off true p = absurd p
    off false p = refl

-- so many rows, from row m on
rows_fit : (count n m : ℕ) (ws : List ℕ) → count * n ≤ length ws
    → ((p : ℕ) → p < length ws → IsDone (word_test n (m * n + p) (decoded_of (get_or ws p 0))))
    → Fits n (cut_rows count n ws)
unfolding cut_rows
rows_fit zero n m ws h t = tt
rows_fit (suc count) n m ws h t = (
  record {
    whole = length-take-le n ws enough;
    words = λ k l. rw (get_or-take n ws k 0 l) (word_fit n m k (decoded_of (get_or ws k 0)) l (t k (lt_of_lt_of_le l enough)));
  },
  rows_fit count n (suc m) (drop n ws) (simp length-drop (omega arith)) later,
)
  where
    enough : n ≤ length ws
    enough = omega arith

    later : (p : ℕ) → p < length (drop n ws) → IsDone (word_test n (suc m * n + p) (decoded_of (get_or (drop n ws) p 0)))
    later p h =
        let place : m * n + (n + p) ≡ suc m * n + p = omega arith in
        let inside : n + p < length ws = omega (arith, length-drop n ws) in
        rw (get_or-drop n ws p 0) (subst (λ x. IsDone (word_test n x (decoded_of (get_or ws (n + p) 0)))) place (t (n + p) inside))

pub rows_accepted : (n : ℕ) (ws : List ℕ) → list_test n ws ≡ done tt → Fits n (rows_of n ws)
rows_accepted n ws e =
    rows_fit (length ws / n) n 0 ws (div-mul-le_self (length ws) n)
    (λ p h. rw (zero-mul n, zero-add) (passed_first (word_test n p (decoded_of (get_or ws p 0))) (sleep_test n ws p (decoded_of (get_or ws p 0))) ((list_passed n ws e).each p h)))

-- ---- fit words as registers hold them

-- a list is below m if each of its elements is
each_below : (m : ℕ) (xs : List ℕ) → ((k : ℕ) → k < length xs → get_or xs k 0 < m) → AllBelow m xs
each_below m [] h = tt
each_below m (x ∷ xs) h = (h 0 (zero-lt-suc (length xs)), each_below m xs (λ k l. h (suc k) (suc-le-suc l)))

-- a fit word is below 4096
fit_below : (n k w : ℕ) → Fit n k (decoded_of w) → w < 4096
fit_below n k w f = by_order 4096 w (λ h. absurd (subst (Fit n k) (above_unlisted w h) f)) (λ h. h)

pub fit_rows : (n : ℕ) (rows : List (List ℕ)) → Fits n rows → RowsOf n rows
fit_rows n [] f = tt
fit_rows n (row ∷ rows) f = (
  f.0.whole,
  each_below 4096 row (λ k h. fit_below n k (get_or row k 0) (f.0.words k (subst (λ x. k < x) f.0.whole h))),
  fit_rows n rows f.1,
)

-- ---- what a fit command does to KEYB

-- KEYB off stays off, unless a system word turns it on
obey_keyb : (command : Command) (c : Chip) → keypad_on command ≡ false → c.settings.system.keyb ≡ false → (obey command c).settings.system.keyb ≡ false
unfolding obey reset system read_key
obey_keyb NoOperation c f e = e
obey_keyb (BarLevel level) c f e = e
obey_keyb (SegmentClear addr) c f e = e
obey_keyb (SegmentSet addr) c f e = e
obey_keyb Reset c f e = refl
obey_keyb Sleep c f e = e
obey_keyb ShiftLeft c f e = e
obey_keyb ShiftRight c f e = e
obey_keyb RotateLeft c f e = e
obey_keyb RotateRight c f e = e
obey_keyb (CustomCharacter shape) c f e = e
obey_keyb (SystemParameters s) c f e = pick_cases (λ (x : Chip). x.settings.system.keyb ≡ false) s.keyb (λ on. f) (λ off. f)
obey_keyb (DisplayParameters d) c f e = e
obey_keyb (BlinkByte byte) c f e = e
obey_keyb ReadKey c f e = pick_cases (λ (x : Chip). x.settings.system.keyb ≡ false) c.settings.system.keyb (λ on. e) (λ off. e)
obey_keyb (LoadDigit dig byte) c f e = e

pub keyb_applied : (command : Command) (c : Chip) → keypad_on command ≡ false → c.settings.system.keyb ≡ false → (applied command c).settings.system.keyb ≡ false
unfolding applied
keyb_applied command c = obey_keyb command (woken c)
