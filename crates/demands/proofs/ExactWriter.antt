-- Demand 1, the exact table, of the writer: specs/Tables.antt.
--     write_exact
-- Assumes nothing.
use mathlib.Core.Path.{◌≡◌, refl, sym, subst}
use mathlib.Core.Bool.{not, ◌&&◌}
use mathlib.Core.List.{List, [], ◌∷◌, ◌++◌}
use Prim.Native.Nat.{ℕ, suc, ◌/◌, ◌%◌}
use native.Mathlib.Nat.{div-add-mod', mul-mod_left}
use native.Mathlib.Omega.{arith}
use lib.Dec.{leb, eqb}
use lib.ListN.{length}
use Rattle.base.specs.Refusals.{Told, IsDone, done, refused}
use Rattle.word.specs.declared.Command.{Command}
use Rattle.word.specs.Words.{decoded_of}
use Rattle.writer.specs.Lights.{said_by_command, may_sleep, lit_sleep}
use Rattle.writer.specs.Rows.{keypad_on, for_last, word_test, sleep_test, or_else, test_at, words_from, list_test}
use Rattle.writer.specs.Written.{room, answer_by, answer_of}
use Rattle.demands.specs.Exact.{Row, names, row, each, Exactly}
use Rattle.demands.specs.Refusals.{NotMultiple, SleepsLit}
use Rattle.demands.specs.Tables.{decode_table, word_row, write_table}
use Rattle.demands.proofs.Conditions.{Tests, same_tests, leb_tests, eqb_tests, count_tests}
use Rattle.demands.proofs.ByTable.{ByTable, answered, here, later, by_table, tested, tested_not, stays, goes_on}
use Rattle.demands.proofs.Listed.{decoded_table, keypad_tests}
use Rattle.demands.proofs.Sleeps.{sleep_tests}

-- ---- 4

-- a length that leaves a rest is no multiple
no_multiple : (n : ℕ) (ws : List ℕ) → (length ws % n ≡ 0 → ⊥) → NotMultiple n ws
no_multiple n ws ne rows e = ne (subst (λ m. m % n ≡ 0) (sym e) (mul-mod_left rows n))

rest : (n : ℕ) (ws : List ℕ) → NotMultiple n ws → length ws % n ≡ 0 → ⊥
rest n ws none e = none (length ws / n) (omega (arith, div-add-mod' (length ws) n))

multiple_tests : (n : ℕ) (ws : List ℕ) → Tests (NotMultiple n ws) (eqb (length ws % n) 0)
multiple_tests n ws = same_tests (no_multiple n ws) (rest n ws) (eqb_tests (length ws % n) 0)

-- ---- words

or_else_lem : (t next : Told (Unit {0})) {rows : List Row} (more : List Row) → ByTable t rows → ByTable next more → ByTable (or_else t next) (rows ++ more)
or_else_lem (done u) next more y z = goes_on y z
or_else_lem (refused number place) next more y z = stays more y

word_test_lem : (n : ℕ) (ws : List ℕ) (place w : ℕ) → ByTable (test_at n ws place w) (word_row n ws place w)
word_test_lem n ws place w = go (decoded_of w) refl (decoded_table w)
  where
    go : (t : Told Command) → decoded_of w ≡ t → ByTable t (decode_table w)
        → ByTable (or_else (word_test n place t) (sleep_test n ws place t)) (word_row n ws place w)
    go (done c) e (here g f) = absurd (subst IsDone f tt)
    go (done c) e (later k y) =
        later k
        (or_else_lem (word_test n place (done c)) (sleep_test n ws place (done c)) (names 13 place (SleepsLit n ws place w) ∷ [])
        (tested_not (keypad_on c && not (for_last n place)) (done tt) (keypad_tests n place w c e) (answered tt))
        (tested_not (lit_sleep (said_by_command c) (may_sleep n ws place)) (done tt) (sleep_tests n ws place w c e) (answered tt)))
    go (refused number at) e (here g f) = here g refl
    go (refused number at) e (later k (answered d)) = absurd d

words_test : (n : ℕ) (all : List ℕ) (place : ℕ) (ws : List ℕ) → ByTable (words_from n all place ws) (each (word_row n all) place ws)
unfolding words_from
words_test n all place [] = answered tt
words_test n all place (w ∷ ws) =
    or_else_lem (test_at n all place w) (words_from n all (suc place) ws) (each (word_row n all) (suc place) ws) (word_test_lem n all place w)
    (words_test n all (suc place) ws)

-- ---- the entry

answer_by_lem : (t : Told (Unit {0})) (need have : ℕ) (G : Type 0) {rows : List Row} → Tests G (leb need have) → ByTable t rows
    → ByTable (answer_by t need have) (rows ++ row 8 G ∷ [])
answer_by_lem (done u) need have G t y = goes_on y (tested (done need) t (answered tt))
answer_by_lem (refused number place) need have G t y = stays (row 8 G ∷ []) y

pub write_exact : (n : ℕ) (words out : List ℕ) → Exactly (answer_of n words out) (write_table n words out)
unfolding answer_of list_test
write_exact n ws out =
    by_table
    (answer_by_lem (list_test n ws) (room n ws) (length out) _ (leb_tests (room n ws) (length out))
    (tested _ (count_tests n)
    (tested _ (multiple_tests n ws) (tested (words_from n ws 0 ws) (leb_tests (length ws / n) 64) (words_test n ws 0 ws)))))
