-- The words of a list, tested from the first on.
--     told_on                                the refusal of a test, handed on by a `?`
--     words_after, words_over                the test of the rest, seen from a place in the middle
--     passed_first, passed_next              two tests that were passed
--     list_passed                            what a list that passed its tests has
-- Assumes nothing.
use mathlib.Core.Path.{◌≡◌, ap, sym, subst, ◌∙◌}
use mathlib.Core.Bool.{Bool, true, false}
use mathlib.Core.List.{List, [], ◌∷◌}
use Prim.Native.Nat.{ℕ, zero, suc, ◌+◌, ◌/◌, ◌%◌, ◌≤◌, ◌<◌, ◌*◌}
use native.Mathlib.Nat.{div-add-mod', mul-le-mul_right, zero-add, not-suc-le-zero, le_of_suc-le-suc}
use native.Mathlib.Omega.{arith}
use native.Mathlib.Numerals.{add-one}
use lib.Dec.{T, eqb, leb, eqb→eq, leb→le}
use lib.ListN.{length, get_or, drop, drop_of_length-le}
use lib.Seq.{drop-cons}
use Rattle.base.specs.Pick.{pick}
use Rattle.base.specs.Refusals.{Told, IsDone, done, refused, refused_by, tells}
use Rattle.chain.specs.Chain.{most, chip_count}
use Rattle.chain.proofs.Tested.{count_low, count_high}
use Rattle.writer.specs.Rows.{or_else, test_at, words_from, list_test}
use Rattle.std.specs.Result.{IsErrAnd}
use Rattle.std.specs.declared.result.Result.{Result}
use Rattle.std.specs.declared.result.Result.TheVariants.{Err}
use Rattle.std.proofs.lemmas.Result.{err_from_is_err_and}
use Rattle.base.specs.declared.Refusal.{Refusal}

-- a refusal that a `?` hands on tells what it told
pub told_on : {A : Type 0} (e : Refusal) (r : Result A Refusal) → IsErrAnd r (λ y. y ≡ e) → tells r ≡ refused_by e
told_on e r h =
    let p = err_from_is_err_and r h in
    ap tells (p.1 ∙ ap Err p.2)

words_more : (n : ℕ) (ws : List ℕ) (i : ℕ) → i < length ws
    → words_from n ws i (drop i ws) ≡ or_else (test_at n ws i (get_or ws i 0)) (words_from n ws (i + 1) (drop (i + 1) ws))
unfolding words_from
words_more n ws i h =
    ap (words_from n ws i) (drop-cons ws i 0 h)
    ∙ ap (λ m. or_else (test_at n ws i (get_or ws i 0)) (words_from n ws m (drop m ws))) (sym (add-one i))

-- by what the test of the word there says
pub words_after : (n : ℕ) (ws : List ℕ) (i : ℕ) → i < length ws → (t : Told (Unit {0})) → t ≡ test_at n ws i (get_or ws i 0)
    → or_else t (words_from n ws (i + 1) (drop (i + 1) ws)) ≡ words_from n ws i (drop i ws)
words_after n ws i h t e = ap (λ u. or_else u (words_from n ws (i + 1) (drop (i + 1) ws))) e ∙ sym (words_more n ws i h)

pub words_over : (n : ℕ) (ws : List ℕ) (i : ℕ) → length ws ≤ i → words_from n ws i (drop i ws) ≡ done tt
unfolding words_from
words_over n ws i h = ap (words_from n ws i) (drop_of_length-le ws h)

-- ---- a list that passed

four_passed : (a b c : Bool) (t : Told (Unit {0})) → IsDone (pick a (pick b (pick c t (refused 5 0)) (refused 4 0)) (refused 3 0)) → T a × T b × T c × IsDone t
four_passed true true true t p = (tt, tt, tt, p)
four_passed true true false t p = absurd p
four_passed true false c t p = absurd p
four_passed false b c t p = absurd p

pub passed_first : (t next : Told (Unit {0})) → IsDone (or_else t next) → IsDone t
passed_first (done u) next p = tt
passed_first (refused number place) next p = p

pub passed_next : (t next : Told (Unit {0})) → IsDone (or_else t next) → IsDone next
passed_next (done u) next p = p
passed_next (refused number place) next p = absurd p

-- the test of each place, for words that passed
words_at : (n : ℕ) (all : List ℕ) (place : ℕ) (ws : List ℕ) → IsDone (words_from n all place ws)
    → (p : ℕ) → p < length ws → IsDone (test_at n all (place + p) (get_or ws p 0))
unfolding words_from
words_at n all place [] t p h = absurd (not-suc-le-zero h)
words_at n all place (w ∷ ws) t zero h =
    subst (λ x. IsDone (test_at n all x w)) same (passed_first (test_at n all place w) (words_from n all (suc place) ws) t)
  where
    same : place ≡ place + 0
    same = omega arith
words_at n all place (w ∷ ws) t (suc p) h =
    subst (λ x. IsDone (test_at n all x (get_or ws p 0))) same
    (words_at n all (suc place) ws (passed_next (test_at n all place w) (words_from n all (suc place) ws) t) p (le_of_suc-le-suc h))
  where
    same : suc place + p ≡ place + suc p
    same = omega arith

-- what a list that passed its tests has: 1 to the most chips, whole rows, at most 64 of them, and so at most 64 times as many words, each
-- of which passed its own
pub record Passed (n : ℕ) (ws : List ℕ) : Type 0 where
  pub low : 1 ≤ n
  pub high : n ≤ most
  pub whole : length ws % n ≡ 0
  pub rows : length ws / n ≤ 64
  pub words : length ws ≤ 64 * most
  pub each : (p : ℕ) → p < length ws → IsDone (test_at n ws p (get_or ws p 0))

pub list_passed : (n : ℕ) (ws : List ℕ) → list_test n ws ≡ done tt → Passed n ws
unfolding list_test
list_passed n ws e =
    let t = four_passed (chip_count n) (eqb (length ws % n) 0) (leb (length ws / n) 64) (words_from n ws 0 ws) (subst IsDone (sym e) tt) in
    let h = count_high n t.0 in
    let z = eqb→eq (length ws % n) 0 t.1 in
    let r = leb→le (length ws / n) 64 t.2 in
    record {
      low = count_low n t.0;
      high = h;
      whole = z;
      rows = r;
      words = omega (arith, div-add-mod' (length ws) n, mul-le-mul_right n r);
      each = λ p l. subst (λ x. IsDone (test_at n ws x (get_or ws p 0))) (zero-add p) (words_at n ws 0 ws t.3 p l);
    }
