-- The table's rows are apart, so a word that begins as a row means what that row says, in whatever order the rows stand.
--     fits_row       a word that begins as row i means what row i says
--     no_row         a word that begins as no row is unlisted
-- Assumes nothing.
use mathlib.Core.Path.{◌≡◌, refl, ap, sym, subst, ◌∙◌}
use mathlib.Core.Bool.{Bool, true, not, ◌&&◌}
use mathlib.Core.List.{List, [], ◌∷◌}
use Prim.Native.Nat.{ℕ, zero, suc, ◌-◌, ◌/◌, ◌^◌, max, ◌≤◌, ◌<◌}
use native.Mathlib.Nat.{not-suc-le-zero, le_of_suc-le-suc, add-sub_of_le, le-max_left, le-max_right}
use borrow.Author.Tests.{eq-eqb, ne_eqb}
use lib.Dec.{T, eqb, ltb, ltb→lt, T_not, eqb_refl}
use lib.Pow.{shr-shr}
use native.Mathlib.Omega.{arith}
use lib.ListN.{length, get_or}
use Rattle.base.proofs.Picks.{pick_yes, pick_no}
use Rattle.base.specs.Below.{below}
use Rattle.base.proofs.Tests.{and_left, and_right, at_below}
use Rattle.word.specs.Words.{Row, table, look_up, decoded_of, unlisted}

-- a word begins as a row
abbrev pub Begins : ℕ → Row → Type 0
Begins w r = w / 2 ^ r.follow ≡ r.leading

-- a row's leading bits, seen from a higher bit on
top : Row → ℕ → ℕ
top r k = r.leading / 2 ^ (k - r.follow)

top_is : (w : ℕ) (r : Row) (k : ℕ) → r.follow ≤ k → Begins w r → w / 2 ^ k ≡ top r k
unfolding top
top_is w r k h b =
    ap (λ x. w / 2 ^ x) (sym (add-sub_of_le h)) ∙ sym (shr-shr w r.follow (k - r.follow)) ∙ ap (λ x. x / 2 ^ (k - r.follow)) b

-- two rows that no word begins as both
apart : Row → Row → Bool
apart r s = not (eqb (top r (max r.follow s.follow)) (top s (max r.follow s.follow)))

apart_is : (w : ℕ) (r s : Row) → T (apart r s) → Begins w r → Begins w s → ⊥
unfolding apart
apart_is w r s t b e =
    let k = max r.follow s.follow in
    T_not (eqb (top r k) (top s k)) t
    (eqb_of (sym (top_is w r k (le-max_left r.follow s.follow) b) ∙ top_is w s k (le-max_right r.follow s.follow) e))
  where
    eqb_of : {m n : ℕ} → m ≡ n → T (eqb m n)
    eqb_of {m} q = subst (λ (x : ℕ). T (eqb m x)) q (eqb_refl m)

-- row i is apart from each row before it
apart_before : List Row → ℕ → Row → Bool
apart_before [] i d = true
apart_before (r ∷ rs) zero d = true
apart_before (r ∷ rs) (suc i) d = apart r (get_or rs i d) && apart_before rs i d

row_of : (w : ℕ) (rs : List Row) (i : ℕ) (d : Row) → i < length rs → T (apart_before rs i d) → Begins w (get_or rs i d) → look_up rs w ≡ (get_or rs i d).means w
unfolding apart_before
row_of w [] i d h t b = absurd (not-suc-le-zero h)
row_of w (r ∷ rs) zero d h t b = pick_yes _ _ (eq-eqb _ _ b)
row_of w (r ∷ rs) (suc i) d h t b =
    pick_no _ _ (ne_eqb _ _ (λ e. apart_is w r (get_or rs i d) (and_left (apart r (get_or rs i d)) (apart_before rs i d) t) e b))
    ∙ row_of w rs i d (le_of_suc-le-suc h) (and_right (apart r (get_or rs i d)) (apart_before rs i d) t) b

-- a row that stands for none
abbrev pub none : Row
none = record { leading = 0; follow = 0; means = λ w. unlisted }

-- each row of the table is apart from those before it, as the checker computes
rows_apart : T (below (λ i. apart_before table i none) (length table))
unfolding apart_before apart top
rows_apart = tt

pub fits_row : (w i : ℕ) → T (ltb i (length table)) → Begins w (get_or table i none) → decoded_of w ≡ (get_or table i none).means w
unfolding decoded_of
fits_row w i t b =
    let h = ltb→lt i (length table) t in
    row_of w table i none h (at_below (λ n. apart_before table n none) (length table) rows_apart i h) b

-- a word begins as none of the rows
abbrev pub BeginsNone : ℕ → List Row → Type 0
BeginsNone w [] = Unit {0}
BeginsNone w (r ∷ rs) = (Begins w r → ⊥) × BeginsNone w rs

none_of : (w : ℕ) (rs : List Row) → BeginsNone w rs → look_up rs w ≡ unlisted
none_of w [] n = refl
none_of w (r ∷ rs) n = pick_no _ _ (ne_eqb _ _ n.0) ∙ none_of w rs n.1

pub no_row : (w : ℕ) → BeginsNone w table → decoded_of w ≡ unlisted
unfolding decoded_of
no_row w n = none_of w table n

pub above_unlisted : (w : ℕ) → 4096 ≤ w → decoded_of w ≡ unlisted
above_unlisted w h = no_row w (omega arith)
