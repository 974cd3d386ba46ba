-- The numbers of a chain's records in a lent panel, one record after another.
--     part_rest              a part that goes to the end is the rest
--     put_at                 a piece put after a part of so many numbers
--     rows_suc, rows_more    the numbers of one record more
--     rows_few               and of the first n, no more than there are
--     chip_put               the next record's numbers put after those before it
--     head_put               numbers put after N and the levels, which are stored
-- Assumes nothing.
use mathlib.Core.Path.{◌≡◌, refl, ap, ap₂, sym, ◌∙◌}
use mathlib.Core.List.{List, [], ◌∷◌, ◌++◌, append_assoc, append-nil}
use Prim.Native.Nat.{ℕ, zero, suc, ◌+◌, ◌-◌, ◌*◌, ◌≤◌, ◌<◌, min}
use native.Mathlib.Nat.{not-suc-le-zero, le_of_suc-le-suc}
use native.Mathlib.Numerals.{add-one}
use native.Mathlib.Omega.{arith}
use lib.ListN.{length, get_or, take, drop, set, length-drop}
use lib.Seq.{take_all, take_at, drop_at}
use Rattle.base.specs.Lent.{laid, placed}
use Rattle.base.proofs.Lent.{placed_again}
use Rattle.base.proofs.Stores.{two_put}
use Rattle.base.proofs.Tests.{by_order}
use borrow.Rule.Slice.PartMut.{put_mid}
use Rattle.chip.specs.declared.Chip.{Chip}
use Rattle.zhaqsumir.specs.Panels.{record_numbers, row_numbers}

pub part_rest : (m : ℕ) (ns : List ℕ) → take (length ns - m) (drop m ns) ≡ drop m ns
part_rest m ns = take_all (length ns - m) (drop m ns) (omega (arith, length-drop m ns))

pub put_at : (ns rest piece : List ℕ) (at k : ℕ) → length ns ≡ at → put_mid at k (ns ++ rest) piece ≡ ns ++ (piece ++ drop k rest)
put_at ns rest piece at k e = ap₂ (λ p r. p ++ (piece ++ drop k r)) (take_at ns rest at e) (drop_at ns rest at e)

-- by the place as a definition recurses
pub rows_suc : (k : ℕ) (cs : List Chip) (d : Chip) → k < length cs → row_numbers (suc k) cs ≡ row_numbers k cs ++ record_numbers (get_or cs k d)
unfolding row_numbers
rows_suc k [] d h = absurd (not-suc-le-zero h)
rows_suc zero (c ∷ cs) d h = append-nil (record_numbers c)
rows_suc (suc k) (c ∷ cs) d h =
    ap (λ r. record_numbers c ++ r) (rows_suc k cs d (le_of_suc-le-suc h)) ∙ sym (append_assoc (record_numbers c) (row_numbers k cs) (record_numbers (get_or cs k d)))

pub rows_more : (k : ℕ) (cs : List Chip) (d : Chip) → k < length cs → row_numbers (k + 1) cs ≡ row_numbers k cs ++ record_numbers (get_or cs k d)
rows_more k cs d h = ap (λ n. row_numbers n cs) (add-one k) ∙ rows_suc k cs d h

-- all there are
rows_all : (k : ℕ) (cs : List Chip) → length cs ≤ k → row_numbers k cs ≡ row_numbers (length cs) cs
unfolding row_numbers
rows_all zero [] h = refl
rows_all (suc k) [] h = refl
rows_all zero (c ∷ cs) h = absurd (not-suc-le-zero h)
rows_all (suc k) (c ∷ cs) h = ap (λ r. record_numbers c ++ r) (rows_all k cs (le_of_suc-le-suc h))

-- of the first n, all there are
rows_front : (n : ℕ) (cs : List Chip) → row_numbers (length (take n cs)) (take n cs) ≡ row_numbers n cs
unfolding row_numbers
rows_front zero cs = refl
rows_front (suc n) [] = refl
rows_front (suc n) (c ∷ cs) = ap (λ r. record_numbers c ++ r) (rows_front n cs)

pub rows_few : (n most : ℕ) (cs : List Chip) → length cs ≡ most → row_numbers (length (take (min n most) cs)) (take (min n most) cs) ≡ row_numbers n cs
rows_few n most cs e =
    rows_front (min n most) cs
    ∙ by_order n most (λ h. ap (λ m. row_numbers m cs) (omega arith))
    (λ h. rows_all (min n most) cs (omega arith) ∙ sym (rows_all n cs (omega arith)))

pub chip_put : (out w piece : List ℕ) (k : ℕ) → length w ≡ 25 * k → length piece ≡ 25 → 2 + 25 * k + 25 ≤ length out
    → placed (2 + 25 * k) piece (placed 2 w out) ≡ placed 2 (w ++ piece) out
chip_put out w piece k before whole fits =
    let e : 2 + 25 * k ≡ 2 + length w = omega arith in
    ap (λ n. placed n piece (placed 2 w out)) e ∙ placed_again out 2 w piece (omega arith)

pub head_put : (ns w : List ℕ) (n levels : ℕ) → 2 + length w ≤ length ns → placed 2 w (set (set ns 0 n) 1 levels) ≡ laid (n ∷ levels ∷ w) ns
head_put ns w n levels fits = ap (placed 2 w) (two_put ns 0 n levels (omega arith)) ∙ placed_again ns 0 (n ∷ levels ∷ []) w fits
