-- Stores into a buffer, and a lent part that comes back, seen as pieces put.
--     one_put, two_put     one store, and two, are a piece put
--     part_put             so is a part that was lent and comes back with its elements exchanged
-- Assumes nothing.
use mathlib.Core.Path.{◌≡◌, ap, sym, ◌∙◌}
use mathlib.Core.List.{List, [], ◌∷◌, ◌++◌, append_assoc}
use Prim.Native.Nat.{ℕ, ◌+◌, ◌≤◌}
use native.Mathlib.Numerals.{add-one}
use lib.ListN.{length, set, take, drop}
use lib.Seq.{drop-drop, sets-eq}
use Rattle.base.specs.Lent.{placed}

pub one_put : (out : List ℕ) (at a : ℕ) → at + 1 ≤ length out → set out at a ≡ placed at (a ∷ []) out
one_put out at a h =
    sets-eq (a ∷ []) out at h ∙ append_assoc (take at out) (a ∷ []) (drop (at + 1) out) ∙ ap (λ r. take at out ++ a ∷ r) (sym (drop-drop 1 at out))

pub two_put : (out : List ℕ) (at a b : ℕ) → at + 2 ≤ length out → set (set out at a) (at + 1) b ≡ placed at (a ∷ b ∷ []) out
two_put out at a b h =
    ap (λ i. set (set out at a) i b) (add-one at)
    ∙ sets-eq (a ∷ b ∷ []) out at h
    ∙ append_assoc (take at out) (a ∷ b ∷ []) (drop (at + 2) out)
    ∙ ap (λ r. take at out ++ a ∷ b ∷ r) (sym (drop-drop 2 at out))

-- the k elements from a place on exchanged for a piece of k
pub part_put : (out : List ℕ) (at k : ℕ) (piece : List ℕ) → length piece ≡ k → take at out ++ (piece ++ drop k (drop at out)) ≡ placed at piece out
part_put out at k piece whole = ap (λ n. take at out ++ (piece ++ drop n (drop at out))) (sym whole)
