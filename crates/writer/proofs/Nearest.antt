-- The search for a chip's nearest earlier reset or system word, row by row back from a place.
--     row_before     the chip's word in a row before stands before the place
--     off_found      what the next word says, and what those before it say, is what is said before the rows that were passed
-- Assumes nothing.
use mathlib.Core.Path.{◌≡◌, ap, sym, ◌∙◌}
use mathlib.Core.List.{List}
use Prim.Native.Nat.{ℕ, suc, ◌+◌, ◌-◌, ◌*◌, ◌/◌, ◌%◌, ◌≤◌, ◌<◌}
use native.Mathlib.Nat.{div-add-mod', mul-le-mul_right}
use native.Mathlib.Omega.{arith}
use lib.ListN.{get_or}
use Rattle.word.specs.Words.{decoded_of}
use Rattle.writer.specs.declared.lights.Lights.{Lights}
use Rattle.writer.specs.Lights.{said_in, said_by_meaning, off_after, off_before}

pub row_before : (n place row : ℕ) → 0 < n → row < place / n → row * n + place % n < place
row_before n place row h l = let next : suc row * n ≤ place / n * n = mul-le-mul_right n l in omega (arith, div-add-mod' place n)

pub off_found : (n : ℕ) (ws : List ℕ) (k row : ℕ) → 0 < row → {found : Lights}
    → said_in found ≡ said_by_meaning (decoded_of (get_or ws ((row - 1) * n + k) 0))
    → (says : Lights) → found ≡ says
    → off_after (said_in says) (off_before n ws k (row - 1)) ≡ off_before n ws k row
unfolding off_before
off_found n ws k row h told says e =
    ap (λ l. off_after l (off_before n ws k (row - 1))) (ap said_in (sym e) ∙ told) ∙ ap (off_before n ws k) next
  where
    next : suc (row - 1) ≡ row
    next = omega arith
