-- Pieces put into a lent buffer, one after another. A filling loop's invariant is `Fills`: what is left to put, put where the loop
-- stands, makes the whole.
--     placed_length, placed_take, placed_drop     the length, what is done with the piece, and what comes after it
--     laid_counts                                 a piece's length counts bytes at the front
--     placed_none, placed_again                   nothing put, and two pieces one after another
--     fills_start, fills_more, fills_over         a loop's start, one more piece, and its end
--     fills_room                                  the next piece fits where the whole does
-- Assumes nothing.
use mathlib.Core.Path.{◌≡◌, refl, ap, ap₂, sym, ◌∙◌}
use mathlib.Core.List.{List, [], ◌++◌, append_assoc}
use Prim.Native.Nat.{ℕ, ◌+◌, ◌≤◌}
use native.Mathlib.Omega.{arith}
use lib.ListN.{length, take, drop, length-append, length-drop, take-append-drop}
use lib.Seq.{length-take-le, take_at, drop_at, drop-drop}
use Rattle.base.specs.Lent.{laid, placed, Counts}

-- ---- one piece

module _ (out : List ℕ) (at : ℕ) (piece : List ℕ) (fits : at + length piece ≤ length out) where
  front : length (take at out ++ piece) ≡ at + length piece
  front = length-append (take at out) piece ∙ ap (λ n. n + length piece) (length-take-le at out (omega arith))

  pub placed_length : length (placed at piece out) ≡ length out
  placed_length =
      ap length (sym (append_assoc (take at out) piece (drop (length piece) (drop at out))))
      ∙ omega (arith, length-append (take at out ++ piece) (drop (length piece) (drop at out)), front, length-drop (length piece) (drop at out), length-drop at out)

  pub placed_take : take (at + length piece) (placed at piece out) ≡ take at out ++ piece
  placed_take =
      rw (← append_assoc) (take_at (take at out ++ piece) (drop (length piece) (drop at out)) (at + length piece) front)

  pub placed_drop : drop (at + length piece) (placed at piece out) ≡ drop (at + length piece) out
  placed_drop =
      rw (← append_assoc)
      (drop_at (take at out ++ piece) (drop (length piece) (drop at out)) (at + length piece) front ∙ drop-drop (length piece) at out)

pub laid_counts : (out piece : List ℕ) → length piece ≤ length out → Counts (length piece) (laid piece out)
laid_counts out piece fits =
    let whole : length piece ≤ length (laid piece out) = omega (arith, length-append piece (drop (length piece) out)) in
    (whole, sym (length-take-le (length piece) (laid piece out) whole))

-- ---- pieces one after another

pub placed_none : (out : List ℕ) (at : ℕ) → placed at [] out ≡ out
placed_none out at = take-append-drop at out

pub placed_again : (out : List ℕ) (at : ℕ) (p q : List ℕ) → at + length p + length q ≤ length out
    → placed (at + length p) q (placed at p out) ≡ placed at (p ++ q) out
placed_again out at p q fits =
    ap₂ (λ xs ys. xs ++ (q ++ ys)) (placed_take out at p (omega arith)) rest
    ∙ append_assoc (take at out) p (q ++ drop (length (p ++ q)) (drop at out))
    ∙ ap (λ xs. take at out ++ xs) (sym (append_assoc p q (drop (length (p ++ q)) (drop at out))))
  where
    rest : drop (length q) (drop (at + length p) (placed at p out)) ≡ drop (length (p ++ q)) (drop at out)
    rest =
        ap (drop (length q)) (placed_drop out at p (omega arith) ∙ sym (drop-drop (length p) at out))
        ∙ drop-drop (length q) (length p) (drop at out)
        ∙ ap (λ n. drop n (drop at out)) (sym (length-append p q))

-- ---- a filling loop

pub record Fills (at₀ : ℕ) (whole out₀ : List ℕ) (at : ℕ) (rest out : List ℕ) : Type 0 where
  pub bytes : placed at rest out ≡ placed at₀ whole out₀
  pub count : at + length rest ≡ at₀ + length whole
  pub size : length out ≡ length out₀

pub fills_start : (at : ℕ) (whole out : List ℕ) → Fills at whole out at whole out
fills_start at whole out = record { bytes = refl; count = refl; size = refl }

pub fills_more : {at₀ : ℕ} {whole out₀ : List ℕ} {at : ℕ} (piece rest : List ℕ) {out : List ℕ}
    → Fills at₀ whole out₀ at (piece ++ rest) out
    → at₀ + length whole ≤ length out₀
    → {at' : ℕ} {out' : List ℕ} → at' ≡ at + length piece → out' ≡ placed at piece out
    → Fills at₀ whole out₀ at' rest out'
fills_more {at₀} {whole} {out₀} {at} piece rest {out} f room {at'} {out'} a o =
    let split = length-append piece rest in
    let fits : at + length piece + length rest ≤ length out = omega (arith, f.count, f.size) in
    record {
      bytes = ap₂ (λ n xs. placed n rest xs) a o ∙ placed_again out at piece rest fits ∙ f.bytes;
      count = omega (arith, f.count);
      size = ap length o ∙ placed_length out at piece (omega arith) ∙ f.size;
    }

pub fills_room : {at₀ : ℕ} {whole out₀ : List ℕ} {at : ℕ} (piece rest : List ℕ) {out : List ℕ}
    → Fills at₀ whole out₀ at (piece ++ rest) out
    → at₀ + length whole ≤ length out₀
    → at + length piece ≤ length out
fills_room piece rest f room = omega (arith, length-append piece rest, f.count, f.size)

pub fills_over : {at₀ : ℕ} {whole out₀ : List ℕ} {at : ℕ} {out : List ℕ} → Fills at₀ whole out₀ at [] out
    → (at ≡ at₀ + length whole) × (out ≡ placed at₀ whole out₀)
fills_over {at₀} {whole} {out₀} {at} {out} f = (omega (arith, f.count), sym (placed_none out at) ∙ f.bytes)
