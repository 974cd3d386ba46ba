-- Lines of each element of a list, one after another: a loop that puts them, and how long they can be. The loop's invariant is `Fills` of
-- crate base.
--     lines_left, left_room, left_more, left_over     the lines of the elements from a place on, put where the loop stands, make the whole
--     lines_room, lines_width                        how long such lines can be, and are
--     front_at, front_few, front_many                the first n elements of a list, at a place and past them
--     each_one                                       pieces of one number each are a mapped list
-- Assumes nothing.
use mathlib.Core.Path.{◌≡◌, refl, ap, sym, subst, ◌∙◌}
use mathlib.Core.List.{List, [], ◌∷◌, ◌++◌, map}
use Prim.Native.Nat.{ℕ, suc, ◌+◌, ◌*◌, ◌≤◌, ◌<◌}
use native.Mathlib.Nat.{min-le_right}
use native.Mathlib.Numerals.{add-one}
use native.Mathlib.Omega.{arith}
use lib.ListN.{length, get_or, take, drop, length-append, length-take, drop_of_length-le}
use lib.Seq.{drop-cons, get_or-take}
use Rattle.base.proofs.Lent.{Fills, fills_more, fills_room, fills_over}
use Rattle.lines.specs.Answers.{Puts}
use Rattle.lines.specs.Lines.{lines_at}

-- ---- a loop that puts them

-- the lines of the elements from a place on
abbrev pub lines_left : {A : Type 0} → (ℕ → A → List ℕ) → List A → ℕ → List ℕ
lines_left f xs k = lines_at f k (drop k xs)

module _ {A : Type 0} (f : ℕ → A → List ℕ) (xs : List A) where
  more : (k : ℕ) (d x : A) → k < length xs → get_or xs k d ≡ x → lines_left f xs k ≡ f k x ++ lines_left f xs (k + 1)
  unfolding lines_at
  more k d x h e =
      ap (lines_at f k) (drop-cons xs k d h ∙ ap (λ y. y ∷ drop (suc k) xs) e) ∙ ap (λ m. f k x ++ lines_left f xs m) (sym (add-one k))

  over : (k : ℕ) → length xs ≤ k → lines_left f xs k ≡ []
  unfolding lines_at
  over k h = ap (lines_at f k) (drop_of_length-le xs h)

  -- the lines left, put where the loop stands, make the whole
  module _ (at : ℕ) (out₀ : List ℕ) (room : at + length (lines_left f xs 0) ≤ length out₀)
      {end k : ℕ} {out : List ℕ} (filled : Fills at (lines_left f xs 0) out₀ end (lines_left f xs k) out) where
    next : (d x : A) → k < length xs → get_or xs k d ≡ x → Fills at (lines_left f xs 0) out₀ end (f k x ++ lines_left f xs (k + 1)) out
    next d x h e = subst (λ rest. Fills at (lines_left f xs 0) out₀ end rest out) (more k d x h e) filled

    pub left_room : (d x : A) → k < length xs → get_or xs k d ≡ x → end + length (f k x) ≤ length out
    left_room d x h e = fills_room (f k x) (lines_left f xs (k + 1)) (next d x h e) room

    pub left_more : (d x : A) → k < length xs → get_or xs k d ≡ x → {end' : ℕ} {out' : List ℕ} → Puts (f k x) end out end' out'
        → Fills at (lines_left f xs 0) out₀ end' (lines_left f xs (k + 1)) out'
    left_more d x h e p = fills_more (f k x) (lines_left f xs (k + 1)) (next d x h e) room p.answer p.bytes

    pub left_over : length xs ≤ k → Puts (lines_left f xs 0) at out₀ end out
    left_over h =
        let o = fills_over (subst (λ rest. Fills at (lines_left f xs 0) out₀ end rest out) (over k h) filled) in
        record { answer = o.0; bytes = o.1 }

pub lines_room : {A : Type 0} (f : ℕ → A → List ℕ) (width : ℕ) → ((k : ℕ) (x : A) → length (f k x) ≤ width)
    → (k : ℕ) (xs : List A) → length (lines_at f k xs) ≤ width * length xs
unfolding lines_at
lines_room f width each k [] = omega arith
lines_room f width each k (x ∷ xs) =
    omega (arith, length-append (f k x) (lines_at f (suc k) xs), each k x, lines_room f width each (suc k) xs)

pub lines_width : {A : Type 0} (f : ℕ → A → List ℕ) (width : ℕ) → ((k : ℕ) (x : A) → length (f k x) ≡ width)
    → (k : ℕ) (xs : List A) → length (lines_at f k xs) ≡ width * length xs
unfolding lines_at
lines_width f width each k [] = omega arith
lines_width f width each k (x ∷ xs) =
    omega (arith, length-append (f k x) (lines_at f (suc k) xs), each k x, lines_width f width each (suc k) xs)

pub each_one : {A : Type 0} (f : A → ℕ) (k : ℕ) (xs : List A) → lines_at (λ j x. f x ∷ []) k xs ≡ map f xs
unfolding lines_at
each_one f k [] = refl
each_one f k (x ∷ xs) = ap (λ rest. f x ∷ rest) (each_one f (suc k) xs)

-- ---- the first n

module _ {A : Type 0} (n : ℕ) (xs : List A) where
  pub front_at : (k : ℕ) (d : A) → k < n → k < length xs → (k < length (take n xs)) × (get_or (take n xs) k d ≡ get_or xs k d)
  front_at k d h l = (omega (arith, length-take n xs), get_or-take n xs k d h)

  pub front_few : (k : ℕ) → n ≤ k → length (take n xs) ≤ k
  front_few k h = omega (arith, length-take n xs)

  pub front_many : (k : ℕ) → length xs ≤ k → length (take n xs) ≤ k
  front_many k h = omega (arith, length-take n xs, min-le_right n (length xs))
