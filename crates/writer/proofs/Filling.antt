-- A buffer filled from its front: a word's 24 samples two by two, and a lent part put back.
--     clocking_append, clocking_length     samples of bits one after another, and their number
--     word_length, word_samples, word_bit  a word is 12 bits and 24 samples, each bit the field of one bit at its place
--     row_last                             a row's last word is sent first
--     row_samples_length                   a row's samples are 24 for each word, and 2
--     word_more, word_over                 one more bit of a word, and all of them
--     put_same                             a lent part put back, by numbers and a part that are equal
--     put_take, put_drop                   what is done with the part, and what comes after it
-- Assumes nothing.
use mathlib.Core.Path.{◌≡◌, refl, ap, ap₂, sym, ◌∙◌}
use mathlib.Core.List.{List, [], ◌∷◌, ◌++◌, append_assoc, append-nil}
use Prim.Native.Nat.{ℕ, zero, suc, ◌+◌, ◌*◌, ◌≤◌, ◌<◌}
use native.Mathlib.Nat.{le_of_suc-le-suc}
use native.Mathlib.Numerals.{add-one}
use native.Mathlib.Omega.{arith}
use lib.ListN.{length, get_or, set, take, drop, length-append, length-set, drop_of_length-le}
use lib.Seq.{take_all, drop-cons, take-suc-set}
use Rattle.base.specs.Bits.{cut}
use Rattle.base.specs.Lent.{placed}
use Rattle.base.proofs.Lent.{placed_take, placed_drop}
use Rattle.base.proofs.Stores.{part_put}
use Rattle.writer.specs.Rows.{row_samples, word_bits, row_bits, clocking}

-- ---- bits and samples

pub clocking_append : (base : ℕ) (xs ys : List ℕ) → clocking base (xs ++ ys) ≡ clocking base xs ++ clocking base ys
unfolding clocking
clocking_append base [] ys = refl
clocking_append base (x ∷ xs) ys = ap (λ r. (base + x) ∷ (base + 2 + x) ∷ r) (clocking_append base xs ys)

pub clocking_length : (base : ℕ) (xs : List ℕ) → length (clocking base xs) ≡ 2 * length xs
unfolding clocking
clocking_length base [] = refl
clocking_length base (x ∷ xs) = omega (arith, clocking_length base xs)

-- the first n values of f
up_to : (ℕ → ℕ) → ℕ → List ℕ
up_to f zero = []
up_to f (suc n) = f 0 ∷ up_to (λ k. f (suc k)) n

up_to_at : (f : ℕ → ℕ) (n k : ℕ) → k < n → get_or (up_to f n) k 0 ≡ f k
unfolding up_to
up_to_at f zero k h = absurd (omega arith)
up_to_at f (suc n) zero h = refl
up_to_at f (suc n) (suc k) h = up_to_at (λ k. f (suc k)) n k (le_of_suc-le-suc h)

pub word_length : (w : ℕ) → length (word_bits w) ≡ 12
unfolding word_bits
word_length w = refl

-- and its samples are 24
pub word_samples : (w : ℕ) → length (clocking 4 (word_bits w)) ≡ 24
word_samples w = omega (arith, clocking_length 4 (word_bits w), word_length w)

pub word_bit : (w at : ℕ) → at < 12 → get_or (word_bits w) at 0 ≡ cut w at 1
unfolding word_bits up_to
word_bit w at h = up_to_at (λ k. cut w k 1) 12 at h

-- the rest of a word's bits begins with the bit at its place
word_rest : (w at : ℕ) → at < 12 → drop at (word_bits w) ≡ cut w at 1 ∷ drop (at + 1) (word_bits w)
word_rest w at h =
    drop-cons (word_bits w) at 0 (omega (arith, word_length w))
    ∙ ap₂ (λ b n. b ∷ drop n (word_bits w)) (word_bit w at h) (sym (add-one at))

pub row_last : (ws : List ℕ) (w : ℕ) → row_bits (ws ++ (w ∷ [])) ≡ word_bits w ++ row_bits ws
unfolding row_bits
row_last [] w = sym (append-nil (word_bits w))
row_last (v ∷ ws) w = ap (λ r. r ++ word_bits v) (row_last ws w) ∙ append_assoc (word_bits w) (row_bits ws) (word_bits v)

pub row_length : (ws : List ℕ) → length (row_bits ws) ≡ 12 * length ws
unfolding row_bits word_bits
row_length [] = refl
row_length (w ∷ ws) = omega (arith, length-append (row_bits ws) (word_bits w), row_length ws)

pub row_samples_length : (row : List ℕ) → length (row_samples row) ≡ 24 * length row + 2
unfolding row_samples
row_samples_length row =
    omega (arith, length-append (clocking 4 (row_bits row)) (3 ∷ 7 ∷ []), clocking_length 4 (row_bits row), row_length row)

-- ---- one word

-- two stores, one after another, past what was done
two_more : (out : List ℕ) (i a b : ℕ) → i + 2 ≤ length out → take (i + 2) (set (set out i a) (i + 1) b) ≡ take i out ++ (a ∷ b ∷ [])
two_more out i a b h =
    ap₂ (λ n m. take n (set (set out i a) m b)) two (add-one i)
    ∙ take-suc-set (set out i a) (suc i) b (omega (arith, length-set out i a))
    ∙ ap (λ r. r ++ (b ∷ [])) (take-suc-set out i a (omega arith))
    ∙ append_assoc (take i out) (a ∷ []) (b ∷ [])
  where
    two : i + 2 ≡ suc (suc i)
    two = omega arith

pub word_more : (w at : ℕ) (out : List ℕ) → at < 12 → length out ≡ 24
    → take ((at + 1) * 2) (set (set out (at * 2) (4 + cut w at 1)) (at * 2 + 1) (6 + cut w at 1)) ++ clocking 4 (drop (at + 1) (word_bits w))
    ≡ take (at * 2) out ++ clocking 4 (drop at (word_bits w))
unfolding clocking
word_more w at out h l =
    ap (λ n. take n (set (set out (at * 2) low) (at * 2 + 1) high) ++ rest) next
    ∙ ap (λ r. r ++ rest) (two_more out (at * 2) low high (omega arith))
    ∙ append_assoc (take (at * 2) out) (low ∷ high ∷ []) rest
    ∙ ap (λ bs. take (at * 2) out ++ clocking 4 bs) (sym (word_rest w at h))
  where
    low : ℕ
    low = 4 + cut w at 1

    high : ℕ
    high = 6 + cut w at 1

    rest : List ℕ
    rest = clocking 4 (drop (at + 1) (word_bits w))

    next : (at + 1) * 2 ≡ at * 2 + 2
    next = omega arith

pub word_over : (w : ℕ) (out : List ℕ) (at : ℕ) → 12 ≤ at → length out ≡ 24 → take (at * 2) out ++ clocking 4 (drop at (word_bits w)) ≡ out
unfolding clocking
word_over w out at h l =
    ap₂ (λ r bs. r ++ clocking 4 bs) (take_all (at * 2) out (omega arith)) (drop_of_length-le (word_bits w) {i = at} (omega (arith, word_length w)))
    ∙ append-nil out

-- ---- a part in the middle comes back

-- a list whose k elements from a are replaced
abbrev pub put : List ℕ → ℕ → ℕ → List ℕ → List ℕ
put out a k ys = take a out ++ (ys ++ drop k (drop a out))

pub put_same : (out : List ℕ) {a b k m : ℕ} {xs ys : List ℕ} → a ≡ b → k ≡ m → xs ≡ ys → put out a k xs ≡ put out b m ys
put_same out {b = b} {m = m} {xs = xs} p q e = ap₂ (λ i n. put out i n xs) p q ∙ ap (put out b m) e

module _ (out : List ℕ) (a k : ℕ) (ys : List ℕ) (fits : a + k ≤ length out) (whole : length ys ≡ k) where
  -- it is the piece put from a on
  put_is : put out a k ys ≡ placed a ys out
  put_is = part_put out a k ys whole

  within : a + length ys ≤ length out
  within = omega arith

  end : a + k ≡ a + length ys
  end = omega arith

  pub put_take : take (a + k) (put out a k ys) ≡ take a out ++ ys
  put_take = ap₂ take end put_is ∙ placed_take out a ys within

  pub put_drop : drop (a + k) (put out a k ys) ≡ drop (a + k) out
  put_drop = ap₂ drop end put_is ∙ placed_drop out a ys within ∙ ap (λ n. drop n out) (sym end)
