-- A row's bits clocked through a chain: its words stand in the registers, whatever stood there.
--     row_bits_below     a row's bits are bits
--     row_value          as one number they are the row
--     row_law            clocked through as many registers, a row's words stand in them
-- Assumes nothing.
use mathlib.Core.Path.{◌≡◌, refl, ap, ap₂, sym, ◌∙◌}
use mathlib.Core.List.{List, [], ◌∷◌, ◌++◌}
use Prim.Native.Nat.{ℕ, ◌+◌, ◌*◌, ◌/◌, ◌^◌, ◌<◌}
use native.Mathlib.Nat.{add_comm, pow-suc, mul_assoc}
use native.Mathlib.Omega.{arith}
use lib.Arith.{digits_div}
use lib.Pow.{pow-add}
use lib.ListN.{length, length-append}
use Rattle.base.specs.Below.{AllBelow}
use Rattle.base.proofs.Cuts.{cut_lt}
use Rattle.base.proofs.Tests.{eq_below}
use Rattle.base.proofs.Lists.{below_append}
use Rattle.chain.proofs.Shift.{pushes, long, value, pushes_length, pushes_below, shift_law, long_lt, long_inj}
use Rattle.writer.specs.Rows.{word_bits, row_bits}

-- bits one after another, as one number
value_append : (xs ys : List ℕ) → value (xs ++ ys) ≡ value xs + value ys * 2 ^ length xs
unfolding value
value_append [] ys = omega arith
value_append (x ∷ xs) ys =
    let more = ap (λ y. value ys * y) (pow-suc 2 (length xs)) ∙ sym (mul_assoc (value ys) (2 ^ length xs) 2) in
    omega (arith, more, value_append xs ys)

-- a word's bits are the word
word_value : (w : ℕ) → w < 4096 → value (word_bits w) ≡ w
unfolding value word_bits
word_value = eq_below (λ w. value (word_bits w)) (λ w. w) 4096 tt

word_bits_below : (w : ℕ) → AllBelow 2 (word_bits w)
unfolding word_bits
word_bits_below w =
    (cut_lt w 0 1, (cut_lt w 1 1, (cut_lt w 2 1, (cut_lt w 3 1, (cut_lt w 4 1, (cut_lt w 5 1, (cut_lt w 6 1, (cut_lt w 7 1, (cut_lt w 8 1, (cut_lt w 9 1, (cut_lt w 10 1, (cut_lt w 11 1, tt))))))))))))

pub row_bits_below : (ws : List ℕ) → AllBelow 2 (row_bits ws)
unfolding row_bits
row_bits_below [] = tt
row_bits_below (w ∷ ws) = below_append 2 (row_bits ws) (word_bits w) (row_bits_below ws) (word_bits_below w)

-- so many bits are as many places to base 4096
row_power : (ws : List ℕ) → 2 ^ length (row_bits ws) ≡ 4096 ^ length ws
unfolding row_bits word_bits
row_power [] = refl
row_power (w ∷ ws) =
    ap (λ x. 2 ^ x) (length-append (row_bits ws) (word_bits w)) ∙ pow-add 2 (length (row_bits ws)) 12 ∙ ap (λ x. x * 4096) (row_power ws) ∙ sym (pow-suc 4096 (length ws))

pub row_value : (ws : List ℕ) → AllBelow 4096 ws → value (row_bits ws) ≡ long ws
unfolding row_bits long value
row_value [] a = refl
row_value (w ∷ ws) a =
    let top = ap₂ (λ x y. x * y) (word_value w a.0) (row_power ws) in
    omega (arith, top, value_append (row_bits ws) (word_bits w), row_value ws a.1)

pub row_law : (ws rs : List ℕ) → AllBelow 4096 ws → AllBelow 4096 rs → length ws ≡ length rs → pushes (row_bits ws) rs ≡ ws
row_law ws rs a b l =
    long_inj (pushes (row_bits ws) rs) ws (pushes_below (row_bits ws) rs (row_bits_below ws) b) a (pushes_length (row_bits ws) rs ∙ sym l)
    (shift_law (row_bits ws) rs (row_bits_below ws)
    ∙ ap₂ (λ x y. (long rs + x * p) / y) (row_value ws a) (row_power ws ∙ ap (λ x. 4096 ^ x) l)
    ∙ ap (λ x. x / p) (add_comm (long rs) (long ws * p))
    ∙ digits_div (long ws) (long_lt rs b))
  where
    p : ℕ
    p = 4096 ^ length rs
