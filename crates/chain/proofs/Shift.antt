-- How bits move through the registers of a chain, once for any number of clocks and any number of chips.
--     push_length, pushes_length     a clock keeps the number of registers
--     push_below, pushes_below       and keeps each of them below 4096
--     push_law                       one clock halves the one number, and the bit enters at its top
--     shift_law                      any number of clocks: the bits enter at the top, as many places are lost at the bottom
--     long_lt                        registers below 4096 are the digits of the one number
--     long_inj                       so the one number says what the registers are
-- Assumes nothing.
use mathlib.Core.Path.{◌≡◌, refl, ap, ap₂, sym, ◌∙◌}
use mathlib.Core.List.{List, [], ◌∷◌}
use Prim.Native.Nat.{ℕ, suc, ◌+◌, ◌*◌, ◌/◌, ◌%◌, ◌^◌, ◌<◌}
use native.Mathlib.Nat.{add-zero, pow-succ', pow-suc, zero-lt-suc, add-mul, mul_assoc, mul_comm, zero-mul, div-one, div-div-eq-div-mul, suc_inj, mod-lt}
use native.Mathlib.Omega.{arith}
use lib.Arith.{digits_lt, digits_div, digits_mod}
use lib.ListN.{length}
use Rattle.base.specs.Below.{AllBelow}

-- ---- registers as bits are clocked through them

-- one clock moves a bit into the registers: each moves down one place, and its lowest bit enters the next
unfoldable pub push : ℕ → List ℕ → List ℕ
push b [] = []
push b (r ∷ rs) = (r / 2 + 2048 * b) ∷ push (r % 2) rs

-- bits one after another
unfoldable pub pushes : List ℕ → List ℕ → List ℕ
pushes [] rs = rs
pushes (b ∷ bs) rs = pushes bs (push b rs)

-- the registers as one number to base 4096, chip 0 highest
unfoldable pub long : List ℕ → ℕ
long [] = 0
long (r ∷ rs) = r * 4096 ^ length rs + long rs

-- bits as one number, the first the lowest
unfoldable pub value : List ℕ → ℕ
value [] = 0
value (b ∷ bs) = b + 2 * value bs

-- ---- one clock

pub push_length : (b : ℕ) (rs : List ℕ) → length (push b rs) ≡ length rs
unfolding push
push_length b [] = refl
push_length b (r ∷ rs) = ap suc (push_length (r % 2) rs)

pub push_below : (b : ℕ) (rs : List ℕ) → b < 2 → AllBelow 4096 rs → AllBelow 4096 (push b rs)
unfolding push
push_below b [] h a = tt
push_below b (r ∷ rs) h a = (omega arith, push_below (r % 2) rs (mod-lt r (zero-lt-suc 1)) a.1)

-- r times a power, by the halves of r
halves : (r p : ℕ) → r * p ≡ 2 * (r / 2 * p) + r % 2 * p
halves r p =
    ap (λ x. x * p) e ∙ add-mul (2 * (r / 2)) (r % 2) p ∙ ap (λ x. x + r % 2 * p) (mul_assoc 2 (r / 2) p)
  where
    e : r ≡ 2 * (r / 2) + r % 2
    e = omega arith

pub push_law : (b : ℕ) (rs : List ℕ) → b < 2 → long (push b rs) ≡ (long rs + b * 4096 ^ length rs) / 2
unfolding push long
push_law b [] h = omega arith
push_law b (r ∷ rs) h =
    let p = 4096 ^ length rs in
    let same = ap (λ x. (r / 2 + 2048 * b) * 4096 ^ x) (push_length (r % 2) rs) ∙ add-mul (r / 2) (2048 * b) p ∙ ap (λ x. r / 2 * p + x) (mul_assoc 2048 b p) in
    let more = ap (λ x. b * x) (pow-suc 4096 (length rs)) ∙ sym (mul_assoc b p 4096) in
    omega (arith, same, more, halves r p, push_law (r % 2) rs (mod-lt r (zero-lt-suc 1)))

-- ---- any number of clocks

pub pushes_length : (bs rs : List ℕ) → length (pushes bs rs) ≡ length rs
unfolding pushes
pushes_length [] rs = refl
pushes_length (b ∷ bs) rs = pushes_length bs (push b rs) ∙ push_length b rs

pub pushes_below : (bs rs : List ℕ) → AllBelow 2 bs → AllBelow 4096 rs → AllBelow 4096 (pushes bs rs)
unfolding pushes
pushes_below [] rs bits a = a
pushes_below (b ∷ bs) rs bits a = pushes_below bs (push b rs) bits.1 (push_below b rs bits.0 a)

pub shift_law : (bs rs : List ℕ) → AllBelow 2 bs → long (pushes bs rs) ≡ (long rs + value bs * 4096 ^ length rs) / 2 ^ length bs
unfolding pushes value
shift_law [] rs bits =
    sym (div-one (long rs + 0 * 4096 ^ length rs) ∙ ap (λ x. long rs + x) (zero-mul (4096 ^ length rs)) ∙ add-zero (long rs))
shift_law (b ∷ bs) rs bits =
    shift_law bs (push b rs) bits.1
    ∙ ap (λ x. x / 2 ^ length bs) halved
    ∙ div-div-eq-div-mul (long rs + value (b ∷ bs) * p) 2 (2 ^ length bs)
    ∙ ap (λ x. (long rs + value (b ∷ bs) * p) / x) (sym (pow-succ' 2 (length bs)))
  where
    p : ℕ
    p = 4096 ^ length rs

    halved : long (push b rs) + value bs * 4096 ^ length (push b rs) ≡ (long rs + (b + 2 * value bs) * p) / 2
    halved =
        let same = ap (λ x. value bs * 4096 ^ x) (push_length b rs) in
        omega (arith, same, push_law b rs bits.0, add-mul b (2 * value bs) p, mul_assoc 2 (value bs) p)

-- ---- one number says what the registers are

pub long_lt : (rs : List ℕ) → AllBelow 4096 rs → long rs < 4096 ^ length rs
unfolding long
long_lt [] a = omega arith
long_lt (r ∷ rs) a = rw (pow-suc 4096 (length rs), mul_comm (4096 ^ length rs) 4096) (digits_lt a.0 (long_lt rs a.1))

-- two numbers with the same lowest digit and the same rest above it
same_digits : (q s : ℕ) {m r t : ℕ} → r < m → t < m → q * m + r ≡ s * m + t → (q ≡ s) × (r ≡ t)
same_digits q s {m} h l e =
    (sym (digits_div q h) ∙ ap (λ x. x / m) e ∙ digits_div s l, sym (digits_mod q h) ∙ ap (λ x. x % m) e ∙ digits_mod s l)

pub long_inj : (rs ss : List ℕ) → AllBelow 4096 rs → AllBelow 4096 ss → length rs ≡ length ss → long rs ≡ long ss → rs ≡ ss
unfolding long
long_inj [] [] a b l e = refl
long_inj [] (s ∷ ss) a b l e = absurd (omega arith)
long_inj (r ∷ rs) [] a b l e = absurd (omega arith)
long_inj (r ∷ rs) (s ∷ ss) a b l e =
    let k : length rs ≡ length ss = suc_inj l in
    let top = long_lt ss b.1 in
    let parts = same_digits r s (long_lt rs a.1) (rw k top) (e ∙ ap (λ x. s * 4096 ^ x + long ss) (sym k)) in
    ap₂ (λ x xs. x ∷ xs) parts.0 (long_inj rs ss a.1 b.1 k parts.1)
