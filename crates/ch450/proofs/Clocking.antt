-- Bits clocked in while a transfer runs: any number of bits, whatever was taken before.
--     one_bit          2b, then 2b + 1, take the bit b
--     bits_silent      bits complete no command
--     bits_taken       they are taken one after another, and each is a rise
--     few_counted      up to 20 rises, as many more as there are bits
--     entered_law      as one number, they stand below those taken before, of which 19 are kept
--     number_append    bits one after another, as one number
-- Assumes nothing.
use mathlib.Core.Path.{◌≡◌, refl, ap, sym, subst, ◌∙◌}
use mathlib.Core.Bool.{true, false}
use mathlib.Core.List.{List, [], ◌∷◌, ◌++◌}
use Prim.Native.Nat.{ℕ, suc, ◌+◌, ◌*◌, ◌/◌, ◌%◌, ◌^◌, ◌≤◌, ◌<◌}
use native.Mathlib.Nat.{add_assoc, add-mul, mul_assoc, mul_comm, mul-add-mod_self_right, div-add-mod', mod-eq_of_lt, mod-lt, pow-suc}
use native.Mathlib.Omega.{arith}
use lib.Dec.{lit<}
use lib.ListN.{length, length-append}
use lib.Pow.{pow-add}
use borrow.Author.Tests.{lt-ltb}
use Rattle.base.specs.Below.{AllBelow, EachBelow}
use Rattle.base.proofs.Picks.{pick_yes}
use Rattle.base.proofs.Tests.{each_below}
use Rattle.ch450.specs.declared.Wires.{Wires}
use Rattle.ch450.specs.Edges.{stops, one_more, stepped, completes}
use Rattle.ch450.specs.Written.{clocking}
use Rattle.ch450.proofs.Silent.{Silent, moved, no_stop}

-- a transfer runs and SCL is high: the bit taken last, the rises, the bits
abbrev pub holding : ℕ → ℕ → ℕ → Wires
holding last rises bits = record { levels = 2 * last + 1; running = true; rises = rises; bits = bits }

-- bits enter below those taken before
unfoldable pub entered : ℕ → List ℕ → ℕ
entered v [] = v
entered v (b ∷ bs) = entered ((2 * v + b) % 2 ^ 19) bs

-- the rises counted, up to 20
unfoldable pub counted : ℕ → List ℕ → ℕ
counted n [] = n
counted n (b ∷ bs) = counted (one_more n) bs

-- the bit taken last
abbrev pub last_of : ℕ → List ℕ → ℕ
last_of a [] = a
last_of a (b ∷ bs) = last_of b bs

-- bits as one number, the first the highest
unfoldable pub number : List ℕ → ℕ
number [] = 0
number (b ∷ bs) = b * 2 ^ length bs + number bs

-- ---- one bit

-- what holds of each two bits
two_bits : (P : ℕ → ℕ → Type 0) → EachBelow (λ a. EachBelow (P a) 2) 2 → (a b : ℕ) → a < 2 → b < 2 → P a b
two_bits P all a b h l = each_below (P a) 2 (each_below (λ x. EachBelow (P x) 2) 2 all a h) b l

pub one_bit : (n v a b : ℕ) → a < 2 → b < 2 → stepped (2 * b + 1) (stepped (2 * b) (holding a n v)) ≡ holding b (one_more n) ((2 * v + b) % 2 ^ 19)
unfolding stepped
one_bit n v =
    two_bits (λ a b. stepped (2 * b + 1) (stepped (2 * b) (holding a n v)) ≡ holding b (one_more n) ((2 * v + b) % 2 ^ 19))
    ((refl, (refl, tt)), ((refl, (refl, tt)), tt))

-- neither sample of it is a stop
low_silent : (n v a b : ℕ) → a < 2 → b < 2 → completes (2 * b) (holding a n v) ≡ false
low_silent n v a b h l =
    no_stop (2 * b) (holding a n v) (two_bits (λ x y. stops (2 * x + 1) (2 * y) ≡ false) ((refl, (refl, tt)), ((refl, (refl, tt)), tt)) a b h l)

high_silent : (n v a b : ℕ) → a < 2 → b < 2 → completes (2 * b + 1) (stepped (2 * b) (holding a n v)) ≡ false
unfolding stepped
high_silent n v a b h l =
    no_stop (2 * b + 1) (stepped (2 * b) (holding a n v))
    (two_bits (λ x y. stops (stepped (2 * y) (holding x n v)).levels (2 * y + 1) ≡ false) ((refl, (refl, tt)), ((refl, (refl, tt)), tt)) a b h l)

-- ---- any number of bits

pub bits_silent : (bs : List ℕ) (a n v : ℕ) → AllBelow 2 bs → a < 2 → Silent (clocking bs) (holding a n v)
unfolding clocking Silent
bits_silent [] a n v bits h = tt
bits_silent (b ∷ bs) a n v bits h = (
  low_silent n v a b h bits.0,
  (
    high_silent n v a b h bits.0,
    subst (Silent (clocking bs)) (sym (one_bit n v a b h bits.0)) (bits_silent bs b (one_more n) ((2 * v + b) % 2 ^ 19) bits.1 bits.0),
  ),
)

pub bits_taken : (bs : List ℕ) (a n v : ℕ) → AllBelow 2 bs → a < 2
    → moved (clocking bs) (holding a n v) ≡ holding (last_of a bs) (counted n bs) (entered v bs)
unfolding clocking moved entered counted
bits_taken [] a n v bits h = refl
bits_taken (b ∷ bs) a n v bits h =
    ap (moved (clocking bs)) (one_bit n v a b h bits.0) ∙ bits_taken bs b (one_more n) ((2 * v + b) % 2 ^ 19) bits.1 bits.0

pub few_counted : (bs : List ℕ) (n : ℕ) → n + length bs ≤ 20 → counted n bs ≡ n + length bs
unfolding counted
few_counted [] n room = omega arith
few_counted (b ∷ bs) n room =
    let more : one_more n ≡ suc n = pick_yes (suc n) n (lt-ltb n 20 (omega arith)) in
    let count : suc n + length bs ≡ n + suc (length bs) = omega arith in
    ap (λ m. counted m bs) more ∙ few_counted bs (suc n) (omega arith) ∙ count

-- ---- bits as a number

-- a remainder times a number, and more
mod_times : (x y z m : ℕ) → (x % m * y + z) % m ≡ (x * y + z) % m
mod_times x y z m = sym (ap (λ n. n % m) whole ∙ mul-add-mod_self_right (x / m * y) m (x % m * y + z))
  where
    moved_out : x / m * m * y ≡ x / m * y * m
    moved_out = mul_assoc (x / m) m y ∙ ap (λ n. x / m * n) (mul_comm m y) ∙ sym (mul_assoc (x / m) y m)

    whole : x * y + z ≡ x / m * y * m + (x % m * y + z)
    whole =
        ap (λ n. n * y + z) (sym (div-add-mod' x m))
        ∙ ap (λ n. n + z) (add-mul (x / m * m) (x % m) y ∙ ap (λ n. n + x % m * y) moved_out)
        ∙ add_assoc (x / m * y * m) (x % m * y) z

pub entered_law : (bs : List ℕ) (v : ℕ) → v < 2 ^ 19 → entered v bs ≡ (v * 2 ^ length bs + number bs) % 2 ^ 19
unfolding entered number
entered_law [] v h = let same : v ≡ v * 1 + 0 = omega arith in sym (mod-eq_of_lt h) ∙ ap (λ n. n % 2 ^ 19) same
entered_law (b ∷ bs) v h =
    entered_law bs ((2 * v + b) % 2 ^ 19) (mod-lt (2 * v + b) (lit< tt))
    ∙ mod_times (2 * v + b) p (number bs) (2 ^ 19)
    ∙ ap (λ n. n % 2 ^ 19) same
  where
    p : ℕ
    p = 2 ^ length bs

    same : (2 * v + b) * p + number bs ≡ v * 2 ^ suc (length bs) + (b * p + number bs)
    same =
        let parts = add-mul (2 * v) b p in
        let twice = ap (λ n. n * p) (mul_comm 2 v) ∙ mul_assoc v 2 p in
        let more = ap (λ n. v * n) (pow-suc 2 (length bs) ∙ mul_comm p 2) in
        omega (arith, parts, twice, more)

pub number_append : (xs ys : List ℕ) → number (xs ++ ys) ≡ number xs * 2 ^ length ys + number ys
unfolding number
number_append [] ys = omega arith
number_append (x ∷ xs) ys =
    let q = 2 ^ length ys in
    let split = ap (λ n. x * 2 ^ n) (length-append xs ys) ∙ ap (λ n. x * n) (pow-add 2 (length xs) (length ys)) ∙ sym (mul_assoc x (2 ^ length xs) q) in
    let parts = add-mul (x * 2 ^ length xs) (number xs) q in
    omega (arith, split, parts, number_append xs ys)
