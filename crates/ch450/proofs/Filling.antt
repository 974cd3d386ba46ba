-- A buffer filled with the samples of commands. A loop's invariant is `Fills` of crate base.
--     byte_samples                          a byte and its acknowledge are 18 samples
--     byte_left, byte_more, byte_over        one more bit of a byte, and its acknowledge
--     command_filled                        a command's own stretch, from its stores and its two bytes
--     command_length, written_length        a command is 40 samples, and so is each of a list
--     commands_more, commands_over          one more command, and all of them
-- Assumes nothing.
use mathlib.Core.Path.{◌≡◌, refl, ap, ap₂, sym, subst, ◌∙◌}
use mathlib.Core.List.{List, [], ◌∷◌, ◌++◌, append_assoc, append-nil}
use Prim.Native.Nat.{ℕ, ◌+◌, ◌-◌, ◌*◌, ◌≤◌, ◌<◌}
use native.Mathlib.Numerals.{add-one}
use native.Mathlib.Omega.{arith}
use lib.ListN.{length, get_or, set, take, drop, length-append, drop_of_length-le}
use lib.Seq.{drop-cons}
use Rattle.base.specs.Bits.{cut}
use Rattle.base.specs.Lent.{laid, placed}
use Rattle.base.proofs.Lists.{rest_is}
use Rattle.base.proofs.Lent.{Fills, fills_start, fills_more, fills_over}
use Rattle.base.proofs.Stores.{one_put, two_put, part_put}
use Rattle.base.proofs.Tests.{each_below}
use Rattle.ch450.specs.Written.{byte_bits, clocking, command_samples, written}

-- a piece put into a buffer of its own length is the buffer
whole_put : (piece out : List ℕ) → length out ≡ length piece → placed 0 piece out ≡ piece
whole_put piece out e = ap (λ r. piece ++ r) (drop_of_length-le out {i = length piece} (omega arith)) ∙ append-nil piece

-- ---- one byte

-- the samples of a byte's bits from a place on, and of its acknowledge
abbrev pub byte_left : ℕ → ℕ → List ℕ
byte_left b at = clocking (drop at (byte_bits b))

pub byte_samples : (b : ℕ) → length (byte_left b 0) ≡ 18
unfolding clocking byte_bits
byte_samples b = refl

-- eight bits and the acknowledge
byte_length : (b : ℕ) → length (byte_bits b) ≡ 9
unfolding byte_bits
byte_length b = refl

-- highest bit first
byte_bit : (b at : ℕ) → at < 8 → get_or (byte_bits b) at 0 ≡ cut b (7 - at) 1
unfolding byte_bits
byte_bit b =
    each_below (λ at. get_or (byte_bits b) at 0 ≡ cut b (7 - at) 1) 8 (refl, (refl, (refl, (refl, (refl, (refl, (refl, (refl, tt))))))))

-- the samples left begin with those of the bit at its place
byte_next : (b at : ℕ) → at < 8 → byte_left b at ≡ ((2 * cut b (7 - at) 1) ∷ (2 * cut b (7 - at) 1 + 1) ∷ []) ++ byte_left b (at + 1)
unfolding clocking
byte_next b at h =
    ap clocking
    (drop-cons (byte_bits b) at 0 (omega (arith, byte_length b)) ∙ ap₂ (λ x n. x ∷ drop n (byte_bits b)) (byte_bit b at h) (sym (add-one at)))

-- after eight bits the acknowledge is left
byte_last : (b : ℕ) → byte_left b 8 ≡ (2 ∷ 3 ∷ []) ++ []
unfolding clocking byte_bits
byte_last b = refl

module _ (b at : ℕ) (out₀ out : List ℕ) (l : length out₀ ≡ 18) (filled : Fills 0 (byte_left b 0) out₀ (at * 2) (byte_left b at) out) where
  room : 0 + length (byte_left b 0) ≤ length out₀
  room = omega (arith, byte_samples b)

  size : length out ≡ 18
  size = filled.size ∙ l

  pub byte_more : at < 8 → (x : ℕ) → x ≡ cut b (7 - at) 1
      → Fills 0 (byte_left b 0) out₀ ((at + 1) * 2) (byte_left b (at + 1)) (set (set out (at * 2) (2 * x)) (at * 2 + 1) (2 * x + 1))
  byte_more h x e =
      let next : (at + 1) * 2 ≡ at * 2 + 2 = omega arith in
      let fits : at * 2 + 2 ≤ length out = omega (arith, size) in
      let start : Fills 0 (byte_left b 0) out₀ (at * 2) (((2 * cut b (7 - at) 1) ∷ (2 * cut b (7 - at) 1 + 1) ∷ []) ++ byte_left b (at + 1)) out =
      subst (λ rest. Fills 0 (byte_left b 0) out₀ (at * 2) rest out) (byte_next b at h) filled in
      fills_more ((2 * cut b (7 - at) 1) ∷ (2 * cut b (7 - at) 1 + 1) ∷ []) (byte_left b (at + 1)) start room next
      (two_put out (at * 2) (2 * x) (2 * x + 1) fits ∙ ap (λ y. placed (at * 2) ((2 * y) ∷ (2 * y + 1) ∷ []) out) e)

  pub byte_over : at ≡ 8 → set (set out 16 2) 17 3 ≡ clocking (byte_bits b)
  byte_over e =
      let eight = subst (λ n. Fills 0 (byte_left b 0) out₀ (n * 2) (byte_left b n) out) e filled in
      let start : Fills 0 (byte_left b 0) out₀ 16 ((2 ∷ 3 ∷ []) ++ []) out = subst (λ rest. Fills 0 (byte_left b 0) out₀ 16 rest out) (byte_last b) eight in
      (fills_over (fills_more (2 ∷ 3 ∷ []) [] start room refl (two_put out 16 2 3 (omega (arith, size))))).1
      ∙ whole_put (byte_left b 0) out₀ (l ∙ sym (byte_samples b))

-- ---- one command

pub command_length : (w : ℕ) → length (command_samples w) ≡ 40
unfolding command_samples clocking byte_bits
command_length w = refl

-- a list whose k elements from a are replaced: a lent part that comes back
abbrev pub put : List ℕ → ℕ → ℕ → List ℕ → List ℕ
put out a k ys = take a out ++ (ys ++ drop k (drop a out))

-- the start, two bytes put one after the other, and the stop
module _ (first second out : List ℕ) (lf : length first ≡ 18) (ls : length second ≡ 18) (l : length out ≡ 40) where
  -- all 40
  all : List ℕ
  all = 1 ∷ (first ++ (second ++ (0 ∷ 1 ∷ 3 ∷ [])))

  all_length : length all ≡ 40
  unfolding all
  all_length =
      let stop : List ℕ = 0 ∷ 1 ∷ 3 ∷ [] in
      omega (arith, length-append first (second ++ stop), length-append second stop)

  filled_all : set (set (set (put (put (set out 0 1) 1 18 first) 19 18 second) 37 0) 38 1) 39 3 ≡ all
  unfolding all
  filled_all =
      let room : 0 + length all ≤ length out = omega (arith, all_length) in
      let past : 19 ≡ 1 + length first = omega arith in
      let end : 37 ≡ 19 + length second = omega arith in
      let o1 = set out 0 1 in
      let o2 = put o1 1 18 first in
      let o3 = put o2 19 18 second in
      let o4 = set (set o3 37 0) 38 1 in
      let f1 = fills_more (1 ∷ []) (first ++ (second ++ (0 ∷ 1 ∷ 3 ∷ []))) (fills_start 0 all out) room {at' = 1} refl (one_put out 0 1 (omega arith)) in
      let f2 = fills_more first (second ++ (0 ∷ 1 ∷ 3 ∷ [])) f1 room past (part_put o1 1 18 first lf) in
      let f3 = fills_more second (0 ∷ 1 ∷ 3 ∷ []) f2 room end (part_put o2 19 18 second ls) in
      let f4 = fills_more (0 ∷ 1 ∷ []) (3 ∷ []) f3 room {at' = 39} refl (two_put o3 37 0 1 (omega (arith, f3.size))) in
      let f5 = fills_more (3 ∷ []) [] f4 room {at' = 40} refl (one_put o4 39 3 (omega (arith, f4.size))) in
      (fills_over f5).1 ∙ whole_put all out (l ∙ sym all_length)

pub command_filled : (w : ℕ) (out : List ℕ) {first second : List ℕ} → length out ≡ 40
    → first ≡ clocking (byte_bits (cut w 8 8))
    → second ≡ clocking (byte_bits (cut w 0 8))
    → set (set (set (put (put (set out 0 1) 1 18 first) 19 18 second) 37 0) 38 1) 39 3 ≡ command_samples w
unfolding command_samples all
command_filled w out {first} {second} l f s =
    filled_all first second out (ap length f ∙ byte_samples (cut w 8 8)) (ap length s ∙ byte_samples (cut w 0 8)) l
    ∙ ap (λ r. 1 ∷ r) (sym (append_assoc first second (0 ∷ 1 ∷ 3 ∷ [])))
    ∙ ap₂ (λ x y. 1 ∷ (x ++ y ++ 0 ∷ 1 ∷ 3 ∷ [])) f s

-- ---- commands

pub written_length : (ws : List ℕ) → length (written ws) ≡ 40 * length ws
unfolding written
written_length [] = refl
written_length (w ∷ ws) = omega (arith, length-append (command_samples w) (written ws), command_length w, written_length ws)

-- the samples of the commands left begin with those of the command at its place
left_more : (ws : List ℕ) (k : ℕ) → k < length ws → written (drop k ws) ≡ command_samples (get_or ws k 0) ++ written (drop (k + 1) ws)
unfolding written
left_more ws k h = ap written (rest_is ws k 0 h)

-- past the last command none are left
left_over : (ws : List ℕ) (k : ℕ) → length ws ≤ k → written (drop k ws) ≡ []
unfolding written
left_over ws k h = ap written (drop_of_length-le ws h)

module _ (ws out₀ : List ℕ) (room : 40 * length ws ≤ length out₀) {k : ℕ} {out : List ℕ}
    (filled : Fills 0 (written ws) out₀ (40 * k) (written (drop k ws)) out) where
  pub commands_more : k < length ws → {wide : ℕ} {samples : List ℕ} → wide ≡ 40 → samples ≡ command_samples (get_or ws k 0)
      → Fills 0 (written ws) out₀ (40 * (k + 1)) (written (drop (k + 1) ws)) (put out (40 * k) wide samples)
  commands_more h wide e =
      let w = get_or ws k 0 in
      let next : 40 * (k + 1) ≡ 40 * k + length (command_samples w) = omega (arith, command_length w) in
      let all : 0 + length (written ws) ≤ length out₀ = omega (arith, written_length ws) in
      fills_more (command_samples w) (written (drop (k + 1) ws))
      (subst (λ rest. Fills 0 (written ws) out₀ (40 * k) rest out) (left_more ws k h) filled) all next
      (ap₂ (put out (40 * k)) wide e ∙ part_put out (40 * k) 40 (command_samples w) (command_length w))

  pub commands_over : length ws ≤ k → out ≡ laid (written ws) out₀
  commands_over h = (fills_over (subst (λ rest. Fills 0 (written ws) out₀ (40 * k) rest out) (left_over ws k h) filled)).1
