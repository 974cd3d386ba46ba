-- Frames: an array filled with a line's bytes, zeros past them, and what it holds.
--     Pairs, pair_digits, pairs_more, pairs_over            a loop that fills it; `Fills` of crate base is its invariant
--     held_long, held_other                                 the bytes of a line that a frame has room for
--     Holds, frame_holds                                    a frame holds bytes
-- Assumes nothing.
use mathlib.Core.Path.{◌≡◌, refl, ap, subst, ◌∙◌}
use mathlib.Core.Bool.{false, ◌&&◌}
use mathlib.Core.List.{List, [], ◌∷◌, ◌++◌}
use Prim.Native.Nat.{ℕ, ◌+◌, ◌*◌, ◌%◌, ◌≤◌, ◌<◌}
use native.Mathlib.Omega.{arith}
use borrow.Author.Tests.{le-leb, lt-leb, leb-true}
use lib.Dec.{T, eqb, leb}
use lib.ListN.{length, get_or, replicate, set, drop, length-append}
use lib.Seq.{take_at}
use Rattle.base.specs.Lent.{laid, placed}
use Rattle.base.proofs.Lent.{Fills, fills_more, fills_over}
use Rattle.base.proofs.Picks.{pick_yes, pick_no, pick_cases}
use Rattle.base.proofs.Stores.{one_put}
use Rattle.lines.specs.declared.Frame.{Frame}
use Rattle.lines.specs.Answers.{held_in, frame_for, held_by}
use Rattle.lines.specs.Lines.{ended, hex_of, all_hex, bytes_of, bytes_in}
use Rattle.lines.proofs.Lines.{two_digits, two_bytes, bytes_few, bytes_half}

-- ---- an array filled with bytes

-- an array of no bytes yet
abbrev pub zeros : List ℕ
zeros = replicate 33 0

-- the loop's invariant: the bytes of the digits left, put where the loop stands, make the frame's array
pub record Pairs (line : List ℕ) (i : ℕ) (rest bytes : List ℕ) : Type 0 where
  pub digits : T (all_hex rest)
  pub fills : Fills 0 (bytes_of line) zeros i (bytes_of rest) bytes

-- the next two are digits
pub pair_digits : {line : List ℕ} {i : ℕ} {rest bytes : List ℕ} → Pairs line i rest bytes → (x rest' : List ℕ) → rest ≡ x ++ rest' → length x ≡ 2
    → (hex_of (get_or x 0 0) < 16) × (hex_of (get_or x 1 0) < 16) × T (all_hex rest')
pair_digits p x rest' e l = two_digits x rest' l (subst (λ r. T (all_hex r)) e p.digits)

pub pairs_more : {line : List ℕ} {i : ℕ} {rest bytes : List ℕ} → Pairs line i rest bytes → length line ≤ 66
    → (x rest' : List ℕ) (at i' b : ℕ) → rest ≡ x ++ rest' → length x ≡ 2 → at ≡ i → i' ≡ i + 1
    → b ≡ 16 * hex_of (get_or x 0 0) + hex_of (get_or x 1 0)
    → Pairs line i' rest' (set bytes at b)
pairs_more {line} {i} {rest} {bytes} p s x rest' at i' b e l a n v =
    let t = pair_digits p x rest' e l in
    let byte = 16 * hex_of (get_or x 0 0) + hex_of (get_or x 1 0) in
    let whole : length rest ≡ length x + length rest' = ap length e ∙ length-append x rest' in
    let few : i < 33 = omega (arith, p.fills.count, bytes_half line, bytes_half rest) in
    let all : length zeros ≡ 33 = refl in
    let size : length bytes ≡ 33 = p.fills.size ∙ all in
    let room : 0 + length (bytes_of line) ≤ length zeros = omega (arith, bytes_half line) in
    let start : Fills 0 (bytes_of line) zeros i ((byte ∷ []) ++ bytes_of rest') bytes =
    subst (λ left. Fills 0 (bytes_of line) zeros i left bytes) (ap bytes_of e ∙ two_bytes x rest' l) p.fills in
    record {
      digits = t.2;
      fills = fills_more (byte ∷ []) (bytes_of rest') start room n (ap (λ k. set bytes k b) a ∙ one_put bytes i b (omega arith) ∙ ap (λ y. placed i (y ∷ []) bytes) v);
    }

pub pairs_over : {line : List ℕ} {i : ℕ} {rest bytes : List ℕ} → Pairs line i rest bytes → length rest < 2 → bytes ≡ laid (bytes_of line) zeros
pairs_over {line} {i} {rest} {bytes} p h =
    (fills_over (subst (λ left. Fills 0 (bytes_of line) zeros i left bytes) (bytes_few rest h) p.fills)).1

-- ---- the bytes of a line that a frame has room for

pub held_long : (cs : List ℕ) → 66 < length cs → held_in cs ≡ []
held_long cs h = pick_no (bytes_in (ended cs)) [] (lt-leb (length cs) 66 h)

pub held_other : (cs : List ℕ) → length cs ≤ 66 → all_hex cs ≡ false → held_in cs ≡ []
held_other cs h d =
    pick_yes (bytes_in (ended cs)) [] (le-leb (length cs) 66 h)
    ∙ pick_no (bytes_of cs) [] (ap (λ t. t && eqb (length cs % 2) 0) d)

held_room : (cs : List ℕ) → length (held_in cs) ≤ 33
held_room cs =
    pick_cases (λ bytes. length bytes ≤ 33) (leb (length cs) 66)
    (λ q. let h = leb-true (length cs) 66 q in
    pick_cases (λ bytes. length bytes ≤ 33) (all_hex cs && eqb (length cs % 2) 0) (λ p. omega (arith, bytes_half cs)) (λ p. omega arith))
    (λ q. omega arith)

-- ---- a frame holds bytes

pub record Holds (f : Frame) (bytes : List ℕ) : Type 0 where
  pub front : held_by f ≡ bytes
  pub count : f.count ≡ length bytes
  pub room : length bytes ≤ 33

pub frame_holds : (cs : List ℕ) {f : Frame} → f ≡ frame_for (held_in cs) → Holds f (held_in cs)
frame_holds cs e =
    record {
      front = ap held_by e ∙ take_at (held_in cs) (drop (length (held_in cs)) zeros) (length (held_in cs)) refl;
      count = ap (λ (f : Frame). f.count) e;
      room = held_room cs;
    }
