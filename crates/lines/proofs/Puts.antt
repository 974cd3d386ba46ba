-- Lines written: bytes as hexadecimal digits, stored two by two. A loop's invariant is `Fills` of crate base.
--     as_hex_length, line_for_length                how long digits and a line are
--     left_more, left_over                          the part left to write, seen from a place in the middle
--     writes_more, writes_over                      a line's loop
--     fitting_whole, fitting_none                   what is put of a piece, where there is room and where there is none
--     put_whole, put_none                           a piece put where it fits, and nothing where it doesn't
--     puts_room, puts_both                          a piece put after another
--     eight_of                                       the bytes of an array of eight
-- Assumes nothing.
use mathlib.Core.Path.{◌≡◌, refl, ap, ap₂, sym, subst, ◌∙◌}
use mathlib.Core.List.{List, [], ◌∷◌, ◌++◌}
use Prim.Native.Nat.{ℕ, ◌+◌, ◌*◌, ◌/◌, ◌%◌, ◌≤◌, ◌<◌}
use native.Mathlib.Numerals.{add-one}
use native.Mathlib.Omega.{arith}
use borrow.Author.Tests.{le-leb, lt-leb}
use lib.ListN.{length, get_or, set, drop, length-append, drop_of_length-le}
use lib.Seq.{drop-cons}
use Rattle.base.specs.Lent.{placed}
use Rattle.base.proofs.Lent.{placed_none, Fills, fills_start, fills_more, fills_over}
use Rattle.base.proofs.Picks.{pick_yes, pick_no}
use Rattle.base.proofs.Stores.{one_put, two_put}
use Rattle.lines.specs.Answers.{fitting, Puts}
use Rattle.lines.specs.Lines.{newline, hex_for, as_hex, line_for}

-- ---- digits and lines

pub as_hex_length : (bytes : List ℕ) → length (as_hex bytes) ≡ 2 * length bytes
unfolding as_hex
as_hex_length [] = refl
as_hex_length (b ∷ bytes) = omega (arith, as_hex_length bytes)

pub line_for_length : (bytes : List ℕ) → length (line_for bytes) ≡ 2 * length bytes + 1
unfolding line_for
line_for_length bytes = omega (arith, length-append (as_hex bytes) (newline ∷ []), as_hex_length bytes)

-- a byte's two digits
abbrev pub pair : ℕ → List ℕ
pair b = hex_for (b / 16) ∷ hex_for (b % 16) ∷ []

-- the line's part that the bytes from a place on make
abbrev pub left : List ℕ → ℕ → List ℕ
left bytes i = line_for (drop i bytes)

pub left_more : (bytes : List ℕ) (i : ℕ) → i < length bytes → left bytes i ≡ pair (get_or bytes i 0) ++ left bytes (i + 1)
unfolding line_for as_hex
left_more bytes i h =
    ap line_for (drop-cons bytes i 0 h ∙ ap (λ n. get_or bytes i 0 ∷ drop n bytes) (sym (add-one i)))

pub left_over : (bytes : List ℕ) (i : ℕ) → length bytes ≤ i → left bytes i ≡ (newline ∷ []) ++ []
unfolding line_for as_hex
left_over bytes i h = ap line_for (drop_of_length-le bytes h)

-- ---- a line's loop

-- the invariant: what is left to write, put where the loop stands, makes the line
pub record Writes (bytes out₀ : List ℕ) (at : ℕ) (out : List ℕ) (end i : ℕ) : Type 0 where
  pub below : i ≤ length bytes
  pub place : end ≡ at + 2 * i
  pub size : length out ≡ length out₀
  pub fills : Fills at (line_for bytes) out₀ end (left bytes i) out

module _ (bytes out₀ : List ℕ) (at : ℕ) (room : at + length (line_for bytes) ≤ length out₀) where
  pub writes_more : (out : List ℕ) (end i high low : ℕ) → Writes bytes out₀ at out end i → i < length bytes
      → high ≡ hex_for (get_or bytes i 0 / 16)
      → low ≡ hex_for (get_or bytes i 0 % 16)
      → Writes bytes out₀ at (set (set out end high) (end + 1) low) (end + 2) (i + 1)
  writes_more out end i high low w h eh el =
      let p = w.place in
      let s = w.size in
      let l = line_for_length bytes in
      let fits : end + 2 ≤ length out = omega arith in
      let stored : set (set out end high) (end + 1) low ≡ placed end (pair (get_or bytes i 0)) out =
      two_put out end high low fits ∙ ap₂ (λ x y. placed end (x ∷ y ∷ []) out) eh el in
      let start : Fills at (line_for bytes) out₀ end (pair (get_or bytes i 0) ++ left bytes (i + 1)) out = rw (left_more bytes i h) at w.fills in
      let f = fills_more (pair (get_or bytes i 0)) (left bytes (i + 1)) start room refl stored in
      record { below = omega arith; place = omega arith; size = f.size; fills = f }

  pub writes_over : (out : List ℕ) (end i : ℕ) → Writes bytes out₀ at out end i → length bytes ≤ i
      → Puts (line_for bytes) at out₀ (end + 1) (set out end newline)
  writes_over out end i w h =
      let p = w.place in
      let s = w.size in
      let b = w.below in
      let l = line_for_length bytes in
      let fits : end + 1 ≤ length out = omega arith in
      let start : Fills at (line_for bytes) out₀ end ((newline ∷ []) ++ []) out = rw (left_over bytes i h) at w.fills in
      let f = fills_over (fills_more (newline ∷ []) [] start room refl (one_put out end newline fits)) in
      record { answer = f.0; bytes = f.1 }

-- ---- where there is room, and where there is none

pub fitting_whole : (piece : List ℕ) (at : ℕ) (out : List ℕ) → at + length piece ≤ length out → fitting piece at out ≡ piece
fitting_whole piece at out h = pick_yes piece [] (le-leb (at + length piece) (length out) h)

pub fitting_none : (piece : List ℕ) (at : ℕ) (out : List ℕ) → length out < at + length piece → fitting piece at out ≡ []
fitting_none piece at out h = pick_no piece [] (lt-leb (at + length piece) (length out) h)

pub put_whole : {piece : List ℕ} {at : ℕ} {out : List ℕ} {r : ℕ} {out' : List ℕ} → at + length piece ≤ length out
    → Puts (fitting piece at out) at out r out'
    → Puts piece at out r out'
put_whole {piece} {at} {out} {r} {out'} h = subst (λ p. Puts p at out r out') (fitting_whole piece at out h)

pub put_none : (piece : List ℕ) (at : ℕ) (out : List ℕ) → length out < at + length piece → Puts (fitting piece at out) at out at out
put_none piece at out h =
    subst (λ p. Puts p at out at out) (sym (fitting_none piece at out h)) record { answer = omega arith; bytes = sym (placed_none out at) }

-- ---- pieces one after another

module _ (p q : List ℕ) {at : ℕ} {out : List ℕ} {r : ℕ} {out' : List ℕ} (room : at + length (p ++ q) ≤ length out) (put : Puts p at out r out') where
  -- what is left after the first
  after_first : Fills at (p ++ q) out r q out'
  after_first = fills_more p q (fills_start at (p ++ q) out) room put.answer put.bytes

  pub puts_room : r + length q ≤ length out'
  puts_room = omega (arith, after_first.count, after_first.size)

  pub puts_both : {s : ℕ} {out'' : List ℕ} → Puts q r out' s out'' → Puts (p ++ q) at out s out''
  puts_both more = record { answer = more.answer ∙ after_first.count; bytes = more.bytes ∙ after_first.bytes }

-- ---- arrays of eight

-- what an array of eight bytes holds
abbrev pub eight_of : List ℕ → List ℕ
eight_of xs = get_or xs 0 0 ∷ get_or xs 1 0 ∷ get_or xs 2 0 ∷ get_or xs 3 0 ∷ get_or xs 4 0 ∷ get_or xs 5 0 ∷ get_or xs 6 0 ∷ get_or xs 7 0 ∷ []
