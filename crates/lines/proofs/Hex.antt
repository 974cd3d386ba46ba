-- Bytes written as hexadecimal digits and read back, and such digits read as bytes and written back: one way each.
--     hex_back, hex_read                      a digit, both ways
--     line_back                               a line that is written is read back as the bytes that it was written from
--     lines_written                           a line that was written, and the lines of the text after it
--     WrittenAs, line_written, line_given     a line in which there are bytes is what they are written as
-- Assumes nothing.
use mathlib.Core.Path.{◌≡◌, refl, ap, ap₂, sym, subst, ◌∙◌}
use mathlib.Core.Bool.{Bool, true, false, ◌&&◌}
use mathlib.Core.List.{List, [], ◌∷◌, ◌++◌, append_assoc, nil≢cons}
use Prim.Native.Nat.{ℕ, ◌+◌, ◌*◌, ◌/◌, ◌%◌, ◌<◌}
use native.Mathlib.Omega.{arith}
use borrow.Author.Tests.{eq-eqb, lt-ltb}
use lib.Dec.{T, eqb, eqb→eq, ltb, ltb→lt}
use lib.ListN.{length}
use Rattle.base.specs.Below.{AllBelow}
use Rattle.base.specs.Pick.{pick}
use Rattle.base.proofs.Picks.{pick_yes}
use Rattle.base.proofs.Tests.{eq_below, by_order, and_left, and_right}
use Rattle.lines.specs.Lines.{newline, Line, ended, cut_off, lines_of, hex_of, all_hex, bytes_of, bytes_in, hex_for, as_hex, line_for}
use Rattle.lines.proofs.Lines.{hex_past}
use Rattle.lines.proofs.Puts.{as_hex_length}
use Rattle.lines.proofs.Texts.{NoEnd, lines_held}

-- ---- a hexadecimal digit

pub hex_back : (v : ℕ) → v < 16 → hex_of (hex_for v) ≡ v
unfolding hex_of
hex_back = eq_below (λ v. hex_of (hex_for v)) (λ v. v) 16 tt

pub hex_read : (ch : ℕ) → hex_of ch < 16 → hex_for (hex_of ch) ≡ ch
unfolding hex_of
hex_read ch h =
    by_order 0x47 ch (λ l. absurd (omega (arith, hex_past ch l)))
    (λ l.
    sym (pick_yes (hex_for (hex_of ch)) ch (lt-ltb (hex_of ch) 16 h))
    ∙ eq_below (λ k. pick (ltb (hex_of k) 16) (hex_for (hex_of k)) k) (λ k. k) 0x47 tt ch l)

-- a digit doesn't end a line: 0AH counts 16
digit_stays : (v : ℕ) → v < 16 → hex_for v ≡ newline → ⊥
unfolding hex_of
digit_stays v h e = let none : hex_of newline ≡ 16 = refl in omega (arith, hex_back v h, ap hex_of e)

-- ---- bytes written and read

bytes_back : (bytes : List ℕ) → AllBelow 256 bytes → bytes_of (as_hex bytes) ≡ bytes
unfolding bytes_of as_hex
bytes_back [] all = refl
bytes_back (b ∷ bytes) all =
    let l = all.0 in
    let high = hex_back (b / 16) (omega arith) in
    let low = hex_back (b % 16) (omega arith) in
    let same : 16 * hex_of (hex_for (b / 16)) + hex_of (hex_for (b % 16)) ≡ b = omega arith in
    ap₂ (λ x xs. x ∷ xs) same (bytes_back bytes all.1)

all_digits : (bytes : List ℕ) → AllBelow 256 bytes → all_hex (as_hex bytes) ≡ true
unfolding all_hex as_hex
all_digits [] all = refl
all_digits (b ∷ bytes) all =
    let l = all.0 in
    let high = hex_back (b / 16) (omega arith) in
    let low = hex_back (b % 16) (omega arith) in
    ap₂ ◌&&◌ (lt-ltb (hex_of (hex_for (b / 16))) 16 (omega arith))
    (ap₂ ◌&&◌ (lt-ltb (hex_of (hex_for (b % 16))) 16 (omega arith)) (all_digits bytes all.1))

none_ends : (bytes : List ℕ) → AllBelow 256 bytes → NoEnd (as_hex bytes)
unfolding NoEnd as_hex
none_ends [] all = tt
none_ends (b ∷ bytes) all =
    let l = all.0 in
    (digit_stays (b / 16) (omega arith), (digit_stays (b % 16) (omega arith), none_ends bytes all.1))

pub line_back : (bytes : List ℕ) → AllBelow 256 bytes → bytes_in (ended (as_hex bytes)) ≡ bytes
line_back bytes all =
    let even : length (as_hex bytes) % 2 ≡ 0 = omega (arith, as_hex_length bytes) in
    pick_yes (bytes_of (as_hex bytes)) [] (ap₂ ◌&&◌ (all_digits bytes all) (eq-eqb (length (as_hex bytes) % 2) 0 even)) ∙ bytes_back bytes all

pub lines_written : (bytes text : List ℕ) → AllBelow 256 bytes → lines_of (line_for bytes ++ text) ≡ ended (as_hex bytes) ∷ lines_of text
unfolding line_for
lines_written bytes text all =
    ap lines_of (append_assoc (as_hex bytes) (newline ∷ []) text) ∙ lines_held (as_hex bytes) text (none_ends bytes all)

-- ---- digits read and written

high_part : (x y : ℕ) → y < 16 → (16 * x + y) / 16 ≡ x
high_part x y h = omega arith

low_part : (x y : ℕ) → y < 16 → (16 * x + y) % 16 ≡ y
low_part x y h = omega arith

written_back : (chars : List ℕ) → T (all_hex chars) → length chars % 2 ≡ 0 → as_hex (bytes_of chars) ≡ chars
unfolding all_hex bytes_of as_hex
written_back [] t e = refl
written_back (a ∷ []) t e = absurd (omega arith)
written_back (a ∷ b ∷ chars) t e =
    let p = ltb→lt (hex_of a) 16 (and_left (ltb (hex_of a) 16) (ltb (hex_of b) 16 && all_hex chars) t) in
    let u = and_right (ltb (hex_of a) 16) (ltb (hex_of b) 16 && all_hex chars) t in
    let q = ltb→lt (hex_of b) 16 (and_left (ltb (hex_of b) 16) (all_hex chars) u) in
    let more : length chars % 2 ≡ 0 = omega arith in
    ap₂ ◌∷◌ (ap hex_for (high_part (hex_of a) (hex_of b) q) ∙ hex_read a p)
    (ap₂ ◌∷◌ (ap hex_for (low_part (hex_of a) (hex_of b) q) ∙ hex_read b q)
    (written_back chars (and_right (ltb (hex_of b) 16) (all_hex chars) u) more))

bytes_below : (chars : List ℕ) → T (all_hex chars) → AllBelow 256 (bytes_of chars)
unfolding all_hex bytes_of
bytes_below [] t = tt
bytes_below (a ∷ []) t = tt
bytes_below (a ∷ b ∷ chars) t =
    let p = ltb→lt (hex_of a) 16 (and_left (ltb (hex_of a) 16) (ltb (hex_of b) 16 && all_hex chars) t) in
    let u = and_right (ltb (hex_of a) 16) (ltb (hex_of b) 16 && all_hex chars) t in
    let q = ltb→lt (hex_of b) 16 (and_left (ltb (hex_of b) 16) (all_hex chars) u) in
    (omega arith, bytes_below chars (and_right (ltb (hex_of b) 16) (all_hex chars) u))

-- a line that is what bytes are written as
abbrev pub WrittenAs : Line → List ℕ → Type 0
WrittenAs l bytes = (l ≡ ended (as_hex bytes)) × AllBelow 256 bytes

pub line_written : (l : Line) (b : ℕ) (bytes : List ℕ) → bytes_in l ≡ b ∷ bytes → WrittenAs l (b ∷ bytes)
line_written (cut_off chars) b bytes e = absurd (nil≢cons e)
line_written (ended chars) b bytes e = go (all_hex chars && eqb (length chars % 2) 0) refl e
  where
    go : (t : Bool) → (all_hex chars && eqb (length chars % 2) 0) ≡ t → pick t (bytes_of chars) [] ≡ b ∷ bytes → WrittenAs (ended chars) (b ∷ bytes)
    go true q r =
        let d = subst T (sym q) tt in
        let all = and_left (all_hex chars) (eqb (length chars % 2) 0) d in
        let even = eqb→eq (length chars % 2) 0 (and_right (all_hex chars) (eqb (length chars % 2) 0) d) in (
          ap ended (sym (written_back chars all even) ∙ ap as_hex r),
          subst (AllBelow 256) r (bytes_below chars all),
        )
    go false q r = absurd (nil≢cons r)

pub line_given : (l : Line) → 0 < length (bytes_in l) → WrittenAs l (bytes_in l)
line_given l h = go (bytes_in l) refl h
  where
    go : (bytes : List ℕ) → bytes_in l ≡ bytes → 0 < length bytes → WrittenAs l bytes
    go [] e some = absurd (omega arith)
    go (b ∷ bytes) e some = line_written l b bytes e
