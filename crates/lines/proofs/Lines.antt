-- Lines read: hexadecimal digits, bytes two digits each, and where a line ends, each seen from a place in the middle of a text.
--     hex_past                                                    what a character past the digits counts
--     two_digits, two_bytes, bytes_few                            digits two by two
--     bytes_half, bytes_length                                    how many bytes digits make
--     length_stops, length_more                                   how far a line goes on, by its first character
--     line_length_place, line_length_le                           the same by the place of the first 0AH, and by the text's length
--     line_ends, line_begins                                      the lines of a text, by its first character
--     lines_next, lines_last, lines_append                        the same by its first line, and of two texts
--     lines_any                                                   a text that isn't empty has a line
--     chars_in, chars_in_lem                                           how many characters lines have
-- Assumes nothing.
use mathlib.Core.Path.{◌≡◌, refl, ap, sym, ◌∙◌}
use mathlib.Core.Bool.{Bool, true, false, ◌&&◌}
use mathlib.Core.List.{List, [], ◌∷◌, ◌++◌}
use mathlib.Core.Logic.{⊎_elim}
use Prim.Native.Nat.{ℕ, suc, ◌+◌, ◌*◌, ◌-◌, ◌/◌, ◌≤◌, ◌<◌}
use native.Mathlib.Numerals.{add-one}
use native.Mathlib.Omega.{arith}
use borrow.Author.Tests.{le-leb, lt-leb, eq-eqb, ne_eqb}
use lib.Dec.{T, eqb, ltb, ltb→lt}
use lib.ListN.{length, get_or, take, drop, length-append, length-drop, drop_of_length-le}
use lib.Seq.{take_all}
use Rattle.base.specs.Pick.{pick}
use Rattle.base.proofs.Picks.{pick_yes, pick_no}
use Rattle.base.proofs.Tests.{and_left, and_right, by_equality}
use Rattle.lines.specs.Lines.{newline, Line, ended, cut_off, before, lines_of, hex_of, all_hex, bytes_of}
use Rattle.lines.specs.Answers.{line_length}
use Rattle.std.specs.List.{position, position_or_len}
use Rattle.std.specs.Option.{unwrap_or}
use Rattle.std.specs.Slice.{IsGetRangeResult}
use Rattle.std.proofs.Common.{Option, None, Some, cond}
use Rattle.std.proofs.lemmas.Bool.Decides.{nat_tests}
use Rattle.std.proofs.lemmas.List.Sums.{prefix_len-le-length}
use denote.Ref.{Bor}
use Rattle.std.proofs.lemmas.List.Recursion.{is_position_or_len}

-- ---- a hexadecimal digit

pub hex_past : (ch : ℕ) → 0x46 < ch → hex_of ch ≡ 16
unfolding hex_of
hex_past ch h =
    let g : 0x30 ≤ ch = omega arith in
    let p : 0x39 < ch = omega arith in
    let q : 0x41 ≤ ch = omega arith in
    simp (le-leb 0x30 ch g, lt-leb ch 0x39 p, le-leb 0x41 ch q, lt-leb ch 0x46 h)

-- ---- digits two by two

-- the first two of some digits are digits, and so are the others
pub two_digits : (x rest : List ℕ) → length x ≡ 2 → T (all_hex (x ++ rest))
    → (hex_of (get_or x 0 0) < 16) × (hex_of (get_or x 1 0) < 16) × T (all_hex rest)
unfolding all_hex
two_digits [] rest l t = absurd (omega arith)
two_digits (a ∷ []) rest l t = absurd (omega arith)
two_digits (a ∷ b ∷ c ∷ x) rest l t = absurd (omega arith)
two_digits (a ∷ b ∷ []) rest l t =
    let u = and_right (ltb (hex_of a) 16) (ltb (hex_of b) 16 && all_hex rest) t in (
      ltb→lt (hex_of a) 16 (and_left (ltb (hex_of a) 16) (ltb (hex_of b) 16 && all_hex rest) t),
      ltb→lt (hex_of b) 16 (and_left (ltb (hex_of b) 16) (all_hex rest) u),
      and_right (ltb (hex_of b) 16) (all_hex rest) u,
    )

-- they make a byte
pub two_bytes : (x rest : List ℕ) → length x ≡ 2 → bytes_of (x ++ rest) ≡ (16 * hex_of (get_or x 0 0) + hex_of (get_or x 1 0)) ∷ bytes_of rest
unfolding bytes_of
two_bytes [] rest l = absurd (omega arith)
two_bytes (a ∷ []) rest l = absurd (omega arith)
two_bytes (a ∷ b ∷ c ∷ x) rest l = absurd (omega arith)
two_bytes (a ∷ b ∷ []) rest l = refl

-- fewer than two make none
pub bytes_few : (cs : List ℕ) → length cs < 2 → bytes_of cs ≡ []
unfolding bytes_of
bytes_few [] h = refl
bytes_few (a ∷ []) h = refl
bytes_few (a ∷ b ∷ cs) h = absurd (omega arith)

pub bytes_half : (cs : List ℕ) → length (bytes_of cs) ≡ length cs / 2
unfolding bytes_of
bytes_half [] = refl
bytes_half (a ∷ []) = refl
bytes_half (a ∷ b ∷ cs) = omega (arith, bytes_half cs)

pub bytes_length : (chars : List ℕ) → 2 * length (bytes_of chars) ≤ length chars
bytes_length chars = omega (arith, bytes_half chars)

-- ---- how far a line goes on

pub length_stops : (ch : ℕ) (text : List ℕ) → ch ≡ newline → line_length (ch ∷ text) ≡ 0
unfolding line_length
length_stops ch text e = pick_yes 0 (suc (line_length text)) (eq-eqb ch newline e)

pub length_more : (ch : ℕ) (text : List ℕ) → (ch ≡ newline → ⊥) → line_length (ch ∷ text) ≡ suc (line_length text)
unfolding line_length
length_more ch text n = pick_no 0 (suc (line_length text)) (ne_eqb ch newline n)

-- it is the place of the first 0AH, or the text's length
place_or_length : (p : ℕ → Bool) (text : List ℕ) → unwrap_or (position p text) (length text) ≡ position_or_len p text
place_or_length p text = grind (arith, nat_tests, prefix_len-le-length)

pub line_length_place : (text : List ℕ) → line_length text ≡ unwrap_or (position (λ ch. eqb ch newline) text) (length text)
unfolding line_length
line_length_place text =
    is_position_or_len line_length (λ ch. eqb ch newline) refl (λ ch rest. either (eqb ch newline) (line_length rest)) text
    ∙ sym (place_or_length (λ ch. eqb ch newline) text)
  where
    either : (t : Bool) (n : ℕ) → pick t 0 (suc n) ≡ cond t 0 (1 + n)
    either true n = refl
    either false n = omega arith

-- what a slice's part from a place on holds, where there is such a part
pub rest_from : (text : List ℕ) (from : ℕ) (r : Option (Bor (List ℕ))) → IsGetRangeResult text from (length text) r
    → (none : Bor (List ℕ)) → none.now ≡ [] → (unwrap_or r none).now ≡ drop from text
rest_from text from None g none e = e ∙ sym (drop_of_length-le text (⊎_elim (λ h. omega arith) (λ h. absurd (omega arith)) g.0))
rest_from text from (Some part) g none e = g.0.2 ∙ take_all (length text - from) (drop from text) (omega (arith, length-drop from text))

pub line_length_le : (text : List ℕ) → line_length text ≤ length text
unfolding line_length
line_length_le [] = omega arith
line_length_le (ch ∷ text) =
    let more = line_length_le text in
    by_equality ch newline (λ e. omega (arith, length_stops ch text e)) (λ n. omega (arith, length_more ch text n))

-- ---- the lines of a text

pub line_ends : (ch : ℕ) (text : List ℕ) → ch ≡ newline → lines_of (ch ∷ text) ≡ ended [] ∷ lines_of text
unfolding lines_of
line_ends ch text e = pick_yes (ended [] ∷ lines_of text) (before ch (lines_of text)) (eq-eqb ch newline e)

pub line_begins : (ch : ℕ) (text : List ℕ) → (ch ≡ newline → ⊥) → lines_of (ch ∷ text) ≡ before ch (lines_of text)
unfolding lines_of
line_begins ch text n = pick_no (ended [] ∷ lines_of text) (before ch (lines_of text)) (ne_eqb ch newline n)

-- the first line and the text past its 0AH
abbrev first : List ℕ → ℕ → List Line
first text n = ended (take n text) ∷ lines_of (drop (suc n) text)

first_line : (text : List ℕ) → line_length text < length text → lines_of text ≡ first text (line_length text)
first_line [] h = absurd (omega arith)
first_line (ch ∷ text) h =
    by_equality ch newline (λ e. line_ends ch text e ∙ ap (first (ch ∷ text)) (sym (length_stops ch text e)))
    (λ n. let l : line_length text < length text = omega (arith, length_more ch text n) in
    line_begins ch text n ∙ ap (before ch) (first_line text l) ∙ ap (first (ch ∷ text)) (sym (length_more ch text n)))

pub lines_next : (text : List ℕ) → line_length text < length text
    → lines_of text ≡ ended (take (line_length text) text) ∷ lines_of (drop (line_length text + 1) text)
lines_next text h =
    first_line text h ∙ ap (λ n. ended (take (line_length text) text) ∷ lines_of (drop n text)) (sym (add-one (line_length text)))

pub lines_last : (text : List ℕ) → 0 < length text → length text ≤ line_length text → lines_of text ≡ cut_off text ∷ []
unfolding lines_of
lines_last [] p h = absurd (omega arith)
lines_last (ch ∷ []) p h = by_equality ch newline (λ e. absurd (omega (arith, length_stops ch [] e))) (λ n. line_begins ch [] n)
lines_last (ch ∷ x ∷ text) p h =
    by_equality ch newline (λ e. absurd (omega (arith, length_stops ch (x ∷ text) e)))
    (λ n. let l : length (x ∷ text) ≤ line_length (x ∷ text) = omega (arith, length_more ch (x ∷ text) n) in
    let q : 0 < length (x ∷ text) = omega arith in
    line_begins ch (x ∷ text) n ∙ ap (before ch) (lines_last (x ∷ text) q l))

-- a text that isn't empty has a line
before_some : (ch : ℕ) (ls : List Line) → 0 < length (before ch ls)
before_some ch [] = omega arith
before_some ch (ended cs ∷ ls) = omega arith
before_some ch (cut_off cs ∷ ls) = omega arith

pub lines_any : (text : List ℕ) → 0 < length text → 0 < length (lines_of text)
lines_any [] h = absurd (omega arith)
lines_any (ch ∷ text) h =
    by_equality ch newline (λ e. omega (arith, ap length (line_ends ch text e)))
    (λ n. omega (arith, ap length (line_begins ch text n), before_some ch (lines_of text)))

before_append : (ch : ℕ) (ls ms : List Line) → 0 < length ls → before ch (ls ++ ms) ≡ before ch ls ++ ms
before_append ch [] ms h = absurd (omega arith)
before_append ch (ended cs ∷ ls) ms h = refl
before_append ch (cut_off cs ∷ ls) ms h = refl

pub lines_append : (t u : List ℕ) → lines_of (t ++ newline ∷ u) ≡ lines_of (t ++ newline ∷ []) ++ lines_of u
unfolding lines_of
lines_append [] u = refl
lines_append (ch ∷ t) u =
    by_equality ch newline
    (λ e. line_ends ch (t ++ newline ∷ u) e
    ∙ ap (λ ls. ended [] ∷ ls) (lines_append t u)
    ∙ ap (λ ls. ls ++ lines_of u) (sym (line_ends ch (t ++ newline ∷ []) e)))
    (λ n. let some : 0 < length (t ++ newline ∷ []) = omega (arith, length-append t (newline ∷ [])) in
    line_begins ch (t ++ newline ∷ u) n
    ∙ ap (before ch) (lines_append t u)
    ∙ before_append ch (lines_of (t ++ newline ∷ [])) (lines_of u) (lines_any (t ++ newline ∷ []) some)
    ∙ ap (λ ls. ls ++ lines_of u) (sym (line_begins ch (t ++ newline ∷ []) n)))

-- ---- how many characters lines have

unfoldable pub chars_in : List Line → ℕ
chars_in [] = 0
chars_in (ended cs ∷ ls) = length cs + 1 + chars_in ls
chars_in (cut_off cs ∷ ls) = length cs + chars_in ls

chars_before : (ch : ℕ) (ls : List Line) → chars_in (before ch ls) ≡ suc (chars_in ls)
unfolding chars_in
chars_before ch [] = refl
chars_before ch (ended cs ∷ ls) = omega arith
chars_before ch (cut_off cs ∷ ls) = omega arith

pub chars_in_lem : (text : List ℕ) → chars_in (lines_of text) ≡ length text
unfolding chars_in lines_of
chars_in_lem [] = refl
chars_in_lem (ch ∷ text) =
    let more = chars_in_lem text in
    by_equality ch newline (λ e. ap chars_in (line_ends ch text e) ∙ omega arith)
    (λ n. ap chars_in (line_begins ch text n) ∙ chars_before ch (lines_of text) ∙ ap suc more)
