-- What outputs tell: what lines write tells no refusal, and a refusal's line tells it; so an output tells what is answered.
--     Plain, plain_none, plain_more     an output that tells nothing, whatever follows it
--     plain_rises, plain_scan           what samples and what a scan write is such
--     refusal_tells                     the line of a refusal tells its number and line
--     output_tells_lem                      an output tells how its text ended
-- Assumes nothing.
use mathlib.Core.Path.{◌≡◌, refl, ap, sym, ◌∙◌}
use mathlib.Core.Bool.{Bool, true, false, ◌&&◌}
use mathlib.Core.List.{List, [], ◌∷◌, ◌++◌, append_assoc, append-nil}
use Prim.Native.Nat.{ℕ, suc, ◌+◌, ◌*◌, ◌/◌, ◌%◌, ◌^◌, ◌≤◌, ◌<◌}
use native.Mathlib.Nat.{div-div-eq-div-mul}
use native.Mathlib.Omega.{arith}
use borrow.Author.Tests.{leb-true}
use lib.Dec.{eqb, leb, ltb}
use lib.ListN.{length, take}
use Rattle.base.specs.Bits.{cut}
use Rattle.base.specs.Pick.{pick}
use Rattle.base.specs.Refusals.{Told, done, refused}
use Rattle.base.proofs.Picks.{pick_no, pick_cases}
use Rattle.chip.specs.declared.Chip.{Chip}
use Rattle.chip.specs.Edges.{load_rises}
use Rattle.chip.specs.Scans.{Recording, nothing, key_code, over_unread, release_noted, scanned, recorded}
use Rattle.chip.specs.Segments.{lit_of}
use Rattle.chain.specs.declared.Chain.{Chain}
use Rattle.chain.specs.Chain.{stepped_chain, played}
use Rattle.chain.specs.Entries.{chip_at, start_chain}
use Rattle.lines.specs.Lines.{Line, ended, cut_off, newline, before, lines_of, bytes_in, bytes_of, all_hex, hex_of, hex_for, as_hex, line_for, four_bytes}
use Rattle.lines.proofs.Lines.{line_begins}
use Rattle.lines.proofs.Hex.{line_back}
use Rattle.capture.specs.declared.Report.{Report}
use Rattle.capture.specs.declared.Report.TheVariants.{Words, Screen}
use Rattle.capture.specs.Frames.{Form, samples, scan, other, first_of, form_of}
use Rattle.capture.specs.Reports.{screen_line, rise_line, rise_lines, at_rise, key_line, same_bytes, at_scan, refusal_line}
use Rattle.capture.specs.Replay.{rises_in, taken, and_then, lines_out, after_first, all_out, output_of, line_end, lines_end, first_end, all_end, end_of}
use Rattle.demands.specs.Texts.{line_tells, output_tells}
use Rattle.demands.proofs.LineForms.{FirstView, gives, wrong, first_view}

-- ---- a written line is one line

no_newline : (v : ℕ) → hex_for v ≡ newline → ⊥
no_newline v = pick_cases (λ d. d ≡ newline → ⊥) (ltb v 10) (λ q e. omega arith) (λ q e. omega arith)

hex_line : (bytes rest : List ℕ) → lines_of (as_hex bytes ++ newline ∷ rest) ≡ ended (as_hex bytes) ∷ lines_of rest
unfolding lines_of as_hex
hex_line [] rest = refl
hex_line (b ∷ bytes) rest =
    let high = hex_for (b / 16) in
    let low = hex_for (b % 16) in
    let more = as_hex bytes ++ newline ∷ rest in
    line_begins high (low ∷ more) (no_newline (b / 16))
    ∙ ap (before high) (line_begins low more (no_newline (b % 16)) ∙ ap (before low) (hex_line bytes rest))

written_line : (bytes rest : List ℕ) → lines_of (line_for bytes ++ rest) ≡ ended (as_hex bytes) ∷ lines_of rest
unfolding line_for
written_line bytes rest = ap lines_of (append_assoc (as_hex bytes) (newline ∷ []) rest) ∙ hex_line bytes rest

-- ---- outputs that tell nothing

-- an output that tells nothing, whatever follows it
abbrev pub Plain : List ℕ → Type 0
Plain out = (rest : List ℕ) → output_tells (lines_of (out ++ rest)) ≡ output_tells (lines_of rest)

pub plain_none : Plain []
plain_none rest = refl

pub plain_more : (a b : List ℕ) → Plain a → Plain b → Plain (a ++ b)
plain_more a b p q rest = ap (λ out. output_tells (lines_of out)) (append_assoc a b rest) ∙ p (b ++ rest) ∙ q rest

-- a line that tells nothing, before others
over : (l : Line) (ls : List Line) → line_tells (bytes_in l) ≡ done tt → output_tells (l ∷ ls) ≡ output_tells ls
over l [] e = e
over l (m ∷ ls) e = refl

-- a line that doesn't begin with 1F
plain_kind : (kind : ℕ) (bytes : List ℕ) → eqb (16 * hex_of (hex_for (kind / 16)) + hex_of (hex_for (kind % 16))) 0x1F ≡ false
    → line_tells (bytes_in (ended (as_hex (kind ∷ bytes)))) ≡ done tt
unfolding bytes_of as_hex
plain_kind kind bytes e =
    pick_cases (λ bs. line_tells bs ≡ done tt) (all_hex (as_hex (kind ∷ bytes)) && eqb (length (as_hex (kind ∷ bytes)) % 2) 0)
    (λ q. pick_no _ _ e) (λ q. refl)

pub plain_line : (kind : ℕ) (bytes : List ℕ) → eqb (16 * hex_of (hex_for (kind / 16)) + hex_of (hex_for (kind % 16))) 0x1F ≡ false → Plain (line_for (kind ∷ bytes))
plain_line kind bytes e rest =
    ap output_tells (written_line (kind ∷ bytes) rest) ∙ over (ended (as_hex (kind ∷ bytes))) (lines_of rest) (plain_kind kind bytes e)

-- ---- what lines write

plain_screen : (k : ℕ) (c : Chip) → Plain (screen_line k c)
unfolding hex_of
plain_screen k c = plain_line 0x30 (k ∷ lit_of c) refl

plain_rise : (what : Report) (k : ℕ) (c : Chip) → Plain (rise_line what k c)
unfolding hex_of
plain_rise Words k c = plain_line 0x10 (k ∷ cut c.line.register 8 8 ∷ cut c.line.register 0 8 ∷ []) refl
plain_rise Screen k c = plain_screen k c

plain_chips : (what : Report) (k : ℕ) (cs : List Chip) → Plain (rise_lines what k cs)
unfolding rise_lines
plain_chips what k [] = plain_none
plain_chips what k (c ∷ cs) = plain_more (rise_line what k c) (rise_lines what (suc k) cs) (plain_rise what k c) (plain_chips what (suc k) cs)

pub plain_rises : (what : Report) (n : ℕ) (ss : List ℕ) (ch : Chain) → Plain (rises_in what n ss ch)
unfolding rises_in
plain_rises what n [] ch = plain_none
plain_rises what n (s ∷ ss) ch =
    let next = stepped_chain n s ch in
    plain_more (pick (load_rises ch.levels s) (at_rise what n next) []) (rises_in what n ss next)
    (pick_cases Plain (load_rises ch.levels s) (λ e. plain_chips what 0 (take n next.chips)) (λ e. plain_none))
    (plain_rises what n ss next)

plain_key : (k : ℕ) (r : Recording) → Plain (key_line k r)
unfolding hex_of
plain_key k nothing = plain_none
plain_key k (key_code code) = plain_line 0x11 (k ∷ code ∷ []) refl
plain_key k (over_unread code) = plain_line 0x12 (k ∷ code ∷ []) refl
plain_key k release_noted = plain_none

pub plain_scan : (what : Report) (k : ℕ) (bytes : List ℕ) (c : Chip) → Plain (at_scan what k bytes c)
plain_scan Words k bytes c = plain_key k (recorded bytes c)
plain_scan Screen k bytes c =
    pick_cases Plain (same_bytes (lit_of c) (lit_of (scanned bytes c))) (λ e. plain_none) (λ e. plain_screen k (scanned bytes c))

-- ---- refusals

-- a byte more
byte_more : (m q : ℕ) → m / 256 ≡ q → q * 256 + m % 256 ≡ m
byte_more m q e = omega arith

-- four bytes are the number
four_back : (line : ℕ) → line < 4294967296
    → ((line / 2 ^ 24 % 256 * 256 + line / 2 ^ 16 % 256) * 256 + line / 2 ^ 8 % 256) * 256 + line % 256 ≡ line
four_back line h =
    let two : line / 2 ^ 8 / 256 ≡ line / 2 ^ 16 = div-div-eq-div-mul line 256 256 in
    let three : line / 2 ^ 16 / 256 ≡ line / 2 ^ 24 = div-div-eq-div-mul line 65536 256 in
    let small : line / 2 ^ 16 / 256 ≡ line / 2 ^ 24 % 256 = three ∙ omega arith in
    ap (λ m. (m * 256 + line / 2 ^ 8 % 256) * 256 + line % 256) (byte_more (line / 2 ^ 16) (line / 2 ^ 24 % 256) small)
    ∙ ap (λ m. m * 256 + line % 256) (byte_more (line / 2 ^ 8) (line / 2 ^ 16) two)
    ∙ byte_more line (line / 2 ^ 8) refl

pub refusal_tells : (number line : ℕ) → number < 256 → line < 4294967296 → output_tells (lines_of (refusal_line number line)) ≡ refused number line
unfolding lines_of
refusal_tells number line h few =
    let bytes : List ℕ = 0x1F ∷ number ∷ four_bytes line in
    ap (λ out. output_tells (lines_of out)) (sym (append-nil (line_for bytes)))
    ∙ ap output_tells (written_line bytes [])
    ∙ ap line_tells
    (line_back bytes (omega arith, (h, (omega arith, (omega arith, (omega arith, (omega arith, tt)))))))
    ∙ ap (refused number) (four_back line few)

-- ---- how many lines

before_length : (ch : ℕ) (ls : List Line) → length (before ch ls) ≤ suc (length ls)
before_length ch [] = omega arith
before_length ch (ended chars ∷ ls) = omega arith
before_length ch (cut_off chars ∷ ls) = omega arith

pub lines_length : (text : List ℕ) → length (lines_of text) ≤ length text
unfolding lines_of
lines_length [] = omega arith
lines_length (ch ∷ text) =
    let more = lines_length text in
    pick_cases (λ ls. length ls ≤ suc (length text)) (eqb ch newline) {x = ended [] ∷ lines_of text} {y = before ch (lines_of text)} (λ e. omega arith)
    (λ e. omega (arith, before_length ch (lines_of text)))

-- ---- a whole output

-- what an output tells
abbrev tells : List ℕ → Told (Unit {0})
tells out = output_tells (lines_of out)

module _ (what : Report) where
  line_tells_lem : (n line : ℕ) (ch : Chain) (ls : List Line) (form : Form) → line < 4294967296
      → ((next : Chain) → tells (lines_out what n (suc line) next ls) ≡ lines_end n (suc line) ls)
      → tells (and_then (taken what n ch form).told line (lines_out what n (suc line) (taken what n ch form).state ls))
      ≡ line_end form line (lines_end n (suc line) ls)
  line_tells_lem n line ch ls (samples ss) few more = plain_rises what n ss ch _ ∙ more (played n ss ch)
  line_tells_lem n line ch ls (scan k bytes) few more = plain_scan what k bytes (chip_at k ch) _ ∙ more _
  line_tells_lem n line ch ls other few more = refusal_tells 10 line (omega arith) few

  lines_tell : (n line : ℕ) (ch : Chain) (ls : List Line) → line + length ls < 4294967296 → tells (lines_out what n line ch ls) ≡ lines_end n line ls
  unfolding lines_of lines_out lines_end
  lines_tell n line ch [] few = refl
  lines_tell n line ch (l ∷ ls) few =
      line_tells_lem n line ch ls (form_of n (bytes_in l)) (omega arith) (λ next. lines_tell n (suc line) next ls (omega arith))

  first_tells : (first : Line) (ls : List Line) (t : Told ℕ) → FirstView first t → length ls ≤ 65536 → tells (after_first what t ls) ≡ first_end t ls
  first_tells first ls t (gives n gave) few = lines_tell n 2 start_chain ls (omega arith)
  first_tells first ls t (wrong f) few = refusal_tells 10 1 (omega arith) (omega arith)

  all_tell : (ls : List Line) → length ls ≤ 65536 → tells (all_out what ls) ≡ all_end ls
  all_tell [] few = refusal_tells 10 1 (omega arith) (omega arith)
  all_tell (first ∷ ls) few = first_tells first ls (first_of (bytes_in first)) (first_view first) (omega arith)

  pub output_tells_lem : (text : List ℕ) → output_tells (lines_of (output_of what text)) ≡ end_of text
  unfolding output_of end_of
  output_tells_lem text = go (leb (length text) 65536) refl
    where
      go : (t : Bool) → leb (length text) 65536 ≡ t
          → tells (pick t (all_out what (lines_of text)) (refusal_line 11 0)) ≡ pick t (all_end (lines_of text)) (refused 11 0)
      go true e =
          let few : length text ≤ 65536 = leb-true (length text) 65536 e in
          all_tell (lines_of text) (omega (arith, lines_length text))
      go false e = refusal_tells 11 0 (omega arith) (omega arith)
