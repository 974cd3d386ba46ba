-- An output always fits: how long each part of an output can be, and a bound for the whole that doesn't depend on the text.
--     line_width                                         how long a chip's line is
--     rise_line_length, rise_lines_length               a chip's line at a LOAD rise, and all chips'
--     at_rise_room, at_scan_room                        what one LOAD rise and one scan write
--     rises_room                                        what samples write: a rise needs LOAD low before it
--     form_room                                         what a line's bytes write
--     line_room_lem, lines_room, first_high, output_room    one line, all after the first, and the whole
-- Assumes nothing.
use mathlib.Core.Path.{◌≡◌, refl, ap, sym, subst}
use mathlib.Core.Bool.{Bool, true, false, not, ◌&&◌}
use mathlib.Core.List.{List, [], ◌∷◌, ◌++◌}
use Prim.Native.Nat.{ℕ, suc, ◌+◌, ◌*◌, ◌%◌, ◌≤◌, ◌/◌}
use native.Mathlib.Nat.{mul-le-mul_left, min-le_left}
use native.Mathlib.Omega.{arith}
use borrow.Author.Tests.{leb-true}
use lib.Dec.{T, eqb, leb, ltb}
use lib.ListN.{length, take, length-append, length-take}
use Rattle.base.specs.Pick.{pick}
use Rattle.base.specs.Refusals.{Told, done, refused}
use Rattle.base.proofs.Picks.{pick_cases}
use Rattle.base.proofs.Tests.{and_right}
use Rattle.chip.specs.declared.Chip.{Chip}
use Rattle.chip.specs.Edges.{load, load_rises}
use Rattle.chip.specs.Scans.{Recording, nothing, key_code, over_unread, release_noted, scanned, recorded}
use Rattle.chip.specs.Segments.{lit_of}
use Rattle.chain.specs.declared.Chain.{Chain}
use Rattle.chain.specs.Chain.{most, chip_count, checked_from, stepped_chain}
use Rattle.chain.specs.Entries.{start_chain, chip_at}
use Rattle.chain.proofs.Tested.{count_high}
use Rattle.lines.specs.Lines.{Line, ended, cut_off, lines_of, all_hex, bytes_of, bytes_in}
use Rattle.lines.proofs.Lines.{bytes_length, chars_in, chars_in_lem}
use Rattle.lines.proofs.Puts.{line_for_length}
use Rattle.capture.specs.declared.Report.{Report}
use Rattle.capture.specs.declared.Report.TheVariants.{Words, Screen}
use Rattle.capture.specs.Frames.{Form, samples_by, scan_form, form_of, first_of}
use Rattle.capture.specs.Reports.{rise_line, rise_lines, at_rise, key_line, same_bytes, at_scan, refusal_line}
use Rattle.capture.specs.Replay.{rises_in, taken, and_then, lines_out, after_first, all_out, output_of}
use Rattle.capture.specs.Parts.{out_of}
use Rattle.capture.proofs.Reported.{refusal_length}
use Rattle.capture.proofs.Reported.{screen_length}

-- how long a chip's line is: 4 bytes or 10, as digits, and 0AH; a key's is shorter
abbrev pub line_width : Report → ℕ
line_width Words = 9
line_width Screen = 21

-- so many lines' width for each byte of a text: a LOAD rise needs two samples, of two digits each
abbrev pub spread : ℕ
spread = most / 4

-- ---- one rise, one scan

pub rise_line_length : (what : Report) (k : ℕ) (c : Chip) → length (rise_line what k c) ≡ line_width what
rise_line_length Words k c = line_for_length (0x10 ∷ k ∷ _ ∷ _ ∷ [])
rise_line_length Screen k c = screen_length k c

pub rise_lines_length : (what : Report) (k : ℕ) (cs : List Chip) → length (rise_lines what k cs) ≡ line_width what * length cs
unfolding rise_lines
rise_lines_length what k [] = omega arith
rise_lines_length what k (c ∷ cs) =
    omega (arith, length-append (rise_line what k c) (rise_lines what (suc k) cs), rise_line_length what k c, rise_lines_length what (suc k) cs)

pub at_rise_room : (what : Report) (n : ℕ) (ch : Chain) → n ≤ most → length (at_rise what n ch) ≤ most * line_width what
at_rise_room what n ch h =
    let few : length (take n ch.chips) ≤ most = omega (arith, length-take n ch.chips, min-le_left n (length ch.chips)) in
    omega (arith, rise_lines_length what 0 (take n ch.chips), mul-le-mul_left (line_width what) few)

key_room : (k : ℕ) (r : Recording) → length (key_line k r) ≤ 9
key_room k nothing = omega arith
key_room k (key_code code) = omega (arith, line_for_length (0x11 ∷ k ∷ code ∷ []))
key_room k (over_unread code) = omega (arith, line_for_length (0x12 ∷ k ∷ code ∷ []))
key_room k release_noted = omega arith

pub at_scan_room : (what : Report) (k : ℕ) (bytes : List ℕ) (c : Chip) → length (at_scan what k bytes c) ≤ line_width what
at_scan_room Words k bytes c = key_room k (recorded bytes c)
at_scan_room Screen k bytes c =
    pick_cases (λ piece. length piece ≤ 21) (same_bytes (lit_of c) (lit_of (scanned bytes c))) (λ _. omega arith)
    (λ _. omega (arith, screen_length k (scanned bytes c)))

-- ---- samples

-- room for one more rise, where LOAD is low
abbrev spare : ℕ → Bool → ℕ
spare m high = pick high 0 m

spare_le : (m : ℕ) (high : Bool) → spare m high ≤ m
spare_le m true = omega arith
spare_le m false = omega arith

-- a rise uses it up
spare_used : (m : ℕ) (was now : Bool) → (not was && now) ≡ true → (spare m was ≡ m) × (spare m now ≡ 0)
spare_used m true now e = let z : ◌≡◌ {A = ℕ} 0 1 = cc in absurd (omega arith)
spare_used m false true e = (refl, refl)
spare_used m false false e = let z : ◌≡◌ {A = ℕ} 0 1 = cc in absurd (omega arith)

rises_spare : (what : Report) (n : ℕ) (ss : List ℕ) (ch : Chain) → n ≤ most
    → 2 * length (rises_in what n ss ch) ≤ most * line_width what * length ss + spare (most * line_width what) (load ch.levels)
unfolding rises_in
rises_spare what n [] ch h = omega arith
rises_spare what n (s ∷ ss) ch h =
    let next = stepped_chain n s ch in
    let more = rises_spare what n ss next h in
    pick_cases (λ piece. 2 * length (piece ++ rises_in what n ss next) ≤ most * line_width what * length (s ∷ ss) + spare (most * line_width what) (load ch.levels))
    (load_rises ch.levels s)
    (λ e. let u = spare_used (most * line_width what) (load ch.levels) (load s) e in
    omega (arith, length-append (at_rise what n next) (rises_in what n ss next), at_rise_room what n next h))
    (λ _. omega (arith, spare_le (most * line_width what) (load s)))

pub rises_room : (what : Report) (n : ℕ) (ss : List ℕ) (ch : Chain) → n ≤ most
    → 2 * length (rises_in what n ss ch) ≤ most * line_width what * (length ss + 1)
rises_room what n ss ch h = omega (arith, rises_spare what n ss ch h, spare_le (most * line_width what) (load ch.levels))

-- ---- one line

pub bytes_room : (l : Line) → 2 * length (bytes_in l) ≤ chars_in (l ∷ [])
unfolding chars_in
bytes_room (ended cs) =
    pick_cases (λ bytes. 2 * length bytes ≤ length cs + 1 + 0) (all_hex cs && eqb (length cs % 2) 0) {x = bytes_of cs} {y = []} (λ _. omega (arith, bytes_length cs))
    (λ _. omega arith)
bytes_room (cut_off cs) = omega arith

module _ (what : Report) (n : ℕ) (ch : Chain) (h : n ≤ most) where
  -- a form writes at most so much
  abbrev pub Within : ℕ → Form → Type 0
  Within m form = length (out_of (taken what n ch form).told) ≤ spread * line_width what * m

  samples_room : (m : ℕ) (t : Told (Unit {0})) (ss : List ℕ) → 2 * suc (length ss) ≤ m → Within m (samples_by t ss)
  samples_room m (done u) ss l = omega (arith, rises_room what n ss ch h, mul-le-mul_left (line_width what) l)
  samples_room m (refused number place) ss l = omega arith

  scan_room_lem : (m : ℕ) (rest : List ℕ) → 1 ≤ m → Within m (scan_form n rest)
  scan_room_lem m [] l = omega arith
  scan_room_lem m (k ∷ bytes) l =
      pick_cases (Within m) (ltb k n && eqb (length bytes) 8)
      (λ _. omega (arith, at_scan_room what k bytes (chip_at k ch), mul-le-mul_left (line_width what) l))
      (λ _. omega arith)

  pub form_room : (m : ℕ) (bytes : List ℕ) → 2 * length bytes ≤ m → Within m (form_of n bytes)
  unfolding form_of
  form_room m [] l = omega arith
  form_room m (kind ∷ rest) l =
      pick_cases (Within m) (eqb kind 0x01)
      (λ _. pick_cases (Within m) (leb 1 (length rest) && leb (length rest) 32) (λ _. samples_room m (checked_from 0 rest) rest l) (λ _. omega arith))
      (λ _. pick_cases (Within m) (eqb kind 0x02) (λ _. scan_room_lem m rest (omega arith)) (λ _. omega arith))

  pub line_room_lem : (l : Line) → length (out_of (taken what n ch (form_of n (bytes_in l))).told) ≤ spread * line_width what * chars_in (l ∷ [])
  line_room_lem l = form_room (chars_in (l ∷ [])) (bytes_in l) (bytes_room l)

-- ---- lines

pub chars_more : (l : Line) (ls : List Line) → chars_in (l ∷ ls) ≡ chars_in (l ∷ []) + chars_in ls
unfolding chars_in
chars_more (ended cs) ls = omega arith
chars_more (cut_off cs) ls = omega arith

then_room : (t : Told (List ℕ)) (line : ℕ) (rest : List ℕ) (m r : ℕ) → length (out_of t) ≤ m → length rest ≤ r + 13 → length (and_then t line rest) ≤ m + r + 13
then_room (done out) line rest m r h l = omega (arith, length-append out rest)
then_room (refused number place) line rest m r h l = omega (arith, refusal_length number line)

pub lines_room : (what : Report) (n line : ℕ) (ch : Chain) (ls : List Line) → n ≤ most → length (lines_out what n line ch ls) ≤ spread * line_width what * chars_in ls + 13
unfolding lines_out
lines_room what n line ch [] h = omega arith
lines_room what n line ch (l ∷ ls) h =
    let t = taken what n ch (form_of n (bytes_in l)) in
    let more = lines_room what n (suc line) t.state ls h in
    let rest = lines_out what n (suc line) t.state ls in
    let fits = then_room t.told line rest (spread * line_width what * chars_in (l ∷ [])) (spread * line_width what * chars_in ls) (line_room_lem what n ch h l) more in
    omega (arith, fits, ap (λ k. line_width what * k) (chars_more l ls))

-- ---- the whole

-- a first line that is accepted gives 1 to the most chips
pub first_high : (bytes : List ℕ) (m : ℕ) → first_of bytes ≡ done m → m ≤ most
unfolding first_of
first_high [] m e = let z : ◌≡◌ {A = ℕ} 0 1 = cc in absurd (omega arith)
first_high (a ∷ []) m e = let z : ◌≡◌ {A = ℕ} 0 1 = cc in absurd (omega arith)
first_high (a ∷ b ∷ []) m e = let z : ◌≡◌ {A = ℕ} 0 1 = cc in absurd (omega arith)
first_high (a ∷ b ∷ n ∷ []) m e =
    pick_cases (λ t. t ≡ done m → m ≤ most) (eqb a 0x00 && eqb b 0x01 && chip_count n)
    (λ y q.
    let same : n ≡ m = cc in
    let ok : T (chip_count n) = and_right (eqb a 0x00 && eqb b 0x01) (chip_count n) (subst T (sym y) tt) in
    omega (arith, count_high n ok))
    (λ _ q. let z : ◌≡◌ {A = ℕ} 0 1 = cc in absurd (omega arith))
    e
first_high (a ∷ b ∷ n ∷ c ∷ more) m e = let z : ◌≡◌ {A = ℕ} 0 1 = cc in absurd (omega arith)

after_room : (what : Report) (t : Told ℕ) (ls : List Line) → ((n : ℕ) → t ≡ done n → n ≤ most) → length (after_first what t ls) ≤ spread * line_width what * chars_in ls + 13
after_room what (done n) ls f = lines_room what n 2 start_chain ls (f n refl)
after_room what (refused number place) ls f = omega (arith, refusal_length number 1)

all_room : (what : Report) (ls : List Line) → length (all_out what ls) ≤ spread * line_width what * chars_in ls + 13
all_room what [] = omega (arith, refusal_length 10 1)
all_room what (l ∷ ls) =
    omega (arith, after_room what (first_of (bytes_in l)) ls (first_high (bytes_in l)), ap (λ k. line_width what * k) (chars_more l ls))

pub output_room : (what : Report) (text : List ℕ) → length (output_of what text) ≤ spread * line_width what * 65536 + 13
unfolding output_of
output_room what text =
    pick_cases (λ out. length out ≤ spread * line_width what * 65536 + 13) (leb (length text) 65536) {x = all_out what (lines_of text)} {y = refusal_line 11 0}
    (λ y. let few : length text ≤ 65536 = leb-true (length text) 65536 y in
    omega (arith, all_room what (lines_of text), ap (λ k. line_width what * k) (chars_in_lem text), mul-le-mul_left (line_width what) few))
    (λ _. omega (arith, refusal_length 11 0))
