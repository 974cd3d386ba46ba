-- The first line of a text: 00 01 N, or refusal 10.
--     first_cut                          a text with no line that was ended gives no chips
--     first_at                           three bytes by a test of each; others are refused
--     first_held                         what a frame has room for says what the line says
--     frame_says                         the first line says what its frame holds
--     bytes_none, bytes_some             bytes that give no number of chips, and those that give a number
--     first_none, first_some, first_ended     the same of a line
--     long_out_lem, none_out                 a text too long, and one whose first line gives no chips
--     Comes                              a text's output and its end
--     replays_so, piece_room             the output put at the front is what is promised, and has room
--     replays_counts                     the answer counts bytes at the array's front
--     begun_more, begun_lines            chips started: the first line was ended, and the lines after it
--     begun_first, begun_few             it gives N, at most the most
--     begun_chain, begun_out             the chain is started, and the output and the end are those of the lines after the first
-- Assumes nothing.
use mathlib.Core.Path.{◌≡◌, refl, ap, sym, subst, ◌∙◌}
use mathlib.Core.Bool.{Bool, true, false, ◌&&◌}
use mathlib.Core.List.{List, [], ◌∷◌}
use Prim.Native.Nat.{ℕ, ◌+◌, ◌≤◌, ◌<◌}
use native.Mathlib.Omega.{arith}
use borrow.Author.Tests.{le-leb, lt-leb}
use lib.Dec.{T, eqb}
use lib.ListN.{length, get_or, take, drop}
use Rattle.std.specs.Prelude.{Some, None}
use Rattle.std.proofs.lemmas.Option.{none-some, same_Some}
use Rattle.base.specs.Lent.{laid, Counts}
use Rattle.base.specs.Pick.{pick}
use Rattle.base.specs.Refusals.{Told, done, refused, handed}
use Rattle.base.proofs.Lent.{laid_counts}
use Rattle.base.proofs.Picks.{pick_yes, pick_no}
use Rattle.base.proofs.Tests.{by_order}
use Rattle.chain.specs.Chain.{most, chip_count}
use Rattle.chain.specs.Entries.{start_chain, started_of}
use Rattle.chain.proofs.Passed.{start_done}
use Rattle.chain.proofs.Tested.{count_high}
use Rattle.capture.specs.declared.Report.{Report}
use Rattle.capture.specs.declared.Replayed.{Replayed}
use Rattle.lines.specs.declared.Frame.{Frame}
use Rattle.lines.specs.Answers.{line_length, held_in, frame_for, held_by}
use Rattle.lines.specs.Lines.{Line, ended, lines_of, bytes_in}
use Rattle.lines.proofs.Frames.{frame_holds}
use Rattle.lines.proofs.Lines.{lines_next, lines_last}
use Rattle.capture.specs.Frames.{first_of}
use Rattle.capture.specs.Parts.{first_in, chips_told, Ends}
use Rattle.capture.specs.Reports.{refusal_line}
use Rattle.capture.specs.Replay.{lines_out, after_first, all_out, output_of, lines_end, first_end, all_end, end_of, Replays}
use Rattle.capture.proofs.EachLine.{held_same}
use Rattle.base.specs.declared.Handed.{Handed}
use Rattle.chain.specs.declared.Chain.{Chain}

-- ---- where the first line ends

pub first_cut : (text : List ℕ) → length text ≤ line_length text → chips_told (first_in (lines_of text)) ≡ None
unfolding lines_of first_of
first_cut [] h = refl
first_cut (ch ∷ text) h = ap (λ ls. chips_told (first_in ls)) (lines_last (ch ∷ text) (omega arith) h)

first_next : (text : List ℕ) → line_length text < length text
    → first_in (lines_of text) ≡ first_of (bytes_in (ended (take (line_length text) text)))
first_next text h = ap first_in (lines_next text h)

-- ---- its bytes

pub first_at : (bytes : List ℕ)
    → first_of bytes ≡ pick (eqb (length bytes) 3 && eqb (get_or bytes 0 0) 0x00 && eqb (get_or bytes 1 0) 0x01 && chip_count (get_or bytes 2 0)) (done (get_or bytes 2 0)) (refused 10 0)
unfolding first_of
first_at [] = refl
first_at (a ∷ []) = refl
first_at (a ∷ b ∷ []) = refl
first_at (a ∷ b ∷ n ∷ []) = refl
first_at (a ∷ b ∷ n ∷ c ∷ more) = grind arith

pub first_held : (chars : List ℕ) → first_of (held_in chars) ≡ first_of (bytes_in (ended chars))
first_held =
    held_same first_of (λ bytes h. grind (arith, first_at))

-- ---- what its frame holds

pub frame_says : (text : List ℕ) (end : ℕ) → end ≡ 0 + line_length text → end < length text → (f : Frame) → f ≡ frame_for (held_in (take end text))
    → first_in (lines_of text) ≡ first_of (held_by f)
frame_says text end here more f reads =
    let there : line_length text ≡ end = omega arith in
    first_next text (omega arith) ∙ sym (first_held (take (line_length text) text))
    ∙ ap first_of (ap (λ m. held_in (take m text)) there ∙ sym (frame_holds (take end text) reads).front)

-- ---- what follows from it

-- a number of chips that is one, or refusal 10
Counted : Told ℕ → Type 0
Counted (done n) = T (chip_count n)
Counted (refused number place) = number ≡ 10

all_three : (a b c : Bool) (n : ℕ) → (T c → T (chip_count n)) → Counted (pick (a && b && c) (done n) (refused 10 0))
unfolding Counted
all_three true true true n f = f tt
all_three true true false n f = refl
all_three true false c n f = refl
all_three false b c n f = refl

first_counted : (bytes : List ℕ) → Counted (first_of bytes)
unfolding first_of Counted
first_counted [] = refl
first_counted (a ∷ []) = refl
first_counted (a ∷ b ∷ []) = refl
first_counted (a ∷ b ∷ n ∷ []) = all_three (eqb a 0x00) (eqb b 0x01) (chip_count n) n (λ t. t)
first_counted (a ∷ b ∷ n ∷ c ∷ more) = refl

-- bytes that give no number of chips are refused with 10; those that give a number give 1 to 8
pub bytes_none : (bytes : List ℕ) → None ≡ chips_told (first_of bytes) → (place : ℕ) × (first_of bytes ≡ refused 10 place)
unfolding Counted
bytes_none bytes e = go (first_of bytes) (first_counted bytes) e
  where
    go : (t : Told ℕ) → Counted t → None ≡ chips_told t → (place : ℕ) × (t ≡ refused 10 place)
    go (done n) c z = absurd (none-some n z)
    go (refused number place) c z = (place, ap (λ m. refused m place) c)

pub bytes_some : {n : ℕ} (bytes : List ℕ) → Some n ≡ chips_told (first_of bytes) → (first_of bytes ≡ done n) × T (chip_count n)
unfolding Counted
bytes_some {n} bytes e = go (first_of bytes) (first_counted bytes) e
  where
    go : (t : Told ℕ) → Counted t → Some n ≡ chips_told t → (t ≡ done n) × T (chip_count n)
    go (done m) c z = let same = same_Some n m z in (ap done (sym same), subst (λ k. T (chip_count k)) (sym same) c)
    go (refused number place) c z = absurd (none-some n (sym z))

-- so are those of a first line
pub first_none : (l : Line) → None ≡ chips_told (first_of (bytes_in l)) → (place : ℕ) × (first_of (bytes_in l) ≡ refused 10 place)
first_none l = bytes_none (bytes_in l)

pub first_some : {n : ℕ} (l : Line) → Some n ≡ chips_told (first_of (bytes_in l)) → (first_of (bytes_in l) ≡ done n) × T (chip_count n)
first_some l = bytes_some (bytes_in l)

-- where a number is given, the first line was ended
pub first_ended : {n : ℕ} (text : List ℕ) → Some n ≡ chips_told (first_in (lines_of text)) → line_length text < length text
first_ended {n} text e = by_order (length text) (line_length text) (λ h. absurd (none-some n (sym (e ∙ first_cut text h)))) (λ h. h)

none_refused : (what : Report) (ls : List Line) → None ≡ chips_told (first_in ls) → (all_out what ls ≡ refusal_line 10 1) × (all_end ls ≡ refused 10 1)
none_refused what [] e = (refl, refl)
none_refused what (l ∷ ls) e =
    let none = (first_none l e).1 in (ap (λ t. after_first what t ls) none, ap (λ t. first_end t ls) none)

-- ---- the whole

-- a text's output and its end
abbrev pub Comes : Report → List ℕ → List ℕ → Told (Unit {0}) → Type 0
Comes what text piece end = (output_of what text ≡ piece) × (end_of text ≡ end)

pub long_out_lem : (what : Report) (text : List ℕ) → 65536 < length text → Comes what text (refusal_line 11 0) (refused 11 0)
unfolding output_of end_of
long_out_lem what text h = let long = lt-leb (length text) 65536 h in (pick_no _ _ long, pick_no _ _ long)

-- a text short enough is what its lines are
short_out : (what : Report) (text : List ℕ) {piece : List ℕ} {end : Told (Unit {0})} → length text ≤ 65536 → all_out what (lines_of text) ≡ piece
    → all_end (lines_of text) ≡ end
    → Comes what text piece end
unfolding output_of end_of
short_out what text h p e = let short = le-leb (length text) 65536 h in (pick_yes _ _ short ∙ p, pick_yes _ _ short ∙ e)

pub none_out : (what : Report) (text : List ℕ) → length text ≤ 65536 → None ≡ chips_told (first_in (lines_of text))
    → Comes what text (refusal_line 10 1) (refused 10 1)
none_out what text h e = let none = none_refused what (lines_of text) e in short_out what text h none.0 none.1

-- the output put at the front is what is promised
pub replays_so : {what : Report} {text : List ℕ} (piece : List ℕ) {end : Told (Unit {0})} {out : List ℕ} {r : Replayed} {out' : List ℕ}
    → Comes what text piece end
    → Ends piece end 0 out r out'
    → Replays what text out r out'
replays_so piece {out = out} {r = r} c put =
    let count : r.bytes ≡ length piece = omega (arith, put.puts.answer) in
    record {
      answer = put.answer ∙ sym c.1;
      count = count ∙ ap length (sym c.0);
      bytes = put.puts.bytes ∙ ap (λ p. laid p out) (sym c.0);
    }

-- and has room
pub piece_room : {whole piece : List ℕ} (room : ℕ) → whole ≡ piece → length whole ≤ room → length piece ≤ room
piece_room room = subst (λ p. length p ≤ room)

-- the answer counts bytes at the array's front
pub replays_counts : {what : Report} {text out : List ℕ} {r : Replayed} {out' : List ℕ} → length (output_of what text) ≤ length out
    → Replays what text out r out'
    → Counts r.bytes out'
replays_counts {what} {text} {out} {r} {out'} fits p =
    subst (λ n. Counts n out') (sym p.count) (subst (λ xs. Counts (length (output_of what text)) xs) (sym p.bytes) (laid_counts out (output_of what text) fits))

-- ---- a chain started, and the lines after the first

module _ (text : List ℕ) (end n : ℕ) (h : Handed Chain (Unit {0})) (here : end ≡ 0 + line_length text) (chips : Some n ≡ chips_told (first_in (lines_of text)))
    (start : handed h ≡ started_of n) where
  there : line_length text ≡ end
  there = omega arith

  pub begun_more : end < length text
  begun_more = omega (arith, first_ended text chips)

  -- the first line and those after it, and what the first says
  pub begun_lines : lines_of text ≡ ended (take end text) ∷ lines_of (drop (end + 1) text)
  begun_lines =
      lines_next text (first_ended text chips) ∙ ap (λ m. ended (take m text) ∷ lines_of (drop (m + 1) text)) there

  said : (first_of (bytes_in (ended (take end text))) ≡ done n) × T (chip_count n)
  said = first_some (ended (take end text)) (chips ∙ ap (λ ls. chips_told (first_in ls)) begun_lines)

  pub begun_first : first_of (bytes_in (ended (take end text))) ≡ done n
  begun_first = said.0

  count : T (chip_count n)
  count = said.1

  pub begun_few : n ≤ most
  begun_few = count_high n count

  pub begun_chain : h.value ≡ start_chain
  begun_chain = ap (λ o. o.state) (start ∙ start_done n count)

  pub begun_out : (what : Report) → length text ≤ 65536
      → Comes what text (lines_out what n 2 h.value (lines_of (drop (end + 1) text))) (lines_end n 2 (lines_of (drop (end + 1) text)))
  begun_out what fits =
      short_out what text fits
      (ap (all_out what) begun_lines ∙ ap (λ t. after_first what t (lines_of (drop (end + 1) text))) begun_first ∙ ap (λ c. lines_out what n 2 c (lines_of (drop (end + 1) text))) (sym begun_chain))
      (ap all_end begun_lines ∙ ap (λ t. first_end t (lines_of (drop (end + 1) text))) begun_first)
