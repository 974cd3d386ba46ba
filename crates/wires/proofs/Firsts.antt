-- The first line of a text: 40 01, the key's code, six digits, or refusal 10; and the whole, from it on.
--     first_cut                     a text with no line that was ended has no first line of the form
--     frame_says                    the first line says what its frame holds
--     long_out_lem, none_out            a text too long, and one whose first line is refused
--     Comes                         a text's output and its end
--     replays_so, replays_counts    the output put at the front is what is promised; the answer counts its bytes
--     begun_more, begun_out         a panel at power-on: the first line was ended, and the lines after it
-- Assumes nothing.
use mathlib.Core.Path.{◌≡◌, refl, ap, sym, subst, ◌∙◌}
use mathlib.Core.Bool.{◌&&◌}
use mathlib.Core.List.{List, [], ◌∷◌}
use Prim.Native.Nat.{ℕ, ◌+◌, ◌≤◌, ◌<◌}
use native.Mathlib.Omega.{arith}
use borrow.Author.Tests.{le-leb, lt-leb, ne_eqb}
use lib.Dec.{eqb, leb}
use lib.ListN.{length, get_or, take, drop}
use Rattle.base.specs.Lent.{laid, Counts}
use Rattle.base.specs.Refusals.{Told, done, refused}
use Rattle.base.proofs.Lent.{laid_counts}
use Rattle.base.proofs.Picks.{pick_yes, pick_no, pick_cases}
use Rattle.base.proofs.Tests.{by_order}
use Rattle.capture.specs.declared.Replayed.{Replayed}
use Rattle.capture.specs.Parts.{Ends}
use Rattle.capture.specs.Reports.{refusal_line}
use Rattle.capture.proofs.EachLine.{held_same}
use Rattle.ch450.specs.declared.Panel.{Panel}
use Rattle.ch450.specs.Panel.{power_on}
use Rattle.lines.specs.declared.Frame.{Frame}
use Rattle.lines.specs.Answers.{line_length, held_in, frame_for, held_by}
use Rattle.lines.specs.Lines.{Line, ended, lines_of, bytes_in}
use Rattle.lines.proofs.Frames.{frame_holds}
use Rattle.lines.proofs.Lines.{lines_next, lines_last}
use Rattle.wires.specs.declared.Report.{Report}
use Rattle.wires.specs.declared.frames.First.{First}
use Rattle.wires.specs.Frames.{Begin, first_of}
use Rattle.wires.specs.Parts.{first_in, first_by}
use Rattle.wires.specs.Replay.{lines_out, after_first, all_out, output_of, lines_end, first_end, all_end, end_of, Replays}
use Rattle.std.specs.declared.option.Option.TheVariants.{Some, None}

-- ---- its bytes

pub first_cut : (text : List ℕ) → length text ≤ line_length text → first_by (first_in (lines_of text)) ≡ None
unfolding lines_of first_of
first_cut [] h = refl
first_cut (ch ∷ text) h = ap (λ ls. first_by (first_in ls)) (lines_last (ch ∷ text) (omega arith) h)

not_nine : (bytes : List ℕ) → (length bytes ≡ 9 → ⊥) → first_of bytes ≡ refused 10 0
unfolding first_of
not_nine bytes ne =
    pick_no _ _
    (ap (λ b. b && eqb (get_or bytes 0 0) 0x40 && eqb (get_or bytes 1 0) 0x01 && leb (get_or bytes 2 0) 127) (ne_eqb (length bytes) 9 ne))

first_held : (chars : List ℕ) → first_of (held_in chars) ≡ first_of (bytes_in (ended chars))
first_held = held_same first_of (λ bytes h. not_nine bytes (λ e. absurd (omega arith)) ∙ sym (not_nine [] (λ e. absurd (omega arith))))

-- ---- by what its frame holds

pub frame_says : (text : List ℕ) (end : ℕ) → end ≡ 0 + line_length text → end < length text → (f : Frame) → f ≡ frame_for (held_in (take end text))
    → first_in (lines_of text) ≡ first_of (held_by f)
frame_says text end here more f reads =
    let there : line_length text ≡ end = omega arith in
    ap first_in (lines_next text (omega arith)) ∙ sym (first_held (take (line_length text) text))
    ∙ ap first_of (ap (λ m. held_in (take m text)) there ∙ sym (frame_holds (take end text) reads).front)

-- ---- what follows from it

-- whatever is refused is with 10
Ten : Told Begin → Type 0
Ten (done b) = Unit {0}
Ten (refused number place) = number ≡ 10

first_ten : (bytes : List ℕ) → Ten (first_of bytes)
unfolding first_of Ten
first_ten bytes =
    pick_cases Ten (eqb (length bytes) 9 && eqb (get_or bytes 0 0) 0x40 && eqb (get_or bytes 1 0) 0x01 && leb (get_or bytes 2 0) 127)
    {x = done (record { key = get_or bytes 2 0; digits = drop 3 bytes })} {y = refused 10 0} (λ _. tt) (λ _. refl)

none_after : (what : Report) (t : Told Begin) (ls : List Line) → Ten t → first_by t ≡ None
    → (after_first what t ls ≡ refusal_line 10 1) × (first_end t ls ≡ refused 10 1)
unfolding Ten
none_after what (done b) ls c e = absurd (cc)
none_after what (refused number place) ls c e = (ap (λ m. refusal_line m 1) c, ap (λ m. refused m 1) c)

none_refused : (what : Report) (ls : List Line) → first_by (first_in ls) ≡ None → (all_out what ls ≡ refusal_line 10 1) × (all_end ls ≡ refused 10 1)
none_refused what [] e = (refl, refl)
none_refused what (l ∷ ls) e = none_after what (first_of (bytes_in l)) ls (first_ten (bytes_in l)) e

-- ---- the whole

-- a text's output and its end
abbrev pub Comes : Report → List ℕ → List ℕ → Told (Unit {0}) → Type 0
Comes what text piece end = (output_of what text ≡ piece) × (end_of text ≡ end)

pub long_out_lem : (what : Report) (text : List ℕ) → 65536 < length text → Comes what text (refusal_line 11 0) (refused 11 0)
unfolding output_of end_of
long_out_lem what text h = let long = lt-leb (length text) 65536 h in (pick_no _ _ long, pick_no _ _ long)

-- a text short enough is what its lines are
short_out : (what : Report) (text : List ℕ) {piece : List ℕ} {end : Told (Unit {0})} → length text ≤ 65536 → all_out what (lines_of text) ≡ piece
    → all_end (lines_of text) ≡ end
    → Comes what text piece end
unfolding output_of end_of
short_out what text h p e = let short = le-leb (length text) 65536 h in (pick_yes _ _ short ∙ p, pick_yes _ _ short ∙ e)

pub none_out : (what : Report) (text : List ℕ) → length text ≤ 65536 → first_by (first_in (lines_of text)) ≡ None
    → Comes what text (refusal_line 10 1) (refused 10 1)
none_out what text h e =
    let none = none_refused what (lines_of text) e in short_out what text h none.0 none.1

-- the output put at the front is what is promised
pub replays_so : {what : Report} {text : List ℕ} (piece : List ℕ) {end : Told (Unit {0})} {out : List ℕ} {r : Replayed} {out' : List ℕ}
    → Comes what text piece end
    → Ends piece end 0 out r out'
    → Replays what text out r out'
replays_so piece {out = out} {r = r} c put =
    let count : r.bytes ≡ length piece = omega (arith, put.puts.answer) in
    record {
      answer = put.answer ∙ sym c.1;
      count = count ∙ ap length (sym c.0);
      bytes = put.puts.bytes ∙ ap (λ p. laid p out) (sym c.0);
    }

-- the answer counts bytes at the array's front
pub replays_counts : {what : Report} {text out : List ℕ} {r : Replayed} {out' : List ℕ} → length (output_of what text) ≤ length out
    → Replays what text out r out'
    → Counts r.bytes out'
replays_counts {what} {text} {out} {r} {out'} fits p =
    subst (λ n. Counts n out') (sym p.count) (subst (λ xs. Counts (length (output_of what text)) xs) (sym p.bytes) (laid_counts out (output_of what text) fits))

-- ---- a panel at power-on, and the lines after the first

module _ (text : List ℕ) (end : ℕ) (first : First) (here : end ≡ 0 + line_length text) (same : Some first ≡ first_by (first_in (lines_of text))) where
  there : line_length text ≡ end
  there = omega arith

  pub begun_more : end < length text
  begun_more =
      by_order (length text) (line_length text)
      (λ h. let none : Some first ≡ None = same ∙ first_cut text h in absurd (cc))
      (λ h. omega arith)

  begun_lines : lines_of text ≡ ended (take end text) ∷ lines_of (drop (end + 1) text)
  begun_lines =
      let more = begun_more in
      lines_next text (omega arith) ∙ ap (λ m. ended (take m text) ∷ lines_of (drop (m + 1) text)) there

  -- the first line says the key's code and the digits
  begun_first : first_of (bytes_in (ended (take end text))) ≡ done (record { key = first.key; digits = first.digits })
  begun_first = go (first_of (bytes_in (ended (take end text)))) (same ∙ ap (λ ls. first_by (first_in ls)) begun_lines)
    where
      go : (t : Told Begin) → Some first ≡ first_by t → t ≡ done (record { key = first.key; digits = first.digits })
      go (done b) e = let f : first ≡ record { key = b.key; digits = b.digits } = cc in ap (λ (x : First). done (record { key = x.key; digits = x.digits })) (sym f)
      go (refused number place) e = absurd (cc)

  pub begun_out : (what : Report) (p : Panel) → p ≡ power_on first.digits → length text ≤ 65536
      → Comes what text (lines_out what first.key 2 p (lines_of (drop (end + 1) text))) (lines_end 2 (lines_of (drop (end + 1) text)))
  begun_out what p on fits =
      short_out what text fits
      (ap (all_out what) begun_lines ∙ ap (λ t. after_first what t (lines_of (drop (end + 1) text))) begun_first
      ∙ ap (λ q. lines_out what first.key 2 q (lines_of (drop (end + 1) text))) (sym on))
      (ap all_end begun_lines ∙ ap (λ t. first_end t (lines_of (drop (end + 1) text))) begun_first)
