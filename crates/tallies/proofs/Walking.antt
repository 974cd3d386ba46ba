-- Lines counted one after another. `Walking` is the loop's invariant: what is left of the text, counted from here, leaves and tells what
-- the whole does.
--     walking_start, walking_over          the loop's start, and the text's end
--     walking_cut                          a last line without 0AH
--     walking_refused, walking_more        a line that is refused, and one more line
--     long_counted, many_counted, short_counted     a text too long, a tally of too many chips, and any other
--     none_counted, begun_counted          a text whose first line gives no number of chips, and one whose first line gives a number
-- Assumes nothing.
use mathlib.Core.Path.{◌≡◌, refl, ap, sym, ◌∙◌}
use mathlib.Core.Bool.{true, false, true≢false}
use mathlib.Core.List.{List, [], ◌∷◌}
use Prim.Native.Nat.{ℕ, suc, ◌+◌, ◌-◌, ◌≤◌, ◌<◌}
use native.Mathlib.Numerals.{add-one}
use native.Mathlib.Omega.{arith}
use borrow.Author.Tests.{le-leb, lt-leb}
use lib.ListN.{length, take, drop, drop_of_length-le}
use Rattle.std.specs.Prelude.{Some, None, Result, Ok, Err, is_err}
use Rattle.base.specs.declared.Refusal.{Refusal}
use Rattle.base.specs.Refusals.{tells, done, Outcome, hands_back, once_tested, handed}
use Rattle.base.proofs.Picks.{pick_yes, pick_no}
use Rattle.chain.specs.Chain.{most}
use Rattle.chain.specs.Entries.{started_of}
use Rattle.lines.specs.declared.Frame.{Frame}
use Rattle.lines.specs.Answers.{line_length, held_in, frame_for, held_by}
use Rattle.lines.specs.Lines.{Line, ended, lines_of, bytes_in}
use Rattle.capture.specs.Frames.{form_of}
use Rattle.capture.specs.Parts.{first_in, chips_told}
use Rattle.capture.proofs.EachLine.{line_cut, line_next, frame_form}
use Rattle.capture.proofs.Firsts.{first_none, begun_lines, begun_first, begun_chain}
use Rattle.tallies.specs.declared.Tally.{Tally}
use Rattle.tallies.specs.declared.walk.Counting.{Counting}
use Rattle.tallies.specs.declared.walk.Took.{Took}
use Rattle.tallies.specs.Counted.{counted_line, counted_lines, begun, with_chips, counted_after, counted_all, walked, counted_of}
use Rattle.tallies.specs.Parts.{took_of, tally_of}
use Rattle.base.specs.declared.Handed.{Handed}
use Rattle.chain.specs.declared.Chain.{Chain}

-- ---- the loop over the lines

pub record Walking (n : ℕ) (text : List ℕ) (whole : Outcome Counting (Unit {0})) (next : Counting) (number place : ℕ) : Type 0 where
  pub within : place ≤ length text
  pub short : length text ≤ 65536
  pub few : number ≤ place + 2
  pub left : counted_lines n number next (lines_of (drop place text)) ≡ whole

pub walking_start : (n : ℕ) (text : List ℕ) (s : Counting) (from : ℕ) → from ≤ length text → length text ≤ 65536
    → Walking n text (counted_lines n 2 s (lines_of (drop from text))) s 2 from
walking_start n text s from w short = record { within = w; short = short; few = omega arith; left = refl }

-- what was taken goes on, and what was refused ends it
goes_on : (answer : Result (Unit {0}) Refusal) (s : Counting) (next : Outcome Counting (Unit {0})) → is_err answer ≡ false → once_tested (tells answer) s next ≡ next
goes_on (Ok u) s next e = refl
goes_on (Err refusal) s next e = absurd (true≢false e)

ends : (answer : Result (Unit {0}) Refusal) (s : Counting) (next : Outcome Counting (Unit {0})) → is_err answer ≡ true
    → once_tested (tells answer) s next ≡ record { state = s; told = tells answer }
ends (Ok u) s next e = absurd (true≢false (sym e))
ends (Err refusal) s next e = refl

module _ {n : ℕ} {text : List ℕ} {whole : Outcome Counting (Unit {0})} {next : Counting} {number place : ℕ} (w : Walking n text whole next number place) where
  pub walking_over : length text ≤ place → record { state = next; told = done tt } ≡ whole
  unfolding lines_of counted_lines
  walking_over h = sym (ap (λ xs. counted_lines n number next (lines_of xs)) (drop_of_length-le text h)) ∙ w.left

  module _ (end : ℕ) (here : end ≡ place + line_length (drop place text)) where
    pub walking_cut : place < length text → length text ≤ end → hands_back next 10 number ≡ whole
    unfolding counted_lines form_of
    walking_cut more long = sym (ap (counted_lines n number next) (line_cut text place end here more long)) ∙ w.left

    -- ---- a line that was ended, and what it leaves and tells

    module _ (more : end < length text) (f : Frame) (reads : f ≡ frame_for (held_in (take (end - place) (drop place text)))) (t : Took)
        (took : took_of t ≡ counted_line n number next (form_of n (held_by f))) where
      took_so : took_of t ≡ counted_line n number next (form_of n (bytes_in (ended (take (line_length (drop place text)) (drop place text)))))
      took_so = took ∙ ap (counted_line n number next) (frame_form text place end here n f reads)

      left_so : counted_lines n number next (lines_of (drop place text))
          ≡ once_tested (took_of t).told t.state (counted_lines n (suc number) t.state (lines_of (drop (end + 1) text)))
      unfolding counted_lines
      left_so =
          ap (counted_lines n number next) (line_next text place end here more)
          ∙ ap (λ (o : Outcome Counting (Unit {0})). once_tested o.told o.state (counted_lines n (suc number) o.state (lines_of (drop (end + 1) text)))) (sym took_so)

      pub walking_refused : is_err t.answer ≡ true → took_of t ≡ whole
      walking_refused e = sym (left_so ∙ ends t.answer t.state _ e) ∙ w.left

      pub walking_more : is_err t.answer ≡ false → Walking n text whole t.state (number + 1) (end + 1)
      walking_more e =
          record {
            within = omega arith;
            short = w.short;
            few = omega (arith, w.few);
            left =
                ap (λ k. counted_lines n k t.state (lines_of (drop (end + 1) text))) (add-one number)
                ∙ sym (left_so ∙ goes_on t.answer t.state (counted_lines n (suc number) t.state (lines_of (drop (end + 1) text))) e)
                ∙ w.left;
          }

-- ---- the first line

pub none_counted : (t : Tally) (ls : List Line) → None ≡ chips_told (first_in ls) → counted_all t ls ≡ hands_back (begun t) 10 1
none_counted t [] e = refl
none_counted t (l ∷ ls) e = ap (λ said. counted_after t said ls) (first_none l e).1

-- a chain started, and the lines after the first
pub begun_counted : (t : Tally) (text : List ℕ) (end n : ℕ) (h : Handed Chain (Unit {0})) → end ≡ 0 + line_length text → Some n ≡ chips_told (first_in (lines_of text))
    → handed h ≡ started_of n
    → counted_all t (lines_of text) ≡ counted_lines n 2 (record { chain = h.value; tally = with_chips n t }) (lines_of (drop (end + 1) text))
begun_counted t text end n h here chips start =
    ap (counted_all t) (begun_lines text end n h here chips start)
    ∙ ap (λ said. counted_after t said (lines_of (drop (end + 1) text))) (begun_first text end n h here chips start)
    ∙ ap (λ c. counted_lines n 2 (record { chain = c; tally = with_chips n t }) (lines_of (drop (end + 1) text))) (sym (begun_chain text end n h here chips start))

-- ---- a text

pub long_counted : (t : Tally) (text : List ℕ) → 65536 < length text → hands_back t 11 0 ≡ counted_of t text
unfolding walked
long_counted t text h = sym (ap tally_of (pick_no _ (hands_back (begun t) 11 0) (lt-leb (length text) 65536 h)))

pub many_counted : (t : Tally) (text : List ℕ) → length text ≤ 65536 → most < t.largest → hands_back t 12 0 ≡ counted_of t text
unfolding walked
many_counted t text h many =
    sym (ap tally_of (pick_yes _ (hands_back (begun t) 11 0) (le-leb (length text) 65536 h) ∙ pick_no (counted_all t (lines_of text)) (hands_back (begun t) 12 0) (lt-leb t.largest most many)))

pub short_counted : (t : Tally) (text : List ℕ) → length text ≤ 65536 → t.largest ≤ most → tally_of (counted_all t (lines_of text)) ≡ counted_of t text
unfolding walked
short_counted t text h few =
    sym (ap tally_of (pick_yes _ (hands_back (begun t) 11 0) (le-leb (length text) 65536 h) ∙ pick_yes (counted_all t (lines_of text)) (hands_back (begun t) 12 0) (le-leb t.largest most few)))
