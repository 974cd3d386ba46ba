-- A text's bytes one after another, and then its end, write what its lines write: from any place inside a line on.
--     text_from               where N is known: the lines from a number on, within the limit. proofs/FirstLines.antt has the first line
-- Assumes nothing.
use Rattle.std.proofs.Common.{◌≡◌, ℕ, zero, suc, ◌+◌, ◌^◌, ◌<◌, true, List, [], ◌∷◌, ◌++◌, sym, refl, ap, ◌∙◌, append_assoc, append-nil, add-one, arith, eq-eqb, ne_eqb}
use Rattle.base.proofs.Picks.{pick_yes, pick_no}
use Rattle.base.proofs.Tests.{by_equality}
use Rattle.chain.specs.declared.Chain.{Chain}
use Rattle.chain.specs.Chain.{chip_count}
use Rattle.chain.specs.Entries.{chip_at}
use Rattle.lines.specs.Lines.{newline, ended, cut_off, lines_of, bytes_in}
use Rattle.lines.proofs.Texts.{NoEnd, no_end, no_end_more, lines_held, lines_cut, lines_some}
use Rattle.capture.specs.declared.Report.{Report}
use Rattle.capture.specs.Frames.{Form, samples, scan, other, form_of, first_of}
use Rattle.capture.specs.Reports.{at_scan, refusal_line}
use Rattle.capture.specs.Replay.{rises_in, taken, and_then}
use Rattle.capture.proofs.EachLine.{none_other}
use Rattle.reads.specs.declared.Reader.{Reader}
use Rattle.streams.specs.declared.Kind.TheVariants.{Text}
use Rattle.streams.specs.declared.State.{State}
use Rattle.streams.specs.declared.held.Held.{Held}
use Rattle.streams.specs.Held.{none_held, grown_one, line_held}
use Rattle.streams.specs.Steps.{Stepped, begins, first_taken, later_taken, line_ended, text_byte, then, steps}
use Rattle.streams.proofs.Holds.{HoldsLine, holds_none, holds_more, holds_empty, holds_some, form_held}
use Rattle.streams.proofs.Limits.{limited, limited_none, limited_full, limited_more}
use Rattle.streams.proofs.TextSteps.{byte_held, byte_ends, byte_many}
use Rattle.streams.proofs.Written.{stands, written, written_going, written_stopped}

-- ---- a line after the first

module _ (what : Report) (n : ℕ) (some : chip_count n ≡ true) where
  -- what is left of the steps
  abbrev onward : List ℕ → State → Stepped
  onward text next = steps (text_byte what) next text

  -- the line's form says what it does
  later_ends : (ch : Chain) (rd : Reader) (k : ℕ) {held : Held} (h : List ℕ) → HoldsLine held h
      → line_ended what (stands n ch rd k held)
      ≡ later_taken (stands n ch rd k held) (taken what n ch (form_of n (bytes_in (ended h)))).state (taken what n ch (form_of n (bytes_in (ended h)))).told
  later_ends ch rd k {held} h p =
      pick_yes _ (first_taken (stands n ch rd k held) (first_of (line_held held))) some
      ∙ ap (λ form. later_taken (stands n ch rd k held) (taken what n ch form).state (taken what n ch form).told) (form_held h n p)

  -- and the lines after it write what they write
  later_taken_lem : (ch : Chain) (rd : Reader) (k m : ℕ) (held : Held) (text : List ℕ) (form : Form)
      → ((after : Chain) → written Text (onward text (begins n after rd (k + 1))) ≡ limited what n (suc k) m after (lines_of text))
      → written Text (then (later_taken (stands n ch rd k held) (taken what n ch form).state (taken what n ch form).told) (onward text))
      ≡ and_then (taken what n ch form).told k (limited what n (suc k) m (taken what n ch form).state (lines_of text))
  later_taken_lem ch rd k m held text (samples ss) rest =
      let t = taken what n ch (samples ss) in
      written_going Text (begins n t.state rd (k + 1)) (rises_in what n ss ch) (onward text) ∙ ap (λ x. rises_in what n ss ch ++ x) (rest t.state)
  later_taken_lem ch rd k m held text (scan c bytes) rest =
      let t = taken what n ch (scan c bytes) in
      let out = at_scan what c bytes (chip_at c ch) in
      written_going Text (begins n t.state rd (k + 1)) out (onward text) ∙ ap (λ x. out ++ x) (rest t.state)
  later_taken_lem ch rd k m held text other rest = written_stopped Text (stands n ch rd k held) (refusal_line 10 k) (onward text)

  pub text_from : (text h : List ℕ) (held : Held) (k m : ℕ) (ch : Chain) (rd : Reader) → HoldsLine held h → NoEnd h → m + k ≡ 2 ^ 32 → (m ≡ 0 → h ≡ [])
      → written Text (steps (text_byte what) (stands n ch rd k held) text) ≡ limited what n k m ch (lines_of (h ++ text))
  unfolding steps lines_of
  text_from [] [] held k m ch rd p q e z =
      pick_yes [] (refusal_line 10 k) (eq-eqb held.count 0 (holds_empty p)) ∙ sym (limited_none what n k m ch)
  text_from [] (c ∷ h) held k zero ch rd p q e z = let none = z refl in let y : ◌≡◌ {A = ℕ} 0 1 = cc in absurd (omega arith)
  text_from [] (c ∷ h) held k (suc m) ch rd p q e z =
      pick_no [] (refusal_line 10 k) (ne_eqb held.count 0 (holds_some c h p))
      ∙ sym (limited_more what n k m ch (cut_off (c ∷ h)) [] (sym (none_other n)))
      ∙ ap (limited what n k (suc m) ch) (sym (ap lines_of (append-nil (c ∷ h)) ∙ lines_cut c h q))
  text_from (b ∷ text) h held k zero ch rd p q e z =
      let s = stands n ch rd k held in
      let first = lines_some b text in
      ap (λ x. written Text (then x (onward text))) (byte_many what s b (omega arith))
      ∙ written_stopped Text s (refusal_line 11 0) (onward text)
      ∙ sym (limited_full what n k ch first.0 first.1)
      ∙ ap (limited what n k 0 ch) (sym (ap (λ xs. lines_of (xs ++ b ∷ text)) (z refl) ∙ first.2))
  text_from (b ∷ text) h held k (suc m) ch rd p q e z =
      let s = stands n ch rd k held in
      let within : k < 2 ^ 32 = omega arith in
      by_equality b newline
      (λ eq.
      let next : m + (k + 1) ≡ 2 ^ 32 = omega arith in
      ap (λ x. written Text (then x (onward text))) (byte_ends what s b within eq ∙ later_ends ch rd k h p)
      ∙ later_taken_lem ch rd k m held text (form_of n (bytes_in (ended h)))
      (λ after. text_from text [] none_held (k + 1) m after rd holds_none no_end next (λ _. refl) ∙ ap (λ j. limited what n j m after (lines_of text)) (add-one k))
      ∙ sym (limited_more what n k m ch (ended h) (lines_of text) refl)
      ∙ ap (limited what n k (suc m) ch) (sym (ap (λ x. lines_of (h ++ x ∷ text)) eq ∙ lines_held h text q)))
      (λ ne.
      ap (λ x. written Text (then x (onward text))) (byte_held what s b within ne)
      ∙ text_from text (h ++ b ∷ []) (grown_one held b) k (suc m) ch rd (holds_more p b) (no_end_more h b q ne) e (λ y. absurd (omega arith))
      ∙ ap (λ xs. limited what n k (suc m) ch (lines_of xs)) (append_assoc h (b ∷ []) text))
