-- A text from its first line on: its bytes one after another, and then its end, write what the definition of a text says.
--     text_first              from any place inside the first line on
-- Assumes nothing.
use Rattle.std.proofs.Common.{◌≡◌, ℕ, suc, ◌+◌, ◌^◌, ◌<◌, false, List, [], ◌∷◌, ◌++◌, length, Option, Some, None, sym, refl, ap, ◌∙◌, append_assoc, append-nil, arith, length-append, ne_eqb}
use Rattle.base.proofs.Picks.{pick_no}
use Rattle.base.proofs.Tests.{is_true, by_equality}
use Rattle.chain.specs.declared.Chain.{Chain}
use Rattle.chain.specs.Chain.{chip_count}
use Rattle.chain.specs.Entries.{start_chain}
use Rattle.lines.specs.Lines.{newline, ended, cut_off, lines_of, bytes_in}
use Rattle.lines.proofs.Texts.{NoEnd, no_end, no_end_more, lines_held, lines_cut}
use Rattle.capture.specs.declared.Report.{Report}
use Rattle.capture.specs.Frames.{first_of}
use Rattle.capture.specs.Parts.{chips_told}
use Rattle.capture.specs.Reports.{refusal_line}
use Rattle.capture.proofs.Firsts.{first_none, first_some}
use Rattle.reads.specs.declared.Reader.{Reader}
use Rattle.reads.specs.Reads.{start_reader}
use Rattle.streams.specs.declared.Kind.TheVariants.{Text}
use Rattle.streams.specs.declared.State.{State}
use Rattle.streams.specs.declared.held.Held.{Held}
use Rattle.streams.specs.Held.{none_held, grown_one}
use Rattle.streams.specs.Steps.{Stepped, first_taken, line_ended, text_byte, then, steps}
use Rattle.streams.specs.Text.{most_lines, long_out}
use Rattle.streams.proofs.Holds.{HoldsLine, holds_none, holds_more, holds_some, first_held}
use Rattle.streams.proofs.Limits.{first_limited, long_first}
use Rattle.streams.proofs.TextSteps.{byte_held, byte_ends}
use Rattle.streams.proofs.Texts.{text_from}
use Rattle.streams.proofs.Written.{stands, written, written_stopped}

module _ (what : Report) (n : ℕ) (ch : Chain) (rd : Reader) (none : chip_count n ≡ false) (m : ℕ) (limit : most_lines ≡ suc m) where
  -- what is left of the steps
  abbrev onward : List ℕ → State → Stepped
  onward text next = steps (text_byte what) next text

  -- the first line says what it does
  first_ends : {held : Held} (h : List ℕ) → HoldsLine held h → line_ended what (stands n ch rd 1 held) ≡ first_taken (stands n ch rd 1 held) (first_of (bytes_in (ended h)))
  first_ends {held} h p = pick_no _ _ none ∙ ap (first_taken (stands n ch rd 1 held)) (first_held h p)

  -- and the lines after it write what they write
  first_taken_lem : (held : Held) (h text : List ℕ)
      → written Text (then (first_taken (stands n ch rd 1 held) (first_of (bytes_in (ended h)))) (onward text)) ≡ first_limited what m (first_of (bytes_in (ended h))) (lines_of text)
  unfolding first_limited
  first_taken_lem held h text = go (chips_told (first_of (bytes_in (ended h)))) refl
    where
      s : State
      s = stands n ch rd 1 held

      go : (o : Option ℕ) → o ≡ chips_told (first_of (bytes_in (ended h)))
          → written Text (then (first_taken s (first_of (bytes_in (ended h)))) (onward text)) ≡ first_limited what m (first_of (bytes_in (ended h))) (lines_of text)
      go None z =
          let r = first_none (ended h) z in
          ap (λ x. written Text (then (first_taken s x) (onward text))) r.1
          ∙ written_stopped Text s (refusal_line 10 1) (onward text)
          ∙ ap (λ x. first_limited what m x (lines_of text)) (sym r.1)
      go (Some k) z =
          let r = first_some (ended h) z in
          let next : m + 2 ≡ 2 ^ 32 = omega arith in
          ap (λ x. written Text (then (first_taken s x) (onward text))) r.0
          ∙ text_from what k (is_true (chip_count k) r.1) text [] none_held 2 m start_chain start_reader holds_none no_end next (λ _. refl)
          ∙ ap (λ x. first_limited what m x (lines_of text)) (sym r.0)

  pub text_first : (text h : List ℕ) (held : Held) → HoldsLine held h → NoEnd h → 0 < length h + length text
      → written Text (steps (text_byte what) (stands n ch rd 1 held) text) ≡ long_out what (lines_of (h ++ text))
  unfolding steps first_limited first_of
  text_first [] [] held p q some = absurd (omega arith)
  text_first [] (c ∷ h) held p q some =
      pick_no [] (refusal_line 10 1) (ne_eqb held.count 0 (holds_some c h p))
      ∙ sym (long_first what m limit (cut_off (c ∷ h)) [])
      ∙ ap (long_out what) (sym (ap lines_of (append-nil (c ∷ h)) ∙ lines_cut c h q))
  text_first (b ∷ text) h held p q some =
      let s = stands n ch rd 1 held in
      let within : 1 < 2 ^ 32 = omega arith in
      by_equality b newline
      (λ eq.
      ap (λ x. written Text (then x (onward text))) (byte_ends what s b within eq ∙ first_ends h p)
      ∙ first_taken_lem held h text
      ∙ sym (long_first what m limit (ended h) (lines_of text))
      ∙ ap (long_out what) (sym (ap (λ x. lines_of (h ++ x ∷ text)) eq ∙ lines_held h text q)))
      (λ ne.
      ap (λ x. written Text (then x (onward text))) (byte_held what s b within ne)
      ∙ text_first text (h ++ b ∷ []) (grown_one held b) (holds_more p b) (no_end_more h b q ne) (omega (arith, length-append h (b ∷ [])))
      ∙ ap (λ xs. long_out what (lines_of xs)) (append_assoc h (b ∷ []) text))
