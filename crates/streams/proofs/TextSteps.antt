-- A text's block, line by line: how the bytes up to a line's end step, and what the end does.
--     with_held                     a state that holds something else
--     byte_held, byte_ends         what a byte does: it is held, or ends the line
--     byte_many                    or it is refused: there is no line of number 2^32
--     text_kept, text_ended        a line that the block's end cuts, and one that 0AH ends
--     text_many                    a block from such a byte on
-- Assumes nothing.
use Rattle.std.proofs.Common.{◌≡◌, ℕ, suc, ◌+◌, ◌^◌, ◌<◌, ◌≤◌, List, [], ◌∷◌, length, get_or, take, drop, sym, refl, ap, ◌∙◌, add-one, arith, le-ltb, lt-ltb, eq-eqb, ne_eqb}
use Rattle.base.proofs.Lists.{rest_is}
use Rattle.base.proofs.Picks.{pick_yes, pick_no}
use Rattle.base.proofs.Tests.{by_equality}
use Rattle.lines.specs.Answers.{line_length}
use Rattle.lines.specs.Lines.{newline}
use Rattle.lines.proofs.Lines.{length_stops, length_more}
use Rattle.capture.specs.declared.Report.{Report}
use Rattle.capture.specs.Reports.{refusal_line}
use Rattle.streams.specs.declared.State.{State}
use Rattle.streams.specs.declared.held.Held.{Held}
use Rattle.streams.specs.Held.{grown_by}
use Rattle.streams.specs.Steps.{Stepped, going, stopped, holding, line_ended, text_byte, then, steps}

-- a state that holds something else
abbrev pub with_held : Held → State → State
with_held h s = record { n = s.n; chain = s.chain; place = s.place; held = h; reader = s.reader }

module _ (what : Report) where
  -- one byte, by what it is
  pub byte_held : (s : State) (b : ℕ) → s.place < 2 ^ 32 → (b ≡ newline → ⊥) → text_byte what s b ≡ going (holding s.place b s) []
  unfolding text_byte
  byte_held s b few ne = pick_yes _ _ (lt-ltb s.place (2 ^ 32) few) ∙ pick_no _ _ (ne_eqb b newline ne)

  pub byte_ends : (s : State) (b : ℕ) → s.place < 2 ^ 32 → b ≡ newline → text_byte what s b ≡ line_ended what s
  unfolding text_byte
  byte_ends s b few e = pick_yes _ _ (lt-ltb s.place (2 ^ 32) few) ∙ pick_yes _ _ (eq-eqb b newline e)

  pub byte_many : (s : State) (b : ℕ) → 2 ^ 32 ≤ s.place → text_byte what s b ≡ stopped s (refusal_line 11 0)
  unfolding text_byte
  byte_many s b many = pick_no _ _ (le-ltb s.place (2 ^ 32) many)

  -- a line that the block's end cuts
  pub text_kept : (s : State) (rest : List ℕ) → s.place < 2 ^ 32 → length rest ≤ line_length rest
      → steps (text_byte what) s rest ≡ going (with_held (grown_by s.held rest) s) []
  unfolding steps grown_by
  text_kept s [] few h = refl
  text_kept s (b ∷ rest) few h =
      by_equality b newline (λ e. absurd (omega (arith, length_stops b rest e)))
      (λ ne. ap (λ x. then x (λ next. steps (text_byte what) next rest)) (byte_held s b few ne)
      ∙ text_kept (holding s.place b s) rest few (omega (arith, length_more b rest ne)))

  -- a line of so many characters that 0AH ends
  abbrev ended_after : State → List ℕ → ℕ → Stepped
  ended_after s rest m = then (line_ended what (with_held (grown_by s.held (take m rest)) s)) (λ next. steps (text_byte what) next (drop (suc m) rest))

  ended_after_lem : (s : State) (rest : List ℕ) → s.place < 2 ^ 32 → line_length rest < length rest → steps (text_byte what) s rest ≡ ended_after s rest (line_length rest)
  unfolding steps grown_by
  ended_after_lem s [] few h = absurd (omega arith)
  ended_after_lem s (b ∷ rest) few h =
      by_equality b newline
      (λ e. ap (λ x. then x (λ next. steps (text_byte what) next rest)) (byte_ends s b few e) ∙ ap (ended_after s (b ∷ rest)) (sym (length_stops b rest e)))
      (λ ne. ap (λ x. then x (λ next. steps (text_byte what) next rest)) (byte_held s b few ne)
      ∙ ended_after_lem (holding s.place b s) rest few (omega (arith, length_more b rest ne))
      ∙ ap (ended_after s (b ∷ rest)) (sym (length_more b rest ne)))

  pub text_ended : (s : State) (rest : List ℕ) → s.place < 2 ^ 32 → line_length rest < length rest
      → steps (text_byte what) s rest
      ≡ then (line_ended what (with_held (grown_by s.held (take (line_length rest) rest)) s)) (λ next. steps (text_byte what) next (drop (line_length rest + 1) rest))
  text_ended s rest few h =
      ended_after_lem s rest few h
      ∙ ap (λ m. then (line_ended what (with_held (grown_by s.held (take (line_length rest) rest)) s)) (λ next. steps (text_byte what) next (drop m rest))) (sym (add-one (line_length rest)))

  -- there is no line of number 2^32
  pub text_many : (s : State) (bytes : List ℕ) (i : ℕ) → i < length bytes → 2 ^ 32 ≤ s.place → steps (text_byte what) s (drop i bytes) ≡ stopped s (refusal_line 11 0)
  unfolding steps
  text_many s bytes i h many =
      ap (steps (text_byte what) s) (rest_is bytes i 0 h)
      ∙ ap (λ x. then x (λ next. steps (text_byte what) next (drop (i + 1) bytes))) (byte_many s (get_or bytes i 0) many)
