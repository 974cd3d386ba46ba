-- What `watch` writes: in blocks, however the stream is cut, what specs/Streams.antt says of the whole.
--     watch_whole             one block, and then the end
--     watch_cut               blocks of any lengths, and then the end
--     watch_prompt            nothing is held back: what blocks have written is all but a refusal that the end alone can bring
--     as_replay               a text of at most 65,536 bytes: what `replay` and `screen` write of it
--     too_many                a text of more than 2^32 - 1 lines, the first 2^32 - 1 of which are taken: what these write, and refusal 11
-- Assumes nothing.
use Rattle.std.proofs.Common.{◌≡◌, ℕ, suc, ◌<◌, ◌≤◌, Bool, true, false, eqb, List, [], ◌∷◌, ◌++◌, length, get_or, take, sym, refl, ap, ◌∙◌, append-nil, arith, eq-eqb, ne_eqb, le-leb}
use Rattle.base.specs.Pick.{pick}
use Rattle.base.specs.Refusals.{done}
use Rattle.base.proofs.Picks.{pick_yes, pick_no}
use Rattle.base.proofs.Tests.{by_equality}
use Rattle.chain.specs.Entries.{start_chain}
use Rattle.lines.specs.Lines.{newline, Line, ended as ended_line, cut_off, before, lines_of}
use Rattle.lines.proofs.Texts.{no_end}
use Rattle.capture.specs.declared.Report.{Report}
use Rattle.capture.specs.Reports.{refusal_line}
use Rattle.capture.specs.Replay.{all_out, all_end, output_of}
use Rattle.reads.specs.Reads.{start_reader}
use Rattle.streams.specs.declared.Kind.TheVariants.{Text, Raw}
use Rattle.streams.specs.Cut.{joined, fed_all}
use Rattle.streams.specs.Held.{none_held}
use Rattle.streams.specs.Raw.{raw_out}
use Rattle.streams.specs.Steps.{After, after, begins, text_byte, raw_byte, steps, fed, start_stream, ended}
use Rattle.streams.specs.Streams.{watch_out}
use Rattle.streams.specs.Text.{most_lines, long_out, text_out}
use Rattle.streams.proofs.Cuts.{fed_all_lem}
use Rattle.streams.proofs.Feeding.{end_room}
use Rattle.streams.proofs.FirstLines.{text_first}
use Rattle.streams.proofs.Holds.{holds_none}
use Rattle.streams.proofs.Limits.{long_within, long_past}
use Rattle.streams.proofs.Raws.{raw_head}

-- ---- the whole stream

-- what a block wrote, and then the end
abbrev to_end : After → List ℕ
to_end x = x.out ++ ended x.stream

module _ (what : Report) where
  -- no byte at all
  none_whole : to_end (fed what start_stream []) ≡ text_out what []
  unfolding fed ended long_out lines_of
  none_whole = sym (append-nil (refusal_line 10 1))

  -- a text
  text_whole : (b : ℕ) (bytes : List ℕ) → to_end (after Text (steps (text_byte what) (begins 0 start_chain start_reader 1) (b ∷ bytes))) ≡ text_out what (b ∷ bytes)
  unfolding ended
  text_whole b bytes = text_first what 0 start_chain start_reader refl 0xFFFFFFFE refl (b ∷ bytes) [] none_held holds_none no_end (omega arith)

  -- a raw stream
  raw_whole : (b : ℕ) (bytes : List ℕ) → b ≡ 0 → to_end (after Raw (steps (raw_byte what) (begins 0 start_chain start_reader 0) (b ∷ bytes))) ≡ raw_out what bytes
  unfolding ended
  raw_whole b bytes e = raw_head what 0 start_chain start_reader refl none_held holds_none b bytes e

  pub watch_whole : (input : List ℕ) → (fed what start_stream input).out ++ ended (fed what start_stream input).stream ≡ watch_out what input
  unfolding fed
  watch_whole [] = none_whole
  watch_whole (b ∷ bytes) =
      let raw = after Raw (steps (raw_byte what) (begins 0 start_chain start_reader 0) (b ∷ bytes)) in
      let text = after Text (steps (text_byte what) (begins 0 start_chain start_reader 1) (b ∷ bytes)) in
      by_equality b 0
      (λ e.
      ap to_end (pick_yes raw text (eq-eqb b 0 e)) ∙ raw_whole b bytes e ∙ sym (pick_yes (raw_out what bytes) (text_out what (b ∷ bytes)) (eq-eqb b 0 e)))
      (λ ne.
      ap to_end (pick_no raw text (ne_eqb b 0 ne)) ∙ text_whole b bytes ∙ sym (pick_no (raw_out what bytes) (text_out what (b ∷ bytes)) (ne_eqb b 0 ne)))

  pub watch_cut : (blocks : List (List ℕ))
      → (fed_all what start_stream blocks).out ++ ended (fed_all what start_stream blocks).stream ≡ watch_out what (joined blocks)
  watch_cut blocks = ap to_end (fed_all_lem what start_stream blocks) ∙ watch_whole (joined blocks)

  pub watch_prompt : (blocks : List (List ℕ))
      → (last : List ℕ) × ((watch_out what (joined blocks) ≡ (fed_all what start_stream blocks).out ++ last) × (length last ≤ 21))
  watch_prompt blocks =
      let x = fed_all what start_stream blocks in
      (ended x.stream, (sym (watch_cut blocks), end_room x.stream))

  -- ---- a text

  -- a stream whose first byte isn't 00 is a text
  is_text : (text : List ℕ) → eqb (get_or text 0 1) 0 ≡ false → watch_out what text ≡ text_out what text
  is_text [] e = refl
  is_text (b ∷ bytes) e = pick_no (raw_out what bytes) (text_out what (b ∷ bytes)) e

  pub too_many : (text : List ℕ) → eqb (get_or text 0 1) 0 ≡ false → most_lines < length (lines_of text) → all_end (take most_lines (lines_of text)) ≡ done tt
      → watch_out what text ≡ all_out what (take most_lines (lines_of text)) ++ refusal_line 11 0
  too_many text e h d = is_text text e ∙ long_past what (lines_of text) h d

-- lines are at most as many as characters
before_length : (c : ℕ) (ls : List Line) → length (before c ls) ≤ suc (length ls)
before_length c [] = omega arith
before_length c (ended_line cs ∷ ls) = omega arith
before_length c (cut_off cs ∷ ls) = omega arith

pick_length : (b : Bool) (c : ℕ) (text : List ℕ) → length (pick b (ended_line [] ∷ lines_of text) (before c (lines_of text))) ≤ suc (length (lines_of text))
pick_length true c text = omega arith
pick_length false c text = before_length c (lines_of text)

lines_length : (text : List ℕ) → length (lines_of text) ≤ length text
unfolding lines_of
lines_length [] = omega arith
lines_length (c ∷ text) = omega (arith, pick_length (eqb c newline) c text, lines_length text)

module _ (what : Report) where
  pub as_replay : (text : List ℕ) → length text ≤ 65536 → eqb (get_or text 0 1) 0 ≡ false → watch_out what text ≡ output_of what text
  unfolding output_of
  as_replay text short e =
      is_text what text e
      ∙ long_within what (lines_of text) (omega (arith, lines_length text))
      ∙ sym (pick_yes (all_out what (lines_of text)) (refusal_line 11 0) (le-leb (length text) 65536 short))
