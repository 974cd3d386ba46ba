-- Where a stream is refused: a raw stream at the place of the byte that may not stand there, which is how many bytes stand before it;
-- a text at the line's number, which is one more than how many lines stand before it.
--     past_within             below 2^64 an offset is a count of bytes
--     raw_refused_at          items that may all stand there, and then a byte that may not
--     line_refused_at         lines of items that may all stand there, and then a line that isn't of the form, and anything after it
-- Assumes nothing.
use Rattle.std.proofs.Common.{◌≡◌, ℕ, zero, suc, ◌+◌, ◌^◌, ◌<◌, true, false, T, List, [], ◌∷◌, ◌++◌, length, sym, refl, ap, ◌∙◌, subst, ap₂, append_assoc, arith, length-append}
use Rattle.base.specs.Below.{AllBelow}
use Rattle.base.proofs.Picks.{pick_yes, pick_no}
use Rattle.chain.specs.declared.Chain.{Chain}
use Rattle.chain.specs.Chain.{chip_count}
use Rattle.chain.specs.Entries.{start_chain}
use Rattle.chain.proofs.Tested.{count_high}
use Rattle.lines.specs.Lines.{newline, ended, lines_of, bytes_in, as_hex, line_for, eight_bytes}
use Rattle.lines.proofs.Hex.{line_back, lines_written}
use Rattle.lines.proofs.Texts.{NoEnd, lines_held}
use Rattle.capture.specs.declared.Report.{Report}
use Rattle.capture.specs.Frames.{other, form_of, first_of}
use Rattle.capture.specs.Parts.{out_of}
use Rattle.capture.specs.Reports.{refusal_line}
use Rattle.capture.specs.Replay.{taken}
use Rattle.reads.specs.declared.Reader.{Reader}
use Rattle.reads.specs.Reads.{start_reader, next_offset, is_sample}
use Rattle.streams.specs.Raw.{Item, item_taken, raw_refusal, wrong, is_scan, item_of, raw_from}
use Rattle.streams.specs.Same.{AllGiven, past_bytes, raw_of, frame_of, raw_of_all, text_of_all, raw_stream, capture_text}
use Rattle.streams.specs.Streams.{watch_out}
use Rattle.streams.specs.Text.{most_lines, long_out}
use Rattle.streams.proofs.Limits.{limited, limited_more, first_limited, long_first}
use Rattle.streams.proofs.Raws.{raw_more}
use Rattle.streams.proofs.SameFrames.{says_so, given_out, items_out, raw_item, raw_given, frame_below, line_form, item_then, first_given, whole_text}

next_within : (offset : ℕ) → offset + 1 < 2 ^ 64 → next_offset offset ≡ offset + 1
next_within offset h = omega arith

pub past_within : (bytes : List ℕ) (offset : ℕ) → offset + length bytes < 2 ^ 64 → past_bytes offset bytes ≡ offset + length bytes
unfolding past_bytes
past_within [] offset h = omega arith
past_within (b ∷ bytes) offset h =
    let next = next_within offset (omega arith) in
    let within : next_offset offset + length bytes < 2 ^ 64 = omega arith in
    past_within bytes (next_offset offset) within ∙ omega arith

module _ (what : Report) (n : ℕ) (some : chip_count n ≡ true) (b : ℕ) (rest : List ℕ) (plain : is_sample b ≡ false) (away : is_scan n b ≡ false) where
  -- items from an offset on, and then the byte
  items_then : (gs : List Item) (ch : Chain) (rd : Reader) (offset : ℕ) → AllGiven n gs → offset + length (raw_of_all gs) < 2 ^ 64
      → raw_from what n offset ch rd [] (raw_of_all gs ++ b ∷ rest) ≡ items_out what n offset ch rd gs ++ raw_refusal (offset + length (raw_of_all gs))
  unfolding AllGiven raw_of_all items_out item_of
  items_then [] ch rd offset all h =
      let same : offset ≡ offset + 0 = omega arith in
      raw_more what n some offset ch rd [] b rest {said = wrong} (pick_no _ _ plain ∙ pick_no _ _ away) ∙ ap raw_refusal same
  items_then (g ∷ gs) ch rd offset all h =
      let x = item_taken what n offset ch rd g in
      let size = length-append (raw_of g) (raw_of_all gs) in
      let past = past_within (raw_of g) offset (omega arith) in
      let next = past_bytes offset (raw_of g) in
      let end : next + length (raw_of_all gs) ≡ offset + length (raw_of g ++ raw_of_all gs) = omega arith in
      let left = items_out what n next x.chain x.reader gs in
      ap (raw_from what n offset ch rd []) (append_assoc (raw_of g) (raw_of_all gs) (b ∷ rest))
      ∙ raw_item what n some g all.0 ch rd (raw_of_all gs ++ b ∷ rest) offset
      ∙ ap (λ y. x.out ++ y) (items_then gs x.chain x.reader next all.1 (omega arith))
      ∙ ap (λ o. x.out ++ (left ++ raw_refusal o)) end
      ∙ sym (append_assoc x.out left (raw_refusal (offset + length (raw_of g ++ raw_of_all gs))))

  pub raw_refused_at : (gs : List Item) → AllGiven n gs → length (raw_stream n gs) < 2 ^ 64
      → watch_out what (raw_stream n gs ++ b ∷ rest) ≡ watch_out what (raw_stream n gs) ++ line_for (0x1F ∷ 0x0A ∷ eight_bytes (length (raw_stream n gs)))
  raw_refused_at gs all h =
      let items = raw_of_all gs in
      let place : 3 + length items ≡ length (raw_stream n gs) = omega arith in
      let alone = pick_yes (raw_from what n 3 start_chain start_reader [] items) (raw_refusal 2) some ∙ raw_given what n some gs start_chain start_reader all 3 in
      pick_yes (raw_from what n 3 start_chain start_reader [] (items ++ b ∷ rest)) (raw_refusal 2) some
      ∙ items_then gs start_chain start_reader 3 all (omega arith)
      ∙ ap₂ (λ out o. out ++ raw_refusal o) (sym alone) place

module _ (what : Report) (n : ℕ) (some : chip_count n ≡ true) (cs rest : List ℕ) (one : NoEnd cs) (bad : form_of n (bytes_in (ended cs)) ≡ other) where
  -- the line, its end, and what comes after it
  abbrev bad_line : List ℕ
  bad_line = cs ++ newline ∷ rest

  -- lines from a number on, and then the line
  lines_then : (gs : List Item) (ch : Chain) (k m : ℕ) → AllGiven n gs → length gs < m
      → limited what n k m ch (lines_of (text_of_all gs ++ bad_line)) ≡ given_out what n ch gs ++ refusal_line 10 (k + length gs)
  unfolding AllGiven text_of_all given_out
  lines_then gs ch k zero all h = absurd (omega arith)
  lines_then [] ch k (suc m) all h =
      let same : k ≡ k + 0 = omega arith in
      ap (limited what n k (suc m) ch) (lines_held cs rest one) ∙ limited_more what n k m ch (ended cs) (lines_of rest) bad ∙ ap (refusal_line 10) same
  lines_then (g ∷ gs) ch k (suc m) all h =
      let t = taken what n ch (says_so g) in
      let left = text_of_all gs ++ bad_line in
      let number : suc k + length gs ≡ k + suc (length gs) = omega arith in
      ap (limited what n k (suc m) ch)
      (ap lines_of (append_assoc (line_for (frame_of g)) (text_of_all gs) bad_line) ∙ lines_written (frame_of g) left (frame_below what n some g all.0))
      ∙ limited_more what n k m ch (ended (as_hex (frame_of g))) (lines_of left) (line_form what n some g all.0)
      ∙ item_then what n some g ch k (limited what n (suc k) m t.state (lines_of left))
      ∙ ap (λ x. out_of t.told ++ x) (lines_then gs t.state (suc k) m all.1 (omega arith))
      ∙ ap (λ j. out_of t.told ++ (given_out what n t.state gs ++ refusal_line 10 j)) number
      ∙ sym (append_assoc (out_of t.told) (given_out what n t.state gs) (refusal_line 10 (k + suc (length gs))))

  -- as lines
  all_then : (gs : List Item) → AllGiven n gs → length gs + 1 < most_lines
      → long_out what (lines_of (capture_text n gs ++ bad_line)) ≡ long_out what (lines_of (capture_text n gs)) ++ refusal_line 10 (length gs + 2)
  unfolding first_limited
  all_then gs all h =
      let first : List ℕ = 0x00 ∷ 0x01 ∷ n ∷ [] in
      let few = count_high n (subst T (sym some) tt) in
      let head : AllBelow 256 first = (omega arith, (omega arith, (omega arith, tt))) in
      let left = text_of_all gs ++ bad_line in
      let number : 2 + length gs ≡ length gs + 2 = omega arith in
      ap (long_out what) (ap lines_of (append_assoc (line_for first) (text_of_all gs) bad_line) ∙ lines_written first left head)
      ∙ long_first what 0xFFFFFFFE refl (ended (as_hex first)) (lines_of left)
      ∙ ap (λ t. first_limited what 0xFFFFFFFE t (lines_of left)) (ap first_of (line_back first head) ∙ first_given what n some)
      ∙ lines_then gs start_chain 2 0xFFFFFFFE all (omega arith)
      ∙ ap₂ (λ out k. out ++ refusal_line 10 k) (sym (whole_text what n some gs all (omega arith))) number

  pub line_refused_at : (gs : List Item) → AllGiven n gs → length gs + 1 < most_lines
      → watch_out what (capture_text n gs ++ (cs ++ newline ∷ rest)) ≡ watch_out what (capture_text n gs) ++ refusal_line 10 (length gs + 2)
  unfolding line_for as_hex
  line_refused_at gs all h = all_then gs all h
