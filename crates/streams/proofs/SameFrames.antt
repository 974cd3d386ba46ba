-- A raw stream whose items may all stand there, without a recorded DOUT, writes what the capture text of the same frames writes.
--     says_so                  what an item says
--     given_out, lines_of_all    what items write in a text, one after another; a line for each
--     items_out                what items write in a raw stream, from an offset on
--     raw_item, raw_given     what one item writes, and then the rest, from the offset past it on; and all items
--     plain_given             without a recorded DOUT they write what they write in a text
--     frame_below, line_form  an item's line is of bytes, and of its form
--     item_then               what an item's form says is done
--     text_given              and so does the capture text
--     first_given, whole_text its first line, and all of it
--     raw_as_text             so that both write the same
-- Assumes nothing.
use Rattle.std.proofs.Common.{◌≡◌, ℕ, suc, ◌+◌, ◌-◌, ◌/◌, ◌%◌, ◌<◌, ◌≤◌, true, false, ◌&&◌, T, eqb, List, [], ◌∷◌, ◌++◌, length, sym, refl, ap, ◌∙◌, subst, ap₂, append_assoc, arith, length-append, le-ltb, lt-ltb, eq-eqb, ne_eqb, le-leb}
use Rattle.base.specs.Below.{AllBelow}
use Rattle.base.specs.Refusals.{done}
use Rattle.base.proofs.Picks.{pick_yes, pick_no}
use Rattle.chain.specs.declared.Chain.{Chain}
use Rattle.chain.specs.Chain.{chip_count, checked_from, played}
use Rattle.chain.specs.Entries.{start_chain}
use Rattle.chain.proofs.Tested.{count_high}
use Rattle.lines.specs.Lines.{Line, ended, lines_of, bytes_in, as_hex, line_for}
use Rattle.lines.proofs.Hex.{line_back, lines_written}
use Rattle.capture.specs.declared.Report.{Report}
use Rattle.capture.specs.Frames.{Form, samples, scan, samples_by, form_of, first_of}
use Rattle.capture.specs.Parts.{out_of}
use Rattle.capture.specs.Replay.{rises_in, taken, and_then, lines_out, after_first}
use Rattle.reads.specs.declared.Reader.{Reader}
use Rattle.reads.specs.Reads.{looking, start_reader, Sampled, sampled, is_sample, next_offset}
use Rattle.reads.proofs.Plain.{plain_sample}
use Rattle.streams.specs.Raw.{Item, sample, scanned, item_taken, whole, begun, is_scan, item_of, raw_from}
use Rattle.streams.specs.Same.{IsGiven, AllGiven, AllPlain, past_bytes, raw_of, frame_of, raw_of_all, text_of_all, raw_stream, capture_text}
use Rattle.streams.specs.Streams.{watch_out}
use Rattle.streams.specs.Text.{most_lines, long_out}
use Rattle.streams.proofs.Limits.{long_within}
use Rattle.streams.proofs.Raws.{raw_more}

-- what an item says
abbrev pub says_so : Item → Form
says_so (sample b) = samples (b % 8 ∷ [])
says_so (scanned k bytes) = scan k bytes

-- what items write, one after another
unfoldable pub given_out : Report → ℕ → Chain → List Item → List ℕ
given_out what n ch [] = []
given_out what n ch (g ∷ gs) = out_of (taken what n ch (says_so g)).told ++ given_out what n (taken what n ch (says_so g)).state gs

-- what items of a raw stream write, from an offset on
unfoldable pub items_out : Report → ℕ → ℕ → Chain → Reader → List Item → List ℕ
items_out what n offset ch rd [] = []
items_out what n offset ch rd (g ∷ gs) =
    let x = item_taken what n offset ch rd g in
    x.out ++ items_out what n (past_bytes offset (raw_of g)) x.chain x.reader gs

-- a line for each item
unfoldable pub lines_of_all : List Item → List Line
lines_of_all [] = []
lines_of_all (g ∷ gs) = ended (as_hex (frame_of g)) ∷ lines_of_all gs

module _ (what : Report) (n : ℕ) (some : chip_count n ≡ true) where
  few : n ≤ 8
  few = count_high n (subst T (sym some) tt)

  -- ---- the raw stream

  -- a sample
  raw_sample : (b : ℕ) → is_sample b ≡ true → (ch : Chain) (rd : Reader) (bytes : List ℕ) (offset : ℕ)
      → raw_from what n offset ch rd [] (b ∷ bytes)
      ≡ (sampled what n offset b ch rd).out ++ raw_from what n (next_offset offset) (sampled what n offset b ch rd).chain (sampled what n offset b ch rd).reader [] bytes
  unfolding item_of
  raw_sample b y ch rd bytes offset = raw_more what n some offset ch rd [] b bytes {said = whole (sample b)} (pick_yes _ _ y)

  -- a scan's first byte
  module _ (k : ℕ) (near : k < n) where
    no_sample : is_sample (0x80 + k) ≡ false
    no_sample =
        let l = few in
        let sixteenth : (0x80 + k) / 16 ≡ 1 → ⊥ = λ e. omega arith in
        pick_no true (eqb ((0x80 + k) / 16) 1) (le-ltb (0x80 + k) 0x08 (omega arith)) ∙ ne_eqb ((0x80 + k) / 16) 1 sixteenth

    of_chip : 0x80 + k - 0x80 ≡ k
    of_chip = omega arith

    is_scan_lem : is_scan n (0x80 + k) ≡ true
    is_scan_lem = ap₂ ◌&&◌ (le-leb 0x80 (0x80 + k) (omega arith)) (lt-ltb (0x80 + k - 0x80) n (omega arith))

    item_begun : (more : List ℕ) → length more < 8 → item_of n ((0x80 + k) ∷ more) ≡ begun
    unfolding item_of
    item_begun more l = pick_no _ _ no_sample ∙ pick_yes _ _ is_scan_lem ∙ pick_yes _ _ (lt-ltb (length more) 8 l)

    item_whole : (more : List ℕ) → 8 ≤ length more → item_of n ((0x80 + k) ∷ more) ≡ whole (scanned k more)
    unfolding item_of
    item_whole more l =
        pick_no _ _ no_sample ∙ pick_yes _ _ is_scan_lem ∙ pick_no _ _ (le-ltb (length more) 8 l) ∙ ap (λ c. whole (scanned c more)) of_chip

    -- the scan is whole, and then what is left
    scanned_then : Chain → Reader → List ℕ → ℕ → List ℕ → List ℕ
    scanned_then ch rd more offset bytes = out_of (taken what n ch (scan k more)).told ++ raw_from what n offset (taken what n ch (scan k more)).state rd [] bytes

    -- its bytes from one on
    raw_rest : (ch : Chain) (rd : Reader) (h more bytes : List ℕ) → length h + length more ≡ 8 → 0 < length more
        → (offset : ℕ) → raw_from what n offset ch rd ((0x80 + k) ∷ h) (more ++ bytes) ≡ scanned_then ch rd (h ++ more) (past_bytes offset more) bytes
    unfolding past_bytes scanned_then
    raw_rest ch rd h [] bytes e l offset = absurd (omega arith)
    raw_rest ch rd h (b ∷ []) bytes e l offset =
        raw_more what n some offset ch rd ((0x80 + k) ∷ h) b bytes (item_whole (h ++ b ∷ []) (omega (arith, length-append h (b ∷ []))))
    raw_rest ch rd h (b ∷ c ∷ more) bytes e l offset =
        let size : length (h ++ b ∷ []) ≡ length h + 1 = length-append h (b ∷ []) in
        raw_more what n some offset ch rd ((0x80 + k) ∷ h) b (c ∷ more ++ bytes) (item_begun (h ++ b ∷ []) (omega arith))
        ∙ raw_rest ch rd (h ++ b ∷ []) (c ∷ more) bytes (omega arith) (omega arith) (next_offset offset)
        ∙ ap (λ xs. scanned_then ch rd xs (past_bytes (next_offset offset) (c ∷ more)) bytes) (append_assoc h (b ∷ []) (c ∷ more))

    raw_scan : (more : List ℕ) → length more ≡ 8 → (ch : Chain) (rd : Reader) (bytes : List ℕ) (offset : ℕ)
        → raw_from what n offset ch rd [] ((0x80 + k) ∷ (more ++ bytes)) ≡ scanned_then ch rd more (past_bytes (next_offset offset) more) bytes
    raw_scan more e ch rd bytes offset =
        raw_more what n some offset ch rd [] (0x80 + k) (more ++ bytes) (item_begun [] (omega arith))
        ∙ raw_rest ch rd [] more bytes (omega arith) (omega arith) (next_offset offset)

  pub raw_item : (g : Item) → IsGiven n g → (ch : Chain) (rd : Reader) (bytes : List ℕ) (offset : ℕ)
      → raw_from what n offset ch rd [] (raw_of g ++ bytes)
      ≡ (let x = item_taken what n offset ch rd g in
      x.out ++ raw_from what n (past_bytes offset (raw_of g)) x.chain x.reader [] bytes)
  unfolding past_bytes scanned_then
  raw_item (sample b) y ch rd bytes offset = raw_sample b y ch rd bytes offset
  raw_item (scanned k more) y ch rd bytes offset = raw_scan k y.0 more y.1 ch rd bytes offset

  pub raw_given : (gs : List Item) (ch : Chain) (rd : Reader) → AllGiven n gs → (offset : ℕ) → raw_from what n offset ch rd [] (raw_of_all gs) ≡ items_out what n offset ch rd gs
  unfolding AllGiven raw_of_all items_out raw_from
  raw_given [] ch rd all offset = refl
  raw_given (g ∷ gs) ch rd all offset =
      let x = item_taken what n offset ch rd g in
      raw_item g all.0 ch rd (raw_of_all gs) offset
      ∙ ap (λ y. x.out ++ y) (raw_given gs x.chain x.reader all.1 (past_bytes offset (raw_of g)))

  -- without a recorded DOUT each item writes what its line in a text writes
  pub plain_given : (gs : List Item) (ch : Chain) (rd : Reader) (offset : ℕ) → AllPlain gs → looking rd.dout ≡ false → items_out what n offset ch rd gs ≡ given_out what n ch gs
  unfolding AllPlain items_out given_out
  plain_given [] ch rd offset plain blind = refl
  plain_given (sample b ∷ gs) ch rd offset plain blind =
      let rest : Sampled → List ℕ = λ x. x.out ++ items_out what n (past_bytes offset (b ∷ [])) x.chain x.reader gs in
      let low : b < 8 = plain.0 in
      let same : b ≡ b % 8 = omega arith in
      let next : ℕ → Chain = λ v. played n (v ∷ []) ch in
      let ends : ℕ → List ℕ = λ v. rises_in what n (v ∷ []) ch ++ given_out what n (next v) gs in
      ap rest (plain_sample what n offset b ch rd low blind)
      ∙ ap (λ y. rises_in what n (b ∷ []) ch ++ y) (plain_given gs (next b) rd (past_bytes offset (b ∷ [])) plain.1 blind)
      ∙ ap ends same
  plain_given (scanned k bytes ∷ gs) ch rd offset plain blind =
      let t = taken what n ch (scan k bytes) in
      ap (λ y. out_of t.told ++ y) (plain_given gs t.state rd (past_bytes offset (raw_of (scanned k bytes))) plain blind)

  -- ---- the capture text

  -- a frame is of bytes
  pub frame_below : (g : Item) → IsGiven n g → AllBelow 256 (frame_of g)
  frame_below (sample b) y = (omega arith, (omega arith, tt))
  frame_below (scanned k bytes) y = let l = few in let near = y.0 in (omega arith, (omega arith, y.2))

  -- and of the item's form
  frame_form : (g : Item) → IsGiven n g → form_of n (frame_of g) ≡ says_so g
  unfolding form_of checked_from
  frame_form (sample b) y = ap (λ t. samples_by t (b % 8 ∷ [])) (pick_yes (done tt) _ (le-leb (b % 8) 7 (omega arith)))
  frame_form (scanned k bytes) y = pick_yes (scan k bytes) _ (ap₂ ◌&&◌ (lt-ltb k n y.0) (eq-eqb (length bytes) 8 y.1))

  pub line_form : (g : Item) → IsGiven n g → form_of n (bytes_in (ended (as_hex (frame_of g)))) ≡ says_so g
  line_form g y = ap (form_of n) (line_back (frame_of g) (frame_below g y)) ∙ frame_form g y

  lines_given : (gs : List Item) → AllGiven n gs → lines_of (text_of_all gs) ≡ lines_of_all gs
  unfolding AllGiven text_of_all lines_of_all lines_of
  lines_given [] all = refl
  lines_given (g ∷ gs) all =
      lines_written (frame_of g) (text_of_all gs) (frame_below g all.0) ∙ ap (λ ls. ended (as_hex (frame_of g)) ∷ ls) (lines_given gs all.1)

  lines_count : (gs : List Item) → length (lines_of_all gs) ≡ length gs
  unfolding lines_of_all
  lines_count [] = refl
  lines_count (g ∷ gs) = ap suc (lines_count gs)

  -- what an item's form says is done
  pub item_then : (g : Item) (ch : Chain) (line : ℕ) (rest : List ℕ) → and_then (taken what n ch (says_so g)).told line rest ≡ out_of (taken what n ch (says_so g)).told ++ rest
  item_then (sample b) ch line rest = refl
  item_then (scanned k bytes) ch line rest = refl

  pub text_given : (gs : List Item) (ch : Chain) (line : ℕ) → AllGiven n gs → lines_out what n line ch (lines_of_all gs) ≡ given_out what n ch gs
  unfolding AllGiven lines_of_all given_out lines_out
  text_given [] ch line all = refl
  text_given (g ∷ gs) ch line all =
      let next = (taken what n ch (says_so g)).state in
      ap (λ form. and_then (taken what n ch form).told line (lines_out what n (suc line) (taken what n ch form).state (lines_of_all gs))) (line_form g all.0)
      ∙ item_then g ch line (lines_out what n (suc line) next (lines_of_all gs))
      ∙ ap (λ x. out_of (taken what n ch (says_so g)).told ++ x) (text_given gs next (suc line) all.1)

  -- ---- both

  pub first_given : first_of (0x00 ∷ 0x01 ∷ n ∷ []) ≡ done n
  unfolding first_of
  first_given = pick_yes (done n) _ some

  pub whole_text : (gs : List Item) → AllGiven n gs → length gs < most_lines → long_out what (lines_of (capture_text n gs)) ≡ given_out what n start_chain gs
  whole_text gs all l =
      let head : AllBelow 256 (0x00 ∷ 0x01 ∷ n ∷ []) = let h = few in (omega arith, (omega arith, (omega arith, tt))) in
      let first = ended (as_hex (0x00 ∷ 0x01 ∷ n ∷ [])) in
      let size = lines_count gs in
      ap (long_out what) (lines_written (0x00 ∷ 0x01 ∷ n ∷ []) (text_of_all gs) head ∙ ap (λ ls. first ∷ ls) (lines_given gs all))
      ∙ long_within what (first ∷ lines_of_all gs) (omega arith)
      ∙ ap (λ t. after_first what t (lines_of_all gs)) (ap first_of (line_back (0x00 ∷ 0x01 ∷ n ∷ []) head) ∙ first_given)
      ∙ text_given gs start_chain 2 all

  pub raw_as_text : (gs : List Item) → AllGiven n gs → AllPlain gs → length gs < most_lines → watch_out what (raw_stream n gs) ≡ watch_out what (capture_text n gs)
  unfolding line_for as_hex
  raw_as_text gs all plain l =
      pick_yes (raw_from what n 3 start_chain start_reader [] (raw_of_all gs)) _ some
      ∙ raw_given gs start_chain start_reader all 3
      ∙ plain_given gs start_chain start_reader 3 plain refl
      ∙ sym (whole_text gs all l)
