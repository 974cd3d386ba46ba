-- A capture text of samples alone, as a replay takes it: its first line, lines of samples, and the samples one after another.
--     sample_frames, sample_frames_lem     the lines of samples, and that the text has them
--     frame_form                      each is a line of 1 to 32 samples
--     frames_end, frames_play         such lines are taken to their end, and leave what the samples played leave
--     capture_first                   the first line gives N
--     capture_ends, capture_plays     the whole text is taken to its end, and leaves what the samples played leave
-- Assumes nothing.
use mathlib.Core.Path.{◌≡◌, refl, ap, sym, subst, ◌∙◌}
use mathlib.Core.Bool.{true}
use mathlib.Core.List.{List, [], ◌∷◌, ◌++◌}
use Prim.Native.Nat.{ℕ, zero, suc, ◌+◌, ◌*◌, ◌/◌, ◌≤◌, ◌<◌}
use native.Mathlib.Omega.{arith}
use borrow.Author.Tests.{le-leb}
use lib.ListN.{length, take, drop, length-take, length-drop, take-append-drop}
use Rattle.base.specs.Below.{AllBelow}
use Rattle.base.specs.Refusals.{done, refused}
use Rattle.base.proofs.Lists.{below_front, below_back, below_more}
use Rattle.base.proofs.Picks.{pick_yes}
use Rattle.chain.specs.declared.Chain.{Chain}
use Rattle.chain.specs.Chain.{chip_count, played}
use Rattle.chain.proofs.Laws.{played_append, below_checked}
use Rattle.lines.specs.Lines.{Line, ended, lines_of, bytes_in, as_hex}
use Rattle.lines.proofs.Hex.{line_back, lines_written}
use Rattle.capture.specs.declared.Report.{Report}
use Rattle.capture.specs.Frames.{samples, first_of, form_of}
use Rattle.capture.specs.Law.{chain_after}
use Rattle.capture.specs.Parts.{first_in}
use Rattle.capture.specs.Replay.{taken, line_end, lines_end, first_end, all_end, end_of}
use Rattle.capture.proofs.Forms.{samples_good}
use Rattle.settings.specs.Printing.{lines_for, sample_lines, capture_of}
use Rattle.settings.proofs.Bytes.{count_within}

-- ---- lines of samples

-- so many lines of 32 samples, the last as many as are left
unfoldable pub sample_frames : ℕ → List ℕ → List Line
sample_frames zero ss = []
sample_frames (suc more) ss = ended (as_hex (0x01 ∷ take 32 ss)) ∷ sample_frames more (drop 32 ss)

module _ (ss : List ℕ) (below : AllBelow 8 ss) where
  -- the samples of the next line, and those after it
  both_below : AllBelow 8 (take 32 ss ++ drop 32 ss)
  both_below = subst (AllBelow 8) (sym (take-append-drop 32 ss)) below

  line_below : AllBelow 8 (take 32 ss)
  line_below = below_front 8 (take 32 ss) (drop 32 ss) both_below

  rest_below : AllBelow 8 (drop 32 ss)
  rest_below = below_back 8 (take 32 ss) (drop 32 ss) both_below

  bytes_below : AllBelow 256 (0x01 ∷ take 32 ss)
  bytes_below = (omega arith, below_more 8 256 (take 32 ss) (omega arith) line_below)

  pub frame_form : (n : ℕ) → 0 < length ss → form_of n (bytes_in (ended (as_hex (0x01 ∷ take 32 ss)))) ≡ samples (take 32 ss)
  unfolding form_of
  frame_form n some =
      ap (form_of n) (line_back (0x01 ∷ take 32 ss) bytes_below)
      ∙ samples_good (take 32 ss) (omega (arith, length-take 32 ss)) (omega (arith, length-take 32 ss)) (below_checked 0 (take 32 ss) line_below)

pub sample_frames_lem : (more : ℕ) (ss : List ℕ) → AllBelow 8 ss → lines_of (lines_for more ss) ≡ sample_frames more ss
unfolding lines_for sample_frames lines_of
sample_frames_lem zero ss below = refl
sample_frames_lem (suc more) ss below =
    lines_written (0x01 ∷ take 32 ss) (lines_for more (drop 32 ss)) (bytes_below ss below)
    ∙ ap (λ ls. ended (as_hex (0x01 ∷ take 32 ss)) ∷ ls) (sample_frames_lem more (drop 32 ss) (rest_below ss below))

-- no line is without samples, and none is left over
abbrev Lines : ℕ → List ℕ → Type 0
Lines more ss = (length ss ≤ 32 * more) × (32 * more < length ss + 32)

lines_rest : (more : ℕ) (ss : List ℕ) → Lines (suc more) ss → Lines more (drop 32 ss)
lines_rest more ss h =
    let all = h.0 in
    let some = h.1 in
    (omega (arith, length-drop 32 ss), omega (arith, length-drop 32 ss))

pub frames_end : (n more line : ℕ) (ss : List ℕ) → AllBelow 8 ss → Lines more ss → lines_end n line (sample_frames more ss) ≡ done tt
unfolding sample_frames lines_end
frames_end n zero line ss below h = refl
frames_end n (suc more) line ss below h =
    let some = h.1 in
    ap (λ form. line_end form line (lines_end n (suc line) (sample_frames more (drop 32 ss)))) (frame_form ss below n (omega arith))
    ∙ frames_end n more (suc line) (drop 32 ss) (rest_below ss below) (lines_rest more ss h)

none_played : (n : ℕ) (ss : List ℕ) (ch : Chain) → length ss ≤ 0 → ch ≡ played n ss ch
unfolding played
none_played n [] ch h = refl
none_played n (s ∷ ss) ch h = absurd (omega arith)

pub frames_play : (what : Report) (n more : ℕ) (ss : List ℕ) (ch : Chain) → AllBelow 8 ss → Lines more ss
    → chain_after what n ch (sample_frames more ss) ≡ played n ss ch
unfolding sample_frames chain_after
frames_play what n zero ss ch below h = let all = h.0 in none_played n ss ch (omega arith)
frames_play what n (suc more) ss ch below h =
    let some = h.1 in
    ap (λ form. chain_after what n (taken what n ch form).state (sample_frames more (drop 32 ss))) (frame_form ss below n (omega arith))
    ∙ frames_play what n more (drop 32 ss) (played n (take 32 ss) ch) (rest_below ss below) (lines_rest more ss h)
    ∙ sym (played_append n (take 32 ss) (drop 32 ss) ch)
    ∙ ap (λ xs. played n xs ch) (take-append-drop 32 ss)

-- ---- a text

module _ (n : ℕ) (count : chip_count n ≡ true) (ss : List ℕ) (below : AllBelow 8 ss) where
  -- its first line, and how many more there are
  abbrev head : List ℕ
  head = 0x00 ∷ 0x01 ∷ n ∷ []

  abbrev many : ℕ
  many = (length ss + 31) / 32

  head_below : AllBelow 256 head
  head_below = let few = (count_within n count).few in (omega arith, (omega arith, (omega arith, tt)))

  lines_so : lines_of (capture_of n ss) ≡ ended (as_hex head) ∷ sample_frames many ss
  lines_so = lines_written head (sample_lines ss) head_below ∙ ap (λ ls. ended (as_hex head) ∷ ls) (sample_frames_lem many ss below)

  gives : first_of (bytes_in (ended (as_hex head))) ≡ done n
  unfolding first_of
  gives = ap first_of (line_back head head_below) ∙ pick_yes (done n) (refused 10 0) count

  all_lines : Lines many ss
  all_lines = (omega arith, omega arith)

  pub capture_first : first_in (lines_of (capture_of n ss)) ≡ done n
  capture_first = ap first_in lines_so ∙ gives

  pub capture_ends : length (capture_of n ss) ≤ 65536 → end_of (capture_of n ss) ≡ done tt
  unfolding end_of
  capture_ends short =
      pick_yes _ (refused 11 0) (le-leb (length (capture_of n ss)) 65536 short)
      ∙ ap all_end lines_so
      ∙ ap (λ t. first_end t (sample_frames many ss)) gives
      ∙ frames_end n many 2 ss below all_lines

  pub capture_plays : (what : Report) (ch : Chain) → chain_after what n ch (drop 1 (lines_of (capture_of n ss))) ≡ played n ss ch
  capture_plays what ch = ap (λ ls. chain_after what n ch (drop 1 ls)) lines_so ∙ frames_play what n many ss ch below all_lines
