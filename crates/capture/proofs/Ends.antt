-- The output ends as the answer says: where a text is refused, its last line is that refusal.
--     piece_more      a piece before what ends so
--     output_ends     of a whole text, by either report
-- Assumes nothing.
use mathlib.Core.Path.{refl, ap, sym, ◌∙◌}
use mathlib.Core.Bool.{Bool, true, false}
use mathlib.Core.List.{List, [], ◌∷◌, ◌++◌, append_assoc}
use Prim.Native.Nat.{ℕ, suc}
use lib.Dec.{leb}
use lib.ListN.{length}
use Rattle.base.specs.Pick.{pick}
use Rattle.base.specs.Refusals.{Told, done, refused}
use Rattle.chip.specs.Scans.{scanned}
use Rattle.chain.specs.declared.Chain.{Chain}
use Rattle.chain.specs.Chain.{played}
use Rattle.chain.specs.Entries.{start_chain, chip_at, with_chip}
use Rattle.lines.specs.Lines.{Line, lines_of, bytes_in}
use Rattle.capture.specs.declared.Report.{Report}
use Rattle.capture.specs.Frames.{Form, samples, scan, other, form_of, first_of}
use Rattle.capture.specs.Reports.{at_scan, refusal_line}
use Rattle.capture.specs.Replay.{rises_in, taken, and_then, lines_out, after_first, all_out, output_of, line_end, lines_end, first_end, all_end, end_of}
use Rattle.capture.specs.Law.{end_line, EndsWith}

pub piece_more : (piece : List ℕ) {rest : List ℕ} (end : Told (Unit {0})) → EndsWith rest end → EndsWith (piece ++ rest) end
piece_more piece end y = (piece ++ y.0, ap (λ xs. piece ++ xs) y.1 ∙ sym (append_assoc piece y.0 (end_line end)))

module _ (what : Report) where
  line_ends : (n line : ℕ) (ch : Chain) (ls : List Line) (form : Form) (end : Told (Unit {0}))
      → ((next : Chain) → EndsWith (lines_out what n (suc line) next ls) end)
      → EndsWith (and_then (taken what n ch form).told line (lines_out what n (suc line) (taken what n ch form).state ls)) (line_end form line end)
  line_ends n line ch ls (samples ss) end more = piece_more (rises_in what n ss ch) end (more (played n ss ch))
  line_ends n line ch ls (scan k bytes) end more =
      piece_more (at_scan what k bytes (chip_at k ch)) end (more (with_chip k (scanned bytes (chip_at k ch)) ch))
  line_ends n line ch ls other end more = ([], refl)

  lines_ends : (n line : ℕ) (ch : Chain) (ls : List Line) → EndsWith (lines_out what n line ch ls) (lines_end n line ls)
  unfolding lines_out lines_end
  lines_ends n line ch [] = ([], refl)
  lines_ends n line ch (l ∷ ls) = line_ends n line ch ls (form_of n (bytes_in l)) (lines_end n (suc line) ls) (λ next. lines_ends n (suc line) next ls)

  first_ends : (t : Told ℕ) (ls : List Line) → EndsWith (after_first what t ls) (first_end t ls)
  first_ends (done n) ls = lines_ends n 2 start_chain ls
  first_ends (refused number place) ls = ([], refl)

  all_ends : (ls : List Line) → EndsWith (all_out what ls) (all_end ls)
  all_ends [] = ([], refl)
  all_ends (l ∷ ls) = first_ends (first_of (bytes_in l)) ls

  pub output_ends : (text : List ℕ) → EndsWith (output_of what text) (end_of text)
  unfolding output_of end_of
  output_ends text = go (leb (length text) 65536)
    where
      go : (short : Bool) → EndsWith (pick short (all_out what (lines_of text)) (refusal_line 11 0)) (pick short (all_end (lines_of text)) (refused 11 0))
      go true = all_ends (lines_of text)
      go false = ([], refl)
