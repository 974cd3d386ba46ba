-- The output ends as the answer says: where a text is refused, its last line is that refusal.
--     output_ends     of a whole text, by either report
-- Assumes nothing.
use mathlib.Core.Path.{refl}
use mathlib.Core.Bool.{Bool, true, false}
use mathlib.Core.List.{List, [], ◌∷◌}
use Prim.Native.Nat.{ℕ, suc}
use lib.Dec.{leb}
use lib.ListN.{length}
use Rattle.base.specs.Pick.{pick}
use Rattle.base.specs.Refusals.{Told, done, refused}
use Rattle.capture.specs.Law.{EndsWith}
use Rattle.capture.specs.Replay.{and_then}
use Rattle.capture.specs.Reports.{refusal_line}
use Rattle.capture.proofs.Ends.{piece_more}
use Rattle.ch450.specs.declared.Panel.{Panel}
use Rattle.ch450.specs.Panel.{power_on}
use Rattle.ch450.specs.Samples.{played}
use Rattle.lines.specs.Lines.{Line, lines_of, bytes_in}
use Rattle.wires.specs.declared.Report.{Report}
use Rattle.wires.specs.Frames.{Begin, Form, samples, other, form_of, first_of}
use Rattle.wires.specs.Replay.{written_by, taken, lines_out, after_first, all_out, output_of, line_end, lines_end, first_end, all_end, end_of}

module _ (what : Report) where
  line_ends : (key line : ℕ) (p : Panel) (ls : List Line) (form : Form) (end : Told (Unit {0}))
      → ((next : Panel) → EndsWith (lines_out what key (suc line) next ls) end)
      → EndsWith (and_then (taken what key p form).told line (lines_out what key (suc line) (taken what key p form).state ls)) (line_end form line end)
  line_ends key line p ls (samples ss) end more = piece_more (written_by what key ss p) end (more (played ss p))
  line_ends key line p ls other end more = ([], refl)

  lines_ends : (key line : ℕ) (p : Panel) (ls : List Line) → EndsWith (lines_out what key line p ls) (lines_end line ls)
  unfolding lines_out lines_end
  lines_ends key line p [] = ([], refl)
  lines_ends key line p (l ∷ ls) =
      line_ends key line p ls (form_of (bytes_in l)) (lines_end (suc line) ls) (λ next. lines_ends key (suc line) next ls)

  first_ends : (t : Told Begin) (ls : List Line) → EndsWith (after_first what t ls) (first_end t ls)
  first_ends (done b) ls = lines_ends b.key 2 (power_on b.digits) ls
  first_ends (refused number place) ls = ([], refl)

  all_ends : (ls : List Line) → EndsWith (all_out what ls) (all_end ls)
  all_ends [] = ([], refl)
  all_ends (l ∷ ls) = first_ends (first_of (bytes_in l)) ls

  pub output_ends : (text : List ℕ) → EndsWith (output_of what text) (end_of text)
  unfolding output_of end_of
  output_ends text = go (leb (length text) 65536)
    where
      go : (short : Bool) → EndsWith (pick short (all_out what (lines_of text)) (refusal_line 11 0)) (pick short (all_end (lines_of text)) (refused 11 0))
      go true = all_ends (lines_of text)
      go false = ([], refl)
