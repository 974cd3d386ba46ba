-- The walk over a capture text is one of proofs/Walks.antt: by the form of each line.
--     takes_line                    what a line's bytes do to a chain
--     line_reader                  it is a reader
--     lines_walked, ends_walked    what lines write, and how they end
-- Assumes nothing.
use mathlib.Core.Path.{◌≡◌, refl, ap, ◌∙◌}
use mathlib.Core.Bool.{Bool, true, false, true≢false}
use mathlib.Core.List.{List, [], ◌∷◌}
use Prim.Native.Nat.{ℕ, suc}
use Rattle.base.specs.Refusals.{Told, refused, Outcome}
use Rattle.chain.specs.declared.Chain.{Chain}
use Rattle.lines.specs.Lines.{Line, bytes_in}
use Rattle.capture.specs.declared.Report.{Report}
use Rattle.capture.specs.Frames.{Form, samples, scan, other, form_of}
use Rattle.capture.specs.Parts.{is_taken}
use Rattle.capture.specs.Replay.{taken, and_then, lines_out, line_end, lines_end}
use Rattle.capture.proofs.EachLine.{none_other}
use Rattle.capture.proofs.Forms.{form_long}
use Rattle.capture.proofs.Walks.{end_then, walk_out, walk_end, Reader}

module _ (what : Report) (n : ℕ) where
  abbrev pub takes_line : Chain → List ℕ → Outcome Chain (List ℕ)
  takes_line ch bytes = taken what n ch (form_of n bytes)

  -- a form that isn't taken is none
  by_form : (ch : Chain) (form : Form) → is_taken (taken what n ch form).told ≡ false → (place : ℕ) × ((taken what n ch form).told ≡ refused 10 place)
  by_form ch (samples ss) e = let z : ◌≡◌ {A = Bool} true false = e in absurd (true≢false z)
  by_form ch (scan k bytes) e = let z : ◌≡◌ {A = Bool} true false = e in absurd (true≢false z)
  by_form ch other e = (0, refl)

  pub line_reader : Reader takes_line
  unfolding form_of
  line_reader =
      record {
        long = λ ch bytes h. ap (taken what n ch) (form_long n bytes h ∙ none_other n);
        empty = λ ch. refl;
        tells = λ ch bytes. by_form ch (form_of n bytes);
      }

  end_by_form : (ch : Chain) (form : Form) (line : ℕ) (rest : Told (Unit {0})) → line_end form line rest ≡ end_then (taken what n ch form).told line rest
  end_by_form ch (samples ss) line rest = refl
  end_by_form ch (scan k bytes) line rest = refl
  end_by_form ch other line rest = refl

  pub lines_walked : (line : ℕ) (ch : Chain) (ls : List Line) → lines_out what n line ch ls ≡ walk_out takes_line line ch ls
  unfolding lines_out walk_out
  lines_walked line ch [] = refl
  lines_walked line ch (l ∷ ls) =
      ap (and_then (takes_line ch (bytes_in l)).told line) (lines_walked (suc line) (takes_line ch (bytes_in l)).state ls)

  pub ends_walked : (line : ℕ) (ch : Chain) (ls : List Line) → lines_end n line ls ≡ walk_end takes_line line ch ls
  unfolding lines_end walk_end
  ends_walked line ch [] = refl
  ends_walked line ch (l ∷ ls) =
      end_by_form ch (form_of n (bytes_in l)) line (lines_end n (suc line) ls)
      ∙ ap (end_then (takes_line ch (bytes_in l)).told line) (ends_walked (suc line) (takes_line ch (bytes_in l)).state ls)
