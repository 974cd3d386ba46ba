-- Demand 1, the exact table, of a text: specs/Texts.antt.
--     text_exact                     what is answered is what the text's table says
--     replay_exact, screen_exact     and so is what the output tells
-- Assumes nothing.
use mathlib.Core.Path.{refl, sym, subst, ◌∙◌}
use mathlib.Core.Logic.{◌⊎◌, inl, inr}
use mathlib.Core.List.{List, [], ◌∷◌, head-eq_of_cons-eq, tail-eq_of_cons-eq}
use Prim.Native.Nat.{ℕ, suc}
use lib.ListN.{length}
use Rattle.base.specs.Refusals.{Told}
use Rattle.lines.specs.Lines.{Line, lines_of, bytes_in}
use Rattle.capture.specs.declared.Report.TheVariants.{Words, Screen}
use Rattle.capture.specs.Frames.{Form, first_of, form_of}
use Rattle.capture.specs.Replay.{output_of, line_end, lines_end, first_end, all_end, end_of}
use Rattle.demands.specs.Exact.{each, Exactly}
use Rattle.demands.specs.Texts.{FirstLine, SamplesLine, ScanLine, OtherLine, line_row, line_rows, text_table, output_tells}
use Rattle.demands.proofs.Conditions.{leb_tests}
use Rattle.demands.proofs.ByTable.{ByTable, answered, here, later, by_table, tested}
use Rattle.demands.proofs.LineForms.{FirstView, gives, wrong, first_view, first_bytes, one_to_most, OtherView, as_samples, as_scan, as_none, other_view}
use Rattle.demands.proofs.Outputs.{output_tells_lem}
use Rattle.demands.proofs.Readings.{of_contract}

-- ---- lines after the first

module _ (first : Line) (n : ℕ) (gave : FirstLine first n) where
  -- a line of neither form, whatever N the first line is read as
  pub not_other : (l : Line) → (SamplesLine l ⊎ ScanLine n l → ⊥) → OtherLine first l → ⊥
  not_other l f (inl y) = f (inl y)
  not_other l f (inr y) =
      let same = sym (first_bytes first y.0 y.1) ∙ first_bytes first n gave in
      let e = head-eq_of_cons-eq (tail-eq_of_cons-eq (tail-eq_of_cons-eq same)) in
      f (inr (subst (λ m. ScanLine m l) e y.2))

  line_table : (line : ℕ) (l : Line) (ls : List Line) (form : Form) → OtherView n l form
      → ByTable (lines_end n (suc line) ls) (each (line_row first) (suc line) ls)
      → ByTable (line_end form line (lines_end n (suc line) ls)) (each (line_row first) line (l ∷ ls))
  line_table line l ls form (as_samples ss y) more = later (λ (f : OtherLine first l → ⊥). f (inl y)) more
  line_table line l ls form (as_scan k bytes y) more = later (λ (f : OtherLine first l → ⊥). f (inr (n, gave, y))) more
  line_table line l ls form (as_none f) more = here (not_other l f) refl

  lines_table : (line : ℕ) (ls : List Line) → ByTable (lines_end n line ls) (each (line_row first) line ls)
  unfolding lines_end
  lines_table line [] = answered tt
  lines_table line (l ∷ ls) =
      line_table line l ls (form_of n (bytes_in l)) (other_view n (one_to_most n gave.0) l) (lines_table (suc line) ls)

-- ---- all lines

first_table : (first : Line) (ls : List Line) (t : Told ℕ) → FirstView first t → ByTable (first_end t ls) (line_rows (first ∷ ls))
first_table first ls t (gives n gave) =
    let so : ((m : ℕ) × FirstLine first m → ⊥) → ⊥ = λ f. f (n, gave) in
    later so (lines_table first n gave 2 ls)
first_table first ls t (wrong f) = here f refl

all_table : (ls : List Line) → ByTable (all_end ls) (line_rows ls)
all_table [] = here tt refl
all_table (first ∷ ls) = first_table first ls (first_of (bytes_in first)) (first_view first)

pub text_exact : (text : List ℕ) → Exactly (end_of text) (text_table text)
unfolding end_of
text_exact text = by_table (tested (all_end (lines_of text)) (leb_tests (length text) 65536) (all_table (lines_of text)))

-- ---- the output

-- the report of document 01
pub replay_exact : (text : List ℕ) → Exactly (output_tells (lines_of (output_of Words text))) (text_table text)
replay_exact text = of_contract (output_tells_lem Words text) (text_exact text)

-- the segments lit
pub screen_exact : (text : List ℕ) → Exactly (output_tells (lines_of (output_of Screen text))) (text_table text)
screen_exact text = of_contract (output_tells_lem Screen text) (text_exact text)
