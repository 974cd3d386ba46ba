-- The output of a text: what its lines wrote, up to the first that is refused, and then that refusal.
--     text_output     specs/Texts.antt, Output
-- Assumes nothing.
use mathlib.Core.Path.{◌≡◌, refl, ap, ap₂, sym, ◌∙◌}
use mathlib.Core.Logic.{inl, inr}
use mathlib.Core.List.{List, [], ◌∷◌, ◌++◌}
use Prim.Native.Nat.{ℕ, suc, ◌+◌, ◌-◌, ◌<◌}
use native.Mathlib.Omega.{arith}
use borrow.Author.Tests.{le-leb, lt-leb}
use lib.ListN.{length, take, drop}
use lib.Seq.{take_at}
use Rattle.base.specs.Refusals.{Told, IsDone, refused}
use Rattle.base.proofs.Picks.{pick_yes, pick_no}
use Rattle.base.proofs.Tests.{by_order}
use Rattle.chain.specs.declared.Chain.{Chain}
use Rattle.chain.specs.Entries.{start_chain}
use Rattle.lines.specs.Lines.{Line, lines_of, bytes_in}
use Rattle.capture.specs.declared.Report.{Report}
use Rattle.capture.specs.Frames.{Form, first_of, form_of}
use Rattle.capture.specs.Reports.{refusal_line}
use Rattle.capture.specs.Replay.{taken, lines_out, after_first, all_out, output_of}
use Rattle.capture.specs.Parts.{chips_in, first_in}
use Rattle.capture.specs.Law.{line_taken, AllTaken, chain_after, wrote}
use Rattle.capture.proofs.Law.{lines_taken, lines_refused}
use Rattle.demands.specs.Exact.{each, None, First}
use Rattle.demands.specs.Texts.{FirstLine, OtherLine, line_row, line_rows, text_table, Output}
use Rattle.demands.proofs.LineForms.{FirstView, gives, wrong, first_view, one_to_most, OtherView, as_samples, as_scan, as_none, other_view}
use Rattle.demands.proofs.ExactText.{not_other}

-- ---- lines after the first

module _ (what : Report) (first : Line) (n : ℕ) (gave : FirstLine first n) where
  -- a line that isn't of no form is taken
  form_taken : (ch : Chain) (l : Line) (form : Form) → OtherView n l form → ((OtherLine first l → ⊥) → ⊥) → IsDone (taken what n ch form).told
  form_taken ch l form (as_samples ss y) f = tt
  form_taken ch l form (as_scan k bytes y) f = tt
  form_taken ch l form (as_none g) f = f (not_other first n gave l g)

  -- a line of no form is refused
  form_refused : (ch : Chain) (l : Line) (form : Form) → OtherView n l form → (OtherLine first l → ⊥) → (taken what n ch form).told ≡ refused 10 0
  form_refused ch l form (as_samples ss y) f = absurd (f (inl y))
  form_refused ch l form (as_scan k bytes y) f = absurd (f (inr (n, gave, y)))
  form_refused ch l form (as_none g) f = refl

  view : (l : Line) → OtherView n l (form_of n (bytes_in l))
  view l = other_view n (one_to_most n gave.0) l

  all_taken : (line : ℕ) (ch : Chain) (ls : List Line) → None (each (line_row first) line ls) → AllTaken what n ch ls
  unfolding AllTaken
  all_taken line ch [] y = tt
  all_taken line ch (l ∷ ls) y =
      (form_taken ch l (form_of n (bytes_in l)) (view l) y.0, all_taken (suc line) (line_taken what n ch l).state ls y.1)

  -- lines that are taken, and then one that isn't
  record Split (line : ℕ) (ch : Chain) (ls : List Line) (number place : ℕ) : Type 0 where
    taken_ones : List Line
    refused_one : Line
    others : List Line
    whole : ls ≡ taken_ones ++ refused_one ∷ others
    ten : 10 ≡ number
    at : place ≡ line + length taken_ones
    each_taken : AllTaken what n ch taken_ones
    no_form : OtherLine first refused_one → ⊥

  split : (line : ℕ) (ch : Chain) (ls : List Line) (number place : ℕ) → First (each (line_row first) line ls) number place → Split line ch ls number place
  unfolding AllTaken
  split line ch [] number place f = absurd f
  split line ch (l ∷ ls) number place (inl f) =
      let e = f.2 in
      record { taken_ones = []; refused_one = l; others = ls; whole = refl; ten = f.1; at = omega arith; each_taken = tt; no_form = f.0 }
  split line ch (l ∷ ls) number place (inr f) =
      let s = split (suc line) (line_taken what n ch l).state ls number place f.1 in
      let p = s.at in
      record {
        taken_ones = l ∷ s.taken_ones;
        refused_one = s.refused_one;
        others = s.others;
        whole = ap (λ x. l ∷ x) s.whole;
        ten = s.ten;
        at = omega arith;
        each_taken = (form_taken ch l (form_of n (bytes_in l)) (view l) f.0, s.each_taken);
        no_form = s.no_form;
      }

  lines_refusal : (line : ℕ) (ch : Chain) (ls : List Line) (number place : ℕ) → First (each (line_row first) line ls) number place
      → lines_out what n line ch ls ≡ wrote what n ch (take (place - line) ls) ++ refusal_line number place
  lines_refusal line ch ls number place f =
      let s = split line ch ls number place f in
      let p = s.at in
      let r = form_refused (chain_after what n ch s.taken_ones) s.refused_one (form_of n (bytes_in s.refused_one)) (view s.refused_one) s.no_form in
      let q : place - line ≡ length s.taken_ones = omega arith in
      ap (lines_out what n line ch) s.whole
      ∙ lines_refused what n line ch s.taken_ones s.refused_one s.others 10 0 s.each_taken r
      ∙ ap₂ (λ xs k. wrote what n ch xs ++ refusal_line 10 k)
      (sym (ap₂ take q s.whole ∙ take_at s.taken_ones (s.refused_one ∷ s.others) (length s.taken_ones) refl)) (sym p)
      ∙ ap (λ m. wrote what n ch (take (place - line) ls) ++ refusal_line m place) s.ten

-- ---- all lines

module _ (what : Report) where
  first_refusal : (first : Line) (ls : List Line) (t : Told ℕ) → FirstView first t → (number place : ℕ) → First (line_rows (first ∷ ls)) number place
      → after_first what t ls ≡ wrote what (chips_in t) start_chain (take (place - 2) ls) ++ refusal_line number place
  unfolding wrote
  first_refusal first ls t (gives n gave) number place (inl f) = absurd (f.0 (n, gave))
  first_refusal first ls t (gives n gave) number place (inr f) = lines_refusal what first n gave 2 start_chain ls number place f.1
  first_refusal first ls t (wrong g) number place (inl f) =
      ap₂ (λ m p. wrote what 0 start_chain (take (p - 2) ls) ++ refusal_line m p) f.1 f.2
  first_refusal first ls t (wrong g) number place (inr f) = absurd (f.0 g)

  first_none : (first : Line) (ls : List Line) (t : Told ℕ) → FirstView first t → None (line_rows (first ∷ ls))
      → after_first what t ls ≡ wrote what (chips_in t) start_chain ls
  first_none first ls t (gives n gave) y = lines_taken what n 2 start_chain ls (all_taken what first n gave 2 start_chain ls y.1)
  first_none first ls t (wrong g) y = absurd (y.0 g)

  all_refusal : (ls : List Line) (number place : ℕ) → First (line_rows ls) number place
      → all_out what ls ≡ wrote what (chips_in (first_in ls)) start_chain (take (place - 2) (drop 1 ls)) ++ refusal_line number place
  unfolding wrote
  all_refusal [] number place (inl f) = ap₂ (λ k p. wrote what 0 start_chain (take (p - 2) []) ++ refusal_line k p) f.1 f.2
  all_refusal [] number place (inr f) = absurd f.1
  all_refusal (first ∷ ls) number place f = first_refusal first ls (first_of (bytes_in first)) (first_view first) number place f

  all_none : (ls : List Line) → None (line_rows ls) → all_out what ls ≡ wrote what (chips_in (first_in ls)) start_chain (drop 1 ls)
  all_none [] y = absurd (y.0 tt)
  all_none (first ∷ ls) y = first_none first ls (first_of (bytes_in first)) (first_view first) y

  within : (text : List ℕ) → (65536 < length text → ⊥) → output_of what text ≡ all_out what (lines_of text)
  unfolding output_of
  within text f = pick_yes _ _ (le-leb (length text) 65536 (by_order (length text) 65536 (λ h. h) (λ h. absurd (f h))))

  text_refusal : (text : List ℕ) (number line : ℕ) → First (text_table text) number line
      → output_of what text ≡ wrote what (chips_in (first_in (lines_of text))) start_chain (take (line - 2) (drop 1 (lines_of text))) ++ refusal_line number line
  unfolding output_of wrote
  text_refusal text number line (inl f) =
      pick_no _ _ (lt-leb (length text) 65536 f.0)
      ∙ ap₂ (λ k p. wrote what (chips_in (first_in (lines_of text))) start_chain (take (p - 2) (drop 1 (lines_of text))) ++ refusal_line k p) f.1 f.2
  text_refusal text number line (inr f) = within text f.0 ∙ all_refusal (lines_of text) number line f.1

pub text_output : (what : Report) (text : List ℕ) → Output what text
text_output what text =
    record { refusal = text_refusal what text; answer = λ y. within what text y.0 ∙ all_none what (lines_of text) y.1 }
