-- A text by its lines: characters none of which ends a line, and then the line's end, or the text's; and a text is its lines put together.
--     NoEnd, no_end, no_end_more, no_end_take       characters none of which ends a line
--     lines_held, lines_cut                         such characters, and then the line's end, or the text's
--     lines_some                                    a text that isn't empty has a line
--     Begun, begun                                  how a text begins
--     lines_same                                    texts that have the same lines are the same
-- Assumes nothing.
use mathlib.Core.Path.{◌≡◌, refl, ap, sym, subst, ◌∙◌}
use mathlib.Core.Bool.{Bool, true, false}
use mathlib.Core.List.{List, [], ◌∷◌, ◌++◌}
use Prim.Native.Nat.{ℕ, zero, suc}
use lib.Dec.{eqb}
use lib.ListN.{take}
use Rattle.base.specs.Pick.{pick}
use Rattle.base.proofs.Tests.{by_equality}
use Rattle.lines.specs.Lines.{newline, Line, ended, cut_off, before, lines_of}
use Rattle.lines.proofs.Lines.{line_ends, line_begins}

-- ---- characters that end no line

-- none of them ends a line
unfoldable pub NoEnd : List ℕ → Type 0
NoEnd [] = Unit {0}
NoEnd (c ∷ h) = (c ≡ newline → ⊥) × NoEnd h

pub no_end : NoEnd []
unfolding NoEnd
no_end = tt

pub no_end_more : (h : List ℕ) (c : ℕ) → NoEnd h → (c ≡ newline → ⊥) → NoEnd (h ++ c ∷ [])
unfolding NoEnd
no_end_more [] c p ne = (ne, tt)
no_end_more (d ∷ h) c p ne = (p.0, no_end_more h c p.1 ne)

pub no_end_take : (m : ℕ) (h : List ℕ) → NoEnd h → NoEnd (take m h)
unfolding NoEnd
no_end_take zero h p = tt
no_end_take (suc m) [] p = tt
no_end_take (suc m) (c ∷ h) p = (p.0, no_end_take m h p.1)

pub lines_held : (h text : List ℕ) → NoEnd h → lines_of (h ++ newline ∷ text) ≡ ended h ∷ lines_of text
unfolding NoEnd lines_of
lines_held [] text p = refl
lines_held (c ∷ h) text p = line_begins c (h ++ newline ∷ text) p.0 ∙ ap (before c) (lines_held h text p.1)

pub lines_cut : (c : ℕ) (h : List ℕ) → NoEnd (c ∷ h) → lines_of (c ∷ h) ≡ cut_off (c ∷ h) ∷ []
unfolding NoEnd lines_of
lines_cut c [] p = line_begins c [] p.0
lines_cut c (d ∷ h) p = line_begins c (d ∷ h) p.0 ∙ ap (before c) (lines_cut d h p.1)

-- ---- a text that isn't empty has a first line

before_some : (c : ℕ) (ls : List Line) → (l : Line) × (rest : List Line) × (before c ls ≡ l ∷ rest)
before_some c [] = (cut_off (c ∷ []), [], refl)
before_some c (ended cs ∷ ls) = (ended (c ∷ cs), ls, refl)
before_some c (cut_off cs ∷ ls) = (cut_off (c ∷ cs), ls, refl)

pick_some : (c : ℕ) (text : List ℕ) (b : Bool) → (l : Line) × (rest : List Line) × (pick b (ended [] ∷ lines_of text) (before c (lines_of text)) ≡ l ∷ rest)
pick_some c text true = (ended [], lines_of text, refl)
pick_some c text false = before_some c (lines_of text)

pub lines_some : (c : ℕ) (text : List ℕ) → (l : Line) × (rest : List Line) × (lines_of (c ∷ text) ≡ l ∷ rest)
unfolding lines_of
lines_some c text = pick_some c text (eqb c newline)

-- ---- how a text begins

-- with a line that is ended, or with one that is cut off, or not at all
pub data Begun : List ℕ → Type 0 where
  no_line : Begun []
  whole_line : (h rest : List ℕ) → NoEnd h → Begun (h ++ newline ∷ rest)
  cut_line : (c : ℕ) (h : List ℕ) → NoEnd (c ∷ h) → Begun (c ∷ h)

-- one character more
begun_more : (c : ℕ) {text : List ℕ} → (c ≡ newline → ⊥) → Begun text → Begun (c ∷ text)
unfolding NoEnd
begun_more c ne no_line = cut_line c [] (ne, tt)
begun_more c ne (whole_line h rest p) = whole_line (c ∷ h) rest (ne, p)
begun_more c ne (cut_line d h p) = cut_line c (d ∷ h) (ne, p)

pub begun : (text : List ℕ) → Begun text
begun [] = no_line
begun (c ∷ text) =
    by_equality c newline (λ e. subst (λ x. Begun (x ∷ text)) (sym e) (whole_line [] text no_end)) (λ ne. begun_more c ne (begun text))

-- ---- lines put together

-- each with its end, if it has one
together : List Line → List ℕ
together [] = []
together (ended cs ∷ ls) = cs ++ newline ∷ together ls
together (cut_off cs ∷ ls) = cs ++ together ls

together_before : (c : ℕ) (ls : List Line) → together (before c ls) ≡ c ∷ together ls
unfolding together
together_before c [] = refl
together_before c (ended cs ∷ ls) = refl
together_before c (cut_off cs ∷ ls) = refl

together_back : (text : List ℕ) → together (lines_of text) ≡ text
unfolding together lines_of
together_back [] = refl
together_back (c ∷ text) =
    by_equality c newline
    (λ e. ap together (line_ends c text e) ∙ ap (λ t. newline ∷ t) (together_back text) ∙ ap (λ x. x ∷ text) (sym e))
    (λ ne. ap together (line_begins c text ne) ∙ together_before c (lines_of text) ∙ ap (λ t. c ∷ t) (together_back text))

pub lines_same : (t u : List ℕ) → lines_of t ≡ lines_of u → t ≡ u
lines_same t u e = sym (together_back t) ∙ ap together e ∙ together_back u
