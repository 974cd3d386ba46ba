-- Samples that repeat the levels before them may go: playing the kept samples is playing all, and reads the key as often.
--     step_levels        after a sample the levels are the sample
--     repeat_nothing     a repeated sample leaves the panel as it is, and tells nothing
--     kept_plays         the panel after the kept samples
--     kept_reads         how often they read the key
-- Assumes nothing.
use mathlib.Core.Path.{◌≡◌, refl, ap, ap₂, sym, ◌∙◌}
use mathlib.Core.Bool.{Bool, true, false, not, ◌&&◌}
use mathlib.Core.List.{List, [], ◌∷◌}
use Prim.Native.Nat.{ℕ, ◌+◌}
use native.Mathlib.Nat.{zero-add}
use borrow.Author.Tests.{eqb-true}
use lib.Dec.{eqb}
use Rattle.base.specs.Bits.{bit_value}
use Rattle.base.proofs.Picks.{pick_no, pick_cases}
use Rattle.ch450.specs.declared.Panel.{Panel}
use Rattle.ch450.specs.declared.Wires.{Wires}
use Rattle.ch450.specs.Edges.{scl, sda, begun, at_rest, taken, seen, stepped}
use Rattle.ch450.specs.Panel.{with_wires}
use Rattle.ch450.specs.Commands.{told_at, is_read, obeyed}
use Rattle.ch450.specs.Samples.{stepped_panel, played, reads_in}
use Rattle.ch450.specs.Still.{kept}
use Rattle.ch450.proofs.Silent as S
use Rattle.std.specs.declared.option.Option.{Option}
use Rattle.std.specs.declared.option.Option.TheVariants.{None}
use Rattle.ch450.specs.declared.Command.{Command}

-- ---- the levels after a sample

pub step_levels : (now : ℕ) (p : Panel) → (stepped_panel now p).wires.levels ≡ now
step_levels now p = ap (λ (w : Wires). w.levels) (S.step_wires now p) ∙ S.stepped_levels now p.wires

-- ---- a repeated sample

-- neither line moves
no_start : (c d : Bool) → ((c && c) && d && not d) ≡ false
no_start true true = refl
no_start true false = refl
no_start false d = refl

no_stop : (c d : Bool) → ((c && c) && not d && d) ≡ false
no_stop true true = refl
no_stop true false = refl
no_stop false d = refl

no_rise_lem : (r c : Bool) → (r && (not c && c)) ≡ false
no_rise_lem true true = refl
no_rise_lem true false = refl
no_rise_lem false c = refl

module _ (w : Wires) where
  -- the wires are as they were
  wires_still : stepped w.levels w ≡ w
  unfolding stepped
  wires_still =
      pick_no (begun w.levels) _ (no_start (scl w.levels) (sda w.levels))
      ∙ pick_no (at_rest w.levels) _ (no_stop (scl w.levels) (sda w.levels))
      ∙ pick_no (taken w.levels w) (seen w.levels w) (no_rise_lem w.running (scl w.levels))

  told_nothing : told_at w.levels w ≡ None
  told_nothing = S.told_nothing w.levels w (S.no_stop w.levels w (no_stop (scl w.levels) (sda w.levels)))

pub repeat_nothing : (p : Panel) → (stepped_panel p.wires.levels p ≡ p) × (told_at p.wires.levels p.wires ≡ None)
unfolding stepped_panel
repeat_nothing p =
    (ap₂ (λ what w. obeyed what (with_wires w p)) (told_nothing p.wires) (wires_still p.wires), told_nothing p.wires)

-- ---- the kept samples

pub kept_plays : (p : Panel) (ss : List ℕ) → played (kept p.wires.levels ss) p ≡ played ss p
unfolding kept played
kept_plays p [] = refl
kept_plays p (s ∷ ss) =
    let was = p.wires.levels in
    pick_cases (λ xs. played xs p ≡ played ss (stepped_panel s p)) (eqb s was)
    (λ e. kept_plays p ss ∙ ap (played ss) (sym (ap (λ n. stepped_panel n p) (eqb-true s was e) ∙ (repeat_nothing p).0)))
    (λ e. ap (λ n. played (kept n ss) (stepped_panel s p)) (sym (step_levels s p)) ∙ kept_plays (stepped_panel s p) ss)

pub kept_reads : (p : Panel) (ss : List ℕ) → reads_in (kept p.wires.levels ss) p ≡ reads_in ss p
unfolding kept reads_in
kept_reads p [] = refl
kept_reads p (s ∷ ss) =
    let was = p.wires.levels in
    let first = bit_value (is_read (told_at s p.wires)) in
    pick_cases (λ xs. reads_in xs p ≡ first + reads_in ss (stepped_panel s p)) (eqb s was)
    (λ e.
    let same = eqb-true s was e in
    kept_reads p ss
    ∙ sym (zero-add (reads_in ss p))
    ∙ ap₂ (λ (what : Option Command) (q : Panel). bit_value (is_read what) + reads_in ss q)
    (sym (ap (λ n. told_at n p.wires) same ∙ (repeat_nothing p).1)) (sym (ap (λ n. stepped_panel n p) same ∙ (repeat_nothing p).0)))
    (λ e.
    ap (λ n. first + reads_in (kept n ss) (stepped_panel s p)) (sym (step_levels s p)) ∙ ap (λ n. first + n) (kept_reads (stepped_panel s p) ss))
