-- Of samples that are played one after another, those that repeat the levels before them may be left out: what is written stays the
-- same. It is said of samples, and not of the lines of a text in which they stand.
--     kept_writes      samples without those that repeat write the same
-- Assumes nothing.
use mathlib.Core.Path.{◌≡◌, refl, ap, ap₂, sym, ◌∙◌}
use mathlib.Core.List.{List, [], ◌∷◌, ◌++◌}
use Prim.Native.Nat.{ℕ}
use borrow.Author.Tests.{eqb-true}
use lib.Dec.{eqb}
use Rattle.base.proofs.Picks.{pick_cases}
use Rattle.ch450.specs.declared.Panel.{Panel}
use Rattle.ch450.specs.Commands.{told_at}
use Rattle.ch450.specs.Edges.{first_byte, second_byte}
use Rattle.ch450.specs.Samples.{stepped_panel}
use Rattle.ch450.specs.Still.{kept}
use Rattle.ch450.proofs.Repeats.{step_levels, repeat_nothing}
use Rattle.wires.specs.declared.Report.{Report}
use Rattle.wires.specs.Reports.{obeyed_lines}
use Rattle.wires.specs.Replay.{at_sample, written_by}
use Rattle.std.specs.declared.option.Option.{Option}
use Rattle.ch450.specs.declared.Command.{Command}

module _ (what : Report) (key : ℕ) where
  pub kept_writes : (ss : List ℕ) (p : Panel) → written_by what key (kept p.wires.levels ss) p ≡ written_by what key ss p
  unfolding kept written_by
  kept_writes [] p = refl
  kept_writes (s ∷ ss) p =
      let was = p.wires.levels in
      let next = stepped_panel s p in
      pick_cases (λ xs. written_by what key xs p ≡ at_sample what key s p ++ written_by what key ss next) (eqb s was)
      (λ e.
      let same = eqb-true s was e in
      kept_writes ss p
      ∙ ap₂
      (λ (m : Option Command) (q : Panel). obeyed_lines what key (first_byte p.wires) (second_byte p.wires) m next ++ written_by what key ss q)
      (sym (ap (λ n. told_at n p.wires) same ∙ (repeat_nothing p).1)) (sym (ap (λ n. stepped_panel n p) same ∙ (repeat_nothing p).0)))
      (λ e.
      ap (λ n. at_sample what key s p ++ written_by what key (kept n ss) next) (sym (step_levels s p))
      ∙ ap (λ xs. at_sample what key s p ++ xs) (kept_writes ss next))
