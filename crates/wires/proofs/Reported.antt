-- What is written at an obeyed command, seen from the places of the code that writes it.
--     by_none, by_commands, by_screen       what an obeyed command writes, case by case
--     by_nothing, by_bytes                  what a transfer writes
-- Assumes nothing.
use mathlib.Core.Path.{◌≡◌, ap, sym, ◌∙◌}
use mathlib.Core.Bool.{Bool}
use mathlib.Core.List.{[]}
use Prim.Native.Nat.{ℕ}
use Rattle.ch450.specs.declared.Command.{Command}
use Rattle.ch450.specs.declared.Panel.{Panel}
use Rattle.ch450.specs.declared.play.Transfer.{Transfer}
use Rattle.ch450.specs.Commands.{meaning_of, is_read}
use Rattle.wires.specs.declared.Report.{Report}
use Rattle.wires.specs.declared.Report.TheVariants.{Commands, Screen}
use Rattle.wires.specs.Reports.{screen_line, command_lines, obeyed_lines, transfer_lines}
use Rattle.std.specs.declared.option.Option.{Option}
use Rattle.std.specs.declared.option.Option.TheVariants.{Some, None}

-- ---- an obeyed command

module _ (what : Report) (key first second : ℕ) (m : Option Command) (p : Panel) where
  pub by_none : m ≡ None → obeyed_lines what key first second m p ≡ []
  by_none e = ap (λ told. obeyed_lines what key first second told p) e

  pub by_commands : what ≡ Commands → (command : Command) → m ≡ Some command → {read : Bool} → read ≡ is_read m
      → obeyed_lines what key first second m p ≡ command_lines key first second read
  by_commands w command e r =
      ap (λ (report : Report). obeyed_lines report key first second m p) w
      ∙ ap (λ told. obeyed_lines Commands key first second told p) e
      ∙ ap (command_lines key first second) (sym (r ∙ ap is_read e))

  pub by_screen : what ≡ Screen → (command : Command) → m ≡ Some command → obeyed_lines what key first second m p ≡ screen_line p
  by_screen w command e =
      ap (λ (report : Report). obeyed_lines report key first second m p) w ∙ ap (λ told. obeyed_lines Screen key first second told p) e

-- ---- a transfer

module _ (what : Report) (key : ℕ) (t : Option Transfer) (p : Panel) where
  pub by_nothing : t ≡ None → transfer_lines what key t p ≡ []
  by_nothing e = ap (λ x. transfer_lines what key x p) e

  pub by_bytes : (first second : ℕ) → t ≡ Some (record { first = first; second = second }) → {m : Option Command} → m ≡ meaning_of first second
      → transfer_lines what key t p ≡ obeyed_lines what key first second m p
  by_bytes first second e told =
      ap (λ x. transfer_lines what key x p) e ∙ ap (λ m. obeyed_lines what key first second m p) (sym told)
