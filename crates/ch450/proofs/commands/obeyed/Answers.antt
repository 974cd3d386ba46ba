-- `ch450::commands::obeyed` meets its contract: each arm of the match is a clause of the definition.
-- Assumes nothing.
use mathlib.Core.Path.{ap, sym, ◌∙◌}
use Rattle.ch450.specs.Commands.{obeyed}
use Rattle.ch450.proofs.commands.obeyed.Goals as goal
use Rattle.std.specs.declared.option.Option.{Option}
use Rattle.ch450.specs.declared.Command.{Command}

pub returns-in-Some : goal.returns-in-Some
returns-in-Some c =
    c.applied.ensures
    ∙ sym (ap (λ (m : Option Command). obeyed m c.args.panel) c.in-Some.is)
