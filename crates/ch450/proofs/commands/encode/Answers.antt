-- `ch450::commands::encode` meets its contract: each arm of the match is a clause of the definition.
-- Assumes nothing.
use mathlib.Core.Path.{ap, sym, ◌∙◌}
use Rattle.ch450.specs.Commands.{encoded_of}
use Rattle.ch450.proofs.commands.encode.Goals as goal

pub returns-in-Parameters : goal.returns-in-Parameters
unfolding encoded_of
returns-in-Parameters c = c.parameters_word.ensures ∙ sym (ap encoded_of c.in-Parameters.is)

pub returns-in-LoadDigit : goal.returns-in-LoadDigit
unfolding encoded_of
returns-in-LoadDigit c = c.digit_word.ensures ∙ sym (ap encoded_of c.in-LoadDigit.is)

pub returns-in-ReadKey : goal.returns-in-ReadKey
unfolding encoded_of
returns-in-ReadKey c = sym (ap encoded_of c.in-ReadKey.is)
