-- `settings::puts::word_of` meets its contract: `encode` refuses no command that is in range.
-- Assumes nothing.
use mathlib.Core.Path.{◌∙◌}
use Rattle.settings.proofs.Putting.{word_so}
use Rattle.settings.proofs.puts.word_of.Goals as goal

pub returns : goal.returns
returns c = c.unwrap_or.ensures ∙ word_so c.args.command c.encode.result c.encode.ensures c.requires
