-- `settings::frames::version_for` meets its contract.
-- Assumes nothing.
use mathlib.Core.Path.{refl}
use Rattle.settings.specs.Settings.{version_for}
use Rattle.settings.proofs.frames.version_for.Goals as goal

pub returns : goal.returns
unfolding version_for
returns c = refl
