-- `settings::setup` meets its contract: the array always suffices.
-- Assumes nothing.
use mathlib.Core.Path.{◌≡◌}
use native.Mathlib.Omega.{arith}
use lib.ListN.{length}
use Rattle.settings.proofs.Rooms.{setup_counts}
use borrow.Author.Rules.{rules}
use Rattle.settings.proofs.setup.Goals as goal

pub setup-requires : goal.setup-requires
setup-requires c =
    let full : length c.args.out.now ≡ 1634 = search rules in
    omega arith

pub returns : goal.returns
returns c =
    let full : length c.args.out.now ≡ 1634 = search rules in
    record { prints_setup = c.setup.ensures; counts = setup_counts c.args.text.now (omega arith) c.setup.ensures }
