-- `settings::again` meets its contract: the array always suffices.
-- Assumes nothing.
use mathlib.Core.Path.{◌≡◌}
use native.Mathlib.Omega.{arith}
use lib.ListN.{length}
use Rattle.settings.proofs.Rooms.{again_counts}
use borrow.Author.Rules.{rules}
use Rattle.settings.proofs.again.Goals as goal

pub again-requires : goal.again-requires
again-requires c =
    let full : length c.args.out.now ≡ 111 = search rules in
    omega arith

pub returns : goal.returns
returns c =
    let full : length c.args.out.now ≡ 111 = search rules in
    record { prints_again = c.again.ensures; counts = again_counts c.args.text.now (omega arith) c.again.ensures }
