-- `wires::screen` meets its contract: an output always fits the array.
-- Assumes nothing.
use Prim.Native.Nat.{◌≤◌}
use native.Mathlib.Omega.{arith}
use lib.ListN.{length}
use Rattle.wires.specs.declared.Report.TheVariants.{Screen}
use Rattle.wires.specs.Replay.{output_of}
use Rattle.wires.proofs.Firsts.{replays_counts}
use Rattle.wires.proofs.Room.{output_room}
use Rattle.wires.proofs.screen.Goals as goal

pub whole-requires : goal.whole-requires
whole-requires c = omega (arith, output_room Screen c.args.text.now, c.well_formed)

pub returns : goal.returns
returns c =
    let a = c.args in
    let fits : length (output_of Screen a.text.now) ≤ length a.out.now = omega (arith, output_room Screen a.text.now, c.well_formed) in
    record { replays = c.whole.ensures; counts = replays_counts fits c.whole.ensures }
