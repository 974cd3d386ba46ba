-- `tallies::print` meets its contract: the lines of any tally fit the array.
-- Assumes nothing.
use mathlib.Core.Path.{◌≡◌}
use Prim.Native.Nat.{◌≤◌}
use native.Mathlib.Omega.{arith}
use lib.ListN.{length}
use Rattle.base.proofs.Lists.{length_mapped}
use Rattle.chain.specs.Chain.{most}
use Rattle.tallies.specs.Printed.{printed_of}
use Rattle.tallies.proofs.PrintedLines.{printed_room, prints_counts}
use borrow.Author.Rules.{rules}
use Rattle.tallies.proofs.print.Goals as goal

pub all-requires : goal.all-requires
all-requires c =
    let a = c.args in
    let chips : length a.tally.chips ≡ most = search (rules, length_mapped) in
    let codes : length a.tally.codes ≡ 128 = search rules in
    omega (arith, printed_room a.tally a.end chips codes, c.well_formed)

pub returns : goal.returns
returns c =
    let a = c.args in
    let chips : length a.tally.chips ≡ most = search (rules, length_mapped) in
    let codes : length a.tally.codes ≡ 128 = search rules in
    let fits : length (printed_of a.tally a.end) ≤ length a.out.now = omega (arith, printed_room a.tally a.end chips codes, c.well_formed) in
    record { prints = c.all.ensures; counts = prints_counts fits c.all.ensures }
