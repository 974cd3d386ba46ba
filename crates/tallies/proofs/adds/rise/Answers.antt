-- `tallies::adds::rise` meets its contract. The invariant is `Rising`: the chips done so far, and the rest counted, are the whole counted.
-- Assumes nothing.
use mathlib.Core.Path.{◌≡◌}
use lib.ListN.{length}
use Rattle.base.proofs.Lists.{length_mapped}
use Rattle.chain.specs.Chain.{most}
use Rattle.tallies.specs.Parts.{risen}
use Rattle.tallies.proofs.Rises.{rising_start, rising_room, rising_more, rising_over}
use Rattle.tallies.proofs.Rooms.{fits_parts}
use borrow.Author.Rules.{rules}
use Rattle.tallies.proofs.adds.rise.Goals as goal

pub loop-k-init : goal.loop-k-init
loop-k-init c =
    let a = c.args in
    rising_start a.n a.before.chips a.after.chips a.tally.chips (search (rules, length_mapped)) (fits_parts 1 a.tally c.requires.tally_value).0

pub obeys-requires : goal.obeys-requires
obeys-requires c = rising_room c.loop-k.invariant c.requires.n_le_most c.loop-k-test.true _

pub loop-k-preserved : goal.loop-k-preserved
loop-k-preserved c =
    let a = c.args in
    let p = c.requires in
    let l = c.loop-k in
    let befores : length a.before.chips ≡ most = search (rules, length_mapped) in
    let afters : length a.after.chips ≡ most = search (rules, length_mapped) in
    rising_more l.invariant p.n_le_most c.loop-k-test.true befores afters _ _ _ c.obeys.result c.obeys.ensures

pub returns : goal.returns
unfolding risen
returns c =
    let a = c.args in
    λ i. record { chips = rising_over c.loop-k.invariant c.loop-k-test.false i; codes = a.tally.codes; largest = a.tally.largest }
