-- `tallies::adds::scan` meets its contract: a store at the chip, and the codes as what was recorded says.
-- Assumes nothing.
use mathlib.Core.Path.{◌≡◌, ap, sym, subst, ◌∙◌}
use native.Mathlib.Omega.{arith}
use lib.ListN.{length, set}
use Rattle.base.proofs.Lists.{length_mapped}
use Rattle.chain.specs.Chain.{most}
use Rattle.chip.specs.Scans.{recording_of}
use Rattle.tallies.specs.Counts.{plus, record_counts}
use Rattle.tallies.specs.Parts.{AtMostOne, scanned_tally}
use Rattle.tallies.specs.Tallies.{have_room}
use Rattle.base.proofs.Every.{every_at}
use Rattle.tallies.proofs.Rises.{chip_store}
use Rattle.tallies.proofs.Rooms.{fits_parts}
use Rattle.tallies.proofs.Steps.{record_few}
use borrow.Author.Rules.{rules}
use Rattle.tallies.proofs.adds.scan.Goals as goal

pub plus-requires : goal.plus-requires
plus-requires c =
    let a = c.args in
    let p = c.requires in
    let size : length a.tally.chips ≡ most = search (rules, length_mapped) in
    record { a_value = every_at (have_room 1) a.tally.chips a.k _ (fits_parts 1 a.tally p.tally_value).0 (omega (arith, p.k_lt_most)); at_most_one = subst AtMostOne (sym c.of_record.ensures) (record_few (recording_of a.what)) }

pub codes_after-requires : goal.codes_after-requires
codes_after-requires c = (fits_parts 1 c.args.tally c.requires.tally_value).1

pub returns : goal.returns
unfolding scanned_tally
returns c =
    let a = c.args in
    let p = c.requires in
    let size : length a.tally.chips ≡ most = search (rules, length_mapped) in
    let chips = ap (set a.tally.chips a.k) (c.plus.ensures ∙ ap (plus _) c.of_record.ensures) ∙ chip_store a.k (record_counts (recording_of a.what)) a.tally.chips _ (omega (arith, p.k_lt_most)) in
    λ i. record { chips = chips i; codes = c.codes_after.ensures i; largest = a.tally.largest }
