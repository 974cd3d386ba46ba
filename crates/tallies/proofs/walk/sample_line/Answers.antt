-- `tallies::walk::sample_line` meets its contract: 16 where a count has no room for so many samples.
-- Assumes nothing.
use mathlib.Core.Path.{ap, sym, ◌∙◌}
use mathlib.Core.List.{map}
use lib.ListN.{length-map}
use borrow.Author.Tests.{not-true, not-false}
use Rattle.chain.specs.Events.{sample}
use Rattle.tallies.specs.Tallies.{fits}
use Rattle.tallies.proofs.Taken.{full_line, counted_line_lem}
use Rattle.tallies.proofs.walk.sample_line.Goals as goal

pub returns-then-not-fits : goal.returns-then-not-fits
returns-then-not-fits c =
    let a = c.args in
    let f = c.fits in
    full_line a.n a.number a.state (map sample a.ss.now)
    (ap (λ m. fits m a.state.tally) (length-map a.ss.now sample) ∙ sym f.ensures ∙ not-true f.result c.if-not-fits.true-raw)

pub samples-requires : goal.samples-requires
samples-requires c = record { n_le_most = c.requires; tally_value = sym c.fits.ensures ∙ not-false c.fits.result c.if-not-fits.false-raw }

pub returns : goal.returns
returns c =
    let a = c.args in
    let f = c.fits in
    counted_line_lem a.n a.number a.state (map sample a.ss.now)
    (ap (λ m. fits m a.state.tally) (length-map a.ss.now sample) ∙ sym f.ensures ∙ not-false f.result c.if-not-fits.false-raw) c.samples.ensures
