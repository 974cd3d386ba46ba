-- `tallies::count` meets its contract: a text too long, a tally of too many chips, and the text walked.
-- Assumes nothing.
use mathlib.Core.Path.{◌∙◌}
use Rattle.tallies.proofs.Walking.{long_counted, many_counted, short_counted}
use Rattle.tallies.proofs.count.Goals as goal

pub returns-then-text-gt-LONGEST : goal.returns-then-text-gt-LONGEST
returns-then-text-gt-LONGEST c = long_counted c.args.tally c.args.text.now c.if-text-gt-LONGEST.true

pub returns-then-tally-gt-MOST : goal.returns-then-tally-gt-MOST
returns-then-tally-gt-MOST c =
    let a = c.args in
    many_counted a.tally a.text.now c.if-text-gt-LONGEST.false c.if-tally-gt-MOST.true

pub whole-requires : goal.whole-requires
whole-requires c = c.if-text-gt-LONGEST.false

pub returns : goal.returns
returns c =
    let a = c.args in
    c.whole.ensures ∙ short_counted a.tally a.text.now c.if-text-gt-LONGEST.false c.if-tally-gt-MOST.false
