-- `tallies::walk::whole` meets its contract: a text whose first line is refused, and the lines after the first.
-- Assumes nothing.
use mathlib.Core.Path.{ap, sym, ◌∙◌}
use Prim.Native.Nat.{◌+◌}
use native.Mathlib.Omega.{arith}
use borrow.Author.Rules.{rules}
use lib.ListN.{drop}
use Rattle.lines.specs.Lines.{lines_of}
use Rattle.capture.proofs.Firsts.{begun_more, begun_few}
use Rattle.tallies.specs.declared.Tally.{Tally}
use Rattle.tallies.specs.Counted.{counted_lines}
use Rattle.tallies.specs.Parts.{tally_of}
use Rattle.tallies.proofs.Walking.{none_counted, begun_counted}
use Rattle.tallies.proofs.walk.whole.Goals as goal

pub returns-in_default : goal.returns-in_default
returns-in_default c = sym (ap tally_of (none_counted c.args.tally (lines_of c.args.text.now) c.in_default.ensures))

pub overflow_add-end : goal.overflow_add-end
overflow_add-end c = grind (arith, begun_more)

pub lines-took-requires-clause-n_le_most : goal.lines-took-requires-clause-n_le_most
lines-took-requires-clause-n_le_most c = search (rules, begun_few)

pub lines-took-requires-clause-from_in_bounds : goal.lines-took-requires-clause-from_in_bounds
lines-took-requires-clause-from_in_bounds c = grind (arith, begun_more)

pub returns : goal.returns
returns c =
    let a = c.args in
    let end = c.line_end-end in
    let first = c.in-Some in
    let start = c.start-begun in
    ap tally_of
    (c.lines-took.ensures
    ∙ ap (λ (t : Tally). counted_lines first.n 2 (record { chain = start.result.value; tally = t }) (lines_of (drop (end.result + 1) a.text.now))) c.with_chips-tally.ensures
    ∙ sym (begun_counted a.tally a.text.now end.result first.n start.result end.ensures first.ensures start.ensures))
