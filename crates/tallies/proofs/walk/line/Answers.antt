-- `tallies::walk::line` meets its contract: a line is taken as `form_of` says.
-- Assumes nothing.
use Rattle.std.proofs.Common.{arith, rules}
use Rattle.capture.proofs.Read.{held_some, held_samples, held_scan, held_below}
use Rattle.tallies.proofs.walk.line.Goals as goal

pub slice_bounds-sample_line-count : goal.slice_bounds-sample_line-count
slice_bounds-sample_line-count c = omega (arith, held_some _ _ _ _ (search rules) c.form_of.ensures c.in-Samples.is)

pub slice_bounds-sample_line-start : goal.slice_bounds-sample_line-start
slice_bounds-sample_line-start c = omega (arith, held_some _ _ _ _ (search rules) c.form_of.ensures c.in-Samples.is)

pub scan_line-requires-clause-k_lt_n : goal.scan_line-requires-clause-k_lt_n
scan_line-requires-clause-k_lt_n c = held_below _ _ _ _ (search rules) c.form_of.ensures c.in-Scan.is

pub returns-in-Samples : goal.returns-in-Samples
returns-in-Samples c = grind (arith, held_samples _ _ _ _ (search rules) c.form_of.ensures c.in-Samples.is)

pub returns-in-Scan : goal.returns-in-Scan
returns-in-Scan c = grind (arith, held_scan _ _ _ _ (search rules) c.form_of.ensures c.in-Scan.is)
