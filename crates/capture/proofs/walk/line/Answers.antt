-- `capture::walk::line` meets its contract: a line is taken as `form_of` says.
-- Assumes nothing.
use Rattle.std.proofs.Common.{arith, rules}
use Rattle.capture.proofs.Read.{held_some, held_scan, held_samples}
use Rattle.capture.proofs.walk.line.Goals as goal

pub slice_bounds-samples-count : goal.slice_bounds-samples-count
slice_bounds-samples-count c = omega (arith, held_some _ _ _ _ (search rules) c.form_of.ensures c.in-Samples.is)

pub slice_bounds-samples-start : goal.slice_bounds-samples-start
slice_bounds-samples-start c = omega (arith, held_some _ _ _ _ (search rules) c.form_of.ensures c.in-Samples.is)

pub scan_line-requires : goal.scan_line-requires
scan_line-requires c = grind (arith, held_scan _ _ _ _ (search rules) c.form_of.ensures c.in-Scan.is)

pub returns-in-Samples : goal.returns-in-Samples
returns-in-Samples c = grind (arith, held_samples _ _ _ _ (search rules) c.form_of.ensures c.in-Samples.is)

pub returns-in-Scan : goal.returns-in-Scan
returns-in-Scan c = grind (arith, held_scan _ _ _ _ (search rules) c.form_of.ensures c.in-Scan.is)
