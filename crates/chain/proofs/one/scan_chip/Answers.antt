-- `chain::one::scan_chip` meets its contract: the chip scanned is the one at the place, and so is the one stored.
-- Assumes nothing.
use mathlib.Core.Path.{ap, ◌∙◌}
use Rattle.chip.specs.declared.Chip.{Chip}
use Rattle.chip.specs.Scans.{ScanLeaves, scan_leaves}
use Rattle.chain.specs.Entries.{with_chip}
use Rattle.chain.proofs.one.scan_chip.Goals as goal

pub returns : goal.returns
returns c =
    let a = c.args in
    let at = c.chip_at-before.ensures in
    let took = c.scanned-taken.ensures ∙ ap (λ (d : Chip). scan_leaves a.bytes d) at in
    record { chain_value = c.with_chip.ensures ∙ ap (λ (t : ScanLeaves). with_chip a.k t.chip a.chain) took; before_value = at; taken_value = took }
