-- `chain::one::scan` meets its contract: its tests are the definition's.
-- Assumes nothing.
use mathlib.Core.Path.{ap, ap₂, sym, ◌∙◌}
use Rattle.base.specs.Refusals.{done}
use Rattle.base.proofs.Refusals.{by_done, by_refusal}
use Rattle.chip.specs.Scans.{Recording, ScanLeaves}
use Rattle.chain.specs.declared.Chain.{Chain}
use Rattle.chain.specs.Entries as E
use Rattle.chain.proofs.Tested.{at_chip}
use Rattle.chain.proofs.one.scan.Goals as goal

pub returns-in-Err : goal.returns-in-Err
unfolding E.scanned_of
returns-in-Err c = sym (at_chip c.args.n c.args.chain c.args.k _ _ ∙ by_refusal _ _ c.tested_at.ensures c.in-Err.is)

pub returns : goal.returns
unfolding E.scanned_of
returns c =
    let s = c.scan_chip-done.ensures in
    ap₂ (λ (ch : Chain) (what : Recording). record { state = ch; told = done what }) s.chain_value (ap (λ (t : ScanLeaves). t.recorded) s.taken_value)
    ∙ sym (at_chip c.args.n c.args.chain c.args.k _ _ ∙ by_done _ _ c.tested_at.ensures c.in_default.is)
