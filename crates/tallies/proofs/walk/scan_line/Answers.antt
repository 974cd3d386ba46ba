-- `tallies::walk::scan_line` meets its contract: 16 where a count has no room for one more.
-- Assumes nothing.
use mathlib.Core.Path.{ap, sym, ◌∙◌}
use mathlib.Core.List.{[], ◌∷◌}
use borrow.Author.Tests.{not-false}
use Rattle.chip.specs.Scans.{ScanLeaves}
use Rattle.chain.specs.Events.{scan}
use Rattle.tallies.specs.Parts.{scanned_tally}
use Rattle.tallies.proofs.Scanning.{one_scan}
use Rattle.tallies.proofs.Taken.{counted_line_lem}
use Rattle.tallies.proofs.walk.scan_line.Goals as goal

pub returns : goal.returns
returns c =
    let a = c.args in
    let p = c.requires in
    let f = c.fits in
    let s = c.scan_chip-scanned in
    let told = ap (λ (x : ScanLeaves). x.recorded) s.ensures.taken_value in
    let tally = c.scan.ensures ∙ ap (λ w. scanned_tally a.k w a.state.tally) told ∙ sym (one_scan a.n a.k p.k_lt_n p.n_le_most a.bytes a.state.chain a.state.tally) in
    counted_line_lem a.n a.number a.state (scan a.k a.bytes ∷ []) (sym f.ensures ∙ not-false f.result c.if-not-fits.false-raw) (λ i. record { chain = s.ensures.chain_value i; tally = tally i })
