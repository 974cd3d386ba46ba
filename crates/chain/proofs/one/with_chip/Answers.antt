-- `chain::one::with_chip` meets its contract: past the last record nothing is stored.
-- Assumes nothing.
use mathlib.Core.Path.{◌≡◌, ap, sym}
use mathlib.Core.List.{List}
use native.Mathlib.Omega.{arith}
use lib.ListN.{length}
use lib.Seq.{set_out}
use Rattle.base.proofs.Lists.{length_mapped}
use Rattle.chip.specs.declared.Chip.{Chip}
use Rattle.chain.specs.Chain.{most}
use borrow.Author.Rules.{rules}
use Rattle.chain.proofs.one.with_chip.Goals as goal

pub returns-else-k-lt-MOST : goal.returns-else-k-lt-MOST
returns-else-k-lt-MOST c =
    let a = c.args in
    let all : length a.chain.chips ≡ most = search (rules, length_mapped) in
    ap (λ (cs : List Chip). record { chips = cs; levels = a.chain.levels }) (sym (set_out a.chain.chips a.k a.c (omega arith)))
