-- The contracts of this crate's public functions allow one outcome each: `AllowsOne` of the base crate, of what each generated contract
-- tells; the lent array included.
-- Assumes nothing.
use mathlib.Core.Path.{refl}
use Rattle.base.specs.Unique.{AllowsOne}
use Rattle.base.proofs.Unique.{same_answer, same_handed}
use Rattle.tallies.proofs.count
use Rattle.tallies.proofs.fresh
use Rattle.tallies.proofs.print

pub fresh_unique : AllowsOne fresh.Kinds.ps fresh.Kinds.r fresh.Reads.Learnt
fresh_unique κs a x y last last' p q = (same_answer p q, refl)

pub count_unique : AllowsOne count.Kinds.ps count.Kinds.r count.Reads.Learnt
count_unique κs a x y last last' p q = (same_handed p q, refl)

pub print_unique : AllowsOne print.Kinds.ps print.Kinds.r print.Reads.Learnt
print_unique κs a x y last last' p q =
    (same_answer p.0.count q.0.count, λ i. (tt, (tt, (same_answer p.0.bytes q.0.bytes i, tt))))
