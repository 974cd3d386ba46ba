-- The contracts of this crate's public functions allow one outcome each: `AllowsOne` of the base crate, of what each generated contract
-- tells; the lent buffer included.
-- Assumes nothing.
use Rattle.std.proofs.Common.{◌≡◌, ℕ, List, refl}
use Rattle.base.specs.Unique.{AllowsOne}
use Rattle.base.proofs.Unique.{same_answer}
use Rattle.reads.specs.declared.Ran.{Ran}
use Rattle.reads.specs.Parts.{Runs}
use Rattle.reads.specs.Reads.{Sampled}
use Rattle.reads.proofs.start
use Rattle.reads.proofs.is_looking
use Rattle.reads.proofs.is_sample
use Rattle.reads.proofs.samples

pub start_unique : AllowsOne start.Kinds.ps start.Kinds.r start.Reads.Learnt
start_unique κs a x y last last' p q = (same_answer p q, refl)

pub is_looking_unique : AllowsOne is_looking.Kinds.ps is_looking.Kinds.r is_looking.Reads.Learnt
is_looking_unique κs a x y last last' p q = (same_answer p q, refl)

pub is_sample_unique : AllowsOne is_sample.Kinds.ps is_sample.Kinds.r is_sample.Reads.Learnt
is_sample_unique κs a x y last last' p q = (same_answer p q, refl)

-- two answers to one run of samples, and what is then lent
same_ran : {x : Sampled} {count at : ℕ} {out out' out'' : List ℕ} {r s : Ran} → Runs x count at out r out' → Runs x count at out s out'' → (r ≡ s) × (out' ≡ out'')
same_ran p q =
    let chain = same_answer p.chain q.chain in
    let reader = same_answer p.reader q.reader in
    let count = same_answer p.counts q.counts in
    let at = same_answer p.puts.answer q.puts.answer in
    (λ i. record { chain = chain i; reader = reader i; count = count i; at = at i }, same_answer p.puts.bytes q.puts.bytes)

pub samples_unique : AllowsOne samples.Kinds.ps samples.Kinds.r samples.Reads.Learnt
samples_unique κs a x y last last' p q = let same = same_ran p q in (same.0, λ i. (tt, (tt, (tt, (tt, (tt, (tt, (same.1 i, (tt, tt)))))))))
