-- The contracts of this crate's public functions allow one outcome each: `AllowsOne` of the base crate, of what each generated contract
-- tells; the lent array included.
-- Assumes nothing.
use Rattle.std.proofs.Common.{◌≡◌, ℕ, List, refl}
use Rattle.base.specs.Unique.{AllowsOne}
use Rattle.base.proofs.Unique.{same_answer}
use Rattle.capture.specs.declared.Report.{Report}
use Rattle.streams.specs.declared.Fed.{Fed}
use Rattle.streams.specs.declared.Stream.{Stream}
use Rattle.streams.specs.Steps.{Feeds}
use Rattle.streams.proofs.start
use Rattle.streams.proofs.feed
use Rattle.streams.proofs.finish

-- two answers to one block
same_fed : {what : Report} {s : Stream} {bytes out out' out'' : List ℕ} {x y : Fed} → Feeds what s bytes out x out' → Feeds what s bytes out y out'' → x ≡ y
same_fed p q =
    let stream = same_answer p.stream q.stream in
    let passed = same_answer p.passed q.passed in
    let count = same_answer p.count q.count in
    λ i. record { stream = stream i; passed = passed i; bytes = count i }

-- ---- the entries

pub start_unique : AllowsOne start.Kinds.ps start.Kinds.r start.Reads.Learnt
start_unique κs a x y last last' p q = (same_answer p q, refl)

pub feed_unique : AllowsOne feed.Kinds.ps feed.Kinds.r feed.Reads.Learnt
feed_unique κs a x y last last' p q = (same_fed p.0 q.0, λ i. (tt, (tt, (tt, (same_answer p.0.front q.0.front i, tt)))))

pub finish_unique : AllowsOne finish.Kinds.ps finish.Kinds.r finish.Reads.Learnt
finish_unique κs a x y last last' p q = (same_answer p.0.count q.0.count, λ i. (tt, (same_answer p.0.front q.0.front i, tt)))
