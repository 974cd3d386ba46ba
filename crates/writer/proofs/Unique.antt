-- The contract of `write` allows one outcome: `AllowsOne` of the base crate, of what the generated contract tells; the buffer included.
-- Assumes nothing.
use mathlib.Core.Path.{◌≡◌, refl, ap}
use Prim.Native.Nat.{ℕ}
use Rattle.base.specs.Refusals.{Told, done, refused, tells}
use Rattle.base.specs.Unique.{AllowsOne}
use Rattle.base.proofs.Refusals.{refusal_of, refusal_back}
use Rattle.base.proofs.Unique.{same_answer, same_telling}
use Rattle.writer.proofs.write
use Rattle.std.specs.declared.result.Result.{Result}
use Rattle.std.specs.declared.result.Result.TheVariants.{Ok, Err}
use Rattle.base.specs.declared.Refusal.{Refusal}

answered : Told ℕ → (Result ℕ Refusal)
answered (done count) = Ok count
answered (refused number place) = Err (refusal_of number place)

answered_back : (r : Result ℕ Refusal) → answered (tells r) ≡ r
unfolding answered
answered_back (Ok count) = refl
answered_back (Err e) = ap Err (refusal_back e)

pub write_unique : AllowsOne write.Kinds.ps write.Kinds.r write.Reads.Learnt
write_unique κs a x y last last' p q =
    (same_telling tells answered answered_back x y p.answer q.answer, λ i. (tt, (tt, (same_answer p.bytes q.bytes i, tt))))
