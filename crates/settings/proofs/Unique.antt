-- The contracts of this crate's public functions allow one outcome each: `AllowsOne` of the base crate, of what each generated contract
-- tells; the lent buffer included.
--     read_unique                      settings handed back, and what the answer tells
--     write_unique, rows_unique        the answer, and the buffer after it
--     again_unique, setup_unique       the answer, how many bytes, and the array after it
-- Assumes nothing.
use mathlib.Core.Path.{◌≡◌, refl}
use mathlib.Core.List.{List}
use Prim.Native.Nat.{ℕ}
use Rattle.base.specs.Refusals.{Told}
use Rattle.base.specs.Unique.{AllowsOne}
use Rattle.base.proofs.Unique.{same_answer, same_told, same_result, same_handed}
use Rattle.capture.specs.declared.Replayed.{Replayed}
use Rattle.settings.specs.declared.Kiosk.{Kiosk}
use Rattle.settings.specs.Putting.{Fits}
use Rattle.settings.specs.Printing.{Prints}
use Rattle.settings.proofs.read
use Rattle.settings.proofs.write
use Rattle.settings.proofs.rows
use Rattle.settings.proofs.again
use Rattle.settings.proofs.setup
use Rattle.std.specs.declared.result.Result.{Result}
use Rattle.base.specs.declared.Refusal.{Refusal}

pub read_unique : AllowsOne read.Kinds.ps read.Kinds.r read.Reads.Learnt
read_unique κs a x y last last' p q = (same_handed p q, refl)

-- ---- a buffer that is lent

-- two answers to one buffer
same_put : {kiosk : Kiosk} {piece out out' out'' : List ℕ} {r s : Result ℕ Refusal} → Fits kiosk piece out r out' → Fits kiosk piece out s out'' → r ≡ s
same_put p q = same_told p.answer q.answer

pub write_unique : AllowsOne write.Kinds.ps write.Kinds.r write.Reads.Learnt
write_unique κs a x y last last' p q = (same_put p q, λ i. (tt, (same_answer p.buffer q.buffer i, tt)))

pub rows_unique : AllowsOne rows.Kinds.ps rows.Kinds.r rows.Reads.Learnt
rows_unique κs a x y last last' p q = (same_put p q, λ i. (tt, (same_answer p.buffer q.buffer i, tt)))

-- ---- what a program prints

-- two answers to one text
same_printed : {end : Told (Unit {0})} {piece out out' out'' : List ℕ} {r s : Replayed}
    → Prints end piece out r out' → Prints end piece out s out'' → r ≡ s
same_printed {r = r} {s = s} p q =
    let count = same_answer p.count q.count in
    let answer = same_result {r = r.answer} {s = s.answer} (same_answer p.answer q.answer) in
    λ i. record { bytes = count i; answer = answer i }

pub again_unique : AllowsOne again.Kinds.ps again.Kinds.r again.Reads.Learnt
again_unique κs a x y last last' p q = (same_printed p.0 q.0, λ i. (tt, (same_answer p.0.bytes q.0.bytes i, tt)))

pub setup_unique : AllowsOne setup.Kinds.ps setup.Kinds.r setup.Reads.Learnt
setup_unique κs a x y last last' p q = (same_printed p.0 q.0, λ i. (tt, (same_answer p.0.bytes q.0.bytes i, tt)))
