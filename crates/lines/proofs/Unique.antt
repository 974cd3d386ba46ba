-- The contracts of this crate's public functions allow one outcome each: `AllowsOne` of the base crate, of what each generated contract
-- tells; the lent buffer included.
-- Assumes nothing.
use mathlib.Core.Path.{refl}
use Rattle.base.specs.Unique.{AllowsOne}
use Rattle.base.proofs.Unique.{same_answer}
use Rattle.lines.proofs.frame_of
use Rattle.lines.proofs.line_end
use Rattle.lines.proofs.put_line
use Rattle.lines.proofs.eight_bytes

pub frame_of_unique : AllowsOne frame_of.Kinds.ps frame_of.Kinds.r frame_of.Reads.Learnt
frame_of_unique κs a x y last last' p q = (same_answer p q, refl)

pub line_end_unique : AllowsOne line_end.Kinds.ps line_end.Kinds.r line_end.Reads.Learnt
line_end_unique κs a x y last last' p q = (same_answer p q, refl)

pub put_line_unique : AllowsOne put_line.Kinds.ps put_line.Kinds.r put_line.Reads.Learnt
put_line_unique κs a x y last last' p q = (same_answer p.answer q.answer, λ i. (tt, (same_answer p.bytes q.bytes i, (tt, tt))))

pub eight_bytes_unique : AllowsOne eight_bytes.Kinds.ps eight_bytes.Kinds.r eight_bytes.Reads.Learnt
eight_bytes_unique κs a x y last last' p q = (same_answer p q, refl)
