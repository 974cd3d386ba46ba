-- The contracts of this crate's functions allow one outcome each: `AllowsOne` of the base crate, of what each generated contract tells;
-- the writer's buffer included. The entries come first, then the inner functions by module.
-- Assumes nothing.
use mathlib.Core.Path.{refl}
use Rattle.base.specs.Unique.{AllowsOne}
use Rattle.base.proofs.Unique.{same_answer, same_told, same_handed}
use Rattle.ch450.proofs.power_on
use Rattle.ch450.proofs.apply
use Rattle.ch450.proofs.segments_lit
use Rattle.ch450.proofs.is_valid
use Rattle.ch450.proofs.shining
use Rattle.ch450.proofs.commands
use Rattle.ch450.proofs.edges
use Rattle.ch450.proofs.play
use Rattle.ch450.proofs.writer

-- ---- the entries

pub power_on_unique : AllowsOne power_on.Kinds.ps power_on.Kinds.r power_on.Reads.Learnt
power_on_unique κs a x y last last' p q = (same_answer p q, refl)

pub apply_unique : AllowsOne apply.Kinds.ps apply.Kinds.r apply.Reads.Learnt
apply_unique κs a x y last last' p q = (same_handed p q, refl)

pub segments_lit_unique : AllowsOne segments_lit.Kinds.ps segments_lit.Kinds.r segments_lit.Reads.Learnt
segments_lit_unique κs a x y last last' p q = (same_handed p q, refl)

pub encode_unique : AllowsOne commands.encode.Kinds.ps commands.encode.Kinds.r commands.encode.Reads.Learnt
encode_unique κs a x y last last' p q = (same_told p q, refl)

pub sample_unique : AllowsOne play.sample.Kinds.ps play.sample.Kinds.r play.sample.Reads.Learnt
sample_unique κs a x y last last' p q = (same_handed p q, refl)

pub play_unique : AllowsOne play.play.Kinds.ps play.play.Kinds.r play.play.Reads.Learnt
play_unique κs a x y last last' p q = (same_handed p q, refl)

pub write_unique : AllowsOne writer.write.Kinds.ps writer.write.Kinds.r writer.write.Reads.Learnt
write_unique κs a x y last last' p q =
    (same_told p.answer q.answer, λ i. (tt, (same_answer p.bytes q.bytes i, tt)))

-- ---- the inner functions

pub is_valid_unique : AllowsOne is_valid.Kinds.ps is_valid.Kinds.r is_valid.Reads.Learnt
is_valid_unique κs a x y last last' p q = (same_answer p q, refl)

pub shining_unique : AllowsOne shining.Kinds.ps shining.Kinds.r shining.Reads.Learnt
shining_unique κs a x y last last' p q = (same_answer p q, refl)

pub is_legal_unique : AllowsOne commands.is_legal.Kinds.ps commands.is_legal.Kinds.r commands.is_legal.Reads.Learnt
is_legal_unique κs a x y last last' p q = (same_answer p q, refl)

pub is_digit_byte_unique : AllowsOne commands.is_digit_byte.Kinds.ps commands.is_digit_byte.Kinds.r commands.is_digit_byte.Reads.Learnt
is_digit_byte_unique κs a x y last last' p q = (same_answer p q, refl)

pub meaning_of_unique : AllowsOne commands.meaning_of.Kinds.ps commands.meaning_of.Kinds.r commands.meaning_of.Reads.Learnt
meaning_of_unique κs a x y last last' p q = (same_answer p q, refl)

pub is_read_unique : AllowsOne commands.is_read.Kinds.ps commands.is_read.Kinds.r commands.is_read.Reads.Learnt
is_read_unique κs a x y last last' p q = (same_answer p q, refl)

pub applied_unique : AllowsOne commands.applied.Kinds.ps commands.applied.Kinds.r commands.applied.Reads.Learnt
applied_unique κs a x y last last' p q = (same_answer p q, refl)

pub obeyed_unique : AllowsOne commands.obeyed.Kinds.ps commands.obeyed.Kinds.r commands.obeyed.Reads.Learnt
obeyed_unique κs a x y last last' p q = (same_answer p q, refl)

pub scl_unique : AllowsOne edges.scl.Kinds.ps edges.scl.Kinds.r edges.scl.Reads.Learnt
scl_unique κs a x y last last' p q = (same_answer p q, refl)

pub sda_unique : AllowsOne edges.sda.Kinds.ps edges.sda.Kinds.r edges.sda.Reads.Learnt
sda_unique κs a x y last last' p q = (same_answer p q, refl)

pub wires_stepped_unique : AllowsOne edges.stepped.Kinds.ps edges.stepped.Kinds.r edges.stepped.Reads.Learnt
wires_stepped_unique κs a x y last last' p q = (same_answer p q, refl)

pub completes_unique : AllowsOne edges.completes.Kinds.ps edges.completes.Kinds.r edges.completes.Reads.Learnt
completes_unique κs a x y last last' p q = (same_answer p q, refl)

pub first_byte_unique : AllowsOne edges.first_byte.Kinds.ps edges.first_byte.Kinds.r edges.first_byte.Reads.Learnt
first_byte_unique κs a x y last last' p q = (same_answer p q, refl)

pub second_byte_unique : AllowsOne edges.second_byte.Kinds.ps edges.second_byte.Kinds.r edges.second_byte.Reads.Learnt
second_byte_unique κs a x y last last' p q = (same_answer p q, refl)

pub told_at_unique : AllowsOne edges.told_at.Kinds.ps edges.told_at.Kinds.r edges.told_at.Reads.Learnt
told_at_unique κs a x y last last' p q = (same_answer p q, refl)

pub stepped_unique : AllowsOne play.stepped.Kinds.ps play.stepped.Kinds.r play.stepped.Reads.Learnt
stepped_unique κs a x y last last' p q = (same_answer p q, refl)

pub to_next_transfer_unique : AllowsOne play.to_next_transfer.Kinds.ps play.to_next_transfer.Kinds.r play.to_next_transfer.Reads.Learnt
to_next_transfer_unique κs a x y last last' p q = (same_answer p q, refl)

pub checked_unique : AllowsOne play.checked.Kinds.ps play.checked.Kinds.r play.checked.Reads.Learnt
checked_unique κs a x y last last' p q = (same_told p q, refl)
