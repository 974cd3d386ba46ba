-- The contracts of this crate's functions allow one outcome each: `AllowsOne` of the base crate, of what each generated contract tells.
-- Assumes nothing.
use mathlib.Core.Path.{refl}
use Rattle.base.specs.Unique.{AllowsOne}
use Rattle.base.proofs.Unique.{same_answer, same_told}
use Rattle.word.proofs.decode
use Rattle.word.proofs.encode
use Rattle.word.proofs.is_legal

pub decode_unique : AllowsOne decode.Kinds.ps decode.Kinds.r decode.Reads.Learnt
decode_unique κs a x y last last' p q = (same_told p q, refl)

pub encode_unique : AllowsOne encode.Kinds.ps encode.Kinds.r encode.Reads.Learnt
encode_unique κs a x y last last' p q = (same_told p q, refl)

pub is_legal_unique : AllowsOne is_legal.Kinds.ps is_legal.Kinds.r is_legal.Reads.Learnt
is_legal_unique κs a x y last last' p q = (same_answer p q, refl)
