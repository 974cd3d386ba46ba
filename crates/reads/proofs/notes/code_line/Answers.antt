-- `reads::notes::code_line` meets its contract.
-- Assumes nothing.
use Rattle.std.proofs.Common.{[], ◌∷◌, refl, arith}
use Rattle.capture.proofs.Reported.{line_put}
use Rattle.reads.specs.declared.Note.TheVariants.{Code}
use Rattle.reads.proofs.Looking.{note_length}
use Rattle.reads.proofs.notes.code_line.Goals as goal

pub returns : goal.returns
returns c =
    let a = c.args in
    line_put (0x16 ∷ a.k ∷ a.code ∷ []) refl (omega (arith, c.requires, note_length a.k (Code a.code))) c.put_line.ensures
