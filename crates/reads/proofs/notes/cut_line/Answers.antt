-- `reads::notes::cut_line` meets its contract.
-- Assumes nothing.
use Rattle.std.proofs.Common.{[], ◌∷◌, refl, arith}
use Rattle.capture.proofs.Reported.{line_put}
use Rattle.reads.specs.declared.Note.TheVariants.{Cut}
use Rattle.reads.proofs.Looking.{note_length}
use Rattle.reads.proofs.notes.cut_line.Goals as goal

pub returns : goal.returns
returns c =
    let a = c.args in
    line_put (0x17 ∷ a.k ∷ []) refl (omega (arith, c.requires, note_length a.k Cut)) c.put_line.ensures
