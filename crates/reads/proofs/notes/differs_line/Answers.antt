-- `reads::notes::differs_line` meets its contract.
-- Assumes nothing.
use Rattle.std.proofs.Common.{◌∷◌, ◌++◌, [], sym, ap, ◌∙◌, append-nil, arith}
use Rattle.lines.specs.Lines.{line_for}
use Rattle.capture.proofs.Reported.{line_put}
use Rattle.reads.specs.declared.Note.TheVariants.{Differs}
use Rattle.reads.proofs.Looking.{note_length}
use Rattle.reads.proofs.notes.differs_line.Goals as goal

pub returns : goal.returns
returns c =
    let a = c.args in
    let copied = c.copy_from_slice in
    line_put (0x15 ∷ (copied.new.self ++ [])) (ap (λ eight. line_for (0x15 ∷ eight)) (sym (append-nil copied.new.self ∙ copied.ensures.after ∙ c.eight_bytes.ensures)))
    (omega (arith, c.requires, note_length a.k (Differs a.offset))) c.put_line.ensures
