-- One look, seen from the places of the code that makes it.
--     note_length                         how long a note's line is
-- Assumes nothing.
use Rattle.std.proofs.Common.{ℕ, ◌≤◌, [], ◌∷◌, length, arith}
use Rattle.lines.specs.Lines.{eight_bytes}
use Rattle.lines.proofs.Puts.{line_for_length}
use Rattle.reads.specs.declared.Note.{Note}
use Rattle.reads.specs.declared.Note.TheVariants.{Nothing, Code, Cut, Interrupt, Differs}
use Rattle.reads.specs.Notes.{note_line}

pub note_length : (k : ℕ) (note : Note) → length (note_line k note) ≤ 19
note_length k Nothing = omega arith
note_length k (Code code) = omega (arith, line_for_length (0x16 ∷ k ∷ code ∷ []))
note_length k Cut = omega (arith, line_for_length (0x17 ∷ k ∷ []))
note_length k Interrupt = omega (arith, line_for_length (0x18 ∷ k ∷ []))
note_length k (Differs offset) = omega (arith, line_for_length (0x15 ∷ eight_bytes offset))
