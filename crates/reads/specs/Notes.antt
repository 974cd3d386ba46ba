-- What a look at the last chip's DOUT tells, as a line of `watch`; chip is N - 1.
-- Assumes nothing.
use Rattle.std.specs.Prelude.{ℕ, List, [], ◌∷◌}
use Rattle.lines.specs.Lines.{line_for, eight_bytes}
use Rattle.reads.specs.declared.Note.{Note}
use Rattle.reads.specs.declared.Note.TheVariants.{Nothing, Code, Cut, Interrupt, Differs}

-- 16 chip code: a code was read; 17 chip: a readout was cut; 18 chip: an interrupt was seen; 15 and a sample's offset in eight bytes: the
-- model and the panel disagree, or a wire is on the wrong pin
abbrev pub note_line : ℕ → Note → List ℕ
note_line k Nothing = []
note_line k (Code code) = line_for (0x16 ∷ k ∷ code ∷ [])
note_line k Cut = line_for (0x17 ∷ k ∷ [])
note_line k Interrupt = line_for (0x18 ∷ k ∷ [])
note_line k (Differs offset) = line_for (0x15 ∷ eight_bytes offset)
