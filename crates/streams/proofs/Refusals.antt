-- How long refusals are.
--     raw_refusal_length     of a raw stream
-- Assumes nothing.
use Rattle.std.proofs.Common.{◌≡◌, ℕ, ◌∷◌, length}
use Rattle.lines.proofs.Puts.{line_for_length}
use Rattle.lines.specs.Lines.{eight_bytes}
use Rattle.streams.specs.Raw.{raw_refusal}

pub raw_refusal_length : (offset : ℕ) → length (raw_refusal offset) ≡ 21
raw_refusal_length offset = line_for_length (0x1F ∷ 0x0A ∷ eight_bytes offset)
