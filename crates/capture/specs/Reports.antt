-- Document 01, "Capture text": what is written at a LOAD rise, at a scan and at a refusal. There are two reports over one walk:
-- `Words`, the one of document 01, and `Screen`, the segments lit.
-- Assumes nothing.
use Rattle.std.specs.Prelude.{ℕ, suc, Bool, true, false, ◌&&◌, List, [], ◌∷◌, ◌++◌, eqb, take}
use Rattle.base.specs.Bits.{cut}
use Rattle.base.specs.Pick.{pick}
use Rattle.chip.specs.declared.Chip.{Chip}
use Rattle.chip.specs.Scans.{Recording, nothing, key_code, over_unread, release_noted, ScanLeaves, scan_leaves}
use Rattle.chip.specs.Segments.{lit_of}
use Rattle.chain.specs.declared.Chain.{Chain}
use Rattle.lines.specs.Lines.{line_for, four_bytes}
use Rattle.capture.specs.declared.Report.{Report}
use Rattle.capture.specs.declared.Report.TheVariants.{Words, Screen}

-- the segments lit of a chip: 30, chip, eight bytes, DIG0 first
abbrev pub screen_line : ℕ → Chip → List ℕ
screen_line k c = line_for (0x30 ∷ k ∷ lit_of c)

-- of a chip after a LOAD rise: 10, chip, word, high byte first; the word is the register, which the rise obeyed
abbrev pub rise_line : Report → ℕ → Chip → List ℕ
rise_line Words k c = line_for (0x10 ∷ k ∷ cut c.line.register 8 8 ∷ cut c.line.register 0 8 ∷ [])
rise_line Screen k c = screen_line k c

-- of chips from a number up
unfoldable pub rise_lines : Report → ℕ → List Chip → List ℕ
rise_lines what k [] = []
rise_lines what k (c ∷ cs) = rise_line what k c ++ rise_lines what (suc k) cs

-- of a chain after a LOAD rise: each chip from 0 up
abbrev pub at_rise : Report → ℕ → Chain → List ℕ
at_rise what n ch = rise_lines what 0 (take n ch.chips)

-- a recorded key: 11, chip, code; 12 in place of 11 where an unread code was overwritten; a release writes no line
abbrev pub key_line : ℕ → Recording → List ℕ
key_line k nothing = []
key_line k (key_code code) = line_for (0x11 ∷ k ∷ code ∷ [])
key_line k (over_unread code) = line_for (0x12 ∷ k ∷ code ∷ [])
key_line k release_noted = []

-- lists of bytes are the same
unfoldable pub same_bytes : List ℕ → List ℕ → Bool
same_bytes [] [] = true
same_bytes [] (y ∷ ys) = false
same_bytes (x ∷ xs) [] = false
same_bytes (x ∷ xs) (y ∷ ys) = eqb x y && same_bytes xs ys

-- of a chip before a scan and what the scan took: the key recorded; or its segments lit, where they differ from those before
abbrev pub scan_line : Report → ℕ → Chip → ScanLeaves → List ℕ
scan_line Words k c t = key_line k t.recorded
scan_line Screen k c t = pick (same_bytes (lit_of c) (lit_of t.chip)) [] (screen_line k t.chip)

-- of a scan of a chip
abbrev pub at_scan : Report → ℕ → List ℕ → Chip → List ℕ
at_scan what k bytes c = scan_line what k c (scan_leaves bytes c)

-- a refusal: 1F, number, the line's number in four bytes
abbrev pub refusal_line : ℕ → ℕ → List ℕ
refusal_line number line = line_for (0x1F ∷ number ∷ four_bytes line)
