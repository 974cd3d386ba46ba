-- Document 02, C-16: a settings text read. Refusal 14 is decided by the first four characters alone; then 15, with the first line that
-- isn't of the form: lines from the first on.
-- Assumes nothing.
use Rattle.std.specs.Prelude.{ℕ, zero, suc, ◌+◌, Bool, not, ◌&&◌, List, [], ◌∷◌, eqb, leb, ltb, length, get_or, set, take}
use Rattle.base.specs.Bits.{cut, bit}
use Rattle.base.specs.Pick.{pick}
use Rattle.base.specs.Refusals.{Told, done, refused, Outcome, hands_back}
use Rattle.word.specs.declared.Display.{Display}
use Rattle.word.specs.declared.System.{System}
use Rattle.chain.specs.Chain.{chip_count}
use Rattle.lines.specs.Lines.{Line, ended, lines_of, bytes_in}
use Rattle.settings.specs.declared.Kept.{Kept}
use Rattle.settings.specs.declared.Kiosk.{Kiosk}
use Rattle.settings.specs.Settings.{newest, version_for, no_kepts, no_kiosk}

-- ---- the version

-- the second of two bytes whose first is 20; 0 where there are none such
abbrev pub version_by : List ℕ → ℕ
version_by bytes = pick (eqb (get_or bytes 0 0) 0x20) (get_or bytes 1 0) 0

-- the version that the first four characters give: 20, then two upper-case digits
unfoldable pub version_in : List ℕ → ℕ
version_in text = version_by (bytes_in (ended (take 4 text)))

-- ---- the frames

-- the first line: 20, the version of N chips, N; N is 1 to 8
unfoldable pub is_first : List ℕ → Bool
is_first bytes =
    eqb (length bytes) 3 && eqb (get_or bytes 0 0) 0x20 && chip_count (get_or bytes 2 0) && eqb (get_or bytes 1 0) (version_for (get_or bytes 2 0))

-- no bit outside its field is set: bits 7, 6 and 2 of a system byte, a display byte above 0FH, a custom byte above 7FH
abbrev pub in_fields : ℕ → ℕ → ℕ → Bool
in_fields system display custom = eqb (cut system 6 2) 0 && not (bit system 2) && leb display 0x0F && leb custom 0x7F

-- the line of chip k: 21, chip, and four bytes
unfoldable pub is_chip : ℕ → List ℕ → Bool
is_chip k bytes =
    eqb (length bytes) 6 && eqb (get_or bytes 0 0) 0x21 && eqb (get_or bytes 1 0) k
    && in_fields (get_or bytes 2 0) (get_or bytes 3 0) (get_or bytes 5 0)

-- the bits 0 0 INTM SSPD DPLR 0 KEYB DISP
abbrev pub system_in : ℕ → System
system_in byte = record { intm = bit byte 5; sspd = bit byte 4; dplr = bit byte 3; keyb = bit byte 1; disp = bit byte 0 }

-- MODE·8 + LIMIT
abbrev pub display_in : ℕ → Display
display_in byte = record { mode = bit byte 3; limit = cut byte 0 3 }

-- settings of a system, a display, a blink and a custom byte
abbrev pub kept_from : ℕ → ℕ → ℕ → ℕ → Kept
kept_from system display blink custom =
    record { system = system_in system; display = display_in display; blink = blink; custom = custom }

-- the settings that a chip's line gives
abbrev pub kept_by : List ℕ → Kept
kept_by bytes = kept_from (get_or bytes 2 0) (get_or bytes 3 0) (get_or bytes 4 0) (get_or bytes 5 0)

-- ---- the lines

-- the lines of the chips that are left, from chip k on, each put at its place, and no line more; a text's lines are numbered from 1, so
-- chip k's is k + 2
unfoldable pub chips_from : ℕ → ℕ → List Kept → List Line → Told (List Kept)
chips_from zero k kept [] = done kept
chips_from zero k kept (l ∷ ls) = refused 15 (k + 2)
chips_from (suc left) k kept [] = refused 15 (k + 2)
chips_from (suc left) k kept (l ∷ ls) =
    pick (is_chip k (bytes_in l)) (chips_from left (suc k) (set kept k (kept_by (bytes_in l))) ls) (refused 15 (k + 2))

-- settings of N chips, or zeros
abbrev pub kiosk_by : ℕ → Told (List Kept) → Outcome Kiosk (Unit {0})
kiosk_by n (done kept) = record { state = record { n = n; chips = kept }; told = done tt }
kiosk_by n (refused number place) = hands_back no_kiosk number place

-- all lines; the first missing is refused as a line that isn't of the form
abbrev pub lines_read : List Line → Outcome Kiosk (Unit {0})
lines_read [] = hands_back no_kiosk 15 1
lines_read (l ∷ ls) =
    let n = get_or (bytes_in l) 2 0 in
    pick (is_first (bytes_in l)) (kiosk_by n (chips_from n 0 no_kepts ls)) (hands_back no_kiosk 15 1)

-- a text: 14, naming the version, before 15
unfoldable pub read_of : List ℕ → Outcome Kiosk (Unit {0})
read_of text = pick (ltb newest (version_in text)) (hands_back no_kiosk 14 (version_in text)) (lines_read (lines_of text))

-- ---- the entry
