-- Document 01, "Cases": what P1 to P8 say of words.
-- Assumes nothing.
use Rattle.std.specs.Prelude.{◌≡◌, true, false, List, [], ◌∷◌}
use Rattle.base.specs.Refusals.{done, refused}
use Rattle.word.specs.Words.{decoded_of}
use Rattle.word.specs.declared.Command.TheVariants.{BarLevel, SegmentClear, SegmentSet, Reset, SystemParameters, DisplayParameters, LoadDigit}

abbrev pub word_cases : List (Type 0)
word_cases =
    -- P1: 201H is reset
    (decoded_of 0x201 ≡ done Reset)
    -- P2: A79H loads 79H in DIG2
    ∷ (decoded_of 0xA79 ≡ done (LoadDigit 2 0x79))
    -- P3: 1BAH clears DIG2 SEG7, address 3AH
    ∷ (decoded_of 0x1BA ≡ done (SegmentClear 0x3A))
    -- P4: 1C6H sets DIG6 SEG0, address 06H
    ∷ (decoded_of 0x1C6 ≡ done (SegmentSet 0x06))
    -- P5: 109H is bar level 9
    ∷ (decoded_of 0x109 ≡ done (BarLevel 9))
    -- P6: 140H is bar level 64; 141H is bar level 65
    ∷ (decoded_of 0x140 ≡ done (BarLevel 64))
    ∷ (decoded_of 0x141 ≡ done (BarLevel 65))
    -- P7: 404H is unlisted; 403H is listed
    ∷ (decoded_of 0x404 ≡ refused 6 0)
    ∷ (decoded_of 0x403 ≡ done (SystemParameters (record { intm = false; sspd = false; dplr = false; keyb = true; disp = true })))
    -- P8: 590H is BCD with limit 1
    ∷ (decoded_of 0x590 ≡ done (DisplayParameters (record { mode = true; limit = 1 })))
    ∷ []
