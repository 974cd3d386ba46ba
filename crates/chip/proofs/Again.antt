-- Question 2, worked: a long press broken by one empty scan records once, and what lets the same key be recorded again; and what each
-- scan records where keys follow one another.
--     broken_press_records_once  a long press broken by one empty scan records once
--     second_after_two_empties   two empty scans in a row let the same key be recorded again
--     second_after_keyb_off      so do KEYB 0, KEYB 1 and an empty scan
--     second_after_waking        so do sleep, waking by the key's contact and an empty scan
--     second_after_reset         so does a reset
--     over_the_unread            a second key before the first is read is recorded over it
--     after_the_read             after the first is read it isn't
--     same_key_unread            the same key let go and pressed again, still unread, is recorded over itself; its release is noted once
-- Assumes nothing.
use mathlib.Core.Path.{◌≡◌, refl}
use mathlib.Core.Bool.{Bool, true, false}
use mathlib.Core.List.{List, [], ◌∷◌}
use Prim.Native.Nat.{ℕ}
use Rattle.word.specs.declared.Command.TheVariants.{Reset, Sleep, SystemParameters, ReadKey}
use Rattle.chip.specs.Record.{reset_chip}
use Rattle.chip.specs.Commands.{applied, obey, reset, system, read_key}
use Rattle.chip.specs.Scans.{Recording, nothing, key_code, over_unread, release_noted, first_closed, result, code_of, scanned_by, recorded_by}
use Rattle.chip.specs.History.{Step, told, scan, records_of, times}

-- system parameters with KEYB on or off
abbrev keypad : Bool → Step
keypad on = told (SystemParameters (record { intm = false; sspd = false; dplr = false; keyb = on; disp = true }))

-- an empty scan
abbrev empty : Step
empty = scan (0 ∷ 0 ∷ 0 ∷ 0 ∷ 0 ∷ 0 ∷ 0 ∷ 0 ∷ [])

-- a scan that finds the key of DIG3 and SEG1, address 0BH
abbrev key : Step
key = scan (0 ∷ 0 ∷ 0 ∷ 0x02 ∷ 0 ∷ 0 ∷ 0 ∷ 0 ∷ [])

-- how often a history that starts with KEYB 1 records that key
abbrev recorded_in : List Step → ℕ
recorded_in h = times (code_of 0x0B) (keypad true ∷ h) reset_chip

pub broken_press_records_once : recorded_in (key ∷ key ∷ key ∷ empty ∷ key ∷ key ∷ key ∷ []) ≡ 1
unfolding applied obey system scanned_by recorded_by result first_closed
broken_press_records_once = refl

pub second_after_two_empties : recorded_in (key ∷ key ∷ empty ∷ empty ∷ key ∷ key ∷ []) ≡ 2
unfolding applied obey system scanned_by recorded_by result first_closed
second_after_two_empties = refl

pub second_after_keyb_off : recorded_in (key ∷ key ∷ keypad false ∷ keypad true ∷ empty ∷ key ∷ key ∷ []) ≡ 2
unfolding applied obey system scanned_by recorded_by result first_closed
second_after_keyb_off = refl

pub second_after_waking : recorded_in (key ∷ key ∷ told Sleep ∷ key ∷ empty ∷ key ∷ key ∷ []) ≡ 2
unfolding applied obey system scanned_by recorded_by result first_closed
second_after_waking = refl

pub second_after_reset : recorded_in (key ∷ key ∷ told Reset ∷ keypad true ∷ key ∷ key ∷ []) ≡ 2
unfolding applied obey reset system scanned_by recorded_by result first_closed
second_after_reset = refl

-- ---- what each scan records

-- a scan that finds the key of DIG4 and SEG1, address 0CH
abbrev other : Step
other = scan (0 ∷ 0 ∷ 0 ∷ 0 ∷ 0x02 ∷ 0 ∷ 0 ∷ 0 ∷ [])

-- the records of a history that starts with KEYB 1
abbrev records : List Step → List Recording
records h = records_of (keypad true ∷ h) reset_chip

pub over_the_unread : records (key ∷ key ∷ other ∷ other ∷ []) ≡ nothing ∷ key_code 0x4B ∷ nothing ∷ over_unread 0x4C ∷ []
unfolding applied obey system scanned_by recorded_by result first_closed
over_the_unread = refl

pub after_the_read : records (key ∷ key ∷ told ReadKey ∷ other ∷ other ∷ []) ≡ nothing ∷ key_code 0x4B ∷ nothing ∷ key_code 0x4C ∷ []
unfolding applied obey system read_key scanned_by recorded_by result first_closed
after_the_read = refl

pub same_key_unread : records (key ∷ key ∷ empty ∷ empty ∷ empty ∷ key ∷ key ∷ []) ≡ nothing ∷ key_code 0x4B ∷ nothing ∷ release_noted ∷ nothing ∷ nothing ∷ over_unread 0x4B ∷ []
unfolding applied obey system scanned_by recorded_by result first_closed
same_key_unread = refl
