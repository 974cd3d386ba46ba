-- Histories of one chip: commands applied directly and scans, one after another; what they record, and what a press of one key is.
-- Assumes nothing.
use Rattle.std.specs.Prelude.{◌≡◌, Bool, true, false, List, [], ◌∷◌, ◌⊎◌, ℕ, ◌+◌, eqb}
use Rattle.base.specs.Bits.{bit_value}
use Rattle.word.specs.declared.System.{System}
use Rattle.word.specs.declared.Command.{Command}
use Rattle.word.specs.declared.Command.TheVariants.{Reset, Sleep, SystemParameters}
use Rattle.chip.specs.declared.Chip.{Chip}
use Rattle.chip.specs.Record.{none}
use Rattle.chip.specs.Commands.{applied}
use Rattle.chip.specs.Scans.{Recording, nothing, key_code, over_unread, release_noted, result, scanned, recorded}

-- one step: a command applied directly, or a scan with eight bytes
pub data Step : Type 0 where
  told : Command → Step
  scan : List ℕ → Step

-- the chip after a history
abbrev pub after : List Step → Chip → Chip
after [] c = c
after (told command ∷ h) c = after h (applied command c)
after (scan bytes ∷ h) c = after h (scanned bytes c)

-- what each scan of a history recorded, in order; commands record nothing
abbrev pub records_of : List Step → Chip → List Recording
records_of [] c = []
records_of (told command ∷ h) c = records_of h (applied command c)
records_of (scan bytes ∷ h) c = recorded bytes c ∷ records_of h (scanned bytes c)

-- whether a scan recorded a code, over an unread one or not
abbrev pub is_key : ℕ → Recording → Bool
is_key code nothing = false
is_key code (key_code k) = eqb k code
is_key code (over_unread k) = eqb k code
is_key code release_noted = false

-- how many of the records are a code's
abbrev pub count_of : ℕ → List Recording → ℕ
count_of code [] = 0
count_of code (what ∷ rest) = bit_value (is_key code what) + count_of code rest

-- how many times a history records a code
abbrev pub times : ℕ → List Step → Chip → ℕ
times code h c = count_of code (records_of h c)

-- ---- premises

-- every command of a history is such a one
abbrev pub EachTold : (Command → Type 0) → List Step → Type 0
EachTold P [] = Unit {0}
EachTold P (told command ∷ h) = P command × EachTold P h
EachTold P (scan bytes ∷ h) = EachTold P h

-- the results of a history's scans, in order
abbrev pub results_of : List Step → List ℕ
results_of [] = []
results_of (told command ∷ h) = results_of h
results_of (scan bytes ∷ h) = result bytes ∷ results_of h

-- every one of the results is such a one
abbrev pub Each : (ℕ → Type 0) → List ℕ → Type 0
Each P [] = Unit {0}
Each P (r ∷ rs) = P r × Each P rs

-- no reset comes
abbrev pub NoReset : List Step → Type 0
NoReset h = EachTold (λ command. command ≡ Reset → ⊥) h

-- the result stays one key
abbrev pub OneKey : ℕ → List Step → Type 0
OneKey a h = Each (λ r. r ≡ a) (results_of h)

-- a command that leaves the last scan to scans: no reset, no sleep, no system parameters with KEYB 0
abbrev pub Undisturbing : Command → Type 0
Undisturbing command = (command ≡ Reset → ⊥) × (command ≡ Sleep → ⊥) × ((s : System) → command ≡ SystemParameters s → s.keyb ≡ true)

-- nothing but scans sets the last scan
abbrev pub Undisturbed : List Step → Type 0
Undisturbed h = EachTold Undisturbing h

-- the first of the results, if there is one, is not none
abbrev pub FirstClosed : List ℕ → Type 0
FirstClosed [] = Unit {0}
FirstClosed (r ∷ rs) = r ≡ none → ⊥

-- after an empty scan comes one that isn't empty: no two results in a row are none
abbrev pub SingleEmpties : List ℕ → Type 0
SingleEmpties [] = Unit {0}
SingleEmpties (r ∷ rs) = (r ≡ none → FirstClosed rs) × SingleEmpties rs

-- a press of one key, broken by single empty scans
abbrev pub BrokenPress : ℕ → List Step → Type 0
BrokenPress a h = Each (λ r. (r ≡ a) ⊎ (r ≡ none)) (results_of h) × SingleEmpties (results_of h)
