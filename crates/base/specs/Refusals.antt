-- Document 01, "Refusal numbers": the number of each refusal, the place that it names, and zero where it names none.
-- Assumes nothing.
use Rattle.std.specs.Prelude.{ℕ}
use Rattle.base.specs.declared.Refusal.{Refusal}
use Rattle.base.specs.declared.Handed.{Handed}
use Rattle.base.specs.declared.Refusal.TheVariants.{Sample, ScanChip, ChipCount, PartRow, Rows, Unlisted, Keypad, Room, Field, Line, Text, Record, LitSleep, Version, Setting, Count}
use Rattle.std.specs.declared.result.Result.{Result}
use Rattle.std.specs.declared.result.Result.TheVariants.{Ok, Err}

-- what an entry tells its caller: the answer, or a refusal's number and place
pub data Told {ℓ} (A : Type ℓ) : Type ℓ where
  done : A → Told A
  refused : ℕ → ℕ → Told A

-- what was told is an answer, and no refusal
abbrev pub IsDone {ℓ} : {A : Type ℓ} → Told A → Type 0
IsDone (done answer) = Unit {0}
IsDone (refused number place) = ⊥

-- document 01's number
abbrev pub number_of : Refusal → ℕ
number_of (Sample place) = 1
number_of ScanChip = 2
number_of ChipCount = 3
number_of PartRow = 4
number_of Rows = 5
number_of (Unlisted place) = 6
number_of (Keypad place) = 7
number_of Room = 8
number_of (Field place) = 9
number_of (Line place) = 10
number_of Text = 11
number_of Record = 12
number_of (LitSleep place) = 13
number_of (Version place) = 14
number_of (Setting place) = 15
number_of (Count place) = 16

-- the named place, or 0
abbrev pub place_of : Refusal → ℕ
place_of (Sample place) = place
place_of ScanChip = 0
place_of ChipCount = 0
place_of PartRow = 0
place_of Rows = 0
place_of (Unlisted place) = place
place_of (Keypad place) = place
place_of Room = 0
place_of (Field place) = place
place_of (Line place) = place
place_of Text = 0
place_of Record = 0
place_of (LitSleep place) = place
place_of (Version place) = place
place_of (Setting place) = place
place_of (Count place) = place

-- a refusal, told by its number and place
abbrev pub refused_by {ℓ} : {A : Type ℓ} → Refusal → Told A
refused_by e = refused (number_of e) (place_of e)

-- what an answer tells: its value, or the number and the place of the refusal
abbrev pub tells : {A : Type 0} → Result A Refusal → Told A
tells (Ok answer) = done answer
tells (Err e) = refused_by e

-- a value that an entry hands back, and what it tells
pub record Outcome (S A : Type 0) : Type 0 where
  pub state : S
  pub told : Told A

-- what an entry hands back, and what its answer tells
abbrev pub handed : {S A : Type 0} → Handed S A → Outcome S A
handed r = record { state = r.value; told = tells r.answer }

-- a refusal, with the value as it was given (zeros where none was given)
abbrev pub hands_back : {S A : Type 0} → S → ℕ → ℕ → Outcome S A
hands_back s number place = record { state = s; told = refused number place }

-- what a test that was passed leads to; one that was not hands back what is given for that: the state, or zeros
abbrev pub once_tested : {S A : Type 0} → Told (Unit {0}) → S → Outcome S A → Outcome S A
once_tested (done u) given next = next
once_tested (refused number place) given next = hands_back given number place

-- two tests, one after the other: the refusal is that of the first that isn't passed
abbrev pub then_tested : Told (Unit {0}) → Told (Unit {0}) → Told (Unit {0})
then_tested (done u) next = next
then_tested (refused number place) next = refused number place
