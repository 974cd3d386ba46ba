-- "Applied directly", by the entries of one chip: a history's commands by calls of `chip::apply` and its scans by calls of `chip::scan`.
-- Assumes nothing.
use Rattle.std.specs.Prelude.{◌≡◌, List, [], ◌∷◌, ℕ}
use Rattle.base.specs.Refusals.{IsDone, handed}
use Rattle.word.specs.declared.Command.{Command}
use Rattle.chip.specs.declared.Chip.{Chip}
use Rattle.chip.specs.Entries.{applied_of, handed_scan, scanned_of}
use Rattle.chip.specs.History.{Step, told, scan, after}
use Rattle.base.specs.declared.Handed.{Handed}
use Rattle.chip.specs.declared.Recorded.{Recorded}

-- results of calls, one for each step, each as the contract of its entry allows it for the chip that the call before handed back
pub data Directly : Chip → List Step → Chip → Type 0 where
  over : {c : Chip} → Directly c [] c
  applied : {c end : Chip} {command : Command} {steps : List Step} (r : Handed Chip (Unit {0}))
      → handed r ≡ applied_of c command
      → Directly r.value steps end
      → Directly c (told command ∷ steps) end
  scanned : {c end : Chip} {bytes : List ℕ} {steps : List Step} (r : Handed Chip Recorded)
      → handed_scan r ≡ scanned_of c bytes
      → Directly r.value steps end
      → Directly c (scan bytes ∷ steps) end

-- no call was refused
abbrev pub EachAccepted : {c end : Chip} {steps : List Step} → Directly c steps end → Type 0
EachAccepted over = Unit {0}
EachAccepted (applied r contract next) = IsDone (handed r).told × EachAccepted next
EachAccepted (scanned r contract next) = IsDone (handed_scan r).told × EachAccepted next

-- the entries accept every step, and hand back what the definitions say; and such calls have results
pub record AcceptedDirectly (c : Chip) (steps : List Step) : Type 0 where
  pub accepted : (end : Chip) (calls : Directly c steps end) → EachAccepted calls × (end ≡ after steps c)
  pub some : (end : Chip) × Directly c steps end
