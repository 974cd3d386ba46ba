-- Question 2, to its end: how many read words find an interrupt while one key is pressed.
--     recorded_times        where scans find key a or none, the codes recorded are a's
--     read_few              a chip without an interrupt: no more read words find one than codes were recorded
--     one_read_lem              while no reset comes and the result stays one key, at most one read word finds an interrupt
--     one_read_broken       so it is where single empty scans break the press and nothing but scans sets the last scan
-- Assumes nothing.
use mathlib.Core.Path.{◌≡◌, refl, ap, ap₂, sym, ◌∙◌}
use mathlib.Core.Bool.{false, true}
use mathlib.Core.Logic.{◌⊎◌, inl, ⊎_elim}
use mathlib.Core.List.{List, [], ◌∷◌}
use Prim.Native.Nat.{ℕ, ◌+◌, ◌≤◌, ◌<◌}
use native.Mathlib.Omega.{arith}
use borrow.Author.Tests.{eq-eqb}
use Rattle.base.specs.Bits.{bit_value}
use Rattle.chip.specs.declared.Chip.{Chip}
use Rattle.chip.specs.Record.{none}
use Rattle.chip.specs.Commands.{applied}
use Rattle.chip.specs.Scans.{Recording, nothing, key_code, over_unread, release_noted, result, code_of, scanned, recorded}
use Rattle.chip.specs.History.{Step, told, scan, is_key, times, results_of, Each, NoReset, OneKey, Undisturbed, BrokenPress}
use Rattle.chip.proofs.OneScan.{new_key_lem, recorded_new}
use Rattle.chip.proofs.Once.{once, once_broken}
use Rattle.tallies.specs.Counts.{record_counts, counts_of}
use Rattle.tallies.specs.Balance.{standing}
use Rattle.tallies.proofs.Balance.{balance}
use Rattle.tallies.proofs.Sums.{command_records, none_more}

-- ---- the codes recorded are the key's

-- a record of no other code than one counts for that code
counts_so : (code : ℕ) (what : Recording) → ((other : ℕ) → is_key other what ≡ true → other ≡ code)
    → (record_counts what).recorded ≡ bit_value (is_key code what)
counts_so code nothing only = refl
counts_so code (key_code other) only = sym (ap bit_value (eq-eqb other code (only other (eq-eqb other other refl))))
counts_so code (over_unread other) only = sym (ap bit_value (eq-eqb other code (only other (eq-eqb other other refl))))
counts_so code release_noted only = refl

module _ (a : ℕ) (P : ℕ → Type 0) (found : (r : ℕ) → P r → (r ≡ a) ⊎ (r ≡ none)) where
  -- a scan that finds a, or none, records no other code
  scan_counts : (bytes : List ℕ) (c : Chip) → P (result bytes) → (record_counts (recorded bytes c)).recorded ≡ bit_value (is_key (code_of a) (recorded bytes c))
  scan_counts bytes c p =
      counts_so (code_of a) (recorded bytes c)
      (λ other e.
      let new = recorded_new other (result bytes) c e in
      sym new.3 ∙ ap code_of (⊎_elim (λ same. same) (λ empty. absurd ((new_key_lem (result bytes) c.keys new.2).1 empty)) (found (result bytes) p)))

  pub recorded_times : (h : List Step) (c : Chip) → Each P (results_of h) → (counts_of h c).recorded ≡ times (code_of a) h c
  unfolding counts_of
  recorded_times [] c p = refl
  recorded_times (told command ∷ h) c p =
      sym (none_more _ (command_records command c.settings.system.keyb c.keys.interrupt) (sym (recorded_times h (applied command c) p)))
  recorded_times (scan bytes ∷ h) c p = ap₂ ◌+◌ (scan_counts bytes c p.0) (recorded_times h (scanned bytes c) p.1)

-- ---- read words

pub read_few : (h : List Step) (c : Chip) → c.keys.interrupt ≡ false → (counts_of h c).read ≤ (counts_of h c).recorded
read_few h c free =
    let z : standing c ≡ 0 = ap bit_value free in
    let b = balance h c in
    omega arith

few : {read recorded times : ℕ} → read ≤ recorded → recorded ≡ times → times ≤ 1 → read ≤ 1
few p e l = omega arith

pub one_read_lem : (a : ℕ) → a < none → (h : List Step) → NoReset h → OneKey a h → (c : Chip) → c.keys.interrupt ≡ false → (counts_of h c).read ≤ 1
one_read_lem a small h n k c free = few (read_few h c free) (recorded_times a (λ r. r ≡ a) (λ r. inl) h c k) (once a small h n k c)

pub one_read_broken : (a : ℕ) → a < none → (h : List Step) → Undisturbed h → BrokenPress a h → (c : Chip) → c.keys.interrupt ≡ false
    → (counts_of h c).read ≤ 1
one_read_broken a small h u b c free =
    few (read_few h c free) (recorded_times a (λ r. (r ≡ a) ⊎ (r ≡ none)) (λ r p. p) h c b.0) (once_broken a small h u b c)
