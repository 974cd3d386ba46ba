-- Question 2: how often a key is recorded.
--     once           while no reset comes and the result stays one key, that key is recorded at most once
--     once_broken    so it is where single empty scans break the press and nothing but scans sets the last scan
-- Assumes nothing.
use mathlib.Core.Path.{◌≡◌, refl, ap, sym, subst, ◌∙◌}
use mathlib.Core.Bool.{Bool, true, false, false≢true}
use mathlib.Core.List.{List, [], ◌∷◌}
use mathlib.Core.Logic.{⊎_elim}
use Prim.Native.Nat.{ℕ, ◌+◌, ◌≤◌, ◌<◌}
use native.Mathlib.Omega.{arith}
use Rattle.base.specs.Bits.{bit_value}
use Rattle.base.proofs.Picks.{pick_yes, pick_cases}
use Rattle.word.specs.declared.Command.{Command}
use Rattle.word.specs.declared.Command.TheVariants.{NoOperation, BarLevel, SegmentClear, SegmentSet, Reset, Sleep, ShiftLeft, ShiftRight, RotateLeft, RotateRight, CustomCharacter, SystemParameters, DisplayParameters, BlinkByte, ReadKey, LoadDigit}
use Rattle.chip.specs.declared.Chip.{Chip}
use Rattle.chip.specs.Record.{none}
use Rattle.chip.specs.Commands.{applied, obey, system, read_key, woken}
use Rattle.chip.specs.Scans.{result, code_of, new_key, both_none, scanned, recorded}
use Rattle.chip.specs.History.{Step, told, scan, is_key, times, NoReset, OneKey, Undisturbing, Undisturbed, results_of, FirstClosed, BrokenPress}
use Rattle.chip.proofs.Quiet.{obey_keys}
use Rattle.chip.proofs.OneScan.{scanned_on, recorded_new, not_recorded, keyed_code, scanned_code, held_not_new, none_not_new, address_not_none, last_not_none}

-- ---- at most once, in general

-- A premise on histories that what is left of a history keeps, and what holds of a chip and what is left once the code has been
-- recorded: if it begins with the record, each step keeps it and no scan records the code under it, the code is recorded once.
module _ (code : ℕ) (P : List Step → Type 0) (Held : List Step → Chip → Type 0)
    (rest : (s : Step) (h : List Step) → P (s ∷ h) → P h)
    (begins : (bytes : List ℕ) (h : List Step) (c : Chip) → P (scan bytes ∷ h) → is_key code (recorded bytes c) ≡ true → Held h (scanned bytes c))
    (commands : (command : Command) (h : List Step) (c : Chip) → P (told command ∷ h) → Held (told command ∷ h) c → Held h (applied command c))
    (scans : (bytes : List ℕ) (h : List Step) (c : Chip) → P (scan bytes ∷ h) → Held (scan bytes ∷ h) c
    → (is_key code (recorded bytes c) ≡ false) × Held h (scanned bytes c)) where
  -- nothing more once it is held
  no_more : (h : List Step) (c : Chip) → P h → Held h c → times code h c ≡ 0
  no_more [] c p held = refl
  no_more (told command ∷ h) c p held = no_more h (applied command c) (rest (told command) h p) (commands command h c p held)
  no_more (scan bytes ∷ h) c p held =
      let s = scans bytes h c p held in
      let e : bit_value (is_key code (recorded bytes c)) ≡ 0 = ap bit_value s.0 in
      let f = no_more h (scanned bytes c) (rest (scan bytes) h p) s.1 in
      omega arith

  at_most_once : (h : List Step) (c : Chip) → P h → times code h c ≤ 1
  at_most_once [] c p = omega arith
  at_most_once (told command ∷ h) c p = at_most_once h (applied command c) (rest (told command) h p)
  at_most_once (scan bytes ∷ h) c p =
      by_test (is_key code (recorded bytes c)) refl (at_most_once h (scanned bytes c) (rest (scan bytes) h p))
    where
      by_test : (t : Bool) → is_key code (recorded bytes c) ≡ t → times code h (scanned bytes c) ≤ 1
          → bit_value t + times code h (scanned bytes c) ≤ 1
      by_test true e l =
          let f = no_more h (scanned bytes c) (rest (scan bytes) h p) (begins bytes h c p e) in
          omega arith
      by_test false e l = omega arith

-- ---- a code that is held

-- a command other than reset, applied directly, leaves the code as it is
applied_code : (command : Command) (c : Chip) → (command ≡ Reset → ⊥) → (applied command c).keys.code ≡ c.keys.code
unfolding applied
applied_code command c n = obey_keys (λ k. k.code ≡ c.keys.code) command (woken c) refl (λ e. absurd (n e)) (λ last. refl)

-- ---- the result stays one key

pub once : (a : ℕ) → a < none → (h : List Step) → NoReset h → OneKey a h → (c : Chip) → times (code_of a) h c ≤ 1
once a small h n k c =
    at_most_once (code_of a) (λ g. NoReset g × OneKey a g) (λ g d. d.keys.code ≡ code_of a) rest begins
    (λ command g d p held. applied_code command d p.0.0 ∙ held)
    scans
    h c (n, k)
  where
    rest : (s : Step) (g : List Step) → NoReset (s ∷ g) × OneKey a (s ∷ g) → NoReset g × OneKey a g
    rest (told command) g p = (p.0.1, p.1)
    rest (scan bytes) g p = (p.0, p.1.1)

    begins : (bytes : List ℕ) (g : List Step) (d : Chip) → NoReset (scan bytes ∷ g) × OneKey a (scan bytes ∷ g)
        → is_key (code_of a) (recorded bytes d) ≡ true → (scanned bytes d).keys.code ≡ code_of a
    begins bytes g d p e =
        let f = recorded_new (code_of a) (result bytes) d e in
        ap (λ (x : Chip). x.keys.code) (scanned_on (result bytes) d f.0 f.1) ∙ pick_yes _ _ f.2 ∙ f.3

    scans : (bytes : List ℕ) (g : List Step) (d : Chip) → NoReset (scan bytes ∷ g) × OneKey a (scan bytes ∷ g) → d.keys.code ≡ code_of a
        → (is_key (code_of a) (recorded bytes d) ≡ false) × ((scanned bytes d).keys.code ≡ code_of a)
    scans bytes g d p held =
        let n = held_not_new (result bytes) d.keys (held ∙ ap code_of (sym p.1.0)) in
        let l : result bytes < none = omega arith in
        (not_recorded (code_of a) (result bytes) d n, scanned_code (result bytes) d n (address_not_none (result bytes) d.keys l) ∙ held)

-- ---- single empty scans break the press

-- what a command leaves where nothing but scans sets the last scan
abbrev Kept : Chip → Chip → Type 0
Kept c d =
    record {
      code : d.keys.code ≡ c.keys.code;
      last : d.keys.last ≡ c.keys.last;
      awake : d.settings.sleeping ≡ false;
      keyb : d.settings.system.keyb ≡ true;
    }

-- what such a command does to a chip that is awake with KEYB on
obey_kept : (command : Command) (c : Chip) → Undisturbing command → Kept c c → Kept c (obey command c)
unfolding obey system read_key
obey_kept NoOperation c u v = v
obey_kept (BarLevel level) c u v = v
obey_kept (SegmentClear addr) c u v = v
obey_kept (SegmentSet addr) c u v = v
obey_kept Reset c u v = absurd (u.0 refl)
obey_kept Sleep c u v = absurd (u.1 refl)
obey_kept ShiftLeft c u v = v
obey_kept ShiftRight c u v = v
obey_kept RotateLeft c u v = v
obey_kept RotateRight c u v = v
obey_kept (CustomCharacter shape) c u v = v
obey_kept (SystemParameters s) c u v =
    pick_cases (Kept c) s.keyb (λ e. record { code = refl; last = refl; awake = v.awake; keyb = e })
    (λ e. absurd (false≢true (sym e ∙ u.2 s refl)))
obey_kept (DisplayParameters d) c u v = v
obey_kept (BlinkByte byte) c u v = v
obey_kept ReadKey c u v = pick_cases (Kept c) c.settings.system.keyb (λ e. v) (λ e. v)
obey_kept (LoadDigit dig byte) c u v = v

-- such a command applied directly
applied_kept : (command : Command) (c : Chip) → Undisturbing command → c.settings.system.keyb ≡ true → Kept c (applied command c)
unfolding applied
applied_kept command c u k = obey_kept command (woken c) u (record { code = refl; last = refl; awake = refl; keyb = k })

-- the key's code is held by a chip awake with KEYB on, and after an empty last scan no empty scan comes next
abbrev Pressed : ℕ → List Step → Chip → Type 0
Pressed a h c =
    record {
      code : c.keys.code ≡ code_of a;
      awake : c.settings.sleeping ≡ false;
      keyb : c.settings.system.keyb ≡ true;
      single : c.keys.last ≡ none → FirstClosed (results_of h);
    }

-- a scan of a chip awake with KEYB on that neither records nor releases leaves the key held, and its result as the last scan
pressed_scan : (a : ℕ) (bytes : List ℕ) (h : List Step) (c : Chip) → Pressed a (scan bytes ∷ h) c
    → new_key (result bytes) c.keys ≡ false → both_none (result bytes) c.keys ≡ false → (result bytes ≡ none → FirstClosed (results_of h))
    → (is_key (code_of a) (recorded bytes c) ≡ false) × Pressed a h (scanned bytes c)
pressed_scan a bytes h c held n b f = (
  not_recorded (code_of a) (result bytes) c n,
  subst (Pressed a h) (sym (scanned_on (result bytes) c held.awake held.keyb))
      (record { code = keyed_code (result bytes) c.keys n b ∙ held.code; awake = held.awake; keyb = held.keyb; single = f }),
)

pub once_broken : (a : ℕ) → a < none → (h : List Step) → Undisturbed h → BrokenPress a h → (c : Chip) → times (code_of a) h c ≤ 1
once_broken a small h u b c =
    at_most_once (code_of a) (λ g. Undisturbed g × BrokenPress a g) (Pressed a) rest begins commands scans h c (u, b)
  where
    rest : (s : Step) (g : List Step) → Undisturbed (s ∷ g) × BrokenPress a (s ∷ g) → Undisturbed g × BrokenPress a g
    rest (told command) g p = (p.0.1, p.1)
    rest (scan bytes) g p = (p.0, (p.1.0.1, p.1.1.1))

    begins : (bytes : List ℕ) (g : List Step) (d : Chip) → Undisturbed (scan bytes ∷ g) × BrokenPress a (scan bytes ∷ g)
        → is_key (code_of a) (recorded bytes d) ≡ true → Pressed a g (scanned bytes d)
    begins bytes g d p e =
        let f = recorded_new (code_of a) (result bytes) d e in
        subst (Pressed a g) (sym (scanned_on (result bytes) d f.0 f.1))
        (record { code = pick_yes _ _ f.2 ∙ f.3; awake = f.0; keyb = f.1; single = p.1.1.0 })

    commands : (command : Command) (g : List Step) (d : Chip) → Undisturbed (told command ∷ g) × BrokenPress a (told command ∷ g)
        → Pressed a (told command ∷ g) d → Pressed a g (applied command d)
    commands command g d p held =
        let v = applied_kept command d p.0.0 held.keyb in
        record { code = v.code ∙ held.code; awake = v.awake; keyb = v.keyb; single = λ e. held.single (sym v.last ∙ e) }

    scans : (bytes : List ℕ) (g : List Step) (d : Chip) → Undisturbed (scan bytes ∷ g) × BrokenPress a (scan bytes ∷ g)
        → Pressed a (scan bytes ∷ g) d → (is_key (code_of a) (recorded bytes d) ≡ false) × Pressed a g (scanned bytes d)
    scans bytes g d p held =
        ⊎_elim
        (λ e.
        let l : result bytes < none = omega arith in
        pressed_scan a bytes g d held (held_not_new (result bytes) d.keys (held.code ∙ ap code_of (sym e)))
        (address_not_none (result bytes) d.keys l)
        p.1.1.0)
        (λ e.
        pressed_scan a bytes g d held (ap (λ (r : ℕ). new_key r d.keys) e ∙ none_not_new d.keys)
        (last_not_none (result bytes) d.keys (λ f. held.single f e))
        p.1.1.0)
        p.1.0.0
