-- One chip that is told the commands of its settings, with any scans between, ends with those settings, awake.
--     scan_keeps      a scan changes no setting but the sleeping mark, wakes at most, and no digit
--     part_sets       a part's command sets that part, wakes the chip, and changes no other setting and no digit
--     parts_set       so the commands of parts, one after another
--     four_set        so the four of all settings
-- Assumes nothing.
use mathlib.Core.Path.{◌≡◌, refl, ap, sym, subst, ◌∙◌}
use mathlib.Core.Bool.{false}
use mathlib.Core.List.{List, [], ◌∷◌, map, head-eq_of_cons-eq, tail-eq_of_cons-eq, nil≢cons}
use Prim.Native.Nat.{ℕ}
use Rattle.base.proofs.Picks.{pick_cases}
use Rattle.word.specs.declared.Command.{Command}
use Rattle.chip.specs.declared.Chip.{Chip}
use Rattle.chip.specs.declared.Settings.{Settings}
use Rattle.chip.specs.Commands.{applied, obey, system}
use Rattle.chip.specs.Scans.{result, wakes, scanned, scanned_asleep, scanned_by}
use Rattle.chip.specs.History.{Step, told, scan, after}
use Rattle.settings.specs.declared.Kept.{Kept}
use Rattle.settings.specs.declared.Part.{Part}
use Rattle.settings.specs.declared.Part.TheVariants.{System, Display, Blink, Custom}
use Rattle.settings.specs.Settings.{command_for}
use Rattle.demands.specs.Events.{commands_in}
use Rattle.demands.specs.Settings.{EndsWith}

-- settings with the sleeping mark off
abbrev awake : Settings → Settings
awake s = record { system = s.system; display = s.display; blink = s.blink; custom = s.custom; sleeping = false }

-- settings with one part set
abbrev set_part : Part → Kept → Settings → Settings
set_part System c s = record { system = c.system; display = s.display; blink = s.blink; custom = s.custom; sleeping = false }
set_part Display c s = record { system = s.system; display = c.display; blink = s.blink; custom = s.custom; sleeping = false }
set_part Blink c s = record { system = s.system; display = s.display; blink = c.blink; custom = s.custom; sleeping = false }
set_part Custom c s = record { system = s.system; display = s.display; blink = s.blink; custom = c.custom; sleeping = false }

-- settings with parts set, one after another
abbrev set_parts : List Part → Kept → Settings → Settings
set_parts [] c s = s
set_parts (part ∷ parts) c s = set_parts parts c (set_part part c s)

-- the commands of parts
abbrev commands_for : List Part → Kept → List Command
commands_for parts c = map (λ part. command_for part c) parts

-- from one chip to another: the settings, awake; the digits as they were
record Becomes (s : Settings) (before end : Chip) : Type 0 where
  pub settings : awake end.settings ≡ s
  pub digits : end.digits ≡ before.digits

-- ---- one step

asleep_keeps : (r : ℕ) (c : Chip) → Becomes (awake c.settings) c (scanned_asleep r c)
asleep_keeps r c =
    pick_cases (Becomes (awake c.settings) c) (wakes r) (λ e. record { settings = refl; digits = refl }) (λ e. record { settings = refl; digits = refl })

scan_keeps : (bytes : List ℕ) (c : Chip) → Becomes (awake c.settings) c (scanned bytes c)
unfolding scanned_by
scan_keeps bytes c =
    pick_cases (Becomes (awake c.settings) c) c.settings.sleeping (λ e. asleep_keeps (result bytes) c)
    (λ e.
    pick_cases (Becomes (awake c.settings) c) c.settings.system.keyb (λ f. record { settings = refl; digits = refl })
    (λ f. record { settings = refl; digits = refl }))

scan_awake : (bytes : List ℕ) (c : Chip) → c.settings.sleeping ≡ false → (scanned bytes c).settings.sleeping ≡ false
unfolding scanned_by
scan_awake bytes c off =
    pick_cases (λ (d : Chip). d.settings.sleeping ≡ false) c.settings.sleeping
    (λ e. pick_cases (λ (d : Chip). d.settings.sleeping ≡ false) (wakes (result bytes)) (λ f. refl) (λ f. off))
    (λ e. pick_cases (λ (d : Chip). d.settings.sleeping ≡ false) c.settings.system.keyb (λ f. off) (λ f. off))

part_sets : (part : Part) (kept : Kept) (c : Chip) → Becomes (set_part part kept (awake c.settings)) c (applied (command_for part kept) c)
unfolding applied obey system
part_sets System kept c =
    pick_cases (Becomes (set_part System kept (awake c.settings)) c) kept.system.keyb (λ e. record { settings = refl; digits = refl })
    (λ e. record { settings = refl; digits = refl })
part_sets Display kept c = record { settings = refl; digits = refl }
part_sets Blink kept c = record { settings = refl; digits = refl }
part_sets Custom kept c = record { settings = refl; digits = refl }

part_wakes : (part : Part) (kept : Kept) (c : Chip) → (applied (command_for part kept) c).settings.sleeping ≡ false
unfolding applied obey system
part_wakes System kept c = pick_cases (λ (d : Chip). d.settings.sleeping ≡ false) kept.system.keyb (λ e. refl) (λ e. refl)
part_wakes Display kept c = refl
part_wakes Blink kept c = refl
part_wakes Custom kept c = refl

-- ---- steps one after another

parts_set : (kept : Kept) (parts : List Part) (steps : List Step) (c : Chip) → commands_in steps ≡ commands_for parts kept
    → Becomes (set_parts parts kept (awake c.settings)) c (after steps c)
parts_set kept [] [] c e = record { settings = refl; digits = refl }
parts_set kept (part ∷ parts) [] c e = absurd (nil≢cons e)
parts_set kept [] (told command ∷ steps) c e = absurd (nil≢cons (sym e))
parts_set kept (part ∷ parts) (told command ∷ steps) c e =
    let own = subst (λ x. Becomes (set_part part kept (awake c.settings)) c (applied x c)) (sym (head-eq_of_cons-eq e)) (part_sets part kept c) in
    let more = parts_set kept parts steps (applied command c) (tail-eq_of_cons-eq e) in
    record { settings = more.settings ∙ ap (set_parts parts kept) own.settings; digits = more.digits ∙ own.digits }
parts_set kept parts (scan bytes ∷ steps) c e =
    let own = scan_keeps bytes c in
    let more = parts_set kept parts steps (scanned bytes c) e in
    record { settings = more.settings ∙ ap (set_parts parts kept) own.settings; digits = more.digits ∙ own.digits }

-- an awake chip stays so
parts_awake : (kept : Kept) (parts : List Part) (steps : List Step) (c : Chip) → commands_in steps ≡ commands_for parts kept
    → c.settings.sleeping ≡ false
    → (after steps c).settings.sleeping ≡ false
parts_awake kept parts [] c e off = off
parts_awake kept [] (told command ∷ steps) c e off = absurd (nil≢cons (sym e))
parts_awake kept (part ∷ parts) (told command ∷ steps) c e off =
    parts_awake kept parts steps (applied command c) (tail-eq_of_cons-eq e)
    (subst (λ x. (applied x c).settings.sleeping ≡ false) (sym (head-eq_of_cons-eq e)) (part_wakes part kept c))
parts_awake kept parts (scan bytes ∷ steps) c e off = parts_awake kept parts steps (scanned bytes c) e (scan_awake bytes c off)

-- and any is, once a command came
parts_wake : (kept : Kept) (part : Part) (parts : List Part) (steps : List Step) (c : Chip) → commands_in steps ≡ commands_for (part ∷ parts) kept
    → (after steps c).settings.sleeping ≡ false
parts_wake kept part parts [] c e = absurd (nil≢cons e)
parts_wake kept part parts (told command ∷ steps) c e =
    parts_awake kept parts steps (applied command c) (tail-eq_of_cons-eq e)
    (subst (λ x. (applied x c).settings.sleeping ≡ false) (sym (head-eq_of_cons-eq e)) (part_wakes part kept c))
parts_wake kept part parts (scan bytes ∷ steps) c e = parts_wake kept part parts steps (scanned bytes c) e

-- ---- the four

-- the parts, in the order of their rows
abbrev pub four_parts : List Part
four_parts = System ∷ Display ∷ Blink ∷ Custom ∷ []

-- settings whose mark is off are awake
is_awake : (s : Settings) → s.sleeping ≡ false → s ≡ awake s
is_awake s e = ap (λ mark. record { system = s.system; display = s.display; blink = s.blink; custom = s.custom; sleeping = mark }) e

pub four_set : (kept : Kept) (steps : List Step) (c : Chip) → commands_in steps ≡ map (λ part. command_for part kept) four_parts
    → EndsWith kept c (after steps c)
four_set kept steps c e =
    let set = parts_set kept four_parts steps c e in
    record {
      settings = is_awake (after steps c).settings (parts_wake kept System (Display ∷ Blink ∷ Custom ∷ []) steps c e) ∙ set.settings;
      digits = set.digits;
    }
