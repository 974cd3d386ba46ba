-- Which parts of a chip what happens to it can change, and on which parts that depends.
--     quiet              with no LOAD rise a sample leaves settings, display and key record as they are
--     stepped_line       with no LOAD rise a sample does to the line parts what DCLK does
--     stepped_load       at a LOAD rise the register is obeyed once DCLK has moved the line parts
--     by_body            what the line parts don't matter to is the same for chips that differ in them only
--     body_applied       what a command leaves of settings, display and key record depends on these alone
--     body_word          so it does for whatever a LOAD rise finds in the register
--     body_scanned       so it does for a scan
--     recorded_body      so does what a scan records
--     obey_keys          what holds of the key record as it was, of a reset one and of one whose interrupt was cleared holds after any command
--     loaded_register    a LOAD rise leaves the register as it is
--     obeyed_register    so the register after a LOAD rise is the word that the rise obeyed
--     loaded_latch       and the latch
--     keyb_scanned       a scan leaves the system bits, KEYB among them, as they are
--     line_scanned       a scan leaves the line parts as they are
--     dout_latch         with KEYB off DOUT shows the latch
-- Assumes nothing.
use mathlib.Core.Path.{◌≡◌, refl, ap, ◌∙◌}
use mathlib.Core.Bool.{Bool, true, false}
use Prim.Native.Nat.{ℕ}
use Rattle.base.specs.Pick.{pick}
use Rattle.base.specs.Refusals.{Told, done, refused}
use Rattle.base.proofs.Picks.{pick_yes, pick_no, pick_cases}
use Rattle.word.specs.Words.{decoded_of}
use Rattle.word.specs.declared.Command.{Command}
use Rattle.word.specs.declared.Command.TheVariants.{NoOperation, BarLevel, SegmentClear, SegmentSet, Reset, Sleep, ShiftLeft, ShiftRight, RotateLeft, RotateRight, CustomCharacter, SystemParameters, DisplayParameters, BlinkByte, ReadKey, LoadDigit}
use Rattle.chip.specs.declared.LineParts.{LineParts}
use Rattle.chip.specs.declared.Chip.{Chip}
use Rattle.chip.specs.declared.Keys.{Keys}
use Rattle.chip.specs.Record.{Body, body_of, none, reset_keys, with_keys, with_sleeping, with_line}
use Rattle.chip.specs.Commands.{applied, applied_word, obey, woken, reset, system, read_key, dout}
use Rattle.chip.specs.Edges.{loaded, stepped, clocked, load_rises}
use Rattle.chip.specs.Scans.{scanned_by, recorded_by, wakes, keyed}

-- ---- samples

-- with no LOAD rise a sample is what DCLK does
moved : (was now : ℕ) (d : Bool) (c : Chip) → load_rises was now ≡ false → stepped was now d c ≡ with_line (clocked was now d c.line) c
unfolding stepped
moved was now d c e = pick_no _ _ e

pub stepped_load : (was now : ℕ) (d : Bool) (c : Chip) → load_rises was now ≡ true → stepped was now d c ≡ loaded (with_line (clocked was now d c.line) c)
unfolding stepped
stepped_load was now d c e = pick_yes _ _ e

pub quiet : (was now : ℕ) (d : Bool) (c : Chip) → load_rises was now ≡ false → body_of (stepped was now d c) ≡ body_of c
quiet was now d c e = ap body_of (moved was now d c e)

pub stepped_line : (was now : ℕ) (d : Bool) (c : Chip) → load_rises was now ≡ false → (stepped was now d c).line ≡ clocked was now d c.line
stepped_line was now d c e = ap (λ (x : Chip). x.line) (moved was now d c e)

-- ---- what doesn't depend on the line parts

pub by_body {ℓ} : {A : Type ℓ} (f : Chip → A) → ((l : LineParts) (c : Chip) → f (with_line l c) ≡ f c) → (c d : Chip) → body_of c ≡ body_of d → f c ≡ f d
by_body f same c d e =
    ap (λ (b : Body). f (record { line = c.line; settings = b.settings; digits = b.digits; keys = b.keys })) e ∙ same c.line d

-- two choices by one test whose sides are alike are alike
alike {ℓ κ} : {A : Type ℓ} {B : Type κ} (f : A → B) (b : Bool) {x y u v : A} → f x ≡ f u → f y ≡ f v → f (pick b x y) ≡ f (pick b u v)
alike f true p q = p
alike f false p q = q

-- a choice both sides of which keep a part keeps it
kept {ℓ κ} : {A : Type ℓ} {B : Type κ} (f : A → B) (b : Bool) {x y : A} {z : B} → f x ≡ z → f y ≡ z → f (pick b x y) ≡ z
kept f true p q = p
kept f false p q = q

-- a command's effect on the rest, whatever the line parts are
obey_body : (command : Command) (l : LineParts) (c : Chip) → body_of (obey command (woken (with_line l c))) ≡ body_of (obey command (woken c))
unfolding obey reset system read_key
obey_body NoOperation l c = refl
obey_body (BarLevel level) l c = refl
obey_body (SegmentClear addr) l c = refl
obey_body (SegmentSet addr) l c = refl
obey_body Reset l c = refl
obey_body Sleep l c = refl
obey_body ShiftLeft l c = refl
obey_body ShiftRight l c = refl
obey_body RotateLeft l c = refl
obey_body RotateRight l c = refl
obey_body (CustomCharacter shape) l c = refl
obey_body (SystemParameters s) l c = alike body_of s.keyb refl refl
obey_body (DisplayParameters d) l c = refl
obey_body (BlinkByte byte) l c = refl
obey_body ReadKey l c = alike body_of c.settings.system.keyb refl refl
obey_body (LoadDigit dig byte) l c = refl

pub body_applied : (command : Command) (c d : Chip) → body_of c ≡ body_of d → body_of (applied command c) ≡ body_of (applied command d)
unfolding applied
body_applied command = by_body (λ (x : Chip). body_of (applied command x)) (obey_body command)

pub body_word : (o : Told Command) (c d : Chip) → body_of c ≡ body_of d → body_of (applied_word o c) ≡ body_of (applied_word o d)
body_word (done command) c d e = body_applied command c d e
body_word (refused number place) c d e = by_body (λ (x : Chip). body_of (woken x)) (λ l x. refl) c d e

pub body_scanned : (r : ℕ) (c d : Chip) → body_of c ≡ body_of d → body_of (scanned_by r c) ≡ body_of (scanned_by r d)
unfolding scanned_by
body_scanned r =
    by_body (λ (x : Chip). body_of (scanned_by r x))
    (λ l x.
    alike body_of x.settings.sleeping (alike body_of (wakes r) refl refl) (alike body_of x.settings.system.keyb refl refl))

pub recorded_body : (r : ℕ) (c d : Chip) → body_of c ≡ body_of d → recorded_by r c ≡ recorded_by r d
unfolding recorded_by
recorded_body r = by_body (λ (x : Chip). recorded_by r x) (λ l x. refl)

-- ---- what a command can do to the key record

-- a reset makes it anew; KEYB 0 and a read key clear the interrupt and leave the code; every other command leaves it
pub obey_keys : (P : Keys → Type 0) (command : Command) (c : Chip) → P c.keys → (command ≡ Reset → P reset_keys)
    → ((last : ℕ) → P (record { code = c.keys.code; interrupt = false; last = last }))
    → P (obey command c).keys
unfolding obey reset system read_key
obey_keys P NoOperation c same anew cleared = same
obey_keys P (BarLevel level) c same anew cleared = same
obey_keys P (SegmentClear addr) c same anew cleared = same
obey_keys P (SegmentSet addr) c same anew cleared = same
obey_keys P Reset c same anew cleared = anew refl
obey_keys P Sleep c same anew cleared = same
obey_keys P ShiftLeft c same anew cleared = same
obey_keys P ShiftRight c same anew cleared = same
obey_keys P RotateLeft c same anew cleared = same
obey_keys P RotateRight c same anew cleared = same
obey_keys P (CustomCharacter shape) c same anew cleared = same
obey_keys P (SystemParameters s) c same anew cleared = pick_cases (λ (x : Chip). P x.keys) s.keyb (λ e. same) (λ e. cleared none)
obey_keys P (DisplayParameters d) c same anew cleared = same
obey_keys P (BlinkByte byte) c same anew cleared = same
obey_keys P ReadKey c same anew cleared = pick_cases (λ (x : Chip). P x.keys) c.settings.system.keyb (λ e. cleared c.keys.last) (λ e. same)
obey_keys P (LoadDigit dig byte) c same anew cleared = same

-- ---- what a LOAD rise leaves of the line parts

-- the register and the latch
record Held : Type 0 where
  register : ℕ
  latch : Bool

abbrev held_of : Chip → Held
held_of c = record { register = c.line.register; latch = c.line.latch }

-- no command touches them
obey_held : (command : Command) (c : Chip) → held_of (obey command c) ≡ held_of c
unfolding obey reset system read_key
obey_held NoOperation c = refl
obey_held (BarLevel level) c = refl
obey_held (SegmentClear addr) c = refl
obey_held (SegmentSet addr) c = refl
obey_held Reset c = refl
obey_held Sleep c = refl
obey_held ShiftLeft c = refl
obey_held ShiftRight c = refl
obey_held RotateLeft c = refl
obey_held RotateRight c = refl
obey_held (CustomCharacter shape) c = refl
obey_held (SystemParameters s) c = kept held_of s.keyb refl refl
obey_held (DisplayParameters d) c = refl
obey_held (BlinkByte byte) c = refl
obey_held ReadKey c = kept held_of c.settings.system.keyb refl refl
obey_held (LoadDigit dig byte) c = refl

word_held : (o : Told Command) (c : Chip) → held_of (applied_word o c) ≡ held_of c
unfolding applied
word_held (done command) c = obey_held command (woken c)
word_held (refused number place) c = refl

loaded_held : (c : Chip) → held_of (loaded c) ≡ held_of c
unfolding loaded
loaded_held c = word_held (decoded_of c.line.register) c

pub loaded_register : (c : Chip) → (loaded c).line.register ≡ c.line.register
loaded_register c = ap (λ (h : Held). h.register) (loaded_held c)

-- so the register after a LOAD rise is the word that the rise obeyed
pub obeyed_register : (was now : ℕ) (d : Bool) (c : Chip) → load_rises was now ≡ true
    → (stepped was now d c).line.register ≡ (clocked was now d c.line).register
obeyed_register was now d c e =
    ap (λ (x : Chip). x.line.register) (stepped_load was now d c e) ∙ loaded_register (with_line (clocked was now d c.line) c)

pub loaded_latch : (c : Chip) → (loaded c).line.latch ≡ c.line.latch
loaded_latch c = ap (λ (h : Held). h.latch) (loaded_held c)

-- ---- what a scan leaves, and DOUT

-- a part that neither waking nor a key touches
unscanned {ℓ} : {A : Type ℓ} (f : Chip → A) (r : ℕ) (c : Chip)
    → f (with_sleeping false (with_keys (record { code = c.keys.code; interrupt = c.keys.interrupt; last = none }) c)) ≡ f c
    → f (with_keys (keyed r c.keys) c) ≡ f c → f (scanned_by r c) ≡ f c
unfolding scanned_by
unscanned f r c woke new = kept f c.settings.sleeping (kept f (wakes r) woke refl) (kept f c.settings.system.keyb new refl)

pub keyb_scanned : (r : ℕ) (c : Chip) → (scanned_by r c).settings.system ≡ c.settings.system
keyb_scanned r c = unscanned (λ (x : Chip). x.settings.system) r c refl refl

pub line_scanned : (r : ℕ) (c : Chip) → (scanned_by r c).line ≡ c.line
line_scanned r c = unscanned (λ (x : Chip). x.line) r c refl refl

pub dout_latch : (c : Chip) → c.settings.system.keyb ≡ false → dout c ≡ c.line.latch
unfolding dout
dout_latch c e = pick_no _ _ e
