-- What a look can tell, and what it leaves of the reader, by the last chip before the edge.
--     fall_edge          a fall of DCLK is an edge
--     no_fall, no_rise_lem   without an edge DCLK doesn't fall, and LOAD doesn't rise
--     readout_tells      in a readout no interrupt and no difference is told
--     look_agrees        where the settled level is the chip's DOUT, no difference is told, and the reader agrees as before
--     look_interrupt     there an interrupt is told exactly where one stands at an edge outside readouts, if the reader was quiet
--     look_dout          a look leaves the level as it is
-- Assumes nothing.
use Rattle.std.proofs.Common.{◌≡◌, ℕ, ◌-◌, Bool, true, false, not, ◌&&◌, ◌||◌, eqb, ltb, sym, refl, ap, ◌∙◌}
use mathlib.Core.Bool.{false≢true, and-false}
use Rattle.base.specs.Pick.{pick}
use Rattle.base.specs.Bits.{bit}
use Rattle.base.proofs.Picks.{pick_cases}
use Rattle.chip.specs.declared.Chip.{Chip}
use Rattle.chip.specs.Commands.{dout}
use Rattle.chip.specs.Edges.{dclk, load, dclk_falls, load_rises}
use Rattle.reads.specs.declared.Dout.{Dout}
use Rattle.reads.specs.declared.Dout.TheVariants.{NotYet, Missing, Low, High}
use Rattle.reads.specs.declared.Looked.{Looked}
use Rattle.reads.specs.declared.Note.{Note}
use Rattle.reads.specs.declared.Note.TheVariants.{Nothing, Code, Cut, Differs}
use Rattle.reads.specs.declared.Reader.{Reader}
use Rattle.reads.specs.Reads.{differ, is_edge, looking, with_bits, with_quiet, with_agrees, tells, bits_with, cut_by, in_readout, interrupt_where, outside, latch_looked, keypad_off, looked}
use Rattle.reads.specs.Till.{is_interrupt, is_differs, keypad_on, was_recorded, SettledIs}

-- ---- edges

fall_by : (a b moved : Bool) → (a && not b) ≡ true → (differ a b || moved) ≡ true
fall_by true true moved e = absurd (false≢true e)
fall_by true false moved e = refl
fall_by false b moved e = absurd (false≢true e)

or_true : (moved : Bool) → (moved || true) ≡ true
or_true true = refl
or_true false = refl

rise_by : (a b moved : Bool) → (not a && b) ≡ true → (moved || differ a b) ≡ true
rise_by true b moved e = absurd (false≢true e)
rise_by false true moved e = or_true moved
rise_by false false moved e = absurd (false≢true e)

pub fall_edge : (was now : ℕ) → dclk_falls was now ≡ true → is_edge was now ≡ true
fall_edge was now e = fall_by (dclk was) (dclk now) (differ (load was) (load now)) e

pub rise_edge : (was now : ℕ) → load_rises was now ≡ true → is_edge was now ≡ true
rise_edge was now e = rise_by (load was) (load now) (differ (dclk was) (dclk now)) e

-- what isn't true is false
unless : (a b : Bool) → (a ≡ true → b ≡ true) → b ≡ false → a ≡ false
unless true b f e = absurd (false≢true (sym e ∙ f refl))
unless false b f e = refl

pub no_fall : (was now : ℕ) → is_edge was now ≡ false → dclk_falls was now ≡ false
no_fall was now = unless (dclk_falls was now) (is_edge was now) (fall_edge was now)

pub no_rise_lem : (was now : ℕ) → is_edge was now ≡ false → load_rises was now ≡ false
no_rise_lem was now = unless (load_rises was now) (is_edge was now) (rise_edge was now)

-- ---- in a readout

cut_tells : (P : Note → Type 0) (rises : Bool) (bits : ℕ) → P Nothing → P Cut → P (cut_by rises bits)
cut_tells P rises bits nothing cut = pick_cases P (rises && not (eqb bits 0)) (λ e. cut) (λ e. nothing)

pub readout_tells : (P : Note → Type 0) (falls rises : Bool) (left : ℕ) (r : Reader) → P Nothing → P Cut → ((code : ℕ) → P (Code code))
    → P (in_readout falls rises left r).note
readout_tells P true rises left r nothing cut code =
    let bits = bits_with r.dout r.bits in
    pick_cases P (eqb bits 0) (λ e. pick_cases P (eqb r.bits 0) (λ e. nothing) (λ e. cut))
    (λ e. pick_cases P (eqb left 1) (λ e. pick_cases P (ltb bits 128) (λ e. cut) (λ e. code _)) (λ e. cut_tells P rises bits nothing cut))
readout_tells P false rises left r nothing cut code = cut_tells P rises r.bits nothing cut

-- what a readout leaves of the reader but its bits
readout_leaves {ℓ} : {A : Type ℓ} (f : Reader → A) (falls rises : Bool) (left : ℕ) (r : Reader) → ((bits : ℕ) → f (with_bits bits r) ≡ f r)
    → f (in_readout falls rises left r).reader ≡ f r
readout_leaves f true rises left r same = same _
readout_leaves f false rises left r same = refl

-- ---- any look

outside_leaves {ℓ} : {A : Type ℓ} (f : Reader → A) (level : Dout) (r : Reader) → ((quiet : Bool) → f (with_quiet quiet r) ≡ f r)
    → f (outside level r).reader ≡ f r
outside_leaves f NotYet r same = refl
outside_leaves f Missing r same = refl
outside_leaves f Low r same = same false
outside_leaves f High r same = same true

off_leaves {ℓ} : {A : Type ℓ} (f : Reader → A) (level : Dout) (latch : Bool) (r : Reader) → ((agrees : Bool) → f (with_agrees agrees r) ≡ f r)
    → f (keypad_off level latch r).reader ≡ f r
off_leaves f NotYet latch r same = refl
off_leaves f Missing latch r same = refl
off_leaves f Low latch r same = same (not latch)
off_leaves f High latch r same = same latch

pub look_dout : (was now : ℕ) (c : Chip) (r : Reader) → (looked was now c r).reader.dout ≡ r.dout
unfolding looked
look_dout was now c r =
    let left = c.line.readout.left in
    pick_cases P (looking r.dout && is_edge was now)
    (λ e.
    pick_cases P (keypad_on c)
    (λ e.
    pick_cases P (eqb left 0) (λ e. outside_leaves f r.dout r (λ x. refl))
    (λ e. readout_leaves f (dclk_falls was now) (load_rises was now) left r (λ x. refl)))
    (λ e. off_leaves f r.dout c.line.latch r (λ x. refl)))
    (λ e. refl)
  where
    f : Reader → Dout
    f x = x.dout

    P : Looked → Type 0
    P l = f l.reader ≡ f r

-- ---- the settled level is the chip's DOUT

-- no difference is told, and the reader agrees
abbrev Agrees : Looked → Type 0
Agrees l = (is_differs l.note ≡ false) × (l.reader.agrees ≡ true)

agrees_by : (level : Dout) (edge keyb over latch stands next : Bool) (r : Reader) (inside : Looked) → r.agrees ≡ true → Agrees inside
    → (edge ≡ true → SettledIs level (pick keyb (pick over (not stands) next) latch))
    → Agrees (pick (looking level && edge) (pick keyb (pick over (outside level r) inside) (keypad_off level latch r)) (tells r Nothing))
agrees_by NotYet edge keyb over latch stands next r inside a i seen = (refl, a)
agrees_by Missing false keyb over latch stands next r inside a i seen = (refl, a)
agrees_by Missing true true true latch stands next r inside a i seen = (refl, a)
agrees_by Missing true true false latch stands next r inside a i seen = i
agrees_by Missing true false over latch stands next r inside a i seen = (refl, a)
agrees_by Low false keyb over latch stands next r inside a i seen = (refl, a)
agrees_by Low true true true latch stands next r inside a i seen =
    (pick_cases (λ note. is_differs note ≡ false) r.quiet (λ e. refl) (λ e. refl), a)
agrees_by Low true true false latch stands next r inside a i seen = i
agrees_by Low true false over true stands next r inside a i seen = absurd (false≢true (sym (seen refl)))
agrees_by Low true false over false stands next r inside a i seen =
    (ap (λ t. is_differs (pick t (Differs r.offset) Nothing)) (and-false r.agrees), refl)
agrees_by High false keyb over latch stands next r inside a i seen = (refl, a)
agrees_by High true true true latch stands next r inside a i seen = (refl, a)
agrees_by High true true false latch stands next r inside a i seen = i
agrees_by High true false over true stands next r inside a i seen =
    (ap (λ t. is_differs (pick t (Differs r.offset) Nothing)) (and-false r.agrees), refl)
agrees_by High true false over false stands next r inside a i seen = absurd (false≢true (seen refl))

pub look_agrees : (was now : ℕ) (c : Chip) (r : Reader) → r.agrees ≡ true → (is_edge was now ≡ true → SettledIs r.dout (dout c))
    → Agrees (looked was now c r)
unfolding looked dout
look_agrees was now c r a seen =
    let left = c.line.readout.left in
    let inside = in_readout (dclk_falls was now) (load_rises was now) left r in
    agrees_by r.dout (is_edge was now) (keypad_on c) (eqb left 0) c.line.latch c.keys.interrupt
    (bit c.line.readout.code (left - 1)) r inside a (
      readout_tells (λ note. is_differs note ≡ false) (dclk_falls was now) (load_rises was now) left r refl refl (λ code. refl),
      readout_leaves (λ (x : Reader). x.agrees) (dclk_falls was now) (load_rises was now) left r (λ bits. refl) ∙ a,
    ) seen

-- an interrupt is told exactly where one stands, and where none stands the reader is quiet
abbrev Tells : Bool → Looked → Type 0
Tells at l = (is_interrupt l.note ≡ at) × (at ≡ false → l.reader.quiet ≡ true)

latch_tells : (same : Bool) (r : Reader) → r.quiet ≡ true → Tells false (latch_looked same r)
latch_tells same r q = (pick_cases (λ note. is_interrupt note ≡ false) (r.agrees && not same) (λ e. refl) (λ e. refl), λ e. q)

tells_by : (level : Dout) (edge keyb over latch stands next : Bool) (r : Reader) (inside : Looked) → was_recorded level ≡ true → r.quiet ≡ true
    → Tells false inside → (edge ≡ true → SettledIs level (pick keyb (pick over (not stands) next) latch))
    → Tells (edge && keyb && over && stands)
    (pick (looking level && edge) (pick keyb (pick over (outside level r) inside) (keypad_off level latch r)) (tells r Nothing))
tells_by NotYet edge keyb over latch stands next r inside known q i seen = absurd (false≢true known)
tells_by Missing edge keyb over latch stands next r inside known q i seen = absurd (false≢true known)
tells_by Low false keyb over latch stands next r inside known q i seen = (refl, λ e. q)
tells_by Low true true true latch true next r inside known q i seen =
    (ap (λ t. is_interrupt (interrupt_where t)) q, λ e. absurd (false≢true (sym e)))
tells_by Low true true true latch false next r inside known q i seen = absurd (false≢true (sym (seen refl)))
tells_by Low true true false latch stands next r inside known q i seen = i
tells_by Low true false over latch stands next r inside known q i seen = latch_tells (not latch) r q
tells_by High false keyb over latch stands next r inside known q i seen = (refl, λ e. q)
tells_by High true true true latch true next r inside known q i seen = absurd (false≢true (seen refl))
tells_by High true true true latch false next r inside known q i seen = (refl, λ e. refl)
tells_by High true true false latch stands next r inside known q i seen = i
tells_by High true false over latch stands next r inside known q i seen = latch_tells latch r q

pub look_interrupt : (was now : ℕ) (c : Chip) (r : Reader) → was_recorded r.dout ≡ true → r.quiet ≡ true
    → (is_edge was now ≡ true → SettledIs r.dout (dout c))
    → Tells (is_edge was now && keypad_on c && eqb c.line.readout.left 0 && c.keys.interrupt) (looked was now c r)
unfolding looked dout
look_interrupt was now c r known q seen =
    let left = c.line.readout.left in
    let inside = in_readout (dclk_falls was now) (load_rises was now) left r in
    tells_by r.dout (is_edge was now) (keypad_on c) (eqb left 0) c.line.latch c.keys.interrupt
    (bit c.line.readout.code (left - 1)) r inside known q (
      readout_tells (λ note. is_interrupt note ≡ false) (dclk_falls was now) (load_rises was now) left r refl refl (λ code. refl),
      λ e. readout_leaves (λ (x : Reader). x.quiet) (dclk_falls was now) (load_rises was now) left r (λ bits. refl) ∙ q,
    ) seen
