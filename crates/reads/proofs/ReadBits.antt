-- A readout that runs: its bits as the reader has them, and what a look tells of them.
--     bits_left           the bits read behind a leading 1, with so many left to read
--     bits_whole, bits_all, bits_more, bits_some     before the first bit, after the last, one bit on, and that the leading 1 is there
--     running            what a valid chip is while a readout runs
--     dout_next          its DOUT is then the readout's next bit
--     look_readout       while one runs a look is that of a readout, whether there is an edge or not
--     look_idle          while none runs a look tells no code and no cut, and leaves the bits
--     look_waiting       before the first recorded level a look tells nothing
--     bits_with_lem          a fall of DCLK adds the settled level, which is the readout's next bit
-- Assumes nothing.
use Rattle.std.proofs.Common.{◌≡◌, ℕ, suc, ◌+◌, ◌-◌, ◌*◌, ◌/◌, ◌%◌, ◌^◌, ◌<◌, Bool, true, false, not, ◌&&◌, ◌||◌, T, eqb, leb, List, ◌∷◌, sym, refl, ap, ◌∙◌, ap₂, arith, eqb→eq, leb-true}
use mathlib.Core.Bool.{false≢true, and-eq-true_iff}
use borrow.Author.Tests.{eqb-false}
use Rattle.base.specs.Below.{below}
use Rattle.base.specs.Bits.{bit, bit_value}
use Rattle.base.proofs.Picks.{pick_yes, pick_no, pick_cases}
use Rattle.base.proofs.Tests.{is_true, at_below, and_left, and_right}
use Rattle.chip.specs.declared.Chip.{Chip}
use Rattle.chip.specs.Record.{valid}
use Rattle.chip.specs.Commands.{dout}
use Rattle.chip.specs.Edges.{dclk_falls, load_rises}
use Rattle.chip.proofs.Valid.{valid_facts}
use Rattle.reads.specs.declared.Dout.{Dout}
use Rattle.reads.specs.declared.Dout.TheVariants.{NotYet, Missing, Low, High}
use Rattle.reads.specs.declared.Looked.{Looked}
use Rattle.reads.specs.declared.Note.{Note}
use Rattle.reads.specs.declared.Note.TheVariants.{Nothing}
use Rattle.reads.specs.declared.Reader.{Reader}
use Rattle.reads.specs.Reads.{is_edge, looking, tells, bits_with, in_readout, outside, latch_looked, keypad_off, looked}
use Rattle.reads.specs.Till.{codes_told, is_cut, keypad_on, runs, was_recorded, SettledIs}
use Rattle.reads.proofs.LookCases.{no_fall, no_rise_lem}

-- ---- numbers

abbrev pub bits_left : ℕ → ℕ → ℕ
bits_left code left = (128 + code) / 2 ^ left

-- none is read
pub bits_whole : (code : ℕ) → code < 128 → bits_left code 7 ≡ 1
bits_whole code h = omega arith

-- all are read
pub bits_all : (code : ℕ) → bits_left code 0 ≡ 128 + code
bits_all code = omega arith

-- one more is read
more_test : ℕ → ℕ → Bool
more_test left code = eqb (bits_left code (suc left) % 128 * 2 + bit_value (bit code left)) (bits_left code left)

pub bits_more : (left code : ℕ) → left < 7 → code < 128 → bits_left code (suc left) % 128 * 2 + bit_value (bit code left) ≡ bits_left code left
unfolding more_test
bits_more left code hl hc = eqb→eq _ _ (at_below (more_test left) 128 (at_below (λ l. below (more_test l) 128) 7 tt left hl) code hc)

-- the leading 1 is there
some_test : ℕ → ℕ → Bool
some_test left code = not (eqb (bits_left code left) 0)

not_true : (b : Bool) → T (not b) → b ≡ false
not_true true t = absurd t
not_true false t = refl

pub bits_some : (left code : ℕ) → left < 8 → code < 128 → eqb (bits_left code left) 0 ≡ false
unfolding some_test
bits_some left code hl hc = not_true _ (at_below (some_test left) 128 (at_below (λ l. below (some_test l) 128) 8 tt left hl) code hc)

-- ---- a chip

pub record Running (c : Chip) : Type 0 where
  pub on : keypad_on c ≡ true
  pub some : eqb c.line.readout.left 0 ≡ false
  pub before : c.line.readout.left ≡ suc (c.line.readout.left - 1)
  pub within : c.line.readout.left - 1 < 7
  pub small : c.line.readout.code < 128

not_not : (b : Bool) → not b ≡ true → b ≡ false
not_not true e = sym e
not_not false e = refl

or_second : (a b : Bool) → a ≡ false → T (a || b) → T b
or_second true b e t = absurd (false≢true (sym e))
or_second false b e t = t

pub running : (c : Chip) → T (valid c) → runs c ≡ true → Running c
running c v e =
    let left = c.line.readout.left in
    let code = c.line.readout.code in
    let both = (and-eq-true_iff (keypad_on c) (not (eqb left 0))).0 e in
    let readout = ((valid_facts c).0 v).readout in
    let some = not_not (eqb left 0) both.1 in
    let ne = eqb-false left 0 some in
    let most = leb-true left 7 (is_true _ (and_left (leb left 7) (eqb left 0 || leb code 127) readout)) in
    let low = leb-true code 127 (is_true _ (or_second (eqb left 0) (leb code 127) some (and_right (leb left 7) (eqb left 0 || leb code 127) readout))) in
    record { on = both.0; some = some; before = omega arith; within = omega arith; small = omega arith }

-- DOUT is the next bit
pub dout_next : (c : Chip) → Running c → dout c ≡ bit c.line.readout.code (c.line.readout.left - 1)
unfolding dout
dout_next c k = pick_yes _ _ k.on ∙ pick_no _ _ k.some

-- ---- looks

pub look_waiting : (was now : ℕ) (c : Chip) (r : Reader) → looking r.dout ≡ false → looked was now c r ≡ tells r Nothing
unfolding looked
look_waiting was now c r e = pick_no _ _ (ap (λ t. t && is_edge was now) e)

pub look_readout : (was now : ℕ) (c : Chip) (r : Reader) → Running c → looking r.dout ≡ true
    → looked was now c r ≡ in_readout (dclk_falls was now) (load_rises was now) c.line.readout.left r
unfolding looked
look_readout was now c r k lk =
    pick_cases (λ l. l ≡ in_readout (dclk_falls was now) (load_rises was now) left r) (looking r.dout && is_edge was now)
    (λ e. pick_yes _ _ k.on ∙ pick_no _ _ k.some)
    (λ e.
    let none : is_edge was now ≡ false = sym (ap (λ t. t && is_edge was now) lk) ∙ e in
    sym (ap₂ (λ falls rises. in_readout falls rises left r) (no_fall was now none) (no_rise_lem was now none)))
  where
    left : ℕ
    left = c.line.readout.left

-- no code, no cut, the same bits
abbrev pub Idle : Reader → Looked → Type 0
Idle r l = ((notes : List Note) → codes_told (l.note ∷ notes) ≡ codes_told notes) × (is_cut l.note ≡ false) × (l.reader.bits ≡ r.bits)

outside_idle : (level : Dout) (r : Reader) → Idle r (outside level r)
outside_idle NotYet r = ((λ notes. refl), refl, refl)
outside_idle Missing r = ((λ notes. refl), refl, refl)
outside_idle Low r = (
  λ notes. pick_cases (λ note. codes_told (note ∷ notes) ≡ codes_told notes) r.quiet (λ e. refl) (λ e. refl),
  pick_cases (λ note. is_cut note ≡ false) r.quiet (λ e. refl) (λ e. refl),
  refl,
)
outside_idle High r = ((λ notes. refl), refl, refl)

latch_idle : (same : Bool) (r : Reader) → Idle r (latch_looked same r)
latch_idle same r = (
  λ notes. pick_cases (λ note. codes_told (note ∷ notes) ≡ codes_told notes) (r.agrees && not same) (λ e. refl) (λ e. refl),
  pick_cases (λ note. is_cut note ≡ false) (r.agrees && not same) (λ e. refl) (λ e. refl),
  refl,
)

off_idle : (level : Dout) (latch : Bool) (r : Reader) → Idle r (keypad_off level latch r)
off_idle NotYet latch r = ((λ notes. refl), refl, refl)
off_idle Missing latch r = ((λ notes. refl), refl, refl)
off_idle Low latch r = latch_idle (not latch) r
off_idle High latch r = latch_idle latch r

pub look_idle : (was now : ℕ) (c : Chip) (r : Reader) → runs c ≡ false → Idle r (looked was now c r)
unfolding looked
look_idle was now c r none =
    pick_cases (Idle r) (looking r.dout && is_edge was now)
    (λ e.
    pick_cases (Idle r) (keypad_on c)
    (λ on.
    pick_cases (Idle r) (eqb left 0) (λ over. outside_idle r.dout r)
    (λ more. absurd (false≢true (sym none ∙ ap₂ (λ s t. s && not t) on more))))
    (λ off. off_idle r.dout c.line.latch r))
    (λ e. ((λ notes. refl), refl, refl))
  where
    left : ℕ
    left = c.line.readout.left

-- ---- a fall of DCLK

settled_bits : (level : Dout) (d : Bool) (bits : ℕ) → was_recorded level ≡ true → SettledIs level d → eqb bits 0 ≡ false
    → bits_with level bits ≡ bits % 128 * 2 + bit_value d
settled_bits NotYet d bits known s some = absurd (false≢true known)
settled_bits Missing d bits known s some = absurd (false≢true known)
settled_bits Low d bits known s some =
    let z : bit_value d ≡ 0 = ap bit_value s in
    let e : bits % 128 * 2 ≡ bits % 128 * 2 + bit_value d = omega arith in
    pick_no _ _ some ∙ e
settled_bits High d bits known s some = pick_no _ _ some ∙ ap (λ t. bits % 128 * 2 + bit_value t) (sym s)

pub bits_with_lem : (c : Chip) (r : Reader) → Running c → was_recorded r.dout ≡ true → SettledIs r.dout (dout c)
    → r.bits ≡ bits_left c.line.readout.code c.line.readout.left
    → bits_with r.dout r.bits ≡ bits_left c.line.readout.code (c.line.readout.left - 1)
bits_with_lem c r k known s e =
    let code = c.line.readout.code in
    let left = c.line.readout.left in
    let same : r.bits ≡ bits_left code (suc (left - 1)) = e ∙ ap (bits_left code) k.before in
    let within : suc (left - 1) < 8 = omega (arith, k.within) in
    settled_bits r.dout (dout c) r.bits known s (ap (λ t. eqb t 0) same ∙ bits_some (suc (left - 1)) code within k.small)
    ∙ ap₂ (λ t d. t % 128 * 2 + bit_value d) same (dout_next c k)
    ∙ bits_more (left - 1) code k.within k.small
