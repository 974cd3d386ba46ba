-- Bits clocked into a chain: any number of bits, any number of chips, whatever the latches were.
--     between            with the keypad off before the last chip, what a chip takes is the latch before it
--     held_row_lem           so registers and latches move by themselves, at any sample, LOAD rise or not
--     fall_rise          a fall and then a rise of DCLK push one bit through the registers
--     registers_below    registers of valid chips are below 4096
--     registers_length   there is a register for each of the first n chips
-- Assumes nothing.
use mathlib.Core.Path.{◌≡◌, refl, ap, ap₂, ◌∙◌}
use mathlib.Core.Bool.{Bool, true, false}
use mathlib.Core.List.{List, [], ◌∷◌, map}
use Prim.Native.Nat.{ℕ, zero, suc, ◌+◌, ◌*◌, ◌/◌, ◌%◌, ◌≤◌, suc-le-suc}
use native.Mathlib.Nat.{not-suc-le-zero, le_of_suc-le-suc}
use lib.Dec.{T, eqb}
use lib.ListN.{length}
use Rattle.base.specs.Pick.{pick}
use Rattle.base.specs.Bits.{cut, bit, bit_value}
use Rattle.base.proofs.Picks.{pick_yes, pick_no, pick_ap, pick_cases}
use Rattle.base.proofs.Cuts.{cut_lt, cut_zero}
use Rattle.base.proofs.Tests.{eq_below, and_left, and_right}
use Rattle.chip.specs.declared.LineParts.{LineParts}
use Rattle.chip.specs.declared.Chip.{Chip}
use Rattle.chip.specs.Record.{valid, with_line}
use Rattle.chip.specs.Edges.{dclk_falls, dclk_rises, load_rises, clocked, clocked_in, clocked_out, loaded, stepped, shifted}
use Rattle.chip.proofs.Quiet.{loaded_register, loaded_latch, dout_latch}
use Rattle.chip.proofs.Valid.{valid_facts}
use Rattle.chain.specs.Chain.{all_valid, stepped_row, KeypadLast}
use Rattle.chain.proofs.Shift.{push}
use Rattle.base.specs.Below.{AllBelow}

-- ---- the registers and latches of a chain

-- the registers of the first n chips
unfoldable pub registers : ℕ → List Chip → List ℕ
registers zero cs = []
registers (suc n) [] = []
registers (suc n) (c ∷ cs) = c.line.register ∷ registers n cs

-- one sample for the first n chips, each but the first taking the latch before it
unfoldable pub latch_row : ℕ → ℕ → ℕ → Bool → List Chip → List Chip
latch_row zero was now d cs = cs
latch_row (suc n) was now d [] = []
latch_row (suc n) was now d (c ∷ cs) = stepped was now d c ∷ latch_row n was now c.line.latch cs

-- the line parts that bits move through: register and latch
pub record Held : Type 0 where
  pub register : ℕ
  pub latch : Bool

-- a chip's register and latch
abbrev pub held_of : Chip → Held
held_of c = record { register = c.line.register; latch = c.line.latch }

-- the registers and latches of the first n chips
unfoldable pub held : ℕ → List Chip → List Held
held zero cs = []
held (suc n) [] = []
held (suc n) (c ∷ cs) = held_of c ∷ held n cs

-- DCLK fall: the latch takes register bit 0
abbrev pub fallen : Held → Held
fallen h = record { register = h.register; latch = bit h.register 0 }

-- DCLK rise: DIN enters the register
abbrev pub risen : Bool → Held → Held
risen d h = record { register = shifted h.register d; latch = h.latch }

-- one sample for registers and latches alone
unfoldable pub held_row : ℕ → ℕ → Bool → List Held → List Held
held_row was now d [] = []
held_row was now d (h ∷ hs) = pick (dclk_falls was now) (fallen h) (pick (dclk_rises was now) (risen d h) h) ∷ held_row was now h.latch hs

-- ---- registers and latches alone

pub between : (n was now : ℕ) (d : Bool) (cs : List Chip) → KeypadLast n cs → stepped_row n was now d cs ≡ latch_row n was now d cs
unfolding stepped_row latch_row
between zero was now d cs k = refl
between (suc zero) was now d [] k = refl
between (suc zero) was now d (c ∷ cs) k = refl
between (suc (suc n)) was now d [] k = refl
between (suc (suc n)) was now d (c ∷ cs) k =
    ap (λ r. stepped was now d c ∷ r) (ap (λ x. stepped_row (suc n) was now x cs) (dout_latch c k.0) ∙ between (suc n) was now c.line.latch cs k.1)

-- one sample for one chip
held_stepped : (was now : ℕ) (d : Bool) (c : Chip)
    → held_of (stepped was now d c) ≡ pick (dclk_falls was now) (fallen (held_of c)) (pick (dclk_rises was now) (risen d (held_of c)) (held_of c))
unfolding stepped clocked
held_stepped was now d c =
    pick_cases (λ x. held_of x ≡ held_of e) (load_rises was now) (λ h. same_held e) (λ h. refl)
    ∙ pick_ap part (dclk_falls was now) (clocked_out c.line) (pick (dclk_rises was now) (clocked_in d c.line) c.line)
    ∙ ap (λ x. pick (dclk_falls was now) (fallen (held_of c)) x) (pick_ap part (dclk_rises was now) (clocked_in d c.line) c.line)
  where
    e : Chip
    e = with_line (clocked was now d c.line) c

    part : LineParts → Held
    part l = record { register = l.register; latch = l.latch }

    same_held : (x : Chip) → held_of (loaded x) ≡ held_of x
    same_held x = λ i. record { register = loaded_register x i; latch = loaded_latch x i }

held_latch : (n was now : ℕ) (d : Bool) (cs : List Chip) → held n (latch_row n was now d cs) ≡ held_row was now d (held n cs)
unfolding latch_row held held_row
held_latch zero was now d cs = refl
held_latch (suc n) was now d [] = refl
held_latch (suc n) was now d (c ∷ cs) = ap₂ (λ x xs. x ∷ xs) (held_stepped was now d c) (held_latch n was now c.line.latch cs)

pub held_row_lem : (n was now : ℕ) (d : Bool) (cs : List Chip) → KeypadLast n cs → held n (stepped_row n was now d cs) ≡ held_row was now d (held n cs)
held_row_lem n was now d cs k = ap (held n) (between n was now d cs k) ∙ held_latch n was now d cs

-- ---- one bit

abbrev registers_in : List Held → List ℕ
registers_in hs = map (λ (h : Held). h.register) hs

-- the registers are those held
registers_held : (n : ℕ) (cs : List Chip) → registers_in (held n cs) ≡ registers n cs
unfolding registers held
registers_held zero cs = refl
registers_held (suc n) [] = refl
registers_held (suc n) (c ∷ cs) = ap (λ rs. c.line.register ∷ rs) (registers_held n cs)

-- the lowest bit as a number
bit_value_back : (r : ℕ) → bit_value (bit r 0) ≡ r % 2
bit_value_back r = eq_below (λ x. bit_value (eqb x 1)) (λ x. x) 2 tt (cut r 0 1) (cut_lt r 0 1) ∙ cut_zero r 1

pub fall_rise : (was mid now : ℕ) (d e : Bool) (hs : List Held)
    → dclk_falls was mid ≡ true → dclk_falls mid now ≡ false → dclk_rises mid now ≡ true
    → registers_in (held_row mid now e (held_row was mid d hs)) ≡ push (bit_value e) (registers_in hs)
unfolding held_row push
fall_rise was mid now d e [] f s r = refl
fall_rise was mid now d e (h ∷ hs) f s r =
    ap₂ (λ x xs. x ∷ xs)
    (ap (λ (x : Held). x.register) (pick_no _ _ s ∙ pick_yes _ _ r) ∙ ap (λ (x : Held). x.register / 2 + 2048 * bit_value e) fell)
    (fall_rise was mid now h.latch low_held.latch hs f s r
    ∙ ap (λ x. push x (registers_in hs)) (ap (λ (x : Held). bit_value x.latch) fell ∙ bit_value_back h.register))
  where
    low_held : Held
    low_held = pick (dclk_falls was mid) (fallen h) (pick (dclk_rises was mid) (risen d h) h)

    fell : low_held ≡ fallen h
    fell = pick_yes _ _ f

-- ---- the registers of valid chips

pub registers_below : (n : ℕ) (cs : List Chip) → T (all_valid n cs) → AllBelow 4096 (registers n cs)
unfolding registers all_valid
registers_below zero cs v = tt
registers_below (suc n) [] v = tt
registers_below (suc n) (c ∷ cs) v =
    let h = ((valid_facts c).0 (and_left (valid c) (all_valid n cs) v)).register in
    (suc-le-suc h, registers_below n cs (and_right (valid c) (all_valid n cs) v))

pub registers_length : (n : ℕ) (cs : List Chip) → n ≤ length cs → length (registers n cs) ≡ n
unfolding registers
registers_length zero cs h = refl
registers_length (suc n) [] h = absurd (not-suc-le-zero h)
registers_length (suc n) (c ∷ cs) h = ap suc (registers_length n cs (le_of_suc-le-suc h))
