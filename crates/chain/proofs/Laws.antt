-- What samples leave of a chain, whatever they are: for any number of chips.
--     played_append      a block played in two parts
--     played_levels      the levels kept are those of the last sample
--     row_rest           records from n on stay, at a sample
--     played_rest        and in a block
--     checked_below      samples that passed refusal 1's test are below 8
--     below_checked      and those below 8 pass it
--     row_valid          valid records stay valid, at a sample
--     played_valid       and a valid chain stays valid in a block of samples up to 7
--     quiet_row          with no LOAD rise a sample leaves settings, display and key record of every chip as they are
--     quiet_chain        the same of a chain
--     keypad_kept        chips that differ in line parts only are alike in where the keypad is on
--     one_alone          a scan or a command given to chip k leaves every other chip as it is
-- Assumes nothing.
use mathlib.Core.Path.{◌≡◌, refl, ap, ap₂, sym, ◌∙◌}
use mathlib.Core.Bool.{Bool, false}
use mathlib.Core.List.{List, [], ◌∷◌, ◌++◌, map, head-eq_of_cons-eq, tail-eq_of_cons-eq, nil≢cons}
use Prim.Native.Nat.{ℕ, zero, suc}
use native.Mathlib.Nat.{le_of_suc-le-suc}
use lib.Dec.{T, leb, le→leb}
use lib.ListN.{drop}
use lib.Seq.{get_or-set_other}
use Rattle.base.specs.Refusals.{done}
use Rattle.base.proofs.Tests.{and_left, and_right, and_both}
use Rattle.chip.specs.declared.Chip.{Chip}
use Rattle.chip.specs.Record.{Body, body_of, valid, reset_chip}
use Rattle.chip.specs.Commands.{dout}
use Rattle.chip.specs.Edges.{load_rises, din, stepped}
use Rattle.chip.proofs.Quiet.{quiet}
use Rattle.chip.proofs.Valid.{stepped_valid}
use Rattle.chain.specs.declared.Chain.{Chain}
use Rattle.base.proofs.Samples as Samples
use Rattle.chain.specs.Chain.{all_valid, valid_chain, checked_from, stepped_row, stepped_chain, played, KeypadLast}
use Rattle.chain.specs.Entries.{chip_at, with_chip}
use Rattle.base.specs.Below.{AllBelow}

-- ---- blocks

-- the last of so many samples, or the levels before them
unfoldable pub last_of : ℕ → List ℕ → ℕ
last_of levels [] = levels
last_of levels (s ∷ ss) = last_of s ss

pub played_append : (n : ℕ) (xs ys : List ℕ) (ch : Chain) → played n (xs ++ ys) ch ≡ played n ys (played n xs ch)
unfolding played
played_append n [] ys ch = refl
played_append n (x ∷ xs) ys ch = played_append n xs ys (stepped_chain n x ch)

pub played_levels : (n : ℕ) (ss : List ℕ) (ch : Chain) → (played n ss ch).levels ≡ last_of ch.levels ss
unfolding played last_of
played_levels n [] ch = refl
played_levels n (s ∷ ss) ch = played_levels n ss (stepped_chain n s ch)

-- ---- the records from n on

pub row_rest : (n was now : ℕ) (d : Bool) (cs : List Chip) → drop n (stepped_row n was now d cs) ≡ drop n cs
unfolding stepped_row
row_rest zero was now d cs = refl
row_rest (suc n) was now d [] = refl
row_rest (suc n) was now d (c ∷ cs) = row_rest n was now (dout c) cs

pub played_rest : (n : ℕ) (ss : List ℕ) (ch : Chain) → drop n (played n ss ch).chips ≡ drop n ch.chips
unfolding played
played_rest n [] ch = refl
played_rest n (s ∷ ss) ch = played_rest n ss (stepped_chain n s ch) ∙ row_rest n ch.levels s (din s) ch.chips

-- ---- validity

pub checked_below : (place : ℕ) (ss : List ℕ) → checked_from place ss ≡ done tt → AllBelow 8 ss
unfolding checked_from
checked_below = Samples.checked_below 7

pub below_checked : (place : ℕ) (ss : List ℕ) → AllBelow 8 ss → checked_from place ss ≡ done tt
unfolding checked_from
below_checked = Samples.below_checked 7

pub row_valid : (n was now : ℕ) (d : Bool) (cs : List Chip) → T (all_valid n cs) → T (all_valid n (stepped_row n was now d cs))
unfolding stepped_row all_valid
row_valid zero was now d cs v = v
row_valid (suc n) was now d [] v = v
row_valid (suc n) was now d (c ∷ cs) v =
    and_both (valid (stepped was now d c)) (all_valid n (stepped_row n was now (dout c) cs))
    (stepped_valid was now d c (and_left (valid c) (all_valid n cs) v))
    (row_valid n was now (dout c) cs (and_right (valid c) (all_valid n cs) v))

pub played_valid : (n : ℕ) (ss : List ℕ) (ch : Chain) → AllBelow 8 ss → T (valid_chain n ch) → T (valid_chain n (played n ss ch))
unfolding played
played_valid n [] ch below v = v
played_valid n (s ∷ ss) ch below v =
    played_valid n ss (stepped_chain n s ch) below.1
    (and_both (all_valid n (stepped_row n ch.levels s (din s) ch.chips)) (leb s 7)
    (row_valid n ch.levels s (din s) ch.chips (and_left (all_valid n ch.chips) (leb ch.levels 7) v))
    (le→leb s 7 (le_of_suc-le-suc below.0)))

-- ---- with no LOAD rise

pub quiet_row : (n was now : ℕ) (d : Bool) (cs : List Chip) → load_rises was now ≡ false
    → map body_of (stepped_row n was now d cs) ≡ map body_of cs
unfolding stepped_row
quiet_row zero was now d cs e = refl
quiet_row (suc n) was now d [] e = refl
quiet_row (suc n) was now d (c ∷ cs) e = ap₂ (λ x xs. x ∷ xs) (quiet was now d c e) (quiet_row n was now (dout c) cs e)

pub quiet_chain : (n s : ℕ) (ch : Chain) → load_rises ch.levels s ≡ false
    → map body_of (stepped_chain n s ch).chips ≡ map body_of ch.chips
quiet_chain n s ch = quiet_row n ch.levels s (din s) ch.chips

-- ---- what chips that differ in line parts only share

pub keypad_kept : (n : ℕ) (cs ds : List Chip) → map body_of cs ≡ map body_of ds → KeypadLast n cs → KeypadLast n ds
keypad_kept zero cs ds e k = tt
keypad_kept (suc zero) cs ds e k = tt
keypad_kept (suc (suc n)) cs [] e k = tt
keypad_kept (suc (suc n)) [] (d ∷ ds) e k = absurd (nil≢cons e)
keypad_kept (suc (suc n)) (c ∷ cs) (d ∷ ds) e k =
    (ap (λ (b : Body). b.settings.system.keyb) (sym (head-eq_of_cons-eq e)) ∙ k.0, keypad_kept (suc n) cs ds (tail-eq_of_cons-eq e) k.1)

-- ---- one chip of a chain

pub one_alone : (k j : ℕ) (c : Chip) (ch : Chain) → (j ≡ k → ⊥) → chip_at j (with_chip k c ch) ≡ chip_at j ch
one_alone k j c ch ne = get_or-set_other ch.chips k j c reset_chip ne
