-- The first records of a chain, each held by its fields: `HeldChip` of the chip crate.
--     AllHeld           of the first n records
--     row_held          a sample leaves them so
--     played_held       and so does a block
--     set_held          and what is done to one record, where it leaves each record so
--     played_length     a block keeps the number of records
-- Assumes nothing.
use mathlib.Core.Path.{◌≡◌, refl, ◌∙◌}
use mathlib.Core.Bool.{Bool}
use mathlib.Core.List.{List, [], ◌∷◌}
use Prim.Native.Nat.{ℕ, zero, suc}
use lib.ListN.{length, get_or, set}
use Rattle.chip.specs.declared.Chip.{Chip}
use Rattle.chip.specs.Record.{reset_chip}
use Rattle.chip.specs.Commands.{dout}
use Rattle.chip.specs.Edges.{din}
use Rattle.chip.proofs.Held.{HeldChip, stepped_held}
use Rattle.chain.specs.declared.Chain.{Chain}
use Rattle.chain.specs.Chain.{stepped_row, stepped_chain, played}
use Rattle.chain.proofs.Rest.{row_length}

-- the first n records are held
abbrev pub AllHeld : ℕ → List Chip → Type 0
AllHeld zero cs = Unit {0}
AllHeld (suc n) [] = Unit {0}
AllHeld (suc n) (c ∷ cs) = HeldChip c × AllHeld n cs

pub row_held : (n was now : ℕ) (d : Bool) (cs : List Chip) → AllHeld n cs → AllHeld n (stepped_row n was now d cs)
unfolding stepped_row
row_held zero was now d cs h = h
row_held (suc n) was now d [] h = h
row_held (suc n) was now d (c ∷ cs) h = (stepped_held was now d c h.0, row_held n was now (dout c) cs h.1)

pub played_held : (n : ℕ) (ss : List ℕ) (ch : Chain) → AllHeld n ch.chips → AllHeld n (played n ss ch).chips
unfolding played
played_held n [] ch h = h
played_held n (s ∷ ss) ch h = played_held n ss (stepped_chain n s ch) (row_held n ch.levels s (din s) ch.chips h)

pub played_length : (n : ℕ) (ss : List ℕ) (ch : Chain) → length (played n ss ch).chips ≡ length ch.chips
unfolding played
played_length n [] ch = refl
played_length n (s ∷ ss) ch = played_length n ss (stepped_chain n s ch) ∙ row_length n ch.levels s (din s) ch.chips

pub set_held : (n k : ℕ) (cs : List Chip) (f : Chip → Chip) → ((c : Chip) → HeldChip c → HeldChip (f c)) → AllHeld n cs → AllHeld n (set cs k (f (get_or cs k reset_chip)))
set_held zero k cs f each h = h
set_held (suc n) k [] f each h = h
set_held (suc n) zero (c ∷ cs) f each h = (each c h.0, h.1)
set_held (suc n) (suc k) (c ∷ cs) f each h = (h.0, set_held n k cs f each h.1)
