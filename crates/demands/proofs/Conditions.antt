-- The tests of the definitions and document 01's conditions: each test fails exactly when its refusal is given.
--     Tests                            a test fails exactly when a condition holds
--     leb_tests, ltb_tests, eqb_tests  tests of numbers
--     both_tests                       two tests
--     count_tests, legal_tests         3, 9
--     valid_tests, chain_tests         12, of a chip and of a chain
-- Assumes nothing.
use mathlib.Core.Path.{◌≡◌, refl, sym, subst}
use mathlib.Core.Bool.{Bool, true, false, ◌&&◌, ◌||◌}
use mathlib.Core.Logic.{◌⊎◌, inl, inr}
use mathlib.Core.List.{List, [], ◌∷◌}
use Prim.Native.Nat.{ℕ, zero, suc, ◌≤◌, ◌<◌, suc-le-suc}
use native.Mathlib.Nat.{le_of_suc-le-suc, zero-lt-suc, not-suc-le-zero}
use native.Mathlib.Omega.{arith}
use borrow.Author.Tests.{le-leb, lt-leb, lt-ltb, le-ltb, eq-eqb, ne_eqb}
use lib.Dec.{leb, ltb, eqb}
use lib.ListN.{get_or}
use Rattle.base.proofs.Tests.{by_order, by_equality}
use Rattle.word.specs.declared.Command.{Command}
use Rattle.word.specs.declared.Command.TheVariants.{NoOperation, BarLevel, SegmentClear, SegmentSet, Reset, Sleep, ShiftLeft, ShiftRight, RotateLeft, RotateRight, CustomCharacter, SystemParameters, DisplayParameters, BlinkByte, ReadKey, LoadDigit}
use Rattle.word.specs.Words.{legal}
use Rattle.chip.specs.declared.Chip.{Chip}
use Rattle.chip.specs.Record.{none, valid, reset_chip}
use Rattle.chain.specs.declared.Chain.{Chain}
use Rattle.chain.specs.Chain.{most, chip_count, all_valid, valid_chain}
use Rattle.demands.specs.Refusals.{NotOneToMost, OutOfRange, Unheld, register, custom, code, limit, readout, left, last, UnheldChain}

-- a test that is failed exactly when a condition holds
pub data Tests (given : Type 0) : Bool → Type 0 where
  passed : (given → ⊥) → Tests given true
  failed : given → Tests given false

-- the same condition in other words
pub same_tests : {G H : Type 0} {b : Bool} → (G → H) → (H → G) → Tests G b → Tests H b
same_tests f g (passed n) = passed (λ h. n (g h))
same_tests f g (failed y) = failed (f y)

-- ---- numbers

pub leb_tests : (m n : ℕ) → Tests (n < m) (leb m n)
leb_tests m n =
    by_order m n (λ h. subst (Tests (n < m)) (sym (le-leb m n h)) (passed (λ l. omega arith)))
    (λ h. subst (Tests (n < m)) (sym (lt-leb m n h)) (failed h))

pub ltb_tests : (m n : ℕ) → Tests (n ≤ m) (ltb m n)
ltb_tests m n =
    by_order n m (λ h. subst (Tests (n ≤ m)) (sym (le-ltb m n h)) (failed h))
    (λ h. subst (Tests (n ≤ m)) (sym (lt-ltb m n h)) (passed (λ l. omega arith)))

pub eqb_tests : (m n : ℕ) → Tests (m ≡ n → ⊥) (eqb m n)
eqb_tests m n =
    by_equality m n (λ e. subst (Tests (m ≡ n → ⊥)) (sym (eq-eqb m n e)) (passed (λ ne. ne e)))
    (λ ne. subst (Tests (m ≡ n → ⊥)) (sym (ne_eqb m n ne)) (failed ne))

-- ---- two tests

pub neither : {G H : Type 0} → (G → ⊥) → (H → ⊥) → G ⊎ H → ⊥
neither s t (inl g) = s g
neither s t (inr h) = t h

pub both_tests : {G H : Type 0} {a b : Bool} → Tests G a → Tests H b → Tests (G ⊎ H) (a && b)
both_tests (passed s) (passed t) = passed (neither s t)
both_tests (passed s) (failed t) = failed (inr t)
both_tests (failed s) t = failed (inl s)

pub either_tests : {G H : Type 0} {a b : Bool} → Tests G a → Tests H b → Tests (G × H) (a || b)
either_tests (passed s) t = passed (λ y. s y.0)
either_tests (failed s) (passed t) = passed (λ y. t y.1)
either_tests (failed s) (failed t) = failed (s, t)

-- ---- 3, 9

pub count_tests : (n : ℕ) → Tests (NotOneToMost n) (chip_count n)
count_tests n = both_tests (leb_tests 1 n) (leb_tests n most)

pub legal_tests : (c : Command) → Tests (OutOfRange c) (legal c)
legal_tests NoOperation = passed (λ y. y)
legal_tests (BarLevel level) = leb_tests level 127
legal_tests (SegmentClear addr) = leb_tests addr 63
legal_tests (SegmentSet addr) = leb_tests addr 63
legal_tests Reset = passed (λ y. y)
legal_tests Sleep = passed (λ y. y)
legal_tests ShiftLeft = passed (λ y. y)
legal_tests ShiftRight = passed (λ y. y)
legal_tests RotateLeft = passed (λ y. y)
legal_tests RotateRight = passed (λ y. y)
legal_tests (CustomCharacter shape) = leb_tests shape 127
legal_tests (SystemParameters s) = passed (λ y. y)
legal_tests (DisplayParameters d) = leb_tests d.limit 7
legal_tests (BlinkByte byte) = leb_tests byte 255
legal_tests ReadKey = passed (λ y. y)
legal_tests (LoadDigit dig byte) = both_tests (leb_tests dig 7) (leb_tests byte 255)

-- ---- 12

-- the tests of a record, one after another
abbrev SixUnheld : Chip → Type 0
SixUnheld c =
    (((4095 < c.line.register)
    ⊎ ((7 < c.line.readout.left) ⊎ ((c.line.readout.left ≡ 0 → ⊥) × (127 < c.line.readout.code))))
    ⊎ ((127 < c.settings.custom) ⊎ (7 < c.settings.display.limit)))
    ⊎ ((127 < c.keys.code) ⊎ (none < c.keys.last))

to_unheld : (c : Chip) → SixUnheld c → Unheld c
to_unheld c (inl (inl (inl h))) = register h
to_unheld c (inl (inl (inr (inl h)))) = left h
to_unheld c (inl (inl (inr (inr y)))) =
    let ne = y.0 in
    by_order c.line.readout.left 0 (λ l. absurd (ne (omega arith))) (λ l. readout l y.1)
to_unheld c (inl (inr (inl h))) = custom h
to_unheld c (inl (inr (inr h))) = limit h
to_unheld c (inr (inl h)) = code h
to_unheld c (inr (inr h)) = last (λ e. omega arith) (omega arith)

from_unheld : (c : Chip) → Unheld c → SixUnheld c
from_unheld c (register h) = inl (inl (inl h))
from_unheld c (custom h) = inl (inr (inl h))
from_unheld c (code h) = inr (inl h)
from_unheld c (limit h) = inl (inr (inr h))
from_unheld c (readout l h) = inl (inl (inr (inr ((λ e. omega arith), h))))
from_unheld c (left h) = inl (inl (inr (inl h)))
from_unheld c (last ne h) = by_order c.keys.last none (λ l. absurd (ne (omega arith))) (λ l. inr (inr l))

pub valid_tests : (c : Chip) → Tests (Unheld c) (valid c)
unfolding valid
valid_tests c =
    let r = c.line.readout in
    same_tests (to_unheld c) (from_unheld c)
    (both_tests
    (both_tests
    (both_tests (leb_tests c.line.register 4095)
    (both_tests (leb_tests r.left 7) (either_tests (eqb_tests r.left 0) (leb_tests r.code 127))))
    (both_tests (leb_tests c.settings.custom 127) (leb_tests c.settings.display.limit 7)))
    (both_tests (leb_tests c.keys.code 127) (leb_tests c.keys.last none)))

-- a record below n that no chip can hold
abbrev SomeUnheld : ℕ → List Chip → Type 0
SomeUnheld n cs = (k : ℕ) × (k < n) × Unheld (get_or cs k reset_chip)

reset_held : Unheld reset_chip → ⊥
reset_held (register h) = omega arith
reset_held (custom h) = omega arith
reset_held (code h) = omega arith
reset_held (limit h) = omega arith
reset_held (readout l h) = omega arith
reset_held (left h) = omega arith
reset_held (last ne h) = ne refl

one_more : (n : ℕ) (c : Chip) (cs : List Chip) → Unheld c ⊎ SomeUnheld n cs → SomeUnheld (suc n) (c ∷ cs)
one_more n c cs (inl u) = (0, zero-lt-suc n, u)
one_more n c cs (inr y) = (suc y.0, suc-le-suc y.1, y.2)

one_less : (n : ℕ) (c : Chip) (cs : List Chip) (k : ℕ) → k < suc n → Unheld (get_or (c ∷ cs) k reset_chip) → Unheld c ⊎ SomeUnheld n cs
one_less n c cs zero h u = inl u
one_less n c cs (suc k) h u = inr (k, le_of_suc-le-suc h, u)

all_tests : (n : ℕ) (cs : List Chip) → Tests (SomeUnheld n cs) (all_valid n cs)
unfolding all_valid
all_tests zero cs = passed (λ y. not-suc-le-zero y.1)
all_tests (suc n) [] = passed (λ y. reset_held y.2)
all_tests (suc n) (c ∷ cs) =
    same_tests (one_more n c cs) (λ y. one_less n c cs y.0 y.1 y.2) (both_tests (valid_tests c) (all_tests n cs))

pub chain_tests : (n : ℕ) (ch : Chain) → Tests (UnheldChain n ch) (valid_chain n ch)
chain_tests n ch = both_tests (all_tests n ch.chips) (leb_tests ch.levels 7)
