-- `zhaqsumir::chains::chain_of` meets its contract: the chips below N, each of its numbers, reset chips after them, and the levels.
-- Assumes nothing.
use mathlib.Core.Path.{◌≡◌, ap, sym, ◌∙◌}
use mathlib.Core.List.{List, ◌++◌}
use Prim.Native.Nat.{ℕ, ◌+◌, ◌-◌, ◌≤◌, ◌<◌, min}
use native.Mathlib.Omega.{arith}
use lib.ListN.{length, get_or, drop, length-append, length-drop, get_or-append}
use lib.Seq.{length-take-le}
use Rattle.std.proofs.lemmas.List.{get_or-drop, get_or-append_right, get_or-set_same, get_or-set_other, ext_get_or}
use borrow.Author.Count.{below_more}
use borrow.Author.Tests.{lt-ltb, le-ltb}
use borrow.Author.Rules.{rules}
use Rattle.base.specs.Pick.{pick}
use Rattle.base.proofs.Picks.{pick_yes, pick_no}
use Rattle.base.proofs.Tests.{by_order}
use lib.Dec.{ltb}
use Rattle.chip.specs.declared.Chip.{Chip}
use Rattle.chip.specs.Record.{reset_chip}
use Rattle.zhaqsumir.specs.Panels.{chip_of, from_chip, count_in}
use Rattle.zhaqsumir.proofs.ChainRows.{part_rest}
use Rattle.zhaqsumir.proofs.Counts.{at_places, place_at}
use Rattle.zhaqsumir.proofs.chains.chain_of.Goals as goal

-- a chain's chips, all reset
abbrev resets : List Chip
resets = at_places (λ k. reset_chip) 8

-- the first m of them set, which are those below n
module _ (h : ℕ → Chip) (n m : ℕ) (first : List Chip) (few : m ≡ min n 8) (size : length first ≡ m) (each : (k : ℕ) → k < m → get_or first k reset_chip ≡ h k) where
  chip_set : (k : ℕ) → k < 8 → get_or (first ++ drop m resets) k reset_chip ≡ pick (ltb k n) (h k) reset_chip
  chip_set k l =
      by_order m k
      (λ past.
      get_or-append_right first (drop m resets) m k reset_chip size past
      ∙ get_or-drop m resets (k - m) reset_chip
      ∙ place_at (λ j. reset_chip) 8 (m + (k - m)) reset_chip (omega arith)
      ∙ sym (pick_no (h k) reset_chip (le-ltb k n (omega arith))))
      (λ before. get_or-append first (drop m resets) reset_chip k (omega arith) ∙ each k before ∙ sym (pick_yes (h k) reset_chip (lt-ltb k n (omega arith))))

  chips_set : first ++ drop m resets ≡ at_places (λ k. pick (ltb k n) (h k) reset_chip) 8
  chips_set =
      let eight : length (first ++ drop m resets) ≡ 8 = omega (arith, length-append first (drop m resets), length-drop m resets) in
      ext_get_or reset_chip (first ++ drop m resets) _ eight
      (λ k l. let below : k < 8 = omega arith in chip_set k below ∙ sym (place_at (λ j. pick (ltb j n) (h j) reset_chip) 8 k reset_chip below))

pub loop-k-preserved : goal.loop-k-preserved
loop-k-preserved c =
    let l = c.loop-k in
    let before = λ (j : ℕ) (h : j < l.k). get_or-set_other l.first l.k j c.chip_of.result reset_chip (λ e. omega arith) ∙ l.invariant j h in
    below_more _ _ before (get_or-set_same l.first l.k c.chip_of.result reset_chip (omega arith) ∙ search (rules, part_rest))

pub returns : goal.returns
unfolding Rattle.zhaqsumir.specs.Panels.chain_of
returns c =
    let ns = c.args.numbers.now in
    let l = c.loop-k in
    let m = c.min.result in
    let few : m ≤ 8 = omega arith in
    let size : length l.first ≡ m = l.auto.first ∙ length-take-le m _ few in
    let blank = ap (λ r. l.first ++ drop m (at_places (λ k. r) 8)) c.reset_chip-chips.ensures in
    let set = chips_set (λ k. chip_of (from_chip k ns)) (count_in ns) m l.first c.min.ensures size (λ k h. l.invariant k (omega arith)) in
    λ i. record { chips = (blank ∙ set) i; levels = c.byte_at.ensures i }
