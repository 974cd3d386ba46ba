-- `zhaqsumir::chips::numbers_of` meets its contract: each part by its number, and the eight digits.
-- Assumes nothing.
use mathlib.Core.Path.{◌≡◌, ap, sym, ◌∙◌}
use mathlib.Core.List.{List, ◌++◌, append_assoc}
use Prim.Native.Nat.{ℕ}
use native.Mathlib.Omega.{arith}
use lib.ListN.{length, length-append, drop, replicate}
use borrow.Author.Rules.{rules}
use borrow.Rule.Slice.PartMut.{put_mid}
use Rattle.zhaqsumir.specs.Panels.{record_numbers}
use Rattle.zhaqsumir.proofs.ChainRows.{put_at}
use Rattle.zhaqsumir.proofs.chips.numbers_of.Goals as goal

pub returns : goal.returns
unfolding record_numbers
returns c =
    let xs : List ℕ = c.copy_from_slice.new.self in
    let ds : List ℕ = c.copy_from_slice-2.new.self in
    let ks : List ℕ = c.copy_from_slice-3.new.self in
    let zeros : List ℕ = replicate 11 0 in
    let before : length xs ≡ 14 = search rules in
    let both : length (xs ++ ds) ≡ 22 = omega (arith, length-append xs ds, c.copy_from_slice-2.ensures.len, before) in
    ap (λ ns. put_mid 22 3 ns ks) (put_at xs zeros ds 14 8 before ∙ sym (append_assoc xs ds (drop 8 zeros)))
    ∙ put_at (xs ++ ds) (drop 8 zeros) ks 22 3 both
    ∙ search rules
