-- `zhaqsumir::kept::put_all` meets its contract. The invariant: the numbers of the chips left, put where the loop stands, make the whole.
-- Assumes nothing.
use mathlib.Core.Path.{◌≡◌, refl, subst}
use mathlib.Core.List.{List}
use Prim.Native.Nat.{ℕ, ◌+◌, ◌≤◌}
use native.Mathlib.Omega.{arith}
use lib.ListN.{length, get_or}
use Rattle.base.proofs.Lent.{fills_start}
use Rattle.base.proofs.Lists.{length_mapped}
use Rattle.lines.specs.Answers.{Puts}
use Rattle.lines.proofs.Each.{lines_left, left_room, left_more, left_over}
use Rattle.settings.specs.declared.Kept.{Kept}
use Rattle.settings.specs.Settings.{no_kept}
use Rattle.zhaqsumir.specs.Settings.{kept_numbers, chips_numbers}
use Rattle.zhaqsumir.proofs.SettingsNumbers.{chips_long}
use borrow.Author.Rules.{rules}
use Rattle.zhaqsumir.proofs.kept.put_all.Goals as goal

-- a chip's numbers, whichever chip it is
abbrev own : ℕ → Kept → List ℕ
own k c = kept_numbers c

-- room for all
fits_whole : (from : ℕ) (cs : List Kept) (out : List ℕ) → length cs ≡ 8 → from + 72 ≤ length out → from + length (chips_numbers cs) ≤ length out
fits_whole from cs out e h = omega (arith, chips_long cs)

-- the same numbers put
put_as : {piece same out out' : List ℕ} {at r : ℕ} → piece ≡ same → Puts piece at out r out' → Puts same at out r out'
put_as {out = out} {out' = out'} {at = at} {r = r} e p = subst (λ xs. Puts xs at out r out') e p

pub loop-c-init : goal.loop-c-init
loop-c-init c = fills_start c.args.from (lines_left own c.args.chips 0) c.args.numbers.now

pub put-end-requires : goal.put-end-requires
put-end-requires c =
    let a = c.args in
    let l = c.loop-c in
    let eight : length a.chips ≡ 8 = search (rules, length_mapped) in
    let all = fits_whole a.from a.chips a.numbers.now eight c.requires in
    left_room own a.chips a.from a.numbers.now all l.invariant no_kept (get_or a.chips l.c-index no_kept) (omega arith) refl

pub loop-c-preserved : goal.loop-c-preserved
loop-c-preserved c =
    let a = c.args in
    let l = c.loop-c in
    let eight : length a.chips ≡ 8 = search (rules, length_mapped) in
    let all = fits_whole a.from a.chips a.numbers.now eight c.requires in
    left_more own a.chips a.from a.numbers.now all l.invariant _ _ (omega arith) refl (put_as c.numbers_of.ensures c.put-end.ensures)

pub returns : goal.returns
returns c =
    let a = c.args in
    let l = c.loop-c in
    let eight : length a.chips ≡ 8 = search (rules, length_mapped) in
    let all = fits_whole a.from a.chips a.numbers.now eight c.requires in
    left_over own a.chips a.from a.numbers.now all l.invariant (omega arith)
