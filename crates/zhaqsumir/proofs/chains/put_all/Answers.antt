-- `zhaqsumir::chains::put_all` meets its contract. The invariant: the numbers of the records before this one are put after N and the
-- levels.
-- Assumes nothing.
use mathlib.Core.Path.{◌≡◌, refl, ap, sym, ◌∙◌}
use mathlib.Core.List.{◌∷◌, ◌++◌}
use Prim.Native.Nat.{◌+◌, ◌*◌, ◌≤◌}
use native.Mathlib.Omega.{arith}
use lib.ListN.{length, set, take, length-append, length-set, length-take}
use Rattle.base.specs.Lent.{laid, placed}
use Rattle.base.proofs.Lent.{placed_none}
use Rattle.base.proofs.Lists.{length_mapped}
use Rattle.zhaqsumir.specs.Panels.{row_numbers}
use Rattle.zhaqsumir.proofs.ChainRows.{rows_more, rows_few, chip_put, head_put}
use borrow.Author.Rules.{rules}
use Rattle.zhaqsumir.proofs.chains.put_all.Goals as goal

pub loop-k-init : goal.loop-k-init
unfolding row_numbers
loop-k-init c = (refl, refl, sym (placed_none _ 2))

pub loop-k-preserved : goal.loop-k-preserved
loop-k-preserved c =
    let a = c.args in
    let l = c.loop-k in
    let piece = c.numbers_of in
    let k = l.k in
    let cs = take c.min.result a.chain.chips in
    let ns = set (set a.numbers.now 0 a.n) 1 c.from.result in
    let size : length ns ≡ length a.numbers.now = length-set (set a.numbers.now 0 a.n) 1 c.from.result ∙ length-set a.numbers.now 0 a.n in
    let all : length a.chain.chips ≡ 8 = search (rules, length_mapped) in
    let few : length cs ≤ 8 = omega (arith, length-take c.min.result a.chain.chips) in
    let whole : length piece.result ≡ 25 = search rules in
    let more : row_numbers (k + 1) cs ≡ row_numbers k cs ++ piece.result = rows_more k cs _ c.loop-k-test.true ∙ ap (λ r. row_numbers k cs ++ r) (sym piece.ensures) in (
      search rules,
      ap length more ∙ omega (arith, length-append (row_numbers k cs) piece.result),
      c.put.ensures ∙ ap (placed (2 + 25 * k) piece.result) l.invariant.2 ∙ chip_put ns (row_numbers k cs) piece.result k l.invariant.1 whole (omega arith)
          ∙ ap (λ w. placed 2 w ns) (sym more),
    )

pub returns : goal.returns
returns c =
    let a = c.args in
    let l = c.loop-k in
    let cs = a.chain.chips in
    let all : length cs ≡ 8 = search (rules, length_mapped) in
    let few : length (take c.min.result cs) ≤ 8 = omega (arith, length-take c.min.result cs) in
    let over : l.k ≡ length (take c.min.result cs) = omega arith in
    let rows : row_numbers l.k (take c.min.result cs) ≡ row_numbers a.count cs = ap (λ m. row_numbers m (take c.min.result cs)) over ∙ ap (λ m. row_numbers (length (take m cs)) (take m cs)) c.min.ensures ∙ rows_few a.count 8 cs all in
    l.invariant.2
    ∙ (λ i. placed 2 (row_numbers l.k (take c.min.result cs)) (set (set a.numbers.now 0 a.n) 1 (c.from.ensures i)))
    ∙ head_put a.numbers.now (row_numbers l.k (take c.min.result cs)) a.n a.chain.levels (omega arith)
    ∙ ap (λ w. laid (a.n ∷ a.chain.levels ∷ w) a.numbers.now) rows
