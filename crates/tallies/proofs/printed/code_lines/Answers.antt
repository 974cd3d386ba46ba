-- `tallies::printed::code_lines` meets its contract.
-- Assumes nothing.
use Rattle.std.proofs.Common.{◌≡◌, refl, arith, rules, length}
use Rattle.tallies.specs.Printed.{code_line}
use Rattle.lines.proofs.Each.{left_room, left_more, left_over}
use Rattle.tallies.proofs.printed.code_lines.Goals as goal

pub code_line-end-requires : goal.code_line-end-requires
code_line-end-requires c =
    let a = c.args in
    let size : length a.codes ≡ 128 = search rules in
    left_room code_line a.codes a.at a.out.now c.requires c.loop-code.invariant 0 _ (omega (arith, size, c.loop-code-test.true)) refl

pub loop-code-preserved : goal.loop-code-preserved
loop-code-preserved c =
    let a = c.args in
    let size : length a.codes ≡ 128 = search rules in
    left_more code_line a.codes a.at a.out.now c.requires c.loop-code.invariant 0 _ (omega (arith, size, c.loop-code-test.true)) refl c.code_line-end.ensures

pub returns : goal.returns
returns c =
    let a = c.args in
    let size : length a.codes ≡ 128 = search rules in
    left_over code_line a.codes a.at a.out.now c.requires c.loop-code.invariant (omega (arith, size, c.loop-code-test.false))
