-- `tallies::adds::one_more` meets its contract: a store at the code, where it has a place.
-- Assumes nothing.
use mathlib.Core.Path.{◌≡◌}
use Prim.Native.Nat.{◌+◌}
use native.Mathlib.Omega.{arith}
use lib.ListN.{length, get_or}
use borrow.Author.Tests.{leb-true}
use Rattle.tallies.specs.Tallies.{largest_count, has_room}
use Rattle.base.proofs.Every.{every_at}
use Rattle.tallies.proofs.Rises.{code_past, code_store}
use borrow.Author.Rules.{rules}
use Rattle.tallies.proofs.adds.one_more.Goals as goal

pub returns-else-at-lt128 : goal.returns-else-at-lt128
returns-else-at-lt128 c =
    let a = c.args in
    let size : length a.codes ≡ 128 = search rules in
    code_past a.code a.codes (omega arith)

pub overflow_add-next : goal.overflow_add-next
overflow_add-next c =
    let a = c.args in
    let size : length a.codes ≡ 128 = search rules in
    omega (arith, leb-true (get_or a.codes a.code 0 + 1) largest_count (every_at (has_room 1) a.codes a.code 0 c.requires (omega arith)))

pub returns-then-at-lt128 : goal.returns-then-at-lt128
returns-then-at-lt128 c =
    let a = c.args in
    let size : length a.codes ≡ 128 = search rules in
    code_store a.code a.codes (omega arith)
