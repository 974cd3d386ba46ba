-- `zhaqsumir::chips::wide` meets its contract: each byte by the number that it is.
-- Assumes nothing.
use native.Mathlib.Omega.{arith}
use borrow.Author.Rules.{rules}
use Rattle.std.proofs.lemmas.List.{same_lists}
use Rattle.zhaqsumir.proofs.chips.wide.Goals as goal

pub returns : goal.returns
returns g c =
    let m = c.map.ensures.items in
    same_lists c.map.result c.args.bytes (search rules) (λ k d h. let call = m.at k d d (omega (arith, m.long)) in search rules)
