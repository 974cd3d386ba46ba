-- `streams::feed` meets its contract.
-- Assumes nothing.
use Rattle.std.proofs.Common.{◌≡◌, length, arith, rules}
use Rattle.streams.proofs.Feeding.{feeds_so}
use Rattle.streams.proofs.feed.Goals as goal

pub returns-clause-feeds : goal.returns-clause-feeds
returns-clause-feeds c =
    let a = c.args in
    let all : length a.out.now ≡ 777920 = search rules in
    (feeds_so {passed = c.min-passed.result} (search rules) (omega arith) c.block-written.ensures).0
