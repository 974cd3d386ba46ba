-- `reads::ahead::look_ahead` meets its contract. The invariant: what was looked at is as it should be for any chain whose last chip and levels
-- these are.
-- Assumes nothing.
use Rattle.std.proofs.Common.{◌≡◌, length}
use Rattle.chain.specs.declared.Chain.{Chain}
use Rattle.chain.specs.Chain.{most}
use Rattle.reads.specs.Reads.{last_chip}
use Rattle.reads.proofs.Watching.{Watching}
use Rattle.reads.proofs.ahead.look_ahead.Given as goal

abbrev pub invariant-loop-i : goal.invariant-loop-i
invariant-loop-i l =
    (ch : Chain) → length ch.chips ≡ most → l.initial.last ≡ last_chip l.n ch → l.initial.was ≡ ch.levels
    → Watching l.n l.offset l.bytes ch l.initial.seen l.initial.end l.initial.out l.last (record { reader = l.seen; count = l.i; levels = l.was; at = l.end }) l.known l.out
