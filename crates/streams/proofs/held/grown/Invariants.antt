-- `streams::held::grown` meets its contract. The invariant: what is held, grown by what is left, is what it is to become.
-- Assumes nothing.
use Rattle.std.proofs.Common.{◌≡◌, length, drop}
use Rattle.streams.specs.Held.{grown_by}
use Rattle.streams.proofs.held.grown.Given as goal

abbrev pub invariant-loop-b : goal.invariant-loop-b
invariant-loop-b l = (length l.next.bytes ≡ 66) × (grown_by l.next (drop l.b-index l.more) ≡ grown_by l.initial.next l.more)
