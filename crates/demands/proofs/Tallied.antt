-- The insurer's second answer to its end: how many read words find an interrupt while one key is pressed.
--     answer_2_read, answer_2_read_broken     at most one
-- Assumes nothing.
use Rattle.chain.specs.Entries.{chip_at}
use Rattle.chain.specs.Events.{history_of}
use Rattle.tallies.proofs.OneRead.{one_read_lem, one_read_broken}
use Rattle.demands.specs.Tallies.{OneRead, OneReadBroken}

pub answer_2_read : OneRead
answer_2_read n k a ch h m size small es p free = one_read_lem a small (history_of k n es ch) p.0 p.1 (chip_at k ch) free

pub answer_2_read_broken : OneReadBroken
answer_2_read_broken n k a ch h m size small es p free = one_read_broken a small (history_of k n es ch) p.0 p.1 (chip_at k ch) free
