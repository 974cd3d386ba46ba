-- The contracts of this crate's public functions allow one outcome each: `AllowsOne` of the base crate, of what each generated contract
-- tells; the lent array included.
--     replay_unique, screen_unique     the two entries
-- Assumes nothing.
use mathlib.Core.Path.{◌≡◌}
use mathlib.Core.List.{List}
use Prim.Native.Nat.{ℕ}
use Rattle.base.specs.Unique.{AllowsOne}
use Rattle.base.proofs.Unique.{same_answer, same_result}
use Rattle.capture.specs.declared.Replayed.{Replayed}
use Rattle.wires.specs.declared.Report.{Report}
use Rattle.wires.specs.declared.Report.TheVariants.{Commands, Screen}
use Rattle.wires.specs.Replay.{Replays}
use Rattle.wires.proofs.replay
use Rattle.wires.proofs.screen

-- two answers to one text
same_replayed : (what : Report) {text out out' out'' : List ℕ} {r s : Replayed} → Replays what text out r out' → Replays what text out s out'' → r ≡ s
same_replayed what {r = r} {s = s} p q =
    let count = same_answer p.count q.count in
    let answer = same_result {r = r.answer} {s = s.answer} (same_answer p.answer q.answer) in
    λ i. record { bytes = count i; answer = answer i }

pub replay_unique : AllowsOne replay.Kinds.ps replay.Kinds.r replay.Reads.Learnt
replay_unique κs a x y last last' p q = (same_replayed Commands p.0 q.0, λ i. (tt, (same_answer p.0.bytes q.0.bytes i, tt)))

pub screen_unique : AllowsOne screen.Kinds.ps screen.Kinds.r screen.Reads.Learnt
screen_unique κs a x y last last' p q = (same_replayed Screen p.0 q.0, λ i. (tt, (same_answer p.0.bytes q.0.bytes i, tt)))
