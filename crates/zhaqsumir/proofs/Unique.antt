-- The contracts of the library's functions allow one outcome each: `AllowsOne` of the base crate, of what each generated contract tells; the
-- answer and the lent arrays included.
-- Assumes nothing.
use mathlib.Core.Path.{refl}
use Rattle.base.specs.Unique.{AllowsOne, AllowsOneWalked}
use Rattle.base.proofs.Unique.{same_answer}
use Rattle.zhaqsumir.specs.Panels.{BlocksNumbers}
use Rattle.zhaqsumir.proofs.zhaqsumir_decode
use Rattle.zhaqsumir.proofs.zhaqsumir_encode
use Rattle.zhaqsumir.proofs.zhaqsumir_write
use Rattle.zhaqsumir.proofs.zhaqsumir_find
use Rattle.zhaqsumir.proofs.zhaqsumir_replay
use Rattle.zhaqsumir.proofs.zhaqsumir_tally
use Rattle.zhaqsumir.proofs.zhaqsumir_ch450_encode
use Rattle.zhaqsumir.proofs.zhaqsumir_ch450_write
use Rattle.zhaqsumir.proofs.zhaqsumir_ch450_play
use Rattle.zhaqsumir.proofs.zhaqsumir_ch450_lit
use Rattle.zhaqsumir.proofs.zhaqsumir_start
use Rattle.zhaqsumir.specs.contracts.zhaqsumir_block as Block
use Rattle.zhaqsumir.proofs.zhaqsumir_block
use Rattle.zhaqsumir.proofs.zhaqsumir_scan
use Rattle.zhaqsumir.proofs.zhaqsumir_lit
use Rattle.zhaqsumir.proofs.zhaqsumir_sees
use Rattle.zhaqsumir.proofs.panels.block
use Rattle.zhaqsumir.proofs.kiosks

pub zhaqsumir_decode_unique : AllowsOne zhaqsumir_decode.Kinds.ps zhaqsumir_decode.Kinds.r zhaqsumir_decode.Reads.Learnt
zhaqsumir_decode_unique κs a x y last last' p q = (refl, λ i. (tt, (same_answer p q i, tt)))

pub zhaqsumir_encode_unique : AllowsOne zhaqsumir_encode.Kinds.ps zhaqsumir_encode.Kinds.r zhaqsumir_encode.Reads.Learnt
zhaqsumir_encode_unique κs a x y last last' p q = (refl, λ i. (tt, (same_answer p q i, tt)))

pub zhaqsumir_write_unique : AllowsOne zhaqsumir_write.Kinds.ps zhaqsumir_write.Kinds.r zhaqsumir_write.Reads.Learnt
zhaqsumir_write_unique κs a x y last last' p q =
    (refl, λ i. (tt, (tt, (same_answer p.bytes q.bytes i, (same_answer p.numbers q.numbers i, tt)))))

pub zhaqsumir_find_unique : AllowsOne zhaqsumir_find.Kinds.ps zhaqsumir_find.Kinds.r zhaqsumir_find.Reads.Learnt
zhaqsumir_find_unique κs a x y last last' p q = (refl, λ i. (tt, (tt, (same_answer p q i, tt))))

pub zhaqsumir_replay_unique : AllowsOne zhaqsumir_replay.Kinds.ps zhaqsumir_replay.Kinds.r zhaqsumir_replay.Reads.Learnt
zhaqsumir_replay_unique κs a x y last last' p q =
    (refl, λ i. (tt, (same_answer p.bytes q.bytes i, (same_answer p.numbers q.numbers i, tt))))

pub zhaqsumir_tally_unique : AllowsOne zhaqsumir_tally.Kinds.ps zhaqsumir_tally.Kinds.r zhaqsumir_tally.Reads.Learnt
zhaqsumir_tally_unique κs a x y last last' p q = (
  refl,
  λ i. (
    tt,
    (
      same_answer p.chips q.chips i,
      (same_answer p.codes q.codes i, (same_answer p.largest q.largest i, (same_answer p.numbers q.numbers i, tt))),
    ),
  ),
)

pub zhaqsumir_ch450_encode_unique : AllowsOne zhaqsumir_ch450_encode.Kinds.ps zhaqsumir_ch450_encode.Kinds.r zhaqsumir_ch450_encode.Reads.Learnt
zhaqsumir_ch450_encode_unique κs a x y last last' p q = (refl, λ i. (tt, (same_answer p q i, tt)))

pub zhaqsumir_ch450_write_unique : AllowsOne zhaqsumir_ch450_write.Kinds.ps zhaqsumir_ch450_write.Kinds.r zhaqsumir_ch450_write.Reads.Learnt
zhaqsumir_ch450_write_unique κs a x y last last' p q =
    (refl, λ i. (tt, (same_answer p.bytes q.bytes i, (same_answer p.numbers q.numbers i, tt))))

pub zhaqsumir_ch450_play_unique : AllowsOne zhaqsumir_ch450_play.Kinds.ps zhaqsumir_ch450_play.Kinds.r zhaqsumir_ch450_play.Reads.Learnt
zhaqsumir_ch450_play_unique κs a x y last last' p q =
    (refl, λ i. (same_answer p.panel q.panel i, (tt, (tt, (same_answer p.numbers q.numbers i, tt)))))

pub zhaqsumir_ch450_lit_unique : AllowsOne zhaqsumir_ch450_lit.Kinds.ps zhaqsumir_ch450_lit.Kinds.r zhaqsumir_ch450_lit.Reads.Learnt
zhaqsumir_ch450_lit_unique κs a x y last last' p q = (refl, λ i. (tt, (same_answer p q i, tt)))

pub zhaqsumir_start_unique : AllowsOne zhaqsumir_start.Kinds.ps zhaqsumir_start.Kinds.r zhaqsumir_start.Reads.Learnt
zhaqsumir_start_unique κs a x y last last' p q =
    (refl, λ i. (tt, (same_answer p.panel q.panel i, (same_answer p.numbers q.numbers i, tt))))

pub zhaqsumir_scan_unique : AllowsOne zhaqsumir_scan.Kinds.ps zhaqsumir_scan.Kinds.r zhaqsumir_scan.Reads.Learnt
zhaqsumir_scan_unique κs a x y last last' p q =
    (refl, λ i. (same_answer p.panel q.panel i, (tt, (tt, (same_answer p.numbers q.numbers i, tt)))))

pub zhaqsumir_lit_unique : AllowsOne zhaqsumir_lit.Kinds.ps zhaqsumir_lit.Kinds.r zhaqsumir_lit.Reads.Learnt
zhaqsumir_lit_unique κs a x y last last' p q = (refl, λ i. (tt, (tt, (same_answer p q i, tt))))

pub zhaqsumir_sees_unique : AllowsOne zhaqsumir_sees.Kinds.ps zhaqsumir_sees.Kinds.r zhaqsumir_sees.Reads.Learnt
zhaqsumir_sees_unique κs a x y last last' p q = (refl, λ i. (tt, (same_answer p q i, tt)))

-- the panel lent by `&mut`
pub zhaqsumir_block_unique : AllowsOne zhaqsumir_block.Kinds.ps zhaqsumir_block.Kinds.r zhaqsumir_block.Reads.Learnt
zhaqsumir_block_unique κs a x y last last' p q = (
  refl,
  λ i. (record { numbers = same_answer p.panel q.panel i }, (tt, (same_answer p.places q.places i, (same_answer p.numbers q.numbers i, tt)))),
)

-- its last panel, list and answer are told by the clause itself, whatever the logic's other arguments are
pub zhaqsumir_block_clauses_unique : AllowsOneWalked Block.ended (λ M 𝓤 𝓛. Block.clauses 𝓛)
zhaqsumir_block_clauses_unique =
    record {
      learnt = λ κs a x s. BlocksNumbers a.0.now.numbers a.1.0.now a.1.1.0.now s.1.1.1.0.now s.0.now.numbers s.1.1.0.now;
      says = λ M 𝓤 𝓛 mem run κs a g x s. refl;
      one = zhaqsumir_block_unique;
    }

-- and the same by value, which does the work
pub block_unique : AllowsOne block.Kinds.ps block.Kinds.r block.Reads.Learnt
block_unique κs a x y last last' p q = (
  λ i. record { numbers = same_answer p.panel q.panel i },
  λ i. (tt, (tt, (same_answer p.places q.places i, (same_answer p.numbers q.numbers i, tt)))),
)

pub zhaqsumir_settings_read_unique : AllowsOne kiosks.zhaqsumir_settings_read.Kinds.ps kiosks.zhaqsumir_settings_read.Kinds.r kiosks.zhaqsumir_settings_read.Reads.Learnt
zhaqsumir_settings_read_unique κs a x y last last' p q = (refl, λ i. (tt, (same_answer p q i, tt)))

pub zhaqsumir_settings_write_unique : AllowsOne kiosks.zhaqsumir_settings_write.Kinds.ps kiosks.zhaqsumir_settings_write.Kinds.r kiosks.zhaqsumir_settings_write.Reads.Learnt
zhaqsumir_settings_write_unique κs a x y last last' p q =
    (refl, λ i. (tt, (same_answer p.buffer q.buffer i, (same_answer p.numbers q.numbers i, tt))))

pub zhaqsumir_settings_rows_unique : AllowsOne kiosks.zhaqsumir_settings_rows.Kinds.ps kiosks.zhaqsumir_settings_rows.Kinds.r kiosks.zhaqsumir_settings_rows.Reads.Learnt
zhaqsumir_settings_rows_unique κs a x y last last' p q =
    (refl, λ i. (tt, (same_answer p.buffer q.buffer i, (same_answer p.numbers q.numbers i, tt))))
