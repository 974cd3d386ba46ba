-- The contracts of the exports allow one outcome each: `AllowsOne` of the base crate, of what each generated contract tells; the answer and
-- the lent arrays included. They are the library's contracts, so its theorems serve.
-- Assumes nothing.
use Rattle.base.specs.Unique.{AllowsOne}
use Rattle.zhaqsumir.proofs.Unique as Library
use Rattle.zhaqsumir_c.proofs.zhaqsumir_decode
use Rattle.zhaqsumir_c.proofs.zhaqsumir_encode
use Rattle.zhaqsumir_c.proofs.zhaqsumir_write
use Rattle.zhaqsumir_c.proofs.zhaqsumir_find
use Rattle.zhaqsumir_c.proofs.zhaqsumir_replay
use Rattle.zhaqsumir_c.proofs.zhaqsumir_tally
use Rattle.zhaqsumir_c.proofs.zhaqsumir_ch450_encode
use Rattle.zhaqsumir_c.proofs.zhaqsumir_ch450_write
use Rattle.zhaqsumir_c.proofs.zhaqsumir_ch450_play
use Rattle.zhaqsumir_c.proofs.zhaqsumir_ch450_lit
use Rattle.zhaqsumir_c.proofs.zhaqsumir_start
use Rattle.zhaqsumir_c.proofs.zhaqsumir_block
use Rattle.zhaqsumir_c.proofs.zhaqsumir_scan
use Rattle.zhaqsumir_c.proofs.zhaqsumir_lit
use Rattle.zhaqsumir_c.proofs.zhaqsumir_sees
use Rattle.zhaqsumir_c.proofs.zhaqsumir_settings_read
use Rattle.zhaqsumir_c.proofs.zhaqsumir_settings_write
use Rattle.zhaqsumir_c.proofs.zhaqsumir_settings_rows

pub zhaqsumir_decode_unique : AllowsOne zhaqsumir_decode.Kinds.ps zhaqsumir_decode.Kinds.r zhaqsumir_decode.Reads.Learnt
zhaqsumir_decode_unique = Library.zhaqsumir_decode_unique

pub zhaqsumir_encode_unique : AllowsOne zhaqsumir_encode.Kinds.ps zhaqsumir_encode.Kinds.r zhaqsumir_encode.Reads.Learnt
zhaqsumir_encode_unique = Library.zhaqsumir_encode_unique

pub zhaqsumir_write_unique : AllowsOne zhaqsumir_write.Kinds.ps zhaqsumir_write.Kinds.r zhaqsumir_write.Reads.Learnt
zhaqsumir_write_unique = Library.zhaqsumir_write_unique

pub zhaqsumir_find_unique : AllowsOne zhaqsumir_find.Kinds.ps zhaqsumir_find.Kinds.r zhaqsumir_find.Reads.Learnt
zhaqsumir_find_unique = Library.zhaqsumir_find_unique

pub zhaqsumir_replay_unique : AllowsOne zhaqsumir_replay.Kinds.ps zhaqsumir_replay.Kinds.r zhaqsumir_replay.Reads.Learnt
zhaqsumir_replay_unique = Library.zhaqsumir_replay_unique

pub zhaqsumir_tally_unique : AllowsOne zhaqsumir_tally.Kinds.ps zhaqsumir_tally.Kinds.r zhaqsumir_tally.Reads.Learnt
zhaqsumir_tally_unique = Library.zhaqsumir_tally_unique

pub zhaqsumir_ch450_encode_unique : AllowsOne zhaqsumir_ch450_encode.Kinds.ps zhaqsumir_ch450_encode.Kinds.r zhaqsumir_ch450_encode.Reads.Learnt
zhaqsumir_ch450_encode_unique = Library.zhaqsumir_ch450_encode_unique

pub zhaqsumir_ch450_write_unique : AllowsOne zhaqsumir_ch450_write.Kinds.ps zhaqsumir_ch450_write.Kinds.r zhaqsumir_ch450_write.Reads.Learnt
zhaqsumir_ch450_write_unique = Library.zhaqsumir_ch450_write_unique

pub zhaqsumir_ch450_play_unique : AllowsOne zhaqsumir_ch450_play.Kinds.ps zhaqsumir_ch450_play.Kinds.r zhaqsumir_ch450_play.Reads.Learnt
zhaqsumir_ch450_play_unique = Library.zhaqsumir_ch450_play_unique

pub zhaqsumir_ch450_lit_unique : AllowsOne zhaqsumir_ch450_lit.Kinds.ps zhaqsumir_ch450_lit.Kinds.r zhaqsumir_ch450_lit.Reads.Learnt
zhaqsumir_ch450_lit_unique = Library.zhaqsumir_ch450_lit_unique

pub zhaqsumir_start_unique : AllowsOne zhaqsumir_start.Kinds.ps zhaqsumir_start.Kinds.r zhaqsumir_start.Reads.Learnt
zhaqsumir_start_unique = Library.zhaqsumir_start_unique

pub zhaqsumir_block_unique : AllowsOne zhaqsumir_block.Kinds.ps zhaqsumir_block.Kinds.r zhaqsumir_block.Reads.Learnt
zhaqsumir_block_unique = Library.zhaqsumir_block_unique

pub zhaqsumir_scan_unique : AllowsOne zhaqsumir_scan.Kinds.ps zhaqsumir_scan.Kinds.r zhaqsumir_scan.Reads.Learnt
zhaqsumir_scan_unique = Library.zhaqsumir_scan_unique

pub zhaqsumir_lit_unique : AllowsOne zhaqsumir_lit.Kinds.ps zhaqsumir_lit.Kinds.r zhaqsumir_lit.Reads.Learnt
zhaqsumir_lit_unique = Library.zhaqsumir_lit_unique

pub zhaqsumir_sees_unique : AllowsOne zhaqsumir_sees.Kinds.ps zhaqsumir_sees.Kinds.r zhaqsumir_sees.Reads.Learnt
zhaqsumir_sees_unique = Library.zhaqsumir_sees_unique

pub zhaqsumir_settings_read_unique : AllowsOne zhaqsumir_settings_read.Kinds.ps zhaqsumir_settings_read.Kinds.r zhaqsumir_settings_read.Reads.Learnt
zhaqsumir_settings_read_unique = Library.zhaqsumir_settings_read_unique

pub zhaqsumir_settings_write_unique : AllowsOne zhaqsumir_settings_write.Kinds.ps zhaqsumir_settings_write.Kinds.r zhaqsumir_settings_write.Reads.Learnt
zhaqsumir_settings_write_unique = Library.zhaqsumir_settings_write_unique

pub zhaqsumir_settings_rows_unique : AllowsOne zhaqsumir_settings_rows.Kinds.ps zhaqsumir_settings_rows.Kinds.r zhaqsumir_settings_rows.Reads.Learnt
zhaqsumir_settings_rows_unique = Library.zhaqsumir_settings_rows_unique
