-- The definitions of a stream, tested at every byte or shown at an example.
--     samples_are                           the samples are 00H to 07H and 10H to 1FH, and no other byte
--     scans_of_1, scans_of_3, scans_of_8    a scan of one of N chips begins with 80H to 80H + N - 1, and with no other byte
--     sample_plain, sample_dout             a sample's three levels; bit 3, the recorded DOUT, is none of them
--     scan_begun, scan_whole                a scan has eight bytes after its first
--     bytes_of_eight, bytes_of_most         a number in eight bytes, high first; the largest
--     offset_after_most                     the offset after the largest is 0
--     lines_at_most                         a text has fewer than 2^32 lines
--     none_at_all, first_byte_01            no byte at all is a text, and so is what begins with 01
--     head_cut, item_wrong, scan_cut        an end inside the first three bytes, a byte that may not stand there, an end inside a scan
-- Assumes nothing.
use Rattle.std.proofs.Common.{◌≡◌, ℕ, zero, suc, ◌+◌, ◌^◌, Bool, List, [], ◌∷◌, ◌++◌, refl}
use Rattle.base.specs.Pick.{pick}
use Rattle.lines.specs.Lines.{lines_of, as_hex, line_for, eight_bytes}
use Rattle.capture.specs.declared.Report.{Report}
use Rattle.capture.specs.Frames.{first_of}
use Rattle.reads.specs.Reads.{next_offset, is_sample}
use Rattle.streams.specs.Raw.{sample, scanned, whole, begun, is_scan, item_of, raw_from}
use Rattle.streams.specs.Streams.{watch_out}
use Rattle.streams.specs.Text.{most_lines, long_out}

-- the numbers below n that pass a test, the lowest first
abbrev passing : (ℕ → Bool) → ℕ → List ℕ
passing f zero = []
passing f (suc n) = passing f n ++ pick (f n) (n ∷ []) []

-- so many numbers from one on
abbrev from : ℕ → ℕ → List ℕ
from k zero = []
from k (suc n) = k ∷ from (suc k) n

pub samples_are : passing is_sample 256 ≡ from 0x00 8 ++ from 0x10 16
samples_are = refl

pub scans_of_1 : passing (is_scan 1) 256 ≡ from 0x80 1
scans_of_1 = refl

pub scans_of_3 : passing (is_scan 3) 256 ≡ from 0x80 3
scans_of_3 = refl

pub scans_of_8 : passing (is_scan 8) 256 ≡ from 0x80 8
scans_of_8 = refl

pub sample_plain : item_of 3 (0x05 ∷ []) ≡ whole (sample 0x05)
unfolding item_of
sample_plain = refl

pub sample_dout : item_of 3 (0x1D ∷ []) ≡ whole (sample 0x1D)
unfolding item_of
sample_dout = refl

pub scan_begun : item_of 3 (0x82 ∷ from 1 7) ≡ begun
unfolding item_of
scan_begun = refl

pub scan_whole : item_of 3 (0x82 ∷ from 1 8) ≡ whole (scanned 2 (from 1 8))
unfolding item_of
scan_whole = refl

pub bytes_of_eight : eight_bytes 0x0102030405060708 ≡ 1 ∷ 2 ∷ 3 ∷ 4 ∷ 5 ∷ 6 ∷ 7 ∷ 8 ∷ []
bytes_of_eight = refl

pub bytes_of_most : eight_bytes 0xFFFFFFFFFFFFFFFF ≡ 0xFF ∷ 0xFF ∷ 0xFF ∷ 0xFF ∷ 0xFF ∷ 0xFF ∷ 0xFF ∷ 0xFF ∷ []
bytes_of_most = refl

pub offset_after_most : next_offset 0xFFFFFFFFFFFFFFFF ≡ 0
offset_after_most = refl

pub lines_at_most : most_lines + 1 ≡ 2 ^ 32
lines_at_most = refl

-- refusal 10 at line 1
abbrev at_line1 : List ℕ
at_line1 = line_for (0x1F ∷ 0x0A ∷ 0 ∷ 0 ∷ 0 ∷ 1 ∷ [])

-- refusal 10 at an offset below 256
abbrev at_offset : ℕ → List ℕ
at_offset k = line_for (0x1F ∷ 0x0A ∷ 0 ∷ 0 ∷ 0 ∷ 0 ∷ 0 ∷ 0 ∷ 0 ∷ k ∷ [])

module _ (what : Report) where
  pub none_at_all : watch_out what [] ≡ at_line1
  unfolding long_out lines_of line_for as_hex
  none_at_all = refl

  pub first_byte_01 : watch_out what (0x01 ∷ []) ≡ at_line1
  unfolding long_out lines_of first_of line_for as_hex
  first_byte_01 = refl

  pub head_cut : watch_out what (0x00 ∷ 0x01 ∷ []) ≡ at_offset 2
  head_cut = refl

  pub item_wrong : watch_out what (0x00 ∷ 0x01 ∷ 0x08 ∷ 0x40 ∷ []) ≡ at_offset 3
  unfolding raw_from item_of
  item_wrong = refl

  pub scan_cut : watch_out what (0x00 ∷ 0x01 ∷ 0x08 ∷ 0x87 ∷ []) ≡ at_offset 4
  unfolding raw_from item_of
  scan_cut = refl
