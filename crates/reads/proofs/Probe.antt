-- A probe's recording of a panel: the wires, each sample with the DOUT that the host sees, and no scans. Its lines say what the chip did in
-- the history that was recorded, scans and all, where no chip but the last has KEYB on.
--     probe_codes      the codes of its lines 16 are those that the last chip held at its read words, in order
--     probe_no_cut     it has no line 17
--     probe_agrees     it has no line 15
-- Assumes nothing.
use Rattle.std.proofs.Common.{◌≡◌, ℕ, true, false, T, List, sym, refl, ◌∙◌}
use Rattle.chip.specs.Record.{valid}
use Rattle.chain.specs.declared.Chain.{Chain}
use Rattle.chain.specs.Chain.{chip_count}
use Rattle.reads.specs.Reads.{last_chip, start_reader}
use Rattle.reads.specs.Till.{Item, Played, recording_of, unscanned, notes_of, codes_told, is_cut, is_differs, some_note, runs, held_at_reads, Throughout, KeysAtLast, LetsEnd, chain_after_all}
use Rattle.reads.proofs.Recordings.{recording_seen, recording_recorded}
use Rattle.reads.proofs.Trusted.{codes_read, no_cut, no_difference}
use Rattle.reads.proofs.Unscanned.{codes_unseen, notes_unseen}

module _ (n : ℕ) (some : chip_count n ≡ true) (offset : ℕ) (history : List Played) (ch : Chain) (keys : Throughout n (KeysAtLast n) (recording_of n offset history ch) ch start_reader) where
  abbrev whole : List Item
  whole = recording_of n offset history ch

  pub probe_codes : T (valid (last_chip n ch)) → runs (last_chip n ch) ≡ false → Throughout n (LetsEnd n) whole ch start_reader
      → runs (last_chip n (chain_after_all n whole ch)) ≡ false
      → codes_told (notes_of n (unscanned whole) ch start_reader) ≡ held_at_reads n whole ch
  probe_codes v off ends over =
      sym (codes_unseen n whole ch start_reader keys)
      ∙ codes_read n some whole ch v off (recording_recorded n offset history ch) (recording_seen n offset history ch) ends over

  pub probe_no_cut : T (valid (last_chip n ch)) → runs (last_chip n ch) ≡ false → Throughout n (LetsEnd n) whole ch start_reader
      → some_note is_cut (notes_of n (unscanned whole) ch start_reader) ≡ false
  probe_no_cut v off ends =
      sym (notes_unseen is_cut refl n whole ch start_reader keys)
      ∙ no_cut n some whole ch v off (recording_recorded n offset history ch) (recording_seen n offset history ch) ends

  pub probe_agrees : some_note is_differs (notes_of n (unscanned whole) ch start_reader) ≡ false
  probe_agrees =
      sym (notes_unseen is_differs refl n whole ch start_reader keys)
      ∙ no_difference n whole ch start_reader refl (recording_seen n offset history ch)
