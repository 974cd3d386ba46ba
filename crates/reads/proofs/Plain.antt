-- Until a sample with a recorded DOUT has come nothing is looked at: samples are played as without a reader.
--     blind_look                       nothing is told
--     plain_sample, plain_sampled      a sample without DOUT, and such samples one after another
-- Assumes nothing.
use Rattle.std.proofs.Common.{◌≡◌, ℕ, ◌-◌, ◌%◌, ◌<◌, false, ◌&&◌, List, [], ◌∷◌, ◌++◌, ap, ◌∙◌, ap₂, append-nil, arith, lt-ltb}
use Rattle.base.specs.Below.{AllBelow}
use Rattle.base.specs.Pick.{pick}
use Rattle.base.proofs.Picks.{pick_yes, pick_no}
use Rattle.chip.specs.declared.Chip.{Chip}
use Rattle.chip.specs.Edges.{load_rises}
use Rattle.chain.specs.declared.Chain.{Chain}
use Rattle.chain.specs.Chain.{stepped_chain, played}
use Rattle.capture.specs.declared.Report.{Report}
use Rattle.capture.specs.Replay.{rises_in}
use Rattle.capture.specs.Reports.{at_rise}
use Rattle.reads.specs.declared.Looked.{Looked}
use Rattle.reads.specs.declared.Note.TheVariants.{Nothing}
use Rattle.reads.specs.declared.Reader.{Reader}
use Rattle.reads.specs.Notes.{note_line}
use Rattle.reads.specs.Reads.{is_edge, last_chip, looking, tells, looked, kept, next_offset, Sampled, sampled, sampled_all}

pub blind_look : (was now : ℕ) (c : Chip) (r : Reader) → looking r.dout ≡ false → looked was now c r ≡ tells r Nothing
unfolding looked
blind_look was now c r e = pick_no _ _ (ap (λ t. t && is_edge was now) e)

blind_kept : (was b offset : ℕ) (c : Chip) (r : Reader) → b < 8 → looking r.dout ≡ false → kept was b offset c r ≡ r
unfolding kept
blind_kept was b offset c r low e = pick_no _ _ e ∙ pick_yes _ _ (lt-ltb b 0x10 (omega arith))

module _ (what : Report) (n : ℕ) where
  -- what samples come to without a reader
  abbrev alone : List ℕ → Chain → Reader → Sampled
  alone bytes ch r = record { chain = played n bytes ch; reader = r; out = rises_in what n bytes ch }

  pub plain_sample : (offset b : ℕ) (ch : Chain) (r : Reader) → b < 8 → looking r.dout ≡ false → sampled what n offset b ch r ≡ alone (b ∷ []) ch r
  unfolding sampled played
  plain_sample offset b ch r low e =
      let same : b % 8 ≡ b = omega arith in
      let by : ℕ → Reader → Sampled = λ v q. record { chain = stepped_chain n v ch; reader = q; out = rises_in what n (v ∷ []) ch } in
      ap (λ (l : Looked). record {
        chain = stepped_chain n (b % 8) ch;
        reader = kept ch.levels b offset (last_chip n (stepped_chain n (b % 8) ch)) l.reader;
        out = note_line (n - 1) l.note ++ rises_in what n (b % 8 ∷ []) ch;
      }) (blind_look ch.levels (b % 8) (last_chip n ch) r e)
      ∙ ap₂ by same (blind_kept ch.levels b offset (last_chip n (stepped_chain n (b % 8) ch)) r low e)

  pub plain_sampled : (offset : ℕ) (bytes : List ℕ) (ch : Chain) (r : Reader) → AllBelow 8 bytes → looking r.dout ≡ false
      → sampled_all what n offset bytes ch r ≡ alone bytes ch r
  unfolding sampled_all played rises_in
  plain_sampled offset [] ch r low e = λ i. alone [] ch r
  plain_sampled offset (b ∷ bytes) ch r low e =
      let next = stepped_chain n b ch in
      let rise = pick (load_rises ch.levels b) (at_rise what n next) [] in
      let and : Sampled → Sampled → Sampled = λ x rest. record { chain = rest.chain; reader = rest.reader; out = x.out ++ rest.out } in
      ap (λ (x : Sampled). and x (sampled_all what n (next_offset offset) bytes x.chain x.reader)) (plain_sample offset b ch r low.0 e)
      ∙ ap (λ (rest : Sampled). and (alone (b ∷ []) ch r) rest) (plain_sampled (next_offset offset) bytes next r low.1 e)
      ∙ ap (λ xs. record { chain = played n bytes next; reader = r; out = xs ++ rises_in what n bytes next }) (append-nil rise)
