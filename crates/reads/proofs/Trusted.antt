-- What the lines of a recorded DOUT say is so, where the recording is what the host sees.
--     codes_read          the codes of the lines 16 are those that the last chip held at its read words, in order, each once
--     no_cut              no line 17 is written
--     no_difference       no line 15 is written
--     interrupt_seen      a line 18 is written if and only if an interrupt stands at some edge outside readouts
--     quiet_after_read    after a read word DOUT counts as high
--     seen_between        so after a read word a line 18 is written if and only if an interrupt stands at some later edge outside readouts
-- Assumes nothing.
use Rattle.std.proofs.Common.{◌≡◌, ℕ, ◌%◌, Bool, true, false, ◌&&◌, ◌||◌, T, List, [], ◌∷◌, ◌++◌, sym, refl, ap, ◌∙◌, ap₂, inl}
use mathlib.Core.Bool.{false≢true, and-eq-true_iff}
use Rattle.base.proofs.Picks.{pick_no}
use Rattle.word.specs.Words.{decoded_of}
use Rattle.chip.specs.declared.Chip.{Chip}
use Rattle.chip.specs.Record.{valid}
use Rattle.chip.specs.Edges.{load_rises}
use Rattle.chain.specs.declared.Chain.{Chain}
use Rattle.chain.specs.Chain.{chip_count, stepped_chain}
use Rattle.reads.specs.declared.Looked.{Looked}
use Rattle.reads.specs.declared.Reader.{Reader}
use Rattle.reads.specs.Reads.{last_chip, start_reader, looking, look_at, begun, reader_after}
use Rattle.reads.specs.Till.{Item, sample, scan, chain_after, seen_after, notes_of, codes_told, is_cut, is_interrupt, is_differs, some_note, is_read_key, keypad_on, runs, read_word, held_at_reads, interrupt_at, some_interrupt, Throughout, was_recorded, Seen, HasDout, LetsEnd, chain_after_all, seen_after_all}
use Rattle.reads.proofs.LookCases.{look_dout, look_agrees, look_interrupt}
use Rattle.reads.proofs.Kept.{kept_agrees, kept_quiet, kept_known, kept_looking, kept_looks, begins_runs}
use Rattle.reads.proofs.LastChip.{last_moved, last_untouched}
use Rattle.reads.proofs.ReadBits.{look_waiting}
use Rattle.reads.proofs.Tracking.{Tracks, pending, by_test, tracks_same, pending_same, tracks_on, tells_codes, tells_no_cut}

-- ---- codes

-- a reader before the first sample, while no readout runs
start_tracks : (c : Chip) → T (valid c) → runs c ≡ false → Tracks c start_reader
start_tracks c v off = record { sound = v; bits = λ on. absurd (false≢true (sym off ∙ on)); stands = inl (refl, refl, off) }

-- from any reader that keeps track: the code that is being read comes first
codes_from : (n : ℕ) → chip_count n ≡ true → (items : List Item) (ch : Chain) (r : Reader) → Tracks (last_chip n ch) r
    → Throughout n HasDout items ch r → Throughout n (Seen n) items ch r → Throughout n (LetsEnd n) items ch r
    → runs (last_chip n (chain_after_all n items ch)) ≡ false
    → codes_told (notes_of n items ch r) ≡ pending (last_chip n ch) ++ held_at_reads n items ch
unfolding notes_of held_at_reads read_word Throughout chain_after_all
codes_from n some [] ch r k all seen ends over = sym (ap (λ t. t ++ []) (pick_no _ _ over))
codes_from n some (sample offset b ∷ items) ch r k all seen ends over =
    let next = stepped_chain n (b % 8) ch in
    let c = last_chip n ch in
    let m = last_moved n (b % 8) ch some in
    let later = reader_after n offset b ch r in
    tells_codes ch.levels b offset c (last_chip n next) r m k all.0 seen.0 ends.0 (notes_of n items next later) (held_at_reads n items next)
    (codes_from n some items next later
    (tracks_on ch.levels b offset c (last_chip n next) r m k all.0 seen.0 ends.0) all.1 seen.1 ends.1 over)
codes_from n some (scan j bytes ∷ items) ch r k all seen ends over =
    let next = chain_after n (scan j bytes) ch in
    let u = last_untouched n j bytes ch in
    codes_from n some items next r (tracks_same (last_chip n ch) (last_chip n next) u r k) all.1 seen.1 ends.1 over
    ∙ ap (λ t. t ++ held_at_reads n items next) (pending_same (last_chip n ch) (last_chip n next) u)

pub codes_read : (n : ℕ) → chip_count n ≡ true → (items : List Item) (ch : Chain) → T (valid (last_chip n ch)) → runs (last_chip n ch) ≡ false
    → Throughout n HasDout items ch start_reader → Throughout n (Seen n) items ch start_reader → Throughout n (LetsEnd n) items ch start_reader
    → runs (last_chip n (chain_after_all n items ch)) ≡ false
    → codes_told (notes_of n items ch start_reader) ≡ held_at_reads n items ch
codes_read n some items ch v off all seen ends over =
    codes_from n some items ch start_reader (start_tracks (last_chip n ch) v off) all seen ends over
    ∙ ap (λ t. t ++ held_at_reads n items ch) (pick_no _ _ off)

cut_from : (n : ℕ) → chip_count n ≡ true → (items : List Item) (ch : Chain) (r : Reader) → Tracks (last_chip n ch) r
    → Throughout n HasDout items ch r → Throughout n (Seen n) items ch r → Throughout n (LetsEnd n) items ch r
    → some_note is_cut (notes_of n items ch r) ≡ false
unfolding notes_of Throughout
cut_from n some [] ch r k all seen ends = refl
cut_from n some (sample offset b ∷ items) ch r k all seen ends =
    let next = stepped_chain n (b % 8) ch in
    let c = last_chip n ch in
    let m = last_moved n (b % 8) ch some in
    ap₂ ◌||◌ (tells_no_cut ch.levels b offset c (last_chip n next) r m k all.0 seen.0 ends.0)
    (cut_from n some items next (reader_after n offset b ch r)
    (tracks_on ch.levels b offset c (last_chip n next) r m k all.0 seen.0 ends.0) all.1 seen.1 ends.1)
cut_from n some (scan j bytes ∷ items) ch r k all seen ends =
    let next = chain_after n (scan j bytes) ch in
    cut_from n some items next r (tracks_same (last_chip n ch) (last_chip n next) (last_untouched n j bytes ch) r k) all.1 seen.1 ends.1

pub no_cut : (n : ℕ) → chip_count n ≡ true → (items : List Item) (ch : Chain) → T (valid (last_chip n ch)) → runs (last_chip n ch) ≡ false
    → Throughout n HasDout items ch start_reader → Throughout n (Seen n) items ch start_reader → Throughout n (LetsEnd n) items ch start_reader
    → some_note is_cut (notes_of n items ch start_reader) ≡ false
no_cut n some items ch v off all seen ends = cut_from n some items ch start_reader (start_tracks (last_chip n ch) v off) all seen ends

-- ---- differences

pub no_difference : (n : ℕ) (items : List Item) (ch : Chain) (r : Reader) → r.agrees ≡ true → Throughout n (Seen n) items ch r
    → some_note is_differs (notes_of n items ch r) ≡ false
unfolding notes_of Throughout
no_difference n [] ch r a seen = refl
no_difference n (sample offset b ∷ items) ch r a seen =
    let next = last_chip n (stepped_chain n (b % 8) ch) in
    let one = look_agrees ch.levels (b % 8) (last_chip n ch) r a seen.0 in
    ap₂ ◌||◌ one.0
    (no_difference n items (stepped_chain n (b % 8) ch) (reader_after n offset b ch r)
    (kept_agrees ch.levels b offset next (look_at n b ch r).reader ∙ one.1) seen.1)
no_difference n (scan k bytes ∷ items) ch r a seen = no_difference n items (chain_after n (scan k bytes) ch) r a seen.1

-- ---- interrupts

-- two tests of a history, by its first thing
first_or : (at told : Bool) {rest more : Bool} → told ≡ at → (at ≡ false → rest ≡ more) → (told || rest) ≡ (at || more)
first_or true told {rest = rest} e f = ap (λ t. t || rest) e
first_or false told e f = ap₂ ◌||◌ e (f refl)

pub interrupt_seen : (n : ℕ) (items : List Item) (ch : Chain) (r : Reader) → was_recorded r.dout ≡ true → r.quiet ≡ true
    → Throughout n HasDout items ch r → Throughout n (Seen n) items ch r
    → some_note is_interrupt (notes_of n items ch r) ≡ some_interrupt n items ch
unfolding notes_of some_interrupt Throughout
interrupt_seen n [] ch r known q all seen = refl
interrupt_seen n (sample offset b ∷ items) ch r known q all seen =
    let next = last_chip n (stepped_chain n (b % 8) ch) in
    let l = look_at n b ch r in
    let one = look_interrupt ch.levels (b % 8) (last_chip n ch) r known q seen.0 in
    first_or (interrupt_at n (sample offset b) ch) (is_interrupt l.note) one.0
    (λ e.
    interrupt_seen n items (stepped_chain n (b % 8) ch) (reader_after n offset b ch r)
    (kept_known ch.levels b offset next l.reader all.0)
    (kept_quiet ch.levels b offset next l.reader (one.1 e))
    all.1 seen.1)
interrupt_seen n (scan k bytes ∷ items) ch r known q all seen =
    interrupt_seen n items (chain_after n (scan k bytes) ch) r known q all.1 seen.1

pub quiet_after_read : (n : ℕ) → chip_count n ≡ true → (offset b : ℕ) (ch : Chain) (r : Reader) → looking r.dout ≡ true → read_word n b ch ≡ true
    → (reader_after n offset b ch r).quiet ≡ true
unfolding read_word
quiet_after_read n some offset b ch r lk word =
    let was = ch.levels in
    let x = last_chip n (stepped_chain n (b % 8) ch) in
    let later = (look_at n b ch r).reader in
    let p = (and-eq-true_iff (load_rises was (b % 8) && keypad_on (last_chip n ch)) (is_read_key (decoded_of x.line.register))).0 word in
    let q = (and-eq-true_iff (load_rises was (b % 8)) (keypad_on (last_chip n ch))).0 p.0 in
    let on = ((last_moved n (b % 8) ch some).starts q.0).0 ∙ ap₂ ◌&&◌ q.1 p.1 in
    ap (λ (y : Reader). y.quiet)
    (kept_looking was b offset x later (ap looking (look_dout was (b % 8) (last_chip n ch) r) ∙ lk))
    ∙ ap (λ t. (begun t later).quiet) (begins_runs was b offset x r ∙ ap₂ ◌&&◌ q.0 on)

-- a reader that waits for the first recorded level is quiet
abbrev Waits : Reader → Type 0
Waits r = looking r.dout ≡ false → r.quiet ≡ true

-- one that waits is left as it is by a look
waiting_quiet : (n offset b : ℕ) (ch : Chain) (r : Reader) → Waits r → looking r.dout ≡ false → (reader_after n offset b ch r).quiet ≡ true
waiting_quiet n offset b ch r w e =
    let x = last_chip n (stepped_chain n (b % 8) ch) in
    let same = look_waiting ch.levels (b % 8) (last_chip n ch) r e in
    kept_quiet ch.levels b offset x (look_at n b ch r).reader (ap (λ (l : Looked). l.reader.quiet) same ∙ w e)

waits_on : (n : ℕ) (items : List Item) (ch : Chain) (r : Reader) → Waits r → Waits (seen_after_all n items ch r)
unfolding seen_after_all
waits_on n [] ch r w = w
waits_on n (sample offset b ∷ items) ch r w =
    let was = ch.levels in
    let x = last_chip n (stepped_chain n (b % 8) ch) in
    let later = (look_at n b ch r).reader in
    waits_on n items (stepped_chain n (b % 8) ch) (reader_after n offset b ch r)
    (λ e.
    by_test (looking r.dout)
    (λ lk. absurd (false≢true (sym e ∙ kept_looks was b offset x later (ap looking (look_dout was (b % 8) (last_chip n ch) r) ∙ lk))))
    (λ f. waiting_quiet n offset b ch r w f))
waits_on n (scan k bytes ∷ items) ch r w = waits_on n items (chain_after n (scan k bytes) ch) r w

module _ (n : ℕ) (some : chip_count n ≡ true) (before : List Item) (offset b : ℕ) (items : List Item) (ch : Chain) where
  -- the panel and the reader before the read word, and the read word
  abbrev panel : Chain
  panel = chain_after_all n before ch

  abbrev reader : Reader
  reader = seen_after_all n before ch start_reader

  abbrev read : Item
  read = sample offset b

  pub seen_between : read_word n b panel ≡ true → Throughout n HasDout (read ∷ items) panel reader → Throughout n (Seen n) (read ∷ items) panel reader
      → some_note is_interrupt (notes_of n items (chain_after n read panel) (seen_after n read panel reader)) ≡ some_interrupt n items (chain_after n read panel)
  unfolding Throughout
  seen_between word all seen =
      interrupt_seen n items (chain_after n read panel) (seen_after n read panel reader)
      (kept_known panel.levels b offset (last_chip n (chain_after n read panel)) (look_at n b panel reader).reader all.0)
      (by_test (looking reader.dout) (λ lk. quiet_after_read n some offset b panel reader lk word)
      (λ e. waiting_quiet n offset b panel reader (waits_on n before ch start_reader (λ f. refl)) e))
      all.1 seen.1
