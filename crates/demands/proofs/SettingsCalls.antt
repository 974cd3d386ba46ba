-- Kiosk settings by calls (C-16): specs/SettingsCalls.antt.
--     one_text              what `write` wrote, `read` reads, and what `read` took, `write` writes
--     rows_handed           the words that `rows` hands over, and `handed_set`, these written and played
--     again_same            what `again` prints of a text that is taken
--     setup_sets            the capture text that `setup` prints
--     first_bytes_print     what is printed of a text's first bytes
-- Assumes nothing.
use mathlib.Core.Path.{◌≡◌, ap, sym, subst, ◌∙◌}
use mathlib.Core.List.{List, [], ◌++◌, map, append-nil}
use Prim.Native.Nat.{ℕ, ◌≤◌, ◌<◌}
use native.Mathlib.Omega.{arith}
use borrow.Author.Tests.{le-leb}
use lib.Dec.{T}
use lib.ListN.{length, get_or-replicate}
use Rattle.base.specs.Below.{AllBelow}
use Rattle.base.specs.Refusals.{Told, IsDone, done, refused, Outcome, tells, handed}
use Rattle.base.proofs.Picks.{pick_yes}
use Rattle.base.proofs.Unique.{same_result}
use Rattle.chip.specs.Record.{reset_chip}
use Rattle.chain.specs.Chain.{most, played}
use Rattle.chain.specs.Entries.{start_chain, chip_at}
use Rattle.chain.specs.Events.{Event, sample, happened, samples_in}
use Rattle.chain.proofs.Histories.{played_happens}
use Rattle.chain.proofs.Laws.{checked_below}
use Rattle.writer.specs.Rows.{written, list_test, or_else}
use Rattle.writer.specs.Rows as Rows
use Rattle.writer.specs.Written as Writer
use Rattle.writer.proofs.Answered.{number_told}
use Rattle.settings.specs.declared.Kiosk.{Kiosk}
use Rattle.settings.specs.Printing.{kiosk_words, setup_of, again_end, setup_end, out_by, Prints}
use Rattle.settings.specs.Putting.{settings_test, answer_by, buffer_by, Fits}
use Rattle.settings.specs.Reading.{read_of}
use Rattle.settings.specs.Settings.{text_of}
use Rattle.settings.proofs.Beginnings.{first_decides}
use Rattle.settings.proofs.CaptureLines.{capture_first, capture_ends, capture_plays}
use Rattle.settings.proofs.Captured.{four_words, setup_length}
use Rattle.settings.proofs.OneText.{written_reads_lem, read_written}
use Rattle.settings.proofs.Printing.{read_done}
use Rattle.settings.proofs.Rooms.{both_done, read_as}
use Rattle.settings.proofs.Texts.{passes}
use Rattle.demands.specs.Demand3.{Asked}
use Rattle.demands.specs.Events.{steps_for}
use Rattle.demands.specs.Settings.{kept_at, AskedKiosk, EndsWith}
use Rattle.demands.specs.SettingsCalls.{OneText, RowsHanded, HandedSet, AgainSame, SetsTo, SetupSets, FirstBytesPrint}
use Rattle.demands.specs.SettingsUnchanged.{AtFront}
use Rattle.demands.proofs.Calls.{checked_block, samples_block}
use Rattle.demands.proofs.Corollaries.{own_words}
use Rattle.demands.proofs.Demand3.{begins, demand_3}
use Rattle.demands.proofs.Entries.{start_asked}
use Rattle.demands.proofs.ExactSetup.{reads_asked}
use Rattle.demands.proofs.SettingsRows.{few}
use Rattle.demands.proofs.SettingsSet.{own_set, settings_set}
use Rattle.demands.proofs.SettingsUnchanged.{at_front, printed}
use Rattle.demands.proofs.Shown.{no_scan}
use Rattle.std.specs.declared.result.Result.{Result}
use Rattle.std.specs.declared.result.Result.TheVariants.{Ok, Err}
use Rattle.base.specs.declared.Refusal.{Refusal}

-- ---- answers

-- an answer that tells a number
put_told : (r : Result ℕ Refusal) (m : ℕ) → tells r ≡ done m → r ≡ Ok m
put_told (Ok count) m e = let same : count ≡ m = cc in ap Ok same
put_told (Err why) m e = absurd (subst IsDone (sym e) tt)

-- a number is told: the test was passed, and it is the piece's
fits_told : (t : Told (Unit {0})) (piece out : List ℕ) (count : ℕ) → answer_by t piece out ≡ done count → (t ≡ done tt) × (length piece ≡ count)
fits_told (refused number place) piece out = number_told (refused number place) (length piece) (length out)
fits_told (done u) piece out = number_told (done u) (length piece) (length out)

module _ (kiosk : Kiosk) (piece out : List ℕ) {r : Result ℕ Refusal} {out' : List ℕ} {count : ℕ} (w : Fits kiosk piece out r out') (e : r ≡ Ok count) where
  told : answer_by (settings_test kiosk) piece out ≡ done count
  told = sym w.answer ∙ ap tells e

  fits_legal : settings_test kiosk ≡ done tt
  fits_legal = (fits_told (settings_test kiosk) piece out count told).0

  fits_front : AtFront piece out out' count
  fits_front = at_front piece out (sym (fits_told (settings_test kiosk) piece out count told).1) (w.buffer ∙ ap (λ t. buffer_by t piece out) told)

-- ---- one setting has one text

pub one_text : OneText
one_text =
    record {
      written_reads = λ kiosk size out out' w count c e r reads.
          let back : handed r ≡ _ =
          reads ∙ ap read_of (fits_front kiosk (text_of kiosk) out c e).front ∙ written_reads_lem kiosk (fits_legal kiosk (text_of kiosk) out c e) size in
          record {
            answer = same_result (ap (λ (o : Outcome Kiosk (Unit {0})). o.told) back);
            same = ap (λ (o : Outcome Kiosk (Unit {0})). o.state) back;
          };
      read_writes = λ text r reads d out out' w c room.
          let so = read_written text r.value (read_done text reads d) in
          let piece = text_of r.value in
          let fits : length piece ≤ length out = subst (λ xs. length xs ≤ length out) (sym so.0) room in
          let answer : tells w ≡ done (length piece) =
          c.answer ∙ ap (λ t. answer_by t piece out) so.1 ∙ pick_yes _ _ (le-leb (length piece) (length out) fits) in
          let number = put_told w (length piece) answer in
          record {
            answer = number ∙ ap (λ xs. Ok (length xs)) so.0;
            front = subst (λ xs. AtFront xs out out' (length xs)) so.0 (fits_front r.value piece out c number);
          };
    }

-- ---- the rows

pub rows_handed : RowsHanded
rows_handed kiosk size out out' r count w e =
    let legal = fits_legal kiosk (kiosk_words kiosk) out w e in
    let words = fits_front kiosk (kiosk_words kiosk) out w e in
    record { asked = record { places = size; legal = legal }; words = words; many = omega (arith, words.counted, four_words kiosk legal size) }

pub handed_set : HandedSet
handed_set kiosk size words words' p many f e ch asked out out' r count w q calls below whole ch' ran =
    let h = rows_handed kiosk size words words' p many f e in
    settings_set kiosk h.asked ch asked out out' r count (subst (λ ws. Writer.Writes kiosk.n ws out r out') h.words.front w) q calls below whole ch' ran

-- ---- a text that is printed again

-- what is printed of a text that isn't refused
done_front : (end : Told (Unit {0})) (piece out : List ℕ) {r : _} {out' : List ℕ} → Prints end piece out r out' → r.answer ≡ (Ok tt)
    → (end ≡ done tt) × AtFront piece out out' r.bytes
done_front end piece out p d =
    let so = sym p.answer ∙ ap tells d in
    (so, printed end piece piece out (ap (λ t. out_by t piece) so) p.count p.bytes)

pub again_same : AgainSame
again_same text out out' r p d =
    let kiosk = (read_of text).state in
    let so = done_front (again_end text) (text_of kiosk) out p d in
    subst (λ xs. AtFront xs out out' r.bytes) (read_written text kiosk (read_as text so.0)).0 so.1

-- ---- the capture text

module _ (kiosk : Kiosk) (a : AskedKiosk kiosk) (accepted : list_test kiosk.n (kiosk_words kiosk) ≡ done tt) where
  abbrev n : ℕ
  n = kiosk.n

  -- the samples of the rows, played on a panel that was started
  abbrev ss : List ℕ
  ss = written n (kiosk_words kiosk)

  abbrev es : List Event
  es = map sample ss

  asked : Asked n start_chain (kiosk_words kiosk)
  asked = start_asked n (kiosk_words kiosk) (subst T (sym (passes kiosk a.legal).chips) tt) accepted

  small : AllBelow 8 ss
  small = checked_below 0 ss (checked_block ss [] 0 _ _ _ (begins n start_chain (kiosk_words kiosk) asked (ss ++ []) (append-nil ss)).writes)

  started_set : (k : ℕ) → k < n → EndsWith (kept_at k kiosk) reset_chip (chip_at k (played n ss start_chain))
  started_set k h =
      let whole = samples_block ss in
      let steps = steps_for k start_chain.levels (Rows.rows_of n (kiosk_words kiosk)) es in
      let reset : chip_at k start_chain ≡ reset_chip = get_or-replicate most k reset_chip reset_chip (omega (arith, few kiosk a)) in
      let ends = own_set kiosk a k h steps (chip_at k start_chain) (chip_at k (happened n es start_chain))
      (demand_3 n start_chain (kiosk_words kiosk) asked es [] (no_scan n ss) (append-nil (samples_in es) ∙ whole) k h)
      (own_words n start_chain (kiosk_words kiosk) asked es whole k h) in
      subst (λ ch. EndsWith (kept_at k kiosk) reset_chip (chip_at k ch)) (sym (played_happens n ss start_chain))
      (subst (λ c. EndsWith (kept_at k kiosk) c (chip_at k (happened n es start_chain))) reset ends)

  capture_sets : SetsTo kiosk (setup_of kiosk)
  capture_sets =
      let count = (passes kiosk a.legal).chips in
      record {
        chips = capture_first n count ss small;
        taken = λ what out out' r p.
            same_result (p.answer ∙ capture_ends n count ss small (omega (arith, setup_length kiosk a.legal a.places)));
        sets = λ what k h.
            subst (λ ch. EndsWith (kept_at k kiosk) reset_chip (chip_at k ch)) (sym (capture_plays n count ss small what start_chain)) (started_set k h);
      }

pub setup_sets : SetupSets
setup_sets text out out' r p d =
    let kiosk = (read_of text).state in
    let so = done_front (setup_end text) (setup_of kiosk) out p d in
    let tests = both_done (read_of text).told (list_test kiosk.n (kiosk_words kiosk)) so.0 in
    subst (SetsTo kiosk) (sym so.1.front) (capture_sets kiosk (reads_asked text tests.0) tests.1)

-- ---- the first bytes

pub first_bytes_print : FirstBytesPrint
first_bytes_print =
    record {
      again = λ text m h out out' r.
          subst (λ (o : Outcome Kiosk (Unit {0})). Prints o.told (text_of o.state) out r out') (first_decides text m h);
      setup = λ text m h out out' r.
          subst (λ (o : Outcome Kiosk (Unit {0})). Prints (or_else o.told (list_test o.state.n (kiosk_words o.state))) (setup_of o.state) out r out')
          (first_decides text m h);
    }
