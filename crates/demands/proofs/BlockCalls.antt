-- Blocks of samples beside calls of `play`: specs/Blocks.antt.
--     sent_run              any calls of `block` and `scan` have results that the contracts allow
--     demand_3_blocks       the third demand of blocks
-- Assumes nothing.
use mathlib.Core.Path.{◌≡◌, refl, ap, ap₂, sym, subst, ◌∙◌}
use mathlib.Core.Bool.{Bool, true, false}
use mathlib.Core.List.{List, [], ◌∷◌, ◌++◌, map, append-nil, append_assoc}
use Prim.Native.Nat.{ℕ, suc, ◌≤◌}
use lib.Dec.{T, leb, ltb}
use lib.ListN.{length}
use Rattle.base.specs.Pick.{pick}
use Rattle.base.specs.declared.Refusal.TheVariants.{Sample, ScanChip, ChipCount, Room, Record}
use Rattle.base.specs.Refusals.{Told, IsDone, done, refused, hands_back, once_tested, tells}
use Rattle.chip.specs.Entries as One
use Rattle.chip.specs.Scans.{recorded}
use Rattle.chip.specs.Scans.{scanned as scanned_chip}
use Rattle.chip.proofs.Unique.{record_of, recording_back}
use Rattle.chain.specs.declared.Chain.{Chain}
use Rattle.chain.specs.Chain.{most, chip_count, valid_chain, tested_of, checked_from, played}
use Rattle.chain.specs.Entries.{chip_at, with_chip, scanned_of}
use Rattle.chain.specs.Events as Events
use Rattle.chain.specs.Events.{sample, happened, ScansBelow}
use Rattle.chain.specs.Blocks.{rises_in, block_of, list_of}
use Rattle.chain.proofs.Clocks.{held}
use Rattle.chain.proofs.Histories.{played_happens}
use Rattle.chain.proofs.Laws.{checked_below}
use Rattle.writer.specs.Rows.{rows_of}
use Rattle.writer.proofs.Answered.{written_part}
use Rattle.zhaqsumir.specs.Numbers.{number_in, place_in}
use Rattle.demands.specs.Calls.{Ran, events_of}
use Rattle.demands.specs.Calls as Calls
use Rattle.demands.specs.Blocks.{Sent, block, scan, calls_of, samples_of, Sends, over, called, scanned, NoneRefused, LongEnough, Demand3Blocks, SentRun}
use Rattle.demands.specs.Demand3.{Asked}
use Rattle.demands.proofs.Going.{Going, rows_left}
use Rattle.demands.proofs.Demand3 as Three
use Rattle.demands.proofs.Entries.{going_tested}
use Rattle.demands.proofs.Calls.{checked_block, below_block, block_played, chip_scanned}
use Rattle.demands.proofs.Whole.{demand_3_whole}
use Rattle.demands.proofs.Blocks.{accepted}
use Rattle.std.specs.declared.result.Result.{Result}
use Rattle.std.specs.declared.result.Result.TheVariants.{Ok, Err}
use Rattle.base.specs.declared.Refusal.{Refusal}
use Rattle.chip.specs.declared.Recorded.{Recorded}

-- ---- results

-- a test is told by an answer
Verdictly : Told (Unit {0}) → Type 0
Verdictly t = (v : Result (Unit {0}) Refusal) × (tells v ≡ t)

first_verdict : (n : ℕ) (ch : Chain) → Verdictly (tested_of n ch)
unfolding Verdictly tested_of
first_verdict n ch = go (chip_count n) (valid_chain n ch)
  where
    go : (a b : Bool) → Verdictly (pick a (pick b (done tt) (refused 12 0)) (refused 3 0))
    go true true = ((Ok tt), refl)
    go true false = (Err Record, refl)
    go false b = (Err ChipCount, refl)

samples_verdict : (place : ℕ) (ss : List ℕ) → Verdictly (checked_from place ss)
unfolding Verdictly checked_from
samples_verdict place [] = ((Ok tt), refl)
samples_verdict place (s ∷ ss) = go (leb s 7) (samples_verdict (suc place) ss)
  where
    go : (b : Bool) {t : Told (Unit {0})} → Verdictly t → Verdictly (pick b t (refused 1 place))
    go true v = v
    go false v = (Err (Sample place), refl)

-- a refusal by a test's answer is one by an answer of rises, and of a scan
rises_refused : (v : Result (Unit {0}) Refusal) {number place : ℕ} → tells v ≡ refused number place → (a : Result ℕ Refusal) × (tells a ≡ refused number place)
rises_refused (Ok tt) e = absurd (subst IsDone e tt)
rises_refused (Err x) e = (Err x, ap₂ refused (ap number_in e) (ap place_in e))

scan_refused : (v : Result (Unit {0}) Refusal) {number place : ℕ} → tells v ≡ refused number place → (a : Result Recorded Refusal) × (One.scan_tells a ≡ refused number place)
scan_refused (Ok tt) e = absurd (subst IsDone e tt)
scan_refused (Err x) e = (Err x, ap₂ refused (ap number_in e) (ap place_in e))

some_rises : (n : ℕ) (ch : Chain) (ss list : List ℕ) → (a : Result ℕ Refusal) × (tells a ≡ (block_of n ch ss list).told)
unfolding Verdictly block_of
some_rises n ch ss list = go (tested_of n ch) (checked_from 0 ss) (leb (length (rises_in ch ss)) (length list)) (first_verdict n ch) (samples_verdict 0 ss)
  where
    go : (t u : Told (Unit {0})) (b : Bool) → Verdictly t → Verdictly u
        → (a : Result ℕ Refusal)
        × (tells a ≡ (once_tested t ch (once_tested u ch (pick b (record { state = played n ss ch; told = done (length (rises_in ch ss)) }) (hands_back ch 8 0)))).told)
    go (done x) (done y) true v w = (Ok (length (rises_in ch ss)), refl)
    go (done x) (done y) false v w = (Err Room, refl)
    go (done x) (refused number place) b v w = rises_refused w.0 w.1
    go (refused number place) u b v w = rises_refused v.0 v.1

some_scan : (n : ℕ) (ch : Chain) (k : ℕ) (bytes : List ℕ) → (a : Result Recorded Refusal) × (One.scan_tells a ≡ (scanned_of n ch k bytes).told)
unfolding Verdictly scanned_of
some_scan n ch k bytes = go (tested_of n ch) (ltb k n) (first_verdict n ch)
  where
    go : (t : Told (Unit {0})) (b : Bool) → Verdictly t
        → (a : Result Recorded Refusal)
        × (One.scan_tells a ≡ (once_tested t ch (pick b (record { state = with_chip k (scanned_chip bytes (chip_at k ch)) ch; told = done (recorded bytes (chip_at k ch)) }) (hands_back ch 2 0))).told)
    go (done x) true v = (Ok (record_of (recorded bytes (chip_at k ch))), ap done (recording_back (recorded bytes (chip_at k ch))))
    go (done x) false v = (Err ScanChip, refl)
    go (refused number place) b v = scan_refused v.0 v.1

pub sent_run : SentRun
sent_run n ch [] = (ch, over)
sent_run n ch (block ss list ∷ sent) =
    let o = block_of n ch ss list in
    let a = some_rises n ch ss list in
    let later = sent_run n o.state sent in
    (later.0, called (record { value = o.state; answer = a.0 }) (list_of n ch ss list) (record { answer = λ i. record { state = o.state; told = a.1 i }; places = refl }) later.1)
sent_run n ch (scan k bytes ∷ sent) =
    let o = scanned_of n ch k bytes in
    let a = some_scan n ch k bytes in
    let later = sent_run n o.state sent in
    (later.0, scanned (record { value = o.state; answer = a.0 }) (λ i. record { state = o.state; told = a.1 i }) later.1)

-- ---- the third demand

module _ (n : ℕ) (fits : n ≤ most) (count : T (chip_count n)) where
  -- in the middle of a write no call is refused, and calls of `play` leave the same
  sends_ran : (rest : List ℕ) {ch ch' : Chain} {sent : List Sent} (ran : Sends n ch sent ch') (rows : List (List ℕ))
      → Going n most ch rows (samples_of sent ++ rest)
      → ScansBelow n (events_of (calls_of sent))
      → LongEnough n ch sent
      → NoneRefused ran × Ran n ch (calls_of sent) ch'
  sends_ran rest over rows g below long = (tt, Calls.over)
  sends_ran rest {ch} (called {samples = ss} {list = list} {sent = sent} r list' contract next) rows g below long =
      let more = samples_of sent ++ rest in
      let going = subst (Going n most ch rows) (append_assoc ss (samples_of sent) rest) g in
      let step = block_played n fits count ss more ch rows going in
      let fine = checked_block ss more 0 ch.levels (held n ch.chips) rows going.writes in
      let a = accepted n ch (going_tested n ch rows (ss ++ more) count going) ss list (checked_below 0 ss fine) long.0 r list' contract in
      let same = a.chain ∙ played_happens n ss ch in
      let left = rows_left ch.levels rows (map sample ss) in
      let later =
      sends_ran rest next left (subst (λ x. Going n most x left more) (sym same) step.1) (below_block n ss (events_of (calls_of sent)) below)
      (subst (λ x. LongEnough n x sent) (sym a.chain) long.1) in (
        (a.answered, later.0),
        Calls.played (record { value = r.value; answer = (Ok tt) }) (ap (λ (x : Chain). record { state = x; told = done tt }) same ∙ sym step.0) later.1,
      )
  sends_ran rest {ch} (scanned {k = k} {bytes = bytes} {sent = sent} r contract next) rows g below long =
      let more = samples_of sent ++ rest in
      let step = chip_scanned n fits count k bytes more ch rows below.0 g in
      let whole = contract ∙ step.0 in
      let same : r.value ≡ happened n (Events.scan k bytes ∷ []) ch = ap (λ o. o.state) whole in
      let later =
      sends_ran rest next rows (subst (λ x. Going n most x rows more) (sym same) step.1) below.1 (subst (λ x. LongEnough n x sent) (sym same) long) in
      ((subst IsDone (sym (ap (λ o. o.told) whole)) tt, later.0), Calls.scanned r contract later.1)

pub demand_3_blocks : Demand3Blocks
demand_3_blocks n ch ws a out out' r count w e sent below whole long ch' ran =
    let p = written_part n ws out out' r count w e in
    let three : Asked n ch ws = record { chain = a; accepted = p.0 } in
    let begin = Three.begins n ch ws three (samples_of sent ++ []) (append-nil (samples_of sent) ∙ whole ∙ p.1) in
    let both = sends_ran n (Three.room n ch ws three) a.panel.count [] ran (rows_of n ws) begin below long in
    (both.0, (both.1, demand_3_whole n ch ws a out out' r count w e (calls_of sent) below whole ch' both.1))
