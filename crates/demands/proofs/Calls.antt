-- Demand 3, of buffers and calls: from the contracts of `write`, `play` and `scan` to the theorem.
--     checked_block        samples that write rows pass the test of `play`
--     samples_block, samples_blocks     the samples among the events of a block, and of calls, are those of their blocks
--     block_played         in the middle of a write `play` refuses nothing, and the write goes on
--     chip_scanned         nor does `scan`
--     ran_happened         so no call of several is refused, and they leave what their events leave
--     run_calls            and there are such results
--     demand_3_of_calls    the theorem
--     calls_run            the calls that it speaks of have results
-- Assumes nothing.
use mathlib.Core.Path.{◌≡◌, refl, ap, sym, subst, ◌∙◌}
use mathlib.Core.List.{List, [], ◌∷◌, ◌++◌, map, append_assoc}
use Prim.Native.Nat.{ℕ, ◌≤◌, ◌<◌}
use borrow.Author.Tests.{le-leb}
use lib.Dec.{T}
use lib.ListN.{take}
use Rattle.base.specs.Refusals.{IsDone, done}
use Rattle.base.proofs.Picks.{pick_yes}
use Rattle.chip.specs.Record.{body_of}
use Rattle.chip.specs.Edges.{din, load_rises}
use Rattle.chip.specs.Scans.{recorded}
use Rattle.chip.proofs.Unique.{record_of, recording_back}
use Rattle.chain.specs.declared.Chain.{Chain}
use Rattle.chain.specs.Chain.{most, chip_count, checked_from}
use Rattle.chain.proofs.Clocks.{Held, held_row, held}
use Rattle.chain.specs.Entries.{chip_at, played_of, scanned_of}
use Rattle.writer.specs.Rows.{rows_of, written, list_test}
use Rattle.writer.proofs.Answered.{written_part}
use Rattle.demands.specs.Events.{rows_after}
use Rattle.chain.specs.Events as Events
use Rattle.chain.specs.Events.{Event, sample, happened, samples_in, ScansBelow}
use Rattle.demands.specs.Demand3.{AskedChain, Asked}
use Rattle.demands.specs.Calls.{Call, play, scan, events_of, blocks_of, Ran, over, played, scanned, AllDone, AsTold, Demand3OfCalls, CallsRun}
use Rattle.demands.proofs.Writes.{Writes}
use Rattle.demands.proofs.Going.{Going, rows_left, going_on}
use Rattle.demands.proofs.Demand3 as Three
use Rattle.chain.proofs.Histories.{happened_append}
use Rattle.demands.proofs.Entries.{going_tested, play_happens, scan_happens}
use Rattle.std.specs.declared.result.Result.TheVariants.{Ok}

-- ---- samples and blocks

pub checked_block : (block rest : List ℕ) (place was : ℕ) (hs : List Held) (rows : List (List ℕ)) → Writes was hs rows (block ++ rest)
    → checked_from place block ≡ done tt
unfolding checked_from
checked_block [] rest place was hs rows w = refl
checked_block (s ∷ block) rest place was hs rows w =
    pick_yes _ _ (le-leb s 7 w.0)
    ∙ checked_block block rest _ s (held_row was s (din s) hs) (rows_after (load_rises was s) rows) w.2

-- the samples of a block's events are the block, and those of other events come after them
samples_append : (block : List ℕ) (es : List Event) → samples_in (map sample block ++ es) ≡ block ++ samples_in es
samples_append [] es = refl
samples_append (s ∷ block) es = ap (λ ss. s ∷ ss) (samples_append block es)

-- without other events, the block
pub samples_block : (block : List ℕ) → samples_in (map sample block) ≡ block
samples_block [] = refl
samples_block (s ∷ block) = ap (λ ss. s ∷ ss) (samples_block block)

pub samples_blocks : (calls : List Call) → samples_in (events_of calls) ≡ blocks_of calls
samples_blocks [] = refl
samples_blocks (play block ∷ calls) = samples_append block (events_of calls) ∙ ap (λ ss. block ++ ss) (samples_blocks calls)
samples_blocks (scan k bytes ∷ calls) = samples_blocks calls

-- a block has no scans
pub below_block : (n : ℕ) (block : List ℕ) (es : List Event) → ScansBelow n (map sample block ++ es) → ScansBelow n es
below_block n [] es below = below
below_block n (s ∷ block) es below = below_block n block es below

-- ---- calls

module _ (n : ℕ) (fits : n ≤ most) (count : T (chip_count n)) where
  pub block_played : (block more : List ℕ) (ch : Chain) (rows : List (List ℕ)) → Going n most ch rows (block ++ more)
      → (played_of n ch block ≡ record { state = happened n (map sample block) ch; told = done tt })
      × Going n most (happened n (map sample block) ch) (rows_left ch.levels rows (map sample block)) more
  block_played block more ch rows g = (
    play_happens n ch block (going_tested n ch rows (block ++ more) count g)
        (checked_block block more 0 ch.levels (held n ch.chips) rows g.writes),
    going_on n most fits (map sample block) more ch rows (subst (λ ss. Going n most ch rows (ss ++ more)) (sym (samples_block block)) g),
  )

  pub chip_scanned : (k : ℕ) (bytes more : List ℕ) (ch : Chain) (rows : List (List ℕ)) → k < n → Going n most ch rows more
      → (scanned_of n ch k bytes ≡ record { state = happened n (Events.scan k bytes ∷ []) ch; told = done (recorded bytes (chip_at k ch)) })
      × Going n most (happened n (Events.scan k bytes ∷ []) ch) rows more
  chip_scanned k bytes more ch rows h g = (
    scan_happens n ch k bytes (going_tested n ch rows more count g) h,
    going_on n most fits (Events.scan k bytes ∷ []) more ch rows g,
  )

  pub ran_happened : (rest : List ℕ) {ch ch' : Chain} {calls : List Call} (ran : Ran n ch calls ch') (rows : List (List ℕ))
      → Going n most ch rows (blocks_of calls ++ rest)
      → ScansBelow n (events_of calls)
      → AllDone ran × (ch' ≡ happened n (events_of calls) ch)
  ran_happened rest over rows g below = (tt, refl)
  ran_happened rest {ch} (played {block = block} {calls = calls} r contract next) rows g below =
      let more = blocks_of calls ++ rest in
      let step = block_played block more ch rows (subst (Going n most ch rows) (append_assoc block (blocks_of calls) rest) g) in
      let whole = contract ∙ step.0 in
      let same : r.value ≡ happened n (map sample block) ch = ap (λ o. o.state) whole in
      let left = rows_left ch.levels rows (map sample block) in
      let going = subst (λ x. Going n most x left more) (sym same) step.1 in
      let later = ran_happened rest next left going (below_block n block (events_of calls) below) in (
        (subst IsDone (sym (ap (λ o. o.told) whole)) tt, later.0),
        later.1 ∙ ap (happened n (events_of calls)) same ∙ sym (happened_append n (map sample block) (events_of calls) ch),
      )
  ran_happened rest {ch} (scanned {k = k} {bytes = bytes} {calls = calls} r contract next) rows g below =
      let more = blocks_of calls ++ rest in
      let step = chip_scanned k bytes more ch rows below.0 g in
      let whole = contract ∙ step.0 in
      let same : r.value ≡ happened n (Events.scan k bytes ∷ []) ch = ap (λ o. o.state) whole in
      let later = ran_happened rest next rows (subst (λ x. Going n most x rows more) (sym same) step.1) below.1 in
      ((subst IsDone (sym (ap (λ o. o.told) whole)) tt, later.0), later.1 ∙ ap (happened n (events_of calls)) same)

  pub run_calls : (rest : List ℕ) (calls : List Call) (ch : Chain) (rows : List (List ℕ))
      → Going n most ch rows (blocks_of calls ++ rest)
      → ScansBelow n (events_of calls)
      → (ch' : Chain) × Ran n ch calls ch'
  run_calls rest [] ch rows g below = (ch, over)
  run_calls rest (play block ∷ calls) ch rows g below =
      let more = blocks_of calls ++ rest in
      let step = block_played block more ch rows (subst (Going n most ch rows) (append_assoc block (blocks_of calls) rest) g) in
      let next = happened n (map sample block) ch in
      let later = run_calls rest calls next (rows_left ch.levels rows (map sample block)) step.1 (below_block n block (events_of calls) below) in
      (later.0, played (record { value = next; answer = (Ok tt) }) (sym step.0) later.1)
  run_calls rest (scan k bytes ∷ calls) ch rows g below =
      let more = blocks_of calls ++ rest in
      let step = chip_scanned k bytes more ch rows below.0 g in
      let next = happened n (Events.scan k bytes ∷ []) ch in
      let later = run_calls rest calls next rows step.1 below.1 in
      let what = recorded bytes (chip_at k ch) in
      (later.0, scanned (record { value = next; answer = Ok (record_of what) }) (ap (λ w. record { state = next; told = done w }) (recording_back what) ∙ sym step.0) later.1)

-- ---- the theorem

module _ (n : ℕ) (ch : Chain) (ws : List ℕ) (a : AskedChain n ch) (part : List ℕ) (accepted : list_test n ws ≡ done tt) (same : part ≡ written n ws) where
  -- what demand 3 asks
  asked : Asked n ch ws
  asked = record { chain = a; accepted = accepted }

  -- the chain with the blocks and the rest to come is one in the middle of a write
  blocks_begin : (calls : List Call) (rest : List ℕ) → blocks_of calls ++ rest ≡ part → Going n most ch (rows_of n ws) (blocks_of calls ++ rest)
  blocks_begin calls rest begin = Three.begins n ch ws asked (blocks_of calls ++ rest) (begin ∙ same)

  -- what the calls leave
  as_told : (calls : List Call) (rest : List ℕ) → ScansBelow n (events_of calls) → blocks_of calls ++ rest ≡ part
      → (ch' : Chain) (ran : Ran n ch calls ch') → AsTold n ch ws calls ch' ran
  as_told calls rest below begin ch' ran =
      let all = ran_happened n (Three.room n ch ws asked) a.panel.count rest ran (rows_of n ws) (blocks_begin calls rest begin) below in
      record {
        answered = all.0;
        chain = all.1;
        bodies =
            λ k h.
            ap (λ x. body_of (chip_at k x)) all.1
            ∙ Three.demand_3 n ch ws asked (events_of calls) rest below (ap (λ ss. ss ++ rest) (samples_blocks calls) ∙ begin ∙ same) k h;
      }

  -- results of the calls
  some_run : (calls : List Call) (rest : List ℕ) → ScansBelow n (events_of calls) → blocks_of calls ++ rest ≡ part → (ch' : Chain) × Ran n ch calls ch'
  some_run calls rest below begin =
      run_calls n (Three.room n ch ws asked) a.panel.count rest calls ch (rows_of n ws) (blocks_begin calls rest begin) below

pub demand_3_of_calls : Demand3OfCalls
demand_3_of_calls n ch ws a out out' r count w e =
    let p = written_part n ws out out' r count w e in
    as_told n ch ws a (take count out') p.0 p.1

pub calls_run : CallsRun
calls_run n ch ws a out out' r count w e =
    let p = written_part n ws out out' r count w e in
    some_run n ch ws a (take count out') p.0 p.1
