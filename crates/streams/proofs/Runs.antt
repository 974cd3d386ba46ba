-- Samples without DOUT in a raw stream: how many stand first, and that they were played.
--     plain_prefix                           they are the front that passes the test
--     plain_length_le, plain_run, plain_low  how many there can be; they are samples, below 8
--     plain_fits, plain_few, plain_all, plain_played     a stretch of them
--     rest_run, run_rest, looked_run         the samples that stand first, played with the looks before them
-- Assumes nothing.
use Rattle.std.proofs.Common.{◌≡◌, ℕ, suc, ◌+◌, ◌-◌, ◌*◌, ◌%◌, ◌^◌, ◌≤◌, true, false, ◌&&◌, ltb, List, [], ◌∷◌, length, take, drop, sym, refl, ap, subst, ap₂, arith, length-drop, length-take, take_all, ltb-true, le-leb, ◌∙◌}
use Rattle.std.specs.List.{prefix_len}
use native.Mathlib.Nat.{min-le_left}
use Rattle.base.specs.Below.{AllBelow}
use Rattle.base.proofs.Picks.{pick_yes, pick_cases}
use Rattle.chain.specs.Chain.{chip_count}
use Rattle.capture.specs.declared.Report.{Report}
use Rattle.reads.specs.declared.Ran.{Ran}
use Rattle.reads.specs.Parts.{sample_room, run_length, first_of, RunsFirst}
use Rattle.reads.proofs.Lengths.{run_take}
use Rattle.streams.specs.declared.State.{State}
use Rattle.streams.specs.declared.Step.{Step}
use Rattle.streams.specs.declared.held.Held.{Held}
use Rattle.streams.specs.declared.samples.Ran as Samples
use Rattle.streams.specs.Held.{none_held}
use Rattle.streams.specs.Parts.{Steps, ran, plain_length, Runs}
use Rattle.streams.proofs.Stepping.{looks_made}

-- ---- how many there are

pub plain_prefix : (bytes : List ℕ) → prefix_len (λ b. ltb b 0x08) bytes ≡ plain_length bytes
unfolding plain_length
plain_prefix [] = refl
plain_prefix (b ∷ bytes) =
    let more = plain_prefix bytes in
    pick_cases (λ m. prefix_len (λ b. ltb b 0x08) (b ∷ bytes) ≡ m) (ltb b 0x08) (λ e. rw e (omega arith)) (λ e. rw e refl)

pub plain_length_le : (bytes : List ℕ) → plain_length bytes ≤ length bytes
unfolding plain_length
plain_length_le [] = omega arith
plain_length_le (b ∷ bytes) =
    let more = plain_length_le bytes in
    pick_cases (λ m. m ≤ length (b ∷ bytes)) (ltb b 0x08) (λ _. omega arith) (λ _. omega arith)

-- they are samples
pub plain_run : (bytes : List ℕ) → plain_length bytes ≤ run_length bytes
unfolding plain_length run_length
plain_run [] = omega arith
plain_run (b ∷ bytes) =
    let more = plain_run bytes in
    pick_cases (λ m. m ≤ run_length (b ∷ bytes)) (ltb b 0x08)
    (λ e. let one : run_length (b ∷ bytes) ≡ suc (run_length bytes) = pick_yes _ _ (pick_yes _ _ e) in
    omega arith)
    (λ _. omega arith)

-- and below 8
pub plain_low : (bytes : List ℕ) → AllBelow 8 (take (plain_length bytes) bytes)
unfolding plain_length
plain_low [] = tt
plain_low (b ∷ bytes) =
    pick_cases (λ m. AllBelow 8 (take m (b ∷ bytes))) (ltb b 0x08) (λ e. (ltb-true b 0x08 e, plain_low bytes)) (λ _. tt)

-- ---- a stretch of them, played as they stand

module _ (bytes : List ℕ) {count : ℕ} (here : count ≡ plain_length bytes) where
  pub plain_fits : count ≤ length bytes
  plain_fits = omega (arith, plain_length_le bytes)

  pub plain_few : length (take count bytes) ≤ run_length bytes
  plain_few = omega (arith, plain_run bytes, length-take count bytes, min-le_left count (length bytes))

  pub plain_all : AllBelow 8 (take count bytes)
  plain_all = subst (λ m. AllBelow 8 (take m bytes)) (sym here) (plain_low bytes)

  pub plain_played : {what : Report} {s : State} {at : ℕ} {out out' : List ℕ} {step : Step} → 1 ≤ count
      → Steps (ran what s (take count bytes)) at out step out'
      → Runs what s bytes at out (record { step = step; count = count }) out'
  plain_played some made = record { some = some; within = omega (arith, plain_run bytes); step = made }

-- ---- the samples that stand first, with the looks before them

-- the part from a place on
module _ (bytes : List ℕ) (from : ℕ) where
  part_all : take (length bytes - from) (drop from bytes) ≡ drop from bytes
  part_all = take_all (length bytes - from) (drop from bytes) (omega (arith, length-drop from bytes))

  pub rest_run : (at : ℕ) (out : List ℕ) → 1 ≤ run_length (drop from bytes) → at + sample_room * (run_length (drop from bytes) + 1) ≤ length out
      → (1 ≤ run_length (take (length bytes - from) (drop from bytes))) × (at + sample_room * run_length (take (length bytes - from) (drop from bytes)) ≤ length out)
  rest_run at out some room = (omega (arith, ap run_length part_all), omega (arith, ap run_length part_all))

  pub run_rest : {what : Report} {s : State} {at : ℕ} {out out' : List ℕ} {r : Samples.Ran} → Runs what s (take (length bytes - from) (drop from bytes)) at out r out'
      → Runs what s (drop from bytes) at out r out'
  run_rest {what} {s} {at} {out} {out'} {r} made = subst (λ xs. Runs what s xs at out r out') part_all made

module _ (what : Report) (s : State) (bytes : List ℕ) (at : ℕ) (out : List ℕ) (count : chip_count s.n ≡ true) (some : 1 ≤ run_length bytes)
    (room : at + sample_room * run_length bytes ≤ length out) where
  first_all : first_of s.n bytes at out ≡ take (run_length bytes) bytes
  first_all = pick_yes _ _ (ap₂ ◌&&◌ count (le-leb (at + sample_room * run_length bytes) (length out) room))

  pub looked_run : {r : Ran} {out' : List ℕ} → RunsFirst what s.n s.place (first_of s.n bytes at out) s.chain s.reader at out r out'
      → {place : ℕ} → place ≡ (s.place + r.count) % 2 ^ 64
      → {held : Held} → held ≡ none_held
      → Runs what s bytes at out
      (record { step = record { state = record { n = s.n; chain = r.chain; place = place; held = held; reader = r.reader }; over = false; at = r.at }; count = r.count }) out'
  looked_run {r} {out'} made {place} p {held} h =
      let first = subst (λ xs. RunsFirst what s.n s.place xs s.chain s.reader at out r out') first_all made in
      let all : r.count ≡ run_length bytes = first.counts ∙ run_take bytes in
      let step : Step = record { state = record { n = s.n; chain = r.chain; place = place; held = held; reader = r.reader }; over = false; at = r.at } in
      record {
        some = omega arith;
        within = omega arith;
        step = subst (λ m. Steps (ran what s (take m bytes)) at out step out') (sym all) (looks_made what s (take (run_length bytes) bytes) first p h);
      }
