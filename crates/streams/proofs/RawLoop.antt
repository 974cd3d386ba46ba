-- The loop over a raw stream's block: a run of samples or one byte at a turn. The invariant is `Walked`: that of `Goes`, and how much was
-- written for the bytes so far.
--     walked_start                            the loop's start
--     run_within, run_counted, run_some, run_room     a run stays within the block, N is known, and there is a sample and room
--     byte_room                               one byte has room
--     walked_run, walked_byte, walked_stop    a run; a byte that goes on, and one that is refused
-- Assumes nothing.
use Rattle.std.proofs.Common.{◌≡◌, ℕ, suc, ◌+◌, ◌*◌, ◌<◌, ◌≤◌, true, false, List, length, get_or, take, drop, sym, refl, ap, ◌∙◌, subst, arith, length-drop, length-take, drop-drop}
use native.Mathlib.Nat.{min-le_left}
use Rattle.base.proofs.Lists.{rest_is}
use Rattle.base.proofs.Picks.{pick_yes}
use Rattle.chain.specs.Chain.{chip_count}
use Rattle.capture.specs.declared.Report.{Report}
use Rattle.reads.specs.Parts.{sample_room, run_length}
use Rattle.reads.proofs.Lengths.{run_more, run_length_le}
use Rattle.reads.proofs.Sampling.{sampled_all_few}
use Rattle.streams.specs.declared.State.{State}
use Rattle.streams.specs.declared.Step.{Step}
use Rattle.streams.specs.declared.samples.Ran.{Ran}
use Rattle.streams.specs.Parts.{most_written, Steps, ran, starts_run, Runs}
use Rattle.streams.specs.Steps.{raw_byte, then, steps}
use Rattle.streams.proofs.Goes.{next_byte, Goes, goes_start, goes_on, goes_last}
use Rattle.streams.proofs.RawSteps.{starts_so, raw_run}
use Rattle.streams.proofs.Rooms.{raw_byte_room, raw_room}

pub record Walked (what : Report) (s₀ : State) (bytes out₀ : List ℕ) (s : State) (at i : ℕ) (out : List ℕ) : Type 0 where
  pub goes : Goes (raw_byte what) s₀ bytes out₀ s at i out
  pub few : length bytes ≤ 4096
  pub large : most_written ≤ length out₀
  pub written : at ≤ 187 * i

pub walked_start : (what : Report) (s : State) (bytes out : List ℕ) → length bytes ≤ 4096 → most_written ≤ length out → Walked what s bytes out s 0 0 out
walked_start what s bytes out h l = record { goes = goes_start (raw_byte what) s bytes out; few = h; large = l; written = omega arith }

module _ {what : Report} {s₀ : State} {bytes out₀ : List ℕ} {s : State} {at i : ℕ} {out : List ℕ} (w : Walked what s₀ bytes out₀ s at i out) (more : i < length bytes) where
  -- the whole fits
  fits : 0 + length (steps (raw_byte what) s₀ bytes).out ≤ length out₀
  fits = omega (arith, raw_room what s₀ bytes, w.few, w.large)

  -- a run stays within the block
  pub run_within : {r : Ran} {out' : List ℕ} → Runs what s (drop i bytes) at out r out' → i + r.count ≤ length bytes
  run_within ran_so = omega (arith, ran_so.within, run_length_le (drop i bytes), length-drop i bytes)

  -- ---- one byte

  abbrev byte : ℕ
  byte = get_or bytes i 0

  pub byte_room : at + 21 ≤ length out
  byte_room = omega (arith, w.written, w.few, w.large, w.goes.fills.size)

  pub walked_byte : {r : Step} {out' : List ℕ} → Steps (raw_byte what s byte) at out r out' → r.over ≡ false → Walked what s₀ bytes out₀ r.state r.at (i + 1) out'
  walked_byte made Goes-Further =
      record {
        goes =
            goes_on (raw_byte what) w.goes (raw_byte what s byte) (i + 1) (omega arith) (next_byte (raw_byte what) s bytes i more) (sym made.over ∙ Goes-Further)
            fits made;
        few = w.few;
        large = w.large;
        written = omega (arith, w.written, made.puts.answer, raw_byte_room what s byte);
      }

  pub walked_stop : {r : Step} {out' : List ℕ} → Steps (raw_byte what s byte) at out r out' → r.over ≡ true → Steps (steps (raw_byte what) s₀ bytes) 0 out₀ r out'
  walked_stop made stops =
      goes_last (raw_byte what) w.goes (raw_byte what s byte) (next_byte (raw_byte what) s bytes i more ∙ pick_yes _ _ (sym made.over ∙ stops)) made

  -- ---- a run of samples

  module _ (starts : starts_run s byte ≡ true) where
    pub run_counted : chip_count s.n ≡ true
    run_counted = (starts_so s byte starts).0

    first_sample : run_length (drop i bytes) ≡ suc (run_length (drop (i + 1) bytes))
    first_sample = run_more bytes i more (starts_so s byte starts).1.1

    pub run_some : 1 ≤ run_length (drop i bytes)
    run_some = omega (arith, first_sample)

    pub run_room : at + sample_room * (run_length (drop i bytes) + 1) ≤ length out
    run_room =
        omega (arith, w.written, w.few, w.large, w.goes.fills.size, run_length_le (drop i bytes), length-drop i bytes)

    pub walked_run : {r : Ran} {out' : List ℕ} → Runs what s (drop i bytes) at out r out'
        → Walked what s₀ bytes out₀ r.step.state r.step.at (i + r.count) out'
    walked_run {r} {out'} ran_so =
        let m = r.count in
        let run = take m (drop i bytes) in
        let so = starts_so s byte starts in
        let within : m ≤ length (drop i bytes) = omega (arith, ran_so.within, run_length_le (drop i bytes)) in
        let many : length run ≤ m = omega (arith, length-take m (drop i bytes), min-le_left m (length (drop i bytes))) in
        record {
          goes =
              goes_on (raw_byte what) w.goes (ran what s run) (i + m) (omega (arith, length-drop i bytes))
              (subst (λ rest. steps (raw_byte what) s rest ≡ then (ran what s (take m rest)) (λ next. steps (raw_byte what) next (drop m rest))) (sym (rest_is bytes i 0 more))
              (raw_run what m s byte (drop (i + 1) bytes) ran_so.some so.0 so.1.0 so.1.1 (subst (λ rest. m ≤ run_length rest) (rest_is bytes i 0 more) ran_so.within))
              ∙ ap (λ rest. then (ran what s run) (λ next. steps (raw_byte what) next rest)) (drop-drop m i bytes))
              refl fits ran_so.step;
          few = w.few;
          large = w.large;
          written = omega (arith, w.written, ran_so.some, ran_so.step.puts.answer, sampled_all_few what s.n so.0 s.place run s.chain s.reader);
        }
