-- Steps of a stream, as the code makes them.
--     step_as, nothing_written                        a step that is another, and one that writes nothing
--     head_other, head_next, head_count               one of the first three bytes of a raw stream, case by case
--     samples_made, looks_made, scan_made             samples of a raw stream, without and with looks, and a scan that is whole
-- Assumes nothing.
use Rattle.std.proofs.Common.{◌≡◌, ℕ, ◌+◌, ◌*◌, ◌%◌, ◌^◌, ◌<◌, ◌≤◌, true, false, T, List, [], length, sym, refl, ap, ◌∙◌, subst, arith, le-ltb, lt-ltb, eq-eqb, ne_eqb}
use Rattle.base.specs.Below.{AllBelow}
use Rattle.base.proofs.Lent.{placed_none}
use Rattle.base.proofs.Picks.{pick_yes, pick_no}
use Rattle.chain.specs.Chain.{chip_count}
use Rattle.chain.specs.Entries.{start_chain}
use Rattle.chain.proofs.Tested.{count_high}
use Rattle.lines.specs.Answers.{Puts}
use Rattle.capture.specs.declared.Report.{Report}
use Rattle.capture.specs.declared.walk.Took.{Took}
use Rattle.capture.specs.Parts.{Takes}
use Rattle.capture.specs.Takes.{samples_where, scan_where}
use Rattle.capture.proofs.Taken.{samples_where_lem, scan_where_lem}
use Rattle.reads.specs.declared.Ran.{Ran}
use Rattle.reads.specs.Parts as Reads
use Rattle.reads.specs.Reads.{looking, start_reader, next_offset, Sampled, sampled_all}
use Rattle.reads.proofs.Plain.{plain_sampled}
use Rattle.streams.specs.declared.State.{State}
use Rattle.streams.specs.declared.Step.{Step}
use Rattle.streams.specs.declared.held.Held.{Held}
use Rattle.streams.specs.Held.{none_held}
use Rattle.streams.specs.Parts.{Steps, ran}
use Rattle.streams.specs.Raw.{scanned}
use Rattle.streams.specs.Steps.{Stepped, going, begins, raw_refused, raw_held, raw_taken, head_byte}

-- ---- any step

pub step_as : {x y : Stepped} {at : ℕ} {out : List ℕ} {r : Step} {out' : List ℕ} → x ≡ y → Steps y at out r out' → Steps x at out r out'
step_as {at = at} {out = out} {r = r} {out' = out'} e = subst (λ z. Steps z at out r out') (sym e)

pub nothing_written : {s t : State} (at : ℕ) (out : List ℕ) → t ≡ s → Steps (going s []) at out (record { state = t; over = false; at = at }) out
nothing_written at out e = record { state = e; over = refl; puts = record { answer = omega arith; bytes = sym (placed_none out at) } }

-- ---- one of the first three bytes

module _ (s : State) (b : ℕ) where
  pub head_other : s.held.count < 2 → (b ≡ s.held.count → ⊥) → head_byte s b ≡ raw_refused s
  head_other few ne = pick_yes _ _ (lt-ltb s.held.count 2 few) ∙ pick_no _ _ (ne_eqb b s.held.count ne)

  pub head_next : s.held.count < 2 → b ≡ s.held.count → head_byte s b ≡ raw_held s b
  head_next few e = pick_yes _ _ (lt-ltb s.held.count 2 few) ∙ pick_yes _ _ (eq-eqb b s.held.count e)

  pub head_count : 2 ≤ s.held.count → chip_count b ≡ true → head_byte s b ≡ going (begins b start_chain start_reader (next_offset s.place)) []
  head_count many e = pick_no _ _ (le-ltb s.held.count 2 many) ∙ pick_yes _ _ e

-- ---- an item that is whole

-- a chain that was taken, and what it wrote
module _ (what : Report) (s : State) {at : ℕ} {out out' : List ℕ} where
  -- samples before one has a recorded DOUT
  pub samples_made : {t : Took} (levels : List ℕ) → chip_count s.n ≡ true → AllBelow 8 levels → looking s.reader.dout ≡ false
      → at + 84 * (length levels + 1) ≤ length out
      → Takes (samples_where what s.n s.chain levels at out) at out t out'
      → {place : ℕ} → place ≡ (s.place + length levels) % 2 ^ 64
      → {held : Held} → held ≡ none_held
      → Steps (ran what s levels) at out (record { state = record { n = s.n; chain = t.chain; place = place; held = held; reader = s.reader }; over = false; at = t.at }) out'
  samples_made {t} levels count plain blind room takes p h =
      let few = count_high s.n (subst T (sym count) tt) in
      let took = subst (λ o. Takes o at out t out') (samples_where_lem what s.n s.chain levels at out few room) takes in
      let x = plain_sampled what s.n s.place levels s.chain s.reader plain blind in
      record {
        state = λ i. record { n = s.n; chain = (took.chain ∙ sym (ap (λ (y : Sampled). y.chain) x)) i; place = p i; held = h i; reader = sym (ap (λ (y : Sampled). y.reader) x) i };
        over = refl;
        puts = subst (λ (y : Sampled). Puts y.out at out t.at out') (sym x) took.puts;
      }

  -- samples with the looks before them
  pub looks_made : {r : Ran} (bytes : List ℕ) → Reads.Runs (sampled_all what s.n s.place bytes s.chain s.reader) (length bytes) at out r out'
      → {place : ℕ} → place ≡ (s.place + r.count) % 2 ^ 64
      → {held : Held} → held ≡ none_held
      → Steps (ran what s bytes) at out (record { state = record { n = s.n; chain = r.chain; place = place; held = held; reader = r.reader }; over = false; at = r.at }) out'
  looks_made {r} bytes made p h =
      let place = p ∙ ap (λ m. (s.place + m) % 2 ^ 64) made.counts in
      record { state = λ i. record { n = s.n; chain = made.chain i; place = place i; held = h i; reader = made.reader i }; over = refl; puts = made.puts }

  pub scan_made : {t : Took} (k : ℕ) (bytes : List ℕ) → at + 21 ≤ length out
      → Takes (scan_where what s.n s.chain k bytes at out) at out t out'
      → {place : ℕ} → place ≡ next_offset s.place
      → {held : Held} → held ≡ none_held
      → Steps (raw_taken what s (scanned k bytes)) at out (record { state = record { n = s.n; chain = t.chain; place = place; held = held; reader = s.reader }; over = false; at = t.at }) out'
  scan_made {t} k bytes room takes p h =
      let took = subst (λ o. Takes o at out t out') (scan_where_lem what s.n s.chain k bytes at out room) takes in
      record { state = λ i. record { n = s.n; chain = took.chain i; place = p i; held = h i; reader = s.reader }; over = refl; puts = took.puts }
