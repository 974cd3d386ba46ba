-- Blocks of a stream, by its kind, and its end.
--     writes_as, none_written, after_writes     a block that is another, one that writes nothing, and one that was stepped through
--     begin_none, begin_raw, begin_text         the first byte tells the form
--     end_some                                  the end, where something is held
--     taken_same, taken_few                     how many bytes are taken
--     fed_room, end_room                        what a block and the end write has room
--     feeds_so, finishes_so                     the entries' promises
--     fed_kind, end_kind                        by the stream's kind
-- Assumes nothing.
use Rattle.std.proofs.Common.{◌≡◌, ℕ, ◌<◌, ◌≤◌, min, eqb, List, [], ◌∷◌, length, get_or, take, sym, refl, ap, ◌∙◌, subst, arith, length-take, take_all, eq-eqb, ne_eqb}
use native.Mathlib.Nat.{min-le_left, min-le_right, min-eq_left, min-eq_right}
use Rattle.base.specs.Lent.{laid, Counts}
use Rattle.base.specs.Pick.{pick}
use Rattle.base.proofs.Lent.{laid_counts}
use Rattle.base.proofs.Picks.{pick_yes, pick_no, pick_cases}
use Rattle.base.proofs.Tests.{by_order}
use Rattle.lines.specs.Answers.{Puts}
use Rattle.capture.specs.declared.Report.{Report}
use Rattle.capture.specs.Reports.{refusal_line}
use Rattle.capture.proofs.Reported.{none_put, puts_as, refusal_length}
use Rattle.streams.specs.declared.Kind.{Kind}
use Rattle.streams.specs.declared.Kind.TheVariants.{Unknown, Text, Raw, Over}
use Rattle.streams.specs.declared.State.{State}
use Rattle.streams.specs.declared.Step.{Step}
use Rattle.streams.specs.declared.Stream.{Stream}
use Rattle.streams.specs.declared.Output.{Output}
use Rattle.streams.specs.Parts.{most_written, Steps, stream_after, Writes}
use Rattle.streams.specs.Raw.{raw_refusal}
use Rattle.streams.specs.Steps.{Stepped, text_byte, raw_byte, steps, After, after, placed_at, fed_by, fed, end_by, ended, most_taken, Feeds, Finishes}
use Rattle.streams.proofs.Refusals.{raw_refusal_length}
use Rattle.streams.proofs.Rooms.{raw_room, text_room}

-- ---- a block

pub writes_as : {x y : After} {out : List ℕ} {r : Output} {out' : List ℕ} → x ≡ y → Writes y out r out' → Writes x out r out'
writes_as {out = out} {r = r} {out' = out'} e = subst (λ z. Writes z out r out') (sym e)

pub none_written : (s : Stream) (out : List ℕ) → Writes (record { stream = s; out = [] }) out (record { stream = s; bytes = 0 }) out
none_written s out = record { stream = refl; puts = none_put 0 out }

pub after_writes : (kind : Kind) {x : Stepped} {out : List ℕ} {step : Step} {out' : List ℕ} {r : Output} → Steps x 0 out step out' → r.stream ≡ stream_after kind step
    → r.bytes ≡ step.at
    → Writes (after kind x) out r out'
after_writes kind made s b =
    record {
      stream = s ∙ (λ i. record { kind = pick (made.over i) Over kind; state = made.state i });
      puts = record { answer = b ∙ made.puts.answer; bytes = made.puts.bytes };
    }

-- ---- its first byte

pub begin_none : (what : Report) (s : State) (bytes : List ℕ) → length bytes < 1
    → fed_by what Unknown s bytes ≡ record { stream = record { kind = Unknown; state = s }; out = [] }
begin_none what s [] h = refl
begin_none what s (b ∷ bytes) h = absurd (omega arith)

pub begin_raw : (what : Report) (s : State) (bytes : List ℕ) → 1 ≤ length bytes → get_or bytes 0 0 ≡ 0x00
    → fed_by what Unknown s bytes ≡ after Raw (steps (raw_byte what) (placed_at 0 s) bytes)
begin_raw what s [] h e = absurd (omega arith)
begin_raw what s (b ∷ bytes) h e = pick_yes _ _ (eq-eqb b 0x00 e)

pub begin_text : (what : Report) (s : State) (bytes : List ℕ) → 1 ≤ length bytes → (get_or bytes 0 0 ≡ 0x00 → ⊥)
    → fed_by what Unknown s bytes ≡ after Text (steps (text_byte what) (placed_at 1 s) bytes)
begin_text what s [] h ne = absurd (omega arith)
begin_text what s (b ∷ bytes) h ne = pick_no _ _ (ne_eqb b 0x00 ne)

-- ---- the end

module _ (count : ℕ) (refusal : List ℕ) where
  pub end_some : (count ≡ 0 → ⊥) → {out : List ℕ} {r : ℕ} {out' : List ℕ} → Puts refusal 0 out r out' → Puts (pick (eqb count 0) [] refusal) 0 out r out'
  end_some ne = puts_as (pick_no _ _ (ne_eqb count 0 ne))

-- ---- how many bytes are taken

pub taken_same : (bytes : List ℕ) (passed : ℕ) → passed ≡ min (length bytes) most_taken → take passed bytes ≡ take most_taken bytes
taken_same bytes passed e =
    by_order (length bytes) most_taken
    (λ h. ap (λ n. take n bytes) (e ∙ min-eq_left h) ∙ take_all (length bytes) bytes (omega arith) ∙ sym (take_all most_taken bytes h))
    (λ h. ap (λ n. take n bytes) (e ∙ min-eq_right (omega arith)))

pub taken_few : (bytes : List ℕ) (passed : ℕ) → passed ≡ min (length bytes) most_taken → (passed ≤ length bytes) × (length (take passed bytes) ≤ most_taken)
taken_few bytes passed e = (
  omega (arith, e, min-le_left (length bytes) most_taken),
  omega (arith, e, min-le_right (length bytes) most_taken, length-take passed bytes, min-le_left passed (length bytes)),
)

-- ---- what is written has room

pub fed_room : (what : Report) (s : Stream) (bytes : List ℕ) → length bytes ≤ most_taken → length (fed what s bytes).out ≤ most_written
unfolding fed
fed_room what s bytes h = by_kind s.kind s.state bytes h
  where
    by_kind : (kind : Kind) (t : State) (block : List ℕ) → length block ≤ most_taken → length (fed_by what kind t block).out ≤ most_written
    by_kind Unknown t [] l = omega arith
    by_kind Unknown t (b ∷ block) l =
        pick_cases (λ (x : After). length x.out ≤ most_written) (eqb b 0x00) (λ _. omega (arith, raw_room what (placed_at 0 t) (b ∷ block)))
        (λ _. omega (arith, text_room what (placed_at 1 t) (b ∷ block)))
    by_kind Text t block l = omega (arith, text_room what t block)
    by_kind Raw t block l = omega (arith, raw_room what t block)
    by_kind Over t block l = omega arith

pub end_room : (s : Stream) → length (ended s) ≤ 21
unfolding ended
end_room s = by_kind s.kind s.state
  where
    by_kind : (kind : Kind) (t : State) → length (end_by kind t) ≤ 21
    by_kind Unknown t = omega (arith, refusal_length 10 1)
    by_kind Text t =
        pick_cases (λ piece. length piece ≤ 21) (eqb t.held.count 0) {x = []} {y = refusal_line 10 t.place} (λ _. omega arith)
        (λ _. omega (arith, refusal_length 10 t.place))
    by_kind Raw t =
        pick_cases (λ piece. length piece ≤ 21) (eqb t.held.count 0) {x = []} {y = raw_refusal t.place} (λ _. omega arith)
        (λ _. omega (arith, raw_refusal_length t.place))
    by_kind Over t = omega arith

-- ---- the entries

-- what stands at the front, and how many bytes it has
front_so : {piece out : List ℕ} {r : ℕ} {out' : List ℕ} → Puts piece 0 out r out' → (r ≡ length piece) × (out' ≡ laid piece out)
front_so put = (omega (arith, put.answer), put.bytes)

counts_so : {piece out : List ℕ} {r : ℕ} {out' : List ℕ} → length piece ≤ length out → Puts piece 0 out r out' → Counts r out'
counts_so {piece} {out} {r} {out'} room put =
    let f = front_so put in
    subst (λ n. Counts n out') (sym f.0) (subst (λ xs. Counts (length piece) xs) (sym f.1) (laid_counts out piece room))

pub feeds_so : {what : Report} {s : Stream} {bytes out : List ℕ} {passed : ℕ} {r : Output} {out' : List ℕ} → passed ≡ min (length bytes) most_taken
    → most_written ≤ length out
    → Writes (fed what s (take passed bytes)) out r out'
    → Feeds what s bytes out (record { stream = r.stream; passed = passed; bytes = r.bytes }) out' × Counts r.bytes out'
feeds_so {what} {s} {bytes} {out} {passed} {r} {out'} p large made =
    let done = subst (λ block. Writes (fed what s block) out r out') (taken_same bytes passed p) made in
    let f = front_so done.puts in
    let few : length (take most_taken bytes) ≤ most_taken = omega (arith, ap length (sym (taken_same bytes passed p)), (taken_few bytes passed p).1) in (
      record { stream = done.stream; passed = p; count = f.0; front = f.1 },
      counts_so (omega (arith, fed_room what s (take most_taken bytes) few)) done.puts,
    )

pub finishes_so : (s : Stream) {piece out : List ℕ} {r : ℕ} {out' : List ℕ} → ended s ≡ piece → length (ended s) ≤ length out → Puts piece 0 out r out'
    → Finishes s out r out' × Counts r out'
finishes_so s {out = out} e room put =
    let f = front_so put in (
      record { count = f.0 ∙ ap length (sym e); front = f.1 ∙ ap (λ piece. laid piece out) (sym e) },
      counts_so (omega (arith, ap length e)) put,
    )

-- by the stream's kind
pub fed_kind : (what : Report) (s : Stream) (bytes : List ℕ) {kind : Kind} → s.kind ≡ kind → fed what s bytes ≡ fed_by what kind s.state bytes
unfolding fed
fed_kind what s bytes e = ap (λ kind. fed_by what kind s.state bytes) e

pub end_kind : (s : Stream) {kind : Kind} → s.kind ≡ kind → ended s ≡ end_by kind s.state
unfolding ended
end_kind s e = ap (λ kind. end_by kind s.state) e
