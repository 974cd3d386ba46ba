-- A stream that is watched: however its reads cut it, what is written is the output of the whole.
--     watch_law      of any reads, by the contracts of `start`, `feed` and `finish` alone
--     watch_replay   a text of at most 65,536 bytes gives what `replay` or `screen` gives
--     watch_run      such reads have results
-- Assumes nothing.
use mathlib.Core.Path.{◌≡◌, refl, ap, ap₂, sym, subst, ◌∙◌}
use mathlib.Core.List.{List, [], ◌∷◌, ◌++◌, append_assoc}
use Prim.Native.Nat.{ℕ, ◌≤◌, min}
use borrow.Author.Tests.{ne_eqb}
use lib.ListN.{length, get_or, take, drop}
use lib.Seq.{take_at, take_all}
use Rattle.base.specs.Lent.{laid}
use Rattle.capture.specs.declared.Report.{Report}
use Rattle.capture.specs.Replay.{output_of}
use Rattle.streams.specs.declared.Fed.{Fed}
use Rattle.streams.specs.declared.Kind.{Kind}
use Rattle.streams.specs.declared.Kind.TheVariants.{Over}
use Rattle.streams.specs.declared.State.{State}
use Rattle.streams.specs.declared.Stream.{Stream}
use Rattle.streams.specs.Cut.{joined}
use Rattle.streams.specs.Steps.{After, fed_by, fed, end_by, ended, most_taken}
use Rattle.streams.proofs.Cuts.{fed_none, fed_cut}
use Rattle.streams.proofs.Feeding.{taken_same}
use Rattle.streams.proofs.Whole.{watch_whole, as_replay}
use Rattle.demands.specs.Watching.{Watches, ends, stops, reads, WatchLaw, AsReplay, Short, WatchRun}

-- what stands at the front of an array
front_taken : (piece out : List ℕ) {n : ℕ} {out' : List ℕ} → n ≡ length piece → out' ≡ laid piece out → take n out' ≡ piece
front_taken piece out {n} e f = ap (take n) f ∙ take_at piece (drop (length piece) out) n (sym e)

-- what a stream writes to its end
abbrev to_end : After → List ℕ
to_end x = x.out ++ ended x.stream

-- a refused stream writes nothing more
over_writes : (what : Report) (kind : Kind) (t : State) (more : List ℕ) → kind ≡ Over
    → ((fed_by what kind t more).out ≡ []) × (end_by (fed_by what kind t more).stream.kind (fed_by what kind t more).stream.state ≡ [])
over_writes what kind t more e =
    subst (λ k. ((fed_by what k t more).out ≡ []) × (end_by (fed_by what k t more).stream.kind (fed_by what k t more).stream.state ≡ [])) (sym e) (refl, refl)

over_end : (what : Report) (s : Stream) (more : List ℕ) → s.kind ≡ Over → to_end (fed what s more) ≡ []
unfolding fed ended
over_end what s more e = let w = over_writes what s.kind s.state more e in ap₂ (λ x y. x ++ y) w.0 w.1

-- a block, and then the rest
cut_end : (what : Report) (s : Stream) (a b : List ℕ) → to_end (fed what s (a ++ b)) ≡ (fed what s a).out ++ to_end (fed what (fed what s a).stream b)
cut_end what s a b =
    let c = fed_cut what s a b in
    ap₂ (λ o t. o ++ ended t) c.1 c.0
    ∙ append_assoc (fed what s a).out (fed what (fed what s a).stream b).out (ended (fed what (fed what s a).stream b).stream)

-- from any record on
watched : (what : Report) {s : Stream} {input written : List ℕ} → Watches what s input written → written ≡ to_end (fed what s input)
watched what {s} (ends {out = out} r out' f) =
    front_taken (ended s) out f.count f.front ∙ sym (ap to_end (fed_none what s))
watched what {s} (stops {more = more} e) = sym (over_end what s more e)
watched what {s} (reads {bytes = bytes} {out = out} {more = more} {written = written} r out' f w) =
    let block = take most_taken bytes in
    let same : take r.passed bytes ≡ block = taken_same bytes r.passed f.passed in
    ap₂ (λ x y. x ++ y) (front_taken (fed what s block).out out f.count f.front)
    (watched what w ∙ ap (λ t. to_end (fed what t more)) f.stream)
    ∙ sym (cut_end what s block more)
    ∙ ap (λ front. to_end (fed what s (front ++ more))) (sym same)

pub watch_law : WatchLaw
watch_law what s e input written w = watched what w ∙ ap (λ t. to_end (fed what t input)) e ∙ watch_whole what input

pub watch_replay : AsReplay
watch_replay what s e text written w short ne out r out' p =
    watch_law what s e text written w ∙ as_replay what text short (ne_eqb (get_or text 0 1) 0 ne)
    ∙ sym (front_taken (output_of what text) out p.count p.bytes)

-- ---- they have results

-- a read of a whole block
whole_block : (block : List ℕ) → length block ≤ most_taken → take (min (length block) most_taken) block ≡ block
whole_block block h = taken_same block (min (length block) most_taken) refl ∙ take_all most_taken block h

pub watch_run : WatchRun
unfolding Short joined
watch_run what s [] h = (take (length (ended s)) (laid (ended s) []), ends (length (ended s)) (laid (ended s) []) (record { count = refl; front = refl }))
watch_run what s (block ∷ blocks) h =
    let x = fed what s (take most_taken block) in
    let r : Fed = record { stream = x.stream; passed = min (length block) most_taken; bytes = length x.out } in
    let rest = watch_run what x.stream blocks h.1 in (
      take (length x.out) (laid x.out []) ++ rest.0,
      subst (λ front. Watches what s (front ++ joined blocks) (take (length x.out) (laid x.out []) ++ rest.0)) (whole_block block h.0)
          (reads {bytes = block} {out = []} r (laid x.out []) (record { stream = refl; passed = refl; count = refl; front = refl }) rest.1),
    )
