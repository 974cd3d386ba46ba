-- The contracts of this crate's public functions allow one outcome each: `AllowsOne` of the base crate, of what each generated contract
-- tells; the lent array included. The entries come first, then the inner functions.
-- Assumes nothing.
use mathlib.Core.Path.{◌≡◌, refl}
use mathlib.Core.List.{List}
use Prim.Native.Nat.{ℕ}
use Rattle.base.specs.Refusals.{Outcome}
use Rattle.base.specs.Unique.{AllowsOne}
use Rattle.base.proofs.Unique.{same_answer, same_telling, same_result}
use Rattle.chain.specs.declared.Chain.{Chain}
use Rattle.capture.specs.declared.Replayed.{Replayed}
use Rattle.capture.specs.declared.Report.{Report}
use Rattle.capture.specs.declared.Report.TheVariants.{Words, Screen}
use Rattle.capture.specs.declared.walk.Took.{Took}
use Rattle.capture.specs.declared.frames.Form.{Form as Reading}
use Rattle.capture.specs.declared.frames.Form.TheVariants as Readings
use Rattle.capture.specs.Frames.{Form, samples, scan, other, read_as}
use Rattle.capture.specs.Parts.{Takes}
use Rattle.capture.specs.Replay.{Replays}
use Rattle.capture.proofs.replay
use Rattle.capture.proofs.screen
use Rattle.capture.proofs.frames
use Rattle.capture.proofs.put
use Rattle.capture.proofs.takes

-- two answers to one text
same_replayed : (what : Report) {text out out' out'' : List ℕ} {r s : Replayed} → Replays what text out r out' → Replays what text out s out'' → r ≡ s
same_replayed what {r = r} {s = s} p q =
    let count = same_answer p.count q.count in
    let answer = same_result {r = r.answer} {s = s.answer} (same_answer p.answer q.answer) in
    λ i. record { bytes = count i; answer = answer i }

-- ---- the entries

pub replay_unique : AllowsOne replay.Kinds.ps replay.Kinds.r replay.Reads.Learnt
replay_unique κs a x y last last' p q = (same_replayed Words p.0 q.0, λ i. (tt, (same_answer p.0.bytes q.0.bytes i, tt)))

pub screen_unique : AllowsOne screen.Kinds.ps screen.Kinds.r screen.Reads.Learnt
screen_unique κs a x y last last' p q = (same_replayed Screen p.0 q.0, λ i. (tt, (same_answer p.0.bytes q.0.bytes i, tt)))

-- ---- the inner functions

-- the kind of a form
reading_of : Form → Reading
reading_of (samples ss) = Readings.Samples
reading_of (scan k bytes) = Readings.Scan
reading_of other = Readings.Other

reading_back : (bytes : List ℕ) (r : Reading) → reading_of (read_as r bytes) ≡ r
unfolding reading_of
reading_back bytes Readings.Samples = refl
reading_back bytes Readings.Scan = refl
reading_back bytes Readings.Other = refl

pub form_of_unique : AllowsOne frames.form_of.Kinds.ps frames.form_of.Kinds.r frames.form_of.Reads.Learnt
form_of_unique κs a x y last last' p q =
    let bytes = a.1.0.now in
    (same_telling (λ r. read_as r bytes) reading_of (reading_back bytes) x y p q, refl)

pub chips_in_unique : AllowsOne frames.chips_in.Kinds.ps frames.chips_in.Kinds.r frames.chips_in.Reads.Learnt
chips_in_unique κs a x y last last' p q = (same_answer p q, refl)

pub chips_of_unique : AllowsOne frames.chips_of.Kinds.ps frames.chips_of.Kinds.r frames.chips_of.Reads.Learnt
chips_of_unique κs a x y last last' p q = (same_answer p q, refl)

pub refusal_unique : AllowsOne put.refusal.Kinds.ps put.refusal.Kinds.r put.refusal.Reads.Learnt
refusal_unique κs a x y last last' p q = (same_answer p.answer q.answer, λ i. (tt, (same_answer p.bytes q.bytes i, (tt, tt))))

-- two answers to one line, samples or scan, and what is then lent
same_took : {o : Outcome Chain (List ℕ)} {at : ℕ} {out out' out'' : List ℕ} {r s : Took} → Takes o at out r out' → Takes o at out s out'' → (r ≡ s) × (out' ≡ out'')
same_took p q =
    let chain = same_answer p.chain q.chain in
    let taken = same_answer p.taken q.taken in
    let at = same_answer p.puts.answer q.puts.answer in
    (λ i. record { chain = chain i; taken = taken i; at = at i }, same_answer p.puts.bytes q.puts.bytes)

pub line_unique : AllowsOne takes.line.Kinds.ps takes.line.Kinds.r takes.line.Reads.Learnt
line_unique κs a x y last last' p q = let same = same_took p q in (same.0, λ i. (tt, (tt, (tt, (tt, (same.1 i, (tt, tt)))))))

pub samples_unique : AllowsOne takes.samples.Kinds.ps takes.samples.Kinds.r takes.samples.Reads.Learnt
samples_unique κs a x y last last' p q = let same = same_took p q in (same.0, λ i. (tt, (tt, (tt, (tt, (same.1 i, (tt, tt)))))))

pub scan_unique : AllowsOne takes.scan.Kinds.ps takes.scan.Kinds.r takes.scan.Reads.Learnt
scan_unique κs a x y last last' p q = let same = same_took p q in (same.0, λ i. (tt, (tt, (tt, (tt, (tt, (same.1 i, (tt, tt))))))))
