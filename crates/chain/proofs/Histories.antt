-- What happens to a chip of a chain is a history of that chip, whatever is played and scanned.
--     after_append, records_append, times_append     a history in two parts
--     happened_append, history_append     events in two parts, and their histories
--     played_happens     playing samples is what they are as events
--     body_after         what is left of a body depends on the body alone
--     history_body       a chip's settings, display and key record are those after its history
--     records_same       and its scans record what its history does
-- Assumes nothing.
use mathlib.Core.Path.{◌≡◌, refl, ap, ap₂, sym, subst, ◌∙◌}
use mathlib.Core.Bool.{Bool, true, false}
use mathlib.Core.List.{List, [], ◌∷◌, ◌++◌, map, append_assoc}
use Prim.Native.Nat.{ℕ, ◌+◌, ◌≤◌, ◌<◌}
use native.Mathlib.Nat.{lt_of_lt_of_le}
use native.Mathlib.Omega.{arith}
use lib.Dec.{eqb}
use lib.ListN.{length, length-set}
use lib.Seq.{get_or-set_same}
use borrow.Author.Tests.{eqb-true, eqb-false}
use Rattle.base.specs.Pick.{pick}
use Rattle.base.specs.Refusals.{Told, done, refused}
use Rattle.base.proofs.Picks.{pick_cases}
use Rattle.word.specs.declared.Command.{Command}
use Rattle.word.specs.Words.{decoded_of}
use Rattle.chip.specs.declared.Chip.{Chip}
use Rattle.chip.specs.Record.{body_of, reset_chip}
use Rattle.chip.specs.Commands.{applied, applied_word, obey}
use Rattle.chip.specs.Edges.{load_rises, din}
use Rattle.chip.specs.Scans.{result, scanned, recorded}
use Rattle.chip.specs.History.{Step, told, scan, after, records_of, times}
use Rattle.chip.proofs.Quiet.{body_applied, body_scanned, recorded_body}
use Rattle.chain.specs.declared.Chain.{Chain}
use Rattle.chain.specs.Chain.{most, stepped_chain, played}
use Rattle.chain.specs.Entries.{chip_at, with_chip}
use Rattle.chain.proofs.Laws.{quiet_chain, one_alone}
use Rattle.chain.proofs.Rest.{row_length}
use Rattle.chain.specs.Events as Events
use Rattle.chain.specs.Events.{Event, sample, happens, happened, obeyed, steps_at, history_of, records_at, records_in}
use Rattle.chain.proofs.Places.{part_at, obeys_at}

-- ---- a history in two parts

pub after_append : (g h : List Step) (c : Chip) → after (g ++ h) c ≡ after h (after g c)
after_append [] h c = refl
after_append (told command ∷ g) h c = after_append g h (applied command c)
after_append (scan bytes ∷ g) h c = after_append g h (scanned bytes c)

pub records_append : (g h : List Step) (c : Chip) → records_of (g ++ h) c ≡ records_of g c ++ records_of h (after g c)
records_append [] h c = refl
records_append (told command ∷ g) h c = records_append g h (applied command c)
records_append (scan bytes ∷ g) h c = ap (λ rs. recorded bytes c ∷ rs) (records_append g h (scanned bytes c))

pub times_append : (code : ℕ) (g h : List Step) (c : Chip) → times code (g ++ h) c ≡ times code g c + times code h (after g c)
times_append code [] h c = omega arith
times_append code (told command ∷ g) h c = times_append code g h (applied command c)
times_append code (scan bytes ∷ g) h c = let e = times_append code g h (scanned bytes c) in omega arith

-- ---- events in two parts

pub happened_append : (n : ℕ) (es fs : List Event) (ch : Chain) → happened n (es ++ fs) ch ≡ happened n fs (happened n es ch)
happened_append n [] fs ch = refl
happened_append n (e ∷ es) fs ch = happened_append n es fs (happens n e ch)

pub history_append : (k n : ℕ) (es fs : List Event) (ch : Chain) → history_of k n (es ++ fs) ch ≡ history_of k n es ch ++ history_of k n fs (happened n es ch)
history_append k n [] fs ch = refl
history_append k n (e ∷ es) fs ch =
    ap (λ h. steps_at k n e ch ++ h) (history_append k n es fs (happens n e ch))
    ∙ sym (append_assoc (steps_at k n e ch) (history_of k n es (happens n e ch)) (history_of k n fs (happened n es (happens n e ch))))

-- playing samples is what they are as events
pub played_happens : (n : ℕ) (ss : List ℕ) (ch : Chain) → played n ss ch ≡ happened n (map sample ss) ch
unfolding played
played_happens n [] ch = refl
played_happens n (s ∷ ss) ch = played_happens n ss (stepped_chain n s ch)

-- ---- bodies

-- what is left of a body after a history depends on the body alone
pub body_after : (h : List Step) (c d : Chip) → body_of c ≡ body_of d → body_of (after h c) ≡ body_of (after h d)
body_after [] c d e = e
body_after (told command ∷ h) c d e = body_after h (applied command c) (applied command d) (body_applied command c d e)
body_after (scan bytes ∷ h) c d e = body_after h (scanned bytes c) (scanned bytes d) (body_scanned (result bytes) c d e)

-- ---- one event

-- an unlisted word does what no operation does
obeyed_so : (o : Told Command) (c : Chip) → applied_word o c ≡ applied (obeyed o) c
unfolding applied obey
obeyed_so (done command) c = refl
obeyed_so (refused number place) c = refl

module _ (n k : ℕ) (h : k < n) (most_so : n ≤ most) where
  place : (ch : Chain) → length ch.chips ≡ most → k < length ch.chips
  place ch size = subst (λ m. k < m) (sym size) (lt_of_lt_of_le h most_so)

  happens_size : (e : Event) (ch : Chain) → length ch.chips ≡ most → length (happens n e ch).chips ≡ most
  happens_size (sample s) ch size = row_length n ch.levels s (din s) ch.chips ∙ size
  happens_size (Events.scan j bytes) ch size = length-set ch.chips j (scanned bytes (chip_at j ch)) ∙ size

  -- a scan: of chip k itself, or of another chip
  scan_body : (j : ℕ) (bytes : List ℕ) (ch : Chain) → length ch.chips ≡ most → (b : Bool) → eqb j k ≡ b
      → body_of (chip_at k (with_chip j (scanned bytes (chip_at j ch)) ch)) ≡ body_of (after (pick b (scan bytes ∷ []) []) (chip_at k ch))
  scan_body j bytes ch size true e =
      let same = eqb-true j k e in
      ap (λ i. body_of (chip_at k (with_chip i (scanned bytes (chip_at i ch)) ch))) same
      ∙ ap body_of (get_or-set_same ch.chips k (scanned bytes (chip_at k ch)) reset_chip (place ch size))
  scan_body j bytes ch size false e = ap body_of (one_alone j k (scanned bytes (chip_at j ch)) ch (λ q. eqb-false j k e (sym q)))

  event_body : (e : Event) (ch : Chain) → length ch.chips ≡ most → body_of (chip_at k (happens n e ch)) ≡ body_of (after (steps_at k n e ch) (chip_at k ch))
  event_body (sample s) ch size =
      pick_cases (λ steps. body_of (chip_at k (stepped_chain n s ch)) ≡ body_of (after steps (chip_at k ch))) (load_rises ch.levels s)
      (λ high. obeys_at n s ch high k h (place ch size) ∙ ap body_of (obeyed_so (decoded_of (chip_at k (stepped_chain n s ch)).line.register) (chip_at k ch)))
      (λ low. part_at body_of (stepped_chain n s ch).chips ch.chips k reset_chip (quiet_chain n s ch low))
  event_body (Events.scan j bytes) ch size = scan_body j bytes ch size (eqb j k) refl

  event_records : (e : Event) (ch : Chain) (c : Chip) → body_of (chip_at k ch) ≡ body_of c → records_at k e ch ≡ records_of (steps_at k n e ch) c
  event_records (sample s) ch c body = pick_cases (λ steps. [] ≡ records_of steps c) (load_rises ch.levels s) (λ high. refl) (λ low. refl)
  event_records (Events.scan j bytes) ch c body = go (eqb j k) refl
    where
      go : (b : Bool) → eqb j k ≡ b → pick b (recorded bytes (chip_at j ch) ∷ []) [] ≡ records_of (pick b (scan bytes ∷ []) []) c
      go true e =
          ap (λ r. r ∷ []) (recorded_body (result bytes) (chip_at j ch) c (ap (λ i. body_of (chip_at i ch)) (eqb-true j k e) ∙ body))
      go false e = refl

  -- ---- events

  pub history_body : (es : List Event) (ch : Chain) (c : Chip) → length ch.chips ≡ most → body_of (chip_at k ch) ≡ body_of c
      → body_of (chip_at k (happened n es ch)) ≡ body_of (after (history_of k n es ch) c)
  history_body [] ch c size body = body
  history_body (e ∷ es) ch c size body =
      history_body es (happens n e ch) (after (steps_at k n e ch) c) (happens_size e ch size)
      (event_body e ch size ∙ body_after (steps_at k n e ch) (chip_at k ch) c body)
      ∙ ap body_of (sym (after_append (steps_at k n e ch) (history_of k n es (happens n e ch)) c))

  pub records_same : (es : List Event) (ch : Chain) (c : Chip) → length ch.chips ≡ most → body_of (chip_at k ch) ≡ body_of c
      → records_in k n es ch ≡ records_of (history_of k n es ch) c
  records_same [] ch c size body = refl
  records_same (e ∷ es) ch c size body =
      ap₂ ◌++◌ (event_records e ch c body)
      (records_same es (happens n e ch) (after (steps_at k n e ch) c) (happens_size e ch size)
      (event_body e ch size ∙ body_after (steps_at k n e ch) (chip_at k ch) c body))
      ∙ sym (records_append (steps_at k n e ch) (history_of k n es (happens n e ch)) c)
