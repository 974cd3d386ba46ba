-- Counts and tallies in two parts: of a history, and of events.
--     after_one                       a history's first step
--     counts_append                   what a history in two parts counts
--     step_same, counts_body, records_body       what is counted and recorded depends on settings, display and key record alone
--     happened_size                   events leave as many chips as there were
--     added_append                    what events in two parts add
--     added_none                      no events add nothing
-- Assumes nothing.
use mathlib.Core.Path.{◌≡◌, refl, ap, ap₂, sym, ◌∙◌}
use mathlib.Core.Bool.{Bool, true, false}
use mathlib.Core.List.{List, [], ◌∷◌, ◌++◌}
use Prim.Native.Nat.{ℕ, ◌+◌, ◌≤◌}
use native.Mathlib.Nat.{add-zero, add_assoc, zero-add}
use lib.Dec.{ltb}
use lib.ListN.{length, length-set}
use borrow.Author.Tests.{ltb-true}
use Rattle.base.specs.Pick.{pick}
use Rattle.base.proofs.Picks.{pick_cases}
use Rattle.chip.specs.declared.Chip.{Chip}
use Rattle.chip.specs.Record.{Body, body_of}
use Rattle.chip.specs.Edges.{din}
use Rattle.chip.specs.Scans.{result, scanned}
use Rattle.chip.specs.Commands.{applied}
use Rattle.chip.specs.History.{Step, told, scan, after, records_of, count_of, times}
use Rattle.chip.proofs.Quiet.{body_applied, body_scanned, recorded_body}
use Rattle.chain.specs.declared.Chain.{Chain}
use Rattle.chain.specs.Chain.{most}
use Rattle.chain.specs.Entries.{chip_at}
use Rattle.chain.specs.Events as Events
use Rattle.chain.specs.Events.{Event, sample, happens, happened, history_of}
use Rattle.chain.proofs.Histories.{times_append, history_append, history_body}
use Rattle.chain.proofs.Rest.{row_length}
use Rattle.tallies.specs.declared.Counts.{Counts}
use Rattle.tallies.specs.declared.Tally.{Tally}
use Rattle.tallies.specs.Counts.{no_counts, plus, counts, command_counts, record_counts, step_counts, counts_of}
use Rattle.tallies.specs.Tallies.{each_place, own_history, counts_at, times_in, added}
use Rattle.tallies.proofs.Places.{place_same, place_twice, place_none}
use Rattle.tallies.proofs.Steps.{plus_none}
use Rattle.tallies.proofs.Sums.{sum_same, sum_plus, sum_zero}

-- ---- counts

plus_assoc : (a b c : Counts) → plus (plus a b) c ≡ plus a (plus b c)
plus_assoc a b c = λ i.
    counts (add_assoc a.recorded b.recorded c.recorded i) (add_assoc a.read b.read c.read i)
    (add_assoc a.overwritten b.overwritten c.overwritten i) (add_assoc a.cleared b.cleared c.cleared i)

none_plus : (a : Counts) → plus no_counts a ≡ a
none_plus a = λ i. counts (zero-add a.recorded i) (zero-add a.read i) (zero-add a.overwritten i) (zero-add a.cleared i)

-- ---- a history

pub after_one : (step : Step) (h : List Step) (c : Chip) → after (step ∷ h) c ≡ after h (after (step ∷ []) c)
after_one (told command) h c = refl
after_one (scan bytes) h c = refl

pub counts_append : (g h : List Step) (c : Chip) → counts_of (g ++ h) c ≡ plus (counts_of g c) (counts_of h (after g c))
unfolding counts_of
counts_append [] h c = sym (none_plus (counts_of h c))
counts_append (step ∷ g) h c =
    ap (plus (step_counts step c)) (counts_append g h (after (step ∷ []) c) ∙ ap (λ d. plus (counts_of g (after (step ∷ []) c)) (counts_of h d)) (sym (after_one step g c)))
    ∙ sym (plus_assoc (step_counts step c) (counts_of g (after (step ∷ []) c)) (counts_of h (after (step ∷ g) c)))

-- one step
step_body : (step : Step) (c d : Chip) → body_of c ≡ body_of d → body_of (after (step ∷ []) c) ≡ body_of (after (step ∷ []) d)
step_body (told command) c d e = body_applied command c d e
step_body (scan bytes) c d e = body_scanned (result bytes) c d e

pub step_same : (step : Step) (c d : Chip) → body_of c ≡ body_of d → step_counts step c ≡ step_counts step d
step_same (told command) c d e = ap (λ (b : Body). command_counts command b.settings.system.keyb b.keys.interrupt) e
step_same (scan bytes) c d e = ap record_counts (recorded_body (result bytes) c d e)

pub counts_body : (h : List Step) (c d : Chip) → body_of c ≡ body_of d → counts_of h c ≡ counts_of h d
unfolding counts_of
counts_body [] c d e = refl
counts_body (step ∷ h) c d e =
    ap₂ plus (step_same step c d e) (counts_body h (after (step ∷ []) c) (after (step ∷ []) d) (step_body step c d e))

pub records_body : (h : List Step) (c d : Chip) → body_of c ≡ body_of d → records_of h c ≡ records_of h d
records_body [] c d e = refl
records_body (told command ∷ h) c d e = records_body h (applied command c) (applied command d) (body_applied command c d e)
records_body (scan bytes ∷ h) c d e =
    ap₂ ◌∷◌ (recorded_body (result bytes) c d e) (records_body h (scanned bytes c) (scanned bytes d) (body_scanned (result bytes) c d e))

-- ---- events

pub happened_size : (n : ℕ) (es : List Event) (ch : Chain) → length (happened n es ch).chips ≡ length ch.chips
happened_size n [] ch = refl
happened_size n (sample s ∷ es) ch = happened_size n es (happens n (sample s) ch) ∙ row_length n ch.levels s (din s) ch.chips
happened_size n (Events.scan k bytes ∷ es) ch =
    happened_size n es (happens n (Events.scan k bytes) ch) ∙ length-set ch.chips k (scanned bytes (chip_at k ch))

module _ (n : ℕ) (small : n ≤ most) (es fs : List Event) (ch : Chain) (size : length ch.chips ≡ most) where
  -- what a history gives, in two parts, where it depends on the body alone
  in_two : {A : Type 0} (add : A → A → A) (f : List Step → Chip → A) (k : ℕ)
      → ((g h : List Step) (c : Chip) → f (g ++ h) c ≡ add (f g c) (f h (after g c)))
      → ((h : List Step) (c d : Chip) → body_of c ≡ body_of d → f h c ≡ f h d)
      → ((c d : Chip) → f [] c ≡ f [] d)
      → f (own_history k n (es ++ fs) ch) (chip_at k ch) ≡ add (f (own_history k n es ch) (chip_at k ch)) (f (own_history k n fs (happened n es ch)) (chip_at k (happened n es ch)))
  in_two add f k parts alike empty = go (ltb k n) refl
    where
      go : (b : Bool) → ltb k n ≡ b
          → f (pick b (history_of k n (es ++ fs) ch) []) (chip_at k ch) ≡ add (f (pick b (history_of k n es ch) []) (chip_at k ch)) (f (pick b (history_of k n fs (happened n es ch)) []) (chip_at k (happened n es ch)))
      go true e =
          ap (λ h. f h (chip_at k ch)) (history_append k n es fs ch)
          ∙ parts (history_of k n es ch) (history_of k n fs (happened n es ch)) (chip_at k ch)
          ∙ ap (add (f (history_of k n es ch) (chip_at k ch)))
          (sym (alike (history_of k n fs (happened n es ch)) (chip_at k (happened n es ch)) (after (history_of k n es ch) (chip_at k ch)) (history_body n k (ltb-true k n e) small es ch (chip_at k ch) size refl)))
      go false e =
          parts [] [] (chip_at k ch) ∙ ap (add (f [] (chip_at k ch))) (empty (chip_at k ch) (chip_at k (happened n es ch)))

  counts_two : (k : ℕ) → counts_at n (es ++ fs) ch k ≡ plus (counts_at n es ch k) (counts_at n fs (happened n es ch) k)
  unfolding counts_of
  counts_two k = in_two plus counts_of k counts_append counts_body (λ c d. refl)

  times_two : (code : ℕ) → times_in n (es ++ fs) ch code ≡ times_in n es ch code + times_in n fs (happened n es ch) code
  times_two code =
      sum_same (λ k. times code (own_history k n (es ++ fs) ch) (chip_at k ch))
      (λ k. times code (own_history k n es ch) (chip_at k ch) + times code (own_history k n fs (happened n es ch)) (chip_at k (happened n es ch)))
      (λ k. in_two ◌+◌ (times code) k (times_append code) (λ h c d e. ap (count_of code) (records_body h c d e)) (λ c d. refl))
      most
      ∙ sum_plus (λ k. times code (own_history k n es ch) (chip_at k ch)) (λ k. times code (own_history k n fs (happened n es ch)) (chip_at k (happened n es ch))) most

  pub added_append : (t : Tally) → added n (es ++ fs) ch t ≡ added n fs (happened n es ch) (added n es ch t)
  unfolding added
  added_append t = λ i. record { chips = chips i; codes = codes i; largest = t.largest }
    where
      chips : each_place (λ k x. plus x (counts_at n (es ++ fs) ch k)) 0 t.chips
          ≡ each_place (λ k x. plus x (counts_at n fs (happened n es ch) k)) 0 (each_place (λ k x. plus x (counts_at n es ch k)) 0 t.chips)
      chips =
          place_same (λ k x. plus x (counts_at n (es ++ fs) ch k)) (λ k x. plus (plus x (counts_at n es ch k)) (counts_at n fs (happened n es ch) k))
          (λ k x. ap (plus x) (counts_two k) ∙ sym (plus_assoc x (counts_at n es ch k) (counts_at n fs (happened n es ch) k))) 0 t.chips
          ∙ sym (place_twice (λ k x. plus x (counts_at n es ch k)) (λ k x. plus x (counts_at n fs (happened n es ch) k)) 0 t.chips)

      codes : each_place (λ code x. x + times_in n (es ++ fs) ch code) 0 t.codes
          ≡ each_place (λ code x. x + times_in n fs (happened n es ch) code) 0 (each_place (λ code x. x + times_in n es ch code) 0 t.codes)
      codes =
          place_same (λ code x. x + times_in n (es ++ fs) ch code) (λ code x. x + times_in n es ch code + times_in n fs (happened n es ch) code)
          (λ code x. ap (λ y. x + y) (times_two code) ∙ sym (add_assoc x (times_in n es ch code) (times_in n fs (happened n es ch) code))) 0 t.codes
          ∙ sym (place_twice (λ code x. x + times_in n es ch code) (λ code x. x + times_in n fs (happened n es ch) code) 0 t.codes)

-- no events
own_none : (k n : ℕ) (ch : Chain) → own_history k n [] ch ≡ []
own_none k n ch = pick_cases (λ h. h ≡ []) (ltb k n) (λ e. refl) (λ e. refl)

pub added_none : (n : ℕ) (ch : Chain) (t : Tally) → added n [] ch t ≡ t
unfolding added counts_of
added_none n ch t = λ i. record { chips = chips i; codes = codes i; largest = t.largest }
  where
    chips : each_place (λ k x. plus x (counts_at n [] ch k)) 0 t.chips ≡ t.chips
    chips =
        place_none (λ k x. plus x (counts_at n [] ch k)) 0 t.chips (λ k x low high. ap (λ h. plus x (counts_of h (chip_at k ch))) (own_none k n ch) ∙ plus_none x)

    codes : each_place (λ code x. x + times_in n [] ch code) 0 t.codes ≡ t.codes
    codes =
        place_none (λ code x. x + times_in n [] ch code) 0 t.codes
        (λ code x low high.
        ap (λ y. x + y) (sum_same (λ k. times code (own_history k n [] ch) (chip_at k ch)) (λ k. 0) (λ k. ap (λ h. times code h (chip_at k ch)) (own_none k n ch)) most ∙ sum_zero most)
        ∙ add-zero x)
