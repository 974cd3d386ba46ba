-- What holds of a chip's counts and of the codes' tallies after a whole text, refused or not.
--     rest_stays      events whose scans are below N leave the chips from N on
--     text_balance    the balance of each chip
--     text_sum        the codes' tallies go up by what is recorded
--     sums_agree      so their sum is what was recorded
-- Assumes nothing.
use mathlib.Core.Path.{◌≡◌, refl, ap, sym, subst, ◌∙◌}
use mathlib.Core.Bool.{Bool, true, false}
use mathlib.Core.List.{List, [], ◌∷◌}
use Prim.Native.Nat.{ℕ, zero, suc, ◌+◌, ◌≤◌, ◌<◌}
use native.Mathlib.Nat.{not-suc-le-zero, le_of_suc-le-suc}
use native.Mathlib.Omega.{arith}
use lib.Dec.{ltb}
use lib.ListN.{length, get_or, get_or-replicate}
use borrow.Author.Tests.{ltb-true, ltb-false}
use Rattle.base.specs.Pick.{pick}
use Rattle.chip.specs.declared.Chip.{Chip}
use Rattle.chip.specs.Record.{Body, reset_chip}
use Rattle.chip.specs.Commands.{dout}
use Rattle.chip.specs.Edges.{din}
use Rattle.chip.specs.Scans.{scanned}
use Rattle.chip.specs.History.{after}
use Rattle.base.specs.Bits.{bit_value}
use Rattle.chain.specs.declared.Chain.{Chain}
use Rattle.chain.specs.Chain.{most, stepped_row, stepped_chain}
use Rattle.chain.specs.Entries.{chip_at, with_chip, start_chain}
use Rattle.chain.specs.Events as Events
use Rattle.chain.specs.Events.{Event, sample, happened, history_of, ScansBelow}
use Rattle.chain.proofs.Laws.{one_alone}
use Rattle.chain.proofs.Histories.{history_body}
use Rattle.tallies.specs.declared.Counts.{Counts}
use Rattle.tallies.specs.declared.Tally.{Tally}
use Rattle.tallies.specs.declared.walk.Counting.{Counting}
use Rattle.tallies.specs.Counts.{no_counts, plus}
use Rattle.tallies.specs.Tallies.{own_history, counts_at, added}
use Rattle.tallies.specs.Counted.{walked}
use Rattle.tallies.specs.Balance.{standing, gone, total, GoUpAlike, Played, with_largest, chips_of, taken_of, counts_for, TextsBalance, TextsAddUp, SumsAgree}
use Rattle.tallies.proofs.Balance.{balance}
use Rattle.tallies.proofs.Places.{place_at}
use Rattle.tallies.proofs.Sums.{events_add_up}
use Rattle.tallies.proofs.Plays.{text_plays}

-- a sample leaves the chips from N on
row_stays : (n was now : ℕ) (b : Bool) (cs : List Chip) (k : ℕ) (d : Chip) → n ≤ k → get_or (stepped_row n was now b cs) k d ≡ get_or cs k d
unfolding stepped_row
row_stays zero was now b cs k d h = refl
row_stays (suc n) was now b [] k d h = refl
row_stays (suc n) was now b (c ∷ cs) zero d h = absurd (not-suc-le-zero h)
row_stays (suc n) was now b (c ∷ cs) (suc k) d h = row_stays n was now (dout c) cs k d (le_of_suc-le-suc h)

pub rest_stays : (n k : ℕ) → n ≤ k → (es : List Event) (ch : Chain) → ScansBelow n es → chip_at k (happened n es ch) ≡ chip_at k ch
rest_stays n k h [] ch low = refl
rest_stays n k h (sample s ∷ es) ch low = rest_stays n k h es (stepped_chain n s ch) low ∙ row_stays n ch.levels s (din s) ch.chips k reset_chip h
rest_stays n k h (Events.scan j bytes ∷ es) ch low =
    let below = low.0 in
    rest_stays n k h es (with_chip j (scanned bytes (chip_at j ch)) ch) low.1 ∙ one_alone j k (scanned bytes (chip_at j ch)) ch (λ e. omega arith)

-- ---- the balance of a chip of a chain

-- what stands on a chip after events is what stands after its history
stands_so : (n k : ℕ) → n ≤ most → (es : List Event) (ch : Chain) → ScansBelow n es → length ch.chips ≡ most
    → standing (after (own_history k n es ch) (chip_at k ch)) ≡ standing (chip_at k (happened n es ch))
stands_so n k few es ch low size = go (ltb k n) refl
  where
    go : (b : Bool) → ltb k n ≡ b → standing (after (pick b (history_of k n es ch) []) (chip_at k ch)) ≡ standing (chip_at k (happened n es ch))
    go true e = ap (λ (x : Body). bit_value x.keys.interrupt) (sym (history_body n k (ltb-true k n e) few es ch (chip_at k ch) size refl))
    go false e = ap standing (sym (rest_stays n k (ltb-false k n e) es ch low))

-- no interrupt stands at the start
start_stands : (k : ℕ) → k < most → standing (chip_at k start_chain) ≡ 0
start_stands k h = ap standing (get_or-replicate most k reset_chip reset_chip h)

-- counts that go on from others
goes_on : {u : Counts} (t c : Counts) (before later : ℕ) → u ≡ plus t c → before ≡ 0 → before + c.recorded ≡ gone c + later
    → u.recorded + gone t ≡ t.recorded + gone u + later
goes_on {u} t c before later e z even =
    let p = ap (λ (x : Counts). x.recorded) e in
    let q = ap gone e in
    omega arith

played_balance : {n : ℕ} {es : List Event} (t : Tally) (s : Counting) → Played n es t s → length t.chips ≡ most → (k : ℕ) → k < most
    → (counts_for k s.tally).recorded + gone (counts_for k t) ≡ (counts_for k t).recorded + gone (counts_for k s.tally) + standing (chip_at k s.chain)
unfolding added
played_balance {n} {es} t s p size k h =
    goes_on (counts_for k t) (counts_at n es start_chain k) (standing (chip_at k start_chain)) (standing (chip_at k s.chain))
    counted (start_stands k h)
    (balance (own_history k n es start_chain) (chip_at k start_chain) ∙ ap (λ x. gone (counts_at n es start_chain k) + x) stands)
  where
    counted : counts_for k s.tally ≡ plus (counts_for k t) (counts_at n es start_chain k)
    counted =
        ap (counts_for k) p.tally
        ∙ place_at (λ j x. plus x (counts_at n es start_chain j)) t.chips k no_counts (subst (λ m. k < m) (sym size) h)

    stands : standing (after (own_history k n es start_chain) (chip_at k start_chain)) ≡ standing (chip_at k s.chain)
    stands = stands_so n k p.few es start_chain p.below refl ∙ ap (λ (ch : Chain). standing (chip_at k ch)) (sym p.chain)

pub text_balance : TextsBalance
text_balance t text size k h = played_balance t (walked t text).state (text_plays t text) size k h

-- ---- the codes' tallies

pub text_sum : TextsAddUp
text_sum t text chips codes =
    let p = text_plays t text in
    subst (GoUpAlike t) (sym p.tally)
    (events_add_up (chips_of text) (taken_of t text) start_chain (with_largest (walked t text).state.tally.largest t) chips codes)

pub sums_agree : SumsAgree
unfolding total
sums_agree = record { start = refl; kept = λ t text chips codes e. let s = text_sum t text chips codes in omega arith }
