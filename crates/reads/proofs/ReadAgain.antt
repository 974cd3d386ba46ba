-- Two read words, one after the other, in a recording that is what the host sees; no readout runs at the second. Where no line 18 was written
-- since the first, no interrupt stands at the second: the till read again.
--     interrupt_told     where an interrupt stands at the second read word, a line 18 was written since the first
--     read_again         where no line 18 was written since the first, no interrupt stands at the second
-- Assumes nothing.
use Rattle.std.proofs.Common.{◌≡◌, ℕ, ◌%◌, true, false, not, ◌&&◌, ◌||◌, eqb, List, [], ◌∷◌, ◌++◌, sym, ap, ◌∙◌, ap₂}
use mathlib.Core.Bool.{false≢true, and-eq-true_iff, or-true}
use borrow.Author.Tests.{not-false}
use Rattle.word.specs.Words.{decoded_of}
use Rattle.chip.specs.Edges.{load_rises}
use Rattle.chain.specs.declared.Chain.{Chain}
use Rattle.chain.specs.Chain.{chip_count, stepped_chain}
use Rattle.reads.specs.declared.Reader.{Reader}
use Rattle.reads.specs.Reads.{last_chip, start_reader}
use Rattle.reads.specs.Till.{Item, sample, chain_after, seen_after, notes_of, is_interrupt, some_note, is_read_key, keypad_on, runs, read_word, interrupt_at, some_interrupt, Throughout, Seen, HasDout, chain_after_all, seen_after_all}
use Rattle.reads.proofs.LookCases.{rise_edge}
use Rattle.reads.proofs.Tracking.{by_test}
use Rattle.reads.proofs.Trusted.{seen_between}

-- an interrupt at the last edge of a history is one at some edge
at_last : (n : ℕ) (items : List Item) (x : Item) (ch : Chain) → interrupt_at n x (chain_after_all n items ch) ≡ true
    → some_interrupt n (items ++ x ∷ []) ch ≡ true
unfolding some_interrupt chain_after_all
at_last n [] x ch e = ap (λ t. t || false) e
at_last n (y ∷ items) x ch e = ap (λ t. interrupt_at n y ch || t) (at_last n items x (chain_after n y ch) e) ∙ or-true (interrupt_at n y ch)

-- a read word is an edge with KEYB on; so an interrupt that stands there outside readouts stands at an edge
stands_at : (n offset b : ℕ) (ch : Chain) → read_word n b ch ≡ true → runs (last_chip n ch) ≡ false → (last_chip n ch).keys.interrupt ≡ true
    → interrupt_at n (sample offset b) ch ≡ true
unfolding read_word
stands_at n offset b ch word off stands =
    let c = last_chip n ch in
    let rises = load_rises ch.levels (b % 8) in
    let obeyed = is_read_key (decoded_of (last_chip n (stepped_chain n (b % 8) ch)).line.register) in
    let over = eqb c.line.readout.left 0 in
    let p = (and-eq-true_iff rises (keypad_on c)).0 ((and-eq-true_iff (rises && keypad_on c) obeyed).0 word).0 in
    let none = not-false over (sym (ap (λ t. t && not over) p.1) ∙ off) in
    ap₂ ◌&&◌ (ap₂ ◌&&◌ (ap₂ ◌&&◌ (rise_edge ch.levels (b % 8) p.0) p.1) none) stands

module _ (n : ℕ) (some : chip_count n ≡ true) (before : List Item) (offset b : ℕ) (items : List Item) (offset₂ b₂ : ℕ) (ch : Chain) where
  -- the panel and the reader before the first read word
  abbrev panel : Chain
  panel = chain_after_all n before ch

  abbrev reader : Reader
  reader = seen_after_all n before ch start_reader

  -- the first read word, and what follows it up to the second and with it
  abbrev read : Item
  read = sample offset b

  abbrev since : List Item
  since = items ++ sample offset₂ b₂ ∷ []

  -- the panel before the second read word
  abbrev later : Chain
  later = chain_after_all n items (chain_after n read panel)

  pub interrupt_told : read_word n b panel ≡ true → read_word n b₂ later ≡ true → runs (last_chip n later) ≡ false
      → Throughout n HasDout (read ∷ since) panel reader → Throughout n (Seen n) (read ∷ since) panel reader
      → (last_chip n later).keys.interrupt ≡ true
      → some_note is_interrupt (notes_of n since (chain_after n read panel) (seen_after n read panel reader)) ≡ true
  interrupt_told first second off all seen stands =
      seen_between n some before offset b since ch first all seen
      ∙ at_last n items (sample offset₂ b₂) (chain_after n read panel) (stands_at n offset₂ b₂ later second off stands)

  pub read_again : read_word n b panel ≡ true → read_word n b₂ later ≡ true → runs (last_chip n later) ≡ false
      → Throughout n HasDout (read ∷ since) panel reader → Throughout n (Seen n) (read ∷ since) panel reader
      → some_note is_interrupt (notes_of n since (chain_after n read panel) (seen_after n read panel reader)) ≡ false
      → (last_chip n later).keys.interrupt ≡ false
  read_again first second off all seen quiet =
      by_test (last_chip n later).keys.interrupt
      (λ stands. absurd (false≢true (sym quiet ∙ interrupt_told first second off all seen stands)))
      (λ e. e)
