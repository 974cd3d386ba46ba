-- A chain in the middle of a write, with scans between the samples; nothing here knows how the writer makes its samples.
--     going_sample      it stays one at a sample, the next row being taken at a LOAD rise
--     going_scan        and at a scan
--     after_append      a history in two parts
--     after_body        what a history leaves of settings, display and key record depends on these alone
--     as_told           each chip's settings, display and key record are as if its own commands and scans had been applied directly
--     going_on          and the chain stays one in the middle of a write
-- Assumes nothing.
use mathlib.Core.Path.{◌≡◌, refl, ap, sym, subst, ◌∙◌}
use mathlib.Core.Bool.{Bool, true, false}
use mathlib.Core.List.{List, [], ◌∷◌, ◌++◌}
use Prim.Native.Nat.{ℕ, ◌≤◌, ◌<◌}
use native.Mathlib.Nat.{lt_of_lt_of_le}
use lib.Dec.{T, leb, le→leb}
use lib.ListN.{length, length-set}
use Rattle.base.proofs.Tests.{and_left, and_both}
use Rattle.chip.specs.declared.Chip.{Chip}
use Rattle.chip.specs.Record.{body_of}
use Rattle.chip.specs.Edges.{din, load_rises}
use Rattle.chip.specs.Scans.{result, scanned}
use Rattle.chip.specs.History.{Step, told, after}
use Rattle.chip.specs.History as History
use Rattle.chip.proofs.Quiet.{body_applied, body_scanned}
use Rattle.chain.specs.declared.Chain.{Chain}
use Rattle.chain.specs.Chain.{all_valid, valid_chain, stepped_chain, KeypadLast}
use Rattle.chain.specs.Entries.{chip_at, with_chip}
use Rattle.chain.proofs.Laws.{row_valid}
use Rattle.chain.proofs.Passed.{scan_valid}
use Rattle.chain.proofs.Rest.{row_length}
use Rattle.chain.proofs.Clocks.{held_row_lem, held}
use Rattle.chain.specs.Events.{Event, sample, scan, happened, samples_in, ScansBelow, scan_at}
use Rattle.demands.specs.Events.{told_at, rows_after, steps_for}
use Rattle.demands.proofs.Writes.{AtSample, Writes}
use Rattle.demands.proofs.Accepted.{Fits}
use Rattle.demands.proofs.Chips.{sample_body, sample_keypad, scan_body, scan_keypad, scan_held_lem}

-- a chain of so many records, valid, the keypad on at most at the end
pub record Standing (n places : ℕ) (ch : Chain) : Type 0 where
  pub size : length ch.chips ≡ places
  pub valid : T (valid_chain n ch)
  pub keypad : KeypadLast n ch.chips

-- the chain in the middle of a write: so many rows not yet loaded, so many samples to come
pub record Going (n places : ℕ) (ch : Chain) (rows : List (List ℕ)) (ss : List ℕ) : Type 0 where
  pub standing : Standing n places ch
  pub fit : Fits n rows
  pub writes : Writes ch.levels (held n ch.chips) rows ss

-- a LOAD rise takes a row, and the others stay fit
fit_after : (n : ℕ) (rises : Bool) (rows : List (List ℕ)) → Fits n rows → Fits n (rows_after rises rows)
fit_after n false rows f = f
fit_after n true [] f = f
fit_after n true (row ∷ rows) f = f.1

module _ (n places : ℕ) (fits : n ≤ places) where
  -- ---- one event

  -- there is a record for each of n chips
  enough : (ch : Chain) → Standing n places ch → n ≤ length ch.chips
  enough ch g = subst (λ x. n ≤ x) (sym g.size) fits

  -- what a LOAD rise finds, of the chips themselves
  at_chips : (s : ℕ) (ch : Chain) (rows : List (List ℕ)) (ss : List ℕ) → Going n places ch rows (s ∷ ss)
      → AtSample (load_rises ch.levels s) rows (held n (stepped_chain n s ch).chips)
  at_chips s ch rows ss g =
      subst (AtSample (load_rises ch.levels s) rows) (sym (held_row_lem n ch.levels s (din s) ch.chips g.standing.keypad)) g.writes.1

  pub going_sample : (s : ℕ) (ch : Chain) (rows : List (List ℕ)) (ss : List ℕ) → Going n places ch rows (s ∷ ss)
      → Going n places (stepped_chain n s ch) (rows_after (load_rises ch.levels s) rows) ss
  going_sample s ch rows ss g =
      let st = g.standing in
      record {
        standing =
            record {
              size = row_length n ch.levels s (din s) ch.chips ∙ st.size;
              valid =
                  and_both (all_valid n (stepped_chain n s ch).chips) (leb s 7)
                  (row_valid n ch.levels s (din s) ch.chips (and_left (all_valid n ch.chips) (leb ch.levels 7) st.valid))
                  (le→leb s 7 g.writes.0);
              keypad =
                  sample_keypad n s ch (enough ch st) (load_rises ch.levels s) rows refl g.fit (at_chips s ch rows ss g) st.keypad;
            };
        fit = fit_after n (load_rises ch.levels s) rows g.fit;
        writes =
            subst (λ hs. Writes s hs (rows_after (load_rises ch.levels s) rows) ss)
            (sym (held_row_lem n ch.levels s (din s) ch.chips st.keypad)) g.writes.2;
      }

  pub going_scan : (j : ℕ) (bytes : List ℕ) (ch : Chain) (rows : List (List ℕ)) (ss : List ℕ) → Going n places ch rows ss
      → Going n places (with_chip j (scanned bytes (chip_at j ch)) ch) rows ss
  going_scan j bytes ch rows ss g =
      let st = g.standing in
      record {
        standing =
            record {
              size = length-set ch.chips j (scanned bytes (chip_at j ch)) ∙ st.size;
              valid = scan_valid n j bytes ch st.valid;
              keypad = scan_keypad n j bytes ch st.keypad;
            };
        fit = g.fit;
        writes = subst (λ hs. Writes ch.levels hs rows ss) (sym (scan_held_lem n j bytes ch)) g.writes;
      }

-- ---- histories

pub after_append : (h g : List Step) (c : Chip) → after (h ++ g) c ≡ after g (after h c)
after_append [] g c = refl
after_append (told command ∷ h) g c = after_append h g _
after_append (History.scan bytes ∷ h) g c = after_append h g _

pub after_body : (h : List Step) (c d : Chip) → body_of c ≡ body_of d → body_of (after h c) ≡ body_of (after h d)
after_body [] c d e = e
after_body (told command ∷ h) c d e = after_body h _ _ (body_applied command c d e)
after_body (History.scan bytes ∷ h) c d e = after_body h _ _ (body_scanned (result bytes) c d e)

-- one event's steps, and then the others'
one_more : (first others : List Step) (now next end : Chip) → body_of next ≡ body_of (after first now) → body_of end ≡ body_of (after others next)
    → body_of end ≡ body_of (after (first ++ others) now)
one_more first others now next end e f = f ∙ after_body others next (after first now) e ∙ ap body_of (sym (after_append first others now))

-- ---- events

-- the rows that events leave, not yet loaded
abbrev pub rows_left : ℕ → List (List ℕ) → List Event → List (List ℕ)
rows_left was rows [] = rows
rows_left was rows (sample s ∷ es) = rows_left s (rows_after (load_rises was s) rows) es
rows_left was rows (scan j bytes ∷ es) = rows_left was rows es

module _ (n places : ℕ) (fits : n ≤ places) where
  pub as_told : (es : List Event) (rest : List ℕ) (ch : Chain) (rows : List (List ℕ)) → Going n places ch rows (samples_in es ++ rest) → ScansBelow n es
      → (k : ℕ) → k < n
      → body_of (chip_at k (happened n es ch)) ≡ body_of (after (steps_for k ch.levels rows es) (chip_at k ch))
  as_told [] rest ch rows g below k h = refl
  as_told (sample s ∷ es) rest ch rows g below k h =
      let next = stepped_chain n s ch in
      let left = rows_after (load_rises ch.levels s) rows in
      one_more (told_at k (load_rises ch.levels s) rows) (steps_for k s left es) (chip_at k ch) (chip_at k next) (chip_at k (happened n es next))
      (sample_body n s ch (enough n places fits ch g.standing) (load_rises ch.levels s) rows refl g.fit
      (at_chips n places fits s ch rows (samples_in es ++ rest) g) k h)
      (as_told es rest next left (going_sample n places fits s ch rows (samples_in es ++ rest) g) below k h)
  as_told (scan j bytes ∷ es) rest ch rows g below k h =
      let next = with_chip j (scanned bytes (chip_at j ch)) ch in
      one_more (scan_at k j bytes) (steps_for k ch.levels rows es) (chip_at k ch) (chip_at k next) (chip_at k (happened n es next))
      (scan_body n j bytes ch (lt_of_lt_of_le below.0 (enough n places fits ch g.standing)) k)
      (as_told es rest next rows (going_scan n places fits j bytes ch rows (samples_in es ++ rest) g) below.1 k h)

  pub going_on : (es : List Event) (rest : List ℕ) (ch : Chain) (rows : List (List ℕ)) → Going n places ch rows (samples_in es ++ rest)
      → Going n places (happened n es ch) (rows_left ch.levels rows es) rest
  going_on [] rest ch rows g = g
  going_on (sample s ∷ es) rest ch rows g =
      going_on es rest (stepped_chain n s ch) (rows_after (load_rises ch.levels s) rows) (going_sample n places fits s ch rows (samples_in es ++ rest) g)
  going_on (scan j bytes ∷ es) rest ch rows g =
      going_on es rest (with_chip j (scanned bytes (chip_at j ch)) ch) rows (going_scan n places fits j bytes ch rows (samples_in es ++ rest) g)
