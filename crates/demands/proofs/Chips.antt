-- What one event does to each chip of a chain, and to its line parts.
--     sample_body        at a LOAD rise that finds a row in the registers each chip obeys its word, at any other sample none does
--     sample_keypad      and if the row is fit, the keypad stays off before the last chip
--     scan_body          a scan is a step of the chip that it names, and of no other
--     scan_keypad        it leaves the keypad as it is on every chip
--     scan_held_lem          and the registers and latches
-- Assumes nothing.
use mathlib.Core.Path.{◌≡◌, refl, ap, sym, subst, ◌∙◌}
use mathlib.Core.Bool.{Bool, true, false}
use mathlib.Core.List.{List, [], ◌∷◌, map}
use Prim.Native.Nat.{ℕ, zero, suc, ◌≤◌, ◌<◌, suc-le-suc}
use native.Mathlib.Nat.{not-suc-le-zero, le_of_suc-le-suc, zero-lt-suc, lt_of_lt_of_le}
use native.Mathlib.Omega.{arith}
use borrow.Author.Tests.{eqb-true, eqb-false}
use lib.Dec.{eqb}
use lib.ListN.{length, get_or, take, length-set}
use lib.Seq.{get_or-set_same, map-set_same}
use Rattle.base.specs.Refusals.{Told, done, refused}
use Rattle.base.proofs.Picks.{pick_cases}
use Rattle.word.specs.Words.{decoded_of}
use Rattle.word.specs.declared.Command.{Command}
use Rattle.chip.specs.declared.Chip.{Chip}
use Rattle.chip.specs.Record.{Body, body_of, reset_chip}
use Rattle.chip.specs.Commands.{applied_word}
use Rattle.chip.specs.Edges.{din, load_rises}
use Rattle.chip.specs.Scans.{result, scanned}
use Rattle.chip.specs.History.{Step, after}
use Rattle.chip.proofs.Quiet.{keyb_scanned, line_scanned}
use Rattle.chain.specs.declared.Chain.{Chain}
use Rattle.chain.specs.Chain.{stepped_chain, KeypadLast}
use Rattle.chain.proofs.Clocks.{held_of, held}
use Rattle.chain.specs.Entries.{chip_at, with_chip}
use Rattle.chain.proofs.Laws.{quiet_chain, keypad_kept, one_alone}
use Rattle.chain.proofs.Places.{part_at, obeys_at}
use Rattle.chain.proofs.Rest.{row_length}
use Rattle.chain.specs.Events.{scan_at}
use Rattle.demands.specs.Events.{word_for, command_of, told_at}
use Rattle.demands.proofs.Writes.{registers_in, AtSample}
use Rattle.demands.proofs.Accepted.{Fit, Fits, keyb_applied}

-- ---- chips by their places

-- KEYB of a chip
abbrev keyb : Chip → Bool
keyb c = c.settings.system.keyb

-- the register held at a chip's place is the chip's
register_at : (n k : ℕ) (cs : List Chip) (d : Chip) → k < n → k < length cs → get_or (registers_in (held n cs)) k 0 ≡ (get_or cs k d).line.register
unfolding held
register_at zero k cs d h l = absurd (not-suc-le-zero h)
register_at (suc n) k [] d h l = absurd (not-suc-le-zero l)
register_at (suc n) zero (c ∷ cs) d h l = refl
register_at (suc n) (suc k) (c ∷ cs) d h l = register_at n k cs d (le_of_suc-le-suc h) (le_of_suc-le-suc l)

-- chips none of which has KEYB on but the last, by their places
keypad_all : (n : ℕ) (cs : List Chip) (d : Chip) → ((k : ℕ) → suc k < n → k < length cs → keyb (get_or cs k d) ≡ false) → KeypadLast n cs
keypad_all zero cs d off = tt
keypad_all (suc zero) cs d off = tt
keypad_all (suc (suc n)) [] d off = tt
keypad_all (suc (suc n)) (c ∷ cs) d off =
    (off 0 (suc-le-suc (zero-lt-suc n)) (zero-lt-suc (length cs)), keypad_all (suc n) cs d (λ k h l. off (suc k) (suc-le-suc h) (suc-le-suc l)))

-- and back
keypad_at : (n k : ℕ) (cs : List Chip) (d : Chip) → KeypadLast n cs → suc k < n → k < length cs → keyb (get_or cs k d) ≡ false
keypad_at zero k cs d p h l = absurd (not-suc-le-zero h)
keypad_at (suc zero) k cs d p h l = absurd (omega arith)
keypad_at (suc (suc n)) k [] d p h l = absurd (not-suc-le-zero l)
keypad_at (suc (suc n)) zero (c ∷ cs) d p h l = p.0
keypad_at (suc (suc n)) (suc k) (c ∷ cs) d p h l = keypad_at (suc n) k cs d p.1 (le_of_suc-le-suc h) (le_of_suc-le-suc l)

-- ---- a sample

-- a fit word is obeyed as its command
fit_obeyed : (n k : ℕ) (o : Told Command) (c : Chip) → Fit n k o → applied_word o c ≡ after (command_of o) c
fit_obeyed n k (done command) c f = refl
fit_obeyed n k (refused number place) c f = absurd f

-- and leaves KEYB off before the last chip
fit_keyb : (n k : ℕ) (o : Told Command) (c : Chip) → Fit n k o → suc k < n → keyb c ≡ false → keyb (after (command_of o) c) ≡ false
fit_keyb n k (done command) c f h e = keyb_applied command c (f h) e
fit_keyb n k (refused number place) c f h e = absurd f

module _ (n s : ℕ) (ch : Chain) (fits : n ≤ length ch.chips) where
  pub sample_body : (rises : Bool) (rows : List (List ℕ)) → load_rises ch.levels s ≡ rises
      → Fits n rows
      → AtSample rises rows (held n (stepped_chain n s ch).chips)
      → (k : ℕ) → k < n
      → body_of (chip_at k (stepped_chain n s ch)) ≡ body_of (after (told_at k rises rows) (chip_at k ch))
  sample_body false rows e f a k h = part_at body_of (stepped_chain n s ch).chips ch.chips k reset_chip (quiet_chain n s ch e)
  sample_body true [] e f a k h = absurd a
  sample_body true (row ∷ rows) e f a k h =
      let l : k < length ch.chips = lt_of_lt_of_le h fits in
      let m : k < length (stepped_chain n s ch).chips = subst (λ x. k < x) (sym (row_length n ch.levels s (din s) ch.chips)) l in
      obeys_at n s ch e k h l
      ∙ ap (λ r. body_of (applied_word (decoded_of r) (chip_at k ch)))
      (sym (register_at n k (stepped_chain n s ch).chips reset_chip h m) ∙ ap (word_for k) (sym a))
      ∙ ap body_of (fit_obeyed n k (decoded_of (word_for k row)) (chip_at k ch) (f.0.words k h))

  pub sample_keypad : (rises : Bool) (rows : List (List ℕ)) → load_rises ch.levels s ≡ rises
      → Fits n rows
      → AtSample rises rows (held n (stepped_chain n s ch).chips)
      → KeypadLast n ch.chips
      → KeypadLast n (stepped_chain n s ch).chips
  sample_keypad false rows e f a p = keypad_kept n ch.chips (stepped_chain n s ch).chips (sym (quiet_chain n s ch e)) p
  sample_keypad true [] e f a p = absurd a
  sample_keypad true (row ∷ rows) e f a p =
      keypad_all n (stepped_chain n s ch).chips reset_chip
      (λ k h l.
      let i : k < n = omega arith in
      ap (λ (b : Body). b.settings.system.keyb) (sample_body true (row ∷ rows) e f a k i)
      ∙ fit_keyb n k (decoded_of (word_for k row)) (chip_at k ch) (f.0.words k i) h
      (keypad_at n k ch.chips reset_chip p h (lt_of_lt_of_le i fits)))

-- ---- a scan

-- registers and latches of the first n chips, by place
held_take : (n : ℕ) (cs : List Chip) → held n cs ≡ take n (map held_of cs)
unfolding held
held_take zero cs = refl
held_take (suc n) [] = refl
held_take (suc n) (c ∷ cs) = ap (λ hs. held_of c ∷ hs) (held_take n cs)

module _ (n j : ℕ) (bytes : List ℕ) (ch : Chain) where
  abbrev after_scan : Chain
  after_scan = with_chip j (scanned bytes (chip_at j ch)) ch

  pub scan_body : j < length ch.chips → (k : ℕ) → body_of (chip_at k after_scan) ≡ body_of (after (scan_at k j bytes) (chip_at k ch))
  scan_body h k =
      pick_cases (λ (steps : List Step). body_of (chip_at k after_scan) ≡ body_of (after steps (chip_at k ch))) (eqb j k)
      (λ e.
      ap body_of
      (ap (λ i. get_or after_scan.chips i reset_chip) (sym (eqb-true j k e))
      ∙ get_or-set_same ch.chips j (scanned bytes (chip_at j ch)) reset_chip h
      ∙ ap (λ i. scanned bytes (chip_at i ch)) (eqb-true j k e)))
      (λ e. ap body_of (one_alone j k (scanned bytes (chip_at j ch)) ch (λ q. eqb-false j k e (sym q))))

  pub scan_keypad : KeypadLast n ch.chips → KeypadLast n after_scan.chips
  scan_keypad p =
      keypad_all n after_scan.chips reset_chip
      (λ k h l.
      part_at keyb after_scan.chips ch.chips k reset_chip
      (map-set_same keyb ch.chips j (scanned bytes (chip_at j ch)) reset_chip (ap (λ s. s.keyb) (keyb_scanned (result bytes) (chip_at j ch))))
      ∙ keypad_at n k ch.chips reset_chip p h (subst (λ x. k < x) (length-set ch.chips j (scanned bytes (chip_at j ch))) l))

  pub scan_held_lem : held n after_scan.chips ≡ held n ch.chips
  scan_held_lem =
      held_take n after_scan.chips
      ∙ ap (take n)
      (map-set_same held_of ch.chips j (scanned bytes (chip_at j ch)) reset_chip
      (ap (λ l. record { register = l.register; latch = l.latch }) (line_scanned (result bytes) (chip_at j ch))))
      ∙ sym (held_take n ch.chips)
