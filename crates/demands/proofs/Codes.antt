-- The insurer's second answer: how many codes one press gives.
--     codes_are                                          where scans find key a or none, every code that is recorded is a's
--     found_twice                                        two scans in a row that find key a record it, if it isn't held
--     answer_2, answer_2_broken                          at most one code, of whatever key
--     answer_2_exactly, answer_2_broken_exactly          and exactly one, where two scans in a row find the key
-- Assumes nothing.
use mathlib.Core.Path.{◌≡◌, refl, ap, ap₂, sym, subst, ◌∙◌}
use mathlib.Core.Bool.{Bool, true, false, not, ◌&&◌, false≢true}
use mathlib.Core.Logic.{◌⊎◌, inl, inr, ⊎_elim}
use mathlib.Core.List.{List, [], ◌∷◌, ◌++◌}
use Prim.Native.Nat.{ℕ, zero, suc, ◌+◌, ◌≤◌, ◌<◌}
use native.Mathlib.Omega.{arith}
use lib.Dec.{eqb}
use lib.ListN.{length, replicate}
use borrow.Author.Tests.{eq-eqb, ne_eqb}
use Rattle.base.specs.Bits.{bit, bit_value}
use Rattle.base.specs.Pick.{pick}
use Rattle.base.proofs.Picks.{pick_yes, pick_cases}
use Rattle.chip.specs.declared.Chip.{Chip}
use Rattle.chip.specs.Record.{Body, body_of, none, with_keys}
use Rattle.chip.specs.Scans.{Recording, nothing, key_code, over_unread, release_noted, result, code_of, new_key, both_none, keyed, code_taken, scanned_by, recorded_by, scanned, recorded}
use Rattle.chip.specs.History.{Step, told, scan, after, records_of, is_key, count_of, times, results_of, Each}
use Rattle.chip.proofs.OneScan.{scanned_on, code_taken_lem, keyed_code, none_not_new, address_not_none}
use Rattle.chip.proofs.Once.{once, once_broken}
use Rattle.chain.specs.declared.Chain.{Chain}
use Rattle.chain.specs.Chain.{most}
use Rattle.chain.specs.Entries.{chip_at}
use Rattle.chain.specs.Events as Events
use Rattle.chain.specs.Events.{Event, happened, history_of, records_in, codes_in}
use Rattle.demands.specs.Answers.{AtMostOne, ExactlyOne, OneCode, OneCodeExactly, OneCodeBroken, OneCodeBrokenExactly}
use Rattle.chain.proofs.Histories.{times_append, happened_append, history_append, history_body, records_same}

-- ---- every code is the key's

-- no other code than key a's
abbrev OnlyOf : ℕ → Recording → Type 0
OnlyOf a nothing = Unit {0}
OnlyOf a (key_code code) = code ≡ code_of a
OnlyOf a (over_unread code) = code ≡ code_of a
OnlyOf a release_noted = Unit {0}

-- a scan whose result is a, or none, records no other
one_record : (a r : ℕ) (c : Chip) → (r ≡ a) ⊎ (r ≡ none) → OnlyOf a (recorded_by r c)
unfolding recorded_by
one_record a r c found =
    pick_cases (OnlyOf a) (not c.settings.sleeping && c.settings.system.keyb)
    (λ on.
    pick_cases (OnlyOf a) (new_key r c.keys) {x = code_taken c.keys.interrupt (code_of r)}
    (λ new. pick_cases (OnlyOf a) c.keys.interrupt (λ e. of_a new) (λ e. of_a new))
    (λ old. pick_cases (OnlyOf a) (both_none r c.keys && bit c.keys.code 6) (λ e. tt) (λ e. tt)))
    (λ off. tt)
  where
    of_a : new_key r c.keys ≡ true → code_of r ≡ code_of a
    of_a new =
        ⊎_elim (λ e. ap code_of e) (λ e. absurd (false≢true (sym (ap (λ x. new_key x c.keys) e ∙ none_not_new c.keys) ∙ new))) found

module _ (a : ℕ) where
  -- one more record without a code, and one more with it
  none_more : (rest : List Recording) → codes_in rest ≡ replicate (count_of (code_of a) rest) (code_of a)
      → codes_in rest ≡ replicate (0 + count_of (code_of a) rest) (code_of a)
  none_more rest p =
      let same : count_of (code_of a) rest ≡ 0 + count_of (code_of a) rest = omega arith in
      p ∙ ap (λ m. replicate m (code_of a)) same

  one_more : (code : ℕ) (rest : List Recording) → code ≡ code_of a → codes_in rest ≡ replicate (count_of (code_of a) rest) (code_of a)
      → code ∷ codes_in rest ≡ replicate (bit_value (eqb code (code_of a)) + count_of (code_of a) rest) (code_of a)
  one_more code rest e p =
      let one : bit_value (eqb code (code_of a)) ≡ 1 = ap bit_value (eq-eqb code (code_of a) e) in
      let same : suc (count_of (code_of a) rest) ≡ bit_value (eqb code (code_of a)) + count_of (code_of a) rest = omega arith in
      ap₂ ◌∷◌ e p ∙ ap (λ m. replicate m (code_of a)) same

  code_more : (what : Recording) (rest : List Recording) → OnlyOf a what
      → codes_in rest ≡ replicate (count_of (code_of a) rest) (code_of a)
      → codes_in (what ∷ rest) ≡ replicate (count_of (code_of a) (what ∷ rest)) (code_of a)
  code_more nothing rest only p = none_more rest p
  code_more (key_code code) rest only p = one_more code rest only p
  code_more (over_unread code) rest only p = one_more code rest only p
  code_more release_noted rest only p = none_more rest p

  codes_are : (h : List Step) (c : Chip) → Each (λ r. (r ≡ a) ⊎ (r ≡ none)) (results_of h) → codes_in (records_of h c) ≡ replicate (times (code_of a) h c) (code_of a)
  codes_are [] c p = refl
  codes_are (told command ∷ h) c p = codes_are h _ p
  codes_are (scan bytes ∷ h) c p =
      code_more (recorded bytes c) (records_of h (scanned bytes c)) (one_record a (result bytes) c p.0) (codes_are h (scanned bytes c) p.1)

  -- a key or none
  or_none : (rs : List ℕ) → Each (λ r. r ≡ a) rs → Each (λ r. (r ≡ a) ⊎ (r ≡ none)) rs
  or_none [] p = tt
  or_none (r ∷ rs) p = (inl p.0, or_none rs p.1)

-- ---- found twice

recorded_key : (r : ℕ) (c : Chip) → c.settings.sleeping ≡ false → c.settings.system.keyb ≡ true → new_key r c.keys ≡ true
    → recorded_by r c ≡ code_taken c.keys.interrupt (code_of r)
unfolding recorded_by
recorded_key r c w k new = pick_yes _ _ (λ i. not (w i) && k i) ∙ pick_yes _ _ new

module _ (a : ℕ) (small : a < none) (c : Chip) (awake : c.settings.sleeping ≡ false) (keypad : c.settings.system.keyb ≡ true) (free : c.keys.code ≡ code_of a → ⊥) where
  -- a record of a's code counts
  counts : (what : Recording) (stood : Bool) → what ≡ code_taken stood (code_of a) → bit_value (is_key (code_of a) what) ≡ 1
  counts what stood e = ap bit_value (ap (is_key (code_of a)) e ∙ code_taken_lem stood (code_of a) (code_of a) ∙ eq-eqb (code_of a) (code_of a) refl)

  -- after one scan that didn't record it, the next finds a new key
  next_new : new_key a c.keys ≡ false → new_key a (keyed a c.keys) ≡ true
  next_new n = λ i.
      eq-eqb a a refl i && not (ne_eqb a none (λ e. omega arith) i) && not (ne_eqb (keyed a c.keys).code (code_of a) other i)
    where
      other : (keyed a c.keys).code ≡ code_of a → ⊥
      other e = free (sym (keyed_code a c.keys n (address_not_none a c.keys small)) ∙ e)

  one_of_two : 1 ≤ bit_value (is_key (code_of a) (recorded_by a c)) + bit_value (is_key (code_of a) (recorded_by a (scanned_by a c)))
  one_of_two = go (new_key a c.keys) refl
    where
      go : (b : Bool) → new_key a c.keys ≡ b
          → 1 ≤ bit_value (is_key (code_of a) (recorded_by a c)) + bit_value (is_key (code_of a) (recorded_by a (scanned_by a c)))
      go true e = let f = counts (recorded_by a c) c.keys.interrupt (recorded_key a c awake keypad e) in omega arith
      go false e =
          let same = scanned_on a c awake keypad in
          let f =
          counts (recorded_by a (scanned_by a c)) (keyed a c.keys).interrupt
          (ap (recorded_by a) same ∙ recorded_key a (with_keys (keyed a c.keys) c) awake keypad (next_new e)) in
          omega arith

  found_twice : (one two : List ℕ) (h : List Step) → result one ≡ a → result two ≡ a → 1 ≤ times (code_of a) (scan one ∷ scan two ∷ h) c
  found_twice one two h e f =
      let l = one_of_two in
      let p : bit_value (is_key (code_of a) (recorded one c)) ≡ bit_value (is_key (code_of a) (recorded_by a c)) = ap (λ r. bit_value (is_key (code_of a) (recorded_by r c))) e in
      let q : bit_value (is_key (code_of a) (recorded two (scanned one c))) ≡ bit_value (is_key (code_of a) (recorded_by a (scanned_by a c))) =
      ap₂ (λ r s. bit_value (is_key (code_of a) (recorded_by s (scanned_by r c)))) e f in
      omega arith

-- ---- chip k of a chain

-- at most one, by the number
few : (a m : ℕ) (codes : List ℕ) → codes ≡ replicate m (code_of a) → m ≤ 1 → (codes ≡ []) ⊎ (codes ≡ code_of a ∷ [])
few a zero codes e l = inl e
few a (suc zero) codes e l = inr e
few a (suc (suc m)) codes e l = absurd (omega arith)

single : (a m : ℕ) (codes : List ℕ) → codes ≡ replicate m (code_of a) → m ≡ 1 → codes ≡ code_of a ∷ []
single a m codes e one = e ∙ ap (λ x. replicate x (code_of a)) one

module _ (n k a : ℕ) (ch : Chain) (h : k < n) (m : n ≤ most) (size : length ch.chips ≡ most) (small : a < none) (es : List Event)
    (results : Each (λ r. (r ≡ a) ⊎ (r ≡ none)) (results_of (history_of k n es ch)))
    (once_so : times (code_of a) (history_of k n es ch) (chip_at k ch) ≤ 1) where
  codes_so : codes_in (records_in k n es ch) ≡ replicate (times (code_of a) (history_of k n es ch) (chip_at k ch)) (code_of a)
  codes_so =
      ap codes_in (records_same n k h m es ch (chip_at k ch) size refl) ∙ codes_are a (history_of k n es ch) (chip_at k ch) results

  at_most : AtMostOne n k a ch es
  at_most = few a (times (code_of a) (history_of k n es ch) (chip_at k ch)) (codes_in (records_in k n es ch)) codes_so once_so

  exactly : ExactlyOne n k a ch es
  exactly t =
      let at_least : 1 ≤ times (code_of a) (history_of k n es ch) (chip_at k ch) = subst (λ g. 1 ≤ times (code_of a) g (chip_at k ch)) (sym split) counted in
      single a (times (code_of a) (history_of k n es ch) (chip_at k ch)) (codes_in (records_in k n es ch)) codes_so (omega arith)
    where
      before : List Step
      before = history_of k n t.first ch

      c : Chip
      c = after before (chip_at k ch)

      body : body_of (chip_at k (happened n t.first ch)) ≡ body_of c
      body = history_body n k h m t.first ch (chip_at k ch) size refl

      later : List Step
      later = history_of k n t.rest (happened n (t.first ++ (Events.scan k t.one ∷ (t.between ++ (Events.scan k t.two ∷ [])))) ch)

      own : (bytes : List ℕ) (g : List Step) → Events.scan_at k k bytes ++ g ≡ scan bytes ∷ g
      own bytes g = ap (λ b. pick b (scan bytes ∷ []) [] ++ g) (eq-eqb k k refl)

      -- the history of the two scans and what comes after them
      rest_so : history_of k n (Events.scan k t.one ∷ (t.between ++ (Events.scan k t.two ∷ t.rest))) (happened n t.first ch) ≡ scan t.one ∷ scan t.two ∷ later
      rest_so =
          own t.one _
          ∙ ap (λ g. scan t.one ∷ g)
          (history_append k n t.between (Events.scan k t.two ∷ t.rest) mid
          ∙ ap₂ ◌++◌ (ap (history_of k n t.between) (sym (happened_append n t.first (Events.scan k t.one ∷ []) ch)) ∙ t.nothing_between) refl
          ∙ own t.two _
          ∙ ap (λ x. scan t.two ∷ history_of k n t.rest x) joined)
        where
          mid : Chain
          mid = happened n (Events.scan k t.one ∷ []) (happened n t.first ch)

          joined : happened n (Events.scan k t.two ∷ []) (happened n t.between mid)
              ≡ happened n (t.first ++ (Events.scan k t.one ∷ (t.between ++ (Events.scan k t.two ∷ [])))) ch
          joined =
              sym (happened_append n t.between (Events.scan k t.two ∷ []) mid)
              ∙ sym (happened_append n t.first (Events.scan k t.one ∷ (t.between ++ (Events.scan k t.two ∷ []))) ch)

      split : history_of k n es ch ≡ before ++ (scan t.one ∷ scan t.two ∷ later)
      split =
          ap (λ xs. history_of k n xs ch) t.whole
          ∙ history_append k n t.first (Events.scan k t.one ∷ (t.between ++ (Events.scan k t.two ∷ t.rest))) ch
          ∙ ap (λ g. before ++ g) rest_so

      counted : 1 ≤ times (code_of a) (before ++ (scan t.one ∷ scan t.two ∷ later)) (chip_at k ch)
      counted =
          let more =
          found_twice a small c (ap (λ (b : Body). b.settings.sleeping) (sym body) ∙ t.awake) (ap (λ (b : Body). b.settings.system.keyb) (sym body) ∙ t.keypad)
          (λ e. t.not_held (ap (λ (b : Body). b.keys.code) body ∙ e))
          t.one t.two later t.one_finds t.two_finds in
          omega (arith, times_append (code_of a) before (scan t.one ∷ scan t.two ∷ later) (chip_at k ch))

-- ---- the answers

pub answer_2 : OneCode
answer_2 n k a ch h m size small es p =
    at_most n k a ch h m size small es (or_none a (results_of (history_of k n es ch)) p.1) (once a small (history_of k n es ch) p.0 p.1 (chip_at k ch))

pub answer_2_exactly : OneCodeExactly
answer_2_exactly n k a ch h m size small es p =
    exactly n k a ch h m size small es (or_none a (results_of (history_of k n es ch)) p.1) (once a small (history_of k n es ch) p.0 p.1 (chip_at k ch))

pub answer_2_broken : OneCodeBroken
answer_2_broken n k a ch h m size small es p =
    at_most n k a ch h m size small es p.1.0 (once_broken a small (history_of k n es ch) p.0 p.1 (chip_at k ch))

pub answer_2_broken_exactly : OneCodeBrokenExactly
answer_2_broken_exactly n k a ch h m size small es p =
    exactly n k a ch h m size small es p.1.0 (once_broken a small (history_of k n es ch) p.0 p.1 (chip_at k ch))
