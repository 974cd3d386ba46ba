-- A LOAD rise counted: the loop over the chips, whose invariant is `Rising`; and a tally after it, and after a scan.
--     rising_start, rising_room, rising_more, rising_over     the loop
--     risen_room                                              a LOAD rise spends one of the room that there is
--     fits_fewer                                              fewer samples need less room
--     chip_store, code_past, code_store                       a scan, as the code stores it
--     codes_none, codes_released, codes_one, codes_over       the codes' tallies, by what a scan recorded
-- Assumes nothing.
use mathlib.Core.Path.{◌≡◌, refl, ap, sym, subst, ◌∙◌}
use mathlib.Core.Bool.{Bool, true}
use mathlib.Core.List.{List, ◌++◌}
use Prim.Native.Nat.{ℕ, suc, ◌+◌, ◌≤◌, ◌<◌}
use native.Mathlib.Nat.{add-zero, lt_of_lt_of_le}
use native.Mathlib.Omega.{arith}
use lib.Dec.{eqb, ltb}
use lib.ListN.{length, get_or, set, take, drop, length-set}
use lib.Seq.{drop-set-lt}
use borrow.Author.Tests.{eq-eqb, ne_eqb, lt-ltb, le-ltb, leb-true, le-leb}
use Rattle.base.specs.Bits.{bit_value}
use Rattle.base.specs.Pick.{pick}
use Rattle.base.proofs.Lists.{get_d_any}
use Rattle.base.proofs.Picks.{pick_yes, pick_no, pick_cases}
use Rattle.word.specs.Words.{decoded_of}
use Rattle.chip.specs.declared.Chip.{Chip}
use Rattle.chip.specs.Record.{reset_chip}
use Rattle.chip.specs.History.{told}
use Rattle.chip.specs.Scans.{nothing, key_code, over_unread, release_noted}
use Rattle.chain.specs.declared.Chain.{Chain}
use Rattle.chain.specs.Chain.{most}
use Rattle.chain.specs.Events.{obeyed}
use Rattle.tallies.specs.declared.Counts.{Counts}
use Rattle.tallies.specs.declared.Tally.{Tally}
use Rattle.tallies.specs.Counts.{plus, step_counts}
use Rattle.tallies.specs.Parts.{risen_counts, risen, one_more, codes_after}
use Rattle.base.specs.Below.{every}
use Rattle.tallies.specs.Tallies.{each_place, largest_count, has_room, have_room, fits}
use Rattle.base.proofs.Every.{every_rest}
use Rattle.tallies.proofs.Places.{place_none, place_one, place_more, place_over, every_place}
use Rattle.tallies.proofs.Rooms.{rooms, rooms_back, fits_parts, fits_both, plus_room}
use Rattle.tallies.proofs.Steps.{command_few}

-- ---- the loop over the chips

pub record Rising (n : ℕ) (befores afters : List Chip) (cs₀ cs : List Counts) (k : ℕ) : Type 0 where
  pub size : length cs ≡ most
  pub room : every (have_room 1) (drop k cs) ≡ true
  pub whole : take k cs ++ each_place (risen_counts n befores afters) k (drop k cs) ≡ each_place (risen_counts n befores afters) 0 cs₀

pub rising_start : (n : ℕ) (befores afters : List Chip) (cs : List Counts) → length cs ≡ most → every (have_room 1) cs ≡ true
    → Rising n befores afters cs cs 0
rising_start n befores afters cs size room = record { size = size; room = room; whole = refl }

module _ {n : ℕ} {befores afters : List Chip} {cs₀ cs : List Counts} {k : ℕ} (r : Rising n befores afters cs₀ cs k) (few : n ≤ most) (h : k < n) where
  at : k < length cs
  at = subst (λ m. k < m) (sym r.size) (lt_of_lt_of_le h few)

  pub rising_room : (d : Counts) → have_room 1 (get_or cs k d) ≡ true
  rising_room d = (every_rest (have_room 1) cs k d at r.room).0

  pub rising_more : length befores ≡ most → length afters ≡ most → (d : Counts) (b a : Chip) (y : Counts)
      → y ≡ plus (get_or cs k d) (step_counts (told (obeyed (decoded_of (get_or afters k a).line.register))) (get_or befores k b))
      → Rising n befores afters cs₀ (set cs k y) (k + 1)
  rising_more all_before all_after d b a y e =
      record {
        size = length-set cs k y ∙ r.size;
        room = subst (λ xs. every (have_room 1) xs ≡ true) (sym rest) (every_rest (have_room 1) cs k d at r.room).1;
        whole = place_more (risen_counts n befores afters) k cs d y at (e ∙ counted) ∙ r.whole;
      }
    where
      rest : drop (k + 1) (set cs k y) ≡ drop (k + 1) cs
      rest = let above : k < k + 1 = omega arith in drop-set-lt (k + 1) cs k y above

      counted : plus (get_or cs k d) (step_counts (told (obeyed (decoded_of (get_or afters k a).line.register))) (get_or befores k b))
          ≡ risen_counts n befores afters k (get_or cs k d)
      counted =
          ap (λ (c : Chip). plus (get_or cs k d) (step_counts (told (obeyed (decoded_of c.line.register))) (get_or befores k b)))
          (get_d_any afters k a reset_chip (subst (λ m. k < m) (sym all_after) (lt_of_lt_of_le h few)))
          ∙ ap (λ (c : Chip). plus (get_or cs k d) (step_counts (told (obeyed (decoded_of (get_or afters k reset_chip).line.register))) c))
          (get_d_any befores k b reset_chip (subst (λ m. k < m) (sym all_before) (lt_of_lt_of_le h few)))
          ∙ sym (pick_yes _ _ (lt-ltb k n h))

pub rising_over : {n : ℕ} {befores afters : List Chip} {cs₀ cs : List Counts} {k : ℕ} → Rising n befores afters cs₀ cs k → n ≤ k
    → cs ≡ each_place (risen_counts n befores afters) 0 cs₀
rising_over {n} {befores} {afters} {cs₀} {cs} {k} r h =
    sym (place_over (risen_counts n befores afters) k cs (λ j x l. pick_no _ _ (le-ltb j n (omega arith)))) ∙ r.whole

-- ---- what a LOAD rise spends

-- a count with room for more has room for fewer
fewer_room : (m more : ℕ) → m ≤ more → (count : ℕ) → has_room more count ≡ true → has_room m count ≡ true
fewer_room m more h count e = le-leb (count + m) largest_count (omega (arith, leb-true (count + more) largest_count e))

fewer_rooms : (m more : ℕ) → m ≤ more → (c : Counts) → have_room more c ≡ true → have_room m c ≡ true
fewer_rooms m more h c e =
    let r = rooms more c e in
    rooms_back m c
    (record {
      recorded = omega (arith, r.recorded);
      read = omega (arith, r.read);
      overwritten = omega (arith, r.overwritten);
      cleared = omega (arith, r.cleared);
    })

-- tests of every element, one of which says less
every_less {ℓ} : {A : Type ℓ} (p q : A → Bool) (xs : List A) → ((x : A) → p x ≡ true → q x ≡ true) → every p xs ≡ true → every q xs ≡ true
every_less p q xs less e =
    subst (λ ys. every q ys ≡ true) (place_none (λ j x. x) 0 xs (λ j x low high. refl)) (every_place p q (λ j x. x) 0 xs (λ j x. less x) e)

-- fewer samples and scans need less room
pub fits_fewer : (m more : ℕ) → m ≤ more → (t : Tally) → fits more t ≡ true → fits m t ≡ true
fits_fewer m more h t e =
    fits_both m t (every_less (have_room more) (have_room m) t.chips (fewer_rooms m more h) (fits_parts more t e).0)
    (every_less (has_room more) (has_room m) t.codes (fewer_room m more h) (fits_parts more t e).1)

pub risen_room : (m n : ℕ) (before after : Chain) (t : Tally) → fits (suc m) t ≡ true → fits m (risen n before after t) ≡ true
unfolding risen
risen_room m n before after t e =
    fits_both m (record { chips = each_place (risen_counts n before.chips after.chips) 0 t.chips; codes = t.codes; largest = t.largest })
    (every_place (have_room (suc m)) (have_room m) (risen_counts n before.chips after.chips) 0 t.chips one (fits_parts (suc m) t e).0)
    (fits_parts m t (fits_fewer m (suc m) (omega arith) t e)).1
  where
    one : (k : ℕ) (x : Counts) → have_room (suc m) x ≡ true → have_room m (risen_counts n before.chips after.chips k x) ≡ true
    one k x room =
        pick_cases (λ (c : Counts). have_room m c ≡ true) (ltb k n)
        (λ y.
        let b = get_or before.chips k reset_chip in
        let command = obeyed (decoded_of (get_or after.chips k reset_chip).line.register) in
        plus_room m x (step_counts (told command) b) (command_few command b.settings.system.keyb b.keys.interrupt) room)
        (λ y. fewer_rooms m (suc m) (omega arith) x room)

-- ---- a scan, as the code stores it

pub chip_store : (k : ℕ) (r : Counts) (cs : List Counts) (d : Counts) → k < length cs
    → set cs k (plus (get_or cs k d) r) ≡ each_place (λ j x. pick (eqb k j) (plus x r) x) 0 cs
chip_store k r cs d h =
    ap (set cs k) (sym (pick_yes _ _ (eq-eqb k k refl)))
    ∙ sym (place_one (λ j x. pick (eqb k j) (plus x r) x) cs k d h (λ j x ne. pick_no _ _ (ne_eqb k j (λ q. ne (sym q)))))

-- a code that has no tally
pub code_past : (code : ℕ) (codes : List ℕ) → length codes ≤ code → codes ≡ one_more code codes
unfolding one_more
code_past code codes h =
    sym (place_none (λ j x. x + bit_value (eqb code j)) 0 codes (λ j x low high. ap (λ b. x + bit_value b) (ne_eqb code j (λ q. omega arith)) ∙ add-zero x))

pub code_store : (code : ℕ) (codes : List ℕ) → code < length codes → set codes code (get_or codes code 0 + 1) ≡ one_more code codes
unfolding one_more
code_store code codes h =
    ap (λ b. set codes code (get_or codes code 0 + bit_value b)) (sym (eq-eqb code code refl))
    ∙ sym (place_one (λ j x. x + bit_value (eqb code j)) codes code 0 h (λ j x ne. ap (λ b. x + bit_value b) (ne_eqb code j (λ q. ne (sym q))) ∙ add-zero x))

-- what a scan recorded, and the codes' tallies
pub codes_none : (codes : List ℕ) → codes ≡ codes_after nothing codes
unfolding codes_after
codes_none codes = sym (place_none (λ j x. x + 0) 0 codes (λ j x low high. add-zero x))

pub codes_released : (codes : List ℕ) → codes ≡ codes_after release_noted codes
unfolding codes_after
codes_released codes = sym (place_none (λ j x. x + 0) 0 codes (λ j x low high. add-zero x))

pub codes_one : (code : ℕ) (codes : List ℕ) → one_more code codes ≡ codes_after (key_code code) codes
unfolding one_more codes_after
codes_one code codes = refl

pub codes_over : (code : ℕ) (codes : List ℕ) → one_more code codes ≡ codes_after (over_unread code) codes
unfolding one_more codes_after
codes_over code codes = refl
