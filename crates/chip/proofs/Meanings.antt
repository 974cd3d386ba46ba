-- C-20: a scan records each of the four things exactly where its meaning holds.
--     released_bit           bit 6 of a released code is 0
--     meant                  what a scan records is what it means
--     one_meaning            no two of the four hold of the same scan
--     records_exactly        a scan records a thing exactly where that thing's meaning holds
--     overwritten_exactly    over an unread code exactly where a code is recorded and an interrupt stood before the scan
--     released_exactly       release noted exactly where bit 6 was 1 before the scan and is 0 after it
--     code_exactly           a code, over an unread one or not, exactly where the code record changed to it by this scan
--     asleep_nothing         a scan of a sleeping chip, the one that wakes it too, records nothing
-- Assumes nothing.
use mathlib.Core.Path.{◌≡◌, refl, ap, sym, subst, ◌∙◌}
use mathlib.Core.Bool.{Bool, true, false, not, ◌&&◌, false≢true, and-eq-true_iff}
use mathlib.Core.List.{List}
use mathlib.Core.Logic.{◌↔◌}
use Prim.Native.Nat.{ℕ, ◌-◌, ◌*◌, ◌/◌, ◌%◌, ◌^◌, ◌≤◌, ◌<◌}
use native.Mathlib.Nat.{sub-zero}
use native.Mathlib.Omega.{arith}
use borrow.Author.Tests.{eq-eqb, ne_eqb, eqb-true}
use Rattle.base.specs.Bits.{bit, bit_value}
use Rattle.base.specs.Pick.{pick}
use Rattle.base.proofs.Picks.{pick_yes, pick_no, pick_cases}
use Rattle.chip.specs.declared.Chip.{Chip}
use Rattle.chip.specs.declared.Keys.{Keys}
use Rattle.chip.specs.Record.{none}
use Rattle.chip.specs.Scans.{Recording, nothing, key_code, over_unread, release_noted, code_of, released, new_key, both_none, keyed, code_taken, keys_record, wakes, scanned_asleep, scanned_by, recorded_by, scanned, recorded, result}
use Rattle.chip.specs.History.{is_key}
use Rattle.chip.specs.Meanings.{CodeChanged, BitCleared, Meant}
use Rattle.chip.proofs.Closed.{result_le}
use Rattle.chip.proofs.OneScan.{by_scan, new_key_lem, code_taken_lem}

-- ---- bit 6

-- of a code 40H + an address
key_bit : (a : ℕ) → a < none → bit (code_of a) 6 ≡ true
key_bit a h = eq-eqb (code_of a / 2 ^ 6 % 2 ^ 1) 1 (omega arith)

-- of a released code
pub released_bit : (code : ℕ) → bit (released code) 6 ≡ false
released_bit code = go (bit code 6) refl
  where
    go : (t : Bool) → bit code 6 ≡ t → bit (code - 0x40 * bit_value t) 6 ≡ false
    go true e =
        let set = eqb-true (code / 2 ^ 6 % 2 ^ 1) 1 e in
        ne_eqb ((code - 0x40 * 1) / 2 ^ 6 % 2 ^ 1) 1 (λ f. omega arith)
    go false e = ap (λ x. bit x 6) (sub-zero code) ∙ e

-- ---- what a scan records is what it means

-- the code as it was: nothing was recorded
still : (before after : Keys) → after.code ≡ before.code → Meant nothing before after
still before after e = (
  λ code h. h.was_another (sym e ∙ h.is_after),
  λ h. false≢true (sym h.1 ∙ ap (λ x. bit x 6) e ∙ h.0),
)

-- awake with KEYB on
keys_meant : (r : ℕ) (k : Keys) → r ≤ none → Meant (keys_record r k) k (keyed r k)
keys_meant r k h = by_key (new_key r k) refl
  where
    M : Recording → Type 0
    M what = Meant what k (keyed r k)

    changed : new_key r k ≡ true → CodeChanged (code_of r) k (keyed r k)
    changed e =
        let n = new_key_lem r k e in
        let other = n.1 in
        record { address = r; is_address = below other; is_code = refl; is_after = pick_yes _ _ e; was_another = n.2 }
      where
        below : (r ≡ none → ⊥) → r < none
        below ne = omega arith

    by_release : (t : Bool) → (both_none r k && bit k.code 6) ≡ t → new_key r k ≡ false → M (keys_record r k)
    by_release true f e =
        let both = (and-eq-true_iff (both_none r k) (bit k.code 6)).0 f in
        subst M (sym (pick_no _ _ e ∙ pick_yes _ _ f))
        (both.1, ap (λ x. bit x 6) (pick_no _ _ e ∙ pick_yes _ _ both.0) ∙ released_bit k.code)
    by_release false f e =
        subst M (sym (pick_no _ _ e ∙ pick_no _ _ f))
        (still k (keyed r k) (pick_no _ _ e ∙ stays (both_none r k) f))
      where
        stays : (t : Bool) → (t && bit k.code 6) ≡ false → pick t (released k.code) k.code ≡ k.code
        stays true g = ap (λ t. k.code - 0x40 * bit_value t) g ∙ sub-zero k.code
        stays false g = refl

    by_key : (t : Bool) → new_key r k ≡ t → M (keys_record r k)
    by_key true e =
        subst M (sym (pick_yes _ _ e)) (pick_cases M k.interrupt (λ i. (changed e, i)) (λ i. (changed e, i)))
    by_key false e = by_release (both_none r k && bit k.code 6) refl e

pub meant : (r : ℕ) (c : Chip) → r ≤ none → Meant (recorded_by r c) c.keys (scanned_by r c).keys
meant r c h =
    by_scan (λ what d. Meant what c.keys d.keys) r c
    (still c.keys (scanned_asleep r c).keys (pick_cases (λ (x : Chip). x.keys.code ≡ c.keys.code) (wakes r) (λ e. refl) (λ e. refl)))
    (keys_meant r c.keys h)
    (still c.keys c.keys refl)

-- ---- no two of the four hold of the same scan

module _ (before after : Keys) where
  -- the code changed to one code only
  one_code : {code other : ℕ} → CodeChanged code before after → CodeChanged other before after → code ≡ other
  one_code p q = sym p.is_after ∙ q.is_after

  -- an interrupt stood or not
  one_level : before.interrupt ≡ false → before.interrupt ≡ true → ⊥
  one_level p q = false≢true (sym p ∙ q)

  -- 40H + an address has bit 6
  not_cleared : {code : ℕ} → CodeChanged code before after → BitCleared before after → ⊥
  not_cleared p q =
      false≢true (sym q.1 ∙ ap (λ x. bit x 6) (p.is_after ∙ p.is_code) ∙ key_bit p.address p.is_address)

  pub one_meaning : (v w : Recording) → Meant v before after → Meant w before after → v ≡ w
  one_meaning nothing nothing p q = refl
  one_meaning nothing (key_code code) p q = absurd (p.0 code q.0)
  one_meaning nothing (over_unread code) p q = absurd (p.0 code q.0)
  one_meaning nothing release_noted p q = absurd (p.1 q)
  one_meaning (key_code code) nothing p q = absurd (q.0 code p.0)
  one_meaning (key_code code) (key_code other) p q = ap key_code (one_code p.0 q.0)
  one_meaning (key_code code) (over_unread other) p q = absurd (one_level p.1 q.1)
  one_meaning (key_code code) release_noted p q = absurd (not_cleared p.0 q)
  one_meaning (over_unread code) nothing p q = absurd (q.0 code p.0)
  one_meaning (over_unread code) (key_code other) p q = absurd (one_level q.1 p.1)
  one_meaning (over_unread code) (over_unread other) p q = ap over_unread (one_code p.0 q.0)
  one_meaning (over_unread code) release_noted p q = absurd (not_cleared p.0 q)
  one_meaning release_noted nothing p q = absurd (q.1 p)
  one_meaning release_noted (key_code code) p q = absurd (not_cleared q.0 p)
  one_meaning release_noted (over_unread code) p q = absurd (not_cleared q.0 p)
  one_meaning release_noted release_noted p q = refl

-- ---- exactly

pub records_exactly : (bytes : List ℕ) (c : Chip) (what : Recording) → (recorded bytes c ≡ what) ↔ Meant what c.keys (scanned bytes c).keys
records_exactly bytes c what =
    let m = meant (result bytes) c (result_le bytes) in (
      λ e. subst (λ w. Meant w c.keys (scanned bytes c).keys) e m,
      λ w. one_meaning c.keys (scanned bytes c).keys (recorded bytes c) what m w,
    )

pub released_exactly : (bytes : List ℕ) (c : Chip)
    → (recorded bytes c ≡ release_noted) ↔ ((bit c.keys.code 6 ≡ true) × (bit (scanned bytes c).keys.code 6 ≡ false))
released_exactly bytes c = records_exactly bytes c release_noted

-- a code is recorded, over an unread one or not
module _ (bytes : List ℕ) (c : Chip) (code : ℕ) where
  -- what is recorded where a code is
  counted : (what : Recording) → is_key code what ≡ true → Meant what c.keys (scanned bytes c).keys → CodeChanged code c.keys (scanned bytes c).keys
  counted nothing e m = absurd (false≢true e)
  counted (key_code other) e m = subst (λ x. CodeChanged x c.keys (scanned bytes c).keys) (eqb-true other code e) m.0
  counted (over_unread other) e m = subst (λ x. CodeChanged x c.keys (scanned bytes c).keys) (eqb-true other code e) m.0
  counted release_noted e m = absurd (false≢true e)

  -- where the code changed to it, it is what is recorded
  counts : CodeChanged code c.keys (scanned bytes c).keys → (stood : Bool) → c.keys.interrupt ≡ stood → recorded bytes c ≡ code_taken stood code
  counts p true e = (records_exactly bytes c (over_unread code)).1 (p, e)
  counts p false e = (records_exactly bytes c (key_code code)).1 (p, e)

  pub code_exactly : (is_key code (recorded bytes c) ≡ true) ↔ CodeChanged code c.keys (scanned bytes c).keys
  code_exactly = (
    λ e. counted (recorded bytes c) e (meant (result bytes) c (result_le bytes)),
    λ p.
        ap (is_key code) (counts p c.keys.interrupt refl)
        ∙ code_taken_lem c.keys.interrupt code code
        ∙ eq-eqb code code refl,
  )

  pub overwritten_exactly : (recorded bytes c ≡ over_unread code) ↔ ((is_key code (recorded bytes c) ≡ true) × (c.keys.interrupt ≡ true))
  overwritten_exactly = (
    λ e. (ap (is_key code) e ∙ eq-eqb code code refl, ((records_exactly bytes c (over_unread code)).0 e).1),
    λ p. (records_exactly bytes c (over_unread code)).1 (code_exactly.0 p.0, p.1),
  )

-- ---- asleep

pub asleep_nothing : (bytes : List ℕ) (c : Chip) → c.settings.sleeping ≡ true → recorded bytes c ≡ nothing
unfolding recorded_by
asleep_nothing bytes c e = pick_no _ _ (ap (λ t. not t && c.settings.system.keyb) e)
