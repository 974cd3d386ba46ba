-- What one scan, or two alike, does to a chip that takes scans.
--     by_scan             what holds of a scan and its record asleep, awake with KEYB on and awake with KEYB off holds of every scan
--     scanned_on          a scan of a chip awake with KEYB on changes its key record alone
--     new_key_lem             what a new key is
--     code_taken_lem          a code that is recorded counts as recorded, over an unread one or not
--     recorded_new        a scan that records a code found the chip awake with KEYB on, and a new key
--     not_recorded        no new key: no code is recorded
--     keyed_code          no new key and no second empty scan: the code stays
--     scanned_code        so it does whether or not the chip is awake and KEYB on
--     held_not_new        a key whose code is held is no new key
--     none_not_new        an empty scan is no new key
--     address_not_none    a scan whose result is an address is no second empty one
--     last_not_none       so is any scan after an address
--     two_scans           two scans of a chip awake with KEYB on
--     keyed_twice         a key in two scans is held
--     released_twice      two empty scans after an address release the key
-- Assumes nothing.
use mathlib.Core.Path.{◌≡◌, refl, ap, sym, ◌∙◌}
use mathlib.Core.Bool.{Bool, true, false, not, ◌&&◌, false≢true, and-false, and-eq-true_iff}
use Prim.Native.Nat.{ℕ, ◌<◌}
use native.Mathlib.Omega.{arith}
use lib.Dec.{eqb}
use borrow.Author.Tests.{eq-eqb, ne_eqb, eqb-true, eqb-false, not-true}
use Rattle.base.specs.Bits.{bit}
use Rattle.base.specs.Pick.{pick}
use Rattle.base.proofs.Picks.{pick_yes, pick_no, pick_cases}
use Rattle.chip.specs.declared.Chip.{Chip}
use Rattle.chip.specs.declared.Keys.{Keys}
use Rattle.chip.specs.Record.{none, with_keys}
use Rattle.chip.specs.Scans.{code_of, released, new_key, both_none, keyed, wakes, scanned_asleep, scanned_by, Recording, nothing, code_taken, keys_record, recorded_by}
use Rattle.chip.specs.History.{is_key}

-- the second test failed
and_no : (a b : Bool) → b ≡ false → (a && b) ≡ false
and_no true b e = e
and_no false b e = refl

-- asleep; awake with KEYB on; awake with KEYB off
pub by_scan : (P : Recording → Chip → Type 0) (r : ℕ) (c : Chip) → P nothing (scanned_asleep r c)
    → P (keys_record r c.keys) (with_keys (keyed r c.keys) c)
    → P nothing c
    → P (recorded_by r c) (scanned_by r c)
unfolding scanned_by recorded_by
by_scan P r c asleep on off = go c.settings.sleeping c.settings.system.keyb
  where
    go : (sleeping keyb : Bool)
        → P (pick (not sleeping && keyb) (keys_record r c.keys) nothing) (pick sleeping (scanned_asleep r c) (pick keyb (with_keys (keyed r c.keys) c) c))
    go true keyb = asleep
    go false true = on
    go false false = off

-- awake with KEYB on
pub scanned_on : (r : ℕ) (c : Chip) → c.settings.sleeping ≡ false → c.settings.system.keyb ≡ true → scanned_by r c ≡ with_keys (keyed r c.keys) c
unfolding scanned_by
scanned_on r c w k = pick_no _ _ w ∙ pick_yes _ _ k

-- a new key is an address, in this scan and the last, and another than the one whose code is held
pub new_key_lem : (r : ℕ) (k : Keys) → new_key r k ≡ true → (r ≡ k.last) × (r ≡ none → ⊥) × (k.code ≡ code_of r → ⊥)
new_key_lem r k e =
    let p = (and-eq-true_iff (eqb r k.last && not (eqb r none)) (not (eqb k.code (code_of r)))).0 e in
    let q = (and-eq-true_iff (eqb r k.last) (not (eqb r none))).0 p.0 in
    (eqb-true r k.last q.0, eqb-false r none (not-true (eqb r none) q.1), eqb-false k.code (code_of r) (not-true (eqb k.code (code_of r)) p.1))

-- a code that is recorded counts as recorded, over an unread one or not
pub code_taken_lem : (stood : Bool) (code other : ℕ) → is_key other (code_taken stood code) ≡ eqb code other
code_taken_lem stood code other = pick_cases (λ (what : Recording). is_key other what ≡ eqb code other) stood (λ e. refl) (λ e. refl)

-- what is recorded where no new key is found counts for no code
no_code : (code r : ℕ) (k : Keys) → new_key r k ≡ false → is_key code (keys_record r k) ≡ false
no_code code r k n =
    ap (is_key code) (pick_no _ _ n)
    ∙ pick_cases (λ (what : Recording). is_key code what ≡ false) (both_none r k && bit k.code 6) (λ e. refl) (λ e. refl)

-- a scan that records a code found the chip awake with KEYB on, and a new key of that code
pub recorded_new : (code r : ℕ) (c : Chip) → is_key code (recorded_by r c) ≡ true
    → (c.settings.sleeping ≡ false) × (c.settings.system.keyb ≡ true) × (new_key r c.keys ≡ true) × (code_of r ≡ code)
unfolding recorded_by
recorded_new code r c =
    pick_cases (λ (what : Recording). is_key code what ≡ true → (c.settings.sleeping ≡ false) × (c.settings.system.keyb ≡ true) × (new_key r c.keys ≡ true) × (code_of r ≡ code))
    (not c.settings.sleeping && c.settings.system.keyb)
    (λ t e.
    let on = (and-eq-true_iff (not c.settings.sleeping) c.settings.system.keyb).0 t in
    let new = found (new_key r c.keys) refl e in
    (not-true c.settings.sleeping on.0, on.1, new.0, new.1))
    (λ t e. absurd (false≢true e))
  where
    found : (b : Bool) → new_key r c.keys ≡ b → is_key code (keys_record r c.keys) ≡ true → (b ≡ true) × (code_of r ≡ code)
    found true n e =
        (refl, eqb-true (code_of r) code (sym (ap (is_key code) (pick_yes _ _ n) ∙ code_taken_lem c.keys.interrupt (code_of r) code) ∙ e))
    found false n e = absurd (false≢true (sym (no_code code r c.keys n) ∙ e))

-- no new key: no code is recorded
pub not_recorded : (code r : ℕ) (c : Chip) → new_key r c.keys ≡ false → is_key code (recorded_by r c) ≡ false
unfolding recorded_by
not_recorded code r c n =
    pick_cases (λ (what : Recording). is_key code what ≡ false) (not c.settings.sleeping && c.settings.system.keyb) (λ t. no_code code r c.keys n) (λ t. refl)

-- no new key and no second empty scan: the code stays
pub keyed_code : (r : ℕ) (k : Keys) → new_key r k ≡ false → both_none r k ≡ false → (keyed r k).code ≡ k.code
keyed_code r k n b = pick_no _ _ n ∙ pick_no _ _ b

-- so it does whether or not the chip is awake and KEYB on
pub scanned_code : (r : ℕ) (c : Chip) → new_key r c.keys ≡ false → both_none r c.keys ≡ false → (scanned_by r c).keys.code ≡ c.keys.code
unfolding scanned_by
scanned_code r c n b =
    pick_cases Same c.settings.sleeping (λ e. pick_cases Same (wakes r) (λ f. refl) (λ f. refl))
    (λ e. pick_cases Same c.settings.system.keyb (λ f. keyed_code r c.keys n b) (λ f. refl))
  where
    Same : Chip → Type 0
    Same x = x.keys.code ≡ c.keys.code

-- a code that is held is no new key
pub held_not_new : (r : ℕ) (k : Keys) → k.code ≡ code_of r → new_key r k ≡ false
held_not_new r k e = and_no (eqb r k.last && not (eqb r none)) (not (eqb k.code (code_of r))) (ap not (eq-eqb k.code (code_of r) e))

-- an address isn't none
pub address_not_none : (r : ℕ) (k : Keys) → r < none → both_none r k ≡ false
address_not_none r k h = ap (λ t. t && eqb k.last none) (ne_eqb r none (omega arith))

-- after an address no scan is a second empty one
pub last_not_none : (r : ℕ) (k : Keys) → (k.last ≡ none → ⊥) → both_none r k ≡ false
last_not_none r k n = and_no (eqb r none) (eqb k.last none) (ne_eqb k.last none n)

-- an empty scan is no new key
pub none_not_new : (k : Keys) → new_key none k ≡ false
none_not_new k = ap (λ t. t && not (eqb k.code (code_of none))) (and-false (eqb none k.last))

-- a key in two scans is held
pub keyed_twice : (r : ℕ) (k : Keys) → r < none → (keyed r (keyed r k)).code ≡ code_of r
keyed_twice r k h = by_test (eqb (keyed r k).code (code_of r)) refl
  where
    new : {a b c : Bool} → a ≡ true → b ≡ false → c ≡ false → (a && not b && not c) ≡ true
    new p q s j = p j && not (q j) && not (s j)

    by_test : (t : Bool) → eqb (keyed r k).code (code_of r) ≡ t → (keyed r (keyed r k)).code ≡ code_of r
    by_test true e =
        let same = eqb-true (keyed r k).code (code_of r) e in
        keyed_code r (keyed r k) (held_not_new r (keyed r k) same) (address_not_none r (keyed r k) h) ∙ same
    by_test false e = pick_yes _ _ (new (eq-eqb r r refl) (ne_eqb r none (omega arith)) e)

-- two empty scans after an address release the key
pub released_twice : (k : Keys) → (k.last ≡ none → ⊥) → (keyed none (keyed none k)).code ≡ released k.code
released_twice k n =
    pick_no (code_of none) (released (keyed none k).code) (none_not_new (keyed none k))
    ∙ ap released (keyed_code none k (none_not_new k) (last_not_none none k n))

-- two scans of a chip awake with KEYB on
pub two_scans : (r s : ℕ) (c : Chip) → c.settings.sleeping ≡ false → c.settings.system.keyb ≡ true
    → scanned_by s (scanned_by r c) ≡ with_keys (keyed s (keyed r c.keys)) c
two_scans r s c w k = ap (scanned_by s) (scanned_on r c w k) ∙ scanned_on s (with_keys (keyed r c.keys) c) w k
