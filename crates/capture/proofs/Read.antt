-- What a caller of `form_of` knows by its answer, of the bytes given and of an array that holds them at its front.
--     next_of, front_so                the front of a list, by its places
--     front_rest                      the front without its first
--     samples_read, samples_long      samples: the form, and how many bytes there are
--     scan_read, scan_bounds          a scan: the form, how many bytes there are, and the chip is below N
--     other_read                      of no form
--     held_some, held_samples         the bytes at an array's front: samples, and that there are two bytes at least
--     held_scan, held_below           a scan, by places of the array, and the chip is below N
-- Assumes nothing.
use mathlib.Core.Path.{◌≡◌, refl, ap, ap₂, sym, subst, ◌∙◌}
use mathlib.Core.Bool.{◌&&◌}
use mathlib.Core.List.{List, [], ◌∷◌}
use Prim.Native.Nat.{ℕ, zero, suc, ◌-◌, ◌≤◌, ◌<◌}
use native.Mathlib.Omega.{arith}
use borrow.Author.Tests.{leb-true, ltb-true, eqb-true}
use lib.Dec.{T, eqb, leb, ltb}
use lib.ListN.{length, get_or, take, drop}
use lib.Seq.{length-take-le, take-nil, get_or-take}
use Rattle.std.proofs.lemmas.List.{drop-take}
use Rattle.base.specs.Refusals.{Told, done, refused}
use Rattle.base.proofs.Picks.{pick_cases}
use Rattle.base.proofs.Tests.{is_true, and_left, and_right}
use Rattle.chain.specs.Chain.{checked_from}
use Rattle.capture.specs.declared.frames.Form.{Form as Reading}
use Rattle.capture.specs.declared.frames.Form.TheVariants as Readings
use Rattle.capture.specs.Frames.{Form, samples, scan, other, samples_by, scan_form, form_of, read_as}

-- ---- how many bytes a form has

-- of so many bytes, whose second is the chip
Bounds : ℕ → List ℕ → Form → Type 0
Bounds n bytes (samples ss) = (2 ≤ length bytes) × (length bytes ≤ 33)
Bounds n bytes (scan k eight) = (length bytes ≡ 10) × (get_or bytes 1 0 < n)
Bounds n bytes other = Unit {0}

samples_bounds : (n kind : ℕ) (ss : List ℕ) (t : Told (Unit {0})) → 1 ≤ length ss → length ss ≤ 32 → Bounds n (kind ∷ ss) (samples_by t ss)
unfolding Bounds
samples_bounds n kind ss (done u) few many = (omega arith, omega arith)
samples_bounds n kind ss (refused number place) few many = tt

after_bounds : (n kind : ℕ) (rest : List ℕ) → Bounds n (kind ∷ rest) (scan_form n rest)
unfolding Bounds
after_bounds n kind [] = tt
after_bounds n kind (k ∷ bytes) =
    pick_cases (Bounds n (kind ∷ k ∷ bytes)) (ltb k n && eqb (length bytes) 8)
    (λ e.
    let both : T (ltb k n && eqb (length bytes) 8) = subst T (sym e) tt in
    let eight = eqb-true (length bytes) 8 (is_true _ (and_right (ltb k n) (eqb (length bytes) 8) both)) in
    (omega arith, ltb-true k n (is_true _ (and_left (ltb k n) (eqb (length bytes) 8) both))))
    (λ _. tt)

form_bounds : (n : ℕ) (bytes : List ℕ) → Bounds n bytes (form_of n bytes)
unfolding form_of Bounds
form_bounds n [] = tt
form_bounds n (kind ∷ rest) =
    pick_cases (Bounds n (kind ∷ rest)) (eqb kind 0x01)
    (λ _. pick_cases (Bounds n (kind ∷ rest)) (leb 1 (length rest) && leb (length rest) 32)
    (λ e.
    let both : T (leb 1 (length rest) && leb (length rest) 32) = subst T (sym e) tt in
    let few = leb-true 1 (length rest) (is_true _ (and_left (leb 1 (length rest)) (leb (length rest) 32) both)) in
    let many = leb-true (length rest) 32 (is_true _ (and_right (leb 1 (length rest)) (leb (length rest) 32) both)) in
    samples_bounds n kind rest (checked_from 0 rest) few many)
    (λ _. tt))
    (λ _. pick_cases (Bounds n (kind ∷ rest)) (eqb kind 0x02) (λ _. after_bounds n kind rest) (λ _. tt))

-- ---- by the answer

module _ (n : ℕ) (bytes : List ℕ) (r : Reading) (reads : read_as r bytes ≡ form_of n bytes) where
  read_so : {like : Reading} → r ≡ like → form_of n bytes ≡ read_as like bytes
  read_so e = sym reads ∙ ap (λ x. read_as x bytes) e

  pub samples_read : r ≡ Readings.Samples → form_of n bytes ≡ samples (drop 1 bytes)
  samples_read = read_so

  pub scan_read : r ≡ Readings.Scan → form_of n bytes ≡ scan (get_or bytes 1 0) (drop 2 bytes)
  scan_read = read_so

  pub other_read : r ≡ Readings.Other → form_of n bytes ≡ other
  other_read = read_so

  pub samples_long : r ≡ Readings.Samples → (2 ≤ length bytes) × (length bytes ≤ 33)
  unfolding Bounds
  samples_long e = subst (Bounds n bytes) (samples_read e) (form_bounds n bytes)

  pub scan_bounds : r ≡ Readings.Scan → (length bytes ≡ 10) × (get_or bytes 1 0 < n)
  unfolding Bounds
  scan_bounds e = subst (Bounds n bytes) (scan_read e) (form_bounds n bytes)

-- ---- an array that holds them at its front

pub front_rest : (fb : List ℕ) (count : ℕ) → 1 ≤ count → drop 1 (take count fb) ≡ take (count - 1) (drop 1 fb)
front_rest fb zero h = absurd (omega arith)
front_rest [] (suc count) h = sym (take-nil (suc count - 1))
front_rest (x ∷ fb) (suc count) h =
    let same : count ≡ suc count - 1 = omega arith in
    ap (λ m. take m fb) same

-- the next so many, by their places
unfoldable pub next_of : List ℕ → ℕ → ℕ → List ℕ
next_of xs i zero = []
next_of xs i (suc more) = get_or xs i 0 ∷ next_of xs (suc i) more

next_tail : (x : ℕ) (xs : List ℕ) (i more : ℕ) → next_of (x ∷ xs) (suc i) more ≡ next_of xs i more
unfolding next_of
next_tail x xs i zero = refl
next_tail x xs i (suc more) = ap (λ r. get_or xs i 0 ∷ r) (next_tail x xs (suc i) more)

pub front_so : (xs : List ℕ) (count : ℕ) → count ≤ length xs → take count xs ≡ next_of xs 0 count
unfolding next_of
front_so xs zero h = refl
front_so [] (suc count) h = absurd (omega arith)
front_so (x ∷ xs) (suc count) h = ap (λ r. x ∷ r) (front_so xs count (omega arith) ∙ sym (next_tail x xs 0 count))

module _ (n : ℕ) (fb : List ℕ) (count : ℕ) (r : Reading) (high : count ≤ length fb) (reads : read_as r (take count fb) ≡ form_of n (take count fb)) where
  front_length : length (take count fb) ≡ count
  front_length = length-take-le count fb high

  pub held_some : r ≡ Readings.Samples → 2 ≤ count
  held_some e = omega (arith, front_length, samples_long n (take count fb) r reads e)

  pub held_samples : r ≡ Readings.Samples → form_of n (take count fb) ≡ samples (take (count - 1) (drop 1 fb))
  held_samples e = let some = held_some e in samples_read n (take count fb) r reads e ∙ ap samples (front_rest fb count (omega arith))

  pub held_scan : r ≡ Readings.Scan → form_of n (take count fb) ≡ scan (get_or fb 1 0) (take 8 (drop 2 fb))
  held_scan e =
      let ten : count ≡ 10 = omega (arith, front_length, scan_bounds n (take count fb) r reads e) in
      scan_read n (take count fb) r reads e ∙ rw ten (ap₂ scan (get_or-take 10 fb 1 0 (omega arith)) (drop-take 2 8 fb))

  pub held_below : r ≡ Readings.Scan → get_or fb 1 0 < n
  held_below e = grind (arith, get_or-take, front_length, scan_bounds n (take count fb) r reads e)
