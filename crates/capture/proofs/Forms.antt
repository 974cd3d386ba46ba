-- The forms of a line's bytes, as `form_of` tells them apart.
--     samples_good      samples that pass their test
--     form_at           the form, by the first two bytes and how many there are
--     read_front        what is read doesn't look at the first byte
--     form_long         too many bytes for any form
-- Assumes nothing.
use mathlib.Core.Path.{◌≡◌, refl}
use mathlib.Core.Bool.{◌&&◌}
use mathlib.Core.List.{List, [], ◌∷◌}
use Prim.Native.Nat.{ℕ, ◌≤◌, ◌<◌}
use native.Mathlib.Omega.{arith}
use lib.Dec.{eqb, leb, ltb}
use lib.ListN.{length, get_or, drop}
use Rattle.base.specs.Pick.{pick}
use Rattle.base.specs.Refusals.{done}
use Rattle.chain.specs.Chain.{checked_from}
use Rattle.capture.specs.Frames.{samples, scan, other, samples_form, form_of, read_as}
use Rattle.capture.specs.declared.frames.Form.{Form as Reading}
use Rattle.capture.specs.declared.frames.Form.TheVariants as Readings

pub samples_good : (ss : List ℕ) → 1 ≤ length ss → length ss ≤ 32 → checked_from 0 ss ≡ done tt → samples_form ss ≡ samples ss
samples_good ss few many e = grind arith

pub form_at : (n : ℕ) (bytes : List ℕ)
    → form_of n bytes ≡ pick (eqb (length bytes) 0) other (pick (eqb (get_or bytes 0 0) 0x01) (samples_form (drop 1 bytes)) (pick (eqb (get_or bytes 0 0) 0x02 && leb 2 (length bytes)) (pick (ltb (get_or bytes 1 0) n && eqb (length (drop 2 bytes)) 8) (scan (get_or bytes 1 0) (drop 2 bytes)) other) other))
unfolding form_of
form_at n [] = refl
form_at n (kind ∷ []) = grind arith
form_at n (kind ∷ k ∷ bytes) = grind arith

pub read_front : (r : Reading) (kind : ℕ) (bytes : List ℕ) → read_as r (kind ∷ drop 1 bytes) ≡ read_as r bytes
read_front Readings.Samples kind bytes = refl
read_front Readings.Scan kind [] = refl
read_front Readings.Scan kind (x ∷ bytes) = refl
read_front Readings.Other kind bytes = refl

pub form_long : (n : ℕ) (bytes : List ℕ) → 33 < length bytes → form_of n bytes ≡ other
form_long n bytes h = grind (arith, form_at)
