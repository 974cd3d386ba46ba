-- Arrays made by calls.
--     made_places      an array of what calls at each place gave
--     mapped           an array of what calls at each element gave
-- Assumes nothing.
use mathlib.Core.Path.{◌≡◌, sym, subst, ◌∙◌}
use mathlib.Core.List.{List, map}
use Prim.Native.Nat.{ℕ, zero, suc, ◌+◌, ◌<◌}
use native.Mathlib.Nat.{not-suc-le-zero}
use native.Mathlib.Omega.{arith}
use lib.ListN.{length, get_or, length-map}
use Rattle.std.proofs.Common.{add-zero, zero-add}
use denote.Param.Members.{Mut, Called}
use Rattle.std.specs.Array.{IsFromFnResult, IsFromFnResultFrom, IsMapOf}
use Rattle.std.proofs.lemmas.List.{same_lists, get_or-map}
use Rattle.zhaqsumir.proofs.Counts.{at_places, place_at, places_length}

module _ {F B : Type 0} (g : Mut F (ℕ × Unit {0}) B) (f : F) (ys : List B) (h : ℕ → B) where
  -- calls at the n places from i on, each of which leaves the function as it is
  each_made : (i n : ℕ) → IsFromFnResultFrom g f ys i n → ((j : ℕ) (y : B) (q : F) → j < i + n → Called g f (j, tt) y q → (q ≡ f) × (y ≡ h j))
      → (k : ℕ) (d : B) → k < n → get_or ys (i + k) d ≡ h (i + k)
  each_made i zero m call k d l = absurd (not-suc-le-zero l)
  each_made i (suc n) m call zero d l =
      subst (λ j. get_or ys j d ≡ h j) (sym (add-zero i)) (m.2.1 d ∙ (call i m.1 m.0 (omega arith) m.3).1)
  each_made i (suc n) m call (suc k) d l =
      let next : i + suc k ≡ i + 1 + k = omega arith in
      let rest = subst (λ p. IsFromFnResultFrom g p ys (i + 1) n) (call i m.1 m.0 (omega arith) m.3).0 m.4 in
      subst (λ j. get_or ys j d ≡ h j) (sym next) (each_made (i + 1) n rest (λ j y q b. call j y q (omega arith)) k d (omega arith))

pub made_places : {F B : Type 0} {g : Mut F (ℕ × Unit {0}) B} {f : F} {ys : List B} {n : ℕ} (h : ℕ → B) → IsFromFnResult g f ys n
    → ((j : ℕ) (y : B) (q : F) → j < n → Called g f (j, tt) y q → (q ≡ f) × (y ≡ h j)) → ys ≡ at_places h n
made_places {g = g} {f = f} {ys = ys} {n = n} h m call =
    same_lists ys (at_places h n) (m.long ∙ sym (places_length h n))
    (λ k d l.
    subst (λ i. get_or ys i d ≡ h i) (zero-add k) (each_made g f ys h 0 n m.each (λ j y q b. call j y q (omega arith)) k d (omega (arith, m.long)))
    ∙ sym (place_at h n k d (omega (arith, m.long))))

pub mapped : {F A B : Type 0} {g : Mut F (A × Unit {0}) B} {f : F} {xs : List A} {ys : List B} {n : ℕ} (h : A → B) (d : A) → IsMapOf g f xs ys n → length xs ≡ n
    → ((p : F) (x : A) (y : B) (q : F) → Called g p (x, tt) y q → y ≡ h x) → ys ≡ map h xs
mapped {xs = xs} {ys = ys} h d m size call =
    same_lists ys (map h xs) (m.long ∙ sym size ∙ sym (length-map xs h))
    (λ k e l.
    let at = m.at k d e (omega (arith, m.long)) in
    call at.0 (get_or xs k d) (get_or ys k e) at.1 at.2 ∙ sym (get_or-map h xs k d e (omega (arith, m.long))))
