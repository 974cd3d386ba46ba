-- The contracts of this crate's functions allow one outcome each (`AllowsOne` of specs/Unique), and the forms that contracts have.
--     same_answer      a contract `r ≡ x`
--     same_telling     a contract `tells r ≡ x`, where what is told gives the answer back
--     same_result      two answers that tell the same are the same
--     same_told        a contract `tells r ≡ x` of an answer
--     same_handed      a contract `handed r ≡ x` of a value handed back and an answer
-- Assumes nothing.
use mathlib.Core.Path.{◌≡◌, refl, ap, sym, ◌∙◌}
use Rattle.base.specs.Refusals.{Told, done, refused, tells, Outcome, handed}
use Rattle.base.specs.declared.Handed.{Handed}
use Rattle.base.specs.Unique.{AllowsOne}
use Rattle.base.proofs.Refusals.{refusal_of, refusal_back}
use Rattle.base.proofs.field
use Rattle.base.proofs.number
use Rattle.base.proofs.place
use Rattle.base.proofs.checked
use Rattle.base.proofs.bit_value
use Rattle.std.specs.declared.result.Result.{Result}
use Rattle.std.specs.declared.result.Result.TheVariants.{Ok, Err}
use Rattle.base.specs.declared.Refusal.{Refusal}

-- a contract `r ≡ x`
pub same_answer {ℓ} : {A : Type ℓ} {x r s : A} → r ≡ x → s ≡ x → r ≡ s
same_answer p q = p ∙ sym q

-- a contract `tells r ≡ x`, where what is told gives the answer back
pub same_telling {ℓ κ} : {A : Type ℓ} {X : Type κ} (tells : A → X) (back : X → A) → ((r : A) → back (tells r) ≡ r)
    → {x : X} (r s : A) → tells r ≡ x → tells s ≡ x → r ≡ s
same_telling tells back e r s p q = sym (e r) ∙ ap back (same_answer p q) ∙ e s

answered : {A : Type 0} → Told A → Result A Refusal
answered (done a) = Ok a
answered (refused number place) = Err (refusal_of number place)

answered_back : {A : Type 0} (r : Result A Refusal) → answered (tells r) ≡ r
unfolding answered
answered_back (Ok a) = refl
answered_back (Err e) = ap Err (refusal_back e)

-- two answers that tell the same are the same
pub same_result : {A : Type 0} {r s : Result A Refusal} → tells r ≡ tells s → r ≡ s
same_result {r = r} {s = s} e = sym (answered_back r) ∙ ap answered e ∙ answered_back s

-- a contract `tells r ≡ x`
pub same_told : {A : Type 0} {x : Told A} {r s : Result A Refusal} → tells r ≡ x → tells s ≡ x → r ≡ s
same_told p q = same_result (same_answer p q)

-- a contract `handed r ≡ x`
pub same_handed : {S A : Type 0} {x : Outcome S A} {r s : Handed S A} → handed r ≡ x → handed s ≡ x → r ≡ s
same_handed {r = r} {s = s} p q =
    let e = same_answer p q in
    λ i. record { value = ap (λ o. o.state) e i; answer = same_result {r = r.answer} {s = s.answer} (ap (λ o. o.told) e) i }

-- ---- the functions

pub field_unique : AllowsOne field.Kinds.ps field.Kinds.r field.Reads.Learnt
field_unique κs a x y last last' p q = (same_answer p q, refl)

pub bit_value_unique : AllowsOne bit_value.Kinds.ps bit_value.Kinds.r bit_value.Reads.Learnt
bit_value_unique κs a x y last last' p q = (same_answer p q, refl)

pub number_unique : AllowsOne number.Kinds.ps number.Kinds.r number.Reads.Learnt
number_unique κs a x y last last' p q = (same_answer p q, refl)

pub place_unique : AllowsOne place.Kinds.ps place.Kinds.r place.Reads.Learnt
place_unique κs a x y last last' p q = (same_answer p q, refl)

pub checked_unique : AllowsOne checked.Kinds.ps checked.Kinds.r checked.Reads.Learnt
checked_unique κs a x y last last' p q = (same_told p q, refl)
