-- Laws of `pick`: a choice whose test is known is one of its sides, and what holds of both sides holds of the choice.
-- Assumes nothing.
use mathlib.Core.Path.{◌≡◌, refl, ap}
use mathlib.Core.Bool.{Bool, true, false}
use Rattle.base.specs.Pick.{pick}

pub pick_yes {ℓ} : {A : Type ℓ} (x y : A) {b : Bool} → b ≡ true → pick b x y ≡ x
pick_yes x y e = ap (λ t. pick t x y) e

pub pick_no {ℓ} : {A : Type ℓ} (x y : A) {b : Bool} → b ≡ false → pick b x y ≡ y
pick_no x y e = ap (λ t. pick t x y) e

-- a function of a choice is the choice of its values
pub pick_ap {ℓ κ} : {A : Type ℓ} {B : Type κ} (f : A → B) (b : Bool) (x y : A) → f (pick b x y) ≡ pick b (f x) (f y)
pick_ap f true x y = refl
pick_ap f false x y = refl

-- what holds where the test passes and where it fails
pub pick_cases {ℓ κ} : {A : Type ℓ} (P : A → Type κ) (b : Bool) {x y : A} → (b ≡ true → P x) → (b ≡ false → P y) → P (pick b x y)
pick_cases P true f g = f refl
pick_cases P false f g = g refl
