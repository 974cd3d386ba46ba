-- The first demand, the exact table of refusals: the form of an entry's table of refusals, and what it is for an entry to keep to it.
--     Row                  a refusal's number, the place that it names, and when it is given
--     names, row, each     how the rows of a table are written down
--     None, Gives, First   no row is given; a row that is given; the first that is
--     Exactly              what an entry tells is what its table says
--     SaysExactly          an answer of the library for C says what its table says
--     NoneOf               no row has a number
-- Assumes nothing.
use Rattle.std.specs.Prelude.{◌≡◌, ◌⊎◌, ◌↔◌, List, [], ◌∷◌, ◌++◌, ℕ, suc, get_or}
use Rattle.base.specs.Refusals.{Told, refused, IsDone}

-- a row of an entry's table: a refusal's number, the place that it names, and when it is given
pub record Row : Type 1 where
  pub number : ℕ
  pub place : ℕ
  pub given : Type 0

-- a refusal that names a place
abbrev pub names : ℕ → ℕ → Type 0 → Row
names number place given = record { number = number; place = place; given = given }

-- a refusal that names none, which is told as 0
abbrev pub row : ℕ → Type 0 → Row
row number given = names number 0 given

-- the rows of each element of a list, from the first on, by its place
abbrev pub each {ℓ} : {X : Type ℓ} → (ℕ → X → List Row) → ℕ → List X → List Row
each rows place [] = []
each rows place (x ∷ xs) = rows place x ++ each rows (suc place) xs

-- no row is given
abbrev pub None : List Row → Type 0
None [] = Unit {0}
None (r ∷ rows) = (r.given → ⊥) × None rows

-- a row is given, with this number and this place
abbrev pub Gives : Row → ℕ → ℕ → Type 0
Gives r number place = r.given × (r.number ≡ number) × (r.place ≡ place)

-- the first row that is given has this number and names this place
abbrev pub First : List Row → ℕ → ℕ → Type 0
First [] number place = ⊥
First (r ∷ rows) number place = Gives r number place ⊎ ((r.given → ⊥) × First rows number place)

-- each refusal is told exactly when it is the first of the table that is given, and an answer exactly when none is
pub record Exactly {A : Type 0} (told : Told A) (rows : List Row) : Type 0 where
  pub refusal : (number place : ℕ) → (told ≡ refused number place) ↔ First rows number place
  pub answer : IsDone told ↔ None rows

-- the same of an answer by numbers: its first two are a refusal's number and place exactly when that is the first row that is given,
-- and its first is 0 exactly when none is
pub record SaysExactly (answer : List ℕ) (rows : List Row) : Type 0 where
  pub refusal : (number place : ℕ) → ((get_or answer 0 0 ≡ suc number) × (get_or answer 1 0 ≡ place)) ↔ First rows (suc number) place
  pub answered : (get_or answer 0 0 ≡ 0) ↔ None rows

-- no row has this number
abbrev pub NoneOf : ℕ → List Row → Type 0
NoneOf number [] = Unit {0}
NoneOf number (r ∷ rows) = (r.number ≡ number → ⊥) × NoneOf number rows
