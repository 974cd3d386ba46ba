-- An entry that tests row by row keeps to its table.
--     ByTable, by_table      a table kept to row by row is kept to
--     tested                 one test more
--     stays, goes_on         a table, and then another
--     told_by, told_by_two   what a choice between outcomes tells
--     done_done              the answer doesn't matter
-- Assumes nothing.
use mathlib.Core.Path.{◌≡◌, refl, ap₂, subst, ◌∙◌}
use mathlib.Core.Bool.{Bool, true, false, not}
use mathlib.Core.Logic.{◌⊎◌, inl, inr}
use mathlib.Core.List.{List, [], ◌∷◌, ◌++◌}
use Prim.Native.Nat.{ℕ}
use Rattle.base.specs.Pick.{pick}
use Rattle.base.specs.Refusals.{Told, IsDone, done, refused, Outcome}
use Rattle.demands.specs.Exact.{Row, names, None, First, Exactly}
use Rattle.demands.proofs.Conditions.{Tests, passed, failed, neither}

-- ---- row by row

-- what is told is the first row that is given, or an answer where none is
pub data ByTable {A : Type 0} (t : Told A) : List Row → Type 1 where
  answered : IsDone t → ByTable t []
  here : {r : Row} {rows : List Row} → r.given → t ≡ refused r.number r.place → ByTable t (r ∷ rows)
  later : {r : Row} {rows : List Row} → (r.given → ⊥) → ByTable t rows → ByTable t (r ∷ rows)

module _ {A : Type 0} {t : Told A} where
  to_first : {rows : List Row} (m p : ℕ) → ByTable t rows → t ≡ refused m p → First rows m p
  to_first m p (answered d) e = subst IsDone e d
  to_first m p (here g f) e = inl (g, (cc), (cc))
  to_first m p (later n y) e = inr (n, to_first m p y e)

  from_first : {rows : List Row} (m p : ℕ) → ByTable t rows → First rows m p → t ≡ refused m p
  from_first m p (answered d) f = absurd f
  from_first m p (here g e) (inl f) = e ∙ ap₂ refused f.1 f.2
  from_first m p (here g e) (inr f) = absurd (f.0 g)
  from_first m p (later n y) (inl f) = absurd (n f.0)
  from_first m p (later n y) (inr f) = from_first m p y f.1

  to_none : {rows : List Row} → ByTable t rows → IsDone t → None rows
  to_none (answered d) e = tt
  to_none (here g f) e = absurd (subst IsDone f e)
  to_none (later n y) e = (n, to_none y e)

  from_none : {rows : List Row} → ByTable t rows → None rows → IsDone t
  from_none (answered d) e = d
  from_none (here g f) e = absurd (e.0 g)
  from_none (later n y) e = from_none y e.1

  pub by_table : {rows : List Row} → ByTable t rows → Exactly t rows
  by_table y = record { refusal = λ m p. (to_first m p y, from_first m p y); answer = (to_none y, from_none y) }

-- ---- one test more

-- what is told where a test is passed, or the refusal whose row the test is about
pub tested : {A : Type 0} {r : Row} {rows : List Row} {b : Bool} (x : Told A) → Tests r.given b → ByTable x rows
    → ByTable (pick b x (refused r.number r.place)) (r ∷ rows)
tested x (failed g) next = here g refl
tested x (passed n) next = later n next

-- two tests of one row
pub tested_twice : {A : Type 0} {m p : ℕ} {G H : Type 0} {rows : List Row} {a b : Bool} (x : Told A) → Tests G a → Tests H b → ByTable x rows
    → ByTable (pick a (pick b x (refused m p)) (refused m p)) (names m p (G ⊎ H) ∷ rows)
tested_twice x (failed g) t next = here (inl g) refl
tested_twice x (passed n) (failed h) next = here (inr h) refl
tested_twice x (passed n) (passed k) next = later (neither n k) next

-- a test the other way round: it is passed where the refusal is given
pub tested_not : {A : Type 0} {m p : ℕ} {G : Type 0} {rows : List Row} (b : Bool) (x : Told A) → Tests G (not b) → ByTable x rows
    → ByTable (pick b (refused m p) x) (names m p G ∷ rows)
tested_not true x (failed g) next = here g refl
tested_not false x (passed n) next = later n next

-- what a choice tells
pub told_by : {S A : Type 0} (b : Bool) (x y : Outcome S A) {rows : List Row} → ByTable (pick b x.told y.told) rows → ByTable (pick b x y).told rows
told_by true x y t = t
told_by false x y t = t

pub told_by_two : {S A : Type 0} (a b : Bool) (x y z : Outcome S A) {rows : List Row} → ByTable (pick a (pick b x.told y.told) z.told) rows
    → ByTable (pick a (pick b x y) z).told rows
told_by_two true true x y z t = t
told_by_two true false x y z t = t
told_by_two false b x y z t = t

-- ---- a table, and then another

pub stays : {A B : Type 0} {m p : ℕ} {rows : List Row} (more : List Row) → ByTable {A = A} (refused m p) rows → ByTable {A = B} (refused m p) (rows ++ more)
stays more (answered d) = absurd d
stays {m = m} {p = p} more (here {r = r} g f) =
    let e : m ≡ r.number = cc in
    let h : p ≡ r.place = cc in
    here g (ap₂ refused e h)
stays more (later n y) = later n (stays more y)

pub goes_on : {A B : Type 0} {u : A} {t : Told B} {rows more : List Row} → ByTable (done u) rows → ByTable t more → ByTable t (rows ++ more)
goes_on (answered d) z = z
goes_on (here g f) z = absurd (subst IsDone f tt)
goes_on (later n y) z = later n (goes_on y z)

-- the answer doesn't matter
pub done_done : {A B : Type 0} {u : A} (v : B) {rows : List Row} → ByTable (done u) rows → ByTable (done v) rows
done_done v (answered d) = answered tt
done_done v (here g f) = absurd (subst IsDone f tt)
done_done v (later n y) = later n (done_done v y)
