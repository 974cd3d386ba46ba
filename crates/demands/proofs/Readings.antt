-- What keeping to a table says of one row, and of rows for each element of a list.
--     of_contract      a result that a contract allows keeps to the table
--     none_first       a number that no row has is never told
--     row_exactly      a refusal is told exactly when its row is given and no row before it is
--     each_exactly     of rows for each element of a list: the first element with a row that is given
--     none_exactly     and none of them
--     after_one        after a row of another number
--     lowest_exactly   of one row for each element: the lowest place with one that is given
-- Assumes nothing.
use mathlib.Core.Path.{◌≡◌, refl, sym, subst}
use mathlib.Core.Logic.{◌⊎◌, inl, inr, ⊎_elim, ◌↔◌}
use mathlib.Core.List.{List, [], ◌∷◌, ◌++◌}
use Prim.Native.Nat.{ℕ, zero, suc, ◌+◌, ◌<◌, suc-le-suc}
use native.Mathlib.Nat.{le_of_suc-le-suc, not-suc-le-zero, zero-lt-suc}
use native.Mathlib.Omega.{arith}
use lib.ListN.{length, get_or}
use Rattle.base.specs.Refusals.{Told, refused}
use Rattle.demands.specs.Exact.{Row, names, each, None, Gives, First, Exactly, NoneOf}

-- ---- a result

-- an entry's result tells what its contract says, and so keeps to the table
pub of_contract : {A : Type 0} {t u : Told A} {rows : List Row} → t ≡ u → Exactly u rows → Exactly t rows
of_contract {rows = rows} e y = subst (λ x. Exactly x rows) (sym e) y

-- ---- one row

pub none_first : (rows : List Row) (m p : ℕ) → NoneOf m rows → First rows m p → ⊥
none_first [] m p n f = f
none_first (r ∷ rows) m p n (inl f) = n.0 f.1
none_first (r ∷ rows) m p n (inr f) = none_first rows m p n.1 f.1

first_one : (before : List Row) (r : Row) (after : List Row) (m p : ℕ) → NoneOf m before → NoneOf m after
    → First (before ++ r ∷ after) m p
    → None before × Gives r m p
first_one [] r after m p b a (inl f) = (tt, f)
first_one [] r after m p b a (inr f) = absurd (none_first after m p a f.1)
first_one (q ∷ before) r after m p b a (inl f) = absurd (b.0 f.1)
first_one (q ∷ before) r after m p b a (inr f) =
    let g = first_one before r after m p b.1 a f.1 in
    ((f.0, g.0), g.1)

one_first : (before : List Row) (r : Row) (after : List Row) (m p : ℕ) → None before → Gives r m p → First (before ++ r ∷ after) m p
one_first [] r after m p n g = inl g
one_first (q ∷ before) r after m p n g = inr (n.0, one_first before r after m p n.1 g)

-- of a number that one row alone has: it is told exactly when that row is given and no row before it is
pub row_exactly : {A : Type 0} {t : Told A} (before : List Row) (r : Row) (after : List Row) → Exactly t (before ++ r ∷ after)
    → (number place : ℕ) → NoneOf number before → NoneOf number after
    → (t ≡ refused number place) ↔ (None before × Gives r number place)
row_exactly before r after exactly m p b a = (
  (λ e. first_one before r after m p b a ((exactly.refusal m p).0 e)),
  (λ y. (exactly.refusal m p).1 (one_first before r after m p y.0 y.1)),
)

-- after a row of another number
pub after_one : (r : Row) (rows : List Row) (m p : ℕ) → (r.number ≡ m → ⊥) → First (r ∷ rows) m p → (r.given → ⊥) × First rows m p
after_one r rows m p ne (inl g) = absurd (ne g.1)
after_one r rows m p ne (inr f) = f

-- ---- rows for each element

pub append_first : (a b : List Row) (m p : ℕ) → First (a ++ b) m p → First a m p ⊎ (None a × First b m p)
append_first [] b m p f = inr (tt, f)
append_first (r ∷ a) b m p (inl g) = inl (inl g)
append_first (r ∷ a) b m p (inr f) = go (append_first a b m p f.1)
  where
    go : First a m p ⊎ (None a × First b m p) → First (r ∷ a) m p ⊎ (None (r ∷ a) × First b m p)
    go (inl g) = inl (inr (f.0, g))
    go (inr g) = inr ((f.0, g.0), g.1)

pub first_left : (a b : List Row) (m p : ℕ) → First a m p → First (a ++ b) m p
first_left [] b m p f = absurd f
first_left (r ∷ a) b m p (inl g) = inl g
first_left (r ∷ a) b m p (inr f) = inr (f.0, first_left a b m p f.1)

pub first_right : (a b : List Row) (m p : ℕ) → None a → First b m p → First (a ++ b) m p
first_right [] b m p n f = f
first_right (r ∷ a) b m p n f = inr (n.0, first_right a b m p n.1 f)

module _ (rows : ℕ → ℕ → List Row) (m p : ℕ) where
  -- the rows of one element are the first with one that is given
  abbrev pub FirstAt : ℕ → List ℕ → ℕ → Type 0
  FirstAt start xs k =
      (k < length xs) × First (rows (start + k) (get_or xs k 0)) m p × ((j : ℕ) → j < k → None (rows (start + j) (get_or xs j 0)))

  -- places from an element on, and from the one after it on
  now : (start : ℕ) → start ≡ start + 0
  now start = omega arith

  next : (start k : ℕ) → suc start + k ≡ start + suc k
  next start k = omega arith

  earlier : (start x : ℕ) (xs : List ℕ) (k : ℕ) → None (rows start x) → ((j : ℕ) → j < k → None (rows (suc start + j) (get_or xs j 0)))
      → (j : ℕ) → j < suc k → None (rows (start + j) (get_or (x ∷ xs) j 0))
  earlier start x xs k n y zero h = subst (λ s. None (rows s x)) (now start) n
  earlier start x xs k n y (suc j) h = subst (λ s. None (rows s (get_or xs j 0))) (next start j) (y j (le_of_suc-le-suc h))

  one_on : (start x : ℕ) (xs : List ℕ) → None (rows start x) → (k : ℕ) × FirstAt (suc start) xs k → (k : ℕ) × FirstAt start (x ∷ xs) k
  one_on start x xs n y =
      let k = y.0 in
      let f = y.1 in
      (suc k, (suc-le-suc f.0, subst (λ s. First (rows s (get_or xs k 0)) m p) (next start k) f.1, earlier start x xs k n f.2))

  pub each_first : (start : ℕ) (xs : List ℕ) → First (each rows start xs) m p → (k : ℕ) × FirstAt start xs k
  each_first start [] f = absurd f
  each_first start (x ∷ xs) f =
      ⊎_elim
      (λ g. (0, (zero-lt-suc (length xs), subst (λ s. First (rows s x) m p) (now start) g, λ j h. absurd (not-suc-le-zero h))))
      (λ g. one_on start x xs g.0 (each_first (suc start) xs g.1))
      (append_first (rows start x) (each rows (suc start) xs) m p f)

  pub first_each : (start : ℕ) (xs : List ℕ) (k : ℕ) → FirstAt start xs k → First (each rows start xs) m p
  first_each start [] k y = absurd (not-suc-le-zero y.0)
  first_each start (x ∷ xs) zero y =
      first_left (rows start x) (each rows (suc start) xs) m p (subst (λ s. First (rows s x) m p) (sym (now start)) y.1)
  first_each start (x ∷ xs) (suc k) y =
      first_right (rows start x) (each rows (suc start) xs) m p
      (subst (λ s. None (rows s x)) (sym (now start)) (y.2 0 (zero-lt-suc k)))
      (first_each (suc start) xs k (
        le_of_suc-le-suc y.0,
        subst (λ s. First (rows s (get_or xs k 0)) m p) (sym (next start k)) y.1,
        λ j h. subst (λ s. None (rows s (get_or xs j 0))) (sym (next start j)) (y.2 (suc j) (suc-le-suc h)),
      ))

  -- the same with the places as they are
  abbrev pub FirstOf : List ℕ → ℕ → Type 0
  FirstOf xs k = (k < length xs) × First (rows k (get_or xs k 0)) m p × ((j : ℕ) → j < k → None (rows j (get_or xs j 0)))

  from_0 : (k : ℕ) → 0 + k ≡ k
  from_0 k = omega arith

  to_of : (xs : List ℕ) (k : ℕ) → FirstAt 0 xs k → FirstOf xs k
  to_of xs k y = (
    y.0,
    subst (λ s. First (rows s (get_or xs k 0)) m p) (from_0 k) y.1,
    λ j h. subst (λ s. None (rows s (get_or xs j 0))) (from_0 j) (y.2 j h),
  )

  from_of : (xs : List ℕ) (k : ℕ) → FirstOf xs k → FirstAt 0 xs k
  from_of xs k y = (
    y.0,
    subst (λ s. First (rows s (get_or xs k 0)) m p) (sym (from_0 k)) y.1,
    λ j h. subst (λ s. None (rows s (get_or xs j 0))) (sym (from_0 j)) (y.2 j h),
  )

  pub each_exactly : (xs : List ℕ) → First (each rows 0 xs) m p ↔ ((k : ℕ) × FirstOf xs k)
  each_exactly xs = (
    (λ f. let y = each_first 0 xs f in (y.0, to_of xs y.0 y.1)),
    (λ y. first_each 0 xs y.0 (from_of xs y.0 y.1)),
  )

-- no row of any element is given
none_split : (a b : List Row) → None (a ++ b) → None a × None b
none_split [] b n = (tt, n)
none_split (r ∷ a) b n = let y = none_split a b n.1 in ((n.0, y.0), y.1)

none_join : (a b : List Row) → None a → None b → None (a ++ b)
none_join [] b n k = k
none_join (r ∷ a) b n k = (n.0, none_join a b n.1 k)

module _ (rows : ℕ → ℕ → List Row) where
  none_each : (start : ℕ) (xs : List ℕ) → None (each rows start xs) → (k : ℕ) → k < length xs → None (rows (start + k) (get_or xs k 0))
  none_each start [] n k h = absurd (not-suc-le-zero h)
  none_each start (x ∷ xs) n zero h =
      let e : start ≡ start + 0 = omega arith in
      subst (λ s. None (rows s x)) e (none_split (rows start x) (each rows (suc start) xs) n).0
  none_each start (x ∷ xs) n (suc k) h =
      let e : suc start + k ≡ start + suc k = omega arith in
      subst (λ s. None (rows s (get_or xs k 0))) e
      (none_each (suc start) xs (none_split (rows start x) (each rows (suc start) xs) n).1 k (le_of_suc-le-suc h))

  each_none : (start : ℕ) (xs : List ℕ) → ((k : ℕ) → k < length xs → None (rows (start + k) (get_or xs k 0))) → None (each rows start xs)
  each_none start [] y = tt
  each_none start (x ∷ xs) y =
      let e : start + 0 ≡ start = omega arith in
      none_join (rows start x) (each rows (suc start) xs) (subst (λ s. None (rows s x)) e (y 0 (zero-lt-suc (length xs))))
      (each_none (suc start) xs (λ k h. subst (λ s. None (rows s (get_or xs k 0))) (sym (next rows 0 0 start k)) (y (suc k) (suc-le-suc h))))

  pub none_exactly : (xs : List ℕ) → None (each rows 0 xs) ↔ ((k : ℕ) → k < length xs → None (rows k (get_or xs k 0)))
  none_exactly xs = (
    (λ n k h. subst (λ s. None (rows s (get_or xs k 0))) (from_0 rows 0 0 k) (none_each 0 xs n k h)),
    (λ y. each_none 0 xs (λ k h. subst (λ s. None (rows s (get_or xs k 0))) (sym (from_0 rows 0 0 k)) (y k h))),
  )

-- ---- one row for each element

module _ (number : ℕ) (Bad : ℕ → Type 0) where
  -- a row at a place
  abbrev pub bad_row : ℕ → ℕ → List Row
  bad_row place x = names number place (Bad x) ∷ []

  -- a place with a row that is given, and the lowest
  abbrev pub Lowest : List ℕ → ℕ → Type 0
  Lowest xs place = (place < length xs) × Bad (get_or xs place 0) × ((q : ℕ) → q < place → Bad (get_or xs q 0) → ⊥)

  lowest_at : (xs : List ℕ) (p k : ℕ) → k < length xs → First (bad_row k (get_or xs k 0)) number p
      → ((j : ℕ) → j < k → None (bad_row j (get_or xs j 0)))
      → Lowest xs p
  lowest_at xs p k h (inl g) all = subst (Lowest xs) g.2 (h, g.0, λ q l. (all q l).0)
  lowest_at xs p k h (inr g) all = absurd g.1

  pub lowest_exactly : (xs : List ℕ) (p : ℕ) → First (each bad_row 0 xs) number p ↔ Lowest xs p
  lowest_exactly xs p = (
    (λ f. let y = (each_exactly bad_row number p xs).0 f in lowest_at xs p y.0 y.1.0 y.1.1 y.1.2),
    (λ y. (each_exactly bad_row number p xs).1 (p, (y.0, inl (y.1, refl, refl), λ j h. (y.2 j h, tt)))),
  )
