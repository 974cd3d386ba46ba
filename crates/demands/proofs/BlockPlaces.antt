-- The places of a block's LOAD rises, and its refusals 1 and 8: specs/Blocks.antt.
--     rises_listed     they are where LOAD rises, and no others, each once, in rising order
--     block_lowest     1, of `block`: the lowest place of a sample above 7
--     block_eight      8, of `block`: no sample is above 7, and the list is shorter than the rises
-- Assumes nothing.
use mathlib.Core.Path.{◌≡◌, refl, sym, subst}
use mathlib.Core.Bool.{Bool, true, false}
use mathlib.Core.Logic.{◌⊎◌, inl, inr, ◌↔◌}
use mathlib.Core.List.{List, [], ◌∷◌, ◌++◌}
use Prim.Native.Nat.{ℕ, zero, suc, ◌+◌, ◌≤◌, ◌<◌}
use native.Mathlib.Nat.{not-suc-le-zero, le_of_suc-le-suc}
use native.Mathlib.Omega.{arith}
use lib.ListN.{length, get_or}
use Rattle.base.specs.Pick.{pick}
use Rattle.base.specs.Refusals.{refused}
use Rattle.chip.specs.Edges.{load_rises}
use Rattle.chain.specs.declared.Chain.{Chain}
use Rattle.chain.specs.Blocks.{rises_from, block_of}
use Rattle.demands.specs.Exact.{Row, row, None, First}
use Rattle.demands.specs.Refusals.{SampleAbove7, LowestAbove7, NotOneToMost, UnheldChain, ListShort}
use Rattle.demands.specs.Tables.{sample_row, sample_rows}
use Rattle.demands.specs.Whole.{RisesAt}
use Rattle.demands.specs.Blocks.{Among, Climbs, RisesListed}
use Rattle.demands.proofs.ExactChain.{block_exact}
use Rattle.demands.proofs.ExactLibrary.{none_each}
use Rattle.demands.proofs.Readings.{none_first, after_one, append_first, first_left, first_right, none_exactly, lowest_exactly}

-- a place counted from `place` at which LOAD rises
abbrev Rising : ℕ → ℕ → List ℕ → ℕ → Type 0
Rising place was ss p = (q : ℕ) × (place + q ≡ p) × (q < length ss) × RisesAt was ss q

-- one sample further on
further : (place was s : ℕ) (ss : List ℕ) (p : ℕ) → Rising (suc place) s ss p → Rising place was (s ∷ ss) p
further place was s ss p r = let e = r.1 in let h = r.2 in (suc r.0, omega arith, omega arith, r.3)

listed : (place was : ℕ) (ss : List ℕ) (p : ℕ) → Among p (rises_from place was ss) → Rising place was ss p
unfolding rises_from
listed place was [] p a = absurd a
listed place was (s ∷ ss) p a = go (load_rises was s) refl (λ m. further place was s ss p (listed (suc place) s ss p m)) a
  where
    go : (b : Bool) → load_rises was s ≡ b → (Among p (rises_from (suc place) s ss) → Rising place was (s ∷ ss) p)
        → Among p (pick b (place ∷ rises_from (suc place) s ss) (rises_from (suc place) s ss)) → Rising place was (s ∷ ss) p
    go true up later (inl e) = (0, omega arith, omega arith, up)
    go true up later (inr m) = later m
    go false up later m = later m

at_rise_lem : (place was : ℕ) (ss : List ℕ) (q : ℕ) → q < length ss → RisesAt was ss q → Among (place + q) (rises_from place was ss)
unfolding rises_from
at_rise_lem place was [] q h up = absurd (not-suc-le-zero h)
at_rise_lem place was (s ∷ ss) zero h up = subst (λ b. Among (place + 0) (pick b (place ∷ rises_from (suc place) s ss) (rises_from (suc place) s ss))) (sym up) (inl (omega arith))
at_rise_lem place was (s ∷ ss) (suc q) h up = go (load_rises was s) (subst (λ p. Among p (rises_from (suc place) s ss)) one_on (at_rise_lem (suc place) s ss q (le_of_suc-le-suc h) up))
  where
    one_on : suc place + q ≡ place + suc q
    one_on = omega arith

    go : (b : Bool) → Among (place + suc q) (rises_from (suc place) s ss) → Among (place + suc q) (pick b (place ∷ rises_from (suc place) s ss) (rises_from (suc place) s ss))
    go true m = inr m
    go false m = m

-- from a lower number on
lower : (least more : ℕ) (xs : List ℕ) → least ≤ more → Climbs more xs → Climbs least xs
lower least more [] h c = tt
lower least more (x ∷ xs) h c = let l = c.0 in (omega arith, c.1)

climbs : (place was : ℕ) (ss : List ℕ) → Climbs place (rises_from place was ss)
unfolding rises_from
climbs place was [] = tt
climbs place was (s ∷ ss) = go (load_rises was s) (climbs (suc place) s ss)
  where
    go : (b : Bool) → Climbs (suc place) (rises_from (suc place) s ss) → Climbs place (pick b (place ∷ rises_from (suc place) s ss) (rises_from (suc place) s ss))
    go true c = (omega arith, c)
    go false c = lower place (suc place) (rises_from (suc place) s ss) (omega arith) c

pub rises_listed : RisesListed
rises_listed was ss = (
  (λ p. (
    (λ a.
        let r = listed 0 was ss p a in
        let same : r.0 ≡ p = let e = r.1 in omega arith in
        (subst (λ q. q < length ss) same r.2, subst (RisesAt was ss) same r.3)),
    (λ y. subst (λ q. Among q (rises_from 0 was ss)) (let z : 0 + p ≡ p = omega arith in z) (at_rise_lem 0 was ss p y.0 y.1)),
  )),
  climbs 0 was ss,
)

-- ---- the refusals, in plain words

module _ (n : ℕ) (ch : Chain) (ss list : List ℕ) where
  abbrev short : List Row
  short = row 8 (ListShort ch ss list) ∷ []

  -- the table past its first two rows
  past_two : (m p : ℕ) → (3 ≡ m → ⊥) → (12 ≡ m → ⊥) → (block_of n ch ss list).told ≡ refused m p
      → (NotOneToMost n → ⊥) × (UnheldChain n ch → ⊥) × First (sample_rows ss ++ short) m p
  past_two m p h k e =
      let f = after_one (row 3 (NotOneToMost n)) (row 12 (UnheldChain n ch) ∷ sample_rows ss ++ short) m p h (((block_exact n ch ss list).refusal m p).0 e) in
      let g = after_one (row 12 (UnheldChain n ch)) (sample_rows ss ++ short) m p k f.1 in
      (f.0, g.0, g.1)

  -- what is told of the samples isn't told of the list, nor the other way round
  of_samples : (p : ℕ) → First (sample_rows ss) 1 p ⊎ (None (sample_rows ss) × First short 1 p) → First (sample_rows ss) 1 p
  of_samples p (inl f) = f
  of_samples p (inr (y, inl g)) = let e = g.1 in absurd (omega arith)
  of_samples p (inr (y, inr g)) = absurd g.1

  of_list : First (sample_rows ss) 8 0 ⊎ (None (sample_rows ss) × First short 8 0) → None (sample_rows ss) × ListShort ch ss list
  of_list (inl f) = absurd (none_first (sample_rows ss) 8 0 (none_each sample_row 8 (λ k s. ((λ e. omega arith), tt)) 0 ss) f)
  of_list (inr (y, inl g)) = (y, g.0)
  of_list (inr (y, inr g)) = absurd g.1

  pub block_lowest : (place : ℕ)
      → ((block_of n ch ss list).told ≡ refused 1 place) ↔ ((NotOneToMost n → ⊥) × (UnheldChain n ch → ⊥) × LowestAbove7 ss place)
  block_lowest p = (
    (λ e.
        let f = past_two 1 p (λ q. omega arith) (λ q. omega arith) e in
        (f.0, f.1, (lowest_exactly 1 SampleAbove7 ss p).0 (of_samples p (append_first (sample_rows ss) short 1 p f.2)))),
    (λ y. ((block_exact n ch ss list).refusal 1 p).1 (inr (y.0, inr (y.1, first_left (sample_rows ss) short 1 p ((lowest_exactly 1 SampleAbove7 ss p).1 y.2))))),
  )

  pub block_eight : ((block_of n ch ss list).told ≡ refused 8 0)
      ↔ ((NotOneToMost n → ⊥) × (UnheldChain n ch → ⊥) × ((q : ℕ) → q < length ss → SampleAbove7 (get_or ss q 0) → ⊥) × ListShort ch ss list)
  block_eight = (
    (λ e.
        let f = past_two 8 0 (λ q. omega arith) (λ q. omega arith) e in
        let b = of_list (append_first (sample_rows ss) short 8 0 f.2) in
        (f.0, f.1, (λ q h. ((none_exactly sample_row ss).0 b.0 q h).0), b.1)),
    (λ y.
        ((block_exact n ch ss list).refusal 8 0).1
        (inr (y.0, inr (y.1, first_right (sample_rows ss) short 8 0 ((none_exactly sample_row ss).1 (λ q h. (y.2 q h, tt))) (inl (y.3, refl, refl)))))),
  )
