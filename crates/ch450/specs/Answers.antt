-- Document 02, C-15: which levels can change the display: a stop after exactly 19 rises since its start, and nothing else. The rises are
-- counted here from the samples alone. proofs/Changes.antt proves it: `only_stops_after_19`.
-- Assumes nothing.
use Rattle.std.specs.Prelude.{◌≡◌, true, List, [], ◌∷◌, ◌++◌, ℕ, suc}
use Rattle.base.specs.Pick.{pick}
use Rattle.ch450.specs.Edges.{starts, stops, scl_rises}
use Rattle.ch450.specs.Panel.{body_of, lit_of, power_on}
use Rattle.ch450.specs.Samples.{played}

-- the rises since a transfer's start, all of them; or no transfer runs
pub data RisesSoFar : Type 0 where
  none : RisesSoFar
  since : ℕ → RisesSoFar

-- a rise more, where a transfer runs
abbrev pub risen : RisesSoFar → RisesSoFar
risen none = none
risen (since rises) = since (suc rises)

-- after samples, from levels and a transfer on
unfoldable pub rises_after : ℕ → RisesSoFar → List ℕ → RisesSoFar
rises_after was t [] = t
rises_after was t (s ∷ ss) =
    rises_after s (pick (starts was s) (since 0) (pick (stops was s) none (pick (scl_rises was s) (risen t) t))) ss

-- the levels after samples
abbrev pub levels_after : ℕ → List ℕ → ℕ
levels_after was [] = was
levels_after was (s ∷ ss) = levels_after s ss

-- a sample after samples is a stop, and exactly 19 rises came since its start
abbrev pub StopAfter19 : List ℕ → ℕ → Type 0
StopAfter19 ss s = (stops (levels_after 3 ss) s ≡ true) × (rises_after 3 none ss ≡ since 19)

-- after any samples from power-on, a sample that changes settings, digits or segments lit is such a stop
abbrev pub OnlyStopsAfter19 : Type 0
OnlyStopsAfter19 =
    (digits ss : List ℕ) (s : ℕ)
    → (StopAfter19 ss s → ⊥)
    → (body_of (played (ss ++ s ∷ []) (power_on digits)) ≡ body_of (played ss (power_on digits)))
    × (lit_of (played (ss ++ s ∷ []) (power_on digits)) ≡ lit_of (played ss (power_on digits)))
