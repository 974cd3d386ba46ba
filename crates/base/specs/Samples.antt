-- Document 01, "Refusal numbers", 1: a sample is above 7, of two wires above 3; the lowest such place.
-- Assumes nothing.
use Rattle.std.specs.Prelude.{ℕ, suc, List, [], ◌∷◌, leb}
use Rattle.base.specs.Pick.{pick}
use Rattle.base.specs.Refusals.{Told, done, refused}

-- refusal 1's test, given the highest sample: the lowest place of a sample above it
abbrev pub checked_from : ℕ → ℕ → List ℕ → Told (Unit {0})
checked_from most place [] = done tt
checked_from most place (s ∷ ss) = pick (leb s most) (checked_from most (suc place) ss) (refused 1 place)
