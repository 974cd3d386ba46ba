-- A list of claims, and the single statement that all of them hold.
-- Assumes nothing.
use Rattle.std.specs.Prelude.{List, [], ◌∷◌}

-- every claim of the list
abbrev pub All : List (Type 0) → Type 0
All [] = Unit {0}
All (c ∷ cs) = c × All cs
