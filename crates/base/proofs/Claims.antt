-- Lists of claims joined.
--     all_append     two lists that hold, one after the other
-- Assumes nothing.
use mathlib.Core.List.{List, [], ◌∷◌, ◌++◌}
use Rattle.base.specs.Claims.{All}

pub all_append : (xs ys : List (Type 0)) → All xs → All ys → All (xs ++ ys)
all_append [] ys p q = q
all_append (x ∷ xs) ys p q = (p.0, all_append xs ys p.1 q)
