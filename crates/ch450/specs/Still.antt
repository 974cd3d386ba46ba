-- Samples that repeat the one before them: what an import of a probe's recording may leave out. A change of SDA alone may not go: it is
-- a start or a stop.
-- Assumes nothing.
use Rattle.std.specs.Prelude.{ℕ, List, [], ◌∷◌, eqb}
use Rattle.base.specs.Pick.{pick}

-- the samples without those that repeat the levels before them
unfoldable pub kept : ℕ → List ℕ → List ℕ
kept was [] = []
kept was (s ∷ ss) = pick (eqb s was) (kept was ss) (s ∷ kept s ss)
