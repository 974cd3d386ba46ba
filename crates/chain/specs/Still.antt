-- Samples whose DCLK and LOAD repeat those before them: what an import of a probe's capture may leave out.
-- Assumes nothing.
use Rattle.std.specs.Prelude.{Bool, true, false, not, ◌&&◌, List, [], ◌∷◌, ℕ}
use Rattle.base.specs.Pick.{pick}
use Rattle.chip.specs.Edges.{dclk, load}

-- two levels are the same
abbrev pub same_level : Bool → Bool → Bool
same_level true b = b
same_level false b = not b

-- DCLK and LOAD are as in the sample before: there is no edge of either
abbrev pub still : ℕ → ℕ → Bool
still was now = same_level (dclk was) (dclk now) && same_level (load was) (load now)

-- the samples without those whose DCLK and LOAD repeat, given the levels before
unfoldable pub kept : ℕ → List ℕ → List ℕ
kept was [] = []
kept was (s ∷ ss) = pick (still was s) (kept s ss) (s ∷ kept s ss)
