-- Document 02, C-11: blocks of samples as they arrive. What a block does to the panel record and to the list of its LOAD rises' places.
-- Assumes nothing.
use Rattle.std.specs.Prelude.{◌≡◌, ℕ, suc, List, [], ◌∷◌, leb, length}
use Rattle.base.specs.Lent.{laid}
use Rattle.base.specs.Pick.{pick}
use Rattle.base.specs.Refusals.{Told, done, refused, Outcome, hands_back, once_tested, handed}
use Rattle.chip.specs.Edges.{load_rises}
use Rattle.chain.specs.declared.Chain.{Chain}
use Rattle.chain.specs.Chain.{tested_of, checked_from, played}
use Rattle.base.specs.declared.Handed.{Handed}

-- the places of the LOAD rises, given the first sample's place and the levels before it
unfoldable pub rises_from : ℕ → ℕ → List ℕ → List ℕ
rises_from place was [] = []
rises_from place was (s ∷ ss) = pick (load_rises was s) (place ∷ rises_from (suc place) s ss) (rises_from (suc place) s ss)

-- the places in a block, from 0, given the record before it
abbrev pub rises_in : Chain → List ℕ → List ℕ
rises_in ch ss = rises_from 0 ch.levels ss

-- a block of samples: refusals 3, 12, 1, and 8 where the list is shorter than the rises; refused, the record is as it was
unfoldable pub block_of : ℕ → Chain → List ℕ → List ℕ → Outcome Chain ℕ
block_of n ch ss list =
    once_tested (tested_of n ch) ch
    (once_tested (checked_from 0 ss) ch
    (pick (leb (length (rises_in ch ss)) (length list))
    (record { state = played n ss ch; told = done (length (rises_in ch ss)) })
    (hands_back ch 8 0)))

-- the list: the places at its front, the rest staying; or as it was where the block is refused
abbrev pub list_by : Told ℕ → List ℕ → List ℕ → List ℕ
list_by (done count) places list = laid places list
list_by (refused number place) places list = list

-- the list after a block, whatever its outcome
abbrev pub list_of : ℕ → Chain → List ℕ → List ℕ → List ℕ
list_of n ch ss list = list_by (block_of n ch ss list).told (rises_in ch ss) list

-- what `block` does: the record and its answer, and the list after it
pub record Blocks (n : ℕ) (ch : Chain) (ss list : List ℕ) (r : Handed Chain ℕ) (list' : List ℕ) : Type 0 where
  pub answer : handed r ≡ block_of n ch ss list
  pub places : list' ≡ list_of n ch ss list
