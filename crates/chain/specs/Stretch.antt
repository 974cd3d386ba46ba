-- What samples do up to and with the next LOAD rise. No entry's promise cites this: `play` and the walk over a capture text go by it.
-- Assumes nothing.
use Rattle.std.specs.Prelude.{ℕ, suc, true, false, List, [], ◌∷◌}
use Rattle.base.specs.Pick.{pick}
use Rattle.chip.specs.Edges.{load_rises}
use Rattle.chain.specs.declared.Chain.{Chain}
use Rattle.chain.specs.declared.play.Stretch.{Stretch}
use Rattle.chain.specs.Chain.{stepped_chain}

-- the chain after it, the place past its last sample, given the first one's, and whether LOAD rose; without a rise all samples are played
unfoldable pub stretch_from : ℕ → ℕ → List ℕ → Chain → Stretch
stretch_from n place [] ch = record { chain = ch; stop = place; rose = false }
stretch_from n place (s ∷ ss) ch =
    pick (load_rises ch.levels s) (record { chain = stepped_chain n s ch; stop = suc place; rose = true })
    (stretch_from n (suc place) ss (stepped_chain n s ch))
