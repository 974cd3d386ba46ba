-- A BCD code's shape has seven bits.
-- Assumes nothing.
use Prim.Native.Nat.{ℕ, ◌<◌}
use lib.Dec.{eqb, ltb, ltb→lt}
use lib.ListN.{get_or}
use Rattle.base.proofs.Picks.{pick_cases}
use Rattle.base.proofs.Cuts.{cut_lt}
use Rattle.base.proofs.Tests.{at_below}
use Rattle.chip.specs.Segments.{shapes, shape}

-- every shape of the table is below 128, as the checker computes
table_lt : (code : ℕ) → code < 32 → get_or shapes code 0 < 128
table_lt code h = ltb→lt (get_or shapes code 0) 128 (at_below (λ k. ltb (get_or shapes k 0) 128) 32 tt code h)

pub shape_lt : (custom code : ℕ) → code < 32 → shape custom code < 128
unfolding shape
shape_lt custom code h = pick_cases (λ x. x < 128) (eqb code 0x1E) (λ e. cut_lt custom 0 7) (λ e. table_lt code h)
