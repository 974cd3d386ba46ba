-- `chip::scans::lowest` meets its contract: a count of eight bits fits a byte, and of a mask that isn't empty it is below 8.
-- Assumes nothing.
use mathlib.Core.Path.{ap}
use Prim.Native.Nat.{ℕ, ◌+◌, ◌*◌, ◌<◌}
use native.Mathlib.Nat.{lt_of_le_of_lt}
use native.Mathlib.Omega.{arith}
use lib.Count.{count_trailing_zeros, trailing_le}
use lib.Dec.{lit<}
use Rattle.chip.proofs.Masks.{lowest_set}
use Rattle.chip.proofs.scans.lowest.Goals as goal

count_fits : (mask : ℕ) → count_trailing_zeros 8 mask < 256
count_fits mask = lt_of_le_of_lt (trailing_le 8 mask) (lit< tt)

pub overflow_cast-seg : goal.overflow_cast-seg
overflow_cast-seg c = record { fits = count_fits c.args.segs }

pub row-requires : goal.row-requires
row-requires c = (lowest_set c.args.segs c.ranges.segs.fits c.requires).0

pub overflow_cast-dig : goal.overflow_cast-dig
overflow_cast-dig c = record { fits = count_fits c.row.result }

pub overflow_mul-result : goal.overflow_mul-result
overflow_mul-result c = let s = trailing_le 8 c.args.segs in record { fits = omega arith }

pub overflow_add-result : goal.overflow_add-result
overflow_add-result c =
    let s = trailing_le 8 c.args.segs in
    let d = trailing_le 8 c.row.result in
    record { fits = omega arith }

pub returns : goal.returns
returns c = ap (λ row. 8 * count_trailing_zeros 8 c.args.segs + count_trailing_zeros 8 row) c.row.ensures
