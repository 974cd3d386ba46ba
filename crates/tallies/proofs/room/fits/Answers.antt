-- `tallies::room::fits` meets its contract.
-- Assumes nothing.
use Rattle.std.proofs.Common.{◌≤◌, ◌-◌, arith, ap, sym, ◌∙◌, ◌&&◌}
use Rattle.std.specs.List.{list_all}
use Rattle.tallies.specs.Parts.{at_most}
use Rattle.tallies.specs.Tallies.{largest_count}
use Rattle.tallies.proofs.Rooms.{within_room}
use Rattle.tallies.proofs.room.fits.Goals as goal

pub returns-then-chips_within : goal.returns-then-chips_within
returns-then-chips_within c =
    let a = c.args in
    let small : a.many ≤ largest_count = omega (arith, c.ranges.many) in
    c.codes_within.ensures
    ∙ sym (ap (λ b. b && list_all (at_most (largest_count - a.many)) a.tally.codes) (sym c.chips_within.ensures ∙ c.if-chips_within.true))
    ∙ within_room a.many a.tally small

pub returns-else-chips_within : goal.returns-else-chips_within
returns-else-chips_within c =
    let a = c.args in
    let small : a.many ≤ largest_count = omega (arith, c.ranges.many) in
    c.if-chips_within.false
    ∙ sym (ap (λ b. b && list_all (at_most (largest_count - a.many)) a.tally.codes) (sym c.chips_within.ensures ∙ c.if-chips_within.false))
    ∙ within_room a.many a.tally small
