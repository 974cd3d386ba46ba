-- `zhaqsumir::tallied::numbers_of` meets its contract: the eight chips' counts, one after another.
-- Assumes nothing.
use mathlib.Core.Path.{ap, ◌∙◌}
use borrow.Author.Rules.{rules}
use Rattle.std.specs.List.{flat_map}
use Rattle.zhaqsumir.proofs.Counts.{four, no_counts, chips_flat}
use Rattle.zhaqsumir.proofs.Made.{mapped}
use Rattle.zhaqsumir.proofs.tallied.numbers_of.Goals as goal

pub returns : goal.returns
returns c =
    c.copy_from_slice.ensures.after
    ∙ c.as_flattened.ensures.value
    ∙ ap (flat_map (λ x. x)) (mapped four no_counts c.map.ensures.items (search rules) (λ p x y q call. search rules))
    ∙ chips_flat c.args.chips
