-- `zhaqsumir::two_wires::panel_of` meets its contract: each number fits its place, so no cast cuts it.
-- Assumes nothing.
use Prim.Native.Nat.{ℕ, ◌+◌, ◌<◌}
use lib.ListN.{get_or}
use borrow.Author.Rules.{rules}
use Rattle.std.proofs.iter.Serving.{serving}
use Rattle.zhaqsumir.specs.TwoWires.{panel_of}
use Rattle.zhaqsumir.proofs.Ch450Panels.{under, digit_low}
use Rattle.zhaqsumir.proofs.Made.{made_places}
use Rattle.zhaqsumir.proofs.two_wires.panel_of.Goals as goal

pub overflow_cast-result : goal.overflow_cast-result
overflow_cast-result c = record { fits = under c.args.numbers.now c.requires 0 tt tt }

pub overflow_cast-result-2 : goal.overflow_cast-result-2
overflow_cast-result-2 c = record { fits = under c.args.numbers.now c.requires 2 tt tt }

pub overflow_cast-result-3 : goal.overflow_cast-result-3
overflow_cast-result-3 c = record { fits = under c.args.numbers.now c.requires 3 tt tt }

pub overflow_cast-result-4 : goal.overflow_cast-result-4
overflow_cast-result-4 c = record { fits = under c.args.numbers.now c.requires 5 tt tt }

pub from_fn-requires : goal.from_fn-requires
from_fn-requires c =
    let ns = c.args.numbers.now in
    let low : (k : ℕ) → k < 6 → get_or ns (8 + k) 0 < 256 = digit_low ns c.requires in
    grind serving

pub returns : goal.returns
returns c =
    let ns = c.args.numbers.now in
    let digits = made_places (λ k. get_or ns (8 + k) 0) c.from_fn.ensures.items (λ k y q h call. search rules) in
    λ i. record { wires = (panel_of ns).wires; settings = (panel_of ns).settings; digits = digits i }
