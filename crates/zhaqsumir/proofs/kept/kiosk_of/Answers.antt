-- `zhaqsumir::kept::kiosk_of` meets its contract: N, and eight chips, one after another.
-- Assumes nothing.
use borrow.Author.Rules.{rules}
use Rattle.zhaqsumir.specs.Panels.{count_in}
use Rattle.zhaqsumir.specs.Settings.{kept_in}
use Rattle.zhaqsumir.proofs.Made.{made_places}
use Rattle.zhaqsumir.proofs.kept.kiosk_of.Goals as goal

pub returns : goal.returns
unfolding Rattle.zhaqsumir.specs.Settings.kiosk_of
returns c =
    let ns = c.args.numbers.now in
    let chips = made_places (kept_in ns) c.from_fn.ensures.items (λ k y q h call. search rules) in
    λ i. record { n = count_in ns; chips = chips i }
