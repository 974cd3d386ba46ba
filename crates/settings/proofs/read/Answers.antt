-- `settings::read` meets its contract: 14 before 15.
-- Assumes nothing.
use mathlib.Core.Path.{ap, sym, ◌∙◌}
use native.Mathlib.Omega.{arith}
use borrow.Author.Tests.{lt-ltb, le-ltb}
use Rattle.base.specs.Refusals.{hands_back}
use Rattle.base.proofs.Picks.{pick_yes, pick_no}
use Rattle.settings.specs.Reading.{read_of, version_in}
use Rattle.settings.specs.Settings.{newest, no_kiosk}
use Rattle.settings.proofs.read.Goals as goal

pub returns-then-version-gt-NEWEST : goal.returns-then-version-gt-NEWEST
unfolding read_of
returns-then-version-gt-NEWEST c =
    let v = c.version_of-version in
    c.refused.ensures ∙ ap (λ x. hands_back no_kiosk 14 x) v.ensures
    ∙ sym (pick_yes _ _ (lt-ltb newest (version_in c.args.text.now) (omega (arith, v.ensures, c.if-version-gt-NEWEST.true))))

pub returns : goal.returns
unfolding read_of
returns c =
    let v = c.version_of-version in
    c.lines.ensures
    ∙ sym (pick_no _ _ (le-ltb newest (version_in c.args.text.now) (omega (arith, v.ensures, c.if-version-gt-NEWEST.false))))
