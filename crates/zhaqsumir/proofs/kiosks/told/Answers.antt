-- `zhaqsumir::kiosks::told` meets its contract: the answer's number and place, N, and the chips' numbers.
-- Assumes nothing.
use mathlib.Core.Path.{◌≡◌, ◌∙◌}
use mathlib.Core.List.{◌∷◌}
use lib.ListN.{length, get_or}
use Rattle.base.proofs.Lists.{length_mapped}
use Rattle.zhaqsumir.specs.Settings.{chips_numbers}
use Rattle.zhaqsumir.proofs.SettingsNumbers.{told_numbers}
use borrow.Author.Rules.{rules}
use Rattle.zhaqsumir.proofs.kiosks.told.Goals as goal

pub returns : goal.returns
returns c =
    let s = c in
    let kiosk = s.args.read.value in
    let eight : length kiosk.chips ≡ 8 = search (rules, length_mapped) in
    c.put_all.ensures.bytes
    ∙ told_numbers (get_or s.verdict.result 0 0) (get_or s.verdict.result 1 0) kiosk.n kiosk.chips eight
    ∙ (λ i. get_or (s.verdict.ensures i) 0 0 ∷ get_or (s.verdict.ensures i) 1 0 ∷ kiosk.n ∷ chips_numbers kiosk.chips)
