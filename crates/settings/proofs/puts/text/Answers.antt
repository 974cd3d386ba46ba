-- `settings::puts::text` meets its contract: the first line, and then the chips'.
-- Assumes nothing.
use mathlib.Core.Path.{◌≡◌, ap, sym}
use mathlib.Core.List.{[], ◌∷◌}
use native.Mathlib.Omega.{arith}
use lib.ListN.{length}
use Rattle.base.proofs.Lists.{length_mapped}
use Rattle.capture.proofs.Reported.{line_put}
use Rattle.chain.specs.Chain.{most}
use Rattle.lines.specs.Lines.{line_for}
use Rattle.settings.proofs.Bytes.{count_within}
use Rattle.settings.proofs.Texts.{passes, kept_length}
use Rattle.settings.proofs.Wholes.{first_fits, lines_fit, text_put}
use borrow.Author.Rules.{rules}
use Rattle.settings.proofs.puts.text.Goals as goal

pub overflow_cast-n : goal.overflow_cast-n
overflow_cast-n c = record { fits = omega (arith, (count_within c.args.kiosk.n (passes c.args.kiosk c.requires.kiosk_value).chips).few) }

pub chip_lines-requires : goal.chip_lines-requires
chip_lines-requires c =
    let a = c.args in
    let passed = passes a.kiosk c.requires.kiosk_value in
    let few = (count_within a.kiosk.n passed.chips).few in
    let size : length a.kiosk.chips ≡ most = search (rules, length_mapped) in
    let all = kept_length a.kiosk c.requires.kiosk_value size in
    let v = c.version_for in
    let first = line_put (0x20 ∷ v.result ∷ a.kiosk.n ∷ []) (ap (λ x. line_for (0x20 ∷ x ∷ a.kiosk.n ∷ [])) (sym v.ensures))
    (first_fits a.kiosk all a.out.now c.requires.n_in_bounds) c.put_line-at.ensures in
    record { n_le_most = few; chips_value = passed.legal; n_in_bounds = lines_fit a.kiosk all a.out.now c.requires.n_in_bounds first }

pub returns : goal.returns
returns c =
    let a = c.args in
    let passed = passes a.kiosk c.requires.kiosk_value in
    let few = (count_within a.kiosk.n passed.chips).few in
    let size : length a.kiosk.chips ≡ most = search (rules, length_mapped) in
    let all = kept_length a.kiosk c.requires.kiosk_value size in
    let v = c.version_for in
    let first = line_put (0x20 ∷ v.result ∷ a.kiosk.n ∷ []) (ap (λ x. line_for (0x20 ∷ x ∷ a.kiosk.n ∷ [])) (sym v.ensures))
    (first_fits a.kiosk all a.out.now c.requires.n_in_bounds) c.put_line-at.ensures in
    text_put a.kiosk all a.out.now c.requires.n_in_bounds first c.chip_lines.ensures
