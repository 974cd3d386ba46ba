-- `settings::rows` meets its contract: 3, 9; the array always suffices.
-- Assumes nothing.
use mathlib.Core.Path.{◌≡◌, sym}
use native.Mathlib.Omega.{arith}
use lib.ListN.{length}
use Rattle.base.proofs.Lists.{length_mapped}
use Rattle.chain.specs.Chain.{most}
use Rattle.settings.specs.Settings.{kept_in, words_of}
use Rattle.settings.proofs.Bytes.{count_within}
use Rattle.settings.proofs.Putting.{words_length, fits_refused, fits_put}
use Rattle.writer.proofs.Tests.{told_on}
use Rattle.settings.proofs.Texts.{passes, kept_length}
use borrow.Author.Rules.{rules}
use Rattle.settings.proofs.rows.Goals as goal

pub words-requires : goal.words-requires
words-requires c =
    let a = c.args in
    let full : length a.words.now ≡ 32 = search rules in
    record { kiosk_value = sym c.in_ok-tested.ensures; most_in_bounds = omega arith }

pub returns-in_err-tested : goal.returns-in_err-tested
returns-in_err-tested c =
    let a = c.args in
    fits_refused a.kiosk (words_of (kept_in a.kiosk)) a.words.now _ (told_on _ c.from_residual.result c.from_residual.ensures.1) (sym c.in_err-tested.ensures)

pub returns : goal.returns
returns c =
    let a = c.args in
    let passed = sym c.in_ok-tested.ensures in
    let size : length a.kiosk.chips ≡ most = search (rules, length_mapped) in
    let full : length a.words.now ≡ 32 = search rules in
    let few = (count_within a.kiosk.n (passes a.kiosk passed).chips).few in
    let all = kept_length a.kiosk passed size in
    fits_put a.kiosk (words_of (kept_in a.kiosk)) a.words.now passed (omega (arith, few, all, words_length (kept_in a.kiosk))) c.words.ensures
