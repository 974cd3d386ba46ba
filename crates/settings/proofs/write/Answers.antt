-- `settings::write` meets its contract: 3, 9, then 8.
-- Assumes nothing.
use mathlib.Core.Path.{◌≡◌, sym}
use native.Mathlib.Omega.{arith}
use lib.ListN.{length}
use Rattle.base.proofs.Lists.{length_mapped}
use Rattle.chain.specs.Chain.{most}
use Rattle.settings.specs.Settings.{text_of}
use Rattle.settings.proofs.Bytes.{count_within}
use Rattle.settings.proofs.Putting.{fits_refused, fits_short, fits_put}
use Rattle.writer.proofs.Tests.{told_on}
use Rattle.settings.proofs.Texts.{passes, text_length}
use borrow.Author.Rules.{rules}
use Rattle.settings.proofs.write.Goals as goal

pub overflow_mul-kiosk : goal.overflow_mul-kiosk
overflow_mul-kiosk c =
    let a = c.args in
    let few = (count_within a.kiosk.n (passes a.kiosk (sym c.in_ok-tested.ensures)).chips).few in
    search (rules, few)

pub overflow_add-kiosk : goal.overflow_add-kiosk
overflow_add-kiosk c =
    let a = c.args in
    let few = (count_within a.kiosk.n (passes a.kiosk (sym c.in_ok-tested.ensures)).chips).few in
    search (rules, few)

pub returns-then-out-kiosk : goal.returns-then-out-kiosk
returns-then-out-kiosk c =
    let a = c.args in
    let passed = sym c.in_ok-tested.ensures in
    let size : length a.kiosk.chips ≡ most = search (rules, length_mapped) in
    let long = text_length a.kiosk passed size in
    fits_short a.kiosk (text_of a.kiosk) a.out.now passed (omega (arith, long, c.if-out-kiosk.true))

pub text-requires : goal.text-requires
text-requires c =
    let a = c.args in
    record { kiosk_value = sym c.in_ok-tested.ensures; n_in_bounds = omega (arith, c.if-out-kiosk.false) }

pub returns-in_err-tested : goal.returns-in_err-tested
returns-in_err-tested c =
    let a = c.args in
    fits_refused a.kiosk (text_of a.kiosk) a.out.now _ (told_on _ c.from_residual.result c.from_residual.ensures.1) (sym c.in_err-tested.ensures)

pub returns : goal.returns
returns c =
    let a = c.args in
    let passed = sym c.in_ok-tested.ensures in
    let size : length a.kiosk.chips ≡ most = search (rules, length_mapped) in
    let long = text_length a.kiosk passed size in
    fits_put a.kiosk (text_of a.kiosk) a.out.now passed (omega (arith, long, c.if-out-kiosk.false)) c.text.ensures
