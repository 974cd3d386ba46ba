-- `settings::printed::again` meets its contract: what was read passes the writer's tests, and is written.
-- Assumes nothing.
use mathlib.Core.Path.{ap}
use native.Mathlib.Omega.{arith}
use Rattle.base.specs.Refusals.{done, tells}
use Rattle.settings.specs.Settings.{text_of}
use Rattle.settings.proofs.Bytes.{count_within}
use Rattle.settings.proofs.OneText.{read_written}
use Rattle.settings.proofs.Printing.{prints_so, read_done, again_so, again_refused}
use Rattle.settings.proofs.Texts.{passes}
use Rattle.settings.proofs.printed.again.Goals as goal

pub refused-requires : goal.refused-requires
refused-requires c = omega (arith, c.requires)

pub text-requires : goal.text-requires
text-requires c =
    let r = c.read-answer in
    let text = c.args.text.now in
    let passed = (read_written text r.result.value (read_done text r.ensures c.in-Ok.is)).1 in
    let few = (count_within r.result.value.n (passes r.result.value passed).chips).few in
    record { kiosk_value = passed; n_in_bounds = omega (arith, few, c.requires) }

pub returns-in-Err : goal.returns-in-Err
returns-in-Err c = again_refused c.args.text.now c.read-answer.ensures c.in-Err.is c.refused.ensures

pub returns-in-Ok : goal.returns-in-Ok
returns-in-Ok c =
    let r = c.read-answer in
    again_so c.args.text.now r.ensures c.in-Ok.is (prints_so (done tt) (text_of r.result.value) (ap tells c.in-Ok.is) c.text.ensures)
