-- `settings::printed::setup` meets its contract: what was read passes the writer's tests, and its rows are laid out.
-- Assumes nothing.
use native.Mathlib.Omega.{arith}
use Rattle.settings.proofs.OneText.{read_written}
use Rattle.settings.proofs.Printing.{read_done, setup_so, setup_refused}
use Rattle.settings.proofs.printed.setup.Goals as goal

pub refused-requires : goal.refused-requires
refused-requires c = omega (arith, c.requires)

pub laid_out-requires : goal.laid_out-requires
laid_out-requires c =
    let r = c.read-answer in
    let text = c.args.text.now in
    record { kiosk_value = (read_written text r.result.value (read_done text r.ensures c.in-Ok.is)).1; in_bounds = c.requires }

pub returns-in-Err : goal.returns-in-Err
returns-in-Err c = setup_refused c.args.text.now c.read-answer.ensures c.in-Err.is c.refused.ensures

pub returns-in-Ok : goal.returns-in-Ok
returns-in-Ok c = setup_so c.args.text.now c.read-answer.ensures c.in-Ok.is c.laid_out.ensures
