-- `zhaqsumir::kiosks::write` meets its contract: numbers that pass the tests stand for the settings that are written.
-- Assumes nothing.
use mathlib.Core.Path.{sym}
use Rattle.writer.proofs.Tests.{told_on}
use Rattle.settings.specs.Settings.{text_of}
use Rattle.zhaqsumir.proofs.SettingsNumbers.{puts_refused, puts_done}
use Rattle.zhaqsumir.proofs.kiosks.write.Goals as goal

pub returns-in_err-tested : goal.returns-in_err-tested
returns-in_err-tested c =
    puts_refused text_of c.args.numbers.now c.args.out.now _ _ (told_on _ c.from_residual.result c.from_residual.ensures.1) (sym c.in_err-tested.ensures)

pub returns : goal.returns
returns c = puts_done text_of c.args.numbers.now c.args.out.now (sym c.in_ok-tested.ensures) c.kiosk_of.ensures c.write.ensures
