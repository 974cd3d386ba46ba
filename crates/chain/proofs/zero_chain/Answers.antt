-- `chain::zero_chain` meets its contract.
-- Assumes nothing.
use mathlib.Core.Path.{ap}
use mathlib.Core.Bool.{false}
use lib.ListN.{replicate}
use Rattle.chip.specs.declared.Settings.{Settings}
use Rattle.chip.specs.Record.{blank}
use Rattle.chain.specs.Chain.{most}
use Rattle.chain.proofs.zero_chain.Goals as goal

pub returns : goal.returns
returns c =
    ap
    (λ (s : Settings).
    record {
      chips =
          replicate most
          (record {
            line = record { register = 0; latch = false; readout = record { code = 0; left = 0 } };
            settings = s;
            digits = blank;
            keys = record { code = 0; interrupt = false; last = 0 };
          });
      levels = 0;
    })
    c.reset_settings.ensures
