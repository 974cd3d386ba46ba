-- `settings::frames::kept` meets its contract: each bit and field is the byte's.
-- Assumes nothing.
use Rattle.settings.proofs.frames.kept.Goals as goal

pub returns : goal.returns
returns c =
    λ i. record {
      system = record { intm = c.bit.ensures i; sspd = c.bit-2.ensures i; dplr = c.bit-3.ensures i; keyb = c.bit-4.ensures i; disp = c.bit-5.ensures i };
      display = record { mode = c.bit-6.ensures i; limit = c.field.ensures i };
      blink = c.args.blink;
      custom = c.args.custom;
    }
