-- `settings::frames::version_of` meets its contract: two bytes of four characters, the first 20.
-- Assumes nothing.
use mathlib.Core.Path.{sym}
use native.Mathlib.Omega.{arith}
use lib.Seq.{length-take-le}
use Rattle.settings.proofs.Tests.{version_short, version_other, version_so}
use Rattle.settings.proofs.frames.version_of.Goals as goal

pub returns-then-text-lt4 : goal.returns-then-text-lt4
returns-then-text-lt4 c = sym (version_short c.args.text.now c.if-text-lt4.true)

pub slice_bounds-frame_of-end : goal.slice_bounds-frame_of-end
slice_bounds-frame_of-end c = sym (length-take-le 4 c.args.text.now (omega arith))

pub returns-then-bytes-ne32 : goal.returns-then-bytes-ne32
returns-then-bytes-ne32 c = sym (version_other c.args.text.now c.frame_of.result c.frame_of.ensures c.if-bytes-ne32.true)

pub returns : goal.returns
returns c = sym (version_so c.args.text.now c.frame_of.result c.frame_of.ensures c.if-bytes-ne32.false)
