-- `settings::puts::chip_line` meets its contract: six bytes, as a line.
-- Assumes nothing.
use mathlib.Core.Path.{sym}
use mathlib.Core.List.{[], ◌∷◌}
use Prim.Native.Nat.{◌+◌, ◌≤◌}
use native.Mathlib.Omega.{arith}
use lib.ListN.{length}
use Rattle.capture.proofs.Reported.{line_put}
use Rattle.lines.specs.Lines.{line_for}
use Rattle.settings.specs.Settings.{chip_line}
use Rattle.settings.proofs.Bytes.{in_range_lem}
use Rattle.settings.proofs.Texts.{frame_length}
use Rattle.settings.proofs.puts.chip_line.Goals as goal

pub display_byte-requires : goal.display_byte-requires
display_byte-requires c = (in_range_lem c.args.c c.requires.c_value).limit

pub returns : goal.returns
returns c =
    let a = c.args in
    let s = c.system_byte in
    let d = c.display_byte in
    let room : a.at + length (chip_line a.k a.c) ≤ length a.out.now = omega (arith, frame_length a.k a.c, c.requires.at_in_bounds) in
    line_put (0x21 ∷ a.k ∷ s.result ∷ d.result ∷ a.c.blink ∷ a.c.custom ∷ [])
    (λ i. line_for (0x21 ∷ a.k ∷ sym s.ensures i ∷ sym d.ensures i ∷ a.c.blink ∷ a.c.custom ∷ [])) room c.put_line.ensures
