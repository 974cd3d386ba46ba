-- `settings::puts::chip_lines` meets its contract. The invariant: the lines of the chips left, put where the loop stands, make the whole.
-- Assumes nothing.
use mathlib.Core.Path.{refl}
use native.Mathlib.Omega.{arith}
use lib.ListN.{get_or, take}
use Rattle.base.proofs.Every.{every_at}
use Rattle.lines.proofs.Each.{left_room, left_more, left_over}
use Rattle.settings.specs.Settings.{chip_line, legal_kept, no_kept}
use Rattle.settings.proofs.Putting.{fits_whole}
use Rattle.settings.proofs.Texts.{frame_length}
use Rattle.settings.proofs.puts.chip_lines.Goals as goal

pub chip_line-end-requires : goal.chip_line-end-requires
chip_line-end-requires c =
    let a = c.args in
    let cs = take a.n a.chips in
    let k = c.loop-k.k in
    let all = fits_whole a.n a.chips a.at a.out.now c.requires.n_in_bounds in
    let room = left_room chip_line cs a.at a.out.now all c.loop-k.invariant no_kept _ c.loop-k-test.true refl in
    record {
      c_value = every_at legal_kept cs k no_kept c.requires.chips_value c.loop-k-test.true;
      at_in_bounds = omega (arith, room, frame_length k (get_or cs k no_kept));
    }

pub loop-k-preserved : goal.loop-k-preserved
loop-k-preserved c =
    let a = c.args in
    let all = fits_whole a.n a.chips a.at a.out.now c.requires.n_in_bounds in
    left_more chip_line (take a.n a.chips) a.at a.out.now all c.loop-k.invariant no_kept _ c.loop-k-test.true refl c.chip_line-end.ensures

pub returns : goal.returns
returns c =
    let a = c.args in
    let all = fits_whole a.n a.chips a.at a.out.now c.requires.n_in_bounds in
    left_over chip_line (take a.n a.chips) a.at a.out.now all c.loop-k.invariant c.loop-k-test.false
