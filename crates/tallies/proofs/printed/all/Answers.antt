-- `tallies::printed::all` meets its contract.
-- Assumes nothing.
use Rattle.tallies.proofs.PrintedLines.{chips_fit, codes_fit, end_fits, prints_so}
use Rattle.tallies.proofs.printed.all.Goals as goal

pub chip_lines-first-requires : goal.chip_lines-first-requires
chip_lines-first-requires c =
    let s = c in
    chips_fit s.args.tally s.args.answer s.args.out.now s.requires

pub code_lines-second-requires : goal.code_lines-second-requires
code_lines-second-requires c =
    let s = c in
    codes_fit s.args.tally s.args.answer s.args.out.now s.requires c.chip_lines-first.ensures

pub end_line-requires : goal.end_line-requires
end_line-requires c =
    let s = c in
    end_fits s.args.tally s.args.answer s.args.out.now s.requires c.chip_lines-first.ensures
    c.code_lines-second.ensures

pub returns : goal.returns
returns c =
    let s = c in
    prints_so s.args.tally s.args.answer s.args.out.now s.requires c.chip_lines-first.ensures
    c.code_lines-second.ensures c.end_line.ensures
