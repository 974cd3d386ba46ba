-- `settings::printed::sample_lines` meets its contract. The invariant: the lines of the samples left, put where the loop stands, make the
-- whole.
-- Assumes nothing.
use mathlib.Core.Path.{◌≡◌}
use Rattle.std.specs.Slice.Iter.{chunks_rest, chunks_size}
use Rattle.base.proofs.Lent.{Fills}
use Rattle.settings.specs.Printing.{sample_lines}
use Rattle.settings.proofs.printed.sample_lines.Given as goal

abbrev pub invariant-loop-line : goal.invariant-loop-line
invariant-loop-line l =
    (chunks_size l.line-iterator ≡ 32) × Fills l.at (sample_lines l.samples) l.initial.out l.end (sample_lines (chunks_rest l.line-iterator)) l.out
