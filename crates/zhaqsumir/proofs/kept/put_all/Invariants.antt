-- `zhaqsumir::kept::put_all` meets its contract. The invariant: the numbers of the chips left, put where the loop stands, make the whole.
-- Assumes nothing.
use mathlib.Core.List.{List}
use Prim.Native.Nat.{ℕ}
use Rattle.base.proofs.Lent.{Fills}
use Rattle.lines.proofs.Each.{lines_left}
use Rattle.settings.specs.declared.Kept.{Kept}
use Rattle.zhaqsumir.specs.Settings.{kept_numbers}
use Rattle.zhaqsumir.proofs.kept.put_all.Given as goal

-- a chip's numbers, whichever chip it is
abbrev own : ℕ → Kept → List ℕ
own k c = kept_numbers c

abbrev pub invariant-loop-c : goal.invariant-loop-c
invariant-loop-c l =
    Fills l.from (lines_left own l.fn.chips 0) l.initial.numbers l.end (lines_left own l.fn.chips l.c-index) l.numbers
