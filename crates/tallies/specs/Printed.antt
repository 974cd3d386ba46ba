-- C-21, the lines of a tally: 13, chip and its four counts, for each chip below the largest N; then 14, code and tally, for each tally above
-- 0; then the refusal of the last capture, if it was refused.
-- Assumes nothing.
use Rattle.std.specs.Prelude.{◌≡◌, ℕ, List, [], ◌∷◌, ◌++◌, eqb, length, take}
use Rattle.base.specs.Lent.{laid}
use Rattle.base.specs.Pick.{pick}
use Rattle.lines.specs.Lines.{line_for, lines_at, eight_bytes}
use Rattle.capture.specs.Law.{end_line}
use Rattle.tallies.specs.declared.Counts.{Counts}
use Rattle.tallies.specs.declared.Tally.{Tally}
use Rattle.std.specs.declared.result.Result.{Result}
use Rattle.base.specs.declared.Refusal.{Refusal}
use Rattle.base.specs.Refusals.{tells}

-- 13, chip, and its four counts
abbrev pub chip_line : ℕ → Counts → List ℕ
chip_line k c = line_for (0x13 ∷ k ∷ (eight_bytes c.recorded ++ eight_bytes c.read ++ eight_bytes c.overwritten ++ eight_bytes c.cleared))

-- 14, code and tally, where the tally is above 0
abbrev pub code_line : ℕ → ℕ → List ℕ
code_line code count = pick (eqb count 0) [] (line_for (0x14 ∷ code ∷ eight_bytes count))

-- the chips below the largest N, then the codes by rising code
abbrev pub tally_lines : Tally → List ℕ
tally_lines t = lines_at chip_line 0 (take t.largest t.chips) ++ lines_at code_line 0 t.codes

-- and the line of a refusal last
unfoldable pub printed_of : Tally → (Result (Unit {0}) Refusal) → List ℕ
printed_of t end = tally_lines t ++ end_line (tells end)

-- what `print` does: the lines stand at the front of the lent array, the rest is as it was, and the answer is how many bytes they have
pub record Prints (t : Tally) (end : Result (Unit {0}) Refusal) (out : List ℕ) (r : ℕ) (out' : List ℕ) : Type 0 where
  pub count : r ≡ length (printed_of t end)
  pub bytes : out' ≡ laid (printed_of t end) out
