-- The writer's entry, refusals and all: what `write` answers, and every byte of the lent buffer.
-- Assumes nothing.
use Rattle.std.specs.Prelude.{◌≡◌, ℕ, ◌*◌, ◌/◌, List, leb, length}
use Rattle.base.specs.Lent.{laid}
use Rattle.base.specs.Pick.{pick}
use Rattle.base.specs.Refusals.{Told, done, refused, tells}
use Rattle.writer.specs.Rows.{width, written, list_test}
use Rattle.std.specs.declared.result.Result.{Result}
use Rattle.base.specs.declared.Refusal.{Refusal}

-- how many samples a list is written as
abbrev pub room : ℕ → List ℕ → ℕ
room n ws = width n * (length ws / n)

-- the list's own refusal, or 8 where the buffer is shorter than the samples, or their number
abbrev pub answer_by : Told (Unit {0}) → ℕ → ℕ → Told ℕ
answer_by (refused number place) need have = refused number place
answer_by (done u) need have = pick (leb need have) (done need) (refused 8 0)

-- the answer: refusals 3, 4, 5, words from the first on (6, 7, 13), 8
unfoldable pub answer_of : ℕ → List ℕ → List ℕ → Told ℕ
answer_of n ws out = answer_by (list_test n ws) (room n ws) (length out)

-- the buffer: the written samples at its front, or as it was where the list is refused
abbrev pub bytes_by : Told ℕ → List ℕ → List ℕ → List ℕ
bytes_by (refused number place) samples out = out
bytes_by (done count) samples out = laid samples out

-- what `write` does: its answer, and the buffer after it
pub record Writes (n : ℕ) (words out : List ℕ) (r : Result ℕ Refusal) (out' : List ℕ) : Type 0 where
  pub answer : tells r ≡ answer_of n words out
  pub bytes : out' ≡ bytes_by (answer_of n words out) (written n words) out
