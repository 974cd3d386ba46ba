-- What the walk's own functions promise to one another and those of `takes` to the other crates, and what `chips_in` and `chips_of`
-- answer. No entry's promise cites these.
-- Assumes nothing.
use Rattle.std.specs.Prelude.{◌≡◌, ℕ, Bool, true, false, List, [], ◌∷◌, Option, Some, None}
use Rattle.base.specs.Refusals.{Told, done, refused, Outcome, tells}
use Rattle.chain.specs.declared.Chain.{Chain}
use Rattle.lines.specs.Answers.{Puts}
use Rattle.lines.specs.Lines.{Line, bytes_in}
use Rattle.capture.specs.declared.Replayed.{Replayed}
use Rattle.capture.specs.declared.walk.Took.{Took}
use Rattle.capture.specs.Frames.{first_of}

-- what the first line says: refusal 10 where it is missing
abbrev pub first_in : List Line → Told ℕ
first_in [] = refused 10 0
first_in (l ∷ ls) = first_of (bytes_in l)

-- the number of chips that it tells; none where it is refused
abbrev pub chips_told : Told ℕ → Option ℕ
chips_told (done n) = Some n
chips_told (refused number place) = None

-- the number of chips of a report; 0 where the first line is refused
abbrev pub chips_in : Told ℕ → ℕ
chips_in (done n) = n
chips_in (refused number place) = 0

-- what a line that was taken wrote; nothing, where it was refused
abbrev pub out_of : Told (List ℕ) → List ℕ
out_of (done out) = out
out_of (refused number place) = []

-- it was taken
abbrev pub is_taken : Told (List ℕ) → Bool
is_taken (done out) = true
is_taken (refused number place) = false

-- a line's outcome: the chain, whether it was taken, and what it wrote
pub record Takes (o : Outcome Chain (List ℕ)) (at : ℕ) (out : List ℕ) (r : Took) (out' : List ℕ) : Type 0 where
  pub chain : r.chain ≡ o.state
  pub taken : r.taken ≡ is_taken o.told
  pub puts : Puts (out_of o.told) at out r.at out'

-- a last piece was put at a place, the answer counts the bytes up to its end, and tells how the text ended
pub record Ends (piece : List ℕ) (end : Told (Unit {0})) (at : ℕ) (out : List ℕ) (r : Replayed) (out' : List ℕ) : Type 0 where
  pub puts : Puts piece at out r.bytes out'
  pub answer : tells r.answer ≡ end
