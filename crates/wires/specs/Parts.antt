-- What the walk's own functions promise to one another. No entry's promise cites these.
-- Assumes nothing.
use Rattle.std.specs.Prelude.{◌≡◌, ℕ, List, [], ◌∷◌, Some, None}
use Rattle.std.specs.declared.option.Option.{Option}
use Rattle.base.specs.Refusals.{Told, done, refused, Outcome}
use Rattle.capture.specs.Parts as C
use Rattle.ch450.specs.declared.Panel.{Panel}
use Rattle.lines.specs.Answers.{Puts}
use Rattle.lines.specs.Lines.{Line, bytes_in}
use Rattle.wires.specs.declared.frames.First.{First}
use Rattle.wires.specs.declared.walk.Took.{Took}
use Rattle.wires.specs.Frames.{Begin, first_of}

-- what the first line says: refusal 10 where it is missing
abbrev pub first_in : List Line → Told Begin
first_in [] = refused 10 0
first_in (l ∷ ls) = first_of (bytes_in l)

-- what `first_of` answers: none, where there is no first line of the form
abbrev pub first_by : Told Begin → Option First
first_by (done b) = Some (record { key = b.key; digits = b.digits })
first_by (refused number place) = None

-- a line's outcome: the panel, whether it was taken, and what it wrote
pub record Takes (o : Outcome Panel (List ℕ)) (at : ℕ) (out : List ℕ) (r : Took) (out' : List ℕ) : Type 0 where
  pub panel : r.panel ≡ o.state
  pub taken : r.taken ≡ C.is_taken o.told
  pub puts : Puts (C.out_of o.told) at out r.at out'
