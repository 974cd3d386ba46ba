-- What steps wrote and, after it, what the end writes: how a whole stream's output is made of one step and of those after it.
--     stands                           a state, by what stands in it
--     written                          what steps of a kind wrote, and then the end
--     written_going, written_stopped   a step that goes on, and one that was refused
-- Assumes nothing.
use Rattle.std.proofs.Common.{◌≡◌, ℕ, List, ◌++◌, append_assoc, append-nil}
use Rattle.base.specs.Pick.{pick}
use Rattle.chain.specs.declared.Chain.{Chain}
use Rattle.reads.specs.declared.Reader.{Reader}
use Rattle.streams.specs.declared.Kind.{Kind}
use Rattle.streams.specs.declared.Kind.TheVariants.{Over}
use Rattle.streams.specs.declared.State.{State}
use Rattle.streams.specs.declared.held.Held.{Held}
use Rattle.streams.specs.Steps.{Stepped, going, stopped, then, end_by}

-- a state, by what stands in it
abbrev pub stands : ℕ → Chain → Reader → ℕ → Held → State
stands n ch r place held = record { n = n; chain = ch; place = place; held = held; reader = r }

-- the steps' output, and then the end's
abbrev pub written : Kind → Stepped → List ℕ
written kind x = x.out ++ end_by (pick x.over Over kind) x.state

pub written_going : (kind : Kind) (s : State) (out : List ℕ) (rest : State → Stepped)
    → written kind (then (going s out) rest) ≡ out ++ written kind (rest s)
written_going kind s out rest = append_assoc out (rest s).out (end_by (pick (rest s).over Over kind) (rest s).state)

pub written_stopped : (kind : Kind) (s : State) (out : List ℕ) (rest : State → Stepped) → written kind (then (stopped s out) rest) ≡ out
written_stopped kind s out rest = append-nil out
