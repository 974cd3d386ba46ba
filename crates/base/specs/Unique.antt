-- What it is for a function's contract to allow one outcome only (document 01, "How tight the statements are").
--     AllowsOne           of a function that the borrow checker covers
--     AllowsOneWalked     of any contract, read by its generated clauses
-- Assumes nothing.
use Rattle.std.specs.Prelude.{◌≡◌, List, ℕ}
use seplogic.Ra.Ura.{Ura}
use base.Logic.{SProp}
use prog.Memory.{Memory}
use prog.Routine.{Routine}
use types.Logic.{Logic}
use contract.Lifetimes.{Lfts}
use contract.Monad.{Fun, fact}
use denote.Triple.Entry.{Args, Res}
use denote.Triple.Clauses.{Ended, Clauses, Lasts, AtExit, at_exit}
use borrow.Fn.Kinds.{ParamKind, ResultKind, Dens, res_t, ended_of, Out}

-- `learnt` is what a caller of a function learns of a call by the function's contract: the generated definition `Reads.Learnt` of the
-- function; its `Kinds` has the parameters' and the result's kinds. For all arguments a, any two results x and y that it allows
-- coincide, and so do the last contents of whatever was lent to be written to
abbrev pub AllowsOne : {n : ℕ} (ps : List (ParamKind n)) (r : ResultKind n) → Out n ps r → Type 0
AllowsOne {n} ps r learnt = (κs : Lfts n) (a : Dens κs ps) (x y : (res_t r κs).Denot) (last last' : Lasts (ended_of n ps r) κs a)
    → learnt κs a x (at_exit (ended_of n ps r) κs a last)
    → learnt κs a y (at_exit (ended_of n ps r) κs a last')
    → (x ≡ y) × (last ≡ last')

-- `ended` and `clauses` are the generated definitions of a function's signature and contract. Of a contract that is read by these it is
-- said here that what `clauses` ensures is one plain fact, `learnt`, whatever the logic's other arguments are; and that allows one outcome
pub record AllowsOneWalked (ended : Ended) (clauses : (M : Type 1) (𝓤 : Ura M) (𝓛 : Logic 𝓤) → (Memory → SProp 𝓤) → (Routine → Fun 𝓤) → Clauses 𝓤 ended) : Type 2 where
  pub learnt : (κs : Lfts ended.signature.lifetimes) → Args ended.signature κs → Res ended.signature κs → AtExit ended κs → Type 0
  pub says : (M : Type 1) (𝓤 : Ura M) (𝓛 : Logic 𝓤) (mem : Memory → SProp 𝓤) (run : Routine → Fun 𝓤) (κs : Lfts ended.signature.lifetimes) (a : Args ended.signature κs)
      → (g : (clauses M 𝓤 𝓛 mem run κs a).ghost) (x : Res ended.signature κs) (s : AtExit ended κs)
      → (clauses M 𝓤 𝓛 mem run κs a).ensures g x s ≡ fact 𝓤 (learnt κs a x s)
  pub one : (κs : Lfts ended.signature.lifetimes) (a : Args ended.signature κs) (x y : Res ended.signature κs) (last last' : Lasts ended κs a)
      → learnt κs a x (at_exit ended κs a last)
      → learnt κs a y (at_exit ended κs a last')
      → (x ≡ y) × (last ≡ last')
