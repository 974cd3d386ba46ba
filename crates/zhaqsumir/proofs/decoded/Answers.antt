-- `zhaqsumir::decoded` meets its contract: each arm of the match is a clause of the definition.
-- Assumes nothing.
use mathlib.Core.Path.{ap, sym, ◌∙◌}
use mathlib.Core.List.{[], ◌∷◌}
use Rattle.zhaqsumir.specs.Numbers.{decode_by}
use Rattle.zhaqsumir.proofs.decoded.Goals as goal
use Rattle.std.specs.declared.result.Result.{Result}
use Rattle.base.specs.declared.Refusal.{Refusal}
use Rattle.word.specs.declared.Command.{Command}
use Rattle.base.specs.Refusals.{tells}

pub returns-in-Ok : goal.returns-in-Ok
returns-in-Ok c = c.meaning.ensures ∙ sym (ap (λ (x : Result Command Refusal). decode_by (tells x)) c.in-Ok.is)

pub returns-in-Err : goal.returns-in-Err
returns-in-Err c =
    (λ i. c.number.ensures i ∷ c.place.ensures i ∷ 0 ∷ 0 ∷ 0 ∷ 0 ∷ 0 ∷ 0 ∷ [])
    ∙ sym (ap (λ (x : Result Command Refusal). decode_by (tells x)) c.in-Err.is)
