-- `zhaqsumir::alone` meets its contract: each arm of the match is a clause of the definition.
-- Assumes nothing.
use mathlib.Core.Path.{ap, sym, ◌∙◌}
use mathlib.Core.List.{[], ◌∷◌}
use Prim.Native.Nat.{ℕ}
use Rattle.base.specs.Refusals.{tells}
use Rattle.base.specs.declared.Refusal.{Refusal}
use Rattle.std.specs.declared.result.Result.{Result}
use Rattle.zhaqsumir.specs.Numbers.{alone}
use Rattle.zhaqsumir.proofs.alone.Goals as goal

pub returns-in-Ok : goal.returns-in-Ok
returns-in-Ok c = sym (ap (λ (x : Result ℕ Refusal). alone (tells x)) c.in-Ok.is)

pub returns-in-Err : goal.returns-in-Err
returns-in-Err c =
    (λ i. c.number.ensures i ∷ c.place.ensures i ∷ 0 ∷ [])
    ∙ sym (ap (λ (x : Result ℕ Refusal). alone (tells x)) c.in-Err.is)
