-- What the writer's answer says of a list of words, and of the buffer.
--     number_told      an answer that is a number: the tests were passed, and it is the number that is needed
--     refusal_told     an answer that is a refusal, where there is room: the tests gave it
--     room_told        the number is that of the samples
--     written_part     a list for which `write` tells a number passes the tests, and so many bytes are its samples
-- Assumes nothing.
use mathlib.Core.Path.{◌≡◌, refl, ap, sym, subst, ◌∙◌}
use mathlib.Core.Bool.{Bool, true, false}
use mathlib.Core.List.{List}
use Prim.Native.Nat.{ℕ, ◌/◌, ◌≤◌}
use native.Mathlib.Nat.{div-mul-le_self}
use native.Mathlib.Omega.{arith}
use borrow.Author.Tests.{le-leb}
use lib.Dec.{leb}
use lib.ListN.{length, take, drop}
use lib.Seq.{take_at}
use Rattle.base.specs.Pick.{pick}
use Rattle.base.specs.Refusals.{Told, IsDone, done, refused, tells}
use Rattle.base.proofs.Picks.{pick_yes}
use Rattle.writer.specs.Rows.{written, list_test}
use Rattle.writer.specs.Written.{room, answer_by, answer_of, bytes_by, Writes}
use Rattle.writer.proofs.Stretches.{samples_length}
use Rattle.std.specs.declared.result.Result.{Result}
use Rattle.base.specs.declared.Refusal.{Refusal}
use Rattle.std.specs.declared.result.Result.TheVariants.{Ok}

pub number_told : (t : Told (Unit {0})) (need have count : ℕ) → answer_by t need have ≡ done count → (t ≡ done tt) × (need ≡ count)
number_told (refused number place) need have count e = absurd (subst IsDone (sym e) tt)
number_told (done u) need have count e = (refl, enough (leb need have) e)
  where
    enough : (b : Bool) → pick b (done need) (refused 8 0) ≡ done count → need ≡ count
    enough true f = cc
    enough false f = absurd (subst IsDone (sym f) tt)

pub refusal_told : (t : Told (Unit {0})) (need have : ℕ) {number place : ℕ} → need ≤ have → answer_by t need have ≡ refused number place
    → t ≡ refused number place
refusal_told (refused number place) need have h e = ap untold e
  where
    untold : Told ℕ → Told (Unit {0})
    untold (done count) = done tt
    untold (refused m p) = refused m p
refusal_told (done u) need have h e = absurd (subst IsDone (sym (pick_yes _ _ (le-leb need have h)) ∙ e) tt)

module _ (n : ℕ) (ws out out' : List ℕ) (r : Result ℕ Refusal) (count : ℕ) (w : Writes n ws out r out') (e : r ≡ Ok count) where
  told : answer_of n ws out ≡ done count
  told = sym w.answer ∙ ap tells e

  both : (list_test n ws ≡ done tt) × (room n ws ≡ count)
  unfolding answer_of
  both = number_told (list_test n ws) (room n ws) (length out) count told

  pub room_told : room n ws ≡ count
  room_told = both.1

  pub written_part : (list_test n ws ≡ done tt) × (take count out' ≡ written n ws)
  written_part = (
    both.0,
    ap (take count) (w.bytes ∙ ap (λ t. bytes_by t (written n ws) out) told)
        ∙ take_at (written n ws) (drop (length (written n ws)) out) count
        (samples_length n (length ws / n) ws (omega (arith, div-mul-le_self (length ws) n)) ∙ room_told),
  )
