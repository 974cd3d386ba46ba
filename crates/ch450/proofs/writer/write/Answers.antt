-- `ch450::writer::write` meets its contract: its tests are the definition's, and only a list that passed them all is written.
-- Assumes nothing.
use mathlib.Core.Path.{◌≡◌, refl, ap, sym, ◌∙◌}
use mathlib.Core.List.{List}
use Prim.Native.Nat.{ℕ, ◌*◌}
use native.Mathlib.Omega.{arith}
use borrow.Author.Tests.{le-leb, lt-leb}
use lib.ListN.{length}
use Rattle.base.specs.Refusals.{Told, done, refused, refused_by, tells}
use Rattle.base.specs.declared.Refusal.TheVariants.{Room}
use Rattle.base.proofs.Picks.{pick_yes, pick_no}
use Rattle.ch450.specs.Written.{Writes, answer_of, answer_by, bytes_by, list_test, written}
use Rattle.ch450.proofs.Tests.{few_words}
use Rattle.ch450.proofs.writer.write.Goals as goal
use Rattle.std.specs.declared.result.Result.{Result}
use Rattle.std.proofs.lemmas.Result.{err_from_is_err_and}
use Rattle.std.specs.declared.result.Result.TheVariants.{Ok, Err}
use Rattle.base.specs.declared.Refusal.{Refusal}

-- the answer by the list's test
told_so : (ws out : List ℕ) {v w : Result (Unit {0}) Refusal} → tells v ≡ list_test ws → v ≡ w
    → answer_of ws out ≡ answer_by (tells w) (40 * length ws) (length out)
unfolding answer_of
told_so ws out e q = ap (λ (t : Told (Unit {0})). answer_by t (40 * length ws) (length out)) (sym e ∙ ap tells q)

-- a refusal leaves the buffer as it was
refused_so : (ws out : List ℕ) {number place : ℕ} (r : Result ℕ Refusal) → answer_of ws out ≡ refused number place
    → tells r ≡ refused number place
    → Writes ws out r out
refused_so ws out r e t = record { answer = t ∙ sym e; bytes = sym (ap (λ (x : Told ℕ). bytes_by x (written ws) out) e) }

-- an accepted list is written
written_so : (ws out : List ℕ) {out' : List ℕ} {count : ℕ} → answer_of ws out ≡ done (40 * length ws) → count ≡ 40 * length ws
    → out' ≡ bytes_by (done (40 * length ws)) (written ws) out
    → Writes ws out (Ok count) out'
written_so ws out e c b = record { answer = ap done c ∙ sym e; bytes = b ∙ sym (ap (λ (x : Told ℕ). bytes_by x (written ws) out) e) }

pub overflow_mul-words : goal.overflow_mul-words
overflow_mul-words c =
    let e = sym c.tested.ensures ∙ ap tells c.in_ok-tested.was in
    let few = few_words c.args.words.now e in
    omega arith

pub returns-then-out-words : goal.returns-then-out-words
returns-then-out-words c =
    let a = c.args in
    refused_so a.words.now a.out.now (Err Room)
    (told_so a.words.now a.out.now c.tested.ensures c.in_ok-tested.was
    ∙ pick_no _ _ (lt-leb _ _ c.if-out-words.true))
    refl

pub write_commands-requires : goal.write_commands-requires
write_commands-requires c =
    let a = c.args in
    let e = sym c.tested.ensures ∙ ap tells c.in_ok-tested.was in
    record { words_len_bound = few_words a.words.now e; words_in_bounds = c.if-out-words.false }

pub returns-in_err-tested : goal.returns-in_err-tested
returns-in_err-tested c =
    let a = c.args in
    let given = err_from_is_err_and c.from_residual.result c.from_residual.ensures.1 in
    refused_so a.words.now a.out.now c.from_residual.result (told_so a.words.now a.out.now c.tested.ensures c.in_err-tested.was)
    (ap tells given.1 ∙ ap refused_by given.2)

pub returns : goal.returns
returns c =
    let a = c.args in
    written_so a.words.now a.out.now
    (told_so a.words.now a.out.now c.tested.ensures
    c.in_ok-tested.was
    ∙ pick_yes _ _ (le-leb _ _ c.if-out-words.false))
    c.write_commands.ensures.value
    c.write_commands.ensures.out_after
