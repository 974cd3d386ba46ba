-- `writer::write` meets its contract: its tests are the definition's, and only a list that passed them all is written.
-- Assumes nothing.
use mathlib.Core.Path.{◌≡◌, refl, ap, sym, ◌∙◌}
use mathlib.Core.List.{List}
use Prim.Native.Nat.{ℕ, ◌+◌, ◌*◌}
use native.Mathlib.Nat.{mul-le-mul_left}
use native.Mathlib.Omega.{arith}
use borrow.Author.Tests.{le-leb, lt-leb}
use lib.Dec.{leb}
use lib.ListN.{length}
use Rattle.base.specs.Pick.{pick}
use Rattle.base.specs.Refusals.{Told, done, refused, tells}
use Rattle.base.specs.declared.Refusal.TheVariants.{Room}
use Rattle.base.proofs.Picks.{pick_yes, pick_no}
use Rattle.writer.specs.Rows.{list_test, written}
use Rattle.writer.specs.Written.{Writes, answer_of, answer_by, bytes_by, room}
use Rattle.writer.proofs.Tests.{told_on, list_passed}
use Rattle.writer.proofs.write.Goals as goal
use Rattle.std.specs.declared.result.Result.{Result}
use Rattle.std.specs.declared.result.Result.TheVariants.{Ok, Err}
use Rattle.base.specs.declared.Refusal.{Refusal}

-- the answer where the list passed: what the buffer's length decides
told_so : (n : ℕ) (ws out : List ℕ) → list_test n ws ≡ done tt → answer_of n ws out ≡ pick (leb (room n ws) (length out)) (done (room n ws)) (refused 8 0)
unfolding answer_of
told_so n ws out e = ap (λ (t : Told (Unit {0})). answer_by t (room n ws) (length out)) e

-- a refusal leaves the buffer as it was
refused_so : (n : ℕ) (ws out : List ℕ) {number place : ℕ} (r : Result ℕ Refusal) → answer_of n ws out ≡ refused number place → tells r ≡ refused number place → Writes n ws out r out
refused_so n ws out r e t = record { answer = t ∙ sym e; bytes = sym (ap (λ (x : Told ℕ). bytes_by x (written n ws) out) e) }

-- an accepted list is written
written_so : (n : ℕ) (ws out : List ℕ) {out' : List ℕ} {count : ℕ} → answer_of n ws out ≡ done (room n ws) → count ≡ room n ws → out' ≡ bytes_by (done (room n ws)) (written n ws) out → Writes n ws out (Ok count) out'
written_so n ws out e c b = record { answer = ap done c ∙ sym e; bytes = b ∙ sym (ap (λ (x : Told ℕ). bytes_by x (written n ws) out) e) }

pub overflow_mul-n : goal.overflow_mul-n
overflow_mul-n c =
    let p = list_passed c.args.n c.args.words.now (sym c.in_ok-tested_list.ensures) in
    omega arith

pub overflow_add-n : goal.overflow_add-n
overflow_add-n c =
    let p = list_passed c.args.n c.args.words.now (sym c.in_ok-tested_list.ensures) in
    omega arith

pub nonzero_div-words : goal.nonzero_div-words
nonzero_div-words c =
    let p = list_passed c.args.n c.args.words.now (sym c.in_ok-tested_list.ensures) in
    omega arith

pub overflow_mul-n-2 : goal.overflow_mul-n-2
overflow_mul-n-2 c =
    let a = c.args in
    let p = list_passed c.args.n c.args.words.now (sym c.in_ok-tested_list.ensures) in
    omega (arith, mul-le-mul_left (24 * a.n + 2) p.rows)

pub returns-then-out-n : goal.returns-then-out-n
returns-then-out-n c =
    let a = c.args in
    refused_so a.n a.words.now a.out.now (Err Room)
    (told_so a.n a.words.now a.out.now (sym c.in_ok-tested_list.ensures) ∙ pick_no _ _ (lt-leb _ _ c.if-out-n.true)) refl

pub write_rows-requires : goal.write_rows-requires
write_rows-requires c =
    let a = c.args in
    let p = list_passed c.args.n c.args.words.now (sym c.in_ok-tested_list.ensures) in
    record { n_nonzero = (p.low, p.high); words_len_bound = p.words; n_in_bounds = c.if-out-n.false }

pub returns-in_err-tested_list : goal.returns-in_err-tested_list
unfolding answer_of
returns-in_err-tested_list c =
    let a = c.args in
    refused_so a.n a.words.now a.out.now _
    (ap (λ (t : Told (Unit {0})). answer_by t (room a.n a.words.now) (length a.out.now)) (sym c.in_err-tested_list.ensures))
    (told_on _ c.from_residual.result c.from_residual.ensures.1)

pub returns : goal.returns
returns c =
    let a = c.args in
    written_so a.n a.words.now a.out.now
    (told_so a.n a.words.now a.out.now (sym c.in_ok-tested_list.ensures) ∙ pick_yes _ _ (le-leb _ _ c.if-out-n.false))
    c.write_rows.ensures.value
    c.write_rows.ensures.out_after
