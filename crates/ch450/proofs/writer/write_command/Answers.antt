-- `ch450::writer::write_command` meets its contract: the stores and the two bytes fill the stretch one after another.
-- Assumes nothing.
use mathlib.Core.Path.{◌≡◌, ap, sym, subst, ◌∙◌}
use Prim.Native.Nat.{ℕ, ◌≤◌}
use lib.Dec.{T, leb, leb→le}
use lib.ListN.{length-set}
use Rattle.ch450.specs.Written.{byte_bits, clocking}
use Rattle.ch450.proofs.Filling.{command_filled}
use Rattle.ch450.proofs.writer.write_command.Goals as goal

-- up to 40 is within a stretch
within : {n : ℕ} (k : ℕ) → n ≡ 40 → T (leb k 40) → k ≤ n
within k e t = subst (λ m. k ≤ m) (sym e) (leb→le k 40 t)

pub bounds-out-37 : goal.bounds-out-37
bounds-out-37 c =
    let o = c in
    let s = o in
    within 38 (c.out-2-1.given.1 ∙ o.out-1.given.1 ∙ length-set s.args.out.now 0 1 ∙ s.requires) tt

pub bounds-out-38 : goal.bounds-out-38
bounds-out-38 c =
    let o = c in
    let s = o in
    simp length-set (within 39 (c.out-2-1.given.1 ∙ o.out-1.given.1 ∙ length-set s.args.out.now 0 1 ∙ s.requires) tt)

pub bounds-out-39 : goal.bounds-out-39
bounds-out-39 c =
    let o = c in
    let s = o in
    simp length-set (within 40 (c.out-2-1.given.1 ∙ o.out-1.given.1 ∙ length-set s.args.out.now 0 1 ∙ s.requires) tt)

pub shape_of-out : goal.shape_of-out
shape_of-out c =
    let o = c in
    simp length-set (c.out-2-1.given.1 ∙ o.out-1.given.1 ∙ length-set o.args.out.now 0 1)

pub returns : goal.returns
returns c =
    let s = c in
    command_filled s.args.word s.args.out.now s.requires
    (c.write_byte.ensures
    ∙ ap (λ (x : ℕ). clocking (byte_bits x)) c.field.ensures)
    (c.write_byte-2.ensures ∙ ap (λ (x : ℕ). clocking (byte_bits x)) c.field-2.ensures)
