-- `writer::lights::may_sleep` meets its contract. The invariant: what is said before the rows that were passed is what is said before all.
-- Assumes nothing.
use mathlib.Core.Path.{◌≡◌, ap, ◌∙◌}
use mathlib.Core.Logic.{⊎_elim}
use Prim.Native.Nat.{◌-◌, ◌%◌}
use native.Mathlib.Omega.{arith}
use Rattle.writer.specs.declared.lights.Lights.TheVariants.{Off, On, Asleep, Unsaid}
use Rattle.writer.specs.Lights.{off_before}
use Rattle.writer.proofs.Nearest.{off_found}
use Rattle.writer.proofs.lights.may_sleep.Goals as goal

pub returns-in-Off : goal.returns-in-Off
returns-in-Off c =
    off_found c.args.n c.args.words.now (c.args.place % c.args.n) c.loop-row.row c.loop-row-test.true c.lights_by_word.ensures Off c.in-Off.is
    ∙ c.loop-row.invariant

pub returns-in-On : goal.returns-in-On
returns-in-On c =
    off_found c.args.n c.args.words.now (c.args.place % c.args.n) c.loop-row.row c.loop-row-test.true c.lights_by_word.ensures On c.in-On.is
    ∙ c.loop-row.invariant

pub loop-row-preserved : goal.loop-row-preserved
loop-row-preserved c =
    let chip = c.args.place % c.args.n in
    let row = c.loop-row.row in
    let passed = off_found c.args.n c.args.words.now chip row c.loop-row-test.true c.lights_by_word.ensures in
    let same : off_before c.args.n c.args.words.now chip (row - 1) ≡ off_before c.args.n c.args.words.now chip row =
    ⊎_elim (passed Asleep) (passed Unsaid) c.in-Asleep.is in
    same ∙ c.loop-row.invariant

pub returns : goal.returns
unfolding off_before
returns c =
    let none : 0 ≡ c.loop-row.row = omega arith in
    ap (off_before c.args.n c.args.words.now (c.args.place % c.args.n)) none ∙ c.loop-row.invariant
