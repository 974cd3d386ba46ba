-- `writer::write_word` meets its contract. The invariant: the samples written so far, and those of the bits left, are the word's.
-- Assumes nothing.
use mathlib.Core.Path.{ap, sym, ◌∙◌}
use mathlib.Core.List.{◌++◌}
use Prim.Native.Nat.{ℕ, ◌+◌, ◌*◌}
use lib.ListN.{set, take, drop}
use Rattle.writer.specs.Rows.{word_bits, clocking}
use Rattle.writer.proofs.Filling.{word_more, word_over}
use Rattle.writer.proofs.write_word.Goals as goal

pub loop-at-preserved : goal.loop-at-preserved
loop-at-preserved c =
    let l = c.loop-at in
    let w = c.args.w in
    ap (λ (x : ℕ). take ((l.at + 1) * 2) (set (set l.out (l.at * 2) (4 + x)) (l.at * 2 + 1) (6 + x)) ++ clocking 4 (drop (l.at + 1) (word_bits w))) c.field-b.ensures
    ∙ word_more w l.at l.out c.loop-at-test.true (l.auto.out ∙ c.requires)
    ∙ l.invariant

pub returns : goal.returns
returns c =
    let l = c.loop-at in
    sym (word_over c.args.w l.out l.at c.loop-at-test.false (l.auto.out ∙ c.requires)) ∙ l.invariant
