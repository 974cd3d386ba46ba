-- `settings::puts::row` meets its contract. The invariant is `RowLeft`: the words left, put where the loop stands, make the row.
-- Assumes nothing.
use mathlib.Core.Path.{◌≡◌, ap, subst, ◌∙◌}
use Prim.Native.Nat.{ℕ, ◌+◌, ◌≤◌}
use native.Mathlib.Omega.{arith}
use lib.ListN.{length, take}
use lib.Seq.{length-take-le}
use Rattle.base.proofs.Every.{every_at}
use Rattle.base.proofs.Lists.{length_mapped}
use Rattle.chain.specs.Chain.{most}
use Rattle.lines.specs.Answers.{Puts}
use Rattle.lines.proofs.Each.{front_few}
use Rattle.word.specs.Words.{legal, word_of}
use Rattle.settings.specs.Settings.{legal_kept, no_kept, row_for}
use Rattle.settings.proofs.Putting.{legal_part, row_more, row_over}
use borrow.Author.Rules.{rules}
use Rattle.settings.proofs.puts.row.Goals as goal

pub word_of-requires : goal.word_of-requires
word_of-requires c =
    let a = c.args in
    ap legal c.command_for.ensures
    ∙ legal_part _ (every_at legal_kept (take a.n a.chips) c.loop-k.k no_kept c.requires.chips_value c.loop-k-test.true) a.part

pub loop-k-preserved : goal.loop-k-preserved
loop-k-preserved c =
    let a = c.args in
    let cs = take a.n a.chips in
    let room : a.at + length cs ≤ length a.words.now = omega (arith, front_few a.n a.chips a.n (omega arith), c.requires.n_in_bounds) in
    row_more a.part cs a.at a.words.now room c.loop-k.k c.loop-k.invariant no_kept c.loop-k-test.true (c.word_of.ensures ∙ ap word_of c.command_for.ensures)

pub returns : goal.returns
returns c =
    let a = c.args in
    let l = c.loop-k in
    let cs = take a.n a.chips in
    let size : length a.chips ≡ most = search (rules, length_mapped) in
    let all : length cs ≡ a.n = length-take-le a.n a.chips (omega (arith, c.requires.n_le_most)) in
    let room : a.at + length cs ≤ length a.words.now = omega (arith, c.requires.n_in_bounds) in
    let last : a.at + l.k ≡ a.at + a.n = omega (arith, l.auto.k-end, c.loop-k-test.false) in
    subst (λ (m : ℕ). Puts (row_for a.part cs) a.at a.words.now m l.words) last (row_over a.part cs a.at a.words.now room l.k l.invariant c.loop-k-test.false)
