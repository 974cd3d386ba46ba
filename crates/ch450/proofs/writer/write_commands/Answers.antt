-- `ch450::writer::write_commands` meets its contract. The invariant: the samples of the commands left, put where the loop stands, make
-- the whole.
-- Assumes nothing.
use Rattle.std.proofs.Common.{◌≡◌, ◌+◌, ◌-◌, ◌*◌, arith}
use Rattle.base.proofs.Lent.{fills_start}
use Rattle.ch450.specs.Written.{written}
use Rattle.ch450.proofs.Filling.{commands_more, commands_over}
use Rattle.ch450.proofs.writer.write_commands.Goals as goal

pub loop-k-init : goal.loop-k-init
loop-k-init c = fills_start 0 (written c.args.words.now) c.args.out.now

pub loop-k-preserved : goal.loop-k-preserved
loop-k-preserved c =
    let l = c.loop-k in
    let wide : 40 * l.k + 40 - 40 * l.k ≡ 40 = omega arith in
    commands_more c.args.words.now c.args.out.now c.requires.words_in_bounds l.invariant c.loop-k-test.true wide c.write_command.ensures

pub returns-clause-out_after : goal.returns-clause-out_after
returns-clause-out_after c = commands_over c.args.words.now c.args.out.now c.requires.words_in_bounds c.loop-k.invariant c.loop-k-test.false
