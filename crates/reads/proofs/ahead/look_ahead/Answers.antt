-- `reads::ahead::look_ahead` meets its contract. The invariant: what was looked at is as it should be for any chain whose last chip and levels
-- these are.
-- Assumes nothing.
use Rattle.std.proofs.Common.{◌≡◌, ◌^◌, ◌<◌, length, sym, refl, ap, ◌∙◌, subst, arith, rules}
use Rattle.base.proofs.Lists.{length_mapped}
use Rattle.reads.specs.Parts.{known_after}
use Rattle.reads.specs.Till.{keypad_on}
use Rattle.reads.proofs.Watching.{Watching, watching_start, watching_room, watching_more, no_end}
use Rattle.reads.proofs.ahead.look_ahead.Goals as goal

pub loop-i-init : goal.loop-i-init
loop-i-init c = λ ch long last was.
    let a = c.args in
    subst (λ levels. Watching a.n a.offset a.bytes.now ch a.reader a.at a.out.now c.chip_at-last.result (record { reader = a.reader; count = 0; levels = levels; at = a.at }) 12 a.out.now) (sym was)
    (watching_start a.n a.offset a.bytes.now ch a.reader a.at a.out.now long last)

pub put-end-requires : goal.put-end-requires
put-end-requires c = omega (arith, watching_room c.requires.n_value c.requires.bytes_in_bounds (c.loop-i.invariant c.args.chain (search (rules, length_mapped)) c.chip_at-last.ensures refl) c.loop-i-test.true)

pub loop-i-preserved : goal.loop-i-preserved
loop-i-preserved c = λ ch long last was.
    let a = c.args in
    let l = c.loop-i in
    let low : a.offset < 2 ^ 64 = search rules in
    let on = no_end l.known _ (sym c.is_end.ensures ∙ c.if-is_end.false) in
    watching_more c.requires.n_value c.requires.bytes_in_bounds (l.invariant ch long last was) low c.loop-i-test.true on.0 on.1
    c.look-looked.ensures c.put-end.ensures refl c.kept-seen.ensures
    (c.known_after-known.ensures ∙ ap (λ rises. known_after (keypad_on l.last) rises l.known) c.dclk_rises-rises.ensures) c.stepped-last.ensures

pub returns : goal.returns
returns c =
    let w = c.loop-i.invariant c.args.chain (search (rules, length_mapped)) c.chip_at-last.ensures refl in
    let all : c.loop-i.i ≡ length c.args.bytes.now = omega (arith, w.looks.within) in
    rw (sym all) w.looks
