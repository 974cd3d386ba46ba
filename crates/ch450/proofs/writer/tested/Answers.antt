-- `ch450::writer::tested` meets its contract: the first word that is not writable is the lowest.
-- Assumes nothing.
use Rattle.std.proofs.Common.{rules, tests, ◌≡◌, ◌∙◌, sym, ap, position}
use Rattle.std.proofs.lemmas.Iterator.{YieldsList-from_slice}
use Rattle.std.proofs.lemmas.Iterator.Search.{position_from_yields_List}
use Rattle.ch450.proofs.Tests.{told_first, is_bad, first_bad, list_long, list_short}
use Rattle.ch450.proofs.writer.tested.Goals as goal

pub returns-then-words-gt-MOST_COMMANDS : goal.returns-then-words-gt-MOST_COMMANDS
returns-then-words-gt-MOST_COMMANDS c = sym (list_long c.args.words.now c.if-words-gt-MOST_COMMANDS.true)

pub returns-in-Some : goal.returns-in-Some
returns-in-Some c =
    let ws = c.args.words.now in
    let p : c.position.result ≡ position is_bad ws =
    position_from_yields_List is_bad _ _ c.position.result c.position.ensures.ran (YieldsList-from_slice ws cc) (λ x b q k. search (rules, tests)) in
    ap told_first (sym c.in-Some.is ∙ p) ∙ sym (first_bad ws) ∙ sym (list_short ws c.if-words-gt-MOST_COMMANDS.false)

pub returns-in-None : goal.returns-in-None
returns-in-None c =
    let ws = c.args.words.now in
    let p : c.position.result ≡ position is_bad ws =
    position_from_yields_List is_bad _ _ c.position.result c.position.ensures.ran (YieldsList-from_slice ws cc) (λ x b q k. search (rules, tests)) in
    ap told_first (sym c.in-None.is ∙ p) ∙ sym (first_bad ws) ∙ sym (list_short ws c.if-words-gt-MOST_COMMANDS.false)
