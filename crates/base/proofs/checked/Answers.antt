-- `base::checked` meets its contract: the first place above the highest sample is the lowest.
-- Assumes nothing.
use Rattle.std.proofs.Common.{rules, tests, ◌≡◌, ◌∙◌, sym, ap, ltb, position}
use Rattle.std.proofs.lemmas.Iterator.{YieldsList-from_slice}
use Rattle.std.proofs.lemmas.Iterator.Search.{position_from_yields_List}
use Rattle.base.proofs.Samples.{told_first, check_first}
use Rattle.base.proofs.checked.Goals as goal

pub returns-in-Some : goal.returns-in-Some
returns-in-Some c =
    let a = c.args in
    let p : c.position.result ≡ position (ltb a.most) a.samples.now =
    position_from_yields_List (ltb a.most) _ _ c.position.result c.position.ensures.ran (YieldsList-from_slice a.samples.now cc) (λ x b q k. search (rules, tests)) in
    ap told_first (sym c.in-Some.is ∙ p) ∙ sym (check_first a.most a.samples.now)

pub returns-in-None : goal.returns-in-None
returns-in-None c =
    let a = c.args in
    let p : c.position.result ≡ position (ltb a.most) a.samples.now =
    position_from_yields_List (ltb a.most) _ _ c.position.result c.position.ensures.ran (YieldsList-from_slice a.samples.now cc) (λ x b q k. search (rules, tests)) in
    ap told_first (sym c.in-None.is ∙ p) ∙ sym (check_first a.most a.samples.now)
