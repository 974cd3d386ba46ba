-- `lines::all_hex` meets its contract.
-- Assumes nothing.
use Rattle.std.proofs.Common.{◌∙◌, refl, ℕ, Bool, ◌&&◌, ltb, rules, tests}
use Rattle.std.specs.List.{list_all}
use Rattle.std.proofs.lemmas.Iterator.{YieldsList-from_slice}
use Rattle.std.proofs.lemmas.Iterator.Search.{all_from_yields_List}
use Rattle.std.proofs.lemmas.List.Recursion.{same_from_clauses}
use Rattle.lines.specs.Lines.{hex_of, all_hex}
use Rattle.lines.proofs.all_hex.Goals as goal

pub returns : goal.returns
unfolding all_hex
returns c =
    let digit : ℕ → Bool = λ ch. ltb (hex_of ch) 16 in
    all_from_yields_List digit _ _ _ c.all.ensures.ran (YieldsList-from_slice c.args.line.now cc) (λ x b q k. search (rules, tests))
    ∙ same_from_clauses (list_all digit) all_hex (λ ch rest. digit ch && rest) refl (λ _ _. refl) (λ _ _. refl) c.args.line.now
