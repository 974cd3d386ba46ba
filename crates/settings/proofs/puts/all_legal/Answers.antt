-- `settings::puts::all_legal` meets its contract.
-- Assumes nothing.
use mathlib.Core.Bool.{◌&&◌}
use lib.ListN.{take}
use Rattle.std.proofs.Common.{◌∙◌, refl, rules, tests}
use Rattle.std.specs.List.{list_all}
use Rattle.std.proofs.lemmas.Iterator.{YieldsList-from_slice}
use Rattle.std.proofs.lemmas.Iterator.Search.{all_from_yields_List}
use Rattle.std.proofs.lemmas.List.Recursion.{same_from_clauses}
use Rattle.base.specs.Below.{every}
use Rattle.settings.specs.Settings.{legal_kept}
use Rattle.settings.proofs.puts.all_legal.Goals as goal

pub returns : goal.returns
unfolding every
returns c =
    let cs = take c.args.n c.args.chips in
    all_from_yields_List legal_kept _ _ _ c.all.ensures.ran (YieldsList-from_slice cs cc) (λ x b q k. search (rules, tests))
    ∙ same_from_clauses (list_all legal_kept) (every legal_kept) (λ c rest. legal_kept c && rest) refl (λ _ _. refl) (λ _ _. refl) cs
