-- `lines::line_end` meets its contract.
-- Assumes nothing.
use mathlib.Core.Path.{refl, ap, sym, ◌∙◌}
use mathlib.Core.List.{List}
use denote.Ref.{Bor}
use Prim.Native.Nat.{ℕ, ◌+◌}
use lib.Dec.{eqb}
use lib.ListN.{length}
use Rattle.std.proofs.Common.{rules, tests, Bool}
use Rattle.std.specs.Option.{unwrap_or}
use Rattle.std.proofs.lemmas.Iterator.{YieldsList-from_slice}
use Rattle.std.proofs.lemmas.Iterator.Search.{position_from_yields_List}
use Rattle.lines.specs.Answers.{line_length}
use Rattle.lines.specs.Lines.{newline}
use Rattle.lines.proofs.Lines.{line_length_place, rest_from}
use Rattle.lines.proofs.line_end.Goals as goal

pub returns : goal.returns
returns c =
    let ends : ℕ → Bool = λ ch. eqb ch newline in
    let rest = c.unwrap_or-rest.result.now in
    let found = position_from_yields_List ends _ _ c.position.result c.position.ensures.ran (YieldsList-from_slice rest cc) (λ x b q k. search (rules, tests)) in
    let part = ap (λ (r : Bor (List ℕ)). r.now) c.unwrap_or-rest.ensures ∙ rest_from c.args.text.now c.args.from c.get.result c.get.ensures.lookup _ refl in
    ap (λ n. c.args.from + n) (c.unwrap_or-length.ensures ∙ ap (λ r. unwrap_or r (length rest)) found ∙ sym (line_length_place rest) ∙ ap line_length part)
