-- `capture::reports::code_line` meets its contract.
-- Assumes nothing.
use mathlib.Core.Path.{refl}
use mathlib.Core.List.{[], ◌∷◌}
use Rattle.capture.proofs.Reported.{line_put}
use Rattle.capture.proofs.reports.code_line.Goals as goal

pub returns : goal.returns
returns c =
    let s = c in
    line_put (s.args.kind ∷ s.args.k ∷ s.args.code ∷ []) refl s.requires c.put_line.ensures
