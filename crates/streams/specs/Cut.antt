-- A stream handed over in blocks, one after another. No contract cites these: proofs/Whole.antt says that where a stream is cut doesn't
-- matter.
-- Assumes nothing.
use Rattle.std.specs.Prelude.{ℕ, List, [], ◌∷◌, ◌++◌}
use Rattle.capture.specs.declared.Report.{Report}
use Rattle.streams.specs.declared.Stream.{Stream}
use Rattle.streams.specs.Steps.{After, fed}

-- the bytes of blocks, joined
unfoldable pub joined : List (List ℕ) → List ℕ
joined [] = []
joined (block ∷ blocks) = block ++ joined blocks

-- a block, and then what comes after it
abbrev pub and_after : After → (Stream → After) → After
and_after x rest = record { stream = (rest x.stream).stream; out = x.out ++ (rest x.stream).out }

-- blocks one after another
unfoldable pub fed_all : Report → Stream → List (List ℕ) → After
fed_all what s [] = record { stream = s; out = [] }
fed_all what s (block ∷ blocks) = and_after (fed what s block) (λ next. fed_all what next blocks)
