-- Lines taken one after another, as the law of a text's output says it: proofs/Law.antt, proofs/Ends.antt. No contract cites these.
-- Assumes nothing.
use Rattle.std.specs.Prelude.{◌≡◌, ℕ, List, [], ◌∷◌, ◌++◌}
use Rattle.base.specs.Refusals.{Told, done, refused, IsDone, Outcome}
use Rattle.chain.specs.declared.Chain.{Chain}
use Rattle.lines.specs.Lines.{Line, bytes_in}
use Rattle.capture.specs.declared.Report.{Report}
use Rattle.capture.specs.Frames.{form_of}
use Rattle.capture.specs.Reports.{refusal_line}
use Rattle.capture.specs.Replay.{taken}
use Rattle.capture.specs.Parts.{out_of}

-- one line: the chain after it and what it writes, or its refusal
abbrev pub line_taken : Report → ℕ → Chain → Line → Outcome Chain (List ℕ)
line_taken what n ch l = taken what n ch (form_of n (bytes_in l))

-- no line is refused
unfoldable pub AllTaken : Report → ℕ → Chain → List Line → Type 0
AllTaken what n ch [] = Unit {0}
AllTaken what n ch (l ∷ ls) = IsDone (line_taken what n ch l).told × AllTaken what n (line_taken what n ch l).state ls

-- the chain after them
unfoldable pub chain_after : Report → ℕ → Chain → List Line → Chain
chain_after what n ch [] = ch
chain_after what n ch (l ∷ ls) = chain_after what n (line_taken what n ch l).state ls

-- what each wrote, one after another
unfoldable pub wrote : Report → ℕ → Chain → List Line → List ℕ
wrote what n ch [] = []
wrote what n ch (l ∷ ls) = out_of (line_taken what n ch l).told ++ wrote what n (line_taken what n ch l).state ls

-- the line that stands last where a text was refused; none, where it was taken to its end
abbrev pub end_line : Told (Unit {0}) → List ℕ
end_line (done u) = []
end_line (refused number line) = refusal_line number line

-- an output ends as a text did
abbrev pub EndsWith : List ℕ → Told (Unit {0}) → Type 0
EndsWith out end = (front : List ℕ) × (out ≡ front ++ end_line end)
