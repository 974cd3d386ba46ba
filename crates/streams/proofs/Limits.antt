-- Lines from a number on, of which so many are within the limit: what they write, line by line.
--     limited                                    what lines write, so many of them within the limit
--     limited_none, limited_full                 no line, and one where none is left
--     limited_more                               a line, and those after it
--     first_limited, long_first                   all lines of a text, by what the first says
--     long_within, long_past                     all lines, where they are within the limit, and where they are more
-- Assumes nothing.
use Rattle.std.proofs.Common.{◌≡◌, ℕ, suc, ◌<◌, ◌≤◌, Bool, true, false, leb, List, [], ◌∷◌, ◌++◌, length, take, refl, ap, ◌∙◌, ap₂, append_assoc, append-nil, take_all, le-leb}
use borrow.Author.Tests.{lt-leb}
use lib.Dec.{leb-zero, leb-suc-zero, leb-suc-suc}
use lib.Seq.{take-nil}
use Rattle.base.specs.Pick.{pick}
use Rattle.base.specs.Refusals.{Told, done, refused}
use Rattle.base.proofs.Picks.{pick_yes, pick_no}
use Rattle.chain.specs.declared.Chain.{Chain}
use Rattle.chain.specs.Entries.{start_chain, chip_at}
use Rattle.lines.specs.Lines.{Line, bytes_in}
use Rattle.capture.specs.declared.Report.{Report}
use Rattle.capture.specs.Frames.{Form, samples, scan, other, form_of, first_of}
use Rattle.capture.specs.Reports.{at_scan, refusal_line}
use Rattle.capture.specs.Replay.{rises_in, taken, and_then, lines_out, after_first, all_out, line_end, lines_end, first_end, all_end}
use Rattle.streams.specs.Text.{most_lines, one_more, long_out}

-- ---- what lines write

-- lines from number k on, of which m are within the limit
unfoldable pub limited : Report → ℕ → ℕ → ℕ → Chain → List Line → List ℕ
limited what n k m ch ls = lines_out what n k ch (take m ls) ++ pick (leb (length ls) m) [] (one_more (lines_end n k (take m ls)))

pub limited_none : (what : Report) (n k m : ℕ) (ch : Chain) → limited what n k m ch [] ≡ []
unfolding limited lines_out
limited_none what n k m ch =
    ap₂ ◌++◌ (ap (lines_out what n k ch) (take-nil m)) (pick_yes [] (one_more (lines_end n k (take m []))) (leb-zero m))

pub limited_full : (what : Report) (n k : ℕ) (ch : Chain) (l : Line) (ls : List Line) → limited what n k 0 ch (l ∷ ls) ≡ refusal_line 11 0
unfolding limited lines_out lines_end
limited_full what n k ch l ls = pick_no [] (refusal_line 11 0) (leb-suc-zero (length ls))

neither : (b : Bool) → ◌≡◌ {A = List ℕ} (pick b [] []) []
neither true = refl
neither false = refl

-- what comes after a line comes after what it wrote, and not at all where it was refused
by_form : (what : Report) (n k : ℕ) (ch : Chain) (form : Form) (rest : List ℕ) (b : Bool) (end : Told (Unit {0}))
    → and_then (taken what n ch form).told k rest ++ pick b [] (one_more (line_end form k end))
    ≡ and_then (taken what n ch form).told k (rest ++ pick b [] (one_more end))
by_form what n k ch (samples ss) rest b end = append_assoc (rises_in what n ss ch) rest (pick b [] (one_more end))
by_form what n k ch (scan c bytes) rest b end = append_assoc (at_scan what c bytes (chip_at c ch)) rest (pick b [] (one_more end))
by_form what n k ch other rest b end = ap (λ x. refusal_line 10 k ++ x) (neither b) ∙ append-nil (refusal_line 10 k)

pub limited_more : (what : Report) (n k m : ℕ) (ch : Chain) (l : Line) (ls : List Line) {form : Form} → form_of n (bytes_in l) ≡ form
    → limited what n k (suc m) ch (l ∷ ls)
    ≡ and_then (taken what n ch form).told k (limited what n (suc k) m (taken what n ch form).state ls)
unfolding limited lines_out lines_end
limited_more what n k m ch l ls {form} e =
    let t = taken what n ch (form_of n (bytes_in l)) in
    let rest = lines_out what n (suc k) t.state (take m ls) in
    let end = lines_end n (suc k) (take m ls) in
    ap (λ b. and_then t.told k rest ++ pick b [] (one_more (line_end (form_of n (bytes_in l)) k end))) (leb-suc-suc (length ls) m)
    ∙ by_form what n k ch (form_of n (bytes_in l)) rest (leb (length ls) m) end
    ∙ ap (λ f. and_then (taken what n ch f).told k (lines_out what n (suc k) (taken what n ch f).state (take m ls) ++ pick (leb (length ls) m) [] (one_more end))) e

-- ---- all lines

-- by what the first line says
unfoldable pub first_limited : Report → ℕ → Told ℕ → List Line → List ℕ
first_limited what m (done n) ls = limited what n 2 m start_chain ls
first_limited what m (refused number place) ls = refusal_line number 1

by_first : (what : Report) (m : ℕ) (t : Told ℕ) (ls : List Line)
    → after_first what t (take m ls) ++ pick (leb (length ls) m) [] (one_more (first_end t (take m ls))) ≡ first_limited what m t ls
unfolding first_limited limited
by_first what m (done n) ls = refl
by_first what m (refused number place) ls =
    ap (λ x. refusal_line number 1 ++ x) (neither (leb (length ls) m)) ∙ append-nil (refusal_line number 1)

-- with the limit as a variable
abbrev long_at : Report → ℕ → List Line → List ℕ
long_at what most ls = all_out what (take most ls) ++ pick (leb (length ls) most) [] (one_more (all_end (take most ls)))

long_at_lem : (what : Report) (m : ℕ) (l : Line) (ls : List Line) → long_at what (suc m) (l ∷ ls) ≡ first_limited what m (first_of (bytes_in l)) ls
long_at_lem what m l ls =
    ap (λ b. after_first what (first_of (bytes_in l)) (take m ls) ++ pick b [] (one_more (first_end (first_of (bytes_in l)) (take m ls)))) (leb-suc-suc (length ls) m)
    ∙ by_first what m (first_of (bytes_in l)) ls

pub long_first : (what : Report) (m : ℕ) → most_lines ≡ suc m → (l : Line) (ls : List Line)
    → long_out what (l ∷ ls) ≡ first_limited what m (first_of (bytes_in l)) ls
unfolding long_out
long_first what m e l ls = ap (λ most. long_at what most (l ∷ ls)) e ∙ long_at_lem what m l ls

within_at : (what : Report) (most : ℕ) (ls : List Line) → length ls ≤ most → long_at what most ls ≡ all_out what ls
within_at what most ls h =
    ap (λ out. all_out what (take most ls) ++ out) (pick_yes [] (one_more (all_end (take most ls))) (le-leb (length ls) most h))
    ∙ append-nil (all_out what (take most ls))
    ∙ ap (all_out what) (take_all most ls h)

past_at : (what : Report) (most : ℕ) (ls : List Line) → most < length ls → all_end (take most ls) ≡ done tt
    → long_at what most ls ≡ all_out what (take most ls) ++ refusal_line 11 0
past_at what most ls h d =
    ap (λ out. all_out what (take most ls) ++ out) (pick_no [] (one_more (all_end (take most ls))) (lt-leb (length ls) most h) ∙ ap one_more d)

pub long_within : (what : Report) (ls : List Line) → length ls ≤ most_lines → long_out what ls ≡ all_out what ls
unfolding long_out
long_within what ls h = within_at what most_lines ls h

pub long_past : (what : Report) (ls : List Line) → most_lines < length ls → all_end (take most_lines ls) ≡ done tt
    → long_out what ls ≡ all_out what (take most_lines ls) ++ refusal_line 11 0
unfolding long_out
long_past what ls h d = past_at what most_lines ls h d
