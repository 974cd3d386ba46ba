-- Demand 1, "a refusal changes no chip and no byte of a lent buffer", of a tally: specs/Unchanged.antt, CountRefused and TallyRefused.
--     never, is_refusal                an answer is no refusal; a first number that isn't 0 tells one
--     run_kept, lines_kept             lines leave what those before the refused one leave
--     count_kept                       so does a text
--     count_refused, tally_refused     the two entries
-- Assumes nothing.
use mathlib.Core.Path.{◌≡◌, refl, ap, sym, ◌∙◌}
use mathlib.Core.List.{List, [], ◌∷◌, map}
use Prim.Native.Nat.{ℕ, suc, ◌-◌, ◌≤◌}
use native.Mathlib.Omega.{arith}
use lib.Dec.{leb}
use lib.ListN.{length, get_or, take}
use Rattle.base.specs.Refusals.{Told, done, refused, Outcome, hands_back, once_tested}
use Rattle.base.proofs.Picks.{pick_cases}
use Rattle.chain.specs.declared.Chain.{Chain}
use Rattle.chain.specs.Chain.{most}
use Rattle.chain.specs.Entries.{start_chain}
use Rattle.chain.specs.Events as Events
use Rattle.chain.specs.Events.{Event, sample}
use Rattle.lines.specs.Lines.{Line, lines_of, bytes_in}
use Rattle.capture.specs.Frames.{Form, samples, scan, other, first_of, form_of}
use Rattle.tallies.specs.declared.Tally.{Tally}
use Rattle.tallies.specs.Tallies.{fits}
use Rattle.tallies.specs.Counted.{counting, counted_events, counted_line, counted_lines, counted_after, counted_all, walked, counted_of, with_chips}
use Rattle.tallies.specs.Parts.{tally_of}
use Rattle.zhaqsumir.specs.Numbers.{number_in, place_in, chip_numbers, tally_in, TalliesNumbers}
use Rattle.zhaqsumir.proofs.Counts.{chips_back}
use Rattle.demands.specs.Unchanged.{tally_before, CountRefused, TallyRefused}

-- ---- what is told

-- an answer is no refusal
pub never {κ} : {A : Type 0} {B : Type κ} {a : A} {number place : ℕ} → done a ≡ refused number place → B
never e = let z : ◌≡◌ {A = ℕ} 0 1 = cc in absurd (omega arith)

-- a first number that isn't 0 tells a refusal
pub is_refusal : {A : Type 0} (t : Told A) {number : ℕ} → number_in t ≡ suc number → t ≡ refused (suc number) (place_in t)
is_refusal (done answer) {number} e = let z : 0 ≡ suc number = e in absurd (omega arith)
is_refusal (refused m place) e = ap (λ x. refused x place) e

-- ---- lines, one after another

-- a line that is refused is named, and leaves what it found
abbrev LineKept : {S : Type 0} → ℕ → S → Outcome S (Unit {0}) → Type 0
LineKept line s o = (number place : ℕ) → o.told ≡ refused number place → (line ≡ place) × (o.state ≡ s)

module _ {S : Type 0} (step : ℕ → S → Line → Outcome S (Unit {0})) (run : ℕ → S → List Line → Outcome S (Unit {0}))
    (none : (line : ℕ) (s : S) → run line s [] ≡ record { state = s; told = done tt })
    (one : (line : ℕ) (s : S) (l : Line) (ls : List Line)
    → run line s (l ∷ ls) ≡ once_tested (step line s l).told (step line s l).state (run (suc line) (step line s l).state ls))
    (kept : (line : ℕ) (s : S) (l : Line) → LineKept line s (step line s l))
  where
    -- lines refused at a place leave what those before it leave
    RunKept : ℕ → S → List Line → ℕ → Type 0
    RunKept line s ls place = (line ≤ place) × ((run line s ls).state ≡ (run line s (take (place - line) ls)).state)

    -- by what the first of them tells
    by_line : (line : ℕ) (s : S) (l : Line) (ls : List Line) (number place : ℕ) (t : Told (Unit {0})) → (step line s l).told ≡ t
        → ((run (suc line) (step line s l).state ls).told ≡ refused number place → RunKept (suc line) (step line s l).state ls place)
        → (run line s (l ∷ ls)).told ≡ refused number place → RunKept line s (l ∷ ls) place
    unfolding RunKept
    by_line line s l ls number place (done u) d more e =
        let next : List Line → Outcome S (Unit {0}) = run (suc line) (step line s l).state in
        let whole : (xs : List Line) → run line s (l ∷ xs) ≡ next xs = λ xs. one line s l xs ∙ ap (λ t. once_tested t (step line s l).state (next xs)) d in
        let r = more (sym (ap (λ o. o.told) (whole ls)) ∙ e) in
        let h = r.0 in
        let q : suc (place - suc line) ≡ place - line = omega arith in (
          omega arith,
          ap (λ o. o.state) (whole ls)
              ∙ r.1
              ∙ sym (ap (λ o. o.state) (whole (take (place - suc line) ls)))
              ∙ ap (λ k. (run line s (take k (l ∷ ls))).state) q,
        )
    by_line line s l ls number place (refused m p) d more e =
        let whole = one line s l ls ∙ ap (λ t. once_tested t (step line s l).state (run (suc line) (step line s l).state ls)) d in
        let k = kept line s l m p d in
        let at : p ≡ place = ap place_in (sym (ap (λ o. o.told) whole) ∙ e) in
        let same = k.0 in
        let q : 0 ≡ place - line = omega arith in (
          omega arith,
          ap (λ o. o.state) whole ∙ k.1 ∙ sym (ap (λ o. o.state) (none line s)) ∙ ap (λ j. (run line s (take j (l ∷ ls))).state) q,
        )

    run_kept : (line : ℕ) (s : S) (ls : List Line) (number place : ℕ) → (run line s ls).told ≡ refused number place → RunKept line s ls place
    run_kept line s [] number place e = never (sym (ap (λ o. o.told) (none line s)) ∙ e)
    run_kept line s (l ∷ ls) number place e =
        by_line line s l ls number place (step line s l).told refl (run_kept (suc line) (step line s l).state ls number place) e

-- ---- lines that are counted

events_kept : (n line : ℕ) (ch : Chain) (t : Tally) (es : List Event) → LineKept line (counting ch t) (counted_events n line (counting ch t) es)
events_kept n line ch t es =
    pick_cases (LineKept line (counting ch t)) (fits (length es) t) (λ h number place e. never e) (λ h number place e. (ap place_in e, refl))

line_kept : (n line : ℕ) (ch : Chain) (t : Tally) (form : Form) → LineKept line (counting ch t) (counted_line n line (counting ch t) form)
line_kept n line ch t (samples ss) = events_kept n line ch t (map sample ss)
line_kept n line ch t (scan k bytes) = events_kept n line ch t (Events.scan k bytes ∷ [])
line_kept n line ch t other = λ number place e. (ap place_in e, refl)

lines_kept : (n line : ℕ) (ch : Chain) (t : Tally) (ls : List Line) (number place : ℕ) → (counted_lines n line (counting ch t) ls).told ≡ refused number place
    → (line ≤ place) × ((counted_lines n line (counting ch t) ls).state ≡ (counted_lines n line (counting ch t) (take (place - line) ls)).state)
unfolding counted_lines RunKept
lines_kept n line ch t ls number place e =
    run_kept (λ k s l. counted_line n k s (form_of n (bytes_in l))) (λ k s xs. counted_lines n k s xs) (λ k s. refl) (λ k s l xs. refl)
    (λ k s l. line_kept n k s.chain s.tally (form_of n (bytes_in l)))
    line (counting ch t) ls number place e

-- ---- a text

-- a tally that is refused at a line is what the lines before it leave
abbrev Kept : Tally → List Line → Outcome Tally (Unit {0}) → Type 0
Kept t ls o = (number line : ℕ) → o.told ≡ refused number line → o.state ≡ (counted_all t (take (line - 1) ls)).state.tally

-- where no line is named, or the first, it is the one given
first_kept : (t : Tally) (ls : List Line) (number named : ℕ) → named ≤ 1 → Kept t ls (hands_back t number named)
first_kept t ls number named small m line e =
    let at : named ≡ line = ap place_in e in
    let q : 0 ≡ line - 1 = omega arith in
    ap (λ k. (counted_all t (take k ls)).state.tally) q

after_kept : (t : Tally) (first : Line) (ls : List Line) (told : Told ℕ) → first_of (bytes_in first) ≡ told → Kept t (first ∷ ls) (tally_of (counted_after t told ls))
after_kept t first ls (done n) d number line e =
    let r = lines_kept n 2 start_chain (with_chips n t) ls number line e in
    let h = r.0 in
    let q : suc (line - 2) ≡ line - 1 = omega arith in
    ap (λ s. s.tally) r.1
    ∙ sym (ap (λ told. (counted_after t told (take (line - 2) ls)).state.tally) d)
    ∙ ap (λ k. (counted_all t (take k (first ∷ ls))).state.tally) q
after_kept t first ls (refused m p) d number line e = first_kept t (first ∷ ls) m 1 (omega arith) number line e

all_kept : (t : Tally) (ls : List Line) → Kept t ls (tally_of (counted_all t ls))
all_kept t [] = first_kept t [] 10 1 (omega arith)
all_kept t (first ∷ ls) = after_kept t first ls (first_of (bytes_in first)) refl

count_kept : (t : Tally) (text : List ℕ) → Kept t (lines_of text) (counted_of t text)
unfolding walked
count_kept t text =
    let ls = lines_of text in
    pick_cases (λ o. Kept t ls (tally_of o)) (leb (length text) 65536)
    (λ short. pick_cases (λ o. Kept t ls (tally_of o)) (leb t.largest most) (λ few. all_kept t ls) (λ many. first_kept t ls 12 0 (omega arith)))
    (λ long. first_kept t ls 11 0 (omega arith))

-- ---- the entries

before_second : (t : Tally) (text : List ℕ) (line : ℕ) → line ≤ 1 → tally_before t text line ≡ t
before_second t text line small =
    let q : line - 1 ≡ 0 = omega arith in
    ap (λ k. (counted_all t (take k (lines_of text))).state.tally) q

pub count_refused : (t : Tally) (text : List ℕ) (number line : ℕ) → (counted_of t text).told ≡ refused number line → CountRefused t text line (counted_of t text).state
count_refused t text number line e =
    let kept = count_kept t text number line e in
    record { earlier = kept; same = λ small. kept ∙ before_second t text line small }

pub tally_refused : (text cs ts : List ℕ) (n : ℕ) (answer cs' ts' : List ℕ) (n' : ℕ) → TalliesNumbers text cs ts n answer cs' ts' n' → (number : ℕ)
    → get_or answer 0 0 ≡ suc number → TallyRefused text cs ts n (get_or answer 1 0) cs' ts' n'
tally_refused text cs ts n answer cs' ts' n' w number e =
    let t = tally_in cs ts n in
    let told = is_refusal (counted_of t text).told (sym (ap (λ xs. get_or xs 0 0) w.numbers) ∙ e) in
    let line = ap (λ xs. get_or xs 1 0) w.numbers in
    let kept = count_refused t text (suc number) (get_or answer 1 0) (told ∙ ap (refused (suc number)) (sym line)) in
    record {
      chips = w.chips ∙ ap (λ (x : Tally). chip_numbers x.chips) kept.earlier;
      codes = w.codes ∙ ap (λ (x : Tally). x.codes) kept.earlier;
      largest = w.largest ∙ ap (λ (x : Tally). x.largest) kept.earlier;
      same = λ small size. (
        w.chips ∙ ap (λ (x : Tally). chip_numbers x.chips) (kept.same small) ∙ chips_back cs size,
        w.codes ∙ ap (λ (x : Tally). x.codes) (kept.same small),
        w.largest ∙ ap (λ (x : Tally). x.largest) (kept.same small),
      );
    }
