-- A whole text: the samples and scans of its lines are the events of a started chain.
--     text_plays      the chain and the tally after a text are what the samples and scans of the lines that were taken leave
-- Assumes nothing.
use mathlib.Core.Path.{◌≡◌, refl, ap, ap₂, sym, subst, ◌∙◌}
use mathlib.Core.Bool.{Bool, true, false, and-eq-true_iff, ◌&&◌}
use mathlib.Core.List.{List, [], ◌∷◌, ◌++◌, map, append-nil}
use Prim.Native.Nat.{ℕ, suc, ◌≤◌, ◌<◌}
use native.Mathlib.Omega.{arith}
use lib.Dec.{eqb, leb, ltb}
use lib.ListN.{length}
use borrow.Author.Tests.{leb-true, ltb-true}
use Rattle.base.specs.Pick.{pick}
use Rattle.base.specs.Refusals.{Told, done, refused, Outcome, hands_back, once_tested}
use Rattle.base.proofs.Picks.{pick_cases}
use Rattle.chain.specs.declared.Chain.{Chain}
use Rattle.chain.specs.Chain.{most, checked_from}
use Rattle.chain.specs.Entries.{start_chain}
use Rattle.chain.specs.Events as Events
use Rattle.chain.specs.Events.{Event, sample, happened, ScansBelow}
use Rattle.chain.proofs.Histories.{happened_append}
use Rattle.lines.specs.Lines.{Line, lines_of, bytes_in}
use Rattle.capture.specs.Frames.{Form, samples, scan, other, samples_by, scan_form, form_of, first_of}
use Rattle.tallies.specs.declared.Tally.{Tally}
use Rattle.tallies.specs.declared.walk.Counting.{Counting}
use Rattle.tallies.specs.Tallies.{added, fits}
use Rattle.tallies.specs.Counted.{counted_events, counted_line, counted_lines, counted_after, counted_all, walked, begun, with_chips}
use Rattle.capture.specs.Parts.{first_in, chips_in}
use Rattle.tallies.specs.Balance.{with_largest, events_in, taken_then, taken_in, taken_after, taken_all, chips_of, Played, TextsPlay}
use Rattle.tallies.specs.Parts.{counting_after}
use Rattle.tallies.proofs.Appends.{happened_size, added_append, added_none}

-- ---- lines

-- events lead from a chain and a tally to others
record Leads (n : ℕ) (es : List Event) (s u : Counting) : Type 0 where
  below : ScansBelow n es
  chain : u.chain ≡ happened n es s.chain
  tally : u.tally ≡ added n es s.chain s.tally

scans_append : (n : ℕ) (es fs : List Event) → ScansBelow n es → ScansBelow n fs → ScansBelow n (es ++ fs)
scans_append n [] fs p q = q
scans_append n (sample s ∷ es) fs p q = scans_append n es fs p q
scans_append n (Events.scan k bytes ∷ es) fs p q = (p.0, scans_append n es fs p.1 q)

no_scans : (n : ℕ) (ss : List ℕ) → ScansBelow n (map sample ss)
no_scans n [] = tt
no_scans n (s ∷ ss) = no_scans n ss

-- a scan's chip is below N
abbrev FormBelow : ℕ → Form → Type 0
FormBelow n (samples ss) = Unit {0}
FormBelow n (scan k bytes) = k < n
FormBelow n other = Unit {0}

module _ (n : ℕ) (small : n ≤ most) where
  stay : (s : Counting) → Leads n [] s s
  stay s = record { below = tt; chain = refl; tally = sym (added_none n s.chain s.tally) }

  then : {s u v : Counting} (es fs : List Event) → length s.chain.chips ≡ most → Leads n es s u → Leads n fs u v → Leads n (es ++ fs) s v
  then {s} {u} {v} es fs size p q =
      record {
        below = scans_append n es fs p.below q.below;
        chain = q.chain ∙ ap (happened n fs) p.chain ∙ sym (happened_append n es fs s.chain);
        tally = q.tally ∙ ap₂ (added n fs) p.chain p.tally ∙ sym (added_append n small es fs s.chain size s.tally);
      }

  -- a line that was taken, by its events; one that was refused changes nothing
  abbrev Led : List Event → Counting → Outcome Counting (Unit {0}) → Type 0
  Led es s o = Leads n (taken_then o.told es []) s o.state

  events_lead : (line : ℕ) (s : Counting) (es : List Event) → ScansBelow n es → Led es s (counted_events n line s es)
  events_lead line s es low =
      pick_cases (Led es s) (fits (length es) s.tally)
      (λ e. subst (λ fs. Leads n fs s (counting_after n es s)) (sym (append-nil es)) (record { below = low; chain = refl; tally = refl }))
      (λ e. stay s)

  samples_below : (t : Told (Unit {0})) (ss : List ℕ) → FormBelow n (samples_by t ss)
  samples_below (done u) ss = tt
  samples_below (refused number place) ss = tt

  scan_below : (rest : List ℕ) → FormBelow n (scan_form n rest)
  scan_below [] = tt
  scan_below (k ∷ bytes) =
      pick_cases (FormBelow n) (ltb k n && eqb (length bytes) 8) (λ e. ltb-true k n ((and-eq-true_iff (ltb k n) (eqb (length bytes) 8)).0 e).0) (λ e. tt)

  form_below : (bytes : List ℕ) → FormBelow n (form_of n bytes)
  unfolding form_of
  form_below [] = tt
  form_below (kind ∷ rest) =
      pick_cases (FormBelow n) (eqb kind 0x01)
      (λ e. pick_cases (FormBelow n) (leb 1 (length rest) && leb (length rest) 32) (λ f. samples_below (checked_from 0 rest) rest) (λ f. tt))
      (λ e. pick_cases (FormBelow n) (eqb kind 0x02) (λ f. scan_below rest) (λ f. tt))

  line_leads : (line : ℕ) (s : Counting) (form : Form) → FormBelow n form → Led (events_in form) s (counted_line n line s form)
  line_leads line s (samples ss) low = events_lead line s (map sample ss) (no_scans n ss)
  line_leads line s (scan k bytes) low = events_lead line s (Events.scan k bytes ∷ []) (low, tt)
  line_leads line s other low = stay s

  tested_leads : {s u : Counting} (t : Told (Unit {0})) (es later : List Event) (next : Outcome Counting (Unit {0})) → length s.chain.chips ≡ most
      → Leads n (taken_then t es []) s u → Leads n later u next.state → Leads n (taken_then t es later) s (once_tested t u next).state
  tested_leads {s} {u} (done x) es later next size p q = then es later size (subst (λ fs. Leads n fs s u) (append-nil es) p) q
  tested_leads (refused number place) es later next size p q = p

  lines_lead : (line : ℕ) (s : Counting) (ls : List Line) → length s.chain.chips ≡ most → Leads n (taken_in n line s ls) s (counted_lines n line s ls).state
  unfolding counted_lines taken_in
  lines_lead line s [] size = stay s
  lines_lead line s (l ∷ ls) size =
      let form = form_of n (bytes_in l) in
      let o = counted_line n line s form in
      let p = line_leads line s form (form_below (bytes_in l)) in
      tested_leads o.told (events_in form) (taken_in n (suc line) o.state ls) (counted_lines n (suc line) o.state ls) size p
      (lines_lead (suc line) o.state ls (ap (λ (ch : Chain). length ch.chips) p.chain ∙ happened_size n (taken_then o.told (events_in form) []) s.chain ∙ size))

-- the largest N stays over lines
lines_largest : {n : ℕ} {es : List Event} {s u : Counting} → Leads n es s u → u.tally.largest ≡ s.tally.largest
unfolding added
lines_largest p = ap (λ (t : Tally). t.largest) p.tally

-- ---- a text

-- nothing is taken
untaken : (n : ℕ) (t : Tally) → n ≤ most → Played n [] t (begun t)
untaken n t few = record { few = few; below = tt; chain = refl; tally = sym (added_none n start_chain t) }

-- a first line's N
abbrev FirstFew : Told ℕ → Type 0
FirstFew t = chips_in t ≤ most

first_few : (bytes : List ℕ) → FirstFew (first_of bytes)
unfolding first_of
first_few [] = omega arith
first_few (a ∷ []) = omega arith
first_few (a ∷ b ∷ []) = omega arith
first_few (a ∷ b ∷ n ∷ []) =
    pick_cases FirstFew (eqb a 0x00 && eqb b 0x01 && (leb 1 n && leb n most))
    (λ e. leb-true n most ((and-eq-true_iff (leb 1 n) (leb n most)).0 ((and-eq-true_iff (eqb a 0x00 && eqb b 0x01) (leb 1 n && leb n most)).0 e).1).1)
    (λ e. omega arith)
first_few (a ∷ b ∷ n ∷ c ∷ more) = omega arith

first_in_few : (ls : List Line) → FirstFew (first_in ls)
first_in_few [] = omega arith
first_in_few (l ∷ ls) = first_few (bytes_in l)

after_plays : (t : Tally) (first : Told ℕ) (ls : List Line) → FirstFew first → Played (chips_in first) (taken_after t first ls) t (counted_after t first ls).state
after_plays t (done n) ls few =
    let p = lines_lead n few 2 (begun (with_chips n t)) ls refl in
    record {
      few = few;
      below = p.below;
      chain = p.chain;
      tally = p.tally ∙ ap (λ m. added n (taken_in n 2 (begun (with_chips n t)) ls) start_chain (with_largest m t)) (sym (lines_largest p));
    }
after_plays t (refused number place) ls few = untaken 0 t few

all_plays : (t : Tally) (ls : List Line) → Played (chips_in (first_in ls)) (taken_all t ls) t (counted_all t ls).state
all_plays t [] = untaken 0 t (omega arith)
all_plays t (l ∷ ls) = after_plays t (first_of (bytes_in l)) ls (first_few (bytes_in l))

pub text_plays : TextsPlay
unfolding walked
text_plays t text = go (leb (length text) 65536) (leb t.largest most)
  where
    none : Played (chips_of text) [] t (begun t)
    none = untaken (chips_of text) t (first_in_few (lines_of text))

    go : (short few : Bool)
        → Played (chips_of text) (pick short (pick few (taken_all t (lines_of text)) []) []) t (pick short (pick few (counted_all t (lines_of text)) (hands_back (begun t) 12 0)) (hands_back (begun t) 11 0)).state
    go true true = all_plays t (lines_of text)
    go true false = none
    go false few = none
