-- Demand 1, the exact table, of counting a text: specs/Tallies.antt.
--     every_tests     a test of every element of a list, by places
--     fits_tests      16: some count has no room
--     count_exact     what is told is what the table says
-- Assumes nothing.
use mathlib.Core.Path.{◌≡◌, refl, subst, ◌∙◌}
use mathlib.Core.Bool.{Bool}
use mathlib.Core.Logic.{◌⊎◌, inl, inr}
use mathlib.Core.List.{List, [], ◌∷◌}
use Prim.Native.Nat.{ℕ, zero, suc, ◌+◌, ◌<◌, suc-le-suc}
use native.Mathlib.Nat.{not-suc-le-zero, le_of_suc-le-suc, zero-lt-suc}
use lib.Dec.{leb}
use lib.ListN.{length, get_or}
use Rattle.base.specs.Pick.{pick}
use Rattle.base.specs.Refusals.{Told, done, Outcome, hands_back, once_tested}
use Rattle.chain.specs.declared.Chain.{Chain}
use Rattle.chain.specs.Chain.{most}
use Rattle.chain.specs.Entries.{start_chain}
use Rattle.chain.specs.Events.{Event, happened}
use Rattle.lines.specs.Lines.{Line, lines_of, bytes_in}
use Rattle.capture.specs.Frames.{Form, first_of, form_of}
use Rattle.capture.specs.Parts.{chips_in}
use Rattle.tallies.specs.declared.Counts.{Counts}
use Rattle.tallies.specs.declared.Tally.{Tally}
use Rattle.tallies.specs.Counts.{no_counts}
use Rattle.base.specs.Below.{every}
use Rattle.tallies.specs.Tallies.{added, largest_count, has_room, have_room, fits}
use Rattle.tallies.proofs.Places.{place_length}
use Rattle.tallies.specs.Counted.{counting, counted_events, counted_line, counted_lines, counted_after, counted_all, walked, counted_of, begun, with_chips}
use Rattle.demands.specs.Exact.{Row, names, Exactly}
use Rattle.demands.specs.Texts.{FirstLine, OtherLine}
use Rattle.demands.specs.Tallies.{CountAbove, ChipAbove, SomeCountAbove, count_rows, count_lines, count_table}
use Rattle.tallies.specs.Balance.{events_in}
use Rattle.demands.proofs.Conditions.{Tests, passed, failed, same_tests, leb_tests, both_tests}
use Rattle.demands.proofs.ByTable.{ByTable, answered, here, later, by_table, tested, told_by_two}
use Rattle.demands.proofs.LineForms.{FirstView, gives, wrong, first_view, one_to_most, OtherView, as_samples, as_scan, as_none, other_view}
use Rattle.demands.proofs.ExactText.{not_other}

-- ---- 16

-- a condition of some element, at the first place or further on
module _ {A : Type 0} (Bad : A → Type 0) (x d : A) (xs : List A) where
  to_some : Bad x ⊎ ((k : ℕ) × (k < length xs) × Bad (get_or xs k d)) → (k : ℕ) × (k < suc (length xs)) × Bad (get_or (x ∷ xs) k d)
  to_some (inl b) = (0, zero-lt-suc (length xs), b)
  to_some (inr (k, l, b)) = (suc k, suc-le-suc l, b)

  from_some : (k : ℕ) × (k < suc (length xs)) × Bad (get_or (x ∷ xs) k d) → Bad x ⊎ ((k : ℕ) × (k < length xs) × Bad (get_or xs k d))
  from_some (zero, l, b) = inl b
  from_some (suc k, l, b) = inr (k, le_of_suc-le-suc l, b)

every_tests : {A : Type 0} (Bad : A → Type 0) (test : A → Bool) → ((x : A) → Tests (Bad x) (test x)) → (d : A) (xs : List A)
    → Tests ((k : ℕ) × (k < length xs) × Bad (get_or xs k d)) (every test xs)
unfolding every
every_tests Bad test each d [] = passed (λ y. not-suc-le-zero y.1)
every_tests Bad test each d (x ∷ xs) = same_tests (to_some Bad x d xs) (from_some Bad x d xs) (both_tests (each x) (every_tests Bad test each d xs))

-- a tally is of so many chips and so many codes
Sized : Tally → Type 0
Sized t = (length t.chips ≡ most) × (length t.codes ≡ 128)

fits_tests : (m : ℕ) (t : Tally) → Sized t → Tests (SomeCountAbove m t) (fits m t)
unfolding fits Sized
fits_tests m t size =
    both_tests
    (subst (λ n. Tests ((k : ℕ) × (k < n) × ChipAbove m (get_or t.chips k no_counts)) (every (have_room m) t.chips)) size.0
    (every_tests (ChipAbove m) (have_room m) chip no_counts t.chips))
    (subst (λ n. Tests ((k : ℕ) × (k < n) × CountAbove m (get_or t.codes k 0)) (every (has_room m) t.codes)) size.1
    (every_tests (CountAbove m) (has_room m) count 0 t.codes))
  where
    count : (x : ℕ) → Tests (CountAbove m x) (has_room m x)
    count x = leb_tests (x + m) largest_count

    chip : (c : Counts) → Tests (ChipAbove m c) (have_room m c)
    chip c = both_tests (both_tests (both_tests (count c.recorded) (count c.read)) (count c.overwritten)) (count c.cleared)

-- events leave as many
added_sized : (n : ℕ) (es : List Event) (ch : Chain) (t : Tally) → Sized t → Sized (added n es ch t)
unfolding added Sized
added_sized n es ch t size = (place_length _ 0 t.chips ∙ size.0, place_length _ 0 t.codes ∙ size.1)

-- ---- lines after the first

-- what is told where a line goes on, or is refused
abbrev ends : {S : Type 0} → (S → Outcome S (Unit {0})) → Outcome S (Unit {0}) → Told (Unit {0})
ends next o = (once_tested o.told o.state (next o.state)).told

-- a line is taken by a test, or refused
by_test : {S : Type 0} (x y : S) (next : S → Outcome S (Unit {0})) (number : ℕ) {G : Type 0} {rows : List Row} {b : Bool} → Tests G b
    → ByTable (next x).told rows
    → ByTable (ends next (pick b (record { state = x; told = done tt }) (hands_back y 16 number))) (names 16 number G ∷ rows)
by_test x y next number (passed n) more = later n more
by_test x y next number (failed g) more = here g refl

module _ (first : Line) (n : ℕ) (gave : FirstLine first n) where
  -- a line's samples and scans, once the line is of its form
  events_table : (number : ℕ) (ls : List Line) (ch : Chain) (t : Tally) (es : List Event) {rows : List Row} → Sized t
      → ByTable (counted_lines n (suc number) (counting (happened n es ch) (added n es ch t)) ls).told rows
      → ByTable (ends (λ s. counted_lines n (suc number) s ls) (counted_events n number (counting ch t) es)) (names 16 number (SomeCountAbove (length es) t) ∷ rows)
  events_table number ls ch t es size more =
      by_test (counting (happened n es ch) (added n es ch t)) (counting ch t) (λ s. counted_lines n (suc number) s ls) number (fits_tests (length es) t size) more

  line_table : (number : ℕ) (l : Line) (ls : List Line) (ch : Chain) (t : Tally) (form : Form) → OtherView n l form → Sized t
      → ((es : List Event)
      → ByTable (counted_lines n (suc number) (counting (happened n es ch) (added n es ch t)) ls).told (count_rows first n (suc number) (happened n es ch) (added n es ch t) ls))
      → ByTable (ends (λ s. counted_lines n (suc number) s ls) (counted_line n number (counting ch t) form))
      (names 10 number (OtherLine first l → ⊥)
      ∷ names 16 number (SomeCountAbove (length (events_in form)) t)
      ∷ count_rows first n (suc number) (happened n (events_in form) ch) (added n (events_in form) ch t) ls)
  line_table number l ls ch t form (as_samples ss y) size more =
      later (λ (f : OtherLine first l → ⊥). f (inl y)) (events_table number ls ch t (events_in form) size (more (events_in form)))
  line_table number l ls ch t form (as_scan k bytes y) size more =
      later (λ (f : OtherLine first l → ⊥). f (inr (n, gave, y))) (events_table number ls ch t (events_in form) size (more (events_in form)))
  line_table number l ls ch t form (as_none f) size more = here (not_other first n gave l f) refl

  lines_table : (number : ℕ) (ls : List Line) (ch : Chain) (t : Tally) → Sized t → ByTable (counted_lines n number (counting ch t) ls).told (count_rows first n number ch t ls)
  unfolding counted_lines
  lines_table number [] ch t size = answered tt
  lines_table number (l ∷ ls) ch t size =
      line_table number l ls ch t (form_of n (bytes_in l)) (other_view n (one_to_most n gave.0) l) size
      (λ es. lines_table (suc number) ls (happened n es ch) (added n es ch t) (added_sized n es ch t size))

-- ---- all lines

first_table : (t : Tally) (first : Line) (ls : List Line) (told : Told ℕ) → FirstView first told → Sized t
    → ByTable (counted_after t told ls).told (names 10 1 (((n : ℕ) × FirstLine first n) → ⊥) ∷ count_rows first (chips_in told) 2 start_chain (with_chips (chips_in told) t) ls)
unfolding Sized
first_table t first ls told (gives n gave) size =
    let so : ((m : ℕ) × FirstLine first m → ⊥) → ⊥ = λ f. f (n, gave) in
    later so (lines_table first n gave 2 ls start_chain (with_chips n t) size)
first_table t first ls told (wrong f) size = here f refl

all_table : (t : Tally) (ls : List Line) → Sized t → ByTable (counted_all t ls).told (count_lines t ls)
all_table t [] size = here tt refl
all_table t (first ∷ ls) size = first_table t first ls (first_of (bytes_in first)) (first_view first) size

pub count_exact : (t : Tally) (text : List ℕ) → length t.chips ≡ most → length t.codes ≡ 128 → Exactly (counted_of t text).told (count_table t text)
unfolding walked Sized
count_exact t text chips codes =
    by_table
    (told_by_two (leb (length text) 65536) (leb t.largest most) (counted_all t (lines_of text)) (hands_back (begun t) 12 0) (hands_back (begun t) 11 0)
    (tested _ (leb_tests (length text) 65536) (tested _ (leb_tests t.largest most) (all_table t (lines_of text) (chips, codes)))))
