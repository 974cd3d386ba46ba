-- Demand 1, the exact table, for the library that C links: each answer says by its first two numbers what the table says.
--     told_so                                                                     an answer by one test keeps to a table of one row
--     numbers_exact                                                               a command that is given as numbers keeps to its table
--     none_append, none_each                                                      no row of two tables, of the rows of a list, has a number
--     says_exactly                                                                what is told exactly is said exactly
--     decode_says, encode_says, write_says, find_says, replay_says, tally_says    the six functions
-- Assumes nothing.
use mathlib.Core.Path.{◌≡◌, refl, ap, ap₂, sym, subst}
use mathlib.Core.Bool.{Bool}
use mathlib.Core.List.{List, [], ◌∷◌, ◌++◌}
use Prim.Native.Nat.{ℕ, suc}
use native.Mathlib.Omega.{arith}
use lib.ListN.{length, get_or}
use Rattle.base.specs.Refusals.{Told, done, refused, IsDone}
use Rattle.word.specs.Words.{decoded_of}
use Rattle.chain.specs.declared.Chain.{Chain}
use Rattle.chain.specs.Entries.{start_chain}
use Rattle.chain.specs.Events.{happened}
use Rattle.chain.specs.Finder.{found_of}
use Rattle.writer.specs.Written.{answer_of}
use Rattle.lines.specs.Lines.{Line, lines_of, bytes_in}
use Rattle.capture.specs.declared.Report.TheVariants.{Words}
use Rattle.capture.specs.Replay.{end_of, output_of}
use Rattle.capture.specs.Parts.{chips_in}
use Rattle.capture.specs.Frames.{first_of, form_of}
use Rattle.tallies.specs.declared.Tally.{Tally}
use Rattle.tallies.specs.Tallies.{added}
use Rattle.tallies.specs.Counted.{counted_of, with_chips}
use Rattle.zhaqsumir.specs.Commands.{command_from}
use Rattle.zhaqsumir.specs.Numbers.{number_in, place_in, number_or0, kind_and_fields, is_rise, rise_place, encoded_by, decode_numbers, encode_numbers, find_numbers, WritesNumbers, ReplaysNumbers, tally_in, TalliesNumbers}
use Rattle.word.specs.Ranges.{ranges, within, in_range}
use Rattle.zhaqsumir.proofs.Ranges.{Tells, a_word, nine, encode_ranges}
use Rattle.demands.specs.Exact.{Row, row, each, None, Exactly, SaysExactly, NoneOf}
use Rattle.demands.specs.Refusals.{Above, NumbersOutOfRange, BufferShort}
use Rattle.demands.specs.Tables.{decode_table, numbers_table, sample_row, find_table, word_row, word_rows, write_table}
use Rattle.demands.specs.Texts.{line_row, line_rows, text_table}
use Rattle.demands.specs.Tallies.{count_rows, count_lines, count_table}
use Rattle.tallies.specs.Balance.{events_in}
use Rattle.demands.proofs.Conditions.{Tests, passed, failed, leb_tests, both_tests}
use Rattle.demands.proofs.ByTable.{ByTable, answered, here, later, by_table}
use Rattle.demands.proofs.Exact.{decode_exact}
use Rattle.demands.proofs.ExactChain.{find_exact}
use Rattle.demands.proofs.ExactText.{text_exact}
use Rattle.demands.proofs.ExactTally.{count_exact}
use Rattle.demands.proofs.ExactWriter.{write_exact}
use Rattle.demands.proofs.Readings.{none_first}

-- ---- encode

above_tests : (mosts fields : List ℕ) → Tests (Above mosts fields) (within mosts fields)
above_tests [] fields = passed (λ y. y)
above_tests (most ∷ mosts) [] = failed tt
above_tests (most ∷ mosts) (field ∷ fields) = both_tests (leb_tests field most) (above_tests mosts fields)

numbers_tests : (kind : ℕ) (fields : List ℕ) → Tests (NumbersOutOfRange kind fields) (in_range kind fields)
numbers_tests kind fields = both_tests (leb_tests kind 15) (above_tests (get_or ranges kind []) fields)

pub told_so : {t : Told ℕ} {test : Bool} {G : Type 0} → Tells t test → Tests G test → ByTable t (row 9 G ∷ [])
told_so (a_word w) (passed n) = later n (answered tt)
told_so nine (failed y) = here y refl

pub numbers_exact : (kind a b c d e : ℕ)
    → Exactly (encoded_by (command_from kind a b c d e)) (numbers_table kind (a ∷ b ∷ c ∷ d ∷ e ∷ []))
numbers_exact kind a b c d e =
    let fields = a ∷ b ∷ c ∷ d ∷ e ∷ [] in
    by_table (told_so (encode_ranges a b c d e kind) (numbers_tests kind fields))

-- ---- no refusal has the number 0

pub none_append : (a b : List Row) (m : ℕ) → NoneOf m a → NoneOf m b → NoneOf m (a ++ b)
none_append [] b m p q = q
none_append (r ∷ a) b m p q = (p.0, none_append a b m p.1 q)

pub none_each {ℓ} : {X : Type ℓ} (rows : ℕ → X → List Row) (m : ℕ) → ((k : ℕ) (x : X) → NoneOf m (rows k x)) → (place : ℕ) (xs : List X)
    → NoneOf m (each rows place xs)
none_each rows m f place [] = tt
none_each rows m f place (x ∷ xs) = none_append (rows place x) (each rows (suc place) xs) m (f place x) (none_each rows m f (suc place) xs)

-- ---- an answer's first two numbers

to_refusal : {A : Type 0} (t : Told A) (m p : ℕ) → (number_in t ≡ suc m) × (place_in t ≡ p) → t ≡ refused (suc m) p
to_refusal (done answer) m p y = let e : 0 ≡ suc m = y.0 in absurd (omega arith)
to_refusal (refused number place) m p y = ap₂ refused y.0 y.1

to_none : {A : Type 0} (t : Told A) (rows : List Row) → Exactly t rows → NoneOf 0 rows → number_in t ≡ 0 → None rows
to_none (done answer) rows exact no_0 e = exact.answer.0 tt
to_none (refused number place) rows exact no_0 e =
    absurd (none_first rows 0 place no_0 ((exact.refusal 0 place).0 (ap (λ n. refused n place) e)))

from_done : {A : Type 0} (t : Told A) → IsDone t → number_in t ≡ 0
from_done (done answer) d = refl
from_done (refused number place) d = absurd d

pub says_exactly : {A : Type 0} (t : Told A) (rest : List ℕ) (rows : List Row) → Exactly t rows → NoneOf 0 rows
    → SaysExactly (number_in t ∷ place_in t ∷ rest) rows
says_exactly t rest rows exact no_0 =
    record {
      refusal = λ m p. (
        (λ y. (exact.refusal (suc m) p).0 (to_refusal t m p y)),
        (λ f. let e = (exact.refusal (suc m) p).1 f in (ap number_in e, ap place_in e)),
      );
      answered = (to_none t rows exact no_0, λ n. from_done t (exact.answer.1 n));
    }

-- ---- the six functions

pub decode_says : (w : ℕ) → SaysExactly (decode_numbers w) (decode_table w)
decode_says w = says_exactly (decoded_of w) (kind_and_fields (decoded_of w)) (decode_table w) (decode_exact w) ((λ e. omega arith), tt)

pub encode_says : (kind a b c d e : ℕ) → SaysExactly (encode_numbers (kind ∷ a ∷ b ∷ c ∷ d ∷ e ∷ [])) (numbers_table kind (a ∷ b ∷ c ∷ d ∷ e ∷ []))
encode_says kind a b c d e =
    let t = encoded_by (command_from kind a b c d e) in
    says_exactly t (number_or0 t ∷ []) (numbers_table kind (a ∷ b ∷ c ∷ d ∷ e ∷ [])) (numbers_exact kind a b c d e) ((λ q. omega arith), tt)

pub write_says : (n : ℕ) (words out answer out' : List ℕ) → WritesNumbers n words out answer out' → SaysExactly answer (write_table n words out)
write_says n words out answer out' writes =
    let t = answer_of n words out in
    subst (λ xs. SaysExactly xs (write_table n words out)) (sym writes.numbers)
    (says_exactly t (number_or0 t ∷ []) (write_table n words out) (write_exact n words out)
    ((λ e. omega arith), ((λ e. omega arith), ((λ e. omega arith), none_append (word_rows n words) (row 8 (BufferShort n words out) ∷ []) 0 (none_each (word_row n words) 0 (λ k w. ((λ e. omega arith), ((λ e. omega arith), ((λ e. omega arith), tt)))) 0 words) ((λ e. omega arith), tt)))))

pub find_says : (levels : ℕ) (samples : List ℕ) → SaysExactly (find_numbers levels samples) (find_table levels samples)
find_says levels samples =
    let o = found_of levels samples in
    says_exactly o.told (is_rise o.state.rise ∷ rise_place o.state.rise ∷ o.state.passed ∷ []) (find_table levels samples)
    (find_exact levels samples)
    ((λ e. omega arith), none_each sample_row 0 (λ k s. ((λ e. omega arith), tt)) 0 samples)

pub replay_says : (text out answer out' : List ℕ) → ReplaysNumbers text out answer out' → SaysExactly answer (text_table text)
replay_says text out answer out' replays =
    subst (λ xs. SaysExactly xs (text_table text)) (sym replays.numbers)
    (says_exactly (end_of text) (length (output_of Words text) ∷ []) (text_table text) (text_exact text) ((λ e. omega arith), lines (lines_of text)))
  where
    lines : (ls : List Line) → NoneOf 0 (line_rows ls)
    lines [] = ((λ e. omega arith), tt)
    lines (first ∷ ls) = ((λ e. omega arith), none_each (line_row first) 0 (λ k l. ((λ e. omega arith), tt)) 2 ls)

pub tally_says : (text cs ts : List ℕ) (n : ℕ) (answer cs' ts' : List ℕ) (n' : ℕ) → length ts ≡ 128 → TalliesNumbers text cs ts n answer cs' ts' n'
    → SaysExactly answer (count_table (tally_in cs ts n) text)
tally_says text cs ts n answer cs' ts' n' size tallies =
    let t = tally_in cs ts n in
    subst (λ xs. SaysExactly xs (count_table t text)) (sym tallies.numbers)
    (says_exactly (counted_of t text).told [] (count_table t text) (count_exact t text refl size) ((λ e. omega arith), ((λ e. omega arith), lines (lines_of text))))
  where
    rows : (first : Line) (k number : ℕ) (ch : Chain) (t : Tally) (ls : List Line) → NoneOf 0 (count_rows first k number ch t ls)
    rows first k number ch t [] = tt
    rows first k number ch t (l ∷ ls) =
        let es = events_in (form_of k (bytes_in l)) in
        ((λ e. omega arith), ((λ e. omega arith), rows first k (suc number) (happened k es ch) (added k es ch t) ls))

    lines : (ls : List Line) → NoneOf 0 (count_lines (tally_in cs ts n) ls)
    lines [] = ((λ e. omega arith), tt)
    lines (first ∷ ls) =
        let k = chips_in (first_of (bytes_in first)) in
        ((λ e. omega arith), rows first k 2 start_chain (with_chips k (tally_in cs ts n)) ls)
