-- The library's three functions for a kiosk's settings: specs/SettingsNumbers.antt.
--     kept_tests                                       9: the numbers of a chip
--     settings_read_says, settings_write_says,
--     settings_rows_says                               demand 1, the exact table: each answer says by its first two numbers what the table says
--     settings_numbers_refusals_change_nothing         a refusal changes nothing
--     numbers_asked                                    numbers that pass the tests stand for settings of which demand 3's theorem speaks
--     read_then_write                                  what was read is written again
-- Assumes nothing.
use mathlib.Core.Path.{◌≡◌, refl, ap, sym, subst, ◌∙◌}
use mathlib.Core.List.{List, [], ◌∷◌}
use Prim.Native.Nat.{ℕ, zero, suc, ◌+◌, ◌*◌, ◌-◌, ◌<◌}
use native.Mathlib.Omega.{arith}
use lib.Dec.{leb}
use lib.ListN.{length, get_or, replicate}
use Rattle.base.specs.Below.{EachBelow}
use Rattle.base.specs.Refusals.{Told, IsDone, done, refused, Outcome}
use Rattle.base.proofs.Tests.{each_below}
use Rattle.chain.specs.Chain.{most}
use Rattle.lines.specs.Lines.{Line, lines_of, lines_at}
use Rattle.settings.specs.declared.Kiosk.{Kiosk}
use Rattle.settings.specs.OneText.{ReadAs}
use Rattle.settings.specs.Printing.{kiosk_words}
use Rattle.settings.specs.Putting.{answer_by, buffer_by}
use Rattle.settings.specs.Reading.{read_of}
use Rattle.settings.specs.Settings.{newest, text_of}
use Rattle.settings.proofs.Texts.{text_length}
use Rattle.zhaqsumir.specs.Numbers.{place_in, number_or0}
use Rattle.zhaqsumir.specs.Panels.{count_in}
use Rattle.zhaqsumir.specs.Settings.{kept_mosts, kept_fits_at, kept_fits, from_kept, kept_fits_in, settings_tested, kiosk_of, kiosk_numbers, read_numbers, WritesSettings, FillsWords}
use Rattle.zhaqsumir.proofs.SettingsBack as Back
use Rattle.zhaqsumir.proofs.SettingsNumbers.{numbers_writable}
use Rattle.demands.specs.Exact.{each, NoneOf, SaysExactly}
use Rattle.demands.specs.SettingsNumbers.{KeptNumberOut, bit, limit, blink, custom, NumbersTextShort, rows_numbers_table, write_numbers_table, SettingsNumbersRefusalsChangeNothing, ReadThenWrite, NumbersAsked}
use Rattle.demands.specs.SettingsTables.{version_rows, newer_rows, chip_line_row, missing_row, settings_rows, settings_read_table}
use Rattle.demands.specs.Unchanged.{Refuses}
use Rattle.demands.proofs.ByTable.{ByTable, answered, by_table, tested}
use Rattle.demands.proofs.Conditions.{Tests, same_tests, leb_tests, count_tests}
use Rattle.demands.proofs.ExactLibrary.{none_append, none_each, says_exactly}
use Rattle.demands.proofs.ExactPanels.{below_tests}
use Rattle.demands.proofs.ExactSettings.{settings_read_exact, with_room, with_all, rows_fit}
use Rattle.demands.proofs.SettingsUnchanged.{read_zeros}
use Rattle.demands.proofs.Unchanged.{answer_as}
use Rattle.demands.proofs.UnchangedTally.{is_refusal}
use Rattle.demands.proofs.WiresUnchanged.{leaves}

-- ---- 9, of the numbers

module _ (ns : List ℕ) where
  -- the number at a place is above its most
  abbrev Over : ℕ → Type 0
  Over j = get_or kept_mosts j 0 < get_or ns j 0

  -- the places, the last one's first
  over : EachBelow (λ j. Over j → KeptNumberOut ns) 9
  over = (
    custom,
    (
      blink,
      (
        limit,
        (
          bit 5 (omega arith),
          (bit 4 (omega arith), (bit 3 (omega arith), (bit 2 (omega arith), (bit 1 (omega arith), (bit 0 (omega arith), tt))))),
        ),
      ),
    ),
  )

  bits : EachBelow (λ j. 1 < get_or ns j 0 → Over j) 6
  bits = ((λ h. h), ((λ h. h), ((λ h. h), ((λ h. h), ((λ h. h), ((λ h. h), tt))))))

  from_out : KeptNumberOut ns → (j : ℕ) × (j < 9) × Over j
  from_out (bit j l h) = (j, omega arith, each_below (λ j. 1 < get_or ns j 0 → Over j) 6 bits j l h)
  from_out (limit h) = (6, omega arith, h)
  from_out (blink h) = (7, omega arith, h)
  from_out (custom h) = (8, omega arith, h)

  pub kept_tests : Tests (KeptNumberOut ns) (kept_fits ns)
  unfolding kept_fits
  kept_tests =
      same_tests (λ y. each_below (λ j. Over j → KeptNumberOut ns) 9 over y.0 y.1 y.2) from_out
      (below_tests Over (kept_fits_at ns) (λ j. leb_tests (get_or ns j 0) (get_or kept_mosts j 0)) 9)

test_table : (ns : List ℕ) → ByTable (settings_tested ns) (rows_numbers_table ns)
unfolding settings_tested
test_table ns =
    tested _ (count_tests (count_in ns))
    (tested (done tt) (below_tests (λ k. KeptNumberOut (from_kept k ns)) (kept_fits_in ns) (λ k. kept_tests (from_kept k ns)) (count_in ns)) (answered tt))

-- ---- the tables

-- no refusal has the number 0
none_newer : (text : List ℕ) (more version : ℕ) → NoneOf 0 (version_rows text more version)
unfolding version_rows
none_newer text zero version = tt
none_newer text (suc more) version = ((λ e. omega arith), none_newer text more (suc version))

none_lines : (ls : List Line) → NoneOf 0 (settings_rows ls)
none_lines [] = ((λ e. omega arith), tt)
none_lines (first ∷ ls) = (
  (λ e. omega arith),
  none_append (each (chip_line_row first) 0 ls) (missing_row first (length ls) ∷ []) 0 (none_each (chip_line_row first) 0 (λ k l. ((λ e. omega arith), tt)) 0 ls) ((λ e. omega arith), tt),
)

none_read : (text : List ℕ) → NoneOf 0 (settings_read_table text)
none_read text = none_append (newer_rows text) (settings_rows (lines_of text)) 0 (none_newer text (0xFF - newest) (suc newest)) (none_lines (lines_of text))

pub settings_read_says : (text answer : List ℕ) → answer ≡ read_numbers text → SaysExactly answer (settings_read_table text)
settings_read_says text answer e =
    subst (λ xs. SaysExactly xs (settings_read_table text)) (sym e)
    (says_exactly (read_of text).told (kiosk_numbers (read_of text).state) (settings_read_table text) (settings_read_exact text) (none_read text))

-- the numbers of chips are of as many as a record has
places : (ns : List ℕ) → length (kiosk_of ns).chips ≡ most
unfolding kiosk_of
places ns = refl

count_same : (ns : List ℕ) → (kiosk_of ns).n ≡ count_in ns
unfolding kiosk_of
count_same ns = refl

pub settings_write_says : (ns out answer out' : List ℕ) → WritesSettings ns out answer out' → SaysExactly answer (write_numbers_table ns out)
settings_write_says ns out answer out' writes =
    let piece = text_of (kiosk_of ns) in
    let t = answer_by (settings_tested ns) piece out in
    let long : settings_tested ns ≡ done tt → 7 + 13 * count_in ns ≡ length piece =
    λ e. sym (text_length (kiosk_of ns) (numbers_writable ns e) (places ns) ∙ ap (λ n. 7 + 13 * n) (count_same ns)) in
    let exact = by_table (with_room (settings_tested ns) piece out (NumbersTextShort ns out)
    (λ e. subst (λ m. Tests (NumbersTextShort ns out) (leb m (length out))) (long e) (leb_tests (7 + 13 * count_in ns) (length out))) (test_table ns)) in
    subst (λ xs. SaysExactly xs (write_numbers_table ns out)) (sym writes.numbers)
    (says_exactly t (number_or0 t ∷ []) (write_numbers_table ns out) exact ((λ e. omega arith), ((λ e. omega arith), ((λ e. omega arith), tt))))

pub settings_rows_says : (ns words answer words' : List ℕ) → length words ≡ 4 * most → FillsWords ns words answer words' → SaysExactly answer (rows_numbers_table ns)
settings_rows_says ns words answer words' size fills =
    let piece = kiosk_words (kiosk_of ns) in
    let t = answer_by (settings_tested ns) piece words in
    let exact = by_table (with_all (settings_tested ns) piece words (λ e. omega (arith, size, rows_fit (kiosk_of ns) (places ns) (numbers_writable ns e))) (test_table ns)) in
    subst (λ xs. SaysExactly xs (rows_numbers_table ns)) (sym fills.numbers)
    (says_exactly t (number_or0 t ∷ []) (rows_numbers_table ns) exact ((λ e. omega arith), ((λ e. omega arith), tt)))

-- ---- a refusal changes nothing

zeros_read : (text : List ℕ) → Refuses (read_numbers text) (replicate 73 0)
unfolding lines_at
zeros_read text number e = ap kiosk_numbers (read_zeros text (suc number) (place_in (read_of text).told) (is_refusal (read_of text).told e))

pub settings_numbers_refusals_change_nothing : SettingsNumbersRefusalsChangeNothing
settings_numbers_refusals_change_nothing =
    record {
      read = λ text answer e. answer_as e (zeros_read text);
      write = λ ns out answer out' w.
          leaves (answer_by (settings_tested ns) (text_of (kiosk_of ns)) out) w.numbers (λ m p e. w.buffer ∙ ap (λ t. buffer_by t (text_of (kiosk_of ns)) out) e);
      rows = λ ns words answer words' w.
          leaves (answer_by (settings_tested ns) (kiosk_words (kiosk_of ns)) words) w.numbers (λ m p e. w.buffer ∙ ap (λ t. buffer_by t (kiosk_words (kiosk_of ns)) words) e);
    }

-- ---- back and forth

pub numbers_asked : NumbersAsked
numbers_asked ns e = record { places = places ns; legal = numbers_writable ns e }

-- a text that isn't refused was read
abbrev outcome : Kiosk → Told (Unit {0}) → Outcome Kiosk (Unit {0})
outcome kiosk t = record { state = kiosk; told = t }

is_read : (kiosk : Kiosk) (t : Told (Unit {0})) → IsDone t → outcome kiosk t ≡ outcome kiosk (done tt)
is_read kiosk (done u) d = refl
is_read kiosk (refused number place) d = absurd d

pub read_then_write : ReadThenWrite
read_then_write text out answer out' e writes room =
    let none = (settings_read_says text (read_numbers text) refl).answered.0 e in
    let reads : ReadAs text (read_of text).state = is_read (read_of text).state (read_of text).told ((settings_read_exact text).answer.1 none) in
    Back.read_then_write text (read_of text).state reads out answer out' room writes
