-- Demand 1, the exact table, of kiosk settings: specs/SettingsTables.antt. Each theorem says of every input that a refusal is told exactly
-- when it is the first of the table that is given, and an answer exactly when none is.
--     settings_read_exact        settings::read; 14 and 15
--     settings_read_newer        14, of `read`, in plain words
--     with_room, with_all        a piece after a test: 8, or room for all
--     rows_fit                   the words of the rows are no more than an array of them holds
--     settings_write_exact       settings::write; 3, 9, 8
--     settings_rows_exact        settings::rows; 3, 9
-- Assumes nothing.
use mathlib.Core.Path.{◌≡◌, refl, ap, sym, subst, ◌∙◌}
use mathlib.Core.Bool.{Bool}
use mathlib.Core.Logic.{inl, inr, ◌↔◌}
use mathlib.Core.List.{List, [], ◌∷◌, ◌++◌, append-nil}
use Prim.Native.Nat.{ℕ, zero, suc, ◌+◌, ◌*◌, ◌-◌, ◌≤◌, ◌<◌}
use native.Mathlib.Omega.{arith}
use borrow.Author.Tests.{lt-ltb, le-leb}
use lib.Dec.{leb, ltb}
use lib.ListN.{length, get_or}
use Rattle.base.specs.Pick.{pick}
use Rattle.base.specs.Refusals.{Told, done, refused, Outcome, hands_back}
use Rattle.base.proofs.Picks.{pick_yes}
use Rattle.base.proofs.Tests.{by_order, by_equality}
use Rattle.chain.specs.Chain.{most}
use Rattle.lines.specs.Lines.{Line, lines_of, bytes_in}
use Rattle.settings.specs.declared.Kept.{Kept}
use Rattle.settings.specs.declared.Kiosk.{Kiosk}
use Rattle.settings.specs.Putting.{settings_test, answer_by}
use Rattle.settings.specs.Reading.{version_in, is_first, is_chip, chips_from, kiosk_by, lines_read, read_of}
use Rattle.settings.specs.Settings.{newest, no_kiosk, no_kepts, kept_in, text_of, words_of}
use Rattle.settings.proofs.Putting.{words_length}
use Rattle.settings.proofs.Texts.{text_length}
use Rattle.demands.specs.Exact.{Row, row, each, First, Exactly}
use Rattle.demands.specs.Settings.{AskedKiosk}
use Rattle.demands.specs.SettingsTables.{TextShort, settings_rows_table, settings_write_table, BeginsWithVersion, version_rows, FirstSettingsLine, SomeFirstLine, ChipLine, OwnLine, LineMissing, chip_line_row, missing_row, settings_rows, settings_read_table}
use Rattle.demands.proofs.ByTable.{ByTable, answered, here, later, by_table, tested, stays, goes_on, done_done}
use Rattle.demands.proofs.Conditions.{Tests, passed, failed, leb_tests, ltb_tests, count_tests}
use Rattle.demands.proofs.LineForms.{one_to_most}
use Rattle.demands.proofs.SettingsForms.{fields_tests, begins_version, version_begins, first_same, FirstView, gives, wrong, first_view, chip_line_tests}
use Rattle.demands.proofs.SettingsRows.{few, whole}

-- ---- 15

module _ (first : Line) (n : ℕ) (y : FirstSettingsLine first n) where
  -- the N that the first line gives
  its_count : (m : ℕ) → FirstSettingsLine first m → m ≡ n
  its_count m z = first_same first m n z y

  -- where chip k's line is due
  own_so : (k : ℕ) (l : Line) → k < n → ChipLine k l → OwnLine first k l
  own_so k l h c = (n, y, h, c)

  one_line : (k : ℕ) (l : Line) (rows : List Row) (next : Told (List Kept)) (t : Bool) → k < n → Tests (ChipLine k l → ⊥) t
      → ByTable (kiosk_by n next).told rows
      → ByTable (kiosk_by n (pick t next (refused 15 (k + 2)))).told (chip_line_row first k l ++ rows)
  one_line k l rows next t h (passed f) more = later (λ (g : OwnLine first k l → ⊥). f (λ c. g (own_so k l h c))) more
  one_line k l rows next t h (failed f) more = let none : OwnLine first k l → ⊥ = λ o. f o.3 in here none refl

  -- where no line is
  line_missing : (k lines : ℕ) → k ≡ lines → lines < n → ByTable {A = Unit {0}} (refused 15 (k + 2)) (missing_row first lines ∷ [])
  line_missing k lines e h =
      let missing : LineMissing first lines = (n, y, h) in
      here missing (ap (λ m. refused 15 (m + 2)) e)

  chips_table : (left k : ℕ) (kept : List Kept) (ls : List Line) (lines : ℕ) → k + left ≡ n → k + length ls ≡ lines → n ≤ most
      → ByTable (kiosk_by n (chips_from left k kept ls)).told (each (chip_line_row first) k ls ++ missing_row first lines ∷ [])
  unfolding chips_from
  chips_table zero k kept [] lines e f small =
      later (λ (z : LineMissing first lines). let same = its_count z.0 z.1 in let h = z.2 in omega arith) (answered tt)
  chips_table zero k kept (l ∷ ls) lines e f small =
      let none : OwnLine first k l → ⊥ = λ o. let same = its_count o.0 o.1 in let h = o.2 in omega arith in
      here none refl
  chips_table (suc left) k kept [] lines e f small = line_missing k lines (omega arith) (omega arith)
  chips_table (suc left) k kept (l ∷ ls) lines e f small =
      let h : k < n = omega arith in
      one_line k l (each (chip_line_row first) (suc k) ls ++ missing_row first lines ∷ []) _ (is_chip k (bytes_in l)) h
      (chip_line_tests k l (omega arith)) (chips_table left (suc k) _ ls lines (omega arith) (omega arith) small)

first_table : (first : Line) (ls : List Line) (t : Bool) → FirstView first t
    → ByTable (pick t (kiosk_by (get_or (bytes_in first) 2 0) (chips_from (get_or (bytes_in first) 2 0) 0 no_kepts ls)) (hands_back no_kiosk 15 1)).told (settings_rows (first ∷ ls))
first_table first ls t (gives y) =
    let n = get_or (bytes_in first) 2 0 in
    later (λ (f : SomeFirstLine first → ⊥). f (n, y))
    (chips_table first n y n 0 no_kepts ls (length ls) (omega arith) (omega arith) (one_to_most n y.0))
first_table first ls t (wrong f) = here f refl

lines_table : (ls : List Line) → ByTable (lines_read ls).told (settings_rows ls)
lines_table [] = here tt refl
lines_table (first ∷ ls) = first_table first ls (is_first (bytes_in first)) (first_view first)

-- ---- 14

module _ (text : List ℕ) (t : Told (Unit {0})) (rows : List Row) where
  -- a newer version is found
  newer_found : (w : ℕ) → w < 256 → BeginsWithVersion text w → t ≡ refused 14 w
      → (more v : ℕ) → v ≤ w → v + more ≡ 256
      → ByTable t (version_rows text more v ++ rows)
  unfolding version_rows
  newer_found w h y e zero v l s = absurd (omega arith)
  newer_found w h y e (suc more) v l s =
      by_equality v w (λ q. here (subst (BeginsWithVersion text) (sym q) y) (e ∙ ap (refused 14) (sym q)))
      (λ ne.
      later (λ z. ne (sym (begins_version text v (omega arith) z) ∙ begins_version text w h y))
      (newer_found w h y e more (suc v) (by_order (suc v) w (λ q. q) (λ q. absurd (ne (omega arith)))) (omega arith)))

  -- or none is
  none_newer : ByTable t rows → (more v : ℕ) → version_in text < v → v + more ≡ 256 → ByTable t (version_rows text more v ++ rows)
  unfolding version_rows
  none_newer next zero v h s = next
  none_newer next (suc more) v h s =
      later (λ (z : BeginsWithVersion text v). let same = begins_version text v (omega arith) z in omega arith)
      (none_newer next more (suc v) (omega arith) (omega arith))

-- the choice by the version
by_version : (text : List ℕ) (t : Bool) → Tests (version_in text ≤ newest) t
    → ByTable (pick t (hands_back no_kiosk 14 (version_in text)) (lines_read (lines_of text))).told (settings_read_table text)
by_version text t (passed f) =
    let newer : newest < version_in text = by_order (version_in text) newest (λ h. absurd (f h)) (λ h. h) in
    let y = version_begins text (omega arith) in
    newer_found text (refused 14 (version_in text)) (settings_rows (lines_of text)) (version_in text) y.0 y.1 refl
    (0xFF - newest) (suc newest) newer refl
by_version text t (failed h) = none_newer text (lines_read (lines_of text)).told (settings_rows (lines_of text)) (lines_table (lines_of text))
    (0xFF - newest) (suc newest) (omega arith) refl

pub read_table : (text : List ℕ) → ByTable (read_of text).told (settings_read_table text)
unfolding read_of
read_table text = by_version text (ltb newest (version_in text)) (ltb_tests newest (version_in text))

pub settings_read_exact : (text : List ℕ) → Exactly (read_of text).told (settings_read_table text)
settings_read_exact text = by_table (read_table text)

-- no line is refused with 14
lines_fifteen : (ls : List Line) (m p : ℕ) → (lines_read ls).told ≡ refused m p → m ≡ 15
lines_fifteen ls m p e = of_rows ls (((by_table (lines_table ls)).refusal m p).0 e)
  where
    of_chips : (first : Line) (k : ℕ) (ls : List Line) (lines : ℕ) → First (each (chip_line_row first) k ls ++ missing_row first lines ∷ []) m p → m ≡ 15
    of_chips first k [] lines (inl g) = sym g.1
    of_chips first k [] lines (inr g) = absurd g.1
    of_chips first k (l ∷ ls) lines (inl g) = sym g.1
    of_chips first k (l ∷ ls) lines (inr g) = of_chips first (suc k) ls lines g.1

    of_rows : (ls : List Line) → First (settings_rows ls) m p → m ≡ 15
    of_rows [] (inl g) = sym g.1
    of_rows [] (inr g) = absurd g.1
    of_rows (first ∷ ls) (inl g) = sym g.1
    of_rows (first ∷ ls) (inr g) = of_chips first 0 ls (length ls) g.1

-- 14 exactly where the text begins with 20 and a version byte above the newest, whatever follows
pub settings_read_newer : (text : List ℕ) (v : ℕ) → ((read_of text).told ≡ refused 14 v) ↔ ((newest < v) × (v < 256) × BeginsWithVersion text v)
unfolding read_of
settings_read_newer text v = (
  found (ltb newest (version_in text)) (ltb_tests newest (version_in text)),
  λ y.
      let same = begins_version text v y.1 y.2 in
      let newer : newest < version_in text = subst (λ x. newest < x) (sym same) y.0 in
      ap (λ (o : Outcome Kiosk (Unit {0})). o.told)
      (pick_yes (hands_back no_kiosk 14 (version_in text)) (lines_read (lines_of text)) (lt-ltb newest (version_in text) newer))
      ∙ ap (refused 14) same,
)
  where
    found : (t : Bool) → Tests (version_in text ≤ newest) t → (pick t (hands_back no_kiosk 14 (version_in text)) (lines_read (lines_of text))).told ≡ refused 14 v
        → (newest < v) × (v < 256) × BeginsWithVersion text v
    found t (passed f) e =
        let newer : newest < version_in text = by_order (version_in text) newest (λ h. absurd (f h)) (λ h. h) in
        let y = version_begins text (omega arith) in
        let same : version_in text ≡ v = cc in
        subst (λ x. (newest < x) × (x < 256) × BeginsWithVersion text x) same (newer, y.0, y.1)
    found t (failed h) e = absurd (omega (arith, lines_fifteen (lines_of text) 14 v e))

-- ---- `write` and `rows`

test_table : (kiosk : Kiosk) → ByTable (settings_test kiosk) (settings_rows_table kiosk)
unfolding settings_test
test_table kiosk = tested _ (count_tests kiosk.n) (tested (done tt) (fields_tests kiosk) (answered tt))

-- a piece after the test, and its room, which matters only where the test is passed
pub with_room : (t : Told (Unit {0})) (piece out : List ℕ) (G : Type 0) {rows : List Row} → (t ≡ done tt → Tests G (leb (length piece) (length out)))
    → ByTable t rows
    → ByTable (answer_by t piece out) (rows ++ row 8 G ∷ [])
with_room (done u) piece out G t y = goes_on y (tested (done (length piece)) (t refl) (answered tt))
with_room (refused number place) piece out G t y = stays (row 8 G ∷ []) y

pub with_all : (t : Told (Unit {0})) (piece out : List ℕ) {rows : List Row} → (t ≡ done tt → length piece ≤ length out) → ByTable t rows
    → ByTable (answer_by t piece out) rows
with_all (done u) piece out {rows} h y =
    subst (λ x. ByTable x rows) (sym (pick_yes _ _ (le-leb (length piece) (length out) (h refl)))) (done_done (length piece) y)
with_all (refused number place) piece out {rows} h y = subst (ByTable (refused number place)) (append-nil rows) (stays [] y)

module _ (kiosk : Kiosk) (places : length kiosk.chips ≡ most) where
  -- how many words the rows have
  pub rows_fit : settings_test kiosk ≡ done tt → length (words_of (kept_in kiosk)) ≤ 4 * most
  rows_fit e =
      let asked : AskedKiosk kiosk = record { places = places; legal = e } in
      omega (arith, words_length (kept_in kiosk), whole kiosk asked, few kiosk asked)

  pub settings_write_exact : (out : List ℕ) → Exactly (answer_by (settings_test kiosk) (text_of kiosk) out) (settings_write_table kiosk out)
  settings_write_exact out =
      by_table
      (with_room (settings_test kiosk) (text_of kiosk) out (TextShort kiosk out)
      (λ e. subst (λ m. Tests (TextShort kiosk out) (leb m (length out))) (sym (text_length kiosk e places)) (leb_tests (7 + 13 * kiosk.n) (length out)))
      (test_table kiosk))

  pub settings_rows_exact : (out : List ℕ) → length out ≡ 4 * most
      → Exactly (answer_by (settings_test kiosk) (words_of (kept_in kiosk)) out) (settings_rows_table kiosk)
  settings_rows_exact out e =
      by_table
      (with_all (settings_test kiosk) (words_of (kept_in kiosk)) out (λ d. subst (λ m. length (words_of (kept_in kiosk)) ≤ m) (sym e) (rows_fit d)) (test_table kiosk))
