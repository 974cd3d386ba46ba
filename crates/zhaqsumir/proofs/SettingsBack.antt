-- Settings as 73 numbers, and back.
--     settings_tested_lem     the numbers of settings that can be written pass the tests
--     kept_same           and stand for the same settings of the chips below N
--     written_read        the text of settings given as numbers reads back as these settings
--     read_then_write     so what a text was read as, given to `zhaqsumir_settings_write`, gives the text back
-- Assumes nothing.
use mathlib.Core.Path.{◌≡◌, refl, ap, sym, subst, ◌∙◌}
use mathlib.Core.Bool.{true}
use mathlib.Core.List.{List, [], ◌∷◌, ◌++◌}
use Prim.Native.Nat.{ℕ, zero, suc, ◌+◌, ◌*◌, ◌≤◌, ◌<◌}
use native.Mathlib.Nat.{not-suc-le-zero, le_of_suc-le-suc}
use native.Mathlib.Omega.{arith}
use borrow.Author.Tests.{le-leb}
use lib.ListN.{length, get_or, take, drop}
use lib.Seq.{drop-drop}
use Rattle.base.specs.Lent.{laid}
use Rattle.base.specs.Refusals.{done}
use Rattle.base.proofs.Picks.{pick_yes}
use Rattle.lines.specs.Lines.{line_for, lines_at}
use Rattle.settings.specs.declared.Kept.{Kept}
use Rattle.settings.specs.declared.Kiosk.{Kiosk}
use Rattle.settings.specs.OneText.{trimmed, ReadAs, Writable}
use Rattle.settings.specs.Putting.{answer_by, buffer_by}
use Rattle.settings.specs.Settings.{no_kept, legal_kept, first_frame, chip_lines, text_of}
use Rattle.settings.specs.Settings as K
use Rattle.settings.proofs.Bytes.{count_within}
use Rattle.settings.proofs.OneText.{written_reads_lem, read_written, read_size}
use Rattle.settings.proofs.Putting.{legal_at}
use Rattle.settings.proofs.Texts.{passes}
use Rattle.zhaqsumir.specs.Numbers.{alone}
use Rattle.zhaqsumir.specs.Settings.{kept_fits, kept_of, kept_numbers, from_kept, kept_fits_in, settings_tested, kept_in, kiosk_of, kiosk_numbers, read_by, read_numbers, WritesSettings}
use Rattle.zhaqsumir.proofs.ChainPanels.{first_places}
use Rattle.zhaqsumir.proofs.Fitting.{below_each}
use Rattle.zhaqsumir.proofs.Counts.{at_places}
use Rattle.zhaqsumir.proofs.KeptNumbers.{kept_fits_lem, kept_back}
use Rattle.zhaqsumir.proofs.SettingsNumbers.{numbers_writable}

-- a chip's numbers, whichever chip it is
abbrev own : ℕ → Kept → List ℕ
own k c = kept_numbers c

-- what holds of the numbers of settings that are in range, whatever follows them, holds of the numbers of each such chip
chip_at_lem : (P : List ℕ → Kept → Type 0) → ((c : Kept) → legal_kept c ≡ true → (rest : List ℕ) → P (kept_numbers c ++ rest) c)
    → (j k : ℕ) (cs : List Kept) (d : Kept) → k < length cs → legal_kept (get_or cs k d) ≡ true
    → P (drop (9 * k) (lines_at own j cs)) (get_or cs k d)
unfolding lines_at
chip_at_lem P each j k [] d h ok = absurd (not-suc-le-zero h)
chip_at_lem P each j zero (c ∷ cs) d h ok = each c ok (lines_at own (suc j) cs)
chip_at_lem P each j (suc k) (c ∷ cs) d h ok =
    let all = kept_numbers c ++ lines_at own (suc j) cs in
    let more : 9 * suc k ≡ 9 + 9 * k = omega arith in
    let past = ap (λ m. drop m all) more ∙ sym (drop-drop (9 * k) 9 all) in
    subst (λ xs. P xs (get_or cs k d)) (sym past) (chip_at_lem P each (suc j) k cs d (le_of_suc-le-suc h) ok)

module _ (kiosk : Kiosk) (w : Writable kiosk) where
  abbrev n : ℕ
  n = kiosk.n

  abbrev ns : List ℕ
  ns = kiosk_numbers kiosk

  few : n ≤ 8
  few = (count_within n (passes kiosk w.0).chips).few

  chip_in_lem : (P : List ℕ → Kept → Type 0) → ((c : Kept) → legal_kept c ≡ true → (rest : List ℕ) → P (kept_numbers c ++ rest) c)
      → (k : ℕ) → k < n → P (from_kept k ns) (get_or kiosk.chips k no_kept)
  chip_in_lem P each k h =
      let inside : k < length kiosk.chips = omega (arith, w.1, few) in
      subst (λ xs. P xs (get_or kiosk.chips k no_kept)) (drop-drop (9 * k) 1 ns)
      (chip_at_lem P each 0 k kiosk.chips no_kept inside (legal_at n kiosk.chips k no_kept (passes kiosk w.0).legal h inside))

  pub settings_tested_lem : settings_tested ns ≡ done tt
  unfolding settings_tested
  settings_tested_lem =
      pick_yes _ _ (passes kiosk w.0).chips
      ∙ pick_yes _ _ (below_each (kept_fits_in ns) n (λ k h. chip_in_lem (λ xs c. kept_fits xs ≡ true) kept_fits_lem k h))

  pub kept_same : K.kept_in (kiosk_of ns) ≡ K.kept_in kiosk
  unfolding kiosk_of
  kept_same =
      ap (λ m. take n (at_places (kept_in ns) m)) (sym w.1)
      ∙ first_places (kept_in ns) n kiosk.chips no_kept (λ k h l. chip_in_lem (λ xs c. kept_of xs ≡ c) kept_back k h)

  text_same : text_of (kiosk_of ns) ≡ text_of kiosk
  unfolding text_of kiosk_of
  text_same = ap (λ cs. line_for (first_frame n) ++ chip_lines 0 cs) kept_same

-- with zeros for the chips from N on
pub written_read : (ns : List ℕ) → settings_tested ns ≡ done tt → read_numbers (text_of (kiosk_of ns)) ≡ 0 ∷ 0 ∷ kiosk_numbers (trimmed (kiosk_of ns))
unfolding kiosk_of
written_read ns passed = ap read_by (written_reads_lem (kiosk_of ns) (numbers_writable ns passed) refl)

module _ (text : List ℕ) (kiosk : Kiosk) (reads : ReadAs text kiosk) (out answer out' : List ℕ) (room : length text ≤ length out) where
  pub read_then_write : WritesSettings (kiosk_numbers kiosk) out answer out' → (answer ≡ 0 ∷ 0 ∷ length text ∷ []) × (out' ≡ laid text out)
  read_then_write writes =
      let back = read_written text kiosk reads in
      let w : Writable kiosk = (back.1, read_size text kiosk reads) in
      let piece : text_of (kiosk_of (kiosk_numbers kiosk)) ≡ text = text_same kiosk w ∙ back.0 in
      let so : answer_by (settings_tested (kiosk_numbers kiosk)) (text_of (kiosk_of (kiosk_numbers kiosk))) out ≡ done (length text) =
      ap (λ t. answer_by t (text_of (kiosk_of (kiosk_numbers kiosk))) out) (settings_tested_lem kiosk w)
      ∙ ap (λ p. answer_by (done tt) p out) piece
      ∙ pick_yes _ _ (le-leb (length text) (length out) room) in
      (writes.numbers ∙ ap alone so, writes.buffer ∙ ap (λ t. buffer_by t (text_of (kiosk_of (kiosk_numbers kiosk))) out) so ∙ ap (λ p. laid p out) piece)
