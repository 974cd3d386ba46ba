-- Demand 3 for kiosk settings (C-16): the rows of settings, written and played, leave each chip with them; and refusal 7 where the keypad is on before the last chip.
--     own_set                 a chip that took its own words ends with its settings
--     settings_set            the theorem by demand 3
--     settings_accepted       rows with KEYB 1 at most on the last chip, and `settings_accepted_only` no others
--     keypad_refused          rows with KEYB 1 before the last chip
-- Assumes nothing.
use mathlib.Core.Path.{◌≡◌, refl, ap, ap₂, sym, subst, ◌∙◌}
use mathlib.Core.Bool.{false, not, ◌&&◌}
use mathlib.Core.Logic.{inl, inr}
use mathlib.Core.List.{List, [], ◌∷◌, ◌++◌, map, append-nil}
use Prim.Native.Nat.{ℕ, suc, ◌+◌, ◌*◌, ◌≤◌, ◌<◌}
use native.Mathlib.Nat.{zero-add}
use native.Mathlib.Omega.{arith}
use borrow.Author.Tests.{le-leb}
use lib.ListN.{length, get_or}
use lib.Seq.{get_or-take}
use Rattle.base.specs.Refusals.{done, refused, tells}
use Rattle.base.proofs.Picks.{pick_yes}
use Rattle.base.proofs.Tests.{by_order}
use Rattle.word.specs.Words.{decoded_of}
use Rattle.chip.specs.declared.Chip.{Chip}
use Rattle.chip.specs.History.{Step, after}
use Rattle.chip.specs.Record.{Body, body_of}
use Rattle.chain.specs.Entries.{chip_at}
use Rattle.writer.specs.Rows.{width, for_last, words_from, list_test}
use Rattle.writer.specs.Rows as Rows
use Rattle.writer.specs.Written.{room, answer_by, answer_of}
use Rattle.settings.specs.declared.Kept.{Kept}
use Rattle.settings.specs.declared.Kiosk.{Kiosk}
use Rattle.settings.specs.declared.Part.{Part}
use Rattle.settings.specs.declared.Part.TheVariants.{System, Display, Blink, Custom}
use Rattle.settings.specs.Printing.{kiosk_words}
use Rattle.settings.specs.Settings.{no_kept, kept_in, command_for, row_for}
use Rattle.settings.proofs.Captured.{rows_many}
use Rattle.demands.specs.Calls.{events_of}
use Rattle.demands.specs.Events.{commands_in, word_for}
use Rattle.demands.specs.Settings.{kept_at, AskedKiosk, EndsWith, KeypadAtMostLast, KeypadEarly, SettingsSet, setup_samples, SettingsAccepted, SettingsAcceptedOnly, KeypadRefused}
use Rattle.demands.specs.Whole.{own_steps}
use Rattle.demands.proofs.Accepted.{Fit, Fits, rows_accepted}
use Rattle.demands.proofs.OneChipSet.{four_parts, four_set}
use Rattle.demands.proofs.SettingsRows.{whole, kept_legal, others, first_row, last_place, early_place, off_or_last, four_rows, rows_tested, row_means, row_passes, row_refused}
use Rattle.demands.proofs.Whole.{undone, demand_3_whole}
use Rattle.std.specs.declared.result.Result.{Result}
use Rattle.std.specs.declared.result.Result.TheVariants.{Ok, Err}
use Rattle.base.specs.declared.Refusal.{Refusal}

-- ---- the settings of the chips below N

module _ (kiosk : Kiosk) (a : AskedKiosk kiosk) where
  kept_at_lem : (k : ℕ) → k < kiosk.n → get_or (kept_in kiosk) k no_kept ≡ kept_at k kiosk
  kept_at_lem k h = get_or-take kiosk.n kiosk.chips k no_kept h

  -- what chip k's word of a part's row means
  part_means : (k : ℕ) → k < kiosk.n → (part : Part) → decoded_of (word_for k (row_for part (kept_in kiosk))) ≡ done (command_for part (kept_at k kiosk))
  part_means k h part =
      row_means part (kept_in kiosk) k (subst (λ m. k < m) (sym (whole kiosk a)) h) (kept_legal kiosk a) ∙ ap (λ c. done (command_for part c)) (kept_at_lem k h)

  -- and its words of all rows: the commands of its four parts
  rows_mean : (k : ℕ) → k < kiosk.n
      → map (λ row. decoded_of (word_for k row)) (Rows.rows_of kiosk.n (kiosk_words kiosk)) ≡ map done (map (λ part. command_for part (kept_at k kiosk)) four_parts)
  rows_mean k h =
      ap (map (λ row. decoded_of (word_for k row))) (four_rows kiosk a)
      ∙ ap₂ ◌∷◌ (part_means k h System) (ap₂ ◌∷◌ (part_means k h Display) (ap₂ ◌∷◌ (part_means k h Blink) (ap₂ ◌∷◌ (part_means k h Custom) refl)))

  -- so a chip that took its own words ends with its settings
  pub own_set : (k : ℕ) → k < kiosk.n → (steps : List Step) (before end : Chip) → body_of end ≡ body_of (after steps before)
      → map done (commands_in steps) ≡ map (λ row. decoded_of (word_for k row)) (Rows.rows_of kiosk.n (kiosk_words kiosk))
      → EndsWith (kept_at k kiosk) before end
  own_set k h steps before end same commands =
      let told = undone (commands_in steps) (map (λ part. command_for part (kept_at k kiosk)) four_parts) (commands ∙ rows_mean k h) in
      let ends = four_set (kept_at k kiosk) steps before told in
      record {
        settings = ap (λ (b : Body). b.settings) same ∙ ends.settings;
        digits = ap (λ (b : Body). b.digits) same ∙ ends.digits;
      }

-- ---- by demand 3

pub settings_set : SettingsSet
settings_set kiosk a ch asked out out' r count w e calls below samples ch' ran k h =
    let took = (demand_3_whole kiosk.n ch (kiosk_words kiosk) asked out out' r count w e calls below samples ch' ran).took k h in
    own_set kiosk a k h (own_steps k kiosk.n ch (kiosk_words kiosk) (events_of calls)) (chip_at k ch) (chip_at k ch') took.ends took.commands

-- ---- the writer

-- an answer that tells a number
samples_told : (r : Result ℕ Refusal) (m : ℕ) → tells r ≡ done m → r ≡ Ok m
samples_told (Ok count) m e = let same : count ≡ m = cc in ap Ok same
samples_told (Err why) m e = let z : ◌≡◌ {A = ℕ} 0 1 = cc in absurd (omega arith)

module _ (kiosk : Kiosk) (a : AskedKiosk kiosk) where
  abbrev n : ℕ
  n = kiosk.n

  abbrev cs : List Kept
  cs = kept_in kiosk

  abbrev ws : List ℕ
  ws = kiosk_words kiosk

  -- the list comes to the tests of its first row
  pub to_first : list_test n ws ≡ words_from n ws 0 (row_for System cs ++ others cs)
  to_first = rows_tested kiosk a ∙ ap (words_from n ws 0) (first_row cs)

  -- the other rows pass
  pub others_pass : (place : ℕ) → words_from n ws place (others cs) ≡ done tt
  unfolding words_from
  others_pass place =
      let t = kept_legal kiosk a in
      row_passes n ws Display cs place (row_for Blink cs ++ row_for Custom cs) t (λ i h. refl)
      ∙ row_passes n ws Blink cs (place + length cs) (row_for Custom cs) t (λ i h. refl)
      ∙ ap (words_from n ws (place + length cs + length cs)) (sym (append-nil (row_for Custom cs)))
      ∙ row_passes n ws Custom cs (place + length cs + length cs) [] t (λ i h. refl)

  module _ (last : KeypadAtMostLast kiosk) where
    first_passes : words_from n ws 0 (row_for System cs ++ others cs) ≡ words_from n ws (0 + length cs) (others cs)
    first_passes = row_passes n ws System cs 0 (others cs) (kept_legal kiosk a) (λ i h. at i (subst (λ m. i < m) (whole kiosk a) h))
      where
        at : (i : ℕ) → i < n → ((get_or cs i no_kept).system.keyb && not (for_last n (0 + i))) ≡ false
        at i h =
            by_order n (i + 1) (λ l. off_or_last (get_or cs i no_kept).system.keyb (for_last n (0 + i)) (inr (last_place n (0 + i) (omega arith))))
            (λ l. off_or_last (get_or cs i no_kept).system.keyb (for_last n (0 + i)) (inl (ap (λ (c : Kept). c.system.keyb) (kept_at_lem kiosk a i h) ∙ last i l)))

    list_passes : list_test n ws ≡ done tt
    list_passes = to_first ∙ first_passes ∙ others_pass (0 + length cs)

    answer_so : (out : List ℕ) → setup_samples n ≤ length out → answer_of n ws out ≡ done (setup_samples n)
    unfolding answer_of
    answer_so out h =
        let size : room n ws ≡ setup_samples n = ap (λ rows. width n * rows) (rows_many kiosk a.legal a.places) ∙ omega arith in
        ap₂ (λ t need. answer_by t need (length out)) list_passes size ∙ pick_yes _ _ (le-leb (setup_samples n) (length out) h)

  refuses : (k : ℕ) → KeypadEarly kiosk k → list_test n ws ≡ refused 7 k
  refuses k y =
      let here = y.not_last in
      let inside : k < n = omega arith in
      to_first
      ∙ row_refused n ws System cs 0 k (others cs) (kept_legal kiosk a) (subst (λ m. k < m) (sym (whole kiosk a)) inside)
      (ap₂ (λ on l. on && not l) (ap (λ (c : Kept). c.system.keyb) (kept_at_lem kiosk a k inside) ∙ y.on) (early_place n (0 + k) (omega arith)))
      (λ i h. off_or_last (get_or cs i no_kept).system.keyb (for_last n (0 + i)) (inl (ap (λ (c : Kept). c.system.keyb) (kept_at_lem kiosk a i (omega arith)) ∙ y.lowest i h)))
      ∙ ap (refused 7) (zero-add k)

  answer_refused : (k : ℕ) → KeypadEarly kiosk k → (out : List ℕ) → answer_of n ws out ≡ refused 7 k
  unfolding answer_of
  answer_refused k y out = ap (λ t. answer_by t (room n ws) (length out)) (refuses k y)

pub settings_accepted : SettingsAccepted
settings_accepted kiosk a last =
    record {
      list = list_passes kiosk a last;
      answer = λ out out' r w h. samples_told r (setup_samples kiosk.n) (w.answer ∙ answer_so kiosk a last out h);
    }

-- chip k's word of the first row is fit for it
pub settings_accepted_only : SettingsAcceptedOnly
settings_accepted_only kiosk a e k h =
    let inside : k < kiosk.n = omega arith in
    let fits = subst (Fits kiosk.n) (four_rows kiosk a) (rows_accepted kiosk.n (kiosk_words kiosk) e) in
    let next : suc k < kiosk.n = omega arith in
    subst (Fit kiosk.n k) (part_means kiosk a k inside System) (fits.0.words k inside) next

pub keypad_refused : KeypadRefused
keypad_refused kiosk a k y = record { list = refuses kiosk a k y; answer = λ out out' r w. w.answer ∙ answer_refused kiosk a k y out }
