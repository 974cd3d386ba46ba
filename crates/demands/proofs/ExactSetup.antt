-- Demand 1, the exact table, of the rows of a settings text: specs/SettingsTables.antt.
--     keypad_table               the writer refuses the rows of settings exactly with 7, at the lowest chip before the last that has KEYB 1
--     reads_asked                the settings of a text that reads are as demand 3 asks
--     settings_setup_exact       settings::setup; 14, 15, 7
-- Assumes nothing.
use mathlib.Core.Path.{◌≡◌, refl, ap₂, sym, subst}
use mathlib.Core.Bool.{Bool, true, false, not, ◌&&◌}
use mathlib.Core.Logic.{inl, inr}
use mathlib.Core.List.{List, [], ◌∷◌, ◌++◌}
use Prim.Native.Nat.{ℕ, zero, suc, ◌+◌, ◌≤◌, ◌<◌}
use native.Mathlib.Nat.{not-suc-le-zero, le_of_suc-le-suc}
use native.Mathlib.Omega.{arith}
use lib.ListN.{length, take}
use Rattle.base.specs.Refusals.{Told, done, refused}
use Rattle.base.proofs.Tests.{by_order}
use Rattle.writer.specs.Rows.{for_last, words_from, list_test, or_else}
use Rattle.settings.specs.declared.Kept.{Kept}
use Rattle.settings.specs.declared.Kiosk.{Kiosk}
use Rattle.settings.specs.declared.Part.TheVariants.{System}
use Rattle.settings.specs.Printing.{kiosk_words, setup_end}
use Rattle.settings.specs.Reading.{read_of}
use Rattle.settings.specs.Settings.{kept_in, legal_kept, all_legal, row_for}
use Rattle.settings.proofs.OneText.{read_size, read_written}
use Rattle.settings.proofs.Rooms.{read_as}
use Rattle.demands.specs.Exact.{Row, each, Exactly}
use Rattle.demands.specs.Settings.{AskedKiosk}
use Rattle.demands.specs.SettingsTables.{KeypadBefore, keypad_row, keypad_rows, settings_setup_table}
use Rattle.demands.proofs.ByTable.{ByTable, answered, here, later, by_table, stays, goes_on}
use Rattle.demands.proofs.ExactSettings.{read_table}
use Rattle.demands.proofs.SettingsForms.{never_both}
use Rattle.demands.proofs.SettingsRows.{few, kept_legal, others, first_legal, rest_legal, last_place, early_place, off_or_last, word_passes, word_stops}
use Rattle.demands.proofs.SettingsSet.{to_first, others_pass}

-- ---- the writer

-- no chip from the last on is refused
none_past : (n : ℕ) (cs : List Kept) (j : ℕ) → n ≤ j + 1 → ByTable {A = Unit {0}} (done tt) (each (keypad_row n) j cs)
none_past n [] j h = answered tt
none_past n (c ∷ cs) j h = later (λ (y : KeypadBefore n j c). let l = y.0 in omega arith) (none_past n cs (suc j) (omega arith))

module _ (n : ℕ) (ws more : List ℕ) (pass : (place : ℕ) → words_from n ws place more ≡ done tt) where
  -- the words of the first row from chip j on
  abbrev from : ℕ → List Kept → Told (Unit {0})
  from j cs = words_from n ws j (row_for System cs ++ more)

  -- chip j's word, before those of the chips after it
  module _ (c : Kept) (cs : List Kept) (j : ℕ) (ok : legal_kept c ≡ true) {rows : List Row} (rest : ByTable (from (suc j) cs) rows) where
    next : (c.system.keyb && not (for_last n j)) ≡ false → ByTable (from j (c ∷ cs)) rows
    next off = subst (λ x. ByTable x rows) (sym (word_passes n ws j System c (row_for System cs ++ more) ok off)) rest

    by_keypad : j + 1 < n → (b : Bool) → c.system.keyb ≡ b → ByTable (from j (c ∷ cs)) (keypad_row n j c ++ rows)
    by_keypad l true q =
        let given : KeypadBefore n j c = (l, q) in
        here given (word_stops n ws j System c (row_for System cs ++ more) ok (ap₂ (λ x y. x && not y) q (early_place n j l)))
    by_keypad l false q = later (λ (y : KeypadBefore n j c). never_both y.1 q) (next (off_or_last c.system.keyb (for_last n j) (inl q)))

    one_chip : j < n → ByTable (from j (c ∷ cs)) (keypad_row n j c ++ rows)
    one_chip h =
        by_order n (j + 1)
        (λ l.
        later (λ (y : KeypadBefore n j c). let m = y.0 in omega arith)
        (next (off_or_last c.system.keyb (for_last n j) (inr (last_place n j (omega arith))))))
        (λ l. by_keypad l c.system.keyb refl)

  row_table : (cs : List Kept) (left j : ℕ) → j + left ≡ n → left ≤ length cs → all_legal (take left cs) ≡ true
      → ByTable (from j (take left cs)) (each (keypad_row n) j cs)
  row_table cs zero j e h t = subst (λ x. ByTable x (each (keypad_row n) j cs)) (sym (pass j)) (none_past n cs j (omega arith))
  row_table [] (suc left) j e h t = absurd (not-suc-le-zero h)
  row_table (c ∷ cs) (suc left) j e h t =
      one_chip c (take left cs) j (first_legal c (take left cs) t)
      (row_table cs left (suc j) (omega arith) (le_of_suc-le-suc h) (rest_legal c (take left cs) t)) (omega arith)

pub keypad_table : (kiosk : Kiosk) → AskedKiosk kiosk → ByTable (list_test kiosk.n (kiosk_words kiosk)) (keypad_rows kiosk)
keypad_table kiosk a =
    let size = few kiosk a in
    subst (λ x. ByTable x (keypad_rows kiosk)) (sym (to_first kiosk a))
    (row_table kiosk.n (kiosk_words kiosk) (others (kept_in kiosk)) (others_pass kiosk a) kiosk.chips kiosk.n 0 (omega arith) (omega (arith, a.places)) (kept_legal kiosk a))

-- ---- a text

after_read : (t u : Told (Unit {0})) {rows more : List Row} → ByTable t rows → (t ≡ done tt → ByTable u more) → ByTable (or_else t u) (rows ++ more)
after_read (done v) u y z = goes_on y (z refl)
after_read (refused number place) u {more = more} y z = stays more y

-- what a text that reads gives
pub reads_asked : (text : List ℕ) → (read_of text).told ≡ done tt → AskedKiosk (read_of text).state
reads_asked text e =
    let kiosk = (read_of text).state in
    let read = read_as text e in
    record { places = read_size text kiosk read; legal = (read_written text kiosk read).1 }

pub settings_setup_exact : (text : List ℕ) → Exactly (setup_end text) (settings_setup_table text)
settings_setup_exact text = by_table (after_read (read_of text).told _ (read_table text) (λ e. keypad_table (read_of text).state (reads_asked text e)))
