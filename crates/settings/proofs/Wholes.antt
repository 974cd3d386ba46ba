-- The text and the rows, put piece after piece.
--     first_fits, lines_fit, text_put                        the first line, and the chips'
--     second_fits, third_fits, fourth_fits, rows_put         the four rows
-- Assumes nothing.
use mathlib.Core.Path.{◌≡◌}
use mathlib.Core.List.{List, ◌++◌}
use Prim.Native.Nat.{ℕ, ◌+◌, ◌*◌, ◌≤◌}
use native.Mathlib.Omega.{arith}
use lib.ListN.{length, length-append}
use Rattle.lines.specs.Answers.{Puts}
use Rattle.lines.specs.Lines.{line_for}
use Rattle.lines.proofs.Puts.{line_for_length, puts_room, puts_both}
use Rattle.settings.specs.declared.Kept.{Kept}
use Rattle.settings.specs.declared.Kiosk.{Kiosk}
use Rattle.settings.specs.declared.Part.TheVariants as Parts
use Rattle.settings.specs.Settings.{kept_in, first_frame, chip_lines, text_of, row_for, words_of}
use Rattle.settings.proofs.Putting.{row_length}
use Rattle.settings.proofs.Texts.{lines_long}

-- ---- the text

module _ (kiosk : Kiosk) (all : length (kept_in kiosk) ≡ kiosk.n) (out : List ℕ) (room : 7 + 13 * kiosk.n ≤ length out) where
  abbrev front : List ℕ
  front = line_for (first_frame kiosk.n)

  abbrev rest : List ℕ
  rest = chip_lines 0 (kept_in kiosk)

  pub first_fits : 0 + length front ≤ length out
  first_fits = omega (arith, line_for_length (first_frame kiosk.n))

  both_fit : 0 + length (front ++ rest) ≤ length out
  both_fit =
      omega (arith, length-append front rest, line_for_length (first_frame kiosk.n), lines_long (kept_in kiosk), all)

  module _ {r : ℕ} {out' : List ℕ} (first : Puts front 0 out r out') where
    pub lines_fit : r + 13 * kiosk.n ≤ length out'
    lines_fit = omega (arith, puts_room front rest both_fit first, lines_long (kept_in kiosk), all)

    pub text_put : {s : ℕ} {out'' : List ℕ} → Puts rest r out' s out'' → Puts (text_of kiosk) 0 out s out''
    unfolding text_of
    text_put more = puts_both front rest both_fit first more

-- ---- the rows

module _ (n : ℕ) (cs : List Kept) (all : length cs ≡ n) (out : List ℕ) (room : 4 * n ≤ length out) where
  abbrev one : List ℕ
  one = row_for Parts.System cs

  abbrev two : List ℕ
  two = one ++ row_for Parts.Display cs

  abbrev three : List ℕ
  three = two ++ row_for Parts.Blink cs

  abbrev four : List ℕ
  four = three ++ row_for Parts.Custom cs

  two_fit : 0 + length two ≤ length out
  two_fit = omega (arith, length-append one (row_for Parts.Display cs), row_length Parts.System cs, row_length Parts.Display cs)

  three_fit : 0 + length three ≤ length out
  three_fit =
      omega (arith, length-append one (row_for Parts.Display cs), length-append two (row_for Parts.Blink cs), row_length Parts.System cs, row_length Parts.Display cs, row_length Parts.Blink cs)

  four_fit : 0 + length four ≤ length out
  four_fit =
      omega (
        arith,
        length-append one (row_for Parts.Display cs),
        length-append two (row_for Parts.Blink cs),
        length-append three (row_for Parts.Custom cs),
        row_length Parts.System cs,
        row_length Parts.Display cs,
        row_length Parts.Blink cs,
        row_length Parts.Custom cs,
      )

  module _ {r : ℕ} {out₁ : List ℕ} (a : Puts one 0 out r out₁) where
    pub second_fits : r + n ≤ length out₁
    second_fits = omega (arith, puts_room one (row_for Parts.Display cs) two_fit a, row_length Parts.Display cs)

    module _ {s : ℕ} {out₂ : List ℕ} (b : Puts (row_for Parts.Display cs) r out₁ s out₂) where
      second : Puts two 0 out s out₂
      second = puts_both one (row_for Parts.Display cs) two_fit a b

      pub third_fits : s + n ≤ length out₂
      third_fits = omega (arith, puts_room two (row_for Parts.Blink cs) three_fit second, row_length Parts.Blink cs)

      module _ {t : ℕ} {out₃ : List ℕ} (c : Puts (row_for Parts.Blink cs) s out₂ t out₃) where
        third : Puts three 0 out t out₃
        third = puts_both two (row_for Parts.Blink cs) three_fit second c

        pub fourth_fits : t + n ≤ length out₃
        fourth_fits = omega (arith, puts_room three (row_for Parts.Custom cs) four_fit third, row_length Parts.Custom cs)

        pub rows_put : {u : ℕ} {out₄ : List ℕ} → Puts (row_for Parts.Custom cs) t out₃ u out₄ → Puts (words_of cs) 0 out u out₄
        unfolding words_of
        rows_put d = puts_both three (row_for Parts.Custom cs) four_fit third d
