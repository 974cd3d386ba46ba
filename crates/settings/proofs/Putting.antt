-- Settings put into a buffer: their test, a chip's line, the text, and the rows.
--     legal_at, legal_part                       no field is out of range, at a chip, in each part
--     word_so                                    the word of a command that is in range
--     fits_whole                                 room for the chips' lines
--     words_length                               how many words the rows have
--     fits_refused, fits_short, fits_put         what the entries do with their piece
--     RowLeft, row_more, row_over                a loop that puts a row
-- Assumes nothing.
use mathlib.Core.Path.{◌≡◌, refl, ap, sym, subst, ◌∙◌}
use mathlib.Core.Bool.{Bool, true, ◌&&◌, and-eq-true_iff}
use mathlib.Core.List.{List, [], ◌∷◌, ◌++◌}
use Prim.Native.Nat.{ℕ, ◌+◌, ◌*◌, ◌≤◌, ◌<◌}
use native.Mathlib.Omega.{arith}
use borrow.Author.Tests.{le-leb, lt-leb}
use lib.ListN.{length, get_or, set, take, length-append, length-map}
use Rattle.base.specs.Lent.{placed}
use Rattle.base.specs.Refusals.{Told, done, refused, refused_by, tells}
use Rattle.base.specs.declared.Refusal.{Refusal}
use Rattle.base.specs.declared.Refusal.TheVariants.{Room}
use Rattle.base.proofs.Every.{every_at}
use Rattle.base.proofs.Lent.{Fills}
use Rattle.base.proofs.Picks.{pick_yes, pick_no}
use Rattle.base.proofs.Stores.{one_put}
use Rattle.lines.specs.Answers.{Puts}
use Rattle.lines.proofs.Each.{lines_left, left_more, left_over, lines_width, each_one, front_at, front_few}
use Rattle.word.specs.Words.{word_of, legal, encoded_of}
use Rattle.word.specs.declared.Command.{Command}
use Rattle.settings.specs.declared.Kept.{Kept}
use Rattle.settings.specs.declared.Kiosk.{Kiosk}
use Rattle.settings.specs.declared.Part.{Part}
use Rattle.settings.specs.declared.Part.TheVariants as Parts
use Rattle.settings.proofs.Texts.{lines_long}
use Rattle.settings.specs.Putting.{settings_test, answer_by, buffer_by, Fits}
use Rattle.settings.specs.Settings.{command_for, legal_kept, all_legal, chip_lines, row_for, words_of}
use Rattle.std.specs.Result.{result_unwrap_or}
use Rattle.std.specs.declared.result.Result.{Result}
use Rattle.std.specs.declared.result.Result.TheVariants.{Ok, Err}

-- ---- no field is out of range

pub legal_at : (n : ℕ) (chips : List Kept) (k : ℕ) (d : Kept) → all_legal (take n chips) ≡ true → k < n → k < length chips → legal_kept (get_or chips k d) ≡ true
legal_at n chips k d e h l =
    let at = front_at n chips k d h l in
    ap legal_kept (sym at.1) ∙ every_at legal_kept (take n chips) k d e at.0

module _ (c : Kept) (e : legal_kept c ≡ true) where
  abbrev part_legal : Part → Bool
  part_legal part = legal (command_for part c)

  abbrev first_two : Bool
  first_two = part_legal Parts.System && part_legal Parts.Display

  last_part : ((first_two && part_legal Parts.Blink) ≡ true) × (part_legal Parts.Custom ≡ true)
  last_part = (and-eq-true_iff (first_two && part_legal Parts.Blink) (part_legal Parts.Custom)).0 e

  third_part : (first_two ≡ true) × (part_legal Parts.Blink ≡ true)
  third_part = (and-eq-true_iff first_two (part_legal Parts.Blink)).0 last_part.0

  second_part : (part_legal Parts.System ≡ true) × (part_legal Parts.Display ≡ true)
  second_part = (and-eq-true_iff (part_legal Parts.System) (part_legal Parts.Display)).0 third_part.0

  pub legal_part : (part : Part) → legal (command_for part c) ≡ true
  legal_part Parts.System = second_part.0
  legal_part Parts.Display = second_part.1
  legal_part Parts.Blink = third_part.1
  legal_part Parts.Custom = last_part.1

-- ---- words

-- the word that is told, or 0
abbrev word_in : Told ℕ → ℕ
word_in (done w) = w
word_in (refused number place) = 0

word_told : (r : Result ℕ Refusal) → result_unwrap_or r 0 ≡ word_in (tells r)
word_told (Ok w) = refl
word_told (Err e) = refl

pub word_so : (command : Command) (r : Result ℕ Refusal) → tells r ≡ encoded_of command → legal command ≡ true → result_unwrap_or r 0 ≡ word_of command
unfolding encoded_of
word_so command r e l = word_told r ∙ ap word_in (e ∙ pick_yes (done (word_of command)) (refused 9 0) l)

-- ---- room for the chips' lines

pub fits_whole : (n : ℕ) (chips : List Kept) (at : ℕ) (out : List ℕ) → at + 13 * n ≤ length out → at + length (chip_lines 0 (take n chips)) ≤ length out
fits_whole n chips at out h = omega (arith, lines_long (take n chips), front_few n chips n (omega arith))

-- ---- how many words the rows have

pub row_length : (part : Part) (cs : List Kept) → length (row_for part cs) ≡ length cs
row_length part cs = length-map cs (λ c. word_of (command_for part c))

pub words_length : (cs : List Kept) → length (words_of cs) ≡ 4 * length cs
unfolding words_of
words_length cs =
    omega (
      arith,
      length-append (row_for Parts.System cs ++ row_for Parts.Display cs ++ row_for Parts.Blink cs) (row_for Parts.Custom cs),
      length-append (row_for Parts.System cs ++ row_for Parts.Display cs) (row_for Parts.Blink cs),
      length-append (row_for Parts.System cs) (row_for Parts.Display cs),
      row_length Parts.System cs,
      row_length Parts.Display cs,
      row_length Parts.Blink cs,
      row_length Parts.Custom cs,
    )

-- ---- the entries

module _ (kiosk : Kiosk) (piece out : List ℕ) where
  pub fits_refused : (e : Refusal) {r : Result ℕ Refusal} → tells r ≡ refused_by e → settings_test kiosk ≡ refused_by e → Fits kiosk piece out r out
  fits_refused e says told =
      record { answer = says ∙ sym (ap (λ t. answer_by t piece out) told); buffer = sym (ap (λ t. buffer_by (answer_by t piece out) piece out) told) }

  module _ (test_done : settings_test kiosk ≡ done tt) where
    pub fits_short : length out < length piece → Fits kiosk piece out (Err Room) out
    fits_short h =
        let told : answer_by (settings_test kiosk) piece out ≡ refused 8 0 =
        ap (λ t. answer_by t piece out) test_done ∙ pick_no _ _ (lt-leb (length piece) (length out) h) in
        record { answer = sym told; buffer = sym (ap (λ t. buffer_by t piece out) told) }

    pub fits_put : {count : ℕ} {out' : List ℕ} → length piece ≤ length out → Puts piece 0 out count out' → Fits kiosk piece out (Ok count) out'
    fits_put {count} h put =
        let told : answer_by (settings_test kiosk) piece out ≡ done (length piece) =
        ap (λ t. answer_by t piece out) test_done ∙ pick_yes _ _ (le-leb (length piece) (length out) h) in
        let all : count ≡ length piece = omega (arith, put.answer) in
        record { answer = ap done all ∙ sym told; buffer = put.bytes ∙ sym (ap (λ t. buffer_by t piece out) told) }

-- ---- a row's loop

-- a chip's word of a part, alone
abbrev pub one_for : Part → ℕ → Kept → List ℕ
one_for part k c = word_of (command_for part c) ∷ []

-- the invariant: the words left, put where the loop stands, make the row
abbrev pub RowLeft : Part → List Kept → ℕ → List ℕ → ℕ → List ℕ → Type 0
RowLeft part cs at out₀ k out = Fills at (lines_left (one_for part) cs 0) out₀ (at + k) (lines_left (one_for part) cs k) out

module _ (part : Part) (cs : List Kept) (at : ℕ) (out₀ : List ℕ) (room : at + length cs ≤ length out₀) where
  whole_room : at + length (lines_left (one_for part) cs 0) ≤ length out₀
  whole_room = omega (arith, lines_width (one_for part) 1 (λ k c. refl) 0 cs)

  module _ (k : ℕ) {out : List ℕ} (l : RowLeft part cs at out₀ k out) where
    pub row_more : (d : Kept) {w : ℕ} → k < length cs → w ≡ word_of (command_for part (get_or cs k d)) → RowLeft part cs at out₀ (k + 1) (set out (at + k) w)
    row_more d {w} h e =
        let size = l.size in
        let piece = one_for part k (get_or cs k d) in
        let stored : set out (at + k) w ≡ placed (at + k) piece out =
        one_put out (at + k) w (omega arith) ∙ ap (λ x. placed (at + k) (x ∷ []) out) e in
        let next : at + (k + 1) ≡ at + k + length piece = omega arith in
        left_more (one_for part) cs at out₀ whole_room l d (get_or cs k d) h refl (record { answer = next; bytes = stored })

    pub row_over : length cs ≤ k → Puts (row_for part cs) at out₀ (at + k) out
    row_over h =
        subst (λ piece. Puts piece at out₀ (at + k) out) (each_one (λ c. word_of (command_for part c)) 0 cs)
        (left_over (one_for part) cs at out₀ whole_room l h)
