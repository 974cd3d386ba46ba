-- What is printed of a text: a refusal's line, or a piece; and the capture text of samples, line by line.
--     prints_so, prints_done, prints_refused, prints_counts           a refusal's line at the front, or a piece, and how many bytes
--     read_done, again_so, setup_so, again_refused, setup_refused     what was read says what is printed
--     copied                                                          a line's samples put into an array
--     lines_length, lines_more, lines_over                            lines of 32 samples
--     left_over, left_room, left_more                                 a loop that puts such lines
-- Assumes nothing.
use mathlib.Core.Path.{◌≡◌, refl, ap, ap₂, sym, subst, ◌∙◌}
use mathlib.Core.List.{List, [], ◌∷◌, ◌++◌}
use Prim.Native.Nat.{ℕ, zero, suc, ◌+◌, ◌*◌, ◌-◌, ◌/◌, ◌≤◌, ◌<◌, min}
use borrow.Rule.Slice.PartMut.{put_mid}
use native.Mathlib.Omega.{arith}
use lib.ListN.{length, set, replicate, take, drop, length-append, length-take, length-drop, drop_of_length-le}
use lib.Seq.{take_all, take_at, drop_at}
use Rattle.base.specs.Lent.{Counts}
use Rattle.base.specs.Refusals.{Told, done, refused, refused_by, Outcome, tells, handed}
use Rattle.base.specs.declared.Refusal.{Refusal}
use Rattle.base.proofs.Lent.{Fills, fills_more, fills_room, fills_over, laid_counts}
use Rattle.base.proofs.Tests.{by_order}
use Rattle.capture.specs.declared.Replayed.{Replayed}
use Rattle.lines.specs.Answers.{Puts}
use Rattle.lines.specs.Lines.{line_for}
use Rattle.lines.proofs.Puts.{line_for_length}
use Rattle.writer.specs.Rows.{list_test, or_else}
use Rattle.settings.specs.declared.Kiosk.{Kiosk}
use Rattle.settings.specs.OneText.{ReadAs}
use Rattle.settings.specs.Printing.{lines_for, sample_lines, kiosk_words, setup_of, out_by, Prints, PrintsAgain, PrintsSetup}
use Rattle.settings.specs.Reading.{read_of}
use Rattle.settings.specs.Settings.{text_of}
use Rattle.std.specs.declared.result.Result.TheVariants.{Ok, Err}
use Rattle.base.specs.declared.Handed.{Handed}

-- ---- a refusal's line, or a piece

module _ {out : List ℕ} {r : Replayed} {out' : List ℕ} where
  pub prints_so : (end : Told (Unit {0})) (piece : List ℕ) → tells r.answer ≡ end → Puts (out_by end piece) 0 out r.bytes out'
      → Prints end piece out r out'
  prints_so end piece e put = record { answer = e; count = omega (arith, put.answer); bytes = put.bytes }

  pub prints_done : {end : Told (Unit {0})} {piece : List ℕ} → tells r.answer ≡ done tt → end ≡ done tt → Puts piece 0 out r.bytes out'
      → Prints end piece out r out'
  prints_done {end} {piece} a e put = subst (λ t. Prints t piece out r out') (sym e) (prints_so (done tt) piece a put)

  pub prints_refused : {number place : ℕ} {end : Told (Unit {0})} {piece : List ℕ} → end ≡ refused number place → Prints (refused number place) [] out r out'
      → Prints end piece out r out'
  prints_refused {number} {place} {end} {piece} e p =
      subst (λ t. Prints t piece out r out') (sym e) (record { answer = p.answer; count = p.count; bytes = p.bytes })

-- ---- what was read

module _ (text : List ℕ) {r : Handed Kiosk (Unit {0})} (reads : handed r ≡ read_of text) where
  pub read_done : r.answer ≡ (Ok tt) → ReadAs text r.value
  read_done q = sym reads ∙ ap (λ v. record { state = r.value; told = tells v }) q

  refused_told : {e : Refusal} → r.answer ≡ Err e → (read_of text).told ≡ refused_by e
  refused_told q = ap (λ (o : Outcome Kiosk (Unit {0})). o.told) (sym reads) ∙ ap tells q

  module _ {out : List ℕ} {w : Replayed} {out' : List ℕ} where
    pub again_so : r.answer ≡ (Ok tt) → Prints (done tt) (text_of r.value) out w out' → PrintsAgain text out w out'
    again_so q p = subst (λ (o : Outcome Kiosk (Unit {0})). Prints o.told (text_of o.state) out w out') (sym (read_done q)) p

    pub setup_so : r.answer ≡ (Ok tt) → Prints (list_test r.value.n (kiosk_words r.value)) (setup_of r.value) out w out'
        → PrintsSetup text out w out'
    setup_so q p =
        subst (λ (o : Outcome Kiosk (Unit {0})). Prints (or_else o.told (list_test o.state.n (kiosk_words o.state))) (setup_of o.state) out w out')
        (sym (read_done q)) p

    module _ {e : Refusal} (q : r.answer ≡ Err e) (p : Prints (refused_by e) [] out w out') where
      pub again_refused : PrintsAgain text out w out'
      again_refused = prints_refused (refused_told q) p

      pub setup_refused : PrintsSetup text out w out'
      setup_refused =
          prints_refused (ap (λ t. or_else t (list_test (read_of text).state.n (kiosk_words (read_of text).state))) (refused_told q)) p

-- ---- a line's samples in an array

-- an array of no bytes yet
abbrev zeros : List ℕ
zeros = replicate 33 0

-- samples put behind 01 at its front make the line's bytes
pub copied : (ss : List ℕ) {part : List ℕ} → part ≡ ss → take (length ss + 1) (put_mid 1 (length ss + 1 - 1) (set zeros 0 0x01) part) ≡ 0x01 ∷ ss
copied ss e =
    ap (λ part. take (length ss + 1) (put_mid 1 (length ss + 1 - 1) (set zeros 0 0x01) part)) e
    ∙ take_at (0x01 ∷ ss) (drop (length ss + 1 - 1) (replicate 32 0)) (length ss + 1) (omega arith)

-- ---- lines of 32 samples

pub lines_length : (more : ℕ) (ss : List ℕ) → length ss ≤ 32 * more → length (lines_for more ss) ≤ 3 * more + 2 * length ss
unfolding lines_for
lines_length zero ss h = omega arith
lines_length (suc more) ss h =
    omega (
      arith,
      length-append (line_for (0x01 ∷ take 32 ss)) (lines_for more (drop 32 ss)),
      line_for_length (0x01 ∷ take 32 ss),
      length-take 32 ss,
      length-drop 32 ss,
      lines_length more (drop 32 ss) (omega (arith, length-drop 32 ss)),
    )

pub lines_more : (ss : List ℕ) → 0 < length ss → sample_lines ss ≡ line_for (0x01 ∷ take 32 ss) ++ sample_lines (drop 32 ss)
unfolding lines_for
lines_more ss h =
    let left = length-drop 32 ss in
    let count : (length ss + 31) / 32 ≡ suc ((length (drop 32 ss) + 31) / 32) = omega arith in
    ap (λ m. lines_for m ss) count

pub lines_over : (ss : List ℕ) → length ss ≤ 0 → sample_lines ss ≡ []
unfolding lines_for
lines_over ss h = let none : (length ss + 31) / 32 ≡ 0 = omega arith in ap (λ m. lines_for m ss) none

-- the next 32 samples, or all that are left, make the next line
lines_next : (rest line rest' : List ℕ) → rest ≡ line ++ rest' → length line ≡ min 32 (length rest) → 0 < length rest
    → sample_lines rest ≡ line_for (0x01 ∷ line) ++ sample_lines rest'
lines_next rest line rest' e l some =
    let here : take (length line) rest ≡ line = ap (take (length line)) e ∙ take_at line rest' (length line) refl in
    let past : drop (length line) rest ≡ rest' = ap (drop (length line)) e ∙ drop_at line rest' (length line) refl in
    lines_more rest some
    ∙ by_order 32 (length rest)
    (λ h. let whole : 32 ≡ length line = omega arith in
    ap₂ (λ a b. line_for (0x01 ∷ a) ++ sample_lines b) (ap (λ m. take m rest) whole ∙ here) (ap (λ m. drop m rest) whole ∙ past))
    (λ h. let all : length rest ≤ length line = omega arith in
    let few : length rest ≤ 32 = omega arith in
    ap₂ (λ a b. line_for (0x01 ∷ a) ++ sample_lines b) (take_all 32 rest few ∙ sym (take_all (length line) rest all) ∙ here)
    (drop_of_length-le rest few ∙ sym (drop_of_length-le rest all) ∙ past))

-- ---- a loop that puts lines of 32 samples

module _ (ss rest : List ℕ) {at : ℕ} {out₀ : List ℕ} {end : ℕ} {out : List ℕ} (left : Fills at (sample_lines ss) out₀ end (sample_lines rest) out) where
  pub left_over : length rest ≡ 0 → Puts (sample_lines ss) at out₀ end out
  left_over none =
      let o = fills_over (subst (λ r. Fills at (sample_lines ss) out₀ end r out) (lines_over rest (omega arith)) left) in
      record { answer = o.0; bytes = o.1 }

  module _ (room : at + length (sample_lines ss) ≤ length out₀) (line rest' : List ℕ) (e : rest ≡ line ++ rest') (l : length line ≡ min 32 (length rest))
      (some : 0 < length rest) where
    next : Fills at (sample_lines ss) out₀ end (line_for (0x01 ∷ line) ++ sample_lines rest') out
    next = subst (λ r. Fills at (sample_lines ss) out₀ end r out) (lines_next rest line rest' e l some) left

    pub left_room : end + length (line_for (0x01 ∷ line)) ≤ length out
    left_room = fills_room (line_for (0x01 ∷ line)) (sample_lines rest') next room

    pub left_more : {end' : ℕ} {out' : List ℕ} → Puts (line_for (0x01 ∷ line)) end out end' out'
        → Fills at (sample_lines ss) out₀ end' (sample_lines rest') out'
    left_more put = fills_more (line_for (0x01 ∷ line)) (sample_lines rest') next room put.answer put.bytes

-- ---- the answer counts bytes at the array's front

pub prints_counts : {end : Told (Unit {0})} {piece out : List ℕ} {r : Replayed} {out' : List ℕ} → length (out_by end piece) ≤ length out
    → Prints end piece out r out'
    → Counts r.bytes out'
prints_counts {end} {piece} {out} {r} {out'} fits p =
    subst (λ n. Counts n out') (sym p.count) (subst (λ xs. Counts (length (out_by end piece)) xs) (sym p.bytes) (laid_counts out (out_by end piece) fits))
