-- The capture text of settings: the words handed to the writer, what it answers, and the samples in lines.
--     puts_taken, puts_counted                    what was put at the front of a buffer stands there
--     four_words, words_few, rows_many, samples_many     four rows, and how many samples they are
--     row_refused, row_done, many_few, row_written, row_counted     what the writer answers of them, whose buffer always suffices
--     setup_length                                how long the text is
--     head_fits, samples_fit, setup_put           the first line, and the samples'
-- Assumes nothing.
use mathlib.Core.Path.{◌≡◌, ap, sym, subst, ◌∙◌}
use mathlib.Core.List.{List, [], ◌∷◌, ◌++◌}
use Prim.Native.Nat.{ℕ, ◌+◌, ◌*◌, ◌/◌, ◌≤◌}
use native.Mathlib.Omega.{arith}
use lib.Arith.{digits_div}
use lib.ListN.{length, take, drop, length-append}
use lib.Seq.{take_at}
use Rattle.base.specs.Refusals.{done, refused_by, tells}
use Rattle.base.specs.declared.Refusal.{Refusal}
use Rattle.chain.specs.Chain.{most}
use Rattle.lines.specs.Answers.{Puts}
use Rattle.lines.specs.Lines.{line_for}
use Rattle.lines.proofs.Puts.{line_for_length, puts_room, puts_both}
use Rattle.writer.specs.Rows.{cut_rows, samples_of, width, written, list_test}
use Rattle.writer.specs.Written.{room, answer_of, Writes}
use Rattle.writer.proofs.Answered.{refusal_told, room_told, written_part}
use Rattle.writer.proofs.Stretches.{samples_length}
use Rattle.settings.specs.declared.Kiosk.{Kiosk}
use Rattle.settings.specs.Printing.{sample_lines, kiosk_words, setup_of}
use Rattle.settings.specs.Putting.{settings_test}
use Rattle.settings.specs.Settings.{kept_in}
use Rattle.settings.proofs.Bytes.{OneToMost, count_within}
use Rattle.settings.proofs.Printing.{lines_length}
use Rattle.settings.proofs.Putting.{words_length}
use Rattle.settings.proofs.Texts.{passes, kept_length}
use Rattle.std.specs.declared.result.Result.{Result}
use Rattle.std.specs.declared.result.Result.TheVariants.{Ok, Err}

pub puts_taken : {piece out : List ℕ} {r : ℕ} {out' : List ℕ} → Puts piece 0 out r out' → take r out' ≡ piece
puts_taken {piece} {out} {r} {out'} put =
    let count : r ≡ length piece = omega (arith, put.answer) in
    ap (take r) put.bytes ∙ take_at piece (drop (length piece) out) r (sym count)

pub puts_counted : {piece out : List ℕ} {r : ℕ} {out' : List ℕ} → Puts piece 0 out r out' → r ≡ length (take r out')
puts_counted {piece} {out} {r} {out'} put =
    let count : r ≡ length piece = omega (arith, put.answer) in
    count ∙ ap length (sym (puts_taken put))

module _ (kiosk : Kiosk) (passed : settings_test kiosk ≡ done tt) (size : length kiosk.chips ≡ most) where
  abbrev n : ℕ
  n = kiosk.n

  -- 1 to 8 chips
  count : OneToMost n
  count = count_within n (passes kiosk passed).chips

  pub four_words : length (kiosk_words kiosk) ≡ 4 * n + 0
  four_words = omega (arith, words_length (kept_in kiosk), kept_length kiosk passed size)

  pub words_few : {out : List ℕ} {r : ℕ} {out' : List ℕ} → Puts (kiosk_words kiosk) 0 out r out' → r ≤ 4 * most
  words_few put = let few = count.few in omega (arith, four_words, put.answer)

  pub rows_many : length (kiosk_words kiosk) / n ≡ 4
  rows_many = ap (λ m. m / n) four_words ∙ digits_div 4 count.some

  pub samples_many : length (written n (kiosk_words kiosk)) ≡ 4 * (24 * n + 2)
  samples_many =
      ap (λ m. length (samples_of (cut_rows m n (kiosk_words kiosk)))) rows_many
      ∙ omega (arith, samples_length n 4 (kiosk_words kiosk) (omega (arith, four_words)))

  need_is : room n (kiosk_words kiosk) ≡ 4 * (24 * n + 2)
  need_is = ap (λ m. width n * m) rows_many ∙ omega arith

  -- ---- what the writer answers

  module _ {words : List ℕ} (same : words ≡ kiosk_words kiosk) {samples : List ℕ} {w : Result ℕ Refusal} {samples' : List ℕ}
      (writes : Writes n words samples w samples') (have : length samples ≡ 776) where
    so : Writes n (kiosk_words kiosk) samples w samples'
    so = subst (λ ws. Writes n ws samples w samples') same writes

    pub row_refused : {e : Refusal} → w ≡ Err e → list_test n (kiosk_words kiosk) ≡ refused_by e
    unfolding answer_of
    row_refused {e} q =
        let few = count.few in
        refusal_told (list_test n (kiosk_words kiosk)) (room n (kiosk_words kiosk)) (length samples) (omega (arith, need_is)) (sym so.answer ∙ ap tells q)

    module _ {many : ℕ} (q : w ≡ Ok many) where
      pub row_done : list_test n (kiosk_words kiosk) ≡ done tt
      row_done = (written_part n (kiosk_words kiosk) samples samples' w many so q).0

      many_is : room n (kiosk_words kiosk) ≡ many
      many_is = room_told n (kiosk_words kiosk) samples samples' w many so q

      pub many_few : many ≤ 776
      many_few = let few = count.few in omega (arith, many_is, need_is)

      pub row_written : take many samples' ≡ written n (kiosk_words kiosk)
      row_written = (written_part n (kiosk_words kiosk) samples samples' w many so q).1

      pub row_counted : many ≡ length (take many samples')
      row_counted = sym (samples_many ∙ sym need_is ∙ many_is) ∙ ap length (sym row_written)

  -- ---- the text

  abbrev head : List ℕ
  head = line_for (0x00 ∷ 0x01 ∷ n ∷ [])

  abbrev tail : List ℕ
  tail = sample_lines (written n (kiosk_words kiosk))

  pub setup_length : length (setup_of kiosk) ≤ 1634
  setup_length =
      let few = count.few in
      let long = samples_many in
      let lines = lines_length ((length (written n (kiosk_words kiosk)) + 31) / 32) (written n (kiosk_words kiosk)) (omega arith) in
      omega (arith, length-append head tail, line_for_length (0x00 ∷ 0x01 ∷ n ∷ []))

  module _ (out : List ℕ) (space : 1634 ≤ length out) where
    pub head_fits : 0 + length head ≤ length out
    head_fits = omega (arith, line_for_length (0x00 ∷ 0x01 ∷ n ∷ []))

    both_fit : 0 + length (head ++ tail) ≤ length out
    both_fit = omega (arith, setup_length)

    module _ {r : ℕ} {out' : List ℕ} (first : Puts head 0 out r out') where
      pub samples_fit : {ss : List ℕ} → ss ≡ written n (kiosk_words kiosk) → r + length (sample_lines ss) ≤ length out'
      samples_fit e = subst (λ ss. r + length (sample_lines ss) ≤ length out') (sym e) (puts_room head tail both_fit first)

      pub setup_put : {ss : List ℕ} → ss ≡ written n (kiosk_words kiosk) → {s : ℕ} {out'' : List ℕ} → Puts (sample_lines ss) r out' s out''
          → Puts (setup_of kiosk) 0 out s out''
      setup_put e {s} {out''} more = puts_both head tail both_fit first (subst (λ ss. Puts (sample_lines ss) r out' s out'') e more)
