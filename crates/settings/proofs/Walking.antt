-- The walk over the lines of a text: a loop that reads a chip's line at each turn.
--     Left                                         the loop's invariant: what is left of the text gives what the whole gives
--     left_start, left_more                        it holds at the start, and after a chip's line
--     left_cut, left_refused, left_extra           a line that is missing or cut off, one that isn't the chip's, one too many
--     left_over                                    the end
--     lines_missing, lines_other, lines_first      the first line, and the whole
--     lines_few                                    it gives no more chips than there can be
-- Assumes nothing.
use mathlib.Core.Path.{◌≡◌, refl, ap, sym, ◌∙◌}
use mathlib.Core.Bool.{Bool, true, false, true≢false}
use mathlib.Core.List.{List, [], ◌∷◌}
use Prim.Native.Nat.{ℕ, suc, ◌+◌, ◌-◌, ◌≤◌, ◌<◌}
use native.Mathlib.Numerals.{add-one}
use native.Mathlib.Omega.{arith}
use borrow.Author.Tests.{le-leb}
use lib.ListN.{length, get_or, set, take, drop, length-set, length-drop, drop_of_length-le}
use Rattle.base.specs.Refusals.{Told, done, refused, hands_back}
use Rattle.base.proofs.Picks.{pick_yes, pick_no}
use Rattle.base.proofs.Tests.{by_order}
use Rattle.capture.proofs.EachLine.{line_cut, line_next, held_same, frame_same}
use Rattle.chain.specs.Chain.{most}
use Rattle.lines.specs.declared.Frame.{Frame}
use Rattle.lines.specs.Answers.{line_length, held_in, frame_for, held_by}
use Rattle.lines.specs.Lines.{Line, ended, lines_of, bytes_in}
use Rattle.lines.proofs.Frames.{frame_holds, held_long}
use Rattle.lines.proofs.Lines.{lines_next, lines_last, lines_any}
use Rattle.settings.specs.declared.Kept.{Kept}
use Rattle.settings.specs.Reading.{is_first, is_chip, kept_by, chips_from, kiosk_by, lines_read}
use Rattle.settings.specs.Settings.{no_kepts, no_kiosk}
use Rattle.settings.proofs.Tests.{frame_byte, chip_size, chip_long, first_size, first_few, first_long}

-- ---- one line

-- no line is a chip's where it isn't of its form, or is missing
pub chip_refused : (left k : ℕ) (kept : List Kept) (l : Line) (ls : List Line) → is_chip k (bytes_in l) ≡ false
    → chips_from (suc left) k kept (l ∷ ls) ≡ refused 15 (k + 2)
unfolding chips_from
chip_refused left k kept l ls e = pick_no _ _ e

pub chip_taken : (left k : ℕ) (kept : List Kept) (l : Line) (ls : List Line) → is_chip k (bytes_in l) ≡ true
    → chips_from (suc left) k kept (l ∷ ls) ≡ chips_from left (suc k) (set kept k (kept_by (bytes_in l))) ls
unfolding chips_from
chip_taken left k kept l ls e = pick_yes _ _ e

pub chip_missing : (left k : ℕ) (kept : List Kept) → chips_from (suc left) k kept [] ≡ refused 15 (k + 2)
unfolding chips_from
chip_missing left k kept = refl

pub chips_extra : (k : ℕ) (kept : List Kept) (ls : List Line) → 0 < length ls → chips_from 0 k kept ls ≡ refused 15 (k + 2)
unfolding chips_from
chips_extra k kept [] h = absurd (omega arith)
chips_extra k kept (l ∷ ls) h = refl

pub chips_over : (k : ℕ) (kept : List Kept) → chips_from 0 k kept [] ≡ done kept
unfolding chips_from
chips_over k kept = refl

empty_other : (k : ℕ) → is_chip k [] ≡ false
empty_other k = chip_size k [] (λ e. absurd (omega arith))

-- bytes of a frame of settings are no longer than a frame has room for
held_so : (g : List ℕ → Bool) → g [] ≡ false → (chars : List ℕ) → g (held_in chars) ≡ true → held_in chars ≡ bytes_in (ended chars)
held_so g none chars e =
    by_order (length chars) 66 (λ h. pick_yes _ _ (le-leb (length chars) 66 h))
    (λ h. absurd (true≢false (sym e ∙ ap g (held_long chars h) ∙ none)))

held_chip : (k : ℕ) (chars : List ℕ) → is_chip k (held_in chars) ≡ true → held_in chars ≡ bytes_in (ended chars)
held_chip k = held_so (is_chip k) (empty_other k)

held_first : (chars : List ℕ) → is_first (held_in chars) ≡ true → held_in chars ≡ bytes_in (ended chars)
held_first = held_so is_first (first_size [] (λ e. absurd (omega arith)))

-- ---- the loop

pub record Left (n : ℕ) (text : List ℕ) (from : ℕ) (kept : List Kept) (k place : ℕ) : Type 0 where
  pub few : k ≤ n
  pub size : length kept ≡ most
  pub within : place ≤ length text
  pub same : chips_from (n - k) k kept (lines_of (drop place text)) ≡ chips_from n 0 no_kepts (lines_of (drop from text))

pub left_start : (n : ℕ) (text : List ℕ) (from : ℕ) (kept : List Kept) → kept ≡ no_kepts → from ≤ length text → Left n text from kept 0 from
left_start n text from kept e h =
    let none : n - 0 ≡ n = omega arith in
    record {
      few = omega arith;
      size = ap length e;
      within = h;
      same = ap (λ m. chips_from m 0 kept (lines_of (drop from text))) none ∙ ap (λ ks. chips_from n 0 ks (lines_of (drop from text))) e;
    }

module _ {n : ℕ} {text : List ℕ} {from : ℕ} {kept : List Kept} {k place : ℕ} (l : Left n text from kept k place) where
  abbrev whole : Told (List Kept)
  whole = chips_from n 0 no_kepts (lines_of (drop from text))

  -- a turn: one chip is left at least
  module _ (more : k < n) (end : ℕ) (here : end ≡ place + line_length (drop place text)) where
    turn : {t : Told (List Kept)} → chips_from (suc (n - (k + 1))) k kept (lines_of (drop place text)) ≡ t → t ≡ whole
    turn e =
        let step : suc (n - (k + 1)) ≡ n - k = omega arith in
        sym e ∙ ap (λ m. chips_from m k kept (lines_of (drop place text))) step ∙ l.same

    pub left_cut : length text ≤ end → refused 15 (k + 2) ≡ whole
    unfolding lines_of
    left_cut long =
        let inside = l.within in
        by_order (length text) place
        (λ h. turn (ap (λ text. chips_from (suc (n - (k + 1))) k kept (lines_of text)) (drop_of_length-le text h) ∙ none_left))
        (λ h. turn (ap (chips_from (suc (n - (k + 1))) k kept) (line_cut text place end here h long) ∙ chip_refused _ k kept _ _ (empty_other k)))
      where
        none_left : chips_from (suc (n - (k + 1))) k kept (lines_of []) ≡ refused 15 (k + 2)
        none_left = chip_missing (n - (k + 1)) k kept

    module _ (ends : end < length text) (f : Frame) (reads : f ≡ frame_for (held_in (take (end - place) (drop place text)))) where
      -- the line's bytes, as it was ended
      abbrev line : Line
      line = ended (take (line_length (drop place text)) (drop place text))

      same_chip : is_chip k (held_by f) ≡ is_chip k (bytes_in line)
      same_chip = frame_same text place end here (is_chip k) (chip_long k) f reads

      next : lines_of (drop place text) ≡ line ∷ lines_of (drop (end + 1) text)
      next = line_next text place end here ends

      pub left_refused : is_chip k (held_by f) ≡ false → refused 15 (k + 2) ≡ whole
      left_refused e =
          turn (ap (chips_from (suc (n - (k + 1))) k kept) next ∙ chip_refused _ k kept line _ (sym same_chip ∙ e))

      -- a chip's bytes are those that the frame holds
      same_bytes : is_chip k (held_by f) ≡ true → held_by f ≡ bytes_in line
      same_bytes e =
          let chars = take (end - place) (drop place text) in
          let front : held_by f ≡ held_in chars = (frame_holds chars reads).front in
          let long : end - place ≡ line_length (drop place text) = omega arith in
          front ∙ held_chip k chars (ap (is_chip k) (sym front) ∙ e) ∙ ap (λ m. bytes_in (ended (take m (drop place text)))) long

      pub left_more : is_chip k (held_by f) ≡ true → {own : Kept} → own ≡ kept_by (held_by f) → Left n text from (set kept k own) (k + 1) (end + 1)
      left_more e {own} o =
          record {
            few = omega arith;
            size = length-set kept k own ∙ l.size;
            within = omega arith;
            same = later ∙ turn (ap (chips_from (suc (n - (k + 1))) k kept) next ∙ chip_taken (n - (k + 1)) k kept line (lines_of (drop (end + 1) text)) (sym same_chip ∙ e));
          }
        where
          later : chips_from (n - (k + 1)) (k + 1) (set kept k own) (lines_of (drop (end + 1) text))
              ≡ chips_from (n - (k + 1)) (suc k) (set kept k (kept_by (bytes_in line))) (lines_of (drop (end + 1) text))
          later =
              ap (λ j. chips_from (n - (k + 1)) j (set kept k own) (lines_of (drop (end + 1) text))) (add-one k)
              ∙ ap (λ x. chips_from (n - (k + 1)) (suc k) (set kept k x) (lines_of (drop (end + 1) text))) (o ∙ ap kept_by (same_bytes e))

  -- every chip's line was read
  module _ (over : n ≤ k) where
    last : {t : Told (List Kept)} → chips_from 0 n kept (lines_of (drop place text)) ≡ t → t ≡ whole
    last e =
        let few = l.few in
        let all : k ≡ n = omega arith in
        let none : n - k ≡ 0 = omega arith in
        sym e ∙ ap (λ j. chips_from 0 j kept (lines_of (drop place text))) (sym all)
        ∙ ap (λ m. chips_from m k kept (lines_of (drop place text))) (sym none) ∙ l.same

    pub left_extra : place < length text → refused 15 (n + 2) ≡ whole
    left_extra h = last (chips_extra n kept (lines_of (drop place text)) (lines_any (drop place text) (omega (arith, length-drop place text))))

    pub left_over : length text ≤ place → done kept ≡ whole
    unfolding lines_of
    left_over h = last (ap (λ t. chips_from 0 n kept (lines_of t)) (drop_of_length-le text h) ∙ none_left)
      where
        none_left : chips_from 0 n kept (lines_of []) ≡ done kept
        none_left = chips_over n kept

-- ---- the first line

module _ (text : List ℕ) (end : ℕ) (here : end ≡ 0 + line_length text) where
  pub lines_missing : length text ≤ end → hands_back no_kiosk 15 1 ≡ lines_read (lines_of text)
  unfolding lines_of is_first
  lines_missing long = go text (omega arith)
    where
      go : (t : List ℕ) → length t ≤ line_length t → hands_back no_kiosk 15 1 ≡ lines_read (lines_of t)
      go [] h = refl
      go (ch ∷ t) h = sym (ap lines_read (lines_last (ch ∷ t) (omega arith) h))

  module _ (ends : end < length text) (f : Frame) (reads : f ≡ frame_for (held_in (take end text))) where
    abbrev first : Line
    first = ended (take end text)

    next_first : lines_of text ≡ first ∷ lines_of (drop (end + 1) text)
    next_first =
        let there : line_length text ≡ end = omega arith in
        lines_next text (omega arith) ∙ ap (λ m. ended (take m text) ∷ lines_of (drop (m + 1) text)) there

    front : held_by f ≡ held_in (take end text)
    front = (frame_holds (take end text) reads).front

    same_first : is_first (held_by f) ≡ is_first (bytes_in first)
    same_first = ap is_first front ∙ held_same is_first first_long (take end text)

    first_at : get_or f.bytes 2 0 ≡ get_or (held_by f) 2 0
    first_at = frame_byte (held_in (take end text)) reads 2 ∙ ap (λ bs. get_or bs 2 0) (sym front)

    pub lines_few : is_first (held_by f) ≡ true → get_or f.bytes 2 0 ≤ most
    lines_few e = omega (arith, first_at, first_few (held_by f) e)

    pub lines_other : is_first (held_by f) ≡ false → hands_back no_kiosk 15 1 ≡ lines_read (lines_of text)
    lines_other e = sym (ap lines_read next_first ∙ pick_no _ _ (sym same_first ∙ e))

    pub lines_first : is_first (held_by f) ≡ true → {n : ℕ} → n ≡ get_or f.bytes 2 0
        → kiosk_by n (chips_from n 0 no_kepts (lines_of (drop (end + 1) text))) ≡ lines_read (lines_of text)
    lines_first e q =
        let bytes : held_by f ≡ bytes_in first = front ∙ held_first (take end text) (ap is_first (sym front) ∙ e) in
        let count = q ∙ first_at ∙ ap (λ bs. get_or bs 2 0) bytes in
        ap (λ n. kiosk_by n (chips_from n 0 no_kepts (lines_of (drop (end + 1) text)))) count
        ∙ sym (ap lines_read next_first ∙ pick_yes _ _ (sym same_first ∙ e))
