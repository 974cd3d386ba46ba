-- One line of a text, from a place on, as the walks over a text read it.
--     line_cut, line_next          a last line without 0AH; a line that was ended, and those after it
--     after_line                   what comes after a line that was ended
--     held_same, frame_same        what a frame holds serves as well as the line's bytes
--     frame_count, frame_form      how many bytes a frame holds, and that they are of the line's form
-- Assumes nothing.
use mathlib.Core.Path.{◌≡◌, refl, ap, sym, ◌∙◌}
use mathlib.Core.Bool.{Bool, true, false, ◌&&◌}
use mathlib.Core.List.{List, [], ◌∷◌}
use Prim.Native.Nat.{ℕ, ◌+◌, ◌-◌, ◌%◌, ◌≤◌, ◌<◌}
use native.Mathlib.Omega.{arith}
use borrow.Author.Tests.{le-leb, lt-leb, eqb-true}
use lib.Dec.{eqb}
use lib.ListN.{length, take, drop, length-drop}
use lib.Seq.{drop-drop}
use Rattle.base.specs.Pick.{pick}
use Rattle.base.proofs.Picks.{pick_yes, pick_no}
use Rattle.base.proofs.Tests.{by_order}
use Rattle.lines.specs.declared.Frame.{Frame}
use Rattle.lines.specs.Answers.{line_length, held_in, frame_for, held_by}
use Rattle.lines.specs.Lines.{ended, cut_off, lines_of, bytes_in, bytes_of, all_hex}
use Rattle.lines.proofs.Frames.{frame_holds}
use Rattle.lines.proofs.Lines.{bytes_half, lines_next, lines_last}
use Rattle.capture.specs.Frames.{other, form_of}
use Rattle.capture.proofs.Forms.{form_long}

-- ---- what a frame holds

-- no bytes are of no form
pub none_other : (n : ℕ) → other ≡ form_of n []
unfolding form_of
none_other n = refl

-- a reading of bytes that is the same for more than 33 as for none
pub held_same {ℓ} : {A : Type ℓ} (f : List ℕ → A) → ((bytes : List ℕ) → 33 < length bytes → f bytes ≡ f []) → (chars : List ℕ)
    → f (held_in chars) ≡ f (bytes_in (ended chars))
held_same f long chars =
    by_order (length chars) 66 (λ h. ap f (pick_yes _ _ (le-leb (length chars) 66 h)))
    (λ h. ap f (pick_no _ _ (lt-leb (length chars) 66 h)) ∙ sym (whole h (all_hex chars) (eqb (length chars % 2) 0) refl))
  where
    whole : 66 < length chars → (a b : Bool) → eqb (length chars % 2) 0 ≡ b → f (pick (a && b) (bytes_of chars) []) ≡ f []
    whole h true true e =
        let even = eqb-true (length chars % 2) 0 e in
        long (bytes_of chars) (omega (arith, bytes_half chars))
    whole h true false e = refl
    whole h false b e = refl

-- ---- a line from a place on

module _ (text : List ℕ) (place end : ℕ) where
  abbrev left : List ℕ
  left = drop place text

  module _ (here : end ≡ place + line_length left) where
    pub line_cut : place < length text → length text ≤ end → lines_of left ≡ cut_off left ∷ []
    line_cut more long = lines_last left (omega (arith, length-drop place text)) (omega (arith, length-drop place text))

    pub after_line : drop (line_length left + 1) left ≡ drop (end + 1) text
    after_line =
        let past : place + (line_length left + 1) ≡ end + 1 = omega arith in
        drop-drop (line_length left + 1) place text ∙ ap (λ m. drop m text) past

    pub line_next : end < length text → lines_of left ≡ ended (take (line_length left) left) ∷ lines_of (drop (end + 1) text)
    line_next more =
        lines_next left (omega (arith, length-drop place text)) ∙ ap (λ rest. ended (take (line_length left) left) ∷ lines_of rest) after_line

    -- what reads a line's bytes, and more than 33 as none, reads what its frame holds as the line
    pub frame_same {ℓ} : {A : Type ℓ} (g : List ℕ → A) → ((bytes : List ℕ) → 33 < length bytes → g bytes ≡ g []) → (f : Frame)
        → f ≡ frame_for (held_in (take (end - place) left))
        → g (held_by f) ≡ g (bytes_in (ended (take (line_length left) left)))
    frame_same g long f reads =
        let same : end - place ≡ line_length left = omega arith in
        let holds = frame_holds (take (end - place) left) reads in
        ap g (holds.front ∙ ap (λ m. held_in (take m left)) same) ∙ held_same g long (take (line_length left) left)

    pub frame_form : (n : ℕ) (f : Frame) → f ≡ frame_for (held_in (take (end - place) left))
        → form_of n (held_by f) ≡ form_of n (bytes_in (ended (take (line_length left) left)))
    frame_form n = frame_same (form_of n) (λ bytes h. form_long n bytes h ∙ none_other n)

  pub frame_count : (f : Frame) → f ≡ frame_for (held_in (take (end - place) left)) → f.count ≤ 33
  frame_count f reads = let holds = frame_holds (take (end - place) left) reads in omega (arith, holds.count, holds.room)
