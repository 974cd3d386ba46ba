-- What is held grows byte by byte, and becomes a line's frame.
--     grown_full, grown_more, grown_over     the loop over the bytes: there is no room for the next, there is, there is none
--     none_read                       no characters have no bytes
--     frame_long                      the frame of a line that is too long
-- Assumes nothing.
use Rattle.std.proofs.Common.{◌≡◌, ℕ, ◌+◌, ◌<◌, ◌≤◌, List, [], ◌∷◌, length, get_or, take, drop, set, sym, refl, ap, ◌∙◌, drop_of_length-le, le-ltb, lt-ltb}
use borrow.Author.Tests.{lt-leb}
use Rattle.base.proofs.Picks.{pick_yes, pick_no}
use Rattle.base.proofs.Lists.{rest_is}
use Rattle.lines.specs.Answers.{held_in, frame_for}
use Rattle.lines.specs.Lines.{all_hex, bytes_of}
use Rattle.streams.specs.declared.held.Held.{Held}
use Rattle.streams.specs.Held.{too_long, grown_one, grown_by, line_held}

-- ---- it grows

-- what is too long stays so
grown_long : (xs : List ℕ) → grown_by too_long xs ≡ too_long
unfolding grown_by
grown_long [] = refl
grown_long (x ∷ xs) = grown_long xs

module _ (h : Held) (xs : List ℕ) (i : ℕ) where
  -- the next byte
  grown_next : i < length xs → grown_by h (drop i xs) ≡ grown_by (grown_one h (get_or xs i 0)) (drop (i + 1) xs)
  unfolding grown_by
  grown_next l = ap (grown_by h) (rest_is xs i 0 l)

  pub grown_full : i < length xs → 66 ≤ h.count → grown_by h (drop i xs) ≡ too_long
  grown_full l full =
      grown_next l ∙ ap (λ g. grown_by g (drop (i + 1) xs)) (pick_no _ _ (le-ltb h.count 66 full)) ∙ grown_long (drop (i + 1) xs)

  pub grown_more : i < length xs → h.count < 66
      → grown_by (record { bytes = set h.bytes h.count (get_or xs i 0); count = h.count + 1 }) (drop (i + 1) xs) ≡ grown_by h (drop i xs)
  grown_more l room =
      sym (grown_next l ∙ ap (λ g. grown_by g (drop (i + 1) xs)) (pick_yes _ _ (lt-ltb h.count 66 room)))

  pub grown_over : length xs ≤ i → grown_by h (drop i xs) ≡ h
  unfolding grown_by
  grown_over l = ap (grown_by h) (drop_of_length-le xs l)

-- ---- a line's frame

pub none_read : held_in [] ≡ []
unfolding all_hex bytes_of
none_read = refl

pub frame_long : (h : Held) → 66 < h.count → frame_for (held_in (take 0 h.bytes)) ≡ frame_for (line_held h)
frame_long h l = ap frame_for (none_read ∙ sym (pick_no _ _ (lt-leb h.count 66 l)))
