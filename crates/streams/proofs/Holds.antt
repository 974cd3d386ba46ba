-- What is held of a line or an item, read as its characters: an array and a count, up to 66 of them; and more than 66, which is only
-- known to be too many.
--     HoldsLine                        what is held is these characters
--     holds_none, holds_more           none, and one more
--     holds_empty, holds_some          the count is zero where there are none, and only there
--     line_held_lem                        the bytes of the line that is held
--     form_held, first_held            they are of the line's form, and say of a first line what it says
-- Assumes nothing.
use Rattle.std.proofs.Common.{◌≡◌, ℕ, ◌+◌, ◌<◌, ◌≤◌, List, [], ◌∷◌, ◌++◌, length, take, set, sym, refl, ap, ◌∙◌, add-one, arith, length-append, length-set, take-suc-set, le-ltb, lt-ltb, le-leb}
use borrow.Author.Tests.{lt-leb}
use Rattle.base.proofs.Picks.{pick_yes, pick_no}
use Rattle.base.proofs.Tests.{by_order}
use Rattle.lines.specs.Answers.{held_in}
use Rattle.lines.specs.Lines.{ended, bytes_in}
use Rattle.capture.specs.Frames.{form_of, first_of}
use Rattle.capture.proofs.Firsts.{first_held as held_first}
use Rattle.capture.proofs.EachLine.{held_same, none_other}
use Rattle.capture.proofs.Forms.{form_long}
use Rattle.streams.specs.declared.held.Held.{Held}
use Rattle.streams.specs.Held.{none_held, too_long, grown_one, line_held}

-- up to 66 characters stand at the array's front and are counted; more are counted as 67
pub record HoldsLine (held : Held) (h : List ℕ) : Type 0 where
  pub size : length held.bytes ≡ 66
  pub count : length h ≤ 66 → held.count ≡ length h
  pub front : length h ≤ 66 → take (length h) held.bytes ≡ h
  pub long : 66 < length h → held.count ≡ 67

pub holds_none : HoldsLine none_held []
holds_none = record { size = refl; count = λ h. refl; front = λ h. refl; long = λ h. absurd (omega arith) }

-- ---- one more

-- too many, whatever they are
holds_long : (h : List ℕ) → 66 < length h → HoldsLine too_long h
holds_long h l = record { size = refl; count = λ s. absurd (omega arith); front = λ s. absurd (omega arith); long = λ _. refl }

module _ {held : Held} {h : List ℕ} (p : HoldsLine held h) (b : ℕ) where
  more_length : length (h ++ b ∷ []) ≡ length h + 1
  more_length = length-append h (b ∷ [])

  -- there is room for one more
  grown_short : length h < 66 → grown_one held b ≡ record { bytes = set held.bytes (length h) b; count = length h + 1 }
  grown_short l =
      let c : held.count ≡ length h = p.count (omega arith) in
      pick_yes _ too_long (lt-ltb held.count 66 (omega arith)) ∙ ap (λ n. record { bytes = set held.bytes n b; count = n + 1 }) c

  holds_short : length h < 66 → HoldsLine (record { bytes = set held.bytes (length h) b; count = length h + 1 }) (h ++ b ∷ [])
  holds_short l =
      let z = p.size in
      let within : length h < length held.bytes = omega arith in
      let short : length h ≤ 66 = omega arith in
      record {
        size = length-set held.bytes (length h) b ∙ p.size;
        count = λ s. sym more_length;
        front = λ s.
            ap (λ n. take n (set held.bytes (length h) b)) (more_length ∙ add-one (length h))
            ∙ take-suc-set held.bytes (length h) b within
            ∙ ap (λ xs. xs ++ b ∷ []) (p.front short);
        long = λ s. absurd (omega (arith, more_length));
      }

  -- there is none
  full : 66 ≤ length h → 66 ≤ held.count
  full l = by_order (length h) 66 (λ s. omega (arith, p.count s)) (λ s. omega (arith, p.long s))

  grown_long : 66 ≤ length h → grown_one held b ≡ too_long
  grown_long l = pick_no _ too_long (le-ltb held.count 66 (full l))

  pub holds_more : HoldsLine (grown_one held b) (h ++ b ∷ [])
  holds_more =
      by_order 66 (length h) (λ l. rw (grown_long l) (holds_long (h ++ b ∷ []) (omega (arith, more_length))))
      (λ l. rw (grown_short l) (holds_short l))

-- ---- the count

pub holds_empty : {held : Held} → HoldsLine held [] → held.count ≡ 0
holds_empty p = p.count (omega arith)

pub holds_some : {held : Held} (c : ℕ) (h : List ℕ) → HoldsLine held (c ∷ h) → held.count ≡ 0 → ⊥
holds_some c h p e =
    by_order (length (c ∷ h)) 66 (λ s. absurd (omega (arith, p.count s))) (λ s. absurd (omega (arith, p.long s)))

-- ---- the line

pub line_held_lem : {held : Held} (h : List ℕ) → HoldsLine held h → line_held held ≡ held_in h
line_held_lem {held} h p =
    by_order (length h) 66
    (λ s. pick_yes _ [] (le-leb held.count 66 (omega (arith, p.count s)))
    ∙ ap held_in (ap (λ n. take n held.bytes) (p.count s) ∙ p.front s))
    (λ s. pick_no _ [] (lt-leb held.count 66 (omega (arith, p.long s))) ∙ sym (pick_no _ [] (lt-leb (length h) 66 s)))

pub form_held : {held : Held} (h : List ℕ) (n : ℕ) → HoldsLine held h → form_of n (line_held held) ≡ form_of n (bytes_in (ended h))
form_held h n p = ap (form_of n) (line_held_lem h p) ∙ held_same (form_of n) (λ bytes l. form_long n bytes l ∙ none_other n) h

pub first_held : {held : Held} (h : List ℕ) → HoldsLine held h → first_of (line_held held) ≡ first_of (bytes_in (ended h))
first_held h p = ap first_of (line_held_lem h p) ∙ held_first h
