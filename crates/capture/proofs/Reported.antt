-- What is written at a LOAD rise and at a scan, seen from the places of the code that writes it.
--     none_put, puts_as                           nothing put, and a piece put that is the same as another
--     line_put, refusal_length                    a line put where there is room for it, and how long a refusal is
--     screen_length                               the segments lit of a chip
--     left_room, left_more, left_over             the loop over the chips at a LOAD rise; its invariant is `Fills` of crate base
--     same_bytes-is                               `==` says whether bytes are the same
-- Assumes nothing.
use mathlib.Core.Path.{◌≡◌, refl, ap, sym, subst}
use mathlib.Core.Bool.{◌&&◌}
use mathlib.Core.List.{List, [], ◌∷◌, ◌++◌}
use Prim.Native.Nat.{ℕ, ◌+◌, ◌≤◌, ◌<◌}
use native.Mathlib.Numerals.{add-one}
use native.Mathlib.Omega.{arith}
use lib.Dec.{eqb}
use lib.ListN.{length, get_or, drop, drop_of_length-le}
use lib.Seq.{drop-cons}
use Rattle.std.specs.Cmp.Lexicographic.{pointwise}
use Rattle.base.proofs.Lent.{placed_none, Fills, fills_more, fills_room, fills_over}
use Rattle.chip.specs.declared.Chip.{Chip}
use Rattle.chip.specs.Segments.{lit_of}
use Rattle.lines.specs.Answers.{fitting, Puts}
use Rattle.lines.specs.Lines.{line_for, four_bytes}
use Rattle.lines.proofs.Puts.{line_for_length, put_whole}
use Rattle.capture.specs.declared.Report.{Report}
use Rattle.capture.specs.Reports.{screen_line, rise_line, rise_lines, same_bytes, refusal_line}

-- ---- pieces

pub none_put : (at : ℕ) (out : List ℕ) → Puts [] at out at out
none_put at out = record { answer = omega arith; bytes = sym (placed_none out at) }

pub puts_as : {p q : List ℕ} {at : ℕ} {out : List ℕ} {r : ℕ} {out' : List ℕ} → p ≡ q → Puts q at out r out' → Puts p at out r out'
puts_as {at = at} {out = out} {r = r} {out' = out'} e = subst (λ piece. Puts piece at out r out') (sym e)

pub line_put : {p : List ℕ} (bytes : List ℕ) {at : ℕ} {out : List ℕ} {r : ℕ} {out' : List ℕ} → p ≡ line_for bytes → at + length p ≤ length out
    → Puts (fitting (line_for bytes) at out) at out r out'
    → Puts p at out r out'
line_put bytes {at} {out} e room put = puts_as e (put_whole (subst (λ piece. at + length piece ≤ length out) e room) put)

pub refusal_length : (number line : ℕ) → length (refusal_line number line) ≡ 13
refusal_length number line = line_for_length (0x1F ∷ number ∷ four_bytes line)

-- ---- the segments lit of a chip

pub screen_length : (k : ℕ) (c : Chip) → length (screen_line k c) ≡ 21
screen_length k c = line_for_length (0x30 ∷ k ∷ lit_of c)

-- ---- the chips left at a LOAD rise

-- the lines of the chips from a number up
abbrev pub rises_left : Report → List Chip → ℕ → List ℕ
rises_left what cs k = rise_lines what k (drop k cs)

rise_more : (what : Report) (cs : List Chip) (k : ℕ) (d : Chip) → k < length cs
    → rises_left what cs k ≡ rise_line what k (get_or cs k d) ++ rises_left what cs (k + 1)
unfolding rise_lines
rise_more what cs k d h = rw (add-one, drop-cons cs k d h)

rise_over : (what : Report) (cs : List Chip) (k : ℕ) → length cs ≤ k → rises_left what cs k ≡ []
unfolding rise_lines
rise_over what cs k h = ap (rise_lines what k) (drop_of_length-le cs h)

-- the loop: the lines of the chips left, put where it stands, make the whole
module _ (what : Report) (cs : List Chip) (at : ℕ) (out₀ : List ℕ) (room : at + length (rises_left what cs 0) ≤ length out₀) {end k : ℕ}
    {out : List ℕ} (f : Fills at (rises_left what cs 0) out₀ end (rises_left what cs k) out) where
  next : (d : Chip) → k < length cs → Fills at (rises_left what cs 0) out₀ end (rise_line what k (get_or cs k d) ++ rises_left what cs (k + 1)) out
  next d h = rw (rise_more what cs k d h) at f

  pub left_room : (d : Chip) → k < length cs → end + length (rise_line what k (get_or cs k d)) ≤ length out
  left_room d h = fills_room (rise_line what k (get_or cs k d)) (rises_left what cs (k + 1)) (next d h) room

  pub left_more : (d : Chip) → k < length cs → {end' : ℕ} {out' : List ℕ} → Puts (rise_line what k (get_or cs k d)) end out end' out'
      → Fills at (rises_left what cs 0) out₀ end' (rises_left what cs (k + 1)) out'
  left_more d h p = fills_more (rise_line what k (get_or cs k d)) (rises_left what cs (k + 1)) (next d h) room p.answer p.bytes

  pub left_over : length cs ≤ k → Puts (rises_left what cs 0) at out₀ end out
  left_over h =
      let o = fills_over (rw (rise_over what cs k h) at f) in
      record { answer = o.0; bytes = o.1 }

-- ---- the same bytes

pub same_bytes-is : (xs ys : List ℕ) → pointwise eqb xs ys ≡ same_bytes xs ys
unfolding same_bytes
same_bytes-is [] [] = refl
same_bytes-is [] (y ∷ ys) = refl
same_bytes-is (x ∷ xs) [] = refl
same_bytes-is (x ∷ xs) (y ∷ ys) = ap (λ same. eqb x y && same) (same_bytes-is xs ys)
