-- The walk over a text of two wires is one of capture's proofs/Walks.antt: by the form of each line.
--     samples_long                 bytes that are samples are at least two and at most 33
--     form_short                   more bytes than a frame holds are of no form
--     takes_line                    what a line's bytes do to a panel
--     line_reader                  it is a reader
--     lines_walked, ends_walked    what lines write, and how they end
-- Assumes nothing.
use mathlib.Core.Path.{◌≡◌, refl, ap, sym, subst, ◌∙◌}
use mathlib.Core.Bool.{Bool, true, false, true≢false, ◌&&◌}
use mathlib.Core.List.{List, [], ◌∷◌}
use Prim.Native.Nat.{ℕ, suc, ◌≤◌, ◌<◌}
use native.Mathlib.Omega.{arith}
use borrow.Author.Tests.{leb-true}
use lib.Dec.{T, eqb, leb}
use lib.ListN.{length, get_or, drop}
use Rattle.base.specs.Refusals.{Told, refused, Outcome}
use Rattle.base.proofs.Picks.{pick_no}
use Rattle.base.proofs.Tests.{is_true, and_left, and_right}
use Rattle.capture.specs.Parts.{is_taken}
use Rattle.capture.specs.Replay.{and_then}
use Rattle.capture.proofs.Walks.{end_then, walk_out, walk_end, Reader}
use Rattle.ch450.specs.declared.Panel.{Panel}
use Rattle.ch450.specs.Entries.{checked_from}
use Rattle.lines.specs.Lines.{Line, bytes_in}
use Rattle.wires.specs.declared.Report.{Report}
use Rattle.wires.specs.Frames.{Form, samples, other, passed, is_samples, form_of}
use Rattle.wires.specs.Replay.{taken, lines_out, line_end, lines_end}

-- ---- how many bytes samples have

pub samples_long : (bytes : List ℕ) → is_samples bytes ≡ true → (2 ≤ length bytes) × (length bytes ≤ 33)
unfolding is_samples
samples_long bytes e =
    let two = leb 2 (length bytes) in
    let few = leb (length bytes) 33 in
    let kind = eqb (get_or bytes 0 0) 0x41 in
    let good = passed (checked_from 0 (drop 1 bytes)) in
    let both = and_left (two && few) kind (and_left (two && few && kind) good (subst T (sym e) tt)) in
    (leb-true 2 (length bytes) (is_true two (and_left two few both)), leb-true (length bytes) 33 (is_true few (and_right two few both)))

not_samples : (bytes : List ℕ) → ((2 ≤ length bytes) × (length bytes ≤ 33) → ⊥) → form_of bytes ≡ other
not_samples bytes far = go (is_samples bytes) refl
  where
    go : (b : Bool) → is_samples bytes ≡ b → form_of bytes ≡ other
    go true e = absurd (far (samples_long bytes e))
    go false e = pick_no _ _ e

pub form_short : (bytes : List ℕ) → 33 < length bytes → form_of bytes ≡ form_of []
form_short bytes h = not_samples bytes (λ q. let few = q.1 in omega arith) ∙ sym (not_samples [] (λ q. let two = q.0 in omega arith))

-- ---- the walk

module _ (what : Report) (key : ℕ) where
  abbrev pub takes_line : Panel → List ℕ → Outcome Panel (List ℕ)
  takes_line p bytes = taken what key p (form_of bytes)

  -- a form that isn't taken is none
  by_form : (p : Panel) (form : Form) → is_taken (taken what key p form).told ≡ false → (place : ℕ) × ((taken what key p form).told ≡ refused 10 place)
  by_form p (samples ss) e = let z : ◌≡◌ {A = Bool} true false = e in absurd (true≢false z)
  by_form p other e = (0, refl)

  pub line_reader : Reader takes_line
  line_reader =
      record {
        long = λ p bytes h. ap (taken what key p) (form_short bytes h);
        empty = λ p. ap (λ form. is_taken (taken what key p form).told) (not_samples [] (λ q. let two = q.0 in omega arith));
        tells = λ p bytes. by_form p (form_of bytes);
      }

  end_by_form : (p : Panel) (form : Form) (line : ℕ) (rest : Told (Unit {0})) → line_end form line rest ≡ end_then (taken what key p form).told line rest
  end_by_form p (samples ss) line rest = refl
  end_by_form p other line rest = refl

  pub lines_walked : (line : ℕ) (p : Panel) (ls : List Line) → lines_out what key line p ls ≡ walk_out takes_line line p ls
  unfolding lines_out walk_out
  lines_walked line p [] = refl
  lines_walked line p (l ∷ ls) =
      ap (and_then (takes_line p (bytes_in l)).told line) (lines_walked (suc line) (takes_line p (bytes_in l)).state ls)

  pub ends_walked : (line : ℕ) (p : Panel) (ls : List Line) → lines_end line ls ≡ walk_end takes_line line p ls
  unfolding lines_end walk_end
  ends_walked line p [] = refl
  ends_walked line p (l ∷ ls) =
      end_by_form p (form_of (bytes_in l)) line (lines_end (suc line) ls)
      ∙ ap (end_then (takes_line p (bytes_in l)).told line) (ends_walked (suc line) (takes_line p (bytes_in l)).state ls)
