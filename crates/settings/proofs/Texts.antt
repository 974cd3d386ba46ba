-- The text that is written of settings: its lines, its version and its length.
--     Passes, passes, passes_test     the settings that the writer takes, test by test
--     test_refuses                    those that it refuses, it refuses by 3 or by 9
--     kept_length                     the chips below N are N
--     frame_lines, chip_lines_lem          the lines of chips
--     text_lines                      the lines of a text
--     version_written                 the version that it has
--     text_length                     7 bytes, and 13 a chip
-- Assumes nothing.
use mathlib.Core.Path.{◌≡◌, refl, ap, sym, subst, ◌∙◌}
use mathlib.Core.Bool.{Bool, true, false, and-eq-true_iff}
use mathlib.Core.List.{List, [], ◌∷◌}
use mathlib.Core.Logic.{◌⊎◌, inl, inr}
use Prim.Native.Nat.{ℕ, suc, ◌+◌, ◌*◌, ◌≤◌}
use native.Mathlib.Omega.{arith}
use lib.ListN.{length, length-append}
use lib.Seq.{length-take-le}
use Rattle.base.specs.Below.{every}
use Rattle.base.specs.Pick.{pick}
use Rattle.base.specs.Refusals.{Told, IsDone, done, refused}
use Rattle.base.proofs.Picks.{pick_yes}
use Rattle.chain.specs.Chain.{most, chip_count}
use Rattle.lines.specs.Lines.{Line, ended, lines_of, as_hex, line_for, lines_at}
use Rattle.lines.proofs.Hex.{line_back, lines_written}
use Rattle.lines.proofs.Each.{lines_width}
use Rattle.lines.proofs.Puts.{line_for_length}
use Rattle.settings.specs.declared.Kept.{Kept}
use Rattle.settings.specs.declared.Kiosk.{Kiosk}
use Rattle.settings.specs.Putting.{settings_test}
use Rattle.settings.specs.Reading.{version_by, version_in}
use Rattle.settings.specs.Settings.{newest, version_for, kept_in, legal_kept, all_legal, first_frame, chip_frame, chip_line, chip_lines, text_of}
use Rattle.settings.proofs.Bytes.{count_within, version_known, first_frame_below, chip_frame_below}

-- ---- the writer's tests

-- N is 1 to 8, and no field is out of range
pub record Passes (kiosk : Kiosk) : Type 0 where
  pub chips : chip_count kiosk.n ≡ true
  pub legal : all_legal (kept_in kiosk) ≡ true

-- what the two tests tell
abbrev told : Bool → Bool → Told (Unit {0})
told a b = pick a (pick b (done tt) (refused 9 0)) (refused 3 0)

-- N is told first
told_done : (a b : Bool) → told a b ≡ done tt → (a ≡ true) × (b ≡ true)
told_done true true e = (refl, refl)
told_done true false e = absurd (subst IsDone (sym e) tt)
told_done false b e = absurd (subst IsDone (sym e) tt)

told_refused : (a b : Bool) (number place : ℕ) → told a b ≡ refused number place → (number ≡ 3) ⊎ (number ≡ 9)
told_refused true true number place e = absurd (subst IsDone e tt)
told_refused true false number place e = inr (cc)
told_refused false b number place e = inl (cc)

pub passes : (kiosk : Kiosk) → settings_test kiosk ≡ done tt → Passes kiosk
unfolding settings_test
passes kiosk e =
    let t = told_done (chip_count kiosk.n) (all_legal (kept_in kiosk)) e in
    record { chips = t.0; legal = t.1 }

pub passes_test : (kiosk : Kiosk) → Passes kiosk → settings_test kiosk ≡ done tt
unfolding settings_test
passes_test kiosk p = pick_yes _ (refused 3 0) p.chips ∙ pick_yes (done tt) (refused 9 0) p.legal

-- 7 and 8 are not among its refusals
pub test_refuses : (kiosk : Kiosk) (number place : ℕ) → settings_test kiosk ≡ refused number place → (number ≡ 3) ⊎ (number ≡ 9)
unfolding settings_test
test_refuses kiosk = told_refused (chip_count kiosk.n) (all_legal (kept_in kiosk))

pub kept_length : (kiosk : Kiosk) → settings_test kiosk ≡ done tt → length kiosk.chips ≡ most → length (kept_in kiosk) ≡ kiosk.n
kept_length kiosk e size =
    let few = (count_within kiosk.n (passes kiosk e).chips).few in
    length-take-le kiosk.n kiosk.chips (omega arith)

-- ---- the lines

-- the lines of chips' frames, from chip k on
unfoldable pub frame_lines : ℕ → List Kept → List Line
frame_lines k [] = []
frame_lines k (c ∷ cs) = ended (as_hex (chip_frame k c)) ∷ frame_lines (suc k) cs

pub chip_lines_lem : (k : ℕ) (cs : List Kept) → all_legal cs ≡ true → k + length cs ≤ 256 → lines_of (chip_lines k cs) ≡ frame_lines k cs
unfolding lines_at every frame_lines lines_of
chip_lines_lem k [] ok h = refl
chip_lines_lem k (c ∷ cs) ok h =
    let t = (and-eq-true_iff (legal_kept c) (all_legal cs)).0 ok in
    lines_written (chip_frame k c) (chip_lines (suc k) cs) (chip_frame_below k c t.0 (omega arith))
    ∙ ap (λ ls. ended (as_hex (chip_frame k c)) ∷ ls) (chip_lines_lem (suc k) cs t.1 (omega arith))

module _ (kiosk : Kiosk) (test : settings_test kiosk ≡ done tt) (size : length kiosk.chips ≡ most) where
  pub text_lines : lines_of (text_of kiosk) ≡ ended (as_hex (first_frame kiosk.n)) ∷ frame_lines 0 (kept_in kiosk)
  unfolding text_of
  text_lines =
      let p = passes kiosk test in
      let few = (count_within kiosk.n p.chips).few in
      let e = kept_length kiosk test size in
      lines_written (first_frame kiosk.n) (chip_lines 0 (kept_in kiosk)) (first_frame_below kiosk.n p.chips)
      ∙ ap (λ ls. ended (as_hex (first_frame kiosk.n)) ∷ ls) (chip_lines_lem 0 (kept_in kiosk) p.legal (omega arith))

-- ---- the version

pub version_written : (kiosk : Kiosk) → settings_test kiosk ≡ done tt → version_in (text_of kiosk) ≤ newest
unfolding version_in text_of line_for as_hex
version_written kiosk test =
    let v = version_known kiosk.n (passes kiosk test).chips in
    let same : version_in (text_of kiosk) ≡ version_for kiosk.n =
    ap version_by (line_back (0x20 ∷ version_for kiosk.n ∷ []) (omega arith, (omega arith, tt))) in
    omega arith

-- ---- the length

pub frame_length : (k : ℕ) (c : Kept) → length (chip_line k c) ≡ 13
frame_length k c = line_for_length (chip_frame k c)

pub lines_long : (cs : List Kept) → length (chip_lines 0 cs) ≡ 13 * length cs
lines_long cs = lines_width chip_line 13 frame_length 0 cs

pub text_length : (kiosk : Kiosk) → settings_test kiosk ≡ done tt → length kiosk.chips ≡ most → length (text_of kiosk) ≡ 7 + 13 * kiosk.n
unfolding text_of
text_length kiosk test size =
    omega (
      arith,
      length-append (line_for (first_frame kiosk.n)) (chip_lines 0 (kept_in kiosk)),
      line_for_length (first_frame kiosk.n),
      lines_long (kept_in kiosk),
      kept_length kiosk test size,
    )
