-- Demand 1 for kiosk settings, "a refusal changes no byte of a lent buffer": the theorem.
--     read_zeros                           a refused read hands back zeros
--     at_front, printed                    what is laid at a buffer's front stands there
--     settings_refusals_change_nothing     specs/SettingsUnchanged.antt
-- Assumes nothing.
use mathlib.Core.Path.{◌≡◌, refl, ap, sym, subst, ◌∙◌}
use mathlib.Core.List.{List, [], ◌∷◌}
use Prim.Native.Nat.{ℕ}
use lib.Dec.{ltb}
use lib.ListN.{length, get_or}
use Rattle.base.specs.Lent.{laid}
use Rattle.base.specs.Refusals.{Told, done, refused}
use Rattle.capture.specs.Reports.{refusal_line}
use Rattle.lines.specs.Lines.{Line, lines_of, bytes_in}
use Rattle.settings.specs.declared.Kept.{Kept}
use Rattle.settings.specs.Printing.{again_end, setup_end, setup_of, out_by}
use Rattle.settings.specs.Putting.{buffer_by}
use Rattle.settings.specs.Reading.{version_in, is_first, chips_from, kiosk_by, lines_read, read_of}
use Rattle.settings.specs.Settings.{newest, no_kepts, no_kiosk, kept_in, text_of, words_of}
use Rattle.demands.specs.SettingsUnchanged.{AtFront, LineAlone, SettingsRefusalsChangeNothing}
use Rattle.demands.specs.Unchanged.{HandsBack}
use Rattle.demands.proofs.Unchanged.{by_contract, by_pick, front_of, rest_of}
use Rattle.demands.proofs.UnchangedTally.{never}

-- ---- what is read

kiosk_zeros : (n : ℕ) (t : Told (List Kept)) → HandsBack (kiosk_by n t) no_kiosk
kiosk_zeros n (done kept) = λ m p e. never e
kiosk_zeros n (refused number place) = λ m p e. refl

lines_zeros : (ls : List Line) → HandsBack (lines_read ls) no_kiosk
lines_zeros [] = λ m p e. refl
lines_zeros (l ∷ ls) =
    let n = get_or (bytes_in l) 2 0 in
    by_pick (is_first (bytes_in l)) _ _ (kiosk_zeros n (chips_from n 0 no_kepts ls)) (λ m p e. refl)

pub read_zeros : (text : List ℕ) → HandsBack (read_of text) no_kiosk
unfolding read_of
read_zeros text = by_pick (ltb newest (version_in text)) _ _ (λ m p e. refl) (lines_zeros (lines_of text))

-- ---- what is printed

pub at_front : (piece out : List ℕ) {out' : List ℕ} {count : ℕ} → count ≡ length piece → out' ≡ laid piece out → AtFront piece out out' count
at_front piece out count so = record { front = front_of piece out count so; counted = count; rest = rest_of piece out count so }

-- a piece, or a refusal's line
pub printed : (end : Told (Unit {0})) (piece whole out : List ℕ) {out' : List ℕ} {bytes : ℕ} → out_by end piece ≡ whole
    → bytes ≡ length (out_by end piece) → out' ≡ laid (out_by end piece) out → AtFront whole out out' bytes
printed end piece whole out {out'} {bytes} e count so =
    subst (λ xs. AtFront xs out out' bytes) e (at_front (out_by end piece) out count so)

line_alone : (end : Told (Unit {0})) (piece out out' : List ℕ) (bytes number place : ℕ) → end ≡ refused number place
    → bytes ≡ length (out_by end piece) → out' ≡ laid (out_by end piece) out → LineAlone out out' number place bytes
line_alone end piece out out' bytes number place e count so = printed end piece (refusal_line number place) out (ap (λ t. out_by t piece) e) count so

-- ---- the entries

pub settings_refusals_change_nothing : SettingsRefusalsChangeNothing
settings_refusals_change_nothing =
    record {
      read = λ text r e. by_contract e (read_zeros text);
      write = λ kiosk out out' r w m p e. w.buffer ∙ ap (λ t. buffer_by t (text_of kiosk) out) (sym w.answer ∙ e);
      rows = λ kiosk out out' r w m p e. w.buffer ∙ ap (λ t. buffer_by t (words_of (kept_in kiosk)) out) (sym w.answer ∙ e);
      again = λ text out out' r w m p e.
          line_alone (again_end text) (text_of (read_of text).state) out out' r.bytes m p (sym w.answer ∙ e) w.count w.bytes;
      setup = λ text out out' r w m p e.
          line_alone (setup_end text) (setup_of (read_of text).state) out out' r.bytes m p (sym w.answer ∙ e) w.count w.bytes;
    }
