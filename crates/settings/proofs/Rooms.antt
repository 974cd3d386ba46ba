-- Whatever is printed of a text fits into the arrays that the entries are lent, and the answer counts its bytes.
--     both_done                       two tests, one after the other, that are passed
--     read_as                         what was read, where it was
--     again_short, setup_short        what is printed fits
--     again_counts, setup_counts      the answer counts it
-- Assumes nothing.
use mathlib.Core.Path.{◌≡◌, refl, ap, sym, subst}
use mathlib.Core.List.{List}
use Prim.Native.Nat.{ℕ, ◌≤◌}
use native.Mathlib.Omega.{arith}
use lib.ListN.{length}
use Rattle.base.specs.Lent.{Counts}
use Rattle.base.specs.Refusals.{Told, IsDone, done, refused}
use Rattle.capture.specs.declared.Replayed.{Replayed}
use Rattle.capture.proofs.Reported.{refusal_length}
use Rattle.writer.specs.Rows.{list_test, or_else}
use Rattle.settings.specs.declared.Kiosk.{Kiosk}
use Rattle.settings.specs.OneText.{ReadAs}
use Rattle.settings.specs.Printing.{kiosk_words, setup_of, setup_end, out_by, PrintsAgain, PrintsSetup}
use Rattle.settings.specs.Reading.{read_of}
use Rattle.settings.specs.Settings.{text_of}
use Rattle.settings.proofs.Bytes.{count_within}
use Rattle.settings.proofs.Captured.{setup_length}
use Rattle.settings.proofs.OneText.{read_size, read_written}
use Rattle.settings.proofs.Printing.{prints_counts}
use Rattle.settings.proofs.Texts.{passes, text_length}

pub both_done : (t u : Told (Unit {0})) → or_else t u ≡ done tt → (t ≡ done tt) × (u ≡ done tt)
both_done (done tt) u e = (refl, e)
both_done (refused number place) u e = absurd (subst IsDone (sym e) tt)

-- a refusal's line, or a piece
out_short : (t : Told (Unit {0})) (piece : List ℕ) (most : ℕ) → 13 ≤ most → (t ≡ done tt → length piece ≤ most) → length (out_by t piece) ≤ most
out_short (refused number place) piece most h d = omega (arith, refusal_length number place)
out_short (done tt) piece most h d = d refl

module _ (text : List ℕ) where
  -- what was read, where it was
  abbrev kiosk : Kiosk
  kiosk = (read_of text).state

  pub read_as : (read_of text).told ≡ done tt → ReadAs text kiosk
  read_as e = ap (λ t. record { state = kiosk; told = t }) e

  pub again_short : length (out_by (read_of text).told (text_of kiosk)) ≤ 111
  again_short =
      out_short (read_of text).told (text_of kiosk) 111 (omega arith)
      (λ e. let passed = (read_written text kiosk (read_as e)).1 in
      let few = (count_within kiosk.n (passes kiosk passed).chips).few in
      omega (arith, text_length kiosk passed (read_size text kiosk (read_as e))))

  pub setup_short : length (out_by (setup_end text) (setup_of kiosk)) ≤ 1634
  setup_short =
      out_short (setup_end text) (setup_of kiosk) 1634 (omega arith)
      (λ e. let read = read_as (both_done (read_of text).told (list_test kiosk.n (kiosk_words kiosk)) e).0 in
      setup_length kiosk (read_written text kiosk read).1 (read_size text kiosk read))

  module _ {out : List ℕ} {r : Replayed} {out' : List ℕ} where
    pub again_counts : 111 ≤ length out → PrintsAgain text out r out' → Counts r.bytes out'
    again_counts h p = let short = again_short in prints_counts (omega arith) p

    pub setup_counts : 1634 ≤ length out → PrintsSetup text out r out' → Counts r.bytes out'
    setup_counts h p = let short = setup_short in prints_counts (omega arith) p
