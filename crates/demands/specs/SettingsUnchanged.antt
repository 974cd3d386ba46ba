-- The first demand for kiosk settings (C-16): "a refusal changes no byte of a lent buffer", and a refused read hands back zeros. Of every
-- entry, by its contract alone, as in specs/Unchanged.antt.
--     AtFront                             what stands at the front of a buffer that was lent
--     LineAlone                           what a refused text leaves in the lent array
--     SettingsRefusalsChangeNothing       the statement, entry by entry
-- Assumes nothing.
use Rattle.std.specs.Prelude.{◌≡◌, List, ℕ, length, take, drop}
use Rattle.base.specs.Refusals.{refused, tells, handed}
use Rattle.capture.specs.declared.Replayed.{Replayed}
use Rattle.capture.specs.Reports.{refusal_line}
use Rattle.settings.specs.declared.Kiosk.{Kiosk}
use Rattle.settings.specs.Printing.{PrintsAgain, PrintsSetup}
use Rattle.settings.specs.Putting.{Writes, Fills}
use Rattle.settings.specs.Reading.{read_of}
use Rattle.settings.specs.Settings.{no_kiosk}
use Rattle.demands.specs.Unchanged.{HandsBack}
use Rattle.std.specs.declared.result.Result.{Result}
use Rattle.base.specs.declared.Refusal.{Refusal}
use Rattle.base.specs.declared.Handed.{Handed}

-- a piece stands at a buffer's front, so many are counted, and the rest of the buffer is as it was
pub record AtFront (piece out out' : List ℕ) (count : ℕ) : Type 0 where
  pub front : take count out' ≡ piece
  pub counted : count ≡ length piece
  pub rest : drop count out' ≡ drop count out

-- of a text that is refused: the refusal's line alone
abbrev pub LineAlone : List ℕ → List ℕ → ℕ → ℕ → ℕ → Type 0
LineAlone out out' number place bytes = AtFront (refusal_line number place) out out' bytes

-- a refusal changes no byte of a lent buffer
pub record SettingsRefusalsChangeNothing : Type 0 where
  -- zeros are handed back
  pub read : (text : List ℕ) (r : Handed Kiosk (Unit {0})) → handed r ≡ read_of text → HandsBack (handed r) no_kiosk
  -- every byte, and every word, of the lent buffer is as it was
  pub write : (kiosk : Kiosk) (out out' : List ℕ) (r : Result ℕ Refusal) → Writes kiosk out r out' → (number place : ℕ) → tells r ≡ refused number place → out' ≡ out
  pub rows : (kiosk : Kiosk) (out out' : List ℕ) (r : Result ℕ Refusal) → Fills kiosk out r out' → (number place : ℕ) → tells r ≡ refused number place → out' ≡ out
  -- the refusal's line, and the rest of the array as it was
  pub again : (text out out' : List ℕ) (r : Replayed) → PrintsAgain text out r out'
      → (number place : ℕ) → tells r.answer ≡ refused number place → LineAlone out out' number place r.bytes
  pub setup : (text out out' : List ℕ) (r : Replayed) → PrintsSetup text out r out'
      → (number place : ℕ) → tells r.answer ≡ refused number place → LineAlone out out' number place r.bytes
