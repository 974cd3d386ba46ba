-- Document 02, C-16: what the entries that are lent a buffer do, refusals and all: settings written as text, and turned into rows.
-- Assumes nothing.
use Rattle.std.specs.Prelude.{◌≡◌, ℕ, List, leb, length}
use Rattle.base.specs.Lent.{laid}
use Rattle.base.specs.Pick.{pick}
use Rattle.base.specs.Refusals.{Told, done, refused, tells}
use Rattle.chain.specs.Chain.{chip_count}
use Rattle.settings.specs.declared.Kiosk.{Kiosk}
use Rattle.settings.specs.Settings.{kept_in, all_legal, text_of, words_of}
use Rattle.std.specs.declared.result.Result.{Result}
use Rattle.base.specs.declared.Refusal.{Refusal}

-- the settings, whatever the buffer: refusals 3, 9
unfoldable pub settings_test : Kiosk → Told (Unit {0})
settings_test kiosk = pick (chip_count kiosk.n) (pick (all_legal (kept_in kiosk)) (done tt) (refused 9 0)) (refused 3 0)

-- a piece put into a buffer after a test: its refusal, or 8 where the buffer is shorter, or how many there are
abbrev pub answer_by : Told (Unit {0}) → List ℕ → List ℕ → Told ℕ
answer_by (refused number place) piece out = refused number place
answer_by (done u) piece out = pick (leb (length piece) (length out)) (done (length piece)) (refused 8 0)

-- the buffer: the piece at its front, or as it was where it is refused
abbrev pub buffer_by : Told ℕ → List ℕ → List ℕ → List ℕ
buffer_by (refused number place) piece out = out
buffer_by (done count) piece out = laid piece out

-- what `write` and `rows` do with their piece: the answer, and the buffer after it
pub record Fits (kiosk : Kiosk) (piece out : List ℕ) (r : Result ℕ Refusal) (out' : List ℕ) : Type 0 where
  pub answer : tells r ≡ answer_by (settings_test kiosk) piece out
  pub buffer : out' ≡ buffer_by (answer_by (settings_test kiosk) piece out) piece out

-- `write`: the text; refusals 3, 9, 8
abbrev pub Writes : Kiosk → List ℕ → (Result ℕ Refusal) → List ℕ → Type 0
Writes kiosk out r out' = Fits kiosk (text_of kiosk) out r out'

-- `rows`: the words, into an array that always suffices; refusals 3, 9
abbrev pub Fills : Kiosk → List ℕ → (Result ℕ Refusal) → List ℕ → Type 0
Fills kiosk out r out' = Fits kiosk (words_of (kept_in kiosk)) out r out'
