-- Document 02, C-16, as a program shows it: a settings text read and written again; the capture text that sets a panel to it; or one
-- line, 1F, a refusal's number, and the place that it names in four bytes.
-- Assumes nothing.
use Rattle.std.specs.Prelude.{◌≡◌, ℕ, zero, suc, ◌+◌, ◌/◌, List, [], ◌∷◌, ◌++◌, length, take, drop}
use Rattle.base.specs.Lent.{laid}
use Rattle.base.specs.Refusals.{Told, done, refused, tells}
use Rattle.lines.specs.Lines.{line_for}
use Rattle.capture.specs.declared.Replayed.{Replayed}
use Rattle.capture.specs.Reports.{refusal_line}
use Rattle.writer.specs.Rows.{written, list_test, or_else}
use Rattle.settings.specs.declared.Kiosk.{Kiosk}
use Rattle.settings.specs.Settings.{kept_in, text_of, words_of}
use Rattle.settings.specs.Reading.{read_of}

-- ---- the capture text

-- so many lines of samples: 01 and 32 samples, the last as many as are left
unfoldable pub lines_for : ℕ → List ℕ → List ℕ
lines_for zero ss = []
lines_for (suc more) ss = line_for (0x01 ∷ take 32 ss) ++ lines_for more (drop 32 ss)

-- the lines of samples
abbrev pub sample_lines : List ℕ → List ℕ
sample_lines ss = lines_for ((length ss + 31) / 32) ss

-- a capture text: 00 01 N, and the samples
abbrev pub capture_of : ℕ → List ℕ → List ℕ
capture_of n ss = line_for (0x00 ∷ 0x01 ∷ n ∷ []) ++ sample_lines ss

-- the words of settings
abbrev pub kiosk_words : Kiosk → List ℕ
kiosk_words kiosk = words_of (kept_in kiosk)

-- the capture text that sets a panel to settings: the rows, as the writer writes them
abbrev pub setup_of : Kiosk → List ℕ
setup_of kiosk = capture_of kiosk.n (written kiosk.n (kiosk_words kiosk))

-- ---- how a text ends

-- read, the text is written again
abbrev pub again_end : List ℕ → Told (Unit {0})
again_end text = (read_of text).told

-- read, the writer takes the rows or refuses them (7; the chip is its place)
abbrev pub setup_end : List ℕ → Told (Unit {0})
setup_end text = or_else (read_of text).told (list_test (read_of text).state.n (kiosk_words (read_of text).state))

-- ---- the entries

-- a piece, or a refusal's line
abbrev pub out_by : Told (Unit {0}) → List ℕ → List ℕ
out_by (done u) piece = piece
out_by (refused number place) piece = refusal_line number place

-- what `again` and `setup` do: the output stands at the front of the lent array, the rest is as it was, and the answer is how many bytes
-- it has and how the text ended
pub record Prints (end : Told (Unit {0})) (piece out : List ℕ) (r : Replayed) (out' : List ℕ) : Type 0 where
  pub answer : tells r.answer ≡ end
  pub count : r.bytes ≡ length (out_by end piece)
  pub bytes : out' ≡ laid (out_by end piece) out

-- the text written again
abbrev pub PrintsAgain : List ℕ → List ℕ → Replayed → List ℕ → Type 0
PrintsAgain text out r out' = Prints (again_end text) (text_of (read_of text).state) out r out'

-- the capture text
abbrev pub PrintsSetup : List ℕ → List ℕ → Replayed → List ℕ → Type 0
PrintsSetup text out r out' = Prints (setup_end text) (setup_of (read_of text).state) out r out'
