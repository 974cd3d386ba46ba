-- Document 02, C-16: one setting has one text, and how much of a text decides. What is written reads back as it was, and a text that
-- reads is the one that is written from what it read.
-- Assumes nothing.
use Rattle.std.specs.Prelude.{◌≡◌, ◌↔◌, ℕ, ◌+◌, ◌*◌, ◌≤◌, List, ◌++◌, length, take, drop}
use Rattle.base.specs.Refusals.{done}
use Rattle.chain.specs.Chain.{most}
use Rattle.settings.specs.declared.Kiosk.{Kiosk}
use Rattle.settings.specs.Putting.{settings_test}
use Rattle.settings.specs.Reading.{read_of}
use Rattle.settings.specs.Settings.{no_kepts, kept_in, text_of}

-- the settings with zeros for the chips from N on, which no text has
abbrev pub trimmed : Kiosk → Kiosk
trimmed kiosk = record { n = kiosk.n; chips = kept_in kiosk ++ drop kiosk.n no_kepts }

-- the text is read as these settings
abbrev pub ReadAs : List ℕ → Kiosk → Type 0
ReadAs text kiosk = read_of text ≡ record { state = kiosk; told = done tt }

-- the writer takes the settings, but for its buffer
abbrev pub Writable : Kiosk → Type 0
Writable kiosk = (settings_test kiosk ≡ done tt) × (length kiosk.chips ≡ most)

-- what is written reads back as it was
abbrev pub WrittenReads : Type 0
WrittenReads = (kiosk : Kiosk) → settings_test kiosk ≡ done tt → length kiosk.chips ≡ most → ReadAs (text_of kiosk) (trimmed kiosk)

-- a text that reads is the one that is written from what it read
abbrev pub ReadWritten : Type 0
ReadWritten = (text : List ℕ) (kiosk : Kiosk) → ReadAs text kiosk → (text_of kiosk ≡ text) × (settings_test kiosk ≡ done tt) × (trimmed kiosk ≡ kiosk)

-- settings have the same text exactly when they are the same below N
abbrev pub SameText : Type 0
SameText = (a b : Kiosk) → Writable a → Writable b → (text_of a ≡ text_of b) ↔ (trimmed a ≡ trimmed b)

-- the bytes of the longest text, and one more, decide
abbrev pub FirstDecides : Type 0
FirstDecides = (text : List ℕ) (m : ℕ) → 7 + 13 * most + 1 ≤ m → read_of (take m text) ≡ read_of text
