-- What `watch` writes of a whole stream: its first byte tells the form.
-- Assumes nothing.
use Rattle.std.specs.Prelude.{ℕ, List, [], ◌∷◌, ◌==◌}
use Rattle.base.specs.Pick.{pick}
use Rattle.capture.specs.declared.Report.{Report}
use Rattle.streams.specs.Text.{text_out}
use Rattle.streams.specs.Raw.{raw_out}

-- a first byte 00 begins a raw stream, any other a text; and no byte at all is an empty text
abbrev pub watch_out : Report → List ℕ → List ℕ
watch_out what [] = text_out what []
watch_out what (b ∷ bytes) = pick (b == 0x00) (raw_out what bytes) (text_out what (b ∷ bytes))
