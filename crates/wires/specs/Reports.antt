-- docs/CAPTURES.md, "Text of two wires": what is written at an obeyed command. There are two reports over one walk: `Commands`, and
-- `Screen`, the segments lit.
-- Assumes nothing.
use Rattle.std.specs.Prelude.{ℕ, Bool, List, [], ◌∷◌, ◌++◌}
use Rattle.base.specs.Pick.{pick}
use Rattle.ch450.specs.declared.Panel.{Panel}
use Rattle.ch450.specs.declared.play.Transfer.{Transfer}
use Rattle.ch450.specs.Commands.{meaning_of, is_read}
use Rattle.ch450.specs.Panel.{lit_of}
use Rattle.lines.specs.Lines.{line_for}
use Rattle.wires.specs.declared.Report.{Report}
use Rattle.wires.specs.declared.Report.TheVariants.{Commands, Screen}
use Rattle.std.specs.declared.option.Option.{Option}
use Rattle.std.specs.declared.option.Option.TheVariants.{Some, None}
use Rattle.ch450.specs.declared.Command.{Command}

-- the segments lit: 44, six bytes, DIG2 first
abbrev pub screen_line : Panel → List ℕ
screen_line p = line_for (0x44 ∷ lit_of p)

-- 42, byte 1, byte 2 as clocked; after it, for a read, 43 and the code
abbrev pub command_lines : ℕ → ℕ → ℕ → Bool → List ℕ
command_lines key first second read =
    line_for (0x42 ∷ first ∷ second ∷ []) ++ pick read (line_for (0x43 ∷ key ∷ [])) []

-- of an obeyed command, given the panel after it; an unknown byte 1 is none
abbrev pub obeyed_lines : Report → ℕ → ℕ → ℕ → (Option Command) → Panel → List ℕ
obeyed_lines what key first second None p = []
obeyed_lines Commands key first second (Some command) p =
    command_lines key first second (is_read (Some command))
obeyed_lines Screen key first second (Some command) p = screen_line p

-- of a transfer that a stop completed
abbrev pub transfer_lines : Report → ℕ → Option Transfer → Panel → List ℕ
transfer_lines what key None p = []
transfer_lines what key (Some t) p = obeyed_lines what key t.first t.second (meaning_of t.first t.second) p
