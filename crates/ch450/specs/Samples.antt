-- Document 02, C-15: what samples do to a panel, and how many times they read the key.
-- Assumes nothing.
use Rattle.std.specs.Prelude.{ℕ, ◌+◌, List, [], ◌∷◌}
use Rattle.base.specs.Bits.{bit_value}
use Rattle.ch450.specs.declared.Panel.{Panel}
use Rattle.ch450.specs.Edges.{stepped}
use Rattle.ch450.specs.Panel.{with_wires}
use Rattle.ch450.specs.Commands.{told_at, is_read, obeyed}

-- one sample: the wires move, and a command is obeyed where a stop completes it
unfoldable pub stepped_panel : ℕ → Panel → Panel
stepped_panel now p = obeyed (told_at now p.wires) (with_wires (stepped now p.wires) p)

-- a block of samples, one after another
unfoldable pub played : List ℕ → Panel → Panel
played [] p = p
played (s ∷ ss) p = played ss (stepped_panel s p)

-- at how many of them the key is read
unfoldable pub reads_in : List ℕ → Panel → ℕ
reads_in [] p = 0
reads_in (s ∷ ss) p = bit_value (is_read (told_at s p.wires)) + reads_in ss (stepped_panel s p)
