-- What samples do up to and with the next stop that completes a transfer. No entry's promise cites this: `play` and the walk over a
-- text go by it.
-- Assumes nothing.
use Rattle.std.specs.Prelude.{ℕ, suc, List, [], ◌∷◌, Some, None}
use Rattle.std.specs.declared.option.Option.{Option}
use Rattle.base.specs.Bits.{bit_value}
use Rattle.base.specs.Pick.{pick}
use Rattle.ch450.specs.declared.Panel.{Panel}
use Rattle.ch450.specs.declared.play.Run.{Run}
use Rattle.ch450.specs.declared.play.Stretch.{Stretch}
use Rattle.ch450.specs.declared.play.Transfer.{Transfer}
use Rattle.ch450.specs.Edges.{completes, first_byte, second_byte}
use Rattle.ch450.specs.Commands.{meaning_of, is_read}
use Rattle.ch450.specs.Samples.{stepped_panel, played, reads_in}

-- the panel after it, the place past its last sample, given the first one's, and the transfer's bytes; without such a stop all samples
-- are played
unfoldable pub stretch_from : ℕ → List ℕ → Panel → Stretch
stretch_from place [] p = record { panel = p; stop = place; transfer = None }
stretch_from place (s ∷ ss) p =
    pick (completes s p.wires)
    (record { panel = stepped_panel s p; stop = suc place; transfer = Some (record { first = first_byte p.wires; second = second_byte p.wires }) })
    (stretch_from (suc place) ss (stepped_panel s p))

-- 1 where a transfer read the key
abbrev pub read_by : Option Transfer → ℕ
read_by (Some t) = bit_value (is_read (meaning_of t.first t.second))
read_by None = 0

-- all samples played, and how many times the key was read
abbrev pub run_of : List ℕ → Panel → Run
run_of ss p = record { panel = played ss p; reads = reads_in ss p }
