-- Samples played from one completed transfer to the next. `Going` is the loop's invariant: what is left, played and written from here, is
-- the whole played and written.
--     stretch_writes           a stretch writes what its transfer gives, with the panel after it, and then comes what the rest writes
--     going_start              the loop's start
--     turn_room, turn_again    a turn: what it writes has room, and the invariant holds again
--     going_over               no sample is left
-- Assumes nothing.
use mathlib.Core.Path.{◌≡◌, refl, ap, sym, subst, ◌∙◌}
use mathlib.Core.Bool.{true}
use mathlib.Core.List.{List, ◌++◌}
use Prim.Native.Nat.{ℕ, ◌+◌, ◌≤◌, ◌<◌}
use lib.ListN.{length, get_or, drop, drop_of_length-le}
use Rattle.base.proofs.Lent.{Fills, fills_start, fills_more, fills_room, fills_over}
use Rattle.base.proofs.Lists.{rest_is}
use Rattle.ch450.specs.declared.Panel.{Panel}
use Rattle.ch450.specs.declared.play.Stretch.{Stretch}
use Rattle.ch450.specs.Edges.{first_byte, second_byte}
use Rattle.ch450.specs.Samples.{stepped_panel, played}
use Rattle.ch450.specs.Stretch.{stretch_from}
use Rattle.ch450.proofs.Silent.{told_nothing}
use Rattle.ch450.proofs.Stretches.{told_stop, each_stretch, stretch_plays}
use Rattle.lines.specs.Answers.{Puts}
use Rattle.wires.specs.declared.Report.{Report}
use Rattle.wires.specs.Frames.{samples}
use Rattle.wires.specs.Parts.{Takes}
use Rattle.wires.specs.Reports.{obeyed_lines, transfer_lines}
use Rattle.wires.specs.Replay.{at_sample, written_by, taken}
use Rattle.std.specs.declared.option.Option.{Option}
use Rattle.ch450.specs.declared.Command.{Command}

-- ---- what a stretch writes

module _ (what : Report) (key : ℕ) (ss : List ℕ) where
  -- what a stretch writes at its end, and what the samples after it write
  abbrev writes : Stretch → List ℕ
  writes t = transfer_lines what key t.transfer t.panel ++ written_by what key (drop t.stop ss) t.panel

  -- what a sample writes, told so much, and what the samples after it write
  abbrev told_writes : ℕ → Panel → (Option Command) → List ℕ
  told_writes i p m =
      let next = stepped_panel (get_or ss i 0) p in
      obeyed_lines what key (first_byte p.wires) (second_byte p.wires) m next ++ written_by what key (drop (i + 1) ss) next

  -- a sample more
  written_more : (i : ℕ) (p : Panel) → i < length ss
      → written_by what key (drop i ss) p
      ≡ at_sample what key (get_or ss i 0) p ++ written_by what key (drop (i + 1) ss) (stepped_panel (get_or ss i 0) p)
  unfolding written_by
  written_more i p h = ap (λ r. written_by what key r p) (rest_is ss i 0 h)

  pub stretch_writes : (i : ℕ) (p : Panel) → written_by what key (drop i ss) p ≡ writes (stretch_from i (drop i ss) p)
  stretch_writes =
      each_stretch ss (λ i p t. written_by what key (drop i ss) p ≡ writes t) (λ i p past. refl)
      (λ i p more stop. written_more i p more ∙ ap (told_writes i p) (told_stop (get_or ss i 0) p.wires stop))
      (λ i p t more still q. written_more i p more ∙ ap (told_writes i p) (told_nothing (get_or ss i 0) p.wires still) ∙ q)

-- ---- the loop

pub record Going (what : Report) (key : ℕ) (ss : List ℕ) (at₀ : ℕ) (out₀ : List ℕ) (p₀ : Panel) (out : List ℕ) (next : Panel) (end i : ℕ) : Type 0 where
  pub room : at₀ + length (written_by what key ss p₀) ≤ length out₀
  pub plays : played (drop i ss) next ≡ played ss p₀
  pub fills : Fills at₀ (written_by what key ss p₀) out₀ end (written_by what key (drop i ss) next) out

pub going_start : (what : Report) (key : ℕ) (ss : List ℕ) (at : ℕ) (out : List ℕ) (p : Panel) → at + length (written_by what key ss p) ≤ length out
    → Going what key ss at out p out p at 0
going_start what key ss at out p room = record { room = room; plays = refl; fills = fills_start at (written_by what key ss p) out }

module _ {what : Report} {key : ℕ} {ss : List ℕ} {at₀ : ℕ} {out₀ : List ℕ} {p₀ : Panel} {out : List ℕ} {next : Panel} {end i : ℕ}
    (g : Going what key ss at₀ out₀ p₀ out next end i) where
  -- ---- a turn of the loop, and what it writes

  module _ (t : Stretch) (e : t ≡ stretch_from i (drop i ss) next) where
    abbrev piece : List ℕ
    piece = transfer_lines what key t.transfer t.panel

    abbrev rest : List ℕ
    rest = written_by what key (drop t.stop ss) t.panel

    -- what is left begins with what the turn writes
    fills_so : Fills at₀ (written_by what key ss p₀) out₀ end (piece ++ rest) out
    fills_so =
        subst (λ w. Fills at₀ (written_by what key ss p₀) out₀ end w out) (stretch_writes what key ss i next ∙ ap (writes what key ss) (sym e))
        g.fills

    pub turn_room : end + length piece ≤ length out
    turn_room = fills_room piece rest fills_so g.room

    pub turn_again : {r : ℕ} {out' : List ℕ} → Puts piece end out r out' → Going what key ss at₀ out₀ p₀ out' t.panel r t.stop
    turn_again put =
        record {
          room = g.room;
          plays = stretch_plays ss i next t e ∙ g.plays;
          fills = fills_more piece rest fills_so g.room put.answer put.bytes;
        }

  -- ---- the end

  pub going_over : length ss ≤ i → Takes (taken what key p₀ (samples ss)) at₀ out₀ (record { panel = next; taken = true; at = end }) out
  unfolding written_by played
  going_over h =
      let none = drop_of_length-le ss h in
      let f = fills_over (subst (λ xs. Fills at₀ (written_by what key ss p₀) out₀ end (written_by what key xs next) out) none g.fills) in
      record { panel = ap (λ xs. played xs next) (sym none) ∙ g.plays; taken = refl; puts = record { answer = f.0; bytes = f.1 } }
