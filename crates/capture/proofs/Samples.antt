-- Samples played from one LOAD rise to the next. `Going` is the loop's invariant: what is left, played and written from here, is the
-- whole played and written.
--     stretch_writes           a stretch writes what the chain after it gives, if LOAD rose, and then comes what the rest writes
--     turn_room, turn_again    a turn: what it writes has room, and the invariant holds again
--     going_over               no sample is left
-- Assumes nothing.
use mathlib.Core.Path.{◌≡◌, refl, ap, sym, subst, ◌∙◌}
use mathlib.Core.Bool.{true}
use mathlib.Core.List.{List, [], ◌++◌}
use Prim.Native.Nat.{ℕ, ◌+◌, ◌≤◌, ◌<◌}
use lib.ListN.{length, get_or, drop, drop_of_length-le}
use Rattle.base.specs.Pick.{pick}
use Rattle.base.proofs.Lent.{Fills, fills_more, fills_room, fills_over}
use Rattle.base.proofs.Picks.{pick_yes, pick_no}
use Rattle.base.proofs.Lists.{rest_is}
use Rattle.chip.specs.Edges.{load_rises}
use Rattle.chain.specs.declared.Chain.{Chain}
use Rattle.chain.specs.declared.play.Stretch.{Stretch}
use Rattle.chain.specs.Chain.{stepped_chain, played}
use Rattle.chain.specs.Stretch.{stretch_from}
use Rattle.chain.proofs.Stretch.{each_stretch, stretch_plays}
use Rattle.lines.specs.Answers.{Puts}
use Rattle.capture.specs.declared.Report.{Report}
use Rattle.capture.specs.Frames.{samples}
use Rattle.capture.specs.Parts.{Takes}
use Rattle.capture.specs.Reports.{at_rise}
use Rattle.capture.specs.Replay.{rises_in, taken}

-- ---- what a stretch writes

module _ (what : Report) (n : ℕ) (ss : List ℕ) where
  -- what a stretch writes at its end, and what the samples after it write
  abbrev writes : Stretch → List ℕ
  writes t = pick t.rose (at_rise what n t.chain) [] ++ rises_in what n (drop t.stop ss) t.chain

  rises_more : (i : ℕ) (ch : Chain) → i < length ss
      → rises_in what n (drop i ss) ch
      ≡ pick (load_rises ch.levels (get_or ss i 0)) (at_rise what n (stepped_chain n (get_or ss i 0) ch)) []
      ++ rises_in what n (drop (i + 1) ss) (stepped_chain n (get_or ss i 0) ch)
  unfolding rises_in
  rises_more i ch h = ap (λ r. rises_in what n r ch) (rest_is ss i 0 h)

  pub stretch_writes : (i : ℕ) (ch : Chain) → rises_in what n (drop i ss) ch ≡ writes (stretch_from n i (drop i ss) ch)
  stretch_writes =
      each_stretch n ss (λ i ch t. rises_in what n (drop i ss) ch ≡ writes t) (λ i ch past. refl)
      (λ i ch more up. rises_more i ch more ∙ ap (λ x. x ++ rises_in what n (drop (i + 1) ss) (stepped_chain n (get_or ss i 0) ch)) (pick_yes _ _ up))
      (λ i ch t more still p. rises_more i ch more ∙ ap (λ x. x ++ rises_in what n (drop (i + 1) ss) (stepped_chain n (get_or ss i 0) ch)) (pick_no _ _ still) ∙ p)

-- ---- the loop

pub record Going (what : Report) (n : ℕ) (ss : List ℕ) (at₀ : ℕ) (out₀ : List ℕ) (ch₀ : Chain) (out : List ℕ) (next : Chain) (end i : ℕ) : Type 0 where
  pub room : at₀ + length (rises_in what n ss ch₀) ≤ length out₀
  pub plays : played n (drop i ss) next ≡ played n ss ch₀
  pub fills : Fills at₀ (rises_in what n ss ch₀) out₀ end (rises_in what n (drop i ss) next) out

module _ {what : Report} {n : ℕ} {ss : List ℕ} {at₀ : ℕ} {out₀ : List ℕ} {ch₀ : Chain} {out : List ℕ} {next : Chain} {end i : ℕ}
    (g : Going what n ss at₀ out₀ ch₀ out next end i) where
  -- ---- a turn of the loop, and the piece that it writes

  module _ (t : Stretch) (e : t ≡ stretch_from n i (drop i ss) next) (piece : List ℕ) (writes_so : pick t.rose (at_rise what n t.chain) [] ≡ piece) where
    abbrev rest : List ℕ
    rest = rises_in what n (drop t.stop ss) t.chain

    fills_so : Fills at₀ (rises_in what n ss ch₀) out₀ end (piece ++ rest) out
    fills_so =
        subst (λ w. Fills at₀ (rises_in what n ss ch₀) out₀ end w out)
        (stretch_writes what n ss i next ∙ ap (writes what n ss) (sym e) ∙ ap (λ p. p ++ rest) writes_so)
        g.fills

    pub turn_room : end + length piece ≤ length out
    turn_room = fills_room piece rest fills_so g.room

    pub turn_again : {r : ℕ} {out' : List ℕ} → Puts piece end out r out' → Going what n ss at₀ out₀ ch₀ out' t.chain r t.stop
    turn_again put =
        record {
          room = g.room;
          plays = stretch_plays n ss i next t e ∙ g.plays;
          fills = fills_more piece rest fills_so g.room put.answer put.bytes;
        }

  -- ---- the end

  pub going_over : length ss ≤ i → Takes (taken what n ch₀ (samples ss)) at₀ out₀ (record { chain = next; taken = true; at = end }) out
  unfolding rises_in played
  going_over h =
      let none = drop_of_length-le ss h in
      let f = fills_over (subst (λ xs. Fills at₀ (rises_in what n ss ch₀) out₀ end (rises_in what n xs next) out) none g.fills) in
      record { chain = ap (λ xs. played n xs next) (sym none) ∙ g.plays; taken = refl; puts = record { answer = f.0; bytes = f.1 } }
