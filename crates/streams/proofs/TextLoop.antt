-- The loop over a text's block: a line at a turn. The invariant is `Lines`: that of `Goes`, and that what the whole writes has room.
--     lines_start                        the loop's start
--     lines_room                         there is room for any line
--     lines_many                         there is no line of number 2^32
--     lines_kept                         a line that the block's end cuts
--     lines_more, lines_stop             a line that was ended: it goes on, or is refused
-- Assumes nothing.
use Rattle.std.proofs.Common.{◌≡◌, ℕ, ◌+◌, ◌-◌, ◌^◌, ◌<◌, ◌≤◌, true, false, List, [], length, take, drop, sym, ap, ◌∙◌, arith, length-drop, take_all, drop-drop}
use Rattle.base.proofs.Picks.{pick_yes}
use Rattle.lines.specs.Answers.{line_length}
use Rattle.capture.specs.declared.Report.{Report}
use Rattle.capture.specs.Reports.{refusal_line}
use Rattle.capture.specs.Takes.{line_room}
use Rattle.streams.specs.declared.State.{State}
use Rattle.streams.specs.declared.Step.{Step}
use Rattle.streams.specs.declared.held.Held.{Held}
use Rattle.streams.specs.Held.{grown_by}
use Rattle.streams.specs.Parts.{most_written, Steps}
use Rattle.streams.specs.Steps.{going, stopped, line_ended, text_byte, then, steps}
use Rattle.streams.proofs.Goes.{Goes, goes_start, goes_on, goes_last}
use Rattle.streams.proofs.Rooms.{text_room}
use Rattle.streams.proofs.Stepping.{nothing_written}
use Rattle.streams.proofs.TextSteps.{with_held, text_kept, text_ended, text_many}

pub record Lines (what : Report) (s₀ : State) (bytes out₀ : List ℕ) (s : State) (at i : ℕ) (out : List ℕ) : Type 0 where
  pub goes : Goes (text_byte what) s₀ bytes out₀ s at i out
  pub few : length bytes ≤ 4096
  pub large : most_written ≤ length out₀

pub lines_start : (what : Report) (s : State) (bytes out : List ℕ) → length bytes ≤ 4096 → most_written ≤ length out → Lines what s bytes out s 0 0 out
lines_start what s bytes out h l = record { goes = goes_start (text_byte what) s bytes out; few = h; large = l }

module _ {what : Report} {s₀ : State} {bytes out₀ : List ℕ} {s : State} {at i : ℕ} {out : List ℕ} (w : Lines what s₀ bytes out₀ s at i out) where
  -- the whole fits
  fits : 0 + length (steps (text_byte what) s₀ bytes).out ≤ length out₀
  fits = omega (arith, text_room what s₀ bytes, w.few, w.large)

  pub lines_room : at + line_room ≤ length out
  lines_room = omega (arith, text_room what s₀ bytes, w.few, w.large, w.goes.fills.count, w.goes.fills.size)

  pub lines_many : i < length bytes → 2 ^ 32 ≤ s.place → {r : Step} {out' : List ℕ} → Steps (stopped s (refusal_line 11 0)) at out r out'
      → Steps (steps (text_byte what) s₀ bytes) 0 out₀ r out'
  lines_many more many = goes_last (text_byte what) w.goes (stopped s (refusal_line 11 0)) (text_many what s bytes i more many)

  -- the line from here on
  module _ (low : s.place < 2 ^ 32) (end : ℕ) (here : end ≡ i + line_length (drop i bytes)) {grown : Held}
      (grows : grown ≡ grown_by s.held (take (end - i) (drop i bytes))) where
    abbrev rest : List ℕ
    rest = drop i bytes

    long : length rest ≡ length bytes - i
    long = length-drop i bytes

    pub lines_kept : i < length bytes → length bytes ≤ end → Steps (steps (text_byte what) s₀ bytes) 0 out₀ (record { state = with_held grown s; over = false; at = at }) out
    lines_kept more past =
        let all : take (end - i) rest ≡ rest = take_all (end - i) rest (omega (arith, long)) in
        goes_last (text_byte what) w.goes (going (with_held (grown_by s.held rest) s) []) (text_kept what s rest low (omega (arith, long)))
        (nothing_written at out (ap (λ h. with_held h s) (grows ∙ ap (grown_by s.held) all)))

    -- it was ended
    module _ (within : end < length bytes) where
      splits : steps (text_byte what) s rest ≡ then (line_ended what (with_held grown s)) (λ next. steps (text_byte what) next (drop (end + 1) bytes))
      splits =
          let m : line_length rest ≡ end - i = omega arith in
          let past : i + (line_length rest + 1) ≡ end + 1 = omega arith in
          text_ended what s rest low (omega (arith, long))
          ∙ ap (λ h. then (line_ended what (with_held h s)) (λ next. steps (text_byte what) next (drop (line_length rest + 1) rest)))
          (ap (λ k. grown_by s.held (take k rest)) m ∙ sym grows)
          ∙ ap (λ left. then (line_ended what (with_held grown s)) (λ next. steps (text_byte what) next left))
          (drop-drop (line_length rest + 1) i bytes ∙ ap (λ k. drop k bytes) past)

      pub lines_more : {r : Step} {out' : List ℕ} → Steps (line_ended what (with_held grown s)) at out r out' → r.over ≡ false
          → Lines what s₀ bytes out₀ r.state r.at (end + 1) out'
      lines_more made Goes-Further =
          record {
            goes =
                goes_on (text_byte what) w.goes (line_ended what (with_held grown s)) (end + 1) (omega arith) splits (sym made.over ∙ Goes-Further) fits made;
            few = w.few;
            large = w.large;
          }

      pub lines_stop : {r : Step} {out' : List ℕ} → Steps (line_ended what (with_held grown s)) at out r out' → r.over ≡ true
          → Steps (steps (text_byte what) s₀ bytes) 0 out₀ r out'
      lines_stop made stops =
          goes_last (text_byte what) w.goes (line_ended what (with_held grown s)) (splits ∙ pick_yes _ _ (sym made.over ∙ stops)) made
