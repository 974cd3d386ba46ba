-- A line of a text that was ended, as the code takes it: by its frame.
--     line_bytes, line_few                       what the frame holds
--     line_taken                                 a line after the first that is taken
-- Assumes nothing.
use Rattle.std.proofs.Common.{◌≡◌, ℕ, ◌+◌, ◌≤◌, true, false, T, List, length, drop, replicate, sym, refl, ap, ◌∙◌, subst, true≢false, arith, take_at}
use Rattle.base.specs.Refusals.{Told, done, refused, Outcome}
use Rattle.base.proofs.Picks.{pick_yes}
use Rattle.chain.specs.declared.Chain.{Chain}
use Rattle.chain.specs.Chain.{chip_count}
use Rattle.chain.proofs.Tested.{count_high}
use Rattle.lines.specs.declared.Frame.{Frame}
use Rattle.lines.specs.Answers.{frame_for, held_by}
use Rattle.capture.specs.declared.Report.{Report}
use Rattle.capture.specs.declared.walk.Took.{Took}
use Rattle.capture.specs.Frames.{form_of}
use Rattle.capture.specs.Parts.{out_of, is_taken, Takes}
use Rattle.capture.specs.Replay.{taken}
use Rattle.capture.specs.Takes.{line_room, line_where}
use Rattle.capture.proofs.Taken.{line_where_lem}
use Rattle.streams.specs.declared.State.{State}
use Rattle.streams.specs.declared.held.Held.{Held}
use Rattle.streams.specs.Held.{none_held, line_held}
use Rattle.streams.specs.Parts.{Steps}
use Rattle.streams.specs.Steps.{later_taken, line_ended}
use Rattle.streams.proofs.Rooms.{held_few}
use Rattle.streams.proofs.Stepping.{step_as}

-- what was taken is what it wrote
told_done : (t : Told (List ℕ)) → is_taken t ≡ true → t ≡ done (out_of t)
told_done (done out) e = refl
told_done (refused number place) e = absurd (true≢false (sym e))

module _ (what : Report) (s : State) (f : Frame) (reads : f ≡ frame_for (line_held s.held)) where
  pub line_bytes : held_by f ≡ line_held s.held
  line_bytes =
      let bytes = line_held s.held in
      ap held_by reads ∙ take_at bytes (drop (length bytes) (replicate 33 0)) (length bytes) refl

  pub line_few : f.count ≤ 33
  line_few = omega (arith, ap (λ (g : Frame). g.count) reads, held_few s.held)

  -- a later line
  module _ (count : chip_count s.n ≡ true) {at : ℕ} {out : List ℕ} (room : at + line_room ≤ length out) {t : Took} {out' : List ℕ}
      (takes : Takes (line_where what s.n s.chain f at out) at out t out') where
    abbrev line : Outcome Chain (List ℕ)
    line = taken what s.n s.chain (form_of s.n (line_held s.held))

    took : Takes line at out t out'
    took =
        subst (λ o. Takes o at out t out')
        (line_where_lem what s.n s.chain f at out (count_high s.n (subst T (sym count) tt)) line_few room
        ∙ ap (λ bytes. taken what s.n s.chain (form_of s.n bytes)) line_bytes)
        takes

    ended_so : line_ended what s ≡ later_taken s line.state line.told
    ended_so = pick_yes _ _ count

    pub line_taken : t.taken ≡ true → {held : Held} → held ≡ none_held
        → Steps (line_ended what s) at out (record { state = record { n = s.n; chain = t.chain; place = s.place + 1; held = held; reader = s.reader }; over = false; at = t.at }) out'
    line_taken e h =
        step_as (ended_so ∙ ap (later_taken s line.state) (told_done line.told (sym took.taken ∙ e)))
        (record { state = λ i. record { n = s.n; chain = took.chain i; place = s.place + 1; held = h i; reader = s.reader }; over = refl; puts = took.puts })
