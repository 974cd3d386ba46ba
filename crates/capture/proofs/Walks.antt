-- Lines one after another, whatever a line's bytes do to a state: the walks over texts of three and of two wires go by this. `Walks` is
-- the loop's invariant: what is left of the text writes what is left of the output, and ends as the whole does.
--     walk_out, walk_end                   what lines write, and how they end
--     Reader                             what is asked of the function that takes a line
--     walks_start, walks_over            the loop's start, and the text's end
--     walks_cut                          a last line without 0AH
--     walks_count, walks_same            how many bytes a frame holds, and that they are taken as the line's
--     walks_room, walks_refusal_room     there is room for what a line writes, and for its refusal
--     walks_refused, walks_more          a line that is refused, and one more line
-- Assumes nothing.
use mathlib.Core.Path.{◌≡◌, refl, ap, ap₂, sym, subst, ◌∙◌}
use mathlib.Core.Bool.{true, false, true≢false}
use mathlib.Core.List.{List, [], ◌∷◌, ◌++◌}
use Prim.Native.Nat.{ℕ, suc, ◌+◌, ◌-◌, ◌≤◌, ◌<◌}
use native.Mathlib.Numerals.{add-one}
use native.Mathlib.Omega.{arith}
use lib.ListN.{length, take, drop, length-append, length-drop, drop_of_length-le}
use Rattle.base.specs.Lent.{placed}
use Rattle.base.specs.Refusals.{Told, done, refused, Outcome}
use Rattle.base.proofs.Lent.{Fills, fills_start, fills_more, fills_over, placed_none}
use Rattle.lines.specs.declared.Frame.{Frame}
use Rattle.lines.specs.Answers.{line_length, held_in, frame_for, held_by, Puts}
use Rattle.lines.specs.Lines.{Line, ended, lines_of, bytes_in}
use Rattle.lines.proofs.Lines.{lines_next, lines_last}
use Rattle.capture.specs.declared.Replayed.{Replayed}
use Rattle.capture.specs.Parts.{Ends, out_of, is_taken}
use Rattle.capture.specs.Reports.{refusal_line}
use Rattle.capture.specs.Replay.{and_then}
use Rattle.capture.proofs.Reported.{refusal_length}
use Rattle.capture.proofs.EachLine.{after_line, frame_count, frame_same}
use Rattle.std.specs.declared.result.Result.TheVariants.{Ok}

-- ---- lines, by what takes one

-- what was taken ends as the rest; a refusal ends all, with the line's number
abbrev pub end_then : Told (List ℕ) → ℕ → Told (Unit {0}) → Told (Unit {0})
end_then (done out) line rest = rest
end_then (refused number place) line rest = refused number line

module _ {S : Type 0} (takes : S → List ℕ → Outcome S (List ℕ)) where
  unfoldable pub walk_out : ℕ → S → List Line → List ℕ
  walk_out line s [] = []
  walk_out line s (l ∷ ls) =
      and_then (takes s (bytes_in l)).told line (walk_out (suc line) (takes s (bytes_in l)).state ls)

  unfoldable pub walk_end : ℕ → S → List Line → Told (Unit {0})
  walk_end line s [] = done tt
  walk_end line s (l ∷ ls) =
      end_then (takes s (bytes_in l)).told line (walk_end (suc line) (takes s (bytes_in l)).state ls)

  -- more bytes than a frame holds are taken as none; no bytes are refused; and whatever is refused is with 10
  pub record Reader : Type 0 where
    pub long : (s : S) (bytes : List ℕ) → 33 < length bytes → takes s bytes ≡ takes s []
    pub empty : (s : S) → is_taken (takes s []).told ≡ false
    pub tells : (s : S) (bytes : List ℕ) → is_taken (takes s bytes).told ≡ false → (place : ℕ) × ((takes s bytes).told ≡ refused 10 place)

-- what was taken goes on
goes_on : (t : Told (List ℕ)) (line : ℕ) (rest : List ℕ) → is_taken t ≡ true → and_then t line rest ≡ out_of t ++ rest
goes_on (done out) line rest e = refl
goes_on (refused number place) line rest e = absurd (true≢false (sym e))

-- and ends as the rest
ends_on : (t : Told (List ℕ)) (line : ℕ) (rest : Told (Unit {0})) → is_taken t ≡ true → end_then t line rest ≡ rest
ends_on (done out) line rest e = refl
ends_on (refused number place) line rest e = absurd (true≢false (sym e))

-- ---- the walk

pub record Walks {S : Type 0} (takes : S → List ℕ → Outcome S (List ℕ)) (text : List ℕ) (whole : List ℕ) (told : Told (Unit {0})) (out₀ out : List ℕ) (next : S) (number at place : ℕ) : Type 0 where
  pub within : place ≤ length text
  pub short : length text ≤ 65536
  pub few : number ≤ place + 2
  pub room : length whole ≤ length out₀
  pub fills : Fills 0 whole out₀ at (walk_out takes number next (lines_of (drop place text))) out
  pub ends : walk_end takes number next (lines_of (drop place text)) ≡ told

-- what is to be written, and how it is to end, is given as the caller has it
pub walks_start : {S : Type 0} (takes : S → List ℕ → Outcome S (List ℕ)) (text out : List ℕ) (s : S) (from : ℕ) {whole : List ℕ} {told : Told (Unit {0})}
    → whole ≡ walk_out takes 2 s (lines_of (drop from text))
    → told ≡ walk_end takes 2 s (lines_of (drop from text))
    → from ≤ length text
    → length text ≤ 65536
    → length whole ≤ length out
    → Walks takes text whole told out out s 2 0 from
walks_start takes text out s from {whole} writes ends w t r =
    record {
      within = w;
      short = t;
      few = omega arith;
      room = r;
      fills = subst (λ rest. Fills 0 whole out 0 rest out) writes (fills_start 0 whole out);
      ends = sym ends;
    }

module _ {S : Type 0} {takes : S → List ℕ → Outcome S (List ℕ)} (reader : Reader takes) {text whole : List ℕ} {told : Told (Unit {0})} {out₀ out : List ℕ} {next : S}
    {number at place : ℕ}
    (w : Walks takes text whole told out₀ out next number at place) where
  abbrev left : List ℕ
  left = drop place text

  -- what is left is one last piece
  last : (piece : List ℕ) → walk_out takes number next (lines_of left) ≡ piece → {end : Told (Unit {0})} → walk_end takes number next (lines_of left) ≡ end
      → {out' : List ℕ} → out' ≡ out → {r : Replayed} {out'' : List ℕ} → Ends piece end at out' r out''
      → Ends whole told 0 out₀ r out''
  last piece e d {out'} same put =
      let f = subst (λ rest. Fills 0 whole out₀ at rest out) e w.fills in
      record {
        puts = record { answer = put.puts.answer ∙ f.count; bytes = put.puts.bytes ∙ ap (placed at piece) same ∙ f.bytes };
        answer = put.answer ∙ sym d ∙ w.ends;
      }

  -- and has room
  last_room : (piece : List ℕ) → walk_out takes number next (lines_of left) ≡ piece → at + length piece ≤ length out
  last_room piece e =
      let f = subst (λ rest. Fills 0 whole out₀ at rest out) e w.fills in
      omega (arith, f.count, f.size, w.room)

  pub walks_over : length text ≤ place → Ends whole told 0 out₀ (record { bytes = at; answer = (Ok tt) }) out
  unfolding lines_of walk_out walk_end
  walks_over h =
      let none = drop_of_length-le text h in
      let f = fills_over (subst (λ rest. Fills 0 whole out₀ at rest out) (ap (λ xs. walk_out takes number next (lines_of xs)) none) w.fills) in
      record { puts = record { answer = f.0; bytes = f.1 }; answer = sym (ap (λ xs. walk_end takes number next (lines_of xs)) none) ∙ w.ends }

  -- ---- a last line without 0AH

  module _ (end : ℕ) (here : end ≡ place + line_length left) (more : place < length text) (long : length text ≤ end) where
    cut_so : (walk_out takes number next (lines_of left) ≡ refusal_line 10 number) × (walk_end takes number next (lines_of left) ≡ refused 10 number)
    unfolding walk_out walk_end
    cut_so =
        let one = lines_last left (omega (arith, length-drop place text)) (omega (arith, length-drop place text)) in
        let none = (reader.tells next [] (reader.empty next)).1 in (
          ap (walk_out takes number next) one ∙ ap (λ t. and_then t number []) none,
          ap (walk_end takes number next) one ∙ ap (λ t. end_then t number (done tt)) none,
        )

    pub cut_room : at + 13 ≤ length out
    cut_room = omega (arith, last_room (refusal_line 10 number) cut_so.0, refusal_length 10 number)

    pub walks_cut : {r : Replayed} {out' : List ℕ} → Ends (refusal_line 10 number) (refused 10 number) at out r out' → Ends whole told 0 out₀ r out'
    walks_cut = last (refusal_line 10 number) cut_so.0 cut_so.1 refl

  -- ---- a line that was ended

  module _ (end : ℕ) (here : end ≡ place + line_length left) (more : end < length text) where
    -- what the line's bytes do
    abbrev taken : Outcome S (List ℕ)
    taken = takes next (bytes_in (ended (take (line_length left) left)))

    next_so : walk_out takes number next (lines_of left)
        ≡ and_then taken.told number (walk_out takes (suc number) taken.state (lines_of (drop (line_length left + 1) left)))
    unfolding walk_out
    next_so = ap (walk_out takes number next) (lines_next left (omega (arith, length-drop place text)))

    next_end : walk_end takes number next (lines_of left) ≡ end_then taken.told number (walk_end takes (suc number) taken.state (lines_of (drop (line_length left + 1) left)))
    unfolding walk_end
    next_end = ap (walk_end takes number next) (lines_next left (omega (arith, length-drop place text)))

    -- there is room for what the line writes
    line_fits : (t : Told (List ℕ)) (rest : List ℕ) → walk_out takes number next (lines_of left) ≡ and_then t number rest → at + length (out_of t) ≤ length out
    line_fits (done piece) rest e = omega (arith, last_room (piece ++ rest) e, length-append piece rest)
    line_fits (refused why p) rest e = omega (arith, last_room (refusal_line why number) e)

    module _ (f : Frame) (reads : f ≡ frame_for (held_in (take (end - place) left))) where
      pub walks_count : f.count ≤ 33
      walks_count = frame_count text place end f reads

      pub walks_same : takes next (held_by f) ≡ taken
      walks_same = frame_same text place end here (takes next) (reader.long next) f reads

      pub walks_room : at + length (out_of (takes next (held_by f)).told) ≤ length out
      walks_room = subst (λ o. at + length (out_of o.told) ≤ length out) (sym walks_same) (line_fits taken.told _ next_so)

      -- whether it was taken, and what it put
      module _ {good : _} (same : good ≡ is_taken (takes next (held_by f)).told) {r : ℕ} {out' : List ℕ} (put : Puts (out_of (takes next (held_by f)).told) at out r out') where
        taken_so : good ≡ is_taken taken.told
        taken_so = same ∙ ap (λ o. is_taken o.told) walks_same

        put_so : Puts (out_of taken.told) at out r out'
        put_so = subst (λ o. Puts (out_of o.told) at out r out') walks_same put

        none : good ≡ false → (p : ℕ) × (taken.told ≡ refused 10 p)
        none e = reader.tells next (bytes_in (ended (take (line_length left) left))) (sym taken_so ∙ e)

        refused_line : good ≡ false → walk_out takes number next (lines_of left) ≡ refusal_line 10 number
        refused_line e =
            next_so ∙ ap (λ t. and_then t number (walk_out takes (suc number) taken.state (lines_of (drop (line_length left + 1) left)))) (none e).1

        refused_end : good ≡ false → walk_end takes number next (lines_of left) ≡ refused 10 number
        refused_end e =
            next_end ∙ ap (λ t. end_then t number (walk_end takes (suc number) taken.state (lines_of (drop (line_length left + 1) left)))) (none e).1

        -- a line that was refused leaves the buffer as it was
        unchanged : good ≡ false → out' ≡ out
        unchanged e = put_so.bytes ∙ ap (λ t. placed at (out_of t) out) (none e).1 ∙ placed_none out at

        pub walks_refusal_room : good ≡ false → at + 13 ≤ length out'
        walks_refusal_room e =
            omega (arith, last_room (refusal_line 10 number) (refused_line e), refusal_length 10 number, ap length (unchanged e))

        pub walks_refused : good ≡ false → {r' : Replayed} {out'' : List ℕ} → Ends (refusal_line 10 number) (refused 10 number) at out' r' out''
            → Ends whole told 0 out₀ r' out''
        walks_refused e = last (refusal_line 10 number) (refused_line e) (refused_end e) (unchanged e)

        pub walks_more : good ≡ true → (after : S) → after ≡ (takes next (held_by f)).state → Walks takes text whole told out₀ out' after (number + 1) r (end + 1)
        walks_more e after goes =
            record {
              within = omega arith;
              short = w.short;
              few = omega (arith, w.few);
              room = w.room;
              fills =
                  subst (λ xs. Fills 0 whole out₀ r xs out') rest_so
                  (fills_more (out_of taken.told) rest (subst (λ xs. Fills 0 whole out₀ at xs out) split_so w.fills) fits put_so.answer put_so.bytes);
              ends =
                  ap (λ s. walk_end takes (number + 1) s (lines_of (drop (end + 1) text))) goes_so
                  ∙ sym (ap₂ (λ k xs. walk_end takes k taken.state (lines_of xs)) (sym (add-one number)) (after_line text place end here))
                  ∙ sym (next_end ∙ ends_on taken.told number _ (sym taken_so ∙ e))
                  ∙ w.ends;
            }
          where
            goes_so : after ≡ taken.state
            goes_so = goes ∙ ap (λ o. o.state) walks_same

            rest : List ℕ
            rest = walk_out takes (suc number) taken.state (lines_of (drop (line_length left + 1) left))

            split_so : walk_out takes number next (lines_of left) ≡ out_of taken.told ++ rest
            split_so = next_so ∙ goes_on taken.told number rest (sym taken_so ∙ e)

            fits : 0 + length whole ≤ length out₀
            fits = omega (arith, w.room)

            rest_so : rest ≡ walk_out takes (number + 1) after (lines_of (drop (end + 1) text))
            rest_so =
                ap₂ (λ k xs. walk_out takes k taken.state (lines_of xs)) (sym (add-one number)) (after_line text place end here)
                ∙ ap (λ s. walk_out takes (number + 1) s (lines_of (drop (end + 1) text))) (sym goes_so)
