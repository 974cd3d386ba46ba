-- The loop over a block: what is left of it steps to what the whole steps to, and what that writes fills what is left of the output.
-- `Goes` is the invariant of both kinds of streams.
--     next_byte                       the next byte, and those after it
--     goes_start                      the loop's start
--     goes_on, goes_last, goes_over   some bytes more; the last step; the block's end
-- Assumes nothing.
use Rattle.std.proofs.Common.{◌≡◌, ℕ, ◌+◌, ◌<◌, ◌≤◌, false, List, [], ◌++◌, length, get_or, drop, sym, refl, ap, ◌∙◌, subst, arith, drop_of_length-le}
use Rattle.base.proofs.Lent.{Fills, fills_start, fills_more}
use Rattle.base.proofs.Lists.{rest_is}
use Rattle.base.proofs.Picks.{pick_no}
use Rattle.streams.specs.declared.State.{State}
use Rattle.streams.specs.declared.Step.{Step}
use Rattle.streams.specs.Parts.{Steps}
use Rattle.streams.specs.Steps.{Stepped, going, then, steps}
use Rattle.streams.proofs.Stepping.{nothing_written}

module _ (by : State → ℕ → Stepped) where
  pub next_byte : (s : State) (bytes : List ℕ) (i : ℕ) → i < length bytes
      → steps by s (drop i bytes) ≡ then (by s (get_or bytes i 0)) (λ next. steps by next (drop (i + 1) bytes))
  unfolding steps
  next_byte s bytes i h = ap (steps by s) (rest_is bytes i 0 h)

  pub record Goes (s₀ : State) (bytes out₀ : List ℕ) (s : State) (at i : ℕ) (out : List ℕ) : Type 0 where
    pub within : i ≤ length bytes
    pub fills : Fills 0 (steps by s₀ bytes).out out₀ at (steps by s (drop i bytes)).out out
    pub state : (steps by s (drop i bytes)).state ≡ (steps by s₀ bytes).state
    pub over : (steps by s (drop i bytes)).over ≡ (steps by s₀ bytes).over

  pub goes_start : (s : State) (bytes out : List ℕ) → Goes s bytes out s 0 0 out
  goes_start s bytes out = record { within = omega arith; fills = fills_start 0 (steps by s bytes).out out; state = refl; over = refl }

  module _ {s₀ : State} {bytes out₀ : List ℕ} {s : State} {at i : ℕ} {out : List ℕ} (g : Goes s₀ bytes out₀ s at i out) where
    -- what is left is one last step
    pub goes_last : (x : Stepped) → steps by s (drop i bytes) ≡ x → {r : Step} {out' : List ℕ} → Steps x at out r out' → Steps (steps by s₀ bytes) 0 out₀ r out'
    goes_last x e made =
        let f = subst (λ y. Fills 0 (steps by s₀ bytes).out out₀ at y.out out) e g.fills in
        record {
          state = made.state ∙ sym (ap (λ y. y.state) e) ∙ g.state;
          over = made.over ∙ sym (ap (λ y. y.over) e) ∙ g.over;
          puts = record { answer = made.puts.answer ∙ f.count; bytes = made.puts.bytes ∙ f.bytes };
        }

    pub goes_over : length bytes ≤ i → Steps (steps by s₀ bytes) 0 out₀ (record { state = s; over = false; at = at }) out
    unfolding steps
    goes_over h = goes_last (going s []) (ap (steps by s) (drop_of_length-le bytes h)) (nothing_written at out refl)

    -- a step that goes on, up to a place
    module _ (x : Stepped) (j : ℕ) (before_end : j ≤ length bytes) (splits : steps by s (drop i bytes) ≡ then x (λ next. steps by next (drop j bytes)))
        (more : x.over ≡ false)
        (fits : 0 + length (steps by s₀ bytes).out ≤ length out₀) where
      abbrev left : State → Stepped
      left next = steps by next (drop j bytes)

      joined : steps by s (drop i bytes) ≡ record { state = (left x.state).state; over = (left x.state).over; out = x.out ++ (left x.state).out }
      joined = splits ∙ pick_no _ _ more

      pub goes_on : {r : Step} {out' : List ℕ} → Steps x at out r out' → Goes s₀ bytes out₀ r.state r.at j out'
      goes_on {r} {out'} made =
          record {
            within = before_end;
            fills =
                subst (λ t. Fills 0 (steps by s₀ bytes).out out₀ r.at (left t).out out') (sym made.state)
                (fills_more x.out (left x.state).out (subst (λ y. Fills 0 (steps by s₀ bytes).out out₀ at y.out out) joined g.fills) fits
                made.puts.answer made.puts.bytes);
            state = ap (λ t. (left t).state) made.state ∙ sym (ap (λ y. y.state) joined) ∙ g.state;
            over = ap (λ t. (left t).over) made.state ∙ sym (ap (λ y. y.over) joined) ∙ g.over;
          }
