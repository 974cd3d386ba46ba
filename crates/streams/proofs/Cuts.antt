-- A stream cut anywhere: bytes in two parts, and in blocks one after another, do what they do as one block.
--     then_then               a step, a second and a third, in either grouping
--     steps_append            bytes in two parts
--     fed_none                no bytes change nothing and write nothing
--     fed_cut                 a block cut in two
--     fed_all_lem                 blocks one after another do what the bytes joined do
-- Assumes nothing.
use Rattle.std.proofs.Common.{◌≡◌, ℕ, Bool, true, false, eqb, List, [], ◌∷◌, ◌++◌, sym, refl, ap, ◌∙◌, append_assoc, append-nil}
use Rattle.base.specs.Pick.{pick}
use Rattle.capture.specs.declared.Report.{Report}
use Rattle.streams.specs.declared.Kind.{Kind}
use Rattle.streams.specs.declared.Kind.TheVariants.{Unknown, Text, Raw, Over}
use Rattle.streams.specs.declared.State.{State}
use Rattle.streams.specs.declared.Stream.{Stream}
use Rattle.streams.specs.Cut.{joined, and_after, fed_all}
use Rattle.streams.specs.Steps.{Stepped, then, steps, after, placed_at, text_byte, raw_byte, fed_by, fed}

-- ---- steps

-- a second step's part of it
second_then : (out : List ℕ) (s : State) (over : Bool) (more : List ℕ) (g : State → Stepped)
    → then (record { state = s; over = over; out = out ++ more }) g
    ≡ record {
      state = (then (record { state = s; over = over; out = more }) g).state;
      over = (then (record { state = s; over = over; out = more }) g).over;
      out = out ++ (then (record { state = s; over = over; out = more }) g).out;
    }
second_then out s true more g = refl
second_then out s false more g =
    ap (λ o. record { state = (g s).state; over = (g s).over; out = o }) (append_assoc out more (g s).out)

first_then : (s : State) (over : Bool) (out : List ℕ) (f g : State → Stepped)
    → then (then (record { state = s; over = over; out = out }) f) g
    ≡ then (record { state = s; over = over; out = out }) (λ next. then (f next) g)
first_then s true out f g = refl
first_then s false out f g = second_then out (f s).state (f s).over (f s).out g

pub then_then : (x : Stepped) (f g : State → Stepped) → then (then x f) g ≡ then x (λ next. then (f next) g)
then_then x f g = first_then x.state x.over x.out f g

module _ (by : State → ℕ → Stepped) where
  pub steps_append : (s : State) (a b : List ℕ) → steps by s (a ++ b) ≡ then (steps by s a) (λ next. steps by next b)
  unfolding steps
  steps_append s [] b = refl
  steps_append s (c ∷ a) b =
      ap (then (by s c)) (λ i next. steps_append next a b i)
      ∙ sym (then_then (by s c) (λ next. steps by next a) (λ next. steps by next b))

-- ---- a block

-- what a text's or a raw stream's steps leave, in two parts: where the first was refused, the second does nothing
text_then : (what : Report) (s : State) (over : Bool) (out b : List ℕ)
    → after Text (then (record { state = s; over = over; out = out }) (λ next. steps (text_byte what) next b))
    ≡ and_after (after Text (record { state = s; over = over; out = out })) (λ next. fed what next b)
unfolding fed
text_then what s true out b = ap (λ o. record { stream = record { kind = Over; state = s }; out = o }) (sym (append-nil out))
text_then what s false out b = refl

raw_then : (what : Report) (s : State) (over : Bool) (out b : List ℕ)
    → after Raw (then (record { state = s; over = over; out = out }) (λ next. steps (raw_byte what) next b))
    ≡ and_after (after Raw (record { state = s; over = over; out = out })) (λ next. fed what next b)
unfolding fed
raw_then what s true out b = ap (λ o. record { stream = record { kind = Over; state = s }; out = o }) (sym (append-nil out))
raw_then what s false out b = refl

module _ (what : Report) where
  text_cut : (s : State) (a b : List ℕ)
      → after Text (steps (text_byte what) s (a ++ b)) ≡ and_after (after Text (steps (text_byte what) s a)) (λ next. fed what next b)
  text_cut s a b =
      let x = steps (text_byte what) s a in
      ap (after Text) (steps_append (text_byte what) s a b) ∙ text_then what x.state x.over x.out b

  raw_cut : (s : State) (a b : List ℕ)
      → after Raw (steps (raw_byte what) s (a ++ b)) ≡ and_after (after Raw (steps (raw_byte what) s a)) (λ next. fed what next b)
  raw_cut s a b =
      let x = steps (raw_byte what) s a in
      ap (after Raw) (steps_append (raw_byte what) s a b) ∙ raw_then what x.state x.over x.out b

  -- a first byte that tells the kind tells it of both parts
  told_cut : (raw : Bool) (s : State) (a b : List ℕ)
      → pick raw (after Raw (steps (raw_byte what) (placed_at 0 s) (a ++ b))) (after Text (steps (text_byte what) (placed_at 1 s) (a ++ b)))
      ≡ and_after (pick raw (after Raw (steps (raw_byte what) (placed_at 0 s) a)) (after Text (steps (text_byte what) (placed_at 1 s) a))) (λ next. fed what next b)
  told_cut true s a b = raw_cut (placed_at 0 s) a b
  told_cut false s a b = text_cut (placed_at 1 s) a b

  kind_cut : (kind : Kind) (s : State) (a b : List ℕ) → fed_by what kind s (a ++ b) ≡ and_after (fed_by what kind s a) (λ next. fed what next b)
  unfolding fed
  kind_cut Unknown s [] b = refl
  kind_cut Unknown s (c ∷ a) b = told_cut (eqb c 0x00) s (c ∷ a) b
  kind_cut Text s a b = text_cut s a b
  kind_cut Raw s a b = raw_cut s a b
  kind_cut Over s a b = refl

  -- a block cut in two, as one value
  after_cut : (s : Stream) (a b : List ℕ) → fed what s (a ++ b) ≡ and_after (fed what s a) (λ next. fed what next b)
  unfolding fed
  after_cut s a b = kind_cut s.kind s.state a b

  pub fed_cut : (s : Stream) (a b : List ℕ)
      → ((fed what s (a ++ b)).stream ≡ (fed what (fed what s a).stream b).stream) × ((fed what s (a ++ b)).out ≡ (fed what s a).out ++ (fed what (fed what s a).stream b).out)
  fed_cut s a b = (ap (λ x. x.stream) (after_cut s a b), ap (λ x. x.out) (after_cut s a b))

  -- ---- blocks

  none_by : (kind : Kind) (s : State) → fed_by what kind s [] ≡ record { stream = record { kind = kind; state = s }; out = [] }
  unfolding steps
  none_by Unknown s = refl
  none_by Text s = refl
  none_by Raw s = refl
  none_by Over s = refl

  pub fed_none : (s : Stream) → fed what s [] ≡ record { stream = s; out = [] }
  unfolding fed
  fed_none s = none_by s.kind s.state

  pub fed_all_lem : (s : Stream) (blocks : List (List ℕ)) → fed_all what s blocks ≡ fed what s (joined blocks)
  unfolding fed_all joined
  fed_all_lem s [] = sym (fed_none s)
  fed_all_lem s (block ∷ blocks) =
      ap (and_after (fed what s block)) (λ i next. fed_all_lem next blocks i) ∙ sym (after_cut s block (joined blocks))
