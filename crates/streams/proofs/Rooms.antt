-- What a block writes always fits: bounds that depend on its length alone.
--     raw_byte_room, raw_room       a raw stream: at most 187 bytes for each of its own
--     held_few                      a line that is held has at most 33 bytes
--     text_room                     a text: at most 84 for each of its own and of the line that is held, and a refusal
-- Assumes nothing.
use Rattle.std.proofs.Common.{◌≡◌, ℕ, ◌+◌, ◌*◌, ◌%◌, ◌^◌, ◌≤◌, true, false, ◌&&◌, T, eqb, ltb, leb, List, [], ◌∷◌, length, take, sym, refl, subst, true≢false, mul-le-mul_right, arith, length-append, length-take, ltb-false, leb-true}
use native.Mathlib.Nat.{min-le_left}
use Rattle.base.specs.Refusals.{Told, done, refused}
use Rattle.base.proofs.Picks.{pick_cases}
use Rattle.chip.specs.declared.Chip.{Chip}
use Rattle.chain.specs.declared.Chain.{Chain}
use Rattle.chain.specs.Chain.{chip_count}
use Rattle.chain.proofs.Tested.{count_high}
use Rattle.lines.specs.Answers.{held_in}
use Rattle.lines.specs.Lines.{newline, all_hex}
use Rattle.lines.proofs.Lines.{bytes_length}
use Rattle.capture.specs.declared.Report.{Report}
use Rattle.capture.specs.Frames.{form_of, first_of}
use Rattle.capture.specs.Parts.{out_of}
use Rattle.capture.specs.Reports.{at_scan}
use Rattle.capture.specs.Replay.{taken}
use Rattle.capture.proofs.Reported.{refusal_length}
use Rattle.capture.proofs.Room.{at_scan_room, form_room}
use Rattle.capture.proofs.Taken.{width_most}
use Rattle.reads.specs.Reads.{is_sample}
use Rattle.reads.proofs.Sampling.{sampled_few}
use Rattle.streams.specs.declared.State.{State}
use Rattle.streams.specs.declared.held.Held.{Held}
use Rattle.streams.specs.Held.{grown_one, line_held}
use Rattle.streams.specs.Raw.{is_scan}
use Rattle.streams.specs.Steps.{Stepped, holding, first_taken, later_taken, line_ended, text_byte, raw_byte, item_byte, head_byte, then, steps}
use Rattle.streams.proofs.Refusals.{raw_refusal_length}

-- ---- a raw stream

module _ (what : Report) where
  scan_room_lem : (k : ℕ) (bytes : List ℕ) (c : Chip) → length (at_scan what k bytes c) ≤ 187
  scan_room_lem k bytes c = omega (arith, at_scan_room what k bytes c, width_most what)

  item_room : (s : State) (b : ℕ) → chip_count s.n ≡ true → length (item_byte what s b).out ≤ 187
  item_room s b count =
      pick_cases (λ (x : Stepped). length x.out ≤ 187) (eqb s.held.count 0)
      (λ _. pick_cases (λ (x : Stepped). length x.out ≤ 187) (is_sample b) (λ _. sampled_few what s.n count s.place b s.chain s.reader)
      (λ _. pick_cases (λ (x : Stepped). length x.out ≤ 187) (is_scan s.n b) (λ _. omega arith) (λ _. omega (arith, raw_refusal_length s.place))))
      (λ _. pick_cases (λ (x : Stepped). length x.out ≤ 187) (ltb s.held.count 8) (λ _. omega arith)
      (λ _. scan_room_lem _ _ _))

  head_room : (s : State) (b : ℕ) → length (head_byte s b).out ≤ 187
  head_room s b =
      pick_cases (λ (x : Stepped). length x.out ≤ 187) (ltb s.held.count 2)
      (λ _. pick_cases (λ (x : Stepped). length x.out ≤ 187) (eqb b s.held.count) (λ _. omega arith) (λ _. omega (arith, raw_refusal_length s.place)))
      (λ _. pick_cases (λ (x : Stepped). length x.out ≤ 187) (chip_count b) (λ _. omega arith) (λ _. omega (arith, raw_refusal_length s.place)))

  pub raw_byte_room : (s : State) (b : ℕ) → length (raw_byte what s b).out ≤ 187
  unfolding raw_byte
  raw_byte_room s b = pick_cases (λ (x : Stepped). length x.out ≤ 187) (chip_count s.n) (λ e. item_room s b e) (λ _. head_room s b)

  pub raw_room : (s : State) (bytes : List ℕ) → length (steps (raw_byte what) s bytes).out ≤ 187 * length bytes
  unfolding steps
  raw_room s [] = omega arith
  raw_room s (b ∷ bytes) =
      let x = raw_byte what s b in
      let one = raw_byte_room s b in
      let more = raw_room x.state bytes in
      pick_cases (λ (y : Stepped). length y.out ≤ 187 * length (b ∷ bytes)) x.over (λ _. omega arith)
      (λ _. omega (arith, length-append x.out (steps (raw_byte what) x.state bytes).out))

-- ---- a text: a line that ends

held_length : (cs : List ℕ) → 2 * length (held_in cs) ≤ length cs
held_length cs =
    pick_cases (λ bytes. 2 * length bytes ≤ length cs) (leb (length cs) 66)
    (λ _. pick_cases (λ bytes. 2 * length bytes ≤ length cs) (all_hex cs && eqb (length cs % 2) 0) (λ _. bytes_length cs) (λ _. omega arith)) (λ _. omega arith)

-- a line that is held has half as many bytes as characters
held_half : (h : Held) → 2 * length (line_held h) ≤ h.count
held_half h =
    pick_cases (λ bytes. 2 * length bytes ≤ h.count) (leb h.count 66)
    (λ _. omega (arith, held_length (take h.count h.bytes), length-take h.count h.bytes, min-le_left h.count (length h.bytes)))
    (λ _. omega arith)

-- and at most 33
pub held_few : (h : Held) → 2 * length (line_held h) ≤ 66
held_few h =
    pick_cases (λ bytes. 2 * length bytes ≤ 66) (leb h.count 66)
    (λ e. let few = leb-true h.count 66 e in
    omega (arith, held_length (take h.count h.bytes), length-take h.count h.bytes, min-le_left h.count (length h.bytes)))
    (λ _. omega arith)

-- a step that writes at most so much, and where it is refused a refusal
abbrev Within : ℕ → Stepped → Type 0
Within m x = (length x.out ≤ m + 13) × (x.over ≡ false → length x.out ≤ m)

first_within : (s : State) (t : Told ℕ) (m : ℕ) → Within m (first_taken s t)
first_within s (done n) m = (omega arith, λ _. omega arith)
first_within s (refused number place) m = (omega (arith, refusal_length 10 s.place), λ e. absurd (true≢false e))

later_within : (s : State) (ch : Chain) (t : Told (List ℕ)) (m : ℕ) → length (out_of t) ≤ m → Within m (later_taken s ch t)
later_within s ch (done out) m h = (omega arith, λ _. h)
later_within s ch (refused number place) m h = (omega (arith, refusal_length 10 s.place), λ e. absurd (true≢false e))

ended_within : (what : Report) (s : State) (m : ℕ) → 2 * length (line_held s.held) ≤ m → Within (42 * m) (line_ended what s)
ended_within what s m h =
    pick_cases (Within (42 * m)) (chip_count s.n)
    (λ e. let few = count_high s.n (subst T (sym e) tt) in
    let t = taken what s.n s.chain (form_of s.n (line_held s.held)) in
    let fits : length (out_of t.told) ≤ 42 * m =
    omega (arith, form_room what s.n s.chain few m (line_held s.held) h, mul-le-mul_right m (width_most what))
    in
    later_within s t.state t.told (42 * m) fits)
    (λ _. first_within s (first_of (line_held s.held)) (42 * m))

-- where it goes on, nothing is held
first_empty : (s : State) (t : Told ℕ) → (first_taken s t).over ≡ false → (first_taken s t).state.held.count ≡ 0
first_empty s (done n) e = refl
first_empty s (refused number place) e = absurd (true≢false e)

later_empty : (s : State) (ch : Chain) (t : Told (List ℕ)) → (later_taken s ch t).over ≡ false → (later_taken s ch t).state.held.count ≡ 0
later_empty s ch (done out) e = refl
later_empty s ch (refused number place) e = absurd (true≢false e)

ended_empty : (what : Report) (s : State) → (line_ended what s).over ≡ false → (line_ended what s).state.held.count ≡ 0
ended_empty what s =
    let t = taken what s.n s.chain (form_of s.n (line_held s.held)) in
    pick_cases (λ (x : Stepped). x.over ≡ false → x.state.held.count ≡ 0) (chip_count s.n) (λ _. later_empty s t.state t.told)
    (λ _. first_empty s (first_of (line_held s.held)))

-- ---- a text

-- what is held grows by one at most
grown_count : (h : Held) (b : ℕ) → (grown_one h b).count ≤ h.count + 1
grown_count h b =
    pick_cases (λ (g : Held). g.count ≤ h.count + 1) (ltb h.count 66) (λ _. omega arith) (λ e. let full = ltb-false h.count 66 e in omega arith)

-- a step, and then more
then_room : (x : Stepped) (rest : State → Stepped) (m k : ℕ) → Within m x → (x.over ≡ false → length (rest x.state).out ≤ k + 13)
    → length (then x rest).out ≤ m + k + 13
then_room x rest m k w more =
    pick_cases (λ (y : Stepped). length y.out ≤ m + k + 13) x.over (λ e. omega (arith, w.0))
    (λ e. omega (arith, w.1 e, more e, length-append x.out (rest x.state).out))

module _ (what : Report) where
  -- one byte, and then the rest
  byte_room : (s : State) (b : ℕ) (rest : State → Stepped) (m k : ℕ)
      → 2 * length (line_held s.held) ≤ m
      → ((next : State) → next.held.count ≡ 0 → length (rest next).out ≤ 42 * k + 13)
      → (length (rest (holding s.place b s)).out ≤ 42 * (m + k) + 13)
      → length (then (text_byte what s b) rest).out ≤ 42 * (m + k) + 13
  unfolding text_byte
  byte_room s b rest m k h empty held =
      pick_cases (λ (x : Stepped). length (then x rest).out ≤ 42 * (m + k) + 13) (ltb s.place (2 ^ 32))
      (λ _. pick_cases (λ (x : Stepped). length (then x rest).out ≤ 42 * (m + k) + 13) (eqb b newline)
      (λ _. let fits = then_room (line_ended what s) rest (42 * m) (42 * k) (ended_within what s m h) (λ e. empty (line_ended what s).state (ended_empty what s e)) in
      omega arith)
      (λ _. held))
      (λ _. omega (arith, refusal_length 11 0))

  line_room_lem : (s : State) (bytes : List ℕ) → length (steps (text_byte what) s bytes).out ≤ 42 * (s.held.count + length bytes) + 13
  unfolding steps
  line_room_lem s [] = omega arith
  line_room_lem s (b ∷ bytes) =
      let more = line_room_lem (holding s.place b s) bytes in
      let fits =
      byte_room s b (λ next. steps (text_byte what) next bytes) (s.held.count + 1) (length bytes) (omega (arith, held_half s.held))
      (λ next e. omega (arith, line_room_lem next bytes)) (omega (arith, more, grown_count s.held b))
      in
      omega arith

  pub text_room : (s : State) (bytes : List ℕ) → length (steps (text_byte what) s bytes).out ≤ 42 * (66 + length bytes) + 13
  unfolding steps
  text_room s [] = omega arith
  text_room s (b ∷ bytes) =
      let more = text_room (holding s.place b s) bytes in
      let fits =
      byte_room s b (λ next. steps (text_byte what) next bytes) 66 (length bytes) (held_few s.held)
      (λ next e. omega (arith, line_room_lem next bytes)) more
      in
      omega arith
