-- An output always fits: a command takes 19 rises, each a sample of its own, and writes at most 15 bytes. So what samples write, and the
-- rises counted after them, are no more than the samples and the rises before.
--     screen_length, obeyed_room            the line of the segments lit, and what an obeyed command writes
--     sample_room_lem, samples_room             what one sample and what samples write
--     line_room_lem, lines_room, output_room    one line, all after the first, and the whole
-- Assumes nothing.
use mathlib.Core.Path.{◌≡◌, refl, ap, sym, subst, ◌∙◌}
use mathlib.Core.Bool.{Bool, true, false, ◌&&◌}
use mathlib.Core.List.{List, [], ◌∷◌}
use Prim.Native.Nat.{ℕ, suc, ◌+◌, ◌*◌, ◌/◌, ◌≤◌}
use native.Mathlib.Omega.{arith}
use borrow.Author.Tests.{leb-true, eqb-true}
use lib.Dec.{T, eqb, leb, ltb}
use lib.ListN.{length, get_or, drop, length-append, length-drop}
use Rattle.base.specs.Pick.{pick}
use Rattle.base.specs.Refusals.{Told, done, refused}
use Rattle.base.proofs.Picks.{pick_yes, pick_cases}
use Rattle.base.proofs.Tests.{is_true, and_left, and_right}
use Rattle.capture.specs.Parts.{out_of}
use Rattle.capture.specs.Replay.{and_then}
use Rattle.capture.specs.Reports.{refusal_line}
use Rattle.capture.proofs.Reported.{refusal_length}
use Rattle.capture.proofs.Room.{bytes_room, chars_more}
use Rattle.ch450.specs.declared.Panel.{Panel}
use Rattle.ch450.specs.declared.Wires.{Wires}
use Rattle.ch450.specs.Commands.{told_at, is_read}
use Rattle.ch450.specs.Edges.{starts, stops, takes, begun, at_rest, taken as taken_bit, seen, stepped, completes, first_byte, second_byte}
use Rattle.ch450.specs.Panel.{lit_of, power_on}
use Rattle.ch450.specs.Samples.{stepped_panel, played}
use Rattle.ch450.proofs.Silent.{step_wires, step_digits, told_nothing}
use Rattle.lines.specs.Lines.{Line, lines_of, bytes_in, line_for}
use Rattle.lines.proofs.Lines.{chars_in, chars_in_lem}
use Rattle.lines.proofs.Puts.{line_for_length}
use Rattle.wires.specs.declared.Report.{Report}
use Rattle.wires.specs.declared.Report.TheVariants.{Commands, Screen}
use Rattle.wires.specs.Frames.{Begin, Form, is_samples, form_of, first_of}
use Rattle.wires.specs.Reports.{command_lines, screen_line, obeyed_lines}
use Rattle.wires.specs.Replay.{at_sample, written_by, taken, lines_out, after_first, all_out, output_of}
use Rattle.wires.proofs.Walked.{samples_long, takes_line}
use Rattle.std.specs.declared.option.Option.{Option}
use Rattle.std.specs.declared.option.Option.TheVariants.{Some, None}
use Rattle.ch450.specs.declared.Command.{Command}

-- ---- one command

lit_length : (p : Panel) → length p.digits ≡ 6 → length (lit_of p) ≡ 6
unfolding lit_of
lit_length p six =
    pick_cases (λ (ds : List ℕ). length ds ≡ 6) p.settings.sleep (λ _. refl) (λ _. pick_cases (λ (ds : List ℕ). length ds ≡ 6) p.settings.disp (λ _. six) (λ _. refl))

pub screen_length : (p : Panel) → length p.digits ≡ 6 → length (screen_line p) ≡ 15
screen_length p six = omega (arith, line_for_length (0x44 ∷ lit_of p), lit_length p six)

command_length : (key first second : ℕ) (read : Bool) → length (command_lines key first second read) ≤ 12
command_length key first second read =
    omega
    (arith, length-append (line_for (0x42 ∷ first ∷ second ∷ [])) (pick read (line_for (0x43 ∷ key ∷ [])) []), line_for_length (0x42 ∷ first ∷ second ∷ []), code)
  where
    code : length (pick read (line_for (0x43 ∷ key ∷ [])) []) ≤ 5
    code = pick_cases (λ piece. length piece ≤ 5) read {x = line_for (0x43 ∷ key ∷ [])} {y = []} (λ _. omega (arith, line_for_length (0x43 ∷ key ∷ []))) (λ _. omega arith)

pub obeyed_room : (what : Report) (key first second : ℕ) (told : Option Command) (p : Panel) → length p.digits ≡ 6
    → length (obeyed_lines what key first second told p) ≤ 15
obeyed_room what key first second None p six = omega arith
obeyed_room Commands key first second (Some command) p six =
    omega (arith, command_length key first second (is_read (Some command)))
obeyed_room Screen key first second (Some command) p six = omega (arith, screen_length p six)

-- ---- one sample

-- at a stop no rise is counted any more
stop_rises : (s : ℕ) (w : Wires) → stops w.levels s ≡ true → (stepped s w).rises ≡ 0
unfolding stepped
stop_rises s w e =
    pick_cases (λ (v : Wires). v.rises ≡ 0) (starts w.levels s) (λ _. refl)
    (λ _. ap (λ (v : Wires). v.rises) (pick_yes (at_rest s) (pick (takes s w) (taken_bit s w) (seen s w)) e))

-- at any sample at most one more
step_rises : (s : ℕ) (w : Wires) → (stepped s w).rises ≤ w.rises + 1
unfolding stepped
step_rises s w =
    pick_cases P (starts w.levels s) {x = begun s} (λ _. omega arith)
    (λ _. pick_cases P (stops w.levels s) {x = at_rest s} (λ _. omega arith)
    (λ _. pick_cases P (takes s w) {x = taken_bit s w} {y = seen s w}
    (λ _. pick_cases (λ n. n ≤ w.rises + 1) (ltb w.rises 20) {x = suc w.rises} {y = w.rises} (λ _. omega arith) (λ _. omega arith))
    (λ _. omega arith)))
  where
    P : Wires → Type 0
    P v = v.rises ≤ w.rises + 1

-- a command is completed after 19 rises, at a stop
completed : (s : ℕ) (w : Wires) → completes s w ≡ true → (w.rises ≡ 19) × (stops w.levels s ≡ true)
unfolding completes
completed s w e =
    let running = w.running in
    let enough = eqb w.rises 19 in
    let stop = stops w.levels s in
    let all : T (running && enough && stop) = subst T (sym e) tt in
    (eqb-true w.rises 19 (is_true enough (and_right running enough (and_left (running && enough) stop all))), is_true stop (and_right (running && enough) stop all))

module _ (what : Report) (key : ℕ) where
  pub sample_room_lem : (s : ℕ) (p : Panel) → length p.digits ≡ 6
      → length (at_sample what key s p) + (stepped_panel s p).wires.rises ≤ p.wires.rises + 1
  sample_room_lem s p six = go (completes s p.wires) refl
    where
      same : (stepped_panel s p).wires.rises ≡ (stepped s p.wires).rises
      same = ap (λ (w : Wires). w.rises) (step_wires s p)

      go : (b : Bool) → completes s p.wires ≡ b → length (at_sample what key s p) + (stepped_panel s p).wires.rises ≤ p.wires.rises + 1
      go true e =
          let c = completed s p.wires e in
          omega
          (arith, c.0, same, stop_rises s p.wires c.1, obeyed_room what key (first_byte p.wires) (second_byte p.wires) (told_at s p.wires) (stepped_panel s p) (step_digits s p ∙ six))
      go false e =
          let none = ap (λ told. length (obeyed_lines what key (first_byte p.wires) (second_byte p.wires) told (stepped_panel s p))) (told_nothing s p.wires e) in
          omega (arith, none, same, step_rises s p.wires)

  -- ---- samples

  pub samples_room : (ss : List ℕ) (p : Panel) → length p.digits ≡ 6
      → (length (written_by what key ss p) + (played ss p).wires.rises ≤ length ss + p.wires.rises) × (length (played ss p).digits ≡ 6)
  unfolding written_by played
  samples_room [] p six = (omega arith, six)
  samples_room (s ∷ ss) p six =
      let more = samples_room ss (stepped_panel s p) (step_digits s p ∙ six) in
      (omega (arith, sample_room_lem s p six, more.0, length-append (at_sample what key s p) (written_by what key ss (stepped_panel s p))), more.1)

  -- ---- one line

  -- a line writes at most a byte for each two characters, the rises counted
  Within : ℕ → Panel → Form → Type 0
  Within m p form =
      (2 * (length (out_of (taken what key p form).told) + (taken what key p form).state.wires.rises) ≤ m + 2 * p.wires.rises)
      × (length (taken what key p form).state.digits ≡ 6)

  line_room_lem : (p : Panel) (l : Line) → length p.digits ≡ 6 → Within (chars_in (l ∷ [])) p (form_of (bytes_in l))
  unfolding Within
  line_room_lem p l six =
      pick_cases (λ form. Within (chars_in (l ∷ [])) p form) (is_samples (bytes_in l))
      (λ e.
      let r = samples_room (drop 1 (bytes_in l)) p six in
      let long = samples_long (bytes_in l) e in
      (omega (arith, r.0, bytes_room l, length-drop 1 (bytes_in l), long.0), r.1))
      (λ _. (omega arith, six))

  -- ---- lines

  then_room : (t : Told (List ℕ)) (line : ℕ) (rest : List ℕ) (a b : ℕ) → 2 * length (out_of t) + a ≤ b → 2 * length rest ≤ a + 26
      → 2 * length (and_then t line rest) ≤ b + 26
  then_room (done out) line rest a b h l = omega (arith, length-append out rest)
  then_room (refused number place) line rest a b h l = omega (arith, refusal_length number line)

  pub lines_room : (line : ℕ) (p : Panel) (ls : List Line) → length p.digits ≡ 6
      → 2 * length (lines_out what key line p ls) ≤ chars_in ls + 2 * p.wires.rises + 26
  unfolding lines_out chars_in Within
  lines_room line p [] six = omega arith
  lines_room line p (l ∷ ls) six =
      let t = takes_line what key p (bytes_in l) in
      let one = line_room_lem p l six in
      let more = lines_room (suc line) t.state ls one.1 in
      then_room t.told line (lines_out what key (suc line) t.state ls) (chars_in ls + 2 * t.state.wires.rises) (chars_in (l ∷ ls) + 2 * p.wires.rises)
      (omega (arith, one.0, chars_more l ls)) more

-- ---- the whole

-- a first line that is accepted gives six digits
Six : Told Begin → Type 0
Six (done b) = length b.digits ≡ 6
Six (refused number place) = Unit {0}

first_six : (bytes : List ℕ) → Six (first_of bytes)
unfolding first_of Six
first_six bytes =
    pick_cases Six (eqb (length bytes) 9 && eqb (get_or bytes 0 0) 0x40 && eqb (get_or bytes 1 0) 0x01 && leb (get_or bytes 2 0) 127)
    {x = done (record { key = get_or bytes 2 0; digits = drop 3 bytes })} {y = refused 10 0}
    (λ e.
    let nine = eqb (length bytes) 9 in
    let a = eqb (get_or bytes 0 0) 0x40 in
    let b = eqb (get_or bytes 1 0) 0x01 in
    let c = leb (get_or bytes 2 0) 127 in
    let long = eqb-true (length bytes) 9 (is_true nine (and_left nine a (and_left (nine && a) b (and_left (nine && a && b) c (subst T (sym e) tt))))) in
    omega (arith, length-drop 3 bytes))
    (λ _. tt)

after_room : (what : Report) (t : Told Begin) (ls : List Line) → Six t → 2 * length (after_first what t ls) ≤ chars_in ls + 26
unfolding Six
after_room what (done b) ls six = omega (arith, lines_room what b.key 2 (power_on b.digits) ls six)
after_room what (refused number place) ls six = omega (arith, refusal_length number 1)

all_room : (what : Report) (ls : List Line) → 2 * length (all_out what ls) ≤ chars_in ls + 26
all_room what [] = omega (arith, refusal_length 10 1)
all_room what (l ∷ ls) = omega (arith, after_room what (first_of (bytes_in l)) ls (first_six (bytes_in l)), chars_more l ls)

pub output_room : (what : Report) (text : List ℕ) → length (output_of what text) ≤ 65536 / 2 + 13
unfolding output_of
output_room what text =
    pick_cases (λ out. length out ≤ 65536 / 2 + 13) (leb (length text) 65536) {x = all_out what (lines_of text)} {y = refusal_line 11 0}
    (λ y. let few : length text ≤ 65536 = leb-true (length text) 65536 y in omega (arith, all_room what (lines_of text), chars_in_lem text))
    (λ _. omega (arith, refusal_length 11 0))
