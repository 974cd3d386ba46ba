-- Demand 1, the exact table, of a text of two wires: specs/WiresTexts.antt.
--     wires_exact                               what is answered is what the text's table says
--     wires_tells                               an output tells how its text ended
--     wires_replay_exact, wires_screen_exact    so what the output tells is what the table says, too
--     wires_output                              the whole output
-- Assumes nothing.
use mathlib.Core.Path.{◌≡◌, refl, ap, ap₂, sym, ◌∙◌}
use mathlib.Core.Bool.{Bool, true, false}
use mathlib.Core.Logic.{inl, inr}
use mathlib.Core.List.{List, [], ◌∷◌, ◌++◌, append_assoc}
use Prim.Native.Nat.{ℕ, suc, ◌+◌, ◌-◌, ◌≤◌, ◌<◌}
use native.Mathlib.Omega.{arith}
use borrow.Author.Tests.{leb-true, le-leb, lt-leb}
use lib.Dec.{leb}
use lib.ListN.{length, take, drop}
use Rattle.base.specs.Pick.{pick}
use Rattle.base.specs.Refusals.{Told, done, refused}
use Rattle.base.proofs.Picks.{pick_yes, pick_no, pick_cases}
use Rattle.base.proofs.Tests.{by_order}
use Rattle.ch450.specs.declared.Panel.{Panel}
use Rattle.ch450.specs.Commands.{told_at, is_read}
use Rattle.ch450.specs.Edges.{first_byte, second_byte}
use Rattle.ch450.specs.Panel.{power_on, lit_of}
use Rattle.ch450.specs.Samples.{stepped_panel, played}
use Rattle.lines.specs.Lines.{Line, lines_of, bytes_in, line_for, hex_of}
use Rattle.capture.specs.Reports.{refusal_line}
use Rattle.capture.specs.Replay.{and_then}
use Rattle.wires.specs.declared.Report.{Report}
use Rattle.wires.specs.declared.Report.TheVariants.{Commands, Screen}
use Rattle.wires.specs.Frames.{Begin, Form, samples, other, first_of, form_of}
use Rattle.wires.specs.Parts.{first_in}
use Rattle.wires.specs.Reports.{obeyed_lines}
use Rattle.wires.specs.Replay.{at_sample, written_by, taken, lines_out, after_first, all_out, output_of, line_end, lines_end, first_end, all_end, end_of}
use Rattle.demands.specs.Exact.{each, None, First, Exactly}
use Rattle.demands.specs.Texts.{output_tells}
use Rattle.demands.specs.WiresTexts.{SomePanelLine, WiresLine, wires_row, wires_rows, wires_table, samples_of, wrote_by, WiresOutput}
use Rattle.demands.proofs.ByTable.{ByTable, answered, here, later, by_table, tested}
use Rattle.demands.proofs.Conditions.{leb_tests}
use Rattle.demands.proofs.Outputs.{Plain, plain_none, plain_more, plain_line, refusal_tells, lines_length}
use Rattle.demands.proofs.Readings.{of_contract}
use Rattle.demands.proofs.WiresForms.{PanelView, gives, wrong, panel_view, WiresView, as_samples, as_none, wires_view}
use Rattle.std.specs.declared.option.Option.{Option}
use Rattle.std.specs.declared.option.Option.TheVariants.{Some}
use Rattle.std.specs.declared.option.Option.TheVariants as Options
use Rattle.ch450.specs.declared.Command.{Command}

-- ---- the answer

line_table : (line : ℕ) (l : Line) (ls : List Line) (form : Form) → WiresView l form
    → ByTable (lines_end (suc line) ls) (each wires_row (suc line) ls)
    → ByTable (line_end form line (lines_end (suc line) ls)) (each wires_row line (l ∷ ls))
line_table line l ls form (as_samples y) more = later (λ (f : WiresLine l → ⊥). f y) more
line_table line l ls form (as_none f) more = here f refl

lines_table : (line : ℕ) (ls : List Line) → ByTable (lines_end line ls) (each wires_row line ls)
unfolding lines_end
lines_table line [] = answered tt
lines_table line (l ∷ ls) = line_table line l ls (form_of (bytes_in l)) (wires_view l) (lines_table (suc line) ls)

first_table : (first : Line) (ls : List Line) (t : Told Begin) → PanelView first t → ByTable (first_end t ls) (wires_rows (first ∷ ls))
first_table first ls t (gives b y) =
    let so : (SomePanelLine first → ⊥) → ⊥ = λ f. f (b.key, b.digits, y) in
    later so (lines_table 2 ls)
first_table first ls t (wrong f) = here f refl

all_table : (ls : List Line) → ByTable (all_end ls) (wires_rows ls)
all_table [] = here tt refl
all_table (first ∷ ls) = first_table first ls (first_of (bytes_in first)) (panel_view first)

pub wires_exact : (text : List ℕ) → Exactly (end_of text) (wires_table text)
unfolding end_of
wires_exact text = by_table (tested (all_end (lines_of text)) (leb_tests (length text) 65536) (all_table (lines_of text)))

-- ---- what the output tells

plain_obeyed : (what : Report) (key first second : ℕ) (told : Option Command) (p : Panel) → Plain (obeyed_lines what key first second told p)
unfolding hex_of
plain_obeyed what key first second Options.None p = plain_none
plain_obeyed Commands key first second (Some command) p =
    plain_more (line_for (0x42 ∷ first ∷ second ∷ [])) (pick (is_read (Some command)) (line_for (0x43 ∷ key ∷ [])) [])
    (plain_line 0x42 (first ∷ second ∷ []) refl)
    (pick_cases Plain (is_read (Some command)) (λ e. plain_line 0x43 (key ∷ []) refl) (λ e. plain_none))
plain_obeyed Screen key first second (Some command) p = plain_line 0x44 (lit_of p) refl

plain_written : (what : Report) (key : ℕ) (ss : List ℕ) (p : Panel) → Plain (written_by what key ss p)
unfolding written_by
plain_written what key [] p = plain_none
plain_written what key (s ∷ ss) p =
    plain_more (at_sample what key s p) (written_by what key ss (stepped_panel s p))
    (plain_obeyed what key (first_byte p.wires) (second_byte p.wires) (told_at s p.wires) (stepped_panel s p))
    (plain_written what key ss (stepped_panel s p))

-- what an output tells
abbrev tells : List ℕ → Told (Unit {0})
tells out = output_tells (lines_of out)

module _ (what : Report) where
  line_tells_lem : (key line : ℕ) (p : Panel) (ls : List Line) (form : Form) → line < 4294967296
      → ((next : Panel) → tells (lines_out what key (suc line) next ls) ≡ lines_end (suc line) ls)
      → tells (and_then (taken what key p form).told line (lines_out what key (suc line) (taken what key p form).state ls))
      ≡ line_end form line (lines_end (suc line) ls)
  line_tells_lem key line p ls (samples ss) few more = plain_written what key ss p _ ∙ more (played ss p)
  line_tells_lem key line p ls other few more = refusal_tells 10 line (omega arith) few

  lines_tell : (key line : ℕ) (p : Panel) (ls : List Line) → line + length ls < 4294967296 → tells (lines_out what key line p ls) ≡ lines_end line ls
  unfolding lines_of lines_out lines_end
  lines_tell key line p [] few = refl
  lines_tell key line p (l ∷ ls) few =
      line_tells_lem key line p ls (form_of (bytes_in l)) (omega arith) (λ next. lines_tell key (suc line) next ls (omega arith))

  first_tells : (first : Line) (ls : List Line) (t : Told Begin) → PanelView first t → length ls ≤ 65536 → tells (after_first what t ls) ≡ first_end t ls
  first_tells first ls t (gives b y) few = lines_tell b.key 2 (power_on b.digits) ls (omega arith)
  first_tells first ls t (wrong f) few = refusal_tells 10 1 (omega arith) (omega arith)

  all_tell : (ls : List Line) → length ls ≤ 65536 → tells (all_out what ls) ≡ all_end ls
  all_tell [] few = refusal_tells 10 1 (omega arith) (omega arith)
  all_tell (first ∷ ls) few = first_tells first ls (first_of (bytes_in first)) (panel_view first) (omega arith)

  pub wires_tells : (text : List ℕ) → output_tells (lines_of (output_of what text)) ≡ end_of text
  unfolding output_of end_of
  wires_tells text = go (leb (length text) 65536) refl
    where
      go : (t : Bool) → leb (length text) 65536 ≡ t
          → tells (pick t (all_out what (lines_of text)) (refusal_line 11 0)) ≡ pick t (all_end (lines_of text)) (refused 11 0)
      go true e =
          let few : length text ≤ 65536 = leb-true (length text) 65536 e in
          all_tell (lines_of text) (omega (arith, lines_length text))
      go false e = refusal_tells 11 0 (omega arith) (omega arith)

-- the commands obeyed and the code read
pub wires_replay_exact : (text : List ℕ) → Exactly (output_tells (lines_of (output_of Commands text))) (wires_table text)
wires_replay_exact text = of_contract (wires_tells Commands text) (wires_exact text)

-- the segments lit
pub wires_screen_exact : (text : List ℕ) → Exactly (output_tells (lines_of (output_of Screen text))) (wires_table text)
wires_screen_exact text = of_contract (wires_tells Screen text) (wires_exact text)

-- ---- the whole output

module _ (what : Report) (key : ℕ) where
  -- samples, and then others
  written_append : (xs ys : List ℕ) (p : Panel) → written_by what key (xs ++ ys) p ≡ written_by what key xs p ++ written_by what key ys (played xs p)
  unfolding written_by played
  written_append [] ys p = refl
  written_append (s ∷ xs) ys p =
      ap (λ out. at_sample what key s p ++ out) (written_append xs ys (stepped_panel s p))
      ∙ sym (append_assoc (at_sample what key s p) (written_by what key xs (stepped_panel s p)) (written_by what key ys (played xs (stepped_panel s p))))

  -- a line's samples, and those of the lines after it
  line_first : (l : Line) (ls : List Line) (p : Panel)
      → written_by what key (samples_of (l ∷ ls)) p
      ≡ written_by what key (drop 1 (bytes_in l)) p ++ written_by what key (samples_of ls) (played (drop 1 (bytes_in l)) p)
  unfolding samples_of
  line_first l ls p = written_append (drop 1 (bytes_in l)) (samples_of ls) p

  -- one line, and what the lines after it come to
  line_out : (line : ℕ) (p : Panel) (l : Line) (ls : List Line) (form : Form) (rest : List ℕ) → WiresView l form → ((WiresLine l → ⊥) → ⊥)
      → lines_out what key (suc line) (played (drop 1 (bytes_in l)) p) ls ≡ rest
      → and_then (taken what key p form).told line (lines_out what key (suc line) (taken what key p form).state ls)
      ≡ written_by what key (drop 1 (bytes_in l)) p ++ rest
  line_out line p l ls form rest (as_samples y) f e = ap (λ out. written_by what key (drop 1 (bytes_in l)) p ++ out) e
  line_out line p l ls form rest (as_none g) f e = absurd (f g)

  -- a line of no form
  line_none : (line : ℕ) (p : Panel) (l : Line) (ls : List Line) (form : Form) → WiresView l form → (WiresLine l → ⊥)
      → and_then (taken what key p form).told line (lines_out what key (suc line) (taken what key p form).state ls) ≡ refusal_line 10 line
  line_none line p l ls form (as_samples y) f = absurd (f y)
  line_none line p l ls form (as_none g) f = refl

  -- no line, no output
  no_line : (p : Panel) → written_by what key (samples_of []) p ≡ []
  unfolding samples_of written_by
  no_line p = refl

  lines_none : (line : ℕ) (p : Panel) (ls : List Line) → None (each wires_row line ls) → lines_out what key line p ls ≡ written_by what key (samples_of ls) p
  unfolding lines_out
  lines_none line p [] y = sym (no_line p)
  lines_none line p (l ∷ ls) y =
      line_out line p l ls (form_of (bytes_in l)) (written_by what key (samples_of ls) (played (drop 1 (bytes_in l)) p)) (wires_view l) y.0
      (lines_none (suc line) (played (drop 1 (bytes_in l)) p) ls y.1)
      ∙ sym (line_first l ls p)

  -- the line that is named is none before these
  named_least : (line : ℕ) (ls : List Line) (number place : ℕ) → First (each wires_row line ls) number place → line ≤ place
  named_least line [] number place f = absurd f
  named_least line (l ∷ ls) number place (inl f) = let e = f.2 in omega arith
  named_least line (l ∷ ls) number place (inr f) = let h = named_least (suc line) ls number place f.1 in omega arith

  lines_refusal : (line : ℕ) (p : Panel) (ls : List Line) (number place : ℕ) → First (each wires_row line ls) number place
      → lines_out what key line p ls ≡ written_by what key (samples_of (take (place - line) ls)) p ++ refusal_line number place
  unfolding lines_out
  lines_refusal line p [] number place f = absurd f
  lines_refusal line p (l ∷ ls) number place (inl f) =
      let e = f.2 in
      let z : place - line ≡ 0 = omega arith in
      line_none line p l ls (form_of (bytes_in l)) (wires_view l) f.0
      ∙ ap₂ refusal_line f.1 e
      ∙ sym (ap (λ out. out ++ refusal_line number place) (ap (λ k. written_by what key (samples_of (take k (l ∷ ls))) p) z ∙ no_line p))
  lines_refusal line p (l ∷ ls) number place (inr f) =
      let h = named_least (suc line) ls number place f.1 in
      let z : place - line ≡ suc (place - suc line) = omega arith in
      let next = played (drop 1 (bytes_in l)) p in
      let mine = written_by what key (drop 1 (bytes_in l)) p in
      let theirs = written_by what key (samples_of (take (place - suc line) ls)) next in
      line_out line p l ls (form_of (bytes_in l)) (theirs ++ refusal_line number place) (wires_view l) f.0
      (lines_refusal (suc line) next ls number place f.1)
      ∙ sym (append_assoc mine theirs (refusal_line number place))
      ∙ sym (ap (λ out. out ++ refusal_line number place)
      (ap (λ k. written_by what key (samples_of (take k (l ∷ ls))) p) z ∙ line_first l (take (place - suc line) ls) p))

module _ (what : Report) where
  first_refusal : (first : Line) (ls : List Line) (t : Told Begin) → PanelView first t → (number place : ℕ) → First (wires_rows (first ∷ ls)) number place
      → after_first what t ls ≡ wrote_by what t (take (place - 2) ls) ++ refusal_line number place
  first_refusal first ls t (gives b y) number place (inl f) = absurd (f.0 (b.key, b.digits, y))
  first_refusal first ls t (gives b y) number place (inr f) = lines_refusal what b.key 2 (power_on b.digits) ls number place f.1
  first_refusal first ls t (wrong g) number place (inl f) = ap₂ refusal_line f.1 f.2
  first_refusal first ls t (wrong g) number place (inr f) = absurd (f.0 g)

  first_none : (first : Line) (ls : List Line) (t : Told Begin) → PanelView first t → None (wires_rows (first ∷ ls)) → after_first what t ls ≡ wrote_by what t ls
  first_none first ls t (gives b y) n = lines_none what b.key 2 (power_on b.digits) ls n.1
  first_none first ls t (wrong g) n = absurd (n.0 g)

  all_refusal : (ls : List Line) (number place : ℕ) → First (wires_rows ls) number place
      → all_out what ls ≡ wrote_by what (first_in ls) (take (place - 2) (drop 1 ls)) ++ refusal_line number place
  all_refusal [] number place (inl f) = ap₂ refusal_line f.1 f.2
  all_refusal [] number place (inr f) = absurd f.1
  all_refusal (first ∷ ls) number place f = first_refusal first ls (first_of (bytes_in first)) (panel_view first) number place f

  all_none : (ls : List Line) → None (wires_rows ls) → all_out what ls ≡ wrote_by what (first_in ls) (drop 1 ls)
  all_none [] n = absurd (n.0 tt)
  all_none (first ∷ ls) n = first_none first ls (first_of (bytes_in first)) (panel_view first) n

  within : (text : List ℕ) → (65536 < length text → ⊥) → output_of what text ≡ all_out what (lines_of text)
  unfolding output_of
  within text f = pick_yes _ _ (le-leb (length text) 65536 (by_order (length text) 65536 (λ h. h) (λ h. absurd (f h))))

  -- before line 1, or none, nothing was written
  nothing_yet : (t : Told Begin) (ls : List Line) → wrote_by what t (take (0 - 2) ls) ≡ []
  nothing_yet (done b) ls = no_line what b.key (power_on b.digits)
  nothing_yet (refused number place) ls = refl

  text_refusal : (text : List ℕ) (number line : ℕ) → First (wires_table text) number line
      → output_of what text ≡ wrote_by what (first_in (lines_of text)) (take (line - 2) (drop 1 (lines_of text))) ++ refusal_line number line
  unfolding output_of
  text_refusal text number line (inl f) =
      let t = first_in (lines_of text) in
      let ls = drop 1 (lines_of text) in
      pick_no _ _ (lt-leb (length text) 65536 f.0)
      ∙ sym (ap (λ out. out ++ refusal_line 11 0) (nothing_yet t ls))
      ∙ ap₂ (λ k p. wrote_by what t (take (p - 2) ls) ++ refusal_line k p) f.1 f.2
  text_refusal text number line (inr f) = within text f.0 ∙ all_refusal (lines_of text) number line f.1

pub wires_output : (what : Report) (text : List ℕ) → WiresOutput what text
wires_output what text =
    record { refusal = text_refusal what text; answer = λ n. within what text n.0 ∙ all_none what (lines_of text) n.1 }
