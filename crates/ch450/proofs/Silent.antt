-- Samples that complete no command: the wires move by themselves, and nothing else changes. And samples one block after another.
--     no_stop                                      a sample that is no stop completes nothing
--     told_nothing                                 such a sample tells nothing
--     silent_step, silent_reads_key                one such sample touches the wires alone, and reads no key
--     silent_played, silent_reads                  so do any number of them
--     silent_take, silent_append                   a beginning of them, and two blocks of them
--     moved_append, played_append, reads_append    two blocks, one after the other
--     obeyed_wires, obeyed_digits                  what is obeyed doesn't look at the wires, leaves them, and leaves as many digits
--     step_wires, step_digits                      so does a sample: its wires are the moved ones
--     stepped_levels                               after a sample the levels are the sample
-- Assumes nothing.
use mathlib.Core.Path.{◌≡◌, refl, ap, ap₂, sym, ◌∙◌}
use mathlib.Core.Bool.{Bool, true, false, ◌&&◌}
use mathlib.Core.List.{List, [], ◌∷◌, ◌++◌}
use Prim.Native.Nat.{ℕ, zero, suc, ◌+◌, ◌-◌}
use native.Mathlib.Nat.{zero-add, add_assoc}
use lib.Dec.{eqb}
use lib.ListN.{length, take, set, length-set}
use Rattle.base.specs.Bits.{bit_value}
use Rattle.base.proofs.Picks.{pick_no, pick_cases}
use Rattle.ch450.specs.declared.Panel.{Panel}
use Rattle.ch450.specs.declared.Wires.{Wires}
use Rattle.ch450.specs.declared.Command.TheVariants.{Parameters, LoadDigit, ReadKey}
use Rattle.ch450.specs.Edges.{stops, stepped, completes, first_byte, second_byte, starts, takes, begun, at_rest, taken, seen}
use Rattle.ch450.specs.Panel.{with_wires}
use Rattle.ch450.specs.Commands.{is_digit, meaning_of, told_at, is_read, applied, obeyed}
use Rattle.ch450.specs.Samples.{stepped_panel, played, reads_in}
use Rattle.std.specs.declared.option.Option.{Option}
use Rattle.std.specs.declared.option.Option.TheVariants.{Some, None}
use Rattle.ch450.specs.declared.Command.{Command}

-- the wires after samples, by themselves
unfoldable pub moved : List ℕ → Wires → Wires
moved [] w = w
moved (s ∷ ss) w = moved ss (stepped s w)

-- no sample completes a command
unfoldable pub Silent : List ℕ → Wires → Type 0
Silent [] w = Unit {0}
Silent (s ∷ ss) w = (completes s w ≡ false) × Silent ss (stepped s w)

-- ---- one sample

-- the last test fails
and_no : (a : Bool) → (a && false) ≡ false
and_no true = refl
and_no false = refl

pub no_stop : (s : ℕ) (w : Wires) → stops w.levels s ≡ false → completes s w ≡ false
unfolding completes
no_stop s w e = ap (λ b. w.running && eqb w.rises 19 && b) e ∙ and_no (w.running && eqb w.rises 19)

pub told_nothing : (s : ℕ) (w : Wires) → completes s w ≡ false → told_at s w ≡ None
unfolding told_at
told_nothing s w e = pick_no (meaning_of (first_byte w) (second_byte w)) None e

pub silent_step : (s : ℕ) (p : Panel) → completes s p.wires ≡ false → stepped_panel s p ≡ with_wires (stepped s p.wires) p
unfolding stepped_panel
silent_step s p e = ap (λ m. obeyed m (with_wires (stepped s p.wires) p)) (told_nothing s p.wires e)

pub silent_reads_key : (s : ℕ) (w : Wires) → completes s w ≡ false → bit_value (is_read (told_at s w)) ≡ 0
silent_reads_key s w e = ap (λ m. bit_value (is_read m)) (told_nothing s w e)

-- ---- any number of samples

pub silent_played : (ss : List ℕ) (p : Panel) → Silent ss p.wires → played ss p ≡ with_wires (moved ss p.wires) p
unfolding played moved Silent
silent_played [] p h = refl
silent_played (s ∷ ss) p h =
    ap (played ss) (silent_step s p h.0) ∙ silent_played ss (with_wires (stepped s p.wires) p) h.1

pub silent_reads : (ss : List ℕ) (p : Panel) → Silent ss p.wires → reads_in ss p ≡ 0
unfolding reads_in Silent
silent_reads [] p h = refl
silent_reads (s ∷ ss) p h =
    ap₂ (λ x y. x + y) (silent_reads_key s p.wires h.0)
    (ap (reads_in ss) (silent_step s p h.0) ∙ silent_reads ss (with_wires (stepped s p.wires) p) h.1)

pub silent_take : (n : ℕ) (ss : List ℕ) (w : Wires) → Silent ss w → Silent (take n ss) w
unfolding Silent
silent_take zero ss w h = tt
silent_take (suc n) [] w h = tt
silent_take (suc n) (s ∷ ss) w h = (h.0, silent_take n ss (stepped s w) h.1)

-- ---- two blocks

pub silent_append : (xs ys : List ℕ) (w : Wires) → Silent xs w → Silent ys (moved xs w) → Silent (xs ++ ys) w
unfolding Silent moved
silent_append [] ys w h l = l
silent_append (x ∷ xs) ys w h l = (h.0, silent_append xs ys (stepped x w) h.1 l)

pub moved_append : (xs ys : List ℕ) (w : Wires) → moved (xs ++ ys) w ≡ moved ys (moved xs w)
unfolding moved
moved_append [] ys w = refl
moved_append (x ∷ xs) ys w = moved_append xs ys (stepped x w)

pub played_append : (xs ys : List ℕ) (p : Panel) → played (xs ++ ys) p ≡ played ys (played xs p)
unfolding played
played_append [] ys p = refl
played_append (x ∷ xs) ys p = played_append xs ys (stepped_panel x p)

pub reads_append : (xs ys : List ℕ) (p : Panel) → reads_in (xs ++ ys) p ≡ reads_in xs p + reads_in ys (played xs p)
unfolding played reads_in
reads_append [] ys p = sym (zero-add (reads_in ys p))
reads_append (x ∷ xs) ys p =
    ap (λ n. bit_value (is_read (told_at x p.wires)) + n) (reads_append xs ys (stepped_panel x p))
    ∙ sym (add_assoc (bit_value (is_read (told_at x p.wires))) (reads_in xs (stepped_panel x p)) (reads_in ys (played xs (stepped_panel x p))))

-- ---- what is obeyed

pub obeyed_wires : (m : Option Command) (w : Wires) (p : Panel) → obeyed m (with_wires w p) ≡ with_wires w (obeyed m p)
unfolding applied
obeyed_wires (Some (Parameters s)) w p = refl
obeyed_wires (Some (LoadDigit dig byte)) w p = refl
obeyed_wires (Some ReadKey) w p = refl
obeyed_wires None w p = refl

pub obeyed_digits : (m : Option Command) (p : Panel) → length (obeyed m p).digits ≡ length p.digits
unfolding applied
obeyed_digits (Some (Parameters s)) p = refl
obeyed_digits (Some (LoadDigit dig byte)) p =
    pick_cases (λ (ds : List ℕ). length ds ≡ length p.digits) (is_digit dig) {x = set p.digits (dig - 2) byte} {y = p.digits}
    (λ _. length-set p.digits (dig - 2) byte) (λ _. refl)
obeyed_digits (Some ReadKey) p = refl
obeyed_digits None p = refl

pub step_wires : (s : ℕ) (p : Panel) → (stepped_panel s p).wires ≡ stepped s p.wires
unfolding stepped_panel
step_wires s p = ap (λ (q : Panel). q.wires) (obeyed_wires (told_at s p.wires) (stepped s p.wires) p)

pub step_digits : (s : ℕ) (p : Panel) → length (stepped_panel s p).digits ≡ length p.digits
unfolding stepped_panel
step_digits s p = obeyed_digits (told_at s p.wires) (with_wires (stepped s p.wires) p)

-- ---- the levels

pub stepped_levels : (now : ℕ) (w : Wires) → (stepped now w).levels ≡ now
unfolding stepped
stepped_levels now w =
    pick_cases (λ (v : Wires). v.levels ≡ now) (starts w.levels now) {x = begun now} (λ e. refl)
    (λ e. pick_cases (λ (v : Wires). v.levels ≡ now) (stops w.levels now) {x = at_rest now} (λ e. refl)
    (λ e. pick_cases (λ (v : Wires). v.levels ≡ now) (takes now w) {x = taken now w} {y = seen now w} (λ e. refl) (λ e. refl)))
