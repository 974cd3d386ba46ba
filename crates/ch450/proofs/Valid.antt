-- A panel that a run can hold stays one, whatever it is told and whatever its wires do. proofs/Reached.antt has the converse.
--     valid_parts, make_valid            what a valid panel's parts are, and that these facts make it valid
--     transfer_parts, make_transfer      so of a running transfer
--     power_on_valid                     a panel at power-on is valid
--     applied_valid                      a legal command leaves a valid panel valid
--     step_valid                         any sample leaves a valid panel valid
--     played_valid                       so do samples one after another
-- Assumes nothing.
use mathlib.Core.Path.{◌≡◌, sym, subst}
use mathlib.Core.Bool.{Bool, true, false, not, ◌&&◌, ◌||◌}
use mathlib.Core.List.{List, [], ◌∷◌}
use Prim.Native.Nat.{ℕ, ◌*◌, ◌%◌, ◌^◌, ◌≤◌, ◌<◌}
use native.Mathlib.Nat.{le_of_suc-le-suc}
use native.Mathlib.Omega.{arith}
use lib.Dec.{T, eqb, leb, ltb, leb→le, le→leb, ltb→lt, lt→ltb, eqb_refl}
use Rattle.base.specs.Below.{AllBelow}
use Rattle.base.specs.Bits.{bit_value, cut}
use Rattle.base.specs.Pick.{pick}
use Rattle.base.proofs.Cuts.{cut_lt, bit_value_lt}
use Rattle.base.proofs.Picks.{pick_cases}
use Rattle.base.proofs.Tests.{is_true, and_left, and_right, and_both, at_below, eq_below}
use Rattle.ch450.specs.declared.Panel.{Panel}
use Rattle.ch450.specs.declared.Wires.{Wires}
use Rattle.ch450.specs.declared.Command.{Command}
use Rattle.ch450.specs.declared.Command.TheVariants.{Parameters, LoadDigit, ReadKey}
use Rattle.ch450.specs.Edges.{scl, sda, scl_rises, stays_high, starts, stops, takes, begun, at_rest, one_more, moved_up, taken, seen, stepped, completes, first_byte, second_byte}
use Rattle.ch450.specs.Panel.{last_bit, kept_of, valid_transfer, valid_wires, valid, power_on, with_wires}
use Rattle.ch450.specs.Commands.{legal, settings_of, is_digit_byte, meaning_of, told_at, applied, obeyed, woken, obey}
use Rattle.ch450.specs.Samples.{stepped_panel, played}
use Rattle.std.specs.declared.option.Option.{Option}
use Rattle.std.specs.declared.option.Option.TheVariants.{Some, None}

-- ---- what valid records are made of

pub valid_parts : (p : Panel) → T (valid p) → T (valid_wires p.wires) × (p.settings.intens ≤ 3)
unfolding valid
valid_parts p v =
    let w = valid_wires p.wires in
    let h = leb p.settings.intens 3 in
    (and_left w h v, leb→le p.settings.intens 3 (and_right w h v))

pub make_valid : (p : Panel) → T (valid_wires p.wires) → p.settings.intens ≤ 3 → T (valid p)
unfolding valid
make_valid p w h = and_both (valid_wires p.wires) (leb p.settings.intens 3) w (le→leb p.settings.intens 3 h)

-- a running transfer: rises, bits, and the level of SDA
abbrev pub Running : Wires → Type 0
Running w = (w.rises ≤ 20) × (w.bits < 2 ^ kept_of w.rises) × T (last_bit w.levels w.bits)

pub transfer_parts : (w : Wires) → T (valid_transfer w) → Running w
unfolding valid_transfer
transfer_parts w v =
    let r = leb w.rises 20 in
    let b = ltb w.bits (2 ^ kept_of w.rises) in
    let l = last_bit w.levels w.bits in
    let both = and_left (r && b) l v in
    (leb→le w.rises 20 (and_left r b both), ltb→lt w.bits (2 ^ kept_of w.rises) (and_right r b both), and_right (r && b) l v)

pub make_transfer : (w : Wires) → Running w → T (valid_transfer w)
unfolding valid_transfer
make_transfer w f =
    let r = leb w.rises 20 in
    let b = ltb w.bits (2 ^ kept_of w.rises) in
    and_both (r && b) (last_bit w.levels w.bits)
    (and_both r b (le→leb w.rises 20 f.0) (lt→ltb w.bits (2 ^ kept_of w.rises) f.1)) f.2

pub power_on_valid : (digits : List ℕ) → T (valid (power_on digits))
unfolding valid valid_wires
power_on_valid digits = tt

-- ---- commands

-- INTENS, where there is one, has two bits
abbrev Fair : Option Command → Type 0
Fair (Some (Parameters s)) = s.intens ≤ 3
Fair (Some (LoadDigit dig byte)) = Unit {0}
Fair (Some ReadKey) = Unit {0}
Fair None = Unit {0}

-- so what two bytes mean leaves a valid panel valid
obeyed_valid : (what : Option Command) (p : Panel) → Fair what → T (valid p) → T (valid (obeyed what p))
unfolding applied
obeyed_valid (Some (Parameters s)) p f v = make_valid (obey (Parameters s) (woken p)) (valid_parts p v).0 f
obeyed_valid (Some (LoadDigit dig byte)) p f v =
    make_valid (obey (LoadDigit dig byte) (woken p)) (valid_parts p v).0 (valid_parts p v).1
obeyed_valid (Some ReadKey) p f v = make_valid (woken p) (valid_parts p v).0 (valid_parts p v).1
obeyed_valid None p f v = v

-- as a legal command's has
legal_fair : (command : Command) → T (legal command) → Fair (Some command)
legal_fair (Parameters s) t = leb→le s.intens 3 t
legal_fair (LoadDigit dig byte) t = tt
legal_fair ReadKey t = tt

pub applied_valid : (command : Command) (p : Panel) → T (legal command) → T (valid p) → T (valid (applied command p))
applied_valid command p t v = obeyed_valid (Some command) p (legal_fair command t) v

-- two bytes set INTENS to two bits
meaning_fair : (first second : ℕ) → Fair (meaning_of first second)
unfolding meaning_of
meaning_fair first second =
    pick_cases Fair (eqb first 0x48) {x = Some (Parameters (settings_of second))} (λ e. le_of_suc-le-suc (cut_lt second 5 2))
    (λ e. pick_cases Fair (is_digit_byte first) {x = Some (LoadDigit (cut first 1 3) second)} (λ e. tt)
    (λ e. pick_cases Fair (eqb first 0x4F) {x = Some ReadKey} {y = None} (λ e. tt) (λ e. tt)))

-- and so does what a sample tells
told_fair : (now : ℕ) (w : Wires) → Fair (told_at now w)
unfolding told_at
told_fair now w = pick_cases Fair (completes now w) {y = None} (λ e. meaning_fair (first_byte w) (second_byte w)) (λ e. tt)

-- ---- one sample

-- one rise more: one bit more is kept, or all 19 are
power_next : (rises : ℕ) → rises ≤ 20 → 2 ^ kept_of (one_more rises) ≡ pick (leb rises 18) (2 * 2 ^ kept_of rises) (2 ^ 19)
power_next rises h =
    eq_below (λ r. 2 ^ kept_of (one_more r)) (λ r. pick (leb r 18) (2 * 2 ^ kept_of r) (2 ^ 19)) 21 tt rises (omega arith)

-- no more than 20 are counted
more_le : (rises : ℕ) → rises ≤ 20 → one_more rises ≤ 20
more_le rises h = leb→le (one_more rises) 20 (at_below (λ r. leb (one_more r) 20) 21 tt rises (omega arith))

-- the bits then kept are no more
moved_lt : (rises bits : ℕ) (b : Bool) → rises ≤ 20 → bits < 2 ^ kept_of rises → moved_up bits b < 2 ^ kept_of (one_more rises)
moved_lt rises bits b r h =
    let small = bit_value_lt b in
    pick_cases (λ x. 2 ^ kept_of (one_more rises) ≡ x → moved_up bits b < 2 ^ kept_of (one_more rises)) (leb rises 18)
    (λ t e. omega arith) (λ t e. omega arith) (power_next rises r)

-- the bit taken last is the lowest
moved_low : (bits : ℕ) (b : Bool) → moved_up bits b % 2 ≡ bit_value b
moved_low bits b =
    let small = bit_value_lt b in
    omega arith

-- after a start SDA is low
low_after : (c d : Bool) → T (not d) → T (not c || eqb 0 (bit_value d))
low_after true true t = absurd t
low_after true false t = tt
low_after false d t = tt

-- the level is the bit
level_is : (c d : Bool) {n : ℕ} → n ≡ bit_value d → T (not c || eqb n (bit_value d))
level_is true d e = subst (λ (n : ℕ). T (eqb n (bit_value d))) (sym e) (eqb_refl (bit_value d))
level_is false d e = tt

-- where SCL is high and no line moved alone, SDA is as it was
still_so : (c c' d d' : Bool) (n : ℕ) → (c && c' && d && not d') ≡ false → (c && c' && not d && d') ≡ false → (not c && c') ≡ false
    → T (not c || eqb n (bit_value d))
    → T (not c' || eqb n (bit_value d'))
still_so c false d d' n s t r l = tt
still_so true true true true n s t r l = l
still_so true true false false n s t r l = l
still_so true true true false n s t r l = absurd (subst T s tt)
still_so true true false true n s t r l = absurd (subst T t tt)
still_so false true d d' n s t r l = absurd (subst T r tt)

-- the wires that a sample can leave
module _ (now : ℕ) (w : Wires) (low : now ≤ 3) (v : T (valid_wires w)) where
  -- what the levels before it and the transfer are
  transfer : w.running ≡ true → Running w
  unfolding valid_wires
  transfer e =
      transfer_parts w
      (subst (λ b. T (pick b (valid_transfer w) (eqb w.rises 0 && eqb w.bits 0))) e
      (and_right (leb w.levels 3) (pick w.running (valid_transfer w) (eqb w.rises 0 && eqb w.bits 0)) v))

  begun_valid : starts w.levels now ≡ true → T (valid_wires (begun now))
  unfolding valid_wires valid_transfer
  begun_valid e =
      and_both (leb now 3) (last_bit now 0) (le→leb now 3 low)
      (low_after (scl now) (sda now) (and_right (stays_high w.levels now && sda w.levels) (not (sda now)) (subst T (sym e) tt)))

  rest_valid : T (valid_wires (at_rest now))
  unfolding valid_wires
  rest_valid = and_both (leb now 3) true (le→leb now 3 low) tt

  taken_valid : takes now w ≡ true → T (valid_wires (taken now w))
  unfolding valid_wires
  taken_valid e =
      let f = transfer (is_true w.running (and_left w.running (scl_rises w.levels now) (subst T (sym e) tt))) in
      and_both (leb now 3) (valid_transfer (taken now w)) (le→leb now 3 low)
      (make_transfer (taken now w)
      (more_le w.rises f.0, moved_lt w.rises w.bits (sda now) f.0 f.1, level_is (scl now) (sda now) (moved_low w.bits (sda now))))

  seen_valid : starts w.levels now ≡ false → stops w.levels now ≡ false → takes now w ≡ false → T (valid_wires (seen now w))
  unfolding valid_wires
  seen_valid s t n =
      let rest = eqb w.rises 0 && eqb w.bits 0 in
      and_both (leb now 3) (pick w.running (valid_transfer (seen now w)) rest) (le→leb now 3 low)
      (pick_cases T w.running {x = valid_transfer (seen now w)} {y = rest}
      (λ e.
      let f = transfer e in
      let falls = subst (λ b. (b && scl_rises w.levels now) ≡ false) e n in
      let still = still_so (scl w.levels) (scl now) (sda w.levels) (sda now) (w.bits % 2) s t falls f.2 in
      make_transfer (seen now w) (f.0, f.1, still))
      (λ e. subst (λ b. T (pick b (valid_transfer w) rest)) e (and_right (leb w.levels 3) (pick w.running (valid_transfer w) rest) v)))

  wires_valid : T (valid_wires (stepped now w))
  unfolding stepped
  wires_valid =
      pick_cases (λ u. T (valid_wires u)) (starts w.levels now) begun_valid
      (λ s. pick_cases (λ u. T (valid_wires u)) (stops w.levels now) (λ t. rest_valid)
      (λ t. pick_cases (λ u. T (valid_wires u)) (takes now w) taken_valid (λ n. seen_valid s t n)))

pub step_valid : (now : ℕ) (p : Panel) → T (valid p) → now ≤ 3 → T (valid (stepped_panel now p))
unfolding stepped_panel
step_valid now p v low =
    let moved = with_wires (stepped now p.wires) p in
    obeyed_valid (told_at now p.wires) moved (told_fair now p.wires)
    (make_valid moved (wires_valid now p.wires low (valid_parts p v).0) (valid_parts p v).1)

pub played_valid : (ss : List ℕ) (p : Panel) → AllBelow 4 ss → T (valid p) → T (valid (played ss p))
unfolding played
played_valid [] p a v = v
played_valid (s ∷ ss) p a v = played_valid ss (stepped_panel s p) a.1 (step_valid s p v (le_of_suc-le-suc a.0))
