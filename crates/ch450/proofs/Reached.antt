-- Every valid panel is one that a run can hold: from power-on some samples, all below 4, lead to it. With proofs/Valid.antt this makes
-- refusal 12 exact.
--     settings_reached       a parameter command from power-on leads to any settings whose INTENS has two bits
--     rest_reached           from idle lines at rest, to any levels
--     running_reached        to any running transfer whose SDA is its last bit, SCL being high
--     wires_reached          to any valid wires
--     valid_reached          to any valid panel
-- Assumes nothing.
use mathlib.Core.Path.{◌≡◌, refl, ap, ap₂, sym, subst, ◌∙◌}
use mathlib.Core.Bool.{Bool, true, false, ◌&&◌}
use mathlib.Core.List.{List, [], ◌∷◌, ◌++◌}
use Prim.Native.Nat.{ℕ, zero, suc, ◌+◌, ◌*◌, ◌/◌, ◌%◌, ◌^◌, ◌≤◌, ◌<◌}
use native.Mathlib.Nat.{mod-lt, lt_of_lt_of_le}
use native.Mathlib.Omega.{arith}
use borrow.Author.Tests.{lt-ltb}
use lib.Dec.{T, eqb, leb, leb→le, eqb→eq, lit<}
use Rattle.base.specs.Below.{AllBelow}
use Rattle.base.specs.Bits.{bit_value}
use Rattle.base.specs.Pick.{pick}
use Rattle.base.proofs.Cuts.{bit_value_lt}
use Rattle.base.proofs.Picks.{pick_yes, pick_cases}
use Rattle.base.proofs.Tests.{and_left, and_right, at_below, each_below, eq_below}
use Rattle.base.proofs.Lists.{below_append}
use Rattle.ch450.specs.declared.Panel.{Panel}
use Rattle.ch450.specs.declared.Settings.{Settings}
use Rattle.ch450.specs.declared.Wires.{Wires}
use Rattle.ch450.specs.declared.Command.TheVariants.{Parameters}
use Rattle.ch450.specs.Edges.{idle, stops, at_rest, one_more, moved_up, stepped, completes}
use Rattle.ch450.specs.Panel.{last_bit, kept_of, valid_transfer, valid_wires, valid, power_on, with_wires}
use Rattle.ch450.specs.Commands.{word_of, meaning_of, told_at, applied}
use Rattle.ch450.specs.Samples.{stepped_panel, played}
use Rattle.ch450.specs.Written.{byte_bits, clocking, command_samples}
use Rattle.ch450.proofs.OneCommand.{command_below}
use Rattle.ch450.proofs.Silent.{no_stop, silent_step, played_append}
use Rattle.ch450.proofs.Valid.{valid_parts, transfer_parts}

-- ---- settings

-- a panel with idle lines at rest
abbrev resting : Settings → List ℕ → Panel
resting s digits = record { wires = at_rest idle; settings = s; digits = digits }

abbrev made : Bool → Bool → Bool → ℕ → Settings
made sleep keyb disp intens = record { sleep = sleep; intens = intens; keyb = keyb; disp = disp }

-- the parameter command leads to these settings
abbrev Leads : List ℕ → Settings → Type 0
Leads digits s = played (command_samples (word_of (Parameters s))) (power_on digits) ≡ resting s digits

pub settings_reached : (sleep keyb disp : Bool) (intens : ℕ) (digits : List ℕ) → intens < 4 → Leads digits (made sleep keyb disp intens)
unfolding played stepped_panel stepped told_at completes meaning_of applied command_samples clocking byte_bits
settings_reached true true true intens digits = each_below (λ i. Leads digits (made true true true i)) 4 (refl, (refl, (refl, (refl, tt)))) intens
settings_reached true true false intens digits = each_below (λ i. Leads digits (made true true false i)) 4 (refl, (refl, (refl, (refl, tt)))) intens
settings_reached true false true intens digits = each_below (λ i. Leads digits (made true false true i)) 4 (refl, (refl, (refl, (refl, tt)))) intens
settings_reached true false false intens digits = each_below (λ i. Leads digits (made true false false i)) 4 (refl, (refl, (refl, (refl, tt)))) intens
settings_reached false true true intens digits = each_below (λ i. Leads digits (made false true true i)) 4 (refl, (refl, (refl, (refl, tt)))) intens
settings_reached false true false intens digits = each_below (λ i. Leads digits (made false true false i)) 4 (refl, (refl, (refl, (refl, tt)))) intens
settings_reached false false true intens digits = each_below (λ i. Leads digits (made false false true i)) 4 (refl, (refl, (refl, (refl, tt)))) intens
settings_reached false false false intens digits = each_below (λ i. Leads digits (made false false false i)) 4 (refl, (refl, (refl, (refl, tt)))) intens

-- ---- from panel to panel

-- samples, all below 4, lead from one panel to another
abbrev pub Reaches : Panel → Panel → Type 0
Reaches p q = (ss : List ℕ) × AllBelow 4 ss × (played ss p ≡ q)

-- one after the other
reaches_then : (p q r : Panel) → Reaches p q → Reaches q r → Reaches p r
reaches_then p q r f g =
    (f.0 ++ g.0, below_append 4 f.0 g.0 f.1 g.1, played_append f.0 g.0 p ∙ ap (played g.0) f.2 ∙ g.2)

-- a sample that is no stop moves the wires alone
quiet : (now : ℕ) (p : Panel) → stops p.wires.levels now ≡ false → stepped_panel now p ≡ with_wires (stepped now p.wires) p
quiet now p e = silent_step now p (no_stop now p.wires e)

-- two of them
quiet_two : (x y : ℕ) (p : Panel) → stops p.wires.levels x ≡ false → stops (stepped x p.wires).levels y ≡ false
    → played (x ∷ y ∷ []) p ≡ with_wires (stepped y (stepped x p.wires)) p
unfolding played
quiet_two x y p e f = ap (stepped_panel y) (quiet x p e) ∙ quiet y (with_wires (stepped x p.wires) p) f

-- ---- no transfer runs

pub rest_reached : (s : Settings) (digits : List ℕ) (levels : ℕ) → levels < 4
    → Reaches (resting s digits) (with_wires (at_rest levels) (resting s digits))
unfolding played stepped_panel stepped told_at completes
rest_reached s digits =
    each_below (λ l. Reaches (resting s digits) (with_wires (at_rest l) (resting s digits))) 4 (
      ([], tt, refl),
      (
        (2 ∷ [], (lit< tt, tt), refl),
        (
          (0 ∷ 1 ∷ [], (lit< tt, (lit< tt, tt)), refl),
          ((0 ∷ [], (lit< tt, tt), refl), tt),
        ),
      ),
    )

-- ---- a transfer runs

-- so many rises, and bits, at levels
abbrev running : ℕ → ℕ → ℕ → Wires
running levels rises bits = record { levels = levels; running = true; rises = rises; bits = bits }

-- SCL low and high with a bit
abbrev low : Bool → ℕ
low d = 2 * bit_value d

abbrev high : Bool → ℕ
high d = 2 * bit_value d + 1

-- a bit clocked in while a transfer runs
one_bit : (d e : Bool) (rises bits : ℕ) (q : Panel)
    → played (low e ∷ high e ∷ []) (with_wires (running (high d) rises bits) q) ≡ with_wires (running (high e) (one_more rises) (moved_up bits e)) q
unfolding stepped
one_bit true true rises bits q = quiet_two 2 3 (with_wires (running 3 rises bits) q) refl refl
one_bit true false rises bits q = quiet_two 0 1 (with_wires (running 3 rises bits) q) refl refl
one_bit false true rises bits q = quiet_two 2 3 (with_wires (running 1 rises bits) q) refl refl
one_bit false false rises bits q = quiet_two 0 1 (with_wires (running 1 rises bits) q) refl refl

-- the bit taken last
abbrev last : ℕ → Bool
last bits = eqb (bits % 2) 1

-- as a number
last_value : (bits : ℕ) → bit_value (last bits) ≡ bits % 2
last_value bits = eq_below (λ x. bit_value (eqb x 1)) (λ x. x) 2 tt (bits % 2) (mod-lt bits (lit< tt))

-- bits without the last, and the last again
moved_back : (bits : ℕ) → bits < 2 ^ 19 → moved_up (bits / 2) (last bits) ≡ bits
moved_back bits h =
    let e = last_value bits in
    omega arith

module _ (s : Settings) (digits : List ℕ) where
  pub running_reached : (rises bits : ℕ) → rises ≤ 20 → bits < 2 ^ kept_of rises
      → Reaches (resting s digits) (with_wires (running (high (last bits)) rises bits) (resting s digits))
  unfolding played stepped_panel stepped told_at completes
  running_reached zero bits r h =
      let none : 0 ≡ bits = omega arith in
      (1 ∷ [], (lit< tt, tt), ap (λ (b : ℕ). with_wires (running (high (last b)) 0 b) (resting s digits)) none)
  running_reached (suc rises) bits r h =
      let q = resting s digits in
      let d = last bits in
      let wide : 2 ^ kept_of (suc rises) ≤ 2 * 2 ^ kept_of rises =
      leb→le (2 ^ kept_of (suc rises)) (2 * 2 ^ kept_of rises) (at_below (λ n. leb (2 ^ kept_of (suc n)) (2 * 2 ^ kept_of n)) 20 tt rises r) in
      let most : 2 ^ kept_of (suc rises) ≤ 2 ^ 19 =
      leb→le (2 ^ kept_of (suc rises)) (2 ^ 19) (at_below (λ n. leb (2 ^ kept_of (suc n)) (2 ^ 19)) 20 tt rises r) in
      let fewer : bits / 2 < 2 ^ kept_of rises = omega arith in
      let before : rises ≤ 20 = omega arith in
      let small = bit_value_lt d in
      let first : low d < 4 = omega arith in
      let second : high d < 4 = omega arith in
      let back = moved_back bits (lt_of_lt_of_le h most) in
      let more : one_more rises ≡ suc rises = pick_yes (suc rises) rises (lt-ltb rises 20 r) in
      reaches_then q (with_wires (running (high (last (bits / 2))) rises (bits / 2)) q) (with_wires (running (high d) (suc rises) bits) q)
      (running_reached rises (bits / 2) before fewer) (
        low d ∷ high d ∷ [],
        (first, (second, tt)),
        one_bit (last (bits / 2)) d rises (bits / 2) q ∙ ap₂ (λ (n b : ℕ). with_wires (running (high d) n b) q) more back,
      )

-- SCL falls
falls_low : (d : Bool) (rises bits : ℕ) (q : Panel) → played (0 ∷ []) (with_wires (running (high d) rises bits) q) ≡ with_wires (running 0 rises bits) q
unfolding played stepped
falls_low true rises bits q = quiet 0 (with_wires (running 3 rises bits) q) refl
falls_low false rises bits q = quiet 0 (with_wires (running 1 rises bits) q) refl

falls_high : (d : Bool) (rises bits : ℕ) (q : Panel) → played (2 ∷ []) (with_wires (running (high d) rises bits) q) ≡ with_wires (running 2 rises bits) q
unfolding played stepped
falls_high true rises bits q = quiet 2 (with_wires (running 3 rises bits) q) refl
falls_high false rises bits q = quiet 2 (with_wires (running 1 rises bits) q) refl

-- the levels that the last bit allows
levels_reached : (rises bits : ℕ) (q : Panel) (levels : ℕ) → levels < 4 → T (last_bit levels bits)
    → Reaches (with_wires (running (high (last bits)) rises bits) q) (with_wires (running levels rises bits) q)
unfolding played
levels_reached rises bits q =
    each_below (λ l. T (last_bit l bits) → Reaches (with_wires (running (high (last bits)) rises bits) q) (with_wires (running l rises bits) q)) 4 (
      (λ t. ([], tt, ap (λ (x : ℕ). with_wires (running (high (eqb x 1)) rises bits) q) (eqb→eq (bits % 2) 1 t))),
      (
        (λ t. (2 ∷ [], (lit< tt, tt), falls_high (last bits) rises bits q)),
        (
          (λ t. ([], tt, ap (λ (x : ℕ). with_wires (running (high (eqb x 1)) rises bits) q) (eqb→eq (bits % 2) 0 t))),
          ((λ t. (0 ∷ [], (lit< tt, tt), falls_low (last bits) rises bits q)), tt),
        ),
      ),
    )

-- ---- any valid wires, and any valid panel

wires_reached : (s : Settings) (digits : List ℕ) (w : Wires) → T (valid_wires w) → Reaches (resting s digits) (with_wires w (resting s digits))
unfolding valid_wires
wires_reached s digits w v =
    let q = resting s digits in
    let rest = eqb w.rises 0 && eqb w.bits 0 in
    let bounded : w.levels < 4 = omega (arith, leb→le w.levels 3 (and_left (leb w.levels 3) (pick w.running (valid_transfer w) rest) v)) in
    pick_cases (λ t. T t → Reaches q (with_wires w q)) w.running {x = valid_transfer w} {y = rest}
    (λ e t.
    let f = transfer_parts w t in
    subst (λ b. Reaches q (with_wires (record { levels = w.levels; running = b; rises = w.rises; bits = w.bits }) q)) (sym e)
    (reaches_then q (with_wires (running (high (last w.bits)) w.rises w.bits) q) (with_wires (running w.levels w.rises w.bits) q)
    (running_reached s digits w.rises w.bits f.0 f.1)
    (levels_reached w.rises w.bits q w.levels bounded f.2)))
    (λ e t.
    let r = eqb→eq w.rises 0 (and_left (eqb w.rises 0) (eqb w.bits 0) t) in
    let b = eqb→eq w.bits 0 (and_right (eqb w.rises 0) (eqb w.bits 0) t) in
    let same : at_rest w.levels ≡ w = λ i. record { levels = w.levels; running = sym e i; rises = sym r i; bits = sym b i } in
    subst (λ (u : Wires). Reaches q (with_wires u q)) same (rest_reached s digits w.levels bounded))
    (and_right (leb w.levels 3) (pick w.running (valid_transfer w) rest) v)

pub valid_reached : (p : Panel) → T (valid p) → (digits : List ℕ) × (ss : List ℕ) × AllBelow 4 ss × (played ss (power_on digits) ≡ p)
valid_reached p v =
    let s = p.settings in
    let f = valid_parts p v in
    let two : s.intens < 4 = omega (arith, f.1) in
    let set : Reaches (power_on p.digits) (resting s p.digits) = (
      command_samples (word_of (Parameters s)),
      command_below (word_of (Parameters s)),
      settings_reached s.sleep s.keyb s.disp s.intens p.digits two,
    ) in
    let r = reaches_then (power_on p.digits) (resting s p.digits) p set (wires_reached s p.digits p.wires f.0) in
    (p.digits, r.0, r.1, r.2)
