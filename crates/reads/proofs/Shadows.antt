-- The last chip, without the chips before it: what is known of it up to the next LOAD rise.
--     Shadow           a chip that stands for it: in KEYB, in the bits left to read out, and with KEYB off in the latch and in so many of the
--                      register's lowest bits
--     shadow_start     a chip stands for itself, with all bits known
--     shadow_last      and still does after a sample that is no LOAD rise
--     shadow_look      a look goes by these alone
--     kept_still       with no LOAD rise what is kept goes by no chip
-- Assumes nothing.
use Rattle.std.proofs.Common.{◌≡◌, ℕ, ◌+◌, ◌-◌, ◌*◌, ◌/◌, ◌%◌, ◌^◌, ◌≤◌, Bool, true, false, not, ◌&&◌, T, eqb, ltb, length, sym, refl, ap, ◌∙◌, subst, ap₂, mul_assoc, arith, pow-add}
use native.Mathlib.Nat.{add-mul-mod_self_left}
use lib.Pow.{mod-pow-add}
use Rattle.base.specs.Bits.{bit_value}
use Rattle.base.specs.Pick.{pick}
use Rattle.base.proofs.Cuts.{cut_zero}
use Rattle.base.proofs.Picks.{pick_no, pick_cases}
use Rattle.chip.specs.declared.Chip.{Chip}
use Rattle.chip.specs.declared.LineParts.{LineParts}
use Rattle.chip.specs.Record.{Body, reset_chip}
use Rattle.chip.specs.Edges.{din, dclk, dclk_falls, dclk_rises, load_rises, clocked_out, clocked_in, clocked, stepped}
use Rattle.chip.proofs.Quiet.{quiet, stepped_line}
use Rattle.chain.specs.declared.Chain.{Chain}
use Rattle.chain.specs.Chain.{most, chip_count, stepped_chain}
use Rattle.chain.proofs.Places.{row_at}
use Rattle.chain.proofs.Tested.{count_low, count_high}
use Rattle.reads.specs.declared.Looked.{Looked}
use Rattle.reads.specs.declared.Note.TheVariants.{Nothing}
use Rattle.reads.specs.declared.Reader.{Reader}
use Rattle.reads.specs.Parts.{known_after}
use Rattle.reads.specs.Reads.{recorded_in, is_edge, last_chip, looking, with_sample, tells, in_readout, outside, keypad_off, looked, begins_readout, begun, kept}
use Rattle.reads.specs.Till.{keypad_on}

-- ---- the lowest bits of a register

low_bits : (j a b : ℕ) → a % 2 ^ (j + 1) ≡ b % 2 ^ (j + 1) → (a % 2 ≡ b % 2) × (a / 2 % 2 ^ j ≡ b / 2 % 2 ^ j)
low_bits j a b e =
    let x = mod-pow-add a j 1 in
    let y = mod-pow-add b j 1 in
    (omega (arith, x, y, e), omega (arith, x, y, e))

-- the bit that enters is none of them
top_lost : (j x v : ℕ) → j ≤ 11 → (x + 2048 * v) % 2 ^ j ≡ x % 2 ^ j
top_lost j x v h =
    let all : j + (11 - j) ≡ 11 = omega arith in
    let power : 2048 ≡ 2 ^ j * 2 ^ (11 - j) = ap (λ (m : ℕ). 2 ^ m) (sym all) ∙ pow-add 2 j (11 - j) in
    ap (λ (p : ℕ). (x + p * v) % 2 ^ j) power
    ∙ ap (λ (p : ℕ). (x + p) % 2 ^ j) (mul_assoc (2 ^ j) (2 ^ (11 - j)) v)
    ∙ add-mul-mod_self_left x (2 ^ j) (2 ^ (11 - j) * v)

-- ---- line parts

-- the latch, and so many bits of the register, are the same
abbrev Low : ℕ → LineParts → LineParts → Type 0
Low known l m = (l.latch ≡ m.latch) × (l.register % 2 ^ known ≡ m.register % 2 ^ known)

-- what DCLK does, by its levels before and at a sample
abbrev moved : Bool → Bool → Bool → LineParts → LineParts
moved a b d l = pick (a && not b) (clocked_out l) (pick (not a && b) (clocked_in d l) l)

left_moved : (a b d e : Bool) (l m : LineParts) → l.readout.left ≡ m.readout.left → (moved a b d l).readout.left ≡ (moved a b e m).readout.left
left_moved true true d e l m same = same
left_moved true false d e l m same = ap (λ (k : ℕ). k - 1) same
left_moved false true d e l m same = same
left_moved false false d e l m same = same

low_moved : (a b d e : Bool) (j : ℕ) (l m : LineParts) → j ≤ 11 → Low (j + 1) l m → Low (pick (not a && b) j (j + 1)) (moved a b d l) (moved a b e m)
low_moved true true d e j l m h p = p
low_moved true false d e j l m h p =
    (ap (λ x. eqb x 1) (cut_zero l.register 1 ∙ (low_bits j l.register m.register p.1).0 ∙ sym (cut_zero m.register 1)), p.1)
low_moved false true d e j l m h p = (
  p.0,
  top_lost j (l.register / 2) (bit_value d) h
      ∙ (low_bits j l.register m.register p.1).1
      ∙ sym (top_lost j (m.register / 2) (bit_value e) h),
)
low_moved false false d e j l m h p = p

-- ---- chips

pub record Shadow (known : ℕ) (s c : Chip) : Type 0 where
  pub few : known ≤ 12
  pub keyb : keypad_on s ≡ keypad_on c
  pub left : s.line.readout.left ≡ c.line.readout.left
  pub off : keypad_on s ≡ false → Low known s.line c.line

pub shadow_start : (c : Chip) → Shadow 12 c c
shadow_start c = record { few = omega arith; keyb = refl; left = refl; off = λ e. (refl, refl) }

module _ (was now : ℕ) (still : load_rises was now ≡ false) where
  keyb_kept : (d : Bool) (c : Chip) → keypad_on (stepped was now d c) ≡ keypad_on c
  keyb_kept d c = ap (λ (x : Body). x.settings.system.keyb) (quiet was now d c still)

  line_moved : (d : Bool) (c : Chip) → (stepped was now d c).line ≡ moved (dclk was) (dclk now) d c.line
  unfolding clocked
  line_moved d c = stepped_line was now d c still

  shadow_step : {known : ℕ} (d : Bool) (s c : Chip) → 1 ≤ known → Shadow known s c
      → Shadow (known_after (keypad_on s) (dclk_rises was now) known) (stepped was now false s) (stepped was now d c)
  shadow_step {known} d s c some h =
      record {
        few =
            let most = h.few in
            pick_cases (λ (k : ℕ). k ≤ 12) (keypad_on s) (λ _. most) (λ _. pick_cases (λ (k : ℕ). k ≤ 12) (dclk_rises was now) (λ _. omega arith) (λ _. most));
        keyb = keyb_kept false s ∙ h.keyb ∙ sym (keyb_kept d c);
        left =
            ap (λ (l : LineParts). l.readout.left) (line_moved false s)
            ∙ left_moved (dclk was) (dclk now) false d s.line c.line h.left
            ∙ sym (ap (λ (l : LineParts). l.readout.left) (line_moved d c));
        off = λ e.
            let off_before = sym (keyb_kept false s) ∙ e in
            let most = h.few in
            let one : (known - 1) + 1 ≡ known = omega arith in
            let low =
            low_moved (dclk was) (dclk now) false d (known - 1) s.line c.line (omega arith)
            (subst (λ k. Low k s.line c.line) (sym one) (h.off off_before)) in
            let counts : pick (dclk_rises was now) (known - 1) ((known - 1) + 1) ≡ known_after (keypad_on s) (dclk_rises was now) known =
            ap (λ k. pick (dclk_rises was now) (known - 1) k) one ∙ sym (pick_no known (pick (dclk_rises was now) (known - 1) known) off_before) in
            subst (λ l. Low (known_after (keypad_on s) (dclk_rises was now) known) l (stepped was now d c).line) (sym (line_moved false s))
            (subst (λ l. Low (known_after (keypad_on s) (dclk_rises was now) known) (moved (dclk was) (dclk now) false s.line) l) (sym (line_moved d c))
            (subst (λ k. Low k (moved (dclk was) (dclk now) false s.line) (moved (dclk was) (dclk now) d c.line)) counts low));
      }

pub shadow_last : (n now : ℕ) (ch : Chain) {known : ℕ} (s : Chip) → chip_count n ≡ true → length ch.chips ≡ most → load_rises ch.levels now ≡ false → 1 ≤ known
    → Shadow known s (last_chip n ch)
    → Shadow (known_after (keypad_on s) (dclk_rises ch.levels now) known) (stepped ch.levels now false s) (last_chip n (stepped_chain n now ch))
shadow_last n now ch {known} s count long still some =
    let counted : T (chip_count n) = subst T (sym count) tt in
    let low = count_low n counted in
    let high = count_high n counted in
    row_at (λ c x. Shadow known s c → Shadow (known_after (keypad_on s) (dclk_rises ch.levels now) known) (stepped ch.levels now false s) x) ch.levels now
    (λ d c. shadow_step ch.levels now still d s c some) n (n - 1) (din now) ch.chips reset_chip (omega arith) (omega arith)

-- ---- looks

-- a look at an edge, by what it needs of the chip
abbrev edge_by : ℕ → ℕ → Reader → Bool → ℕ → Bool → Looked
edge_by was now r keyb left latch =
    pick keyb (pick (eqb left 0) (outside r.dout r) (in_readout (dclk_falls was now) (load_rises was now) left r)) (keypad_off r.dout latch r)

edge_same : (was now : ℕ) (r : Reader) (keyb : Bool) (left : ℕ) (a b : Bool) → (keyb ≡ false → a ≡ b) → edge_by was now r keyb left a ≡ edge_by was now r keyb left b
edge_same was now r true left a b same = refl
edge_same was now r false left a b same = ap (λ latch. keypad_off r.dout latch r) (same refl)

pub shadow_look : (was now : ℕ) {known : ℕ} (s c : Chip) (r : Reader) → Shadow known s c → looked was now s r ≡ looked was now c r
unfolding looked
shadow_look was now s c r h =
    ap (λ x. pick (looking r.dout && is_edge was now) x (tells r Nothing))
    (edge_same was now r (keypad_on s) s.line.readout.left s.line.latch c.line.latch (λ e. (h.off e).0)
    ∙ ap₂ (λ keyb left. edge_by was now r keyb left c.line.latch) h.keyb h.left)

pub kept_still : (was b offset : ℕ) (c d : Chip) (r : Reader) → load_rises was (b % 8) ≡ false → kept was b offset c r ≡ kept was b offset d r
unfolding kept
kept_still was b offset c d r still =
    ap (λ t. pick (looking r.dout) (with_sample (recorded_in b) offset (begun t r)) (pick (ltb b 0x10) r (with_sample (recorded_in b) offset r)))
    (none c ∙ sym (none d))
  where
    none : (x : Chip) → begins_readout was (b % 8) x ≡ false
    none x = ap (λ t. t && x.settings.system.keyb && not (eqb x.line.readout.left 0)) still
