-- One segment made on or off changes the byte of one digit.
--     segment_is      ADDR = 8·SEG + DIG: DIG's byte with bit SEG made
--     segment_at      the same, of a DIG and a SEG that were cut out of ADDR
--     segment_none    an address past the 64 changes nothing
-- Assumes nothing.
use mathlib.Core.Path.{◌≡◌, refl, ap, sym, ◌∙◌}
use mathlib.Core.Bool.{Bool}
use mathlib.Core.List.{List}
use Prim.Native.Nat.{ℕ, zero, suc, ◌/◌, ◌%◌, ◌<◌}
use native.Mathlib.Omega.{arith}
use borrow.Author.Tests.{ne_eqb}
use lib.Dec.{eqb}
use lib.ListN.{length, get_or, set, length-set}
use lib.Seq.{ext_get_or, get_or-set_same, get_or-set_other}
use Rattle.base.specs.Pick.{pick}
use Rattle.base.specs.Bits.{bit}
use Rattle.base.proofs.Picks.{pick_no}
use Rattle.base.proofs.Tests.{by_equality, eqb_same}
use Rattle.chip.specs.Commands.{address, lit, segment}
use Rattle.base.specs.Bits.{byte_of}
use Rattle.base.proofs.Bytes.{byte_back, byte_same}

lit_at : (f : ℕ → ℕ → Bool) (dig : ℕ) → dig < 8 → get_or (lit f) dig 0 ≡ byte_of (λ s. f s dig)
lit_at f zero h = refl
lit_at f (suc zero) h = refl
lit_at f (suc (suc zero)) h = refl
lit_at f (suc (suc (suc zero))) h = refl
lit_at f (suc (suc (suc (suc zero)))) h = refl
lit_at f (suc (suc (suc (suc (suc zero))))) h = refl
lit_at f (suc (suc (suc (suc (suc (suc zero)))))) h = refl
lit_at f (suc (suc (suc (suc (suc (suc (suc zero))))))) h = refl
lit_at f (suc (suc (suc (suc (suc (suc (suc (suc n)))))))) h = absurd (omega arith)

-- digits that have the bits which f says
lit_is : (f : ℕ → ℕ → Bool) (ds : List ℕ) → length ds ≡ 8 → ((dig : ℕ) → dig < 8 → byte_of (λ s. f s dig) ≡ get_or ds dig 0) → lit f ≡ ds
lit_is f ds eight e = ext_get_or 0 (lit f) ds (sym eight) (λ dig h. lit_at f dig h ∙ e dig h)

-- the byte of a digit under `segment`
abbrev changed : Bool → ℕ → ℕ → ℕ → ℕ
changed on addr dig byte = byte_of (λ s. pick (eqb (address s dig) addr) on (bit byte s))

-- a digit none of whose segments has the address keeps its byte
other_digit : (on : Bool) (addr dig byte : ℕ) → byte < 256 → ((s : ℕ) → s < 8 → address s dig ≡ addr → ⊥) → changed on addr dig byte ≡ byte
other_digit on addr dig byte fits ne =
    byte_same (λ s. pick (eqb (address s dig) addr) on (bit byte s)) (bit byte)
    (λ s h. pick_no on (bit byte s) (ne_eqb (address s dig) addr (ne s h)))
    ∙ byte_back byte fits

-- the digit of an address has one bit made
own_digit : (on : Bool) (addr byte : ℕ) → changed on addr (addr % 8) byte ≡ byte_of (λ s. pick (eqb s (addr / 8)) on (bit byte s))
own_digit on addr byte =
    byte_same (λ s. pick (eqb (address s (addr % 8)) addr) on (bit byte s)) (λ s. pick (eqb s (addr / 8)) on (bit byte s))
    (λ s h. ap (λ t. pick t on (bit byte s)) (eqb_same (address s (addr % 8)) addr s (addr / 8) (λ e. omega arith) (λ e. omega arith)))

module _ (on : Bool) (addr : ℕ) (ds : List ℕ) (eight : length ds ≡ 8) (bytes : (dig : ℕ) → dig < 8 → get_or ds dig 0 < 256) where
  abbrev lighting : ℕ → ℕ → Bool
  lighting s d = pick (eqb (address s d) addr) on (bit (get_or ds d 0) s)

  pub segment_none : 63 < addr → segment on addr ds ≡ ds
  unfolding segment
  segment_none past = lit_is lighting ds eight (λ dig h. other_digit on addr dig (get_or ds dig 0) (bytes dig h) (λ s l e. omega arith))

  one_digit : (byte dig : ℕ) → dig < 8 → byte ≡ byte_of (λ s. pick (eqb s (addr / 8)) on (bit (get_or ds (addr % 8) 0) s))
      → changed on addr dig (get_or ds dig 0) ≡ get_or (set ds (addr % 8) byte) dig 0
  one_digit byte dig h made =
      by_equality dig (addr % 8)
      (λ e.
      ap (λ d. changed on addr d (get_or ds d 0)) e ∙ own_digit on addr (get_or ds (addr % 8) 0) ∙ sym made
      ∙ sym (get_or-set_same ds (addr % 8) byte 0 (omega arith))
      ∙ ap (λ d. get_or (set ds (addr % 8) byte) d 0) (sym e))
      (λ ne.
      other_digit on addr dig (get_or ds dig 0) (bytes dig h) (λ s l e. ne (omega arith))
      ∙ sym (get_or-set_other ds (addr % 8) dig byte 0 ne))

  pub segment_is : (byte : ℕ) → byte ≡ byte_of (λ s. pick (eqb s (addr / 8)) on (bit (get_or ds (addr % 8) 0) s)) → segment on addr ds ≡ set ds (addr % 8) byte
  unfolding segment
  segment_is byte made = lit_is lighting (set ds (addr % 8) byte) (length-set ds (addr % 8) byte ∙ eight) (λ dig h. one_digit byte dig h made)

  pub segment_at : (dig seg : ℕ) → dig ≡ addr % 8 → seg ≡ addr / 8 → (byte : ℕ)
      → byte ≡ byte_of (λ s. pick (eqb s seg) on (bit (get_or ds dig 0) s)) → segment on addr ds ≡ set ds dig byte
  segment_at dig seg d s byte made =
      segment_is byte (made ∙ λ i. byte_of (λ t. pick (eqb t (s i)) on (bit (get_or ds (d i) 0) t))) ∙ ap (λ k. set ds k byte) (sym d)
