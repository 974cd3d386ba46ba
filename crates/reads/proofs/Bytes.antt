-- A chain played by the bytes of samples, whose DOUT it doesn't see: it differs in the levels alone.
--     byte_alike      a byte's levels are its lowest bits
--     byte_rises      LOAD rises by the byte where it does by the levels
--     byte_step       the chips after the one and the other are the same
--     stretch_one     one more sample, where LOAD doesn't rise
-- Assumes nothing.
use Rattle.std.proofs.Common.{◌≡◌, ℕ, zero, suc, ◌/◌, ◌%◌, ◌^◌, Bool, true, false, not, ◌&&◌, eqb, List, [], ◌∷◌, ◌++◌, sym, refl, ap, ◌∙◌, ap₂, true≢false, arith}
use Rattle.base.specs.Pick.{pick}
use Rattle.base.proofs.Picks.{pick_no}
use Rattle.chip.specs.declared.Chip.{Chip}
use Rattle.chip.specs.Record.{with_line}
use Rattle.chip.specs.Commands.{dout}
use Rattle.chip.specs.Edges.{din, dclk, load, load_rises, clocked_out, clocked_in, clocked, loaded, stepped}
use Rattle.chain.specs.declared.Chain.{Chain}
use Rattle.chain.specs.declared.play.Stretch.{Stretch}
use Rattle.chain.specs.Chain.{stepped_row, stepped_chain}
use Rattle.chain.specs.Stretch.{stretch_from}
use Rattle.chain.proofs.Still.{Alike, rises_alike, row_alike}
use Rattle.chain.proofs.Stretch.{ended, risen}

-- ---- one byte

bit_0 : (b : ℕ) → din b ≡ din (b % 8)
bit_0 b = let e : b / 2 ^ 0 % 2 ^ 1 ≡ b % 8 / 2 ^ 0 % 2 ^ 1 = omega arith in ap (λ (x : ℕ). eqb x 1) e

bit_1 : (b : ℕ) → dclk b ≡ dclk (b % 8)
bit_1 b = let e : b / 2 ^ 1 % 2 ^ 1 ≡ b % 8 / 2 ^ 1 % 2 ^ 1 = omega arith in ap (λ (x : ℕ). eqb x 1) e

bit_2 : (b : ℕ) → load b ≡ load (b % 8)
bit_2 b = let e : b / 2 ^ 2 % 2 ^ 1 ≡ b % 8 / 2 ^ 2 % 2 ^ 1 = omega arith in ap (λ (x : ℕ). eqb x 1) e

pub byte_alike : (b : ℕ) → Alike b (b % 8)
byte_alike b = record { clock = bit_1 b; rise = bit_2 b }

pub byte_rises : (was like b : ℕ) → Alike was like → load_rises was b ≡ load_rises like (b % 8)
byte_rises was like b a = rises_alike was like b a ∙ ap (λ x. not (load like) && x) (bit_2 b)

stepped_byte : (was b : ℕ) (d : Bool) (c : Chip) → stepped was b d c ≡ stepped was (b % 8) d c
unfolding stepped clocked
stepped_byte was b d c =
    ap₂ (λ x y.
    let e = with_line (pick (dclk was && not x) (clocked_out c.line) (pick (not (dclk was) && x) (clocked_in d c.line) c.line)) c in
    pick (not (load was) && y) (loaded e) e) (bit_1 b) (bit_2 b)

row_byte : (n was b : ℕ) (d : Bool) (cs : List Chip) → stepped_row n was b d cs ≡ stepped_row n was (b % 8) d cs
unfolding stepped_row
row_byte zero was b d cs = refl
row_byte (suc n) was b d [] = refl
row_byte (suc n) was b d (c ∷ cs) = ap₂ (λ x xs. x ∷ xs) (stepped_byte was b d c) (row_byte n was b (dout c) cs)

pub byte_step : (n was like b : ℕ) (cs : List Chip) → Alike was like → stepped_row n was b (din b) cs ≡ stepped_row n like (b % 8) (din (b % 8)) cs
byte_step n was like b cs a =
    row_alike n was like b (din b) cs a ∙ row_byte n like b (din b) cs ∙ ap (λ d. stepped_row n like (b % 8) d cs) (bit_0 b)

-- ---- one more

-- of two choices by one test the first is the same, and no end
by_test : (t : Bool) (up : Stretch) {rest more end next : Stretch} → up.rose ≡ true → end.rose ≡ false → pick t up rest ≡ end → (rest ≡ end → more ≡ next)
    → pick t up more ≡ next
by_test true up rose none e f = absurd (true≢false (sym rose ∙ ap (λ (x : Stretch). x.rose) e ∙ none))
by_test false up rose none e f = f e

pub stretch_one : (n place : ℕ) (ss : List ℕ) (s : ℕ) (ch : Chain) {stop : ℕ} {next : Chain} → stretch_from n place ss ch ≡ ended stop next → load_rises next.levels s ≡ false
    → stretch_from n place (ss ++ (s ∷ [])) ch ≡ ended (suc stop) (stepped_chain n s next)
unfolding stretch_from
stretch_one n place [] s ch e still =
    pick_no _ _ (ap (λ (x : Stretch). load_rises x.chain.levels s) e ∙ still)
    ∙ ap (λ (x : Stretch). ended (suc x.stop) (stepped_chain n s x.chain)) e
stretch_one n place (x ∷ ss) s ch e still =
    by_test (load_rises ch.levels x) (risen (suc place) (stepped_chain n x ch)) refl refl e
    (λ f. stretch_one n (suc place) ss s (stepped_chain n x ch) f still)
