-- Chips of a chain by their places: what a sample does to each.
--     part_at      lists of chips alike in a part are alike in it at each place
--     row_at       what holds of a chip before and after a sample holds at each place
--     obeys_at     at a LOAD rise each chip obeys the word that is then in its register
-- Assumes nothing.
use mathlib.Core.Path.{◌≡◌, refl, ap, sym, ◌∙◌}
use mathlib.Core.Bool.{Bool, true}
use mathlib.Core.List.{List, [], ◌∷◌, map}
use Prim.Native.Nat.{ℕ, zero, suc, ◌<◌}
use native.Mathlib.Nat.{not-suc-le-zero, le_of_suc-le-suc}
use lib.ListN.{length, get_or, get_or-map}
use Rattle.word.specs.Words.{decoded_of}
use Rattle.chip.specs.declared.Chip.{Chip}
use Rattle.chip.specs.Record.{body_of, reset_chip, with_line}
use Rattle.chip.specs.Commands.{applied_word, dout}
use Rattle.chip.specs.Edges.{din, load_rises, clocked, loaded, stepped}
use Rattle.chip.proofs.Quiet.{stepped_load, body_word, loaded_register}
use Rattle.chain.specs.declared.Chain.{Chain}
use Rattle.chain.specs.Chain.{stepped_row, stepped_chain}
use Rattle.chain.specs.Entries.{chip_at}

pub part_at : {A : Type 0} (f : Chip → A) (cs ds : List Chip) (k : ℕ) (d : Chip) → map f cs ≡ map f ds → f (get_or cs k d) ≡ f (get_or ds k d)
part_at f cs ds k d e = sym (get_or-map f cs k d) ∙ ap (λ xs. get_or xs k (f d)) e ∙ get_or-map f ds k d

-- what holds of a chip before and after a sample, whatever stands at its DIN, holds at each place
pub row_at : (P : Chip → Chip → Type 0) (was now : ℕ) → ((b : Bool) (c : Chip) → P c (stepped was now b c))
    → (n k : ℕ) (b : Bool) (cs : List Chip) (d : Chip) → k < n → k < length cs
    → P (get_or cs k d) (get_or (stepped_row n was now b cs) k d)
unfolding stepped_row
row_at P was now each zero k b cs d h l = absurd (not-suc-le-zero h)
row_at P was now each (suc n) k b [] d h l = absurd (not-suc-le-zero l)
row_at P was now each (suc n) zero b (c ∷ cs) d h l = each b c
row_at P was now each (suc n) (suc k) b (c ∷ cs) d h l = row_at P was now each n k (dout c) cs d (le_of_suc-le-suc h) (le_of_suc-le-suc l)

-- at a LOAD rise a chip obeys the word that is then in its register
obeys : (was now : ℕ) → load_rises was now ≡ true → (b : Bool) (c : Chip)
    → body_of (stepped was now b c) ≡ body_of (applied_word (decoded_of (stepped was now b c).line.register) c)
unfolding loaded
obeys was now e b c =
    rw (stepped_load was now b c e)
    (body_word (decoded_of x.line.register) x c refl ∙ ap (λ r. body_of (applied_word (decoded_of r) c)) (sym (loaded_register x)))
  where
    x : Chip
    x = with_line (clocked was now b c.line) c

-- so does each chip of a chain
pub obeys_at : (n s : ℕ) (ch : Chain) → load_rises ch.levels s ≡ true → (k : ℕ) → k < n → k < length ch.chips
    → body_of (chip_at k (stepped_chain n s ch)) ≡ body_of (applied_word (decoded_of (chip_at k (stepped_chain n s ch)).line.register) (chip_at k ch))
obeys_at n s ch e k h l =
    row_at (λ c x. body_of x ≡ body_of (applied_word (decoded_of x.line.register) c)) ch.levels s (obeys ch.levels s e) n k (din s) ch.chips reset_chip h l
