-- Bar levels from 64 on, 65 to 127 among them, light all 64 segments.
--     bar_full            under a level of 64 or more every digit is FFH
--     full_bar_applied    such a level gives eight FFH, whatever stood there, and does nothing else but wake the chip and end a readout
--     full_bar_at_load    so does a LOAD rise with its word, where the level has one
-- Assumes nothing.
use mathlib.Core.Path.{◌≡◌, ap, ◌∙◌}
use mathlib.Core.Bool.{true}
use mathlib.Core.List.{List, [], ◌∷◌}
use Prim.Native.Nat.{ℕ, ◌+◌, ◌≤◌, ◌<◌}
use native.Mathlib.Omega.{arith}
use borrow.Author.Tests.{lt-ltb}
use lib.Dec.{ltb, lit<}
use Rattle.base.specs.Bits.{byte_of}
use Rattle.base.specs.Refusals.{done}
use Rattle.base.proofs.Bytes.{byte_same}
use Rattle.word.specs.declared.Command.TheVariants.{BarLevel}
use Rattle.word.proofs.RoundTrips.{bar_word}
use Rattle.chip.specs.declared.Chip.{Chip}
use Rattle.chip.specs.Record.{with_digits}
use Rattle.chip.specs.Commands.{address, bar, woken, obey, applied}
use Rattle.chip.specs.Cases.{AtLoad, all_lit}
use Rattle.chip.proofs.Cases.{at_load}

-- one digit: each of its eight addresses is below 64
digit_full : (level dig : ℕ) → 64 ≤ level → dig < 8 → byte_of (λ s. ltb (address s dig) level) ≡ 0xFF
digit_full level dig h d = byte_same (λ s. ltb (address s dig) level) (λ s. true) (λ s l. lt-ltb (address s dig) level (omega arith))

pub bar_full : (level : ℕ) → 64 ≤ level → bar level ≡ all_lit
unfolding bar
bar_full level h = λ i.
    digit_full level 0 h (lit< tt) i ∷ digit_full level 1 h (lit< tt) i ∷ digit_full level 2 h (lit< tt) i ∷ digit_full level 3 h (lit< tt) i
    ∷ digit_full level 4 h (lit< tt) i ∷ digit_full level 5 h (lit< tt) i ∷ digit_full level 6 h (lit< tt) i ∷ digit_full level 7 h (lit< tt) i ∷ []

pub full_bar_applied : (level : ℕ) → 64 ≤ level → (c : Chip) → applied (BarLevel level) c ≡ with_digits all_lit (woken c)
unfolding applied obey
full_bar_applied level h c = ap (λ (ds : List ℕ). with_digits ds (woken c)) (bar_full level h)

pub full_bar_at_load : (level : ℕ) → 64 ≤ level → level ≤ 127
    → AtLoad (0b000100000000 + level) (λ c d. d ≡ with_digits all_lit (woken c))
full_bar_at_load level h l c r =
    at_load (0b000100000000 + level) (done (BarLevel level)) (bar_word level l) (λ (d : Chip). d) c r ∙ full_bar_applied level h c
