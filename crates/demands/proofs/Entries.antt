-- The events of demand 3 and the entries of a chain: what happens is what `play` and `scan` do, and neither is refused.
--     start_asked      a chain as `start` gives it is as demand 3 asks
--     going_tested     a chain in the middle of a write passes the tests that come first in every entry
--     play_happens     so `play` leaves what its samples as events leave
--     scan_happens     and `scan` what its scan as an event leaves
-- Assumes nothing.
use mathlib.Core.Path.{◌≡◌, refl, ap, ◌∙◌}
use mathlib.Core.List.{List, [], ◌∷◌, map}
use Prim.Native.Nat.{ℕ, zero, suc, ◌<◌}
use lib.Dec.{T, leb}
use lib.ListN.{replicate}
use Rattle.base.specs.Refusals.{done}
use Rattle.base.proofs.Tests.{and_left}
use Rattle.chip.specs.Record.{reset_chip}
use Rattle.chip.specs.Scans.{recorded}
use Rattle.chain.specs.declared.Chain.{Chain}
use Rattle.chain.specs.Chain.{most, chip_count, all_valid, tested_of, checked_from, KeypadLast}
use Rattle.chain.specs.Entries.{chip_at, start_chain, played_of, scanned_of}
use Rattle.chain.proofs.Histories.{played_happens}
use Rattle.chain.proofs.Passed.{tests_pass, start_valid, play_done, scan_done}
use Rattle.chain.specs.Events.{sample, scan, happened}
use Rattle.writer.specs.Rows.{list_test}
use Rattle.demands.specs.Demand3.{Asked}
use Rattle.demands.proofs.Going.{Going}

-- ---- the start

resets_off : (n many : ℕ) → KeypadLast n (replicate many reset_chip)
resets_off zero many = tt
resets_off (suc zero) many = tt
resets_off (suc (suc n)) zero = tt
resets_off (suc (suc n)) (suc many) = (refl, resets_off (suc n) many)

pub start_asked : (n : ℕ) (ws : List ℕ) → T (chip_count n) → list_test n ws ≡ done tt → Asked n start_chain ws
start_asked n ws count accepted =
    record {
      chain = record {
        panel = record {
          count = count;
          places = refl;
          valid = and_left (all_valid n start_chain.chips) (leb start_chain.levels 7) (start_valid n);
          keypad = resets_off n most;
        };
        levels = record { small = tt; dclk_high = refl; load_high = refl };
      };
      accepted = accepted;
    }

-- ---- the tests that come first

pub going_tested : (n : ℕ) (ch : Chain) (rows : List (List ℕ)) (ss : List ℕ) → T (chip_count n) → Going n most ch rows ss → tested_of n ch ≡ done tt
going_tested n ch rows ss count g = tests_pass n ch count g.standing.valid

-- ---- the entries

pub play_happens : (n : ℕ) (ch : Chain) (ss : List ℕ) → tested_of n ch ≡ done tt → checked_from 0 ss ≡ done tt
    → played_of n ch ss ≡ record { state = happened n (map sample ss) ch; told = done tt }
play_happens n ch ss e f = play_done n ch e ss f ∙ ap (λ x. record { state = x; told = done tt }) (played_happens n ss ch)

pub scan_happens : (n : ℕ) (ch : Chain) (k : ℕ) (bytes : List ℕ) → tested_of n ch ≡ done tt → k < n
    → scanned_of n ch k bytes ≡ record { state = happened n (scan k bytes ∷ []) ch; told = done (recorded bytes (chip_at k ch)) }
scan_happens n ch k bytes e h = scan_done n ch e k bytes h
