-- "One chip alone counts as N = 1": the theorem.
--     alone_is_one     what the entries of one chip tell and hand back is what those of a chain of one do
-- Assumes nothing.
use mathlib.Core.Path.{◌≡◌, refl}
use mathlib.Core.Bool.{Bool, true, false, ◌&&◌}
use mathlib.Core.List.{List, [], ◌∷◌}
use Prim.Native.Nat.{ℕ, ◌≤◌}
use native.Mathlib.Omega.{arith}
use borrow.Author.Tests.{le-leb}
use lib.Dec.{leb}
use lib.ListN.{length}
use Rattle.base.specs.Pick.{pick}
use Rattle.base.specs.Refusals.{Told, done, refused, Outcome, hands_back, once_tested}
use Rattle.word.specs.declared.Command.{Command}
use Rattle.word.specs.Words.{legal}
use Rattle.chip.specs.declared.Chip.{Chip}
use Rattle.chip.specs.Record.{valid, blank}
use Rattle.chip.specs.Edges.{din, stepped}
use Rattle.chip.specs.Commands.{applied}
use Rattle.chip.specs.Scans.{scanned, recorded}
use Rattle.chip.specs.Segments.{lit_of}
use Rattle.chip.specs.Entries as One
use Rattle.chain.specs.declared.Chain.{Chain}
use Rattle.chain.specs.Chain.{most, all_valid, tested_of, checked_from, stepped_row, played}
use Rattle.chain.specs.Entries.{chip_at, with_chip, played_of, scanned_of, applied_of, segments_of}
use Rattle.demands.specs.Alone.{SameAlone, AloneIsOne}

-- the first tests of a chain of one
abbrev first_tests : Bool → Bool → Told (Unit {0})
first_tests v l = pick ((v && true) && l) (done tt) (refused 12 0)

module _ (c : Chip) (cs : List Chip) (levels : ℕ) where
  abbrev ch : Chain
  ch = record { chips = c ∷ cs; levels = levels }

  -- one sample: by the three tests
  sample_so : (s : ℕ) (v l k : Bool) (next : Chain) (d : Chip) → chip_at 0 next ≡ d
      → SameAlone {A = Unit {0}}
      (once_tested (first_tests v l) ch (once_tested (pick k (done tt) (refused 1 0)) ch (record { state = next; told = done tt })))
      (pick v (pick l (pick k (record { state = d; told = done tt }) (hands_back c 1 0)) (hands_back c 12 0)) (hands_back c 12 0))
  sample_so s true true true next d e = (refl, e)
  sample_so s true true false next d e = (refl, refl)
  sample_so s true false k next d e = (refl, refl)
  sample_so s false l k next d e = (refl, refl)

  -- a chip that is named, in range: by the record's test
  named_so : {A : Type 0} (v l : Bool) → l ≡ true → (next : Outcome Chain A) (one : Outcome Chip A) → SameAlone next one
      → SameAlone (once_tested (first_tests v l) ch next) (pick v one (hands_back c 12 0))
  named_so true true e next one y = y
  named_so true false e next one y = let z : ◌≡◌ {A = ℕ} 0 1 = cc in absurd (omega arith)
  named_so false l e next one y = (refl, refl)

  lit_so : (v l : Bool) → l ≡ true → (segments : List ℕ)
      → once_tested {A = Unit {0}} (first_tests v l) blank (record { state = segments; told = done tt }) ≡ pick v (record { state = segments; told = done tt }) (hands_back blank 12 0)
  lit_so true true e segments = refl
  lit_so true false e segments = let z : ◌≡◌ {A = ℕ} 0 1 = cc in absurd (omega arith)
  lit_so false l e segments = refl

  legal_so : (b : Bool) (command : Command)
      → SameAlone {A = Unit {0}} (pick b (record { state = with_chip 0 (applied command c) ch; told = done tt }) (hands_back ch 9 0))
      (pick b (record { state = applied command c; told = done tt }) (hands_back c 9 0))
  legal_so true command = (refl, refl)
  legal_so false command = (refl, refl)

  sample_alone : (s : ℕ) → SameAlone (played_of 1 ch (s ∷ [])) (One.sampled_of c levels s)
  unfolding played_of tested_of all_valid checked_from played stepped_row One.sampled_of
  sample_alone s = sample_so s (valid c) (leb levels 7) (leb s 7) (played 1 (s ∷ []) ch) (stepped levels s (din s) c) refl

  module _ (low : levels ≤ 7) where
    scan_alone : (bytes : List ℕ) → SameAlone (scanned_of 1 ch 0 bytes) (One.scanned_of c bytes)
    unfolding scanned_of tested_of all_valid One.scanned_of
    scan_alone bytes =
        named_so (valid c) (leb levels 7) (le-leb levels 7 low) (record { state = with_chip 0 (scanned bytes c) ch; told = done (recorded bytes c) }) _ (refl, refl)

    apply_alone : (command : Command) → SameAlone (applied_of 1 ch 0 command) (One.applied_of c command)
    unfolding applied_of tested_of all_valid One.applied_of
    apply_alone command = named_so (valid c) (leb levels 7) (le-leb levels 7 low) _ _ (legal_so (legal command) command)

    segments_alone : segments_of 1 ch 0 ≡ One.segments_of c
    unfolding segments_of tested_of all_valid One.segments_of
    segments_alone = lit_so (valid c) (leb levels 7) (le-leb levels 7 low) (lit_of c)

-- a chain has a first chip
with_first {ℓ} : (P : Chain → Type ℓ) → ((c : Chip) (cs : List Chip) (levels : ℕ) → P (record { chips = c ∷ cs; levels = levels })) → (ch : Chain)
    → length ch.chips ≡ most → P ch
with_first P each ch size = go ch.chips size
  where
    go : (cs : List Chip) → length cs ≡ most → P (record { chips = cs; levels = ch.levels })
    go [] e = let z : 0 ≡ most = e in absurd (omega arith)
    go (c ∷ cs) e = each c cs ch.levels

pub alone_is_one : AloneIsOne
alone_is_one =
    record {
      sample = with_first (λ ch. (s : ℕ) → SameAlone (played_of 1 ch (s ∷ [])) (One.sampled_of (chip_at 0 ch) ch.levels s)) sample_alone;
      scan =
          with_first (λ ch. ch.levels ≤ 7 → (bytes : List ℕ) → SameAlone (scanned_of 1 ch 0 bytes) (One.scanned_of (chip_at 0 ch) bytes)) scan_alone;
      apply =
          with_first (λ ch. ch.levels ≤ 7 → (command : Command) → SameAlone (applied_of 1 ch 0 command) (One.applied_of (chip_at 0 ch) command)) apply_alone;
      segments = with_first (λ ch. ch.levels ≤ 7 → segments_of 1 ch 0 ≡ One.segments_of (chip_at 0 ch)) segments_alone;
    }
