-- A panel goes on from one block to the next.
--     chain_held       the records that any numbers stand for are held
--     start_stands     after a start the panel stands for the started chain
--     scan_stands      after a scan that is taken, for the chain with the scanned chip
--     block_stands     after a block that is taken, the panel's numbers pass the tests and stand for the chain that played it
--     panel_after      and what these numbers are; numbers_length, how many
--     chain_next       so the next call goes on from exactly that chain
--     next_length      with as many numbers as before
-- Assumes nothing.
use mathlib.Core.Path.{◌≡◌, refl, ap, ap₂, sym, subst, ◌∙◌}
use mathlib.Core.Bool.{Bool, true, false}
use mathlib.Core.List.{List, ◌∷◌, ◌++◌}
use Prim.Native.Nat.{ℕ, zero, suc, ◌+◌, ◌*◌, ◌≤◌, ◌<◌, suc-le-suc}
use native.Mathlib.Nat.{le_refl, mod-lt}
use native.Mathlib.Omega.{arith}
use borrow.Author.Tests.{le-ltb}
use lib.Dec.{T, leb, ltb, leb→le}
use lib.ListN.{length, get_or, drop, length-set, length-append, length-drop, take-append-drop}
use lib.Seq.{drop_at}
use Rattle.base.specs.Lent.{laid}
use Rattle.base.specs.Pick.{pick}
use Rattle.base.specs.Refusals.{Told, IsDone, done, refused, Outcome, hands_back, once_tested}
use Rattle.base.proofs.Picks.{pick_no, pick_cases}
use Rattle.base.proofs.Tests.{and_right}
use Rattle.chip.specs.declared.Chip.{Chip}
use Rattle.chip.specs.Record.{reset_chip}
use Rattle.chip.specs.Scans.{Recording, scanned, recorded}
use Rattle.chain.specs.declared.Chain.{Chain}
use Rattle.chain.specs.Blocks.{rises_in, block_of}
use Rattle.chain.specs.Entries.{start_chain, chip_at, with_chip, scanned_of}
use Rattle.chain.specs.Chain.{most, chip_count, all_valid, checked_from, tested_of, played}
use Rattle.chip.proofs.Held.{HeldChip, scanned_held, reset_held}
use Rattle.chain.proofs.Held.{AllHeld, played_held, set_held, played_length}
use Rattle.chain.proofs.Laws.{checked_below, played_rest, played_valid}
use Rattle.chain.proofs.Passed.{start_done}
use Rattle.chain.proofs.Tested.{tested_done, count_high}
use Rattle.zhaqsumir.specs.Panels.{from_chip, count_in, tested_in, record_in, chain_of, chain_numbers, panel_by, block_in, scanned_in, StartsNumbers, BlocksNumbers, ScansNumbers}
use Rattle.zhaqsumir.proofs.ChainPanels.{rows_length, Stands, chain_back}
use Rattle.zhaqsumir.proofs.ChipNumbers.{numbers_held}
use Rattle.zhaqsumir.proofs.Counts.{at_places}

-- ---- held records

places_held : (f : ℕ → Chip) (n m : ℕ) → ((k : ℕ) → HeldChip (f k)) → AllHeld n (at_places f m)
places_held f zero m each = tt
places_held f (suc n) zero each = tt
places_held f (suc n) (suc m) each = (each 0, places_held (λ k. f (suc k)) n m (λ k. each (suc k)))

pub chain_held : (ns : List ℕ) (n : ℕ) → AllHeld n (chain_of ns).chips
unfolding chain_of
chain_held ns n =
    places_held (record_in ns) n 8 (λ k. pick_cases HeldChip (ltb k (count_in ns)) (λ e. numbers_held (from_chip k ns)) (λ e. reset_held))

-- ---- a start, and a scan that is taken

pub start_stands : (n : ℕ) (ns : List ℕ) {answer ns' : List ℕ} → T (chip_count n) → StartsNumbers n ns answer ns' → Stands n start_chain ns'
start_stands n ns counts s =
    let put = s.panel ∙ ap (λ (o : Outcome Chain (Unit {0})). panel_by o.told (chain_numbers n most o.state) ns) (start_done n counts) in
    subst (Stands n start_chain) (sym put)
    (chain_back n most start_chain ns counts (count_high n counts) refl (omega arith) (places_held (λ k. reset_chip) most most (λ k. reset_held)))

-- a test that was passed
once_done : {S A : Type 0} (t : Told (Unit {0})) (given : S) (next : Outcome S A) → IsDone (once_tested t given next).told → (t ≡ done tt) × (once_tested t given next ≡ next)
once_done (done u) given next d = (refl, refl)
once_done (refused number place) given next d = absurd d

pick_done : {S A : Type 0} (b : Bool) (o : Outcome S A) (given : S) (number : ℕ) → IsDone (pick b o (hands_back given number 0)).told → pick b o (hands_back given number 0) ≡ o
pick_done true o given number d = refl
pick_done false o given number d = absurd d

pub scan_stands : (ns : List ℕ) (k : ℕ) (bytes : List ℕ) {answer ns' : List ℕ} → IsDone (scanned_in ns k bytes).told → ScansNumbers ns k bytes answer ns'
    → Stands (count_in ns) (with_chip k (scanned bytes (chip_at k (chain_of ns))) (chain_of ns)) ns'
unfolding scanned_of chain_of
scan_stands ns k bytes d s =
    let n = count_in ns in
    let ch = chain_of ns in
    let after = with_chip k (scanned bytes (chip_at k ch)) ch in
    let took : Outcome Chain Recording = record { state = after; told = done (recorded bytes (chip_at k ch)) } in
    let passed = once_done (tested_in ns) ch (scanned_of n ch k bytes) d in
    let d₁ : IsDone (scanned_of n ch k bytes).told = subst (λ (o : Outcome Chain Recording). IsDone o.told) passed.1 d in
    let valid = once_done (tested_of n ch) ch (pick (ltb k n) took (hands_back ch 2 0)) d₁ in
    let d₂ : IsDone (pick (ltb k n) took (hands_back ch 2 0)).told = subst (λ (o : Outcome Chain Recording). IsDone o.told) valid.1 d₁ in
    let is = passed.1 ∙ valid.1 ∙ pick_done (ltb k n) took ch 2 d₂ in
    let put = s.panel ∙ ap (λ (o : Outcome Chain Recording). panel_by o.told (chain_numbers n n o.state) ns) is in
    subst (Stands n after) (sym put)
    (chain_back n n after ns (tested_done n ch valid.0).0 (le_refl n) (length-set ch.chips k (scanned bytes (chip_at k ch))) (mod-lt (get_or ns 1 0) (omega arith))
    (set_held n k ch.chips (scanned bytes) (scanned_held bytes) (chain_held ns n)))

-- ---- a block's numbers

-- the numbers of the chips below N, after any samples
pub numbers_length : (ns ss : List ℕ) → T (chip_count (count_in ns)) → length (chain_numbers (count_in ns) (count_in ns) (played (count_in ns) ss (chain_of ns))) ≡ 2 + 25 * count_in ns
unfolding chain_of
numbers_length ns ss counts =
    let n = count_in ns in
    let few = count_high n counts in
    let long = played_length n ss (chain_of ns) in
    let row = rows_length n (played n ss (chain_of ns)).chips (omega arith) (played_held n ss (chain_of ns) (chain_held ns n)) in
    omega arith

-- ---- a block that is taken

-- what was tested, and what is left
pub record Taken (ns ss list : List ℕ) : Type 0 where
  pub passed : tested_in ns ≡ done tt
  pub valid : tested_of (count_in ns) (chain_of ns) ≡ done tt
  pub checked : checked_from 0 ss ≡ done tt
  pub is : block_in ns ss list ≡ record { state = played (count_in ns) ss (chain_of ns); told = done (length (rises_in (chain_of ns) ss)) }

pub taken : (ns ss list : List ℕ) → IsDone (block_in ns ss list).told → Taken ns ss list
unfolding block_of
taken ns ss list d =
    let n = count_in ns in
    let ch = chain_of ns in
    let plays : Outcome Chain ℕ = record { state = played n ss ch; told = done (length (rises_in ch ss)) } in
    let roomy : Outcome Chain ℕ = pick (leb (length (rises_in ch ss)) (length list)) plays (hands_back ch 8 0) in
    let first = once_done (tested_in ns) ch (block_of n ch ss list) d in
    let d₁ : IsDone (block_of n ch ss list).told = subst (λ (o : Outcome Chain ℕ). IsDone o.told) first.1 d in
    let second = once_done (tested_of n ch) ch (once_tested (checked_from 0 ss) ch roomy) d₁ in
    let d₂ : IsDone (once_tested (checked_from 0 ss) ch roomy).told = subst (λ (o : Outcome Chain ℕ). IsDone o.told) second.1 d₁ in
    let third = once_done (checked_from 0 ss) ch roomy d₂ in
    let d₃ : IsDone roomy.told = subst (λ (o : Outcome Chain ℕ). IsDone o.told) third.1 d₂ in
    record {
      passed = first.0;
      valid = second.0;
      checked = third.0;
      is = first.1 ∙ second.1 ∙ third.1 ∙ pick_done (leb (length (rises_in ch ss)) (length list)) plays ch 8 d₃;
    }

module _ (ns ss list : List ℕ) (t : Taken ns ss list) where
  -- the chain that played the block
  abbrev after : Chain
  after = played (count_in ns) ss (chain_of ns)

  pub panel_after : {answer ns' list' : List ℕ} → BlocksNumbers ns ss list answer ns' list' → ns' ≡ laid (chain_numbers (count_in ns) (count_in ns) after) ns
  panel_after b = b.panel ∙ ap (λ (o : Outcome Chain ℕ). panel_by o.told (chain_numbers (count_in ns) (count_in ns) o.state) ns) t.is

  pub counted : T (chip_count (count_in ns))
  counted = (tested_done (count_in ns) (chain_of ns) t.valid).0

  eight : length after.chips ≡ 8
  unfolding chain_of
  eight = played_length (count_in ns) ss (chain_of ns)

  held : AllHeld (count_in ns) after.chips
  held = played_held (count_in ns) ss (chain_of ns) (chain_held ns (count_in ns))

  low : after.levels < 256
  low =
      let n = count_in ns in
      let v = played_valid n ss (chain_of ns) (checked_below 0 ss t.checked) (tested_done n (chain_of ns) t.valid).1 in
      let l = leb→le after.levels 7 (and_right (all_valid n after.chips) (leb after.levels 7) v) in
      omega arith

  pub block_stands : {answer ns' list' : List ℕ} → BlocksNumbers ns ss list answer ns' list' → Stands (count_in ns) after ns'
  block_stands b =
      subst (Stands (count_in ns) after) (sym (panel_after b)) (chain_back (count_in ns) (count_in ns) after ns counted (le_refl (count_in ns)) eight low held)

-- ---- the next call

-- the values from a place on
places_from : {A : Type 0} (f g : ℕ → A) (n m : ℕ) → ((k : ℕ) → n ≤ k → f k ≡ g k) → drop n (at_places f m) ≡ drop n (at_places g m)
places_from f g zero zero each = refl
places_from f g (suc n) zero each = refl
places_from f g zero (suc m) each = ap₂ ◌∷◌ (each 0 (omega arith)) (places_from (λ k. f (suc k)) (λ k. g (suc k)) zero m (λ k h. each (suc k) (omega arith)))
places_from f g (suc n) (suc m) each = places_from (λ k. f (suc k)) (λ k. g (suc k)) n m (λ k h. each (suc k) (suc-le-suc h))

-- from N on there are reset chips
resets_from : (ns ms : List ℕ) → count_in ns ≡ count_in ms → drop (count_in ms) (chain_of ns).chips ≡ drop (count_in ms) (chain_of ms).chips
unfolding chain_of
resets_from ns ms e =
    places_from (record_in ns) (record_in ms) (count_in ms) 8 (λ k h. pick_no _ _ (le-ltb k (count_in ns) (omega arith)) ∙ sym (pick_no _ _ (le-ltb k (count_in ms) h)))

module _ (ns ss list : List ℕ) (t : Taken ns ss list) {answer ns' list' : List ℕ} (b : BlocksNumbers ns ss list answer ns' list') where
  pub chain_next : chain_of ns' ≡ played (count_in ns) ss (chain_of ns)
  chain_next =
      let n = count_in ns in
      let stands = block_stands ns ss list t b in
      let after = played n ss (chain_of ns) in
      let rest = resets_from ns' ns stands.count ∙ sym (played_rest n ss (chain_of ns)) in
      let chips = sym (take-append-drop n (chain_of ns').chips) ∙ ap₂ ◌++◌ stands.chips rest ∙ take-append-drop n after.chips in λ i.
      record { chips = chips i; levels = stands.levels i }

  pub next_length : length ns ≡ 202 → length ns' ≡ 202
  next_length size =
      let few = count_high (count_in ns) (counted ns ss list t) in
      let w = chain_numbers (count_in ns) (count_in ns) (played (count_in ns) ss (chain_of ns)) in
      let long = numbers_length ns ss (counted ns ss list t) in
      ap length (panel_after ns ss list t b) ∙ omega (arith, length-append w (drop (length w) ns), length-drop (length w) ns)

-- a piece put over one of its length
pub laid_over : (w v ns : List ℕ) → length w ≡ length v → laid w (laid v ns) ≡ laid w ns
laid_over w v ns e = ap (λ r. w ++ r) (drop_at v (drop (length v) ns) (length w) (sym e) ∙ ap (λ m. drop m ns) (sym e))
