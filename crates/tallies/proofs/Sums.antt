-- The tallies of codes add up to the codes recorded.
--     sum_same, sum_plus, sum_zero, sum_exchange, sum_first     sums over the numbers below a bound
--     sum_at, sum_one  a sum to which one number below a bound alone adds
--     command_records  a command records no code
--     codes_add_up     of a chip's history
--     events_add_up    of what events add to a tally
-- Assumes nothing.
use mathlib.Core.Path.{◌≡◌, refl, ap, ap₂, sym, ◌∙◌}
use mathlib.Core.Bool.{Bool, true}
use mathlib.Core.List.{List, [], ◌∷◌, map}
use Prim.Native.Nat.{ℕ, zero, suc, ◌+◌, ◌≤◌, ◌<◌}
use native.Mathlib.Omega.{arith}
use lib.Dec.{eqb}
use lib.ListN.{length, length-map}
use borrow.Author.Tests.{eq-eqb, ne_eqb}
use Rattle.base.specs.Below.{sum_below}
use Rattle.base.specs.Bits.{bit_value}
use Rattle.base.specs.Pick.{pick}
use Rattle.base.proofs.Picks.{pick_yes, pick_no, pick_cases}
use Rattle.base.proofs.Tests.{by_equality}
use Rattle.chip.specs.declared.Chip.{Chip}
use Rattle.chip.specs.Scans.{Recording, nothing, key_code, over_unread, release_noted, result, scanned, recorded}
use Rattle.chip.specs.Commands.{applied}
use Rattle.chip.specs.History.{told, scan, is_key, times}
use Rattle.chip.proofs.Closed.{result_le}
use Rattle.chip.proofs.OneScan.{new_key_lem, recorded_new}
use Rattle.word.specs.declared.Command.{Command}
use Rattle.word.specs.declared.Command.TheVariants.{NoOperation, BarLevel, SegmentClear, SegmentSet, Reset, Sleep, ShiftLeft, ShiftRight, RotateLeft, RotateRight, CustomCharacter, SystemParameters, DisplayParameters, BlinkByte, ReadKey, LoadDigit}
use Rattle.chain.specs.declared.Chain.{Chain}
use Rattle.chain.specs.Chain.{most}
use Rattle.chain.specs.Entries.{chip_at}
use Rattle.chain.specs.Events.{Event}
use Rattle.tallies.specs.declared.Counts.{Counts}
use Rattle.tallies.specs.declared.Tally.{Tally}
use Rattle.tallies.specs.Counts.{plus, command_counts, record_counts, counts_of}
use Rattle.tallies.specs.Tallies.{each_place, own_history, counts_at, times_in, added}
use Rattle.tallies.proofs.Places.{place_further}
use Rattle.tallies.specs.Balance.{CodesAddUp, total, all_recorded, all_tallied, EventsAddUp}

-- ---- sums over numbers

pub sum_same : (f g : ℕ → ℕ) → ((k : ℕ) → f k ≡ g k) → (n : ℕ) → sum_below f n ≡ sum_below g n
sum_same f g same zero = refl
sum_same f g same (suc n) = ap₂ ◌+◌ (same n) (sum_same f g same n)

pub sum_plus : (f g : ℕ → ℕ) (n : ℕ) → sum_below (λ k. f k + g k) n ≡ sum_below f n + sum_below g n
sum_plus f g zero = refl
sum_plus f g (suc n) = let e = sum_plus f g n in omega arith

pub sum_zero : (n : ℕ) → sum_below (λ k. 0) n ≡ 0
sum_zero zero = refl
sum_zero (suc n) = let e = sum_zero n in omega arith

pub sum_exchange : (f : ℕ → ℕ → ℕ) (m n : ℕ) → sum_below (λ j. sum_below (f j) m) n ≡ sum_below (λ k. sum_below (λ j. f j k) n) m
sum_exchange f m zero = sym (sum_zero m)
sum_exchange f m (suc n) =
    let e = sum_exchange f m n in
    let p = sum_plus (f n) (λ k. sum_below (λ j. f j k) n) m in
    omega arith

pub sum_first : (f : ℕ → ℕ) (n : ℕ) → sum_below f (suc n) ≡ f 0 + sum_below (λ k. f (suc k)) n
sum_first f zero = refl
sum_first f (suc n) = let e = sum_first f n in omega arith

-- none of the numbers below a bound is one that isn't below it
sum_past : (v m n : ℕ) → n ≤ m → sum_below (λ k. pick (eqb m k) v 0) n ≡ 0
sum_past v m zero h = refl
sum_past v m (suc n) h =
    let none : pick (eqb m n) v 0 ≡ 0 = pick_no v 0 (ne_eqb m n (λ e. omega arith)) in
    let rest = sum_past v m n (omega arith) in
    omega arith

pub sum_at : (v m n : ℕ) → m < n → sum_below (λ k. pick (eqb m k) v 0) n ≡ v
sum_at v m zero h = absurd (omega arith)
sum_at v m (suc n) h =
    by_equality m n
    (λ e.
    let one : pick (eqb m n) v 0 ≡ v = pick_yes v 0 (eq-eqb m n e) in
    let rest = sum_past v m n (omega arith) in
    omega arith)
    (λ ne.
    let none : pick (eqb m n) v 0 ≡ 0 = pick_no v 0 (ne_eqb m n ne) in
    let rest = sum_at v m n (omega arith) in
    omega arith)

pub sum_one : (m n : ℕ) → m < n → sum_below (λ k. bit_value (eqb m k)) n ≡ 1
sum_one m n h =
    sum_same (λ k. bit_value (eqb m k)) (λ k. pick (eqb m k) 1 0) (λ k. pick_cases (λ (x : ℕ). bit_value (eqb m k) ≡ x) (eqb m k) (λ e. ap bit_value e) (λ e. ap bit_value e)) n
    ∙ sum_at 1 m n h

-- ---- a chip

-- a code that a scan records is below 128
code_below : (bytes : List ℕ) (c : Chip) (code : ℕ) → is_key code (recorded bytes c) ≡ true → code < 128
code_below bytes c code e =
    let p = recorded_new code (result bytes) c e in
    let q = new_key_lem (result bytes) c.keys p.2 in
    let l = result_le bytes in
    by_equality (result bytes) 64 (λ same. absurd (q.1 same)) (λ other. omega arith)

-- so one code or none is a record's
record_sum : (what : Recording) → ((code : ℕ) → is_key code what ≡ true → code < 128)
    → sum_below (λ code. bit_value (is_key code what)) 128 ≡ (record_counts what).recorded
record_sum nothing small = sum_zero 128
record_sum (key_code code) small = sum_one code 128 (small code (eq-eqb code code refl))
record_sum (over_unread code) small = sum_one code 128 (small code (eq-eqb code code refl))
record_sum release_noted small = sum_zero 128

-- a command records none
pub command_records : (command : Command) (keyb stands : Bool) → (command_counts command keyb stands).recorded ≡ 0
command_records NoOperation keyb stands = refl
command_records (BarLevel level) keyb stands = refl
command_records (SegmentClear addr) keyb stands = refl
command_records (SegmentSet addr) keyb stands = refl
command_records Reset keyb stands = refl
command_records Sleep keyb stands = refl
command_records ShiftLeft keyb stands = refl
command_records ShiftRight keyb stands = refl
command_records RotateLeft keyb stands = refl
command_records RotateRight keyb stands = refl
command_records (CustomCharacter shape) keyb stands = refl
command_records (SystemParameters s) keyb stands = refl
command_records (DisplayParameters d) keyb stands = refl
command_records (BlinkByte byte) keyb stands = refl
command_records ReadKey keyb stands = refl
command_records (LoadDigit dig byte) keyb stands = refl

-- no more
pub none_more : {a b : ℕ} (z : ℕ) → z ≡ 0 → a ≡ b → a ≡ z + b
none_more z e f = omega arith

pub codes_add_up : CodesAddUp
unfolding counts_of
codes_add_up [] c = sum_zero 128
codes_add_up (told command ∷ h) c =
    none_more _ (command_records command c.settings.system.keyb c.keys.interrupt) (codes_add_up h (applied command c))
codes_add_up (scan bytes ∷ h) c =
    sum_plus (λ code. bit_value (is_key code (recorded bytes c))) (λ code. times code h (scanned bytes c)) 128
    ∙ ap₂ ◌+◌ (record_sum (recorded bytes c) (code_below bytes c)) (codes_add_up h (scanned bytes c))

-- ---- a tally

-- a sum of elements each of which goes up by what its place says
total_added : (f : ℕ → ℕ) (xs : List ℕ) → total (each_place (λ j x. x + f j) 0 xs) ≡ total xs + sum_below f (length xs)
unfolding total each_place
total_added f [] = refl
total_added f (x ∷ xs) =
    let s = ap total (place_further (λ j y. y + f j) 0 xs) in
    let e = total_added (λ j. f (suc j)) xs in
    let p = sum_first f (length xs) in
    omega arith

-- the codes recorded, chip by chip
recorded_added : (f : ℕ → Counts) (k : ℕ) (cs : List Counts)
    → map (λ (c : Counts). c.recorded) (each_place (λ j x. plus x (f j)) k cs) ≡ each_place (λ j x. x + (f j).recorded) k (map (λ (c : Counts). c.recorded) cs)
unfolding each_place
recorded_added f k [] = refl
recorded_added f k (c ∷ cs) = ap (λ ys. (c.recorded + (f k).recorded) ∷ ys) (recorded_added f (suc k) cs)

-- what events add to each
module _ (n : ℕ) (es : List Event) (ch : Chain) (t : Tally) where
  tallied_more : length t.codes ≡ 128 → all_tallied (added n es ch t) ≡ all_tallied t + sum_below (times_in n es ch) 128
  unfolding added
  tallied_more size = total_added (times_in n es ch) t.codes ∙ ap (λ m. total t.codes + sum_below (times_in n es ch) m) size

  recorded_more : length t.chips ≡ most → all_recorded (added n es ch t) ≡ all_recorded t + sum_below (λ k. (counts_at n es ch k).recorded) most
  unfolding added
  recorded_more size =
      ap total (recorded_added (counts_at n es ch) 0 t.chips)
      ∙ total_added (λ k. (counts_at n es ch k).recorded) (map (λ (c : Counts). c.recorded) t.chips)
      ∙ ap (λ m. all_recorded t + sum_below (λ k. (counts_at n es ch k).recorded) m) (length-map t.chips (λ (c : Counts). c.recorded) ∙ size)

  all_times : sum_below (times_in n es ch) 128 ≡ sum_below (λ k. (counts_at n es ch k).recorded) most
  all_times =
      sum_exchange (λ code k. times code (own_history k n es ch) (chip_at k ch)) most 128
      ∙ sum_same (λ k. sum_below (λ code. times code (own_history k n es ch) (chip_at k ch)) 128) (λ k. (counts_at n es ch k).recorded)
      (λ k. codes_add_up (own_history k n es ch) (chip_at k ch)) most

-- both go up alike
alike : {t' r' : ℕ} (t r x y : ℕ) → t' ≡ t + x → r' ≡ r + y → x ≡ y → t' + r ≡ t + r'
alike t r x y p q e = omega arith

pub events_add_up : EventsAddUp
events_add_up n es ch t chips codes =
    alike (all_tallied t) (all_recorded t) (sum_below (times_in n es ch) 128) (sum_below (λ k. (counts_at n es ch k).recorded) most) (tallied_more n es ch t codes) (recorded_more n es ch t chips)
    (all_times n es ch t)
