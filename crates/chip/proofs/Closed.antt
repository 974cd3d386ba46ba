-- The smallest closed address.
--     result_le       a scan's result is at most 64
--     result_closed   below 64 it is a closed address
--     result_first    and no address below it is closed
--     result_is       a closed address with none closed below it is the result
--     result_none     where no address is closed the result is none
--     wakes_closed    where a scan wakes a chip that is asleep, a contact on SEG0 to SEG3 is closed
--     closed_wakes    and where one is closed, the scan wakes it
-- Assumes nothing.
use mathlib.Core.Path.{◌≡◌, ap, sym, ◌∙◌}
use mathlib.Core.Bool.{true, false, false≢true}
use mathlib.Core.List.{List}
use Prim.Native.Nat.{ℕ, zero, suc, ◌+◌, ◌/◌, ◌≤◌, ◌<◌}
use native.Mathlib.Omega.{arith}
use native.Mathlib.Nat.{le_trans, le_antisymm, lt_trans}
use lib.Dec.{T, ltb→lt, lt→ltb}
use Rattle.base.proofs.Picks.{pick_cases}
use Rattle.base.proofs.Tests.{by_order, by_equality}
use Rattle.chip.specs.Scans.{closed, first_closed, result, wakes}

first_le : (bytes : List ℕ) (more addr : ℕ) → first_closed bytes more addr ≤ addr + more
unfolding first_closed
first_le bytes zero addr = omega arith
first_le bytes (suc more) addr =
    pick_cases (λ r. r ≤ addr + suc more) (closed bytes addr) (λ e. omega arith) (λ e. le_trans (first_le bytes more (suc addr)) (omega arith))

pub result_le : (bytes : List ℕ) → result bytes ≤ 64
unfolding result
result_le bytes = first_le bytes 64 0

first_closed_lem : (bytes : List ℕ) (more addr : ℕ) → first_closed bytes more addr < addr + more → closed bytes (first_closed bytes more addr) ≡ true
unfolding first_closed
first_closed_lem bytes zero addr = λ h. absurd (omega arith)
first_closed_lem bytes (suc more) addr =
    pick_cases (λ r. r < addr + suc more → closed bytes r ≡ true) (closed bytes addr) (λ e h. e) (λ e h. first_closed_lem bytes more (suc addr) (omega arith))

pub result_closed : (bytes : List ℕ) → result bytes < 64 → closed bytes (result bytes) ≡ true
unfolding result
result_closed bytes = first_closed_lem bytes 64 0

first_first : (bytes : List ℕ) (more addr a : ℕ) → addr ≤ a → a < first_closed bytes more addr → closed bytes a ≡ false
unfolding first_closed
first_first bytes zero addr a from = λ h. absurd (omega arith)
first_first bytes (suc more) addr a from =
    pick_cases (λ r. a < r → closed bytes a ≡ false) (closed bytes addr) (λ e h. absurd (omega arith))
    (λ e h. by_equality a addr (λ same. ap (closed bytes) same ∙ e) (λ other. first_first bytes more (suc addr) a (omega arith) h))

pub result_first : (bytes : List ℕ) (a : ℕ) → a < result bytes → closed bytes a ≡ false
unfolding result
result_first bytes a = first_first bytes 64 0 a (omega arith)

pub result_is : (bytes : List ℕ) (a : ℕ) → a < 64 → closed bytes a ≡ true → ((b : ℕ) → b < a → closed bytes b ≡ false) → result bytes ≡ a
result_is bytes a h on first =
    by_order (result bytes) a
    (λ le.
    by_order a (result bytes) (λ ge. le_antisymm le ge) (λ lt. absurd (false≢true (sym (first (result bytes) lt) ∙ result_closed bytes (lt_trans lt h)))))
    (λ gt. absurd (false≢true (sym (result_first bytes a gt) ∙ on)))

pub result_none : (bytes : List ℕ) → ((b : ℕ) → b < 64 → closed bytes b ≡ false) → result bytes ≡ 64
result_none bytes off =
    by_order 64 (result bytes) (λ ge. le_antisymm (result_le bytes) ge) (λ lt. absurd (false≢true (sym (off (result bytes) lt) ∙ result_closed bytes lt)))

pub wakes_closed : (bytes : List ℕ) → T (wakes (result bytes)) → (result bytes / 8 < 4) × (closed bytes (result bytes) ≡ true)
wakes_closed bytes t = let h = ltb→lt (result bytes) 32 t in (omega arith, result_closed bytes (omega arith))

pub closed_wakes : (bytes : List ℕ) (a : ℕ) → a / 8 < 4 → closed bytes a ≡ true → T (wakes (result bytes))
closed_wakes bytes a low on =
    by_order (result bytes) a (λ h. lt→ltb (result bytes) 32 (omega arith)) (λ h. absurd (false≢true (sym (result_first bytes a h) ∙ on)))
