-- What a refused function of the library leaves of a panel that is lent as numbers (C-11), for proofs/Unchanged.antt.
--     start_kept, scan_kept     the panel's numbers
--     numbers_kept              of a block also the list
--     scan_zeros, lit_zeros, sees_zero     the answers' other numbers
-- Assumes nothing.
use mathlib.Core.Path.{◌≡◌, refl, ap, sym, ◌∙◌}
use mathlib.Core.Bool.{false}
use mathlib.Core.List.{List, [], ◌∷◌}
use Prim.Native.Nat.{ℕ, suc}
use native.Mathlib.Omega.{arith}
use lib.ListN.{get_or}
use Rattle.base.specs.Bits.{bit_value}
use Rattle.base.specs.Refusals.{Told, done, refused, Outcome}
use Rattle.chip.specs.Record.{blank}
use Rattle.chip.specs.Scans.{Recording}
use Rattle.chain.specs.Blocks.{rises_in, list_by}
use Rattle.chain.specs.Entries.{started_of}
use Rattle.zhaqsumir.specs.Numbers.{number_in, place_in}
use Rattle.zhaqsumir.specs.Panels.{chain_of, panel_by, StartsNumbers, block_in, BlocksNumbers, scan_by, scanned_in, ScansNumbers, sees_by}
use Rattle.zhaqsumir.specs.TwoWires.{lit_by}
use Rattle.demands.specs.Unchanged.{HandsBack, Refuses}
use Rattle.demands.proofs.UnchangedTally.{is_refusal}

-- ---- the panel's numbers

-- a refusal leaves them
panel_kept : {A : Type 0} (t : Told A) (first ns : List ℕ) {number place : ℕ} → t ≡ refused number place → panel_by t first ns ≡ ns
panel_kept t first ns e = ap (λ x. panel_by x first ns) e

pub start_kept : (n : ℕ) (ns answer ns' : List ℕ) → StartsNumbers n ns answer ns' → (number : ℕ) → get_or answer 0 0 ≡ suc number → ns' ≡ ns
start_kept n ns answer ns' s number e =
    s.panel ∙ panel_kept (started_of n).told _ ns (is_refusal (started_of n).told (sym (ap (λ xs. get_or xs 0 0) s.numbers) ∙ e))

pub numbers_kept : (ns samples list answer ns' list' : List ℕ) → BlocksNumbers ns samples list answer ns' list' → (number : ℕ) → get_or answer 0 0 ≡ suc number
    → (ns' ≡ ns) × (list' ≡ list)
numbers_kept ns samples list answer ns' list' b number e =
    let t = (block_in ns samples list).told in
    let told = is_refusal t (sym (ap (λ xs. get_or xs 0 0) b.numbers) ∙ e) in
    (b.panel ∙ panel_kept t _ ns told, b.places ∙ ap (λ x. list_by x (rises_in (chain_of ns) samples) list) told)

-- the first number of a scan's answer is its refusal
scan_number : (t : Told Recording) → get_or (scan_by t) 0 0 ≡ number_in t
scan_number (done what) = refl
scan_number (refused number place) = refl

pub scan_kept : (ns : List ℕ) (k : ℕ) (bytes answer ns' : List ℕ) → ScansNumbers ns k bytes answer ns' → (number : ℕ) → get_or answer 0 0 ≡ suc number → ns' ≡ ns
scan_kept ns k bytes answer ns' s number e =
    let t = (scanned_in ns k bytes).told in
    s.panel ∙ panel_kept t _ ns (is_refusal t (sym (ap (λ xs. get_or xs 0 0) s.numbers ∙ scan_number t) ∙ e))

-- ---- the answers

pub scan_zeros : (t : Told Recording) → Refuses (scan_by t) (0 ∷ 0 ∷ [])
scan_zeros (done what) number e = let z : 0 ≡ suc number = e in absurd (omega arith)
scan_zeros (refused m place) number e = refl

pub lit_zeros : (o : Outcome (List ℕ) (Unit {0})) → HandsBack o blank → Refuses (lit_by o) blank
lit_zeros o back number e = back (suc number) (place_in o.told) (is_refusal o.told e)

pub sees_zero : (o : Outcome _ (Unit {0})) → HandsBack o false → Refuses (sees_by o) (0 ∷ [])
sees_zero o back number e = ap (λ b. bit_value b ∷ []) (back (suc number) (place_in o.told) (is_refusal o.told e))
