-- Calls of `zhaqsumir_block` beside one call over the accepted blocks: specs/PanelBlocks.antt.
--     panel_accepted_joined     the last numbers are that call's
--     panel_sent_run            any calls have results that the contract allows
-- Assumes nothing.
use mathlib.Core.Path.{◌≡◌, refl, ap, sym, subst, ◌∙◌}
use mathlib.Core.Bool.{Bool, true, false, ◌&&◌}
use mathlib.Core.List.{List, [], ◌∷◌}
use Prim.Native.Nat.{ℕ, suc, ◌≤◌}
use native.Mathlib.Omega.{arith}
use borrow.Author.Tests.{leb-true}
use lib.Dec.{leb}
use lib.ListN.{length, get_or}
use Rattle.base.specs.Below.{below, AllBelow}
use Rattle.base.specs.Pick.{pick}
use Rattle.base.specs.Refusals.{Told, done, refused, hands_back, once_tested}
use Rattle.base.proofs.Lists.{below_append}
use Rattle.chain.specs.declared.Chain.{Chain}
use Rattle.chain.specs.Blocks.{rises_in, block_of, list_by}
use Rattle.chain.specs.Chain.{chip_count, valid_chain, tested_of, checked_from, played}
use Rattle.chain.proofs.Laws.{checked_below}
use Rattle.chain.proofs.Tested.{tested_done}
use Rattle.zhaqsumir.specs.Numbers.{number_in, alone}
use Rattle.zhaqsumir.specs.Panels.{count_in, chip_fits_in, tested_in, chain_of, chain_numbers, panel_by, block_in, BlocksNumbers}
use Rattle.zhaqsumir.proofs.ChainPanels.{no_samples}
use Rattle.zhaqsumir.proofs.GoesOn.{block_stands, chain_next, next_length}
use Rattle.demands.specs.Blocks.{Sent, block, scan, samples_of, LongEnough}
use Rattle.demands.specs.PanelBlocks.{PanelSends, over, called, AllAnswered, SoundPanel, PanelAcceptedJoined, PanelSentRun}
use Rattle.demands.proofs.PanelBlocks.{it_is_taken, panel_cut_law, panel_cut_exception}

-- ---- a call whose answer begins with 0

-- a test is passed, or refuses with a number
data Tells : Told (Unit {0}) → Type 0 where
  passes : Tells (done tt)
  refuses : {number place : ℕ} → (number ≡ 0 → ⊥) → Tells (refused number place)

two_tests : (a b : Bool) → Tells (pick a (pick b (done tt) (refused 12 0)) (refused 3 0))
two_tests true true = passes
two_tests true false = refuses {number = 12} (λ e. omega arith)
two_tests false b = refuses {number = 3} (λ e. omega arith)

numbers_test : (ns : List ℕ) → Tells (tested_in ns)
unfolding tested_in
numbers_test ns = two_tests (chip_count (count_in ns)) (leb (get_or ns 1 0) 255 && below (chip_fits_in ns) (count_in ns))

chain_test : (n : ℕ) (ch : Chain) → Tells (tested_of n ch)
unfolding tested_of
chain_test n ch = two_tests (chip_count n) (valid_chain n ch)

samples_test : (place : ℕ) (ss : List ℕ) → Tells (checked_from place ss)
unfolding checked_from
samples_test place [] = passes
samples_test place (s ∷ ss) = go (leb s 7) (samples_test (suc place) ss)
  where
    go : (b : Bool) {t : Told (Unit {0})} → Tells t → Tells (pick b t (refused 1 place))
    go true v = v
    go false v = refuses {number = 1} (λ e. omega arith)

-- the panel isn't refused, no sample is above 7, and the list is long enough
pub record Sound (ns ss list : List ℕ) : Type 0 where
  pub panel : SoundPanel ns
  pub small : AllBelow 8 ss
  pub room : length (rises_in (chain_of ns) ss) ≤ length list

sound : (ns ss list : List ℕ) → length ns ≡ 202 → number_in (block_in ns ss list).told ≡ 0 → Sound ns ss list
unfolding block_of
sound ns ss list size =
    go (tested_in ns) (tested_of (count_in ns) (chain_of ns)) (checked_from 0 ss) (leb (length (rises_in (chain_of ns) ss)) (length list)) refl refl refl refl
    (numbers_test ns)
    (chain_test (count_in ns) (chain_of ns))
    (samples_test 0 ss)
  where
    go : (t u w : Told (Unit {0})) (r : Bool) → tested_in ns ≡ t → tested_of (count_in ns) (chain_of ns) ≡ u → checked_from 0 ss ≡ w
        → leb (length (rises_in (chain_of ns) ss)) (length list) ≡ r
        → Tells t
        → Tells u
        → Tells w
        → number_in
        (once_tested t (chain_of ns)
        (once_tested u (chain_of ns)
        (once_tested w (chain_of ns)
        (pick r (record { state = played (count_in ns) ss (chain_of ns); told = done (length (rises_in (chain_of ns) ss)) }) (hands_back (chain_of ns) 8 0))))
        ).told
        ≡ 0
        → Sound ns ss list
    go t u w true e f g h passes passes passes z =
        record { panel = record { size = size; fits = e; valid = (tested_done (count_in ns) (chain_of ns) f).1 }; small = checked_below 0 ss g; room = leb-true _ _ h }
    go t u w false e f g h passes passes passes z = absurd (omega arith)
    go t u w r e f g h passes passes (refuses ne) z = absurd (ne z)
    go t u w r e f g h passes (refuses ne) y z = absurd (ne z)
    go t u w r e f g h (refuses ne) x y z = absurd (ne z)

-- ---- calls that all were accepted

-- there are none, or the law speaks of them
data Lawful (ns : List ℕ) : List Sent → Type 0 where
  none : Lawful ns []
  some : {sent : List Sent} → SoundPanel ns → AllBelow 8 (samples_of sent) → LongEnough (count_in ns) (chain_of ns) sent → Lawful ns sent

-- a call before them
one_before : {ns ns' ss list : List ℕ} {sent : List Sent} → Sound ns ss list → count_in ns' ≡ count_in ns → chain_of ns' ≡ played (count_in ns) ss (chain_of ns)
    → Lawful ns' sent
    → Lawful ns (block ss list ∷ sent)
one_before {ss = ss} {list = list} s count chain none = some {sent = block ss list ∷ []} s.panel (below_append 8 ss [] s.small tt) (s.room, tt)
one_before {ns} {ns'} {ss} {list} {sent} s count chain (some held small long) =
    some {sent = block ss list ∷ sent} s.panel (below_append 8 ss (samples_of sent) s.small small)
    (s.room, subst (λ x. LongEnough (count_in ns) x sent) chain (subst (λ m. LongEnough m (chain_of ns') sent) count long))

lawful : {ns end : List ℕ} {sent : List Sent} (ran : PanelSends ns sent end) → length ns ≡ 202 → AllAnswered ran → Lawful ns sent
lawful over size all = none
lawful {ns} (called {samples = ss} {list = list} answer ns' list' b next) size all =
    let s = sound ns ss list size (sym (ap (λ xs. get_or xs 0 0) b.numbers) ∙ all.0) in
    let t = it_is_taken ns s.panel ss list s.small s.room in
    one_before s (block_stands ns ss list t b).count (chain_next ns ss list t b) (lawful next (next_length ns ss list t b size) all.1)

-- one call over the whole
one_over : {ns end : List ℕ} {sent : List Sent} (ran : PanelSends ns sent end) → length ns ≡ 202 → Lawful ns sent → (list answer ns' list' : List ℕ)
    → BlocksNumbers ns (samples_of sent) list answer ns' list'
    → length (rises_in (chain_of ns) (samples_of sent)) ≤ length list
    → end ≡ ns'
one_over {ns} over size none list answer ns' list' b room = sym (no_samples ns list size b)
one_over {ns} {end} {sent} ran size (some held small long) list answer ns' list' b room =
    (panel_cut_law ns held sent small long end ran list answer ns' list' b room).ends

pub panel_accepted_joined : PanelAcceptedJoined
panel_accepted_joined ns size sent end ran list answer ns' list' b room =
    let accepted = (panel_cut_exception ns sent end ran).1 in
    one_over accepted.0 size (lawful accepted.0 size accepted.1) list answer ns' list' b room

-- ---- results

pub panel_sent_run : PanelSentRun
panel_sent_run ns [] only = (ns, over)
panel_sent_run ns (scan k bytes ∷ sent) only = absurd only
panel_sent_run ns (block ss list ∷ sent) only =
    let o = block_in ns ss list in
    let ns' = panel_by o.told (chain_numbers (count_in ns) (count_in ns) o.state) ns in
    let later = panel_sent_run ns' sent only in
    (later.0, called (alone o.told) ns' (list_by o.told (rises_in (chain_of ns) ss) list) (record { numbers = refl; panel = refl; places = refl }) later.1)
