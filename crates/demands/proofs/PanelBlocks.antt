-- A recording that arrives in blocks, in C: specs/PanelBlocks.antt.
--     it_is_taken             a call with samples up to 7 and a list that is long enough is taken
--     panel_cut_law           blocks of any lengths leave what one call over the whole leaves
--     panel_cut_exception     a refused call changes nothing
-- Assumes nothing.
use mathlib.Core.Path.{◌≡◌, refl, ap, ap₂, sym, subst, ◌∙◌}
use mathlib.Core.Bool.{Bool, true, false}
use mathlib.Core.Logic.{◌⊎◌, inl, inr}
use mathlib.Core.List.{List, [], ◌∷◌, ◌++◌, map}
use Prim.Native.Nat.{ℕ, zero, suc, ◌+◌, ◌≤◌}
use native.Mathlib.Omega.{arith}
use borrow.Author.Tests.{eq-eqb, ne_eqb}
use lib.Dec.{T, eqb}
use lib.ListN.{length, get_or, take, drop}
use lib.Seq.{take_at}
use Rattle.base.specs.Below.{AllBelow}
use Rattle.base.specs.Lent.{laid}
use Rattle.base.specs.Pick.{pick}
use Rattle.base.specs.Refusals.{Told, IsDone, done, refused, Outcome, once_tested}
use Rattle.base.proofs.Lists.{below_front, below_back}
use Rattle.base.proofs.Picks.{pick_yes, pick_no}
use Rattle.chain.specs.declared.Chain.{Chain}
use Rattle.chain.specs.Chain.{chip_count, valid_chain, played}
use Rattle.chain.specs.Blocks.{rises_from, rises_in, block_of, list_by}
use Rattle.chain.proofs.Laws.{last_of, played_append, played_levels, played_valid, below_checked}
use Rattle.chain.proofs.Passed.{tests_pass, block_done}
use Rattle.chain.proofs.Rises.{rises_append, rises_moved}
use Rattle.zhaqsumir.specs.Numbers.{alone}
use Rattle.zhaqsumir.specs.Panels.{count_in, tested_in, chain_of, chain_numbers, BlocksNumbers}
use Rattle.zhaqsumir.proofs.ChainPanels.{numbers_back}
use Rattle.zhaqsumir.proofs.GoesOn.{Taken, panel_after, block_stands, numbers_length, chain_next, next_length, laid_over}
use Rattle.demands.specs.Blocks.{Sent, block, samples_of, LongEnough, scan}
use Rattle.demands.specs.PanelBlocks.{PanelSends, over, called, AllAnswered, places_by, panel_places, SoundPanel, PanelCutLaw, RefusedLeaves, accepted_calls, PanelCutException}
use Rattle.demands.proofs.UnchangedPanels.{numbers_kept}

-- ---- one accepted call

-- a panel that isn't refused has 1 to 8 chips
counted : (ns : List ℕ) → tested_in ns ≡ done tt → T (chip_count (count_in ns))
unfolding tested_in
counted ns e = go (chip_count (count_in ns)) _ e
  where
    go : (b : Bool) (t : Told (Unit {0})) → pick b t (refused 3 0) ≡ done tt → T b
    go true t e = tt
    go false t e = absurd (subst IsDone (sym e) tt)

module _ (ns : List ℕ) (h : SoundPanel ns) (ss list : List ℕ) (below : AllBelow 8 ss) (room : length (rises_in (chain_of ns) ss) ≤ length list) where
  pub it_is_taken : Taken ns ss list
  it_is_taken =
      let tests = tests_pass (count_in ns) (chain_of ns) (counted ns h.fits) h.valid in
      let fine = below_checked 0 ss below in
      record {
        passed = h.fits;
        valid = tests;
        checked = fine;
        is = ap (λ (t : Told (Unit {0})). once_tested t (chain_of ns) (block_of (count_in ns) (chain_of ns) ss list)) h.fits ∙ block_done (count_in ns) (chain_of ns) tests ss list fine room;
      }

  -- the answer, and the places
  module _ {answer ns' list' : List ℕ} (b : BlocksNumbers ns ss list answer ns' list') where
    said : answer ≡ 0 ∷ 0 ∷ length (rises_in (chain_of ns) ss) ∷ []
    said = b.numbers ∙ ap (λ (o : Outcome Chain ℕ). alone o.told) it_is_taken.is

    accepted_0 : get_or answer 0 0 ≡ 0
    accepted_0 = ap (λ xs. get_or xs 0 0) said

    places_so : places_by answer list' ≡ rises_in (chain_of ns) ss
    places_so =
        let places = rises_in (chain_of ns) ss in
        ap (λ xs. places_by xs list') said
        ∙ ap (take (length places)) (b.places ∙ ap (λ (o : Outcome Chain ℕ). list_by o.told places list) it_is_taken.is)
        ∙ take_at places (drop (length places) list) (length places) refl

    -- the panel after it isn't refused either
    held_next : SoundPanel ns'
    held_next =
        let stands = block_stands ns ss list it_is_taken b in
        record {
          size = next_length ns ss list it_is_taken b h.size;
          fits = stands.passed;
          valid =
              subst (λ (x : Chain). T (valid_chain (count_in ns') x)) (sym (chain_next ns ss list it_is_taken b))
              (subst (λ m. T (valid_chain m (played (count_in ns) ss (chain_of ns)))) (sym stands.count) (played_valid (count_in ns) ss (chain_of ns) below h.valid));
        }

-- ---- the cut law

-- what blocks leave, so many samples having come before them
cut : (before : ℕ) {ns end : List ℕ} {sent : List Sent} (ran : PanelSends ns sent end) → SoundPanel ns → AllBelow 8 (samples_of sent)
    → LongEnough (count_in ns) (chain_of ns) sent
    → AllAnswered ran
    × (end ≡ laid (chain_numbers (count_in ns) (count_in ns) (played (count_in ns) (samples_of sent) (chain_of ns))) ns)
    × (panel_places before ran ≡ rises_from before (chain_of ns).levels (samples_of sent))
unfolding played rises_from
cut before {ns} over h below long = (tt, sym (numbers_back ns h.size h.fits), refl)
cut before {ns} (called {samples = ss} {list = list} {sent = sent} answer ns' list' b next) h below long =
    let m = count_in ns in
    let ch = chain_of ns in
    let rest = samples_of sent in
    let first = below_front 8 ss rest below in
    let t = it_is_taken ns h ss list first long.0 in
    let same = chain_next ns ss list t b in
    let count = (block_stands ns ss list t b).count in
    let later =
    cut (before + length ss) next (held_next ns h ss list first long.0 b) (below_back 8 ss rest below)
    (subst (λ x. LongEnough (count_in ns') x sent) (sym same) (subst (λ k. LongEnough k (played m ss ch) sent) (sym count) long.1)) in
    let levels : (chain_of ns').levels ≡ last_of ch.levels ss = ap (λ x. x.levels) same ∙ played_levels m ss ch in
    let zero_more : before + 0 ≡ before = omega arith in
    let w = chain_numbers m m (played m (ss ++ rest) ch) in
    let v = chain_numbers m m (played m ss ch) in
    let put : chain_numbers (count_in ns') (count_in ns') (played (count_in ns') rest (chain_of ns')) ≡ w = ap₂ (λ k x. chain_numbers k k (played k rest x)) count same ∙ ap (chain_numbers m m) (sym (played_append m ss rest ch)) in (
      (accepted_0 ns h ss list first long.0 b, later.0),
      later.1
          ∙ ap₂ laid put (panel_after ns ss list t b)
          ∙ laid_over w v ns (numbers_length ns (ss ++ rest) (counted ns h.fits) ∙ sym (numbers_length ns ss (counted ns h.fits))),
      ap₂ ◌++◌ (ap (map (λ p. before + p)) (places_so ns h ss list first long.0 b) ∙ sym (rises_moved before 0 ch.levels ss) ∙ ap (λ k. rises_from k ch.levels ss) zero_more)
          (later.2 ∙ ap (λ l. rises_from (before + length ss) l rest) levels)
          ∙ sym (rises_append before ch.levels ss rest),
    )

pub panel_cut_law : PanelCutLaw
panel_cut_law ns h sent below long end ran list answer ns' list' b room =
    let parts = cut 0 ran h below long in
    let t = it_is_taken ns h (samples_of sent) list below room in
    record {
      accepted = parts.0;
      whole = accepted_0 ns h (samples_of sent) list below room b;
      ends = parts.1 ∙ sym (panel_after ns (samples_of sent) list t b);
      places = parts.2 ∙ sym (places_so ns h (samples_of sent) list below room b);
    }

-- ---- the exception

-- the accepted ones of calls
abbrev Alone : List ℕ → List Sent → List ℕ → Type 0
Alone ns sent end = (alone : PanelSends ns sent end) × AllAnswered alone

-- a call that was accepted is one of them
one_more : {ns end ss list : List ℕ} {sent : List Sent} (answer ns' list' : List ℕ) → BlocksNumbers ns ss list answer ns' list' → get_or answer 0 0 ≡ 0 → Alone ns' sent end
    → Alone ns (pick (eqb (get_or answer 0 0) 0) (block ss list ∷ sent) sent) end
one_more {ns} {end} answer ns' list' b e a =
    subst (λ calls. Alone ns calls end) (sym (pick_yes _ _ (eq-eqb (get_or answer 0 0) 0 e))) (called answer ns' list' b a.0, (e, a.1))

-- one that was refused is not
none_more : {ns end : List ℕ} (ss list : List ℕ) {sent : List Sent} (answer ns' : List ℕ) → (get_or answer 0 0 ≡ 0 → ⊥) → ns' ≡ ns → Alone ns' sent end
    → Alone ns (pick (eqb (get_or answer 0 0) 0) (block ss list ∷ sent) sent) end
none_more {ns} {end} ss list {sent} answer ns' ne same a =
    subst (λ calls. Alone ns calls end) (sym (pick_no _ _ (ne_eqb (get_or answer 0 0) 0 ne))) (subst (λ x. Alone x sent end) same a)

pub panel_cut_exception : PanelCutException
panel_cut_exception ns [] end over = (tt, (over, tt))
panel_cut_exception ns (scan k bytes ∷ sent) end ran = elim ran [ ]
panel_cut_exception ns (block ss list ∷ sent) end (called answer ns' list' b next) = go (get_or answer 0 0) refl (panel_cut_exception ns' sent end next)
  where
    go : (m : ℕ) → get_or answer 0 0 ≡ m → RefusedLeaves next × Alone ns' (accepted_calls next) end
        → (((get_or answer 0 0 ≡ 0) ⊎ ((ns' ≡ ns) × (list' ≡ list))) × RefusedLeaves next)
        × Alone ns (pick (eqb (get_or answer 0 0) 0) (block ss list ∷ accepted_calls next) (accepted_calls next)) end
    go zero e later = ((inl e, later.0), one_more answer ns' list' b e later.1)
    go (suc m) e later =
        let kept = numbers_kept ns ss list answer ns' list' b m e in
        ((inr kept, later.0), none_more ss list answer ns' (λ z. omega arith) kept.0 later.1)
