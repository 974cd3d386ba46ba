-- A recording that arrives in blocks: specs/Blocks.antt.
--     accepted              a call with samples up to 7 and a list that is long enough is accepted, and writes its rises' places
--     cut_law               blocks of any lengths leave what one call over the whole leaves
--     cut_exception         a refused block is refused alone
-- Assumes nothing.
use mathlib.Core.Path.{◌≡◌, refl, ap, ap₂, sym, subst, ◌∙◌}
use mathlib.Core.Bool.{Bool, true, false}
use mathlib.Core.Logic.{◌⊎◌, inl, inr}
use mathlib.Core.List.{List, [], ◌∷◌, ◌++◌, map}
use Prim.Native.Nat.{ℕ, ◌+◌, ◌≤◌}
use native.Mathlib.Omega.{arith}
use lib.Dec.{T, leb}
use lib.ListN.{length, take, drop}
use lib.Seq.{take_at}
use Rattle.base.specs.Below.{AllBelow}
use Rattle.base.specs.Lent.{laid}
use Rattle.base.specs.Pick.{pick}
use Rattle.base.specs.Refusals.{Told, IsDone, done, refused, Outcome, once_tested, tells}
use Rattle.base.proofs.Lists.{below_front, below_back}
use Rattle.chain.specs.declared.Chain.{Chain}
use Rattle.chain.specs.Chain.{chip_count, valid_chain, tested_of, checked_from, played}
use Rattle.chain.specs.Blocks.{rises_from, rises_in, block_of, list_by, Blocks}
use Rattle.chain.proofs.Laws.{last_of, played_append, played_levels, played_valid, below_checked}
use Rattle.chain.proofs.Passed.{tests_pass, block_done}
use Rattle.chain.proofs.Rises.{rises_append, rises_moved}
use Rattle.demands.specs.Blocks.{Sent, block, scan, samples_of, Sends, over, called, scanned, NoneRefused, LongEnough, BlocksOnly, places_of, places_in, CutLaw, accepted_of, accepted_in, CutException}
use Rattle.demands.proofs.Unchanged.{block_kept, list_kept}
use Rattle.std.specs.declared.result.Result.{Result}
use Rattle.std.specs.declared.result.Result.TheVariants.{Ok, Err}
use Rattle.base.specs.declared.Refusal.{Refusal}
use Rattle.base.specs.declared.Handed.{Handed}

-- ---- one accepted call

-- an answer that tells a number of places
places_count : (a : Result ℕ Refusal) (list : List ℕ) (count : ℕ) → tells a ≡ done count → places_of a list ≡ take count list
places_count (Ok c) list count e = let same : c ≡ count = cc in ap (λ m. take m list) same
places_count (Err x) list count e = absurd (subst IsDone (sym e) tt)

-- a call whose samples and list are as they should be, of a panel that passes the first tests
pub record Accepted (n : ℕ) (ch : Chain) (samples : List ℕ) (r : Handed Chain ℕ) (list' : List ℕ) : Type 0 where
  pub answered : IsDone (tells r.answer)
  pub chain : r.value ≡ played n samples ch
  pub places : places_of r.answer list' ≡ rises_in ch samples

pub accepted : (n : ℕ) (ch : Chain) → tested_of n ch ≡ done tt → (samples list : List ℕ) → AllBelow 8 samples → length (rises_in ch samples) ≤ length list
    → (r : Handed Chain ℕ) (list' : List ℕ) → Blocks n ch samples list r list' → Accepted n ch samples r list'
accepted n ch tests samples list below room r list' b =
    let does = block_done n ch tests samples list (below_checked 0 samples below) room in
    let so = b.answer ∙ does in
    let told : tells r.answer ≡ done (length (rises_in ch samples)) = ap (λ o. o.told) so in
    let laid_so : list' ≡ laid (rises_in ch samples) list = b.places ∙ ap (λ (o : Outcome Chain ℕ). list_by o.told (rises_in ch samples) list) does in
    record {
      answered = subst IsDone (sym told) tt;
      chain = ap (λ o. o.state) so;
      places =
          places_count r.answer list' (length (rises_in ch samples)) told
          ∙ ap (take (length (rises_in ch samples))) laid_so
          ∙ take_at (rises_in ch samples) (drop (length (rises_in ch samples)) list) (length (rises_in ch samples)) refl;
    }

-- ---- the cut law

module _ (n : ℕ) (count : T (chip_count n)) where
  -- what blocks leave, so many samples having come before them
  cut : (before : ℕ) {ch ch' : Chain} {sent : List Sent} (ran : Sends n ch sent ch') → T (valid_chain n ch) → BlocksOnly sent → AllBelow 8 (samples_of sent)
      → LongEnough n ch sent
      → NoneRefused ran × (ch' ≡ played n (samples_of sent) ch) × (places_in before ran ≡ rises_from before ch.levels (samples_of sent))
  unfolding played rises_from
  cut before over v only below long = (tt, refl, refl)
  cut before (scanned r contract next) v only below long = absurd only
  cut before {ch} (called {samples = ss} {list = list} {sent = sent} r list' contract next) v only below long =
      let first = below_front 8 ss (samples_of sent) below in
      let a = accepted n ch (tests_pass n ch count v) ss list first long.0 r list' contract in
      let same = a.chain in
      let later =
      cut (before + length ss) next (subst (λ x. T (valid_chain n x)) (sym same) (played_valid n ss ch first v)) only (below_back 8 ss (samples_of sent) below)
      (subst (λ x. LongEnough n x sent) (sym same) long.1) in
      let levels : r.value.levels ≡ last_of ch.levels ss = ap (λ x. x.levels) same ∙ played_levels n ss ch in
      let zero_more : before + 0 ≡ before = omega arith in (
        (a.answered, later.0),
        later.1 ∙ ap (played n (samples_of sent)) same ∙ sym (played_append n ss (samples_of sent) ch),
        ap₂ ◌++◌ (ap (map (λ p. before + p)) a.places ∙ sym (rises_moved before 0 ch.levels ss) ∙ ap (λ m. rises_from m ch.levels ss) zero_more)
            (later.2 ∙ ap (λ l. rises_from (before + length ss) l (samples_of sent)) levels)
            ∙ sym (rises_append before ch.levels ss (samples_of sent)),
      )

pub cut_law : CutLaw
cut_law n ch count v sent only below long ch' ran list list' r b room =
    let parts = cut n count 0 ran v only below long in
    let one = accepted n ch (tests_pass n ch count v) (samples_of sent) list below room r list' b in
    record { accepted = parts.0; whole = one.answered; ends = parts.1 ∙ sym one.chain; places = parts.2 ∙ sym one.places }

-- ---- the exception

-- an outcome that tells an answer has this state
abbrev Does : Outcome Chain ℕ → Chain → Type 0
Does o after = (count : ℕ) → o.told ≡ done count → o.state ≡ after

does_after : (t : Told (Unit {0})) (given : Chain) (next : Outcome Chain ℕ) {after : Chain} → Does next after → Does (once_tested t given next) after
does_after (done u) given next d = d
does_after (refused number place) given next d = λ count e. absurd (subst IsDone (sym e) tt)

does_pick : (b : Bool) (x y : Outcome Chain ℕ) {after : Chain} → Does x after → Does y after → Does (pick b x y) after
does_pick true x y p q = p
does_pick false x y p q = q

-- an accepted block is played
block_plays : (n : ℕ) (ch : Chain) (ss list : List ℕ) → Does (block_of n ch ss list) (played n ss ch)
unfolding block_of
block_plays n ch ss list =
    does_after (tested_of n ch) ch _
    (does_after (checked_from 0 ss) ch _ (does_pick (leb (length (rises_in ch ss)) (length list)) _ _ (λ c e. refl) (λ c e. absurd (subst IsDone (sym e) tt))))

-- one call more, by its answer
one_call : (n : ℕ) (a : Result ℕ Refusal) (ss rest list list' : List ℕ) (ch next end : Chain)
    → ((count : ℕ) → tells a ≡ done count → next ≡ played n ss ch)
    → ((number place : ℕ) → tells a ≡ refused number place → (next ≡ ch) × (list' ≡ list))
    → end ≡ played n rest next
    → (IsDone (tells a) ⊎ ((next ≡ ch) × (list' ≡ list))) × (end ≡ played n (accepted_of a ss ++ rest) ch)
one_call n (Ok c) ss rest list list' ch next end f g e = (inl tt, e ∙ ap (played n rest) (f c refl) ∙ sym (played_append n ss rest ch))
one_call n (Err x) ss rest list list' ch next end f g e = (inr (g _ _ refl), e ∙ ap (played n rest) (g _ _ refl).0)

pub cut_exception : CutException
unfolding played
cut_exception n ch [] only ch' over = (tt, refl)
cut_exception n ch (scan k bytes ∷ sent) only ch' ran = absurd only
cut_exception n ch (block ss list ∷ sent) only ch' (called r list' contract next) =
    let later = cut_exception n r.value sent only ch' next in
    let told = ap (λ o. o.told) contract.answer in
    let state = ap (λ o. o.state) contract.answer in
    let one =
    one_call n r.answer ss (accepted_in next) list list' ch r.value ch' (λ c e. state ∙ block_plays n ch ss list c (sym told ∙ e))
    (λ m q e. (state ∙ block_kept n ch ss list m q (sym told ∙ e), contract.places ∙ list_kept (block_of n ch ss list).told (rises_in ch ss) list (sym told ∙ e)))
    later.1 in
    ((one.0, later.0), one.1)
