-- Document 02, C-11, for C: a recording that arrives in blocks, played into one panel that is lent as numbers and changed in place by each
-- call of `zhaqsumir_block`. Of that function nothing is used but its contract. `Sent`, `samples_of` and `LongEnough` are those of
-- specs/Blocks.antt.
--     PanelSends, AllAnswered     results of calls, each going on from the numbers that the one before left; none was refused
--     places_by, panel_places       the places that calls wrote, earlier blocks' lengths added, joined
--     SoundPanel                   the numbers are of a panel that isn't refused
--     PanelCutLaw                 blocks beside one call over the whole
--     PanelCutException           a refused call changes nothing
--     PanelAcceptedJoined         the last numbers are those of one call over the accepted blocks joined
--     PanelSentRun                any calls have results
-- Assumes nothing.
use Rattle.std.specs.Prelude.{◌≡◌, ◌⊎◌, List, [], ◌∷◌, ◌++◌, map, ℕ, ◌+◌, ◌≤◌, T, eqb, length, get_or, take}
use Rattle.base.specs.Below.{AllBelow}
use Rattle.base.specs.Pick.{pick}
use Rattle.base.specs.Refusals.{done}
use Rattle.chain.specs.Chain.{valid_chain}
use Rattle.chain.specs.Blocks.{rises_in}
use Rattle.zhaqsumir.specs.Panels.{count_in, tested_in, chain_of, BlocksNumbers}
use Rattle.demands.specs.Blocks.{Sent, block, samples_of, LongEnough, BlocksOnly}

-- results of calls with a block and a list each, in order, by the contract
pub data PanelSends : List ℕ → List Sent → List ℕ → Type 0 where
  over : {ns : List ℕ} → PanelSends ns [] ns
  called : {ns end samples list : List ℕ} {sent : List Sent} (answer ns' list' : List ℕ)
      → BlocksNumbers ns samples list answer ns' list'
      → PanelSends ns' sent end
      → PanelSends ns (block samples list ∷ sent) end

-- no call was refused: each answer's first number is 0
abbrev pub AllAnswered : {ns end : List ℕ} {sent : List Sent} → PanelSends ns sent end → Type 0
AllAnswered over = Unit {0}
AllAnswered (called answer ns' list' contract next) = (get_or answer 0 0 ≡ 0) × AllAnswered next

-- the places that a call wrote: as many at the front of its list as its third number says; a refused one wrote none
abbrev pub places_by : List ℕ → List ℕ → List ℕ
places_by answer list = pick (eqb (get_or answer 0 0) 0) (take (get_or answer 2 0) list) []

-- those of all calls, the lengths of the blocks before added, joined; so many samples came before the first
abbrev pub panel_places : {ns end : List ℕ} {sent : List Sent} → ℕ → PanelSends ns sent end → List ℕ
panel_places before over = []
panel_places before (called {samples = samples} answer ns' list' contract next) = map (λ p. before + p) (places_by answer list') ++ panel_places (before + length samples) next

-- 202 numbers of a panel that is refused neither with 3 nor with 12
pub record SoundPanel (ns : List ℕ) : Type 0 where
  pub size : length ns ≡ 202
  pub fits : tested_in ns ≡ done tt
  pub valid : T (valid_chain (count_in ns) (chain_of ns))

-- blocks, and one call over the whole: neither is refused, the panel's numbers are the same and so are the places
pub record PanelCutAlike {ns end : List ℕ} {sent : List Sent} (ran : PanelSends ns sent end) (answer ns' list' : List ℕ) : Type 0 where
  pub accepted : AllAnswered ran
  pub whole : get_or answer 0 0 ≡ 0
  pub ends : end ≡ ns'
  pub places : panel_places 0 ran ≡ places_by answer list'

-- blocks of any lengths, empty ones too, all samples at most 7, each list long enough
abbrev pub PanelCutLaw : Type 0
PanelCutLaw =
    (ns : List ℕ)
    → SoundPanel ns
    → (sent : List Sent)
    → AllBelow 8 (samples_of sent)
    → LongEnough (count_in ns) (chain_of ns) sent
    → (end : List ℕ) (ran : PanelSends ns sent end)
    → (list answer ns' list' : List ℕ)
    → BlocksNumbers ns (samples_of sent) list answer ns' list'
    → length (rises_in (chain_of ns) (samples_of sent)) ≤ length list
    → PanelCutAlike ran answer ns' list'

-- each call was accepted, or left the panel's numbers and its list as they were
abbrev pub RefusedLeaves : {ns end : List ℕ} {sent : List Sent} → PanelSends ns sent end → Type 0
RefusedLeaves over = Unit {0}
RefusedLeaves (called {ns = ns} {list = list} answer ns' list' contract next) = ((get_or answer 0 0 ≡ 0) ⊎ ((ns' ≡ ns) × (list' ≡ list))) × RefusedLeaves next

-- the calls that were accepted
abbrev pub accepted_calls : {ns end : List ℕ} {sent : List Sent} → PanelSends ns sent end → List Sent
accepted_calls over = []
accepted_calls (called {samples = samples} {list = list} answer ns' list' contract next) = pick (eqb (get_or answer 0 0) 0) (block samples list ∷ accepted_calls next) (accepted_calls next)

-- any numbers, blocks and lists: refused calls change nothing, and the accepted ones alone, from the same numbers, are all accepted and end
-- in the same numbers
abbrev pub PanelCutException : Type 0
PanelCutException =
    (ns : List ℕ) (sent : List Sent) (end : List ℕ) (ran : PanelSends ns sent end)
    → RefusedLeaves ran × ((alone : PanelSends ns (accepted_calls ran) end) × AllAnswered alone)

-- and these are the numbers that one call over the accepted blocks joined leaves, with any list that is long enough: of any 202 numbers,
-- also those of a panel that is refused
abbrev pub PanelAcceptedJoined : Type 0
PanelAcceptedJoined =
    (ns : List ℕ)
    → length ns ≡ 202
    → (sent : List Sent) (end : List ℕ) (ran : PanelSends ns sent end)
    → (list answer ns' list' : List ℕ)
    → BlocksNumbers ns (samples_of (accepted_calls ran)) list answer ns' list'
    → length (rises_in (chain_of ns) (samples_of (accepted_calls ran))) ≤ length list
    → end ≡ ns'

-- any calls have results that the contract allows
abbrev pub PanelSentRun : Type 0
PanelSentRun = (ns : List ℕ) (sent : List Sent) → BlocksOnly sent → (end : List ℕ) × PanelSends ns sent end
