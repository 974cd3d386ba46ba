-- The insurer's three questions, as statements of a chain: which levels on the wires can change the display; if one key is pressed,
-- how many codes the till gets; with several chips in a row, that each took its own commands, each one time.
-- Assumes nothing.
use Rattle.std.specs.Prelude.{◌≡◌, true, false, ◌⊎◌, List, [], ◌∷◌, ◌++◌, map, ℕ, ◌≤◌, ◌<◌, length}
use Rattle.base.specs.Refusals.{done}
use Rattle.chip.specs.declared.Chip.{Chip}
use Rattle.chip.specs.Record.{none, body_of}
use Rattle.chip.specs.Edges.{load_rises}
use Rattle.chip.specs.Scans.{result, scanned, code_of}
use Rattle.chip.specs.Segments.{lit_of}
use Rattle.chip.specs.History.{Step, NoReset, OneKey, Undisturbed, BrokenPress}
use Rattle.chain.specs.declared.Chain.{Chain}
use Rattle.chain.specs.Chain.{most, stepped_chain, played}
use Rattle.chain.specs.Entries.{chip_at, with_chip}
use Rattle.base.specs.Below.{AllBelow}
use Rattle.chain.specs.Events.{Event, scan, happened, samples_in, ScansBelow, history_of, records_in, codes_in}
use Rattle.writer.specs.Rows.{rows_of, written, list_test}
use Rattle.demands.specs.Events.{steps_for}
use Rattle.demands.specs.Demand3.{AskedChain, Asked, TookItsOwn}

-- ---- 1: which levels on the wires can change the display

-- a sample that isn't a LOAD rise changes no chip's settings, display and key record, and no segment lit
abbrev pub OnlyLoadRises : Type 0
OnlyLoadRises =
    (n s : ℕ) (ch : Chain)
    → load_rises ch.levels s ≡ false
    → (map body_of (stepped_chain n s ch).chips ≡ map body_of ch.chips) × (map lit_of (stepped_chain n s ch).chips ≡ map lit_of ch.chips)

-- a key scan changes no digit, and no segment lit of a chip that is awake; and nothing of any other chip
abbrev pub ScansChangeNoDigit : Type 0
ScansChangeNoDigit =
    (bytes : List ℕ) (c : Chip)
    → ((scanned bytes c).digits ≡ c.digits) × (c.settings.sleeping ≡ false → lit_of (scanned bytes c) ≡ lit_of c)

abbrev pub ScansChangeOneChip : Type 0
ScansChangeOneChip = (k j : ℕ) (bytes : List ℕ) (ch : Chain) → (j ≡ k → ⊥) → chip_at j (with_chip k (scanned bytes (chip_at k ch)) ch) ≡ chip_at j ch

-- and a LOAD rise can: on any chain as demand 3 asks, for any chip and any eight bytes there are rows that the writer accepts and after
-- whose play that chip lights exactly these
abbrev pub AnyDisplay : Type 0
AnyDisplay =
    (n : ℕ) (ch : Chain)
    → AskedChain n ch
    → (k : ℕ) → k < n
    → (bytes : List ℕ) → length bytes ≡ 8 → AllBelow 256 bytes
    → (ws : List ℕ) × (list_test n ws ≡ done tt) × (lit_of (chip_at k (played n (written n ws) ch)) ≡ bytes)

-- ---- 2: how many codes one press gives

-- of chip k of any chain, whatever is played and whatever other chips are scanned: under premises on its history such codes are recorded,
-- and the till can get no others
abbrev pub Codes : (ℕ → List Step → Type 0) → ((n k a : ℕ) → Chain → List Event → Type 0) → Type 0
Codes Premise Holds =
    (n k a : ℕ) (ch : Chain)
    → k < n → n ≤ most → length ch.chips ≡ most → a < none
    → (es : List Event)
    → Premise a (history_of k n es ch)
    → Holds n k a ch es

-- no code at all, or key a's once
abbrev pub AtMostOne : (n k a : ℕ) → Chain → List Event → Type 0
AtMostOne n k a ch es = (codes_in (records_in k n es ch) ≡ []) ⊎ (codes_in (records_in k n es ch) ≡ code_of a ∷ [])

-- two scans of chip k in a row, with nothing of that chip between them, find key a on a chip that is awake with KEYB on and doesn't hold
-- 40H + a already
pub record TwiceFound (n k a : ℕ) (ch : Chain) (es : List Event) : Type 0 where
  pub first : List Event
  pub one : List ℕ
  pub between : List Event
  pub two : List ℕ
  pub rest : List Event
  pub whole : es ≡ first ++ (scan k one ∷ (between ++ (scan k two ∷ rest)))
  pub nothing_between : history_of k n between (happened n (first ++ (scan k one ∷ [])) ch) ≡ []
  pub one_finds : result one ≡ a
  pub two_finds : result two ≡ a
  pub awake : (chip_at k (happened n first ch)).settings.sleeping ≡ false
  pub keypad : (chip_at k (happened n first ch)).settings.system.keyb ≡ true
  pub not_held : (chip_at k (happened n first ch)).keys.code ≡ code_of a → ⊥

-- then key a's code, once, and no other
abbrev pub ExactlyOne : (n k a : ℕ) → Chain → List Event → Type 0
ExactlyOne n k a ch es = TwiceFound n k a ch es → codes_in (records_in k n es ch) ≡ code_of a ∷ []

-- chip k obeys no reset, and its scans keep finding key a
abbrev pub KeptDown : ℕ → List Step → Type 0
KeptDown a h = NoReset h × OneKey a h

-- or single empty scans break the press, while nothing but scans sets the last scan
abbrev pub Bounced : ℕ → List Step → Type 0
Bounced a h = Undisturbed h × BrokenPress a h

abbrev pub OneCode : Type 0
OneCode = Codes KeptDown AtMostOne

abbrev pub OneCodeExactly : Type 0
OneCodeExactly = Codes KeptDown ExactlyOne

abbrev pub OneCodeBroken : Type 0
OneCodeBroken = Codes Bounced AtMostOne

abbrev pub OneCodeBrokenExactly : Type 0
OneCodeBrokenExactly = Codes Bounced ExactlyOne

-- ---- 3: each chip took its own commands, each one time

-- over the whole play of a written list, with any scans between
abbrev pub EachTookItsOwn : Type 0
EachTookItsOwn =
    (n : ℕ) (ch : Chain) (ws : List ℕ)
    → Asked n ch ws
    → (es : List Event)
    → ScansBelow n es
    → samples_in es ≡ written n ws
    → (k : ℕ) → k < n
    → TookItsOwn n k ws es (chip_at k ch) (chip_at k (happened n es ch)) (steps_for k ch.levels (rows_of n ws) es)
