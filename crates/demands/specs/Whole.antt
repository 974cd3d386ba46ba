-- The third demand in one piece, of calls by their contracts alone: a list of words written by `write`, and its samples played by `play`
-- block by block, with calls of `scan` between, to the end of the written samples.
--     RisesAt             a LOAD rise stands at a sample of a list
--     WholePlay           what such calls leave, at the end and after every beginning
--     Demand3Whole        the statement
--     Encoding, Encodes   commands and their words, as `encode` answers them
--     CommandsTook        what a whole play leaves of rows of commands
--     Demand3Commands     the statement of rows of commands
-- Assumes nothing.
use Rattle.std.specs.Prelude.{◌≡◌, true, ◌↔◌, List, [], ◌∷◌, ◌++◌, map, ℕ, ◌+◌, ◌*◌, ◌%◌, ◌<◌, length, get_or, take}
use Rattle.word.specs.declared.Command.{Command}
use Rattle.word.specs.declared.Command.TheVariants.{NoOperation}
use Rattle.word.specs.Words.{encoded_of}
use Rattle.chip.specs.declared.Chip.{Chip}
use Rattle.chip.specs.Record.{body_of}
use Rattle.chip.specs.Edges.{load_rises}
use Rattle.chip.specs.History.{Step, after}
use Rattle.chain.specs.declared.Chain.{Chain}
use Rattle.chain.specs.Entries.{chip_at}
use Rattle.chain.specs.Events.{Event, happened, ScansBelow}
use Rattle.writer.specs.Rows.{rows_of}
use Rattle.writer.specs.Written.{Writes}
use Rattle.demands.specs.Events.{steps_for, commands_in}
use Rattle.demands.specs.Demand3.{AskedChain, TookItsOwn, scans_in, scans_of}
use Rattle.demands.specs.Calls.{Call, events_of, blocks_of, Ran, AllDone}
use Rattle.demands.specs.Direct.{AcceptedDirectly}
use Rattle.std.specs.declared.result.Result.{Result}
use Rattle.base.specs.declared.Refusal.{Refusal}
use Rattle.base.specs.Refusals.{tells}
use Rattle.std.specs.declared.result.Result.TheVariants.{Ok}

-- a LOAD rise stands at sample p of a list, given the levels before the list
abbrev pub RisesAt : ℕ → List ℕ → ℕ → Type 0
RisesAt was samples p = load_rises (get_or (was ∷ samples) p 0) (get_or samples p 0) ≡ true

-- ---- rows of words

-- chip k's own commands and its own scans, each command standing where its row's LOAD rise stands
abbrev pub own_steps : ℕ → ℕ → Chain → List ℕ → List Event → List Step
own_steps k n ch ws es = steps_for k ch.levels (rows_of n ws) es

-- what the calls leave
pub record WholePlay (n : ℕ) (ch : Chain) (ws : List ℕ) (calls : List Call) (ch' : Chain) (ran : Ran n ch calls ch') : Type 0 where
  -- no call was refused
  pub answered : AllDone ran
  -- a LOAD rise stands at sample p, counted from 0, exactly where p + 1 is a multiple of 24N + 2: at the end of each row
  pub rises : (p : ℕ) → p < length (blocks_of calls) → RisesAt ch.levels (blocks_of calls) p ↔ ((p + 1) % (24 * n + 2) ≡ 0)
  -- each chip ends as if its own commands, each once and in row order, and its own scans had been applied directly
  pub took : (k : ℕ) → k < n → TookItsOwn n k ws (events_of calls) (chip_at k ch) (chip_at k ch') (own_steps k n ch ws (events_of calls))
  -- and so after every beginning: at no other sample do settings, display and key record change
  pub meanwhile : (before later : List Event) → before ++ later ≡ events_of calls → (k : ℕ) → k < n
      → body_of (chip_at k (happened n before ch)) ≡ body_of (after (own_steps k n ch ws before) (chip_at k ch))
  -- the entries `chip::apply` and `chip::scan` accept each of these steps
  pub directly : (k : ℕ) → k < n → AcceptedDirectly (chip_at k ch) (own_steps k n ch ws (events_of calls))
  -- and the chain is again as it was asked for
  pub again : AskedChain n ch'

abbrev pub Demand3Whole : Type 0
Demand3Whole =
    (n : ℕ) (ch : Chain) (ws : List ℕ)
    → AskedChain n ch
    → (out out' : List ℕ) (r : Result ℕ Refusal) (count : ℕ)
    → Writes n ws out r out'
    → r ≡ Ok count
    → (calls : List Call)
    → ScansBelow n (events_of calls)
    → blocks_of calls ≡ take count out'
    → (ch' : Chain) (ran : Ran n ch calls ch')
    → WholePlay n ch ws calls ch' ran

-- ---- rows of commands

-- `encode` answered a command with a word
pub record Encoding (command : Command) (w : ℕ) : Type 0 where
  pub answer : Result ℕ Refusal
  pub contract : tells answer ≡ encoded_of command
  pub word : answer ≡ Ok w

-- so it did for each command of a list
abbrev pub Encodes : List Command → List ℕ → Type 0
Encodes [] [] = Unit {0}
Encodes [] (w ∷ ws) = ⊥
Encodes (command ∷ commands) [] = ⊥
Encodes (command ∷ commands) (w ∷ ws) = Encoding command w × Encodes commands ws

-- chip k's command of a row
abbrev pub command_for : ℕ → List Command → Command
command_for k row = get_or row k NoOperation

-- chip k ends as after a history whose commands are its own of the rows, each once and in row order, and whose scans are its own
pub record CommandsTook (n k : ℕ) (commands : List Command) (es : List Event) (before end : Chip) (steps : List Step) : Type 0 where
  pub ends : body_of end ≡ body_of (after steps before)
  pub told : commands_in steps ≡ map (command_for k) (rows_of n commands)
  pub scans : scans_in steps ≡ scans_of k es

-- of rows of commands, each encoded by `encode`, whose words the writer accepted
abbrev pub Demand3Commands : Type 0
Demand3Commands =
    (n : ℕ) (ch : Chain) (commands : List Command) (ws : List ℕ)
    → AskedChain n ch
    → Encodes commands ws
    → (out out' : List ℕ) (r : Result ℕ Refusal) (count : ℕ)
    → Writes n ws out r out'
    → r ≡ Ok count
    → (calls : List Call)
    → ScansBelow n (events_of calls)
    → blocks_of calls ≡ take count out'
    → (ch' : Chain) (ran : Ran n ch calls ch')
    → (k : ℕ) → k < n
    → CommandsTook n k commands (events_of calls) (chip_at k ch) (chip_at k ch') (own_steps k n ch ws (events_of calls))
