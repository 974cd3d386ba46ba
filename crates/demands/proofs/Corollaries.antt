-- What follows from demand 3, and from what its proof carries along.
--     own_words           a whole play tells chip k the commands of its words of the rows, each once and in row order, whatever scans fall between
--     scans_own           and the scans that name it, in order
--     no_other_sample     after any events a sample without a LOAD rise changes no chip's settings, display and key record
--     in_between          after any beginning of a play the chain is valid still, the keypad off before the last chip
--     premises_again      after a whole play, with any scans, the chain is as demand 3 asks for it, so writes follow one another
-- Assumes nothing.
use mathlib.Core.Path.{◌≡◌, refl, ap, sym, ◌∙◌}
use mathlib.Core.Bool.{Bool, true, false}
use mathlib.Core.List.{List, [], ◌∷◌, ◌++◌, map, append-nil}
use Prim.Native.Nat.{ℕ, ◌≤◌, ◌<◌}
use lib.Dec.{leb, eqb}
use Rattle.base.specs.Pick.{pick}
use Rattle.base.specs.Refusals.{Told, done, refused}
use Rattle.base.proofs.Picks.{pick_cases}
use Rattle.base.proofs.Tests.{and_left, and_right}
use Rattle.word.specs.Words.{decoded_of}
use Rattle.word.specs.declared.Command.{Command}
use Rattle.chip.specs.Record.{body_of, reset_chip}
use Rattle.chip.specs.Edges.{load_rises}
use Rattle.chip.specs.Scans.{scanned}
use Rattle.chip.specs.History.{Step}
use Rattle.chip.specs.History as History
use Rattle.chain.specs.declared.Chain.{Chain}
use Rattle.chain.specs.Chain.{most, all_valid, stepped_chain}
use Rattle.chain.proofs.Clocks.{Held}
use Rattle.chain.specs.Entries.{chip_at, with_chip}
use Rattle.chain.proofs.Histories.{happened_append}
use Rattle.chain.proofs.Laws.{quiet_chain}
use Rattle.chain.proofs.Places.{part_at}
use Rattle.chain.specs.Events.{Event, sample, scan, happened, samples_in, scan_at}
use Rattle.writer.specs.Rows.{rows_of, written}
use Rattle.demands.specs.Events.{command_of, word_for, told_at, rows_after, steps_for, commands_in}
use Rattle.demands.specs.Demand3.{Asked, OwnWords, NoOtherSample, PremisesAgain, scans_in, scans_of}
use Rattle.demands.proofs.Writes.{AtSample}
use Rattle.demands.proofs.Accepted.{Fit, Fits}
use Rattle.demands.proofs.Going.{Going, rows_left, going_sample, going_scan, going_on}
use Rattle.demands.proofs.Demand3.{room, begins}

-- ---- each once and in row order

-- what chip k's words of the rows mean, row by row
abbrev pub meanings : ℕ → List (List ℕ) → List (Told Command)
meanings k rows = map (λ row. decoded_of (word_for k row)) rows

-- what the commands of a history are as meanings of words
abbrev pub tellings : List Step → List (Told Command)
tellings h = map done (commands_in h)

-- a fit word tells one command
fit_tells : (n k : ℕ) (o : Told Command) (others : List Step) (more : List (Told Command)) → Fit n k o → tellings others ≡ more
    → tellings (command_of o ++ others) ≡ o ∷ more
fit_tells n k (done command) others more f e = ap (λ os. done command ∷ os) e
fit_tells n k (refused number place) others more f e = absurd f

-- one sample
sample_tells_lem : (n k : ℕ) (rises : Bool) (rows : List (List ℕ)) (hs : List Held) (others : List Step) → k < n
    → Fits n rows
    → AtSample rises rows hs
    → tellings others ≡ meanings k (rows_after rises rows)
    → tellings (told_at k rises rows ++ others) ≡ meanings k rows
sample_tells_lem n k false rows hs others h f a e = e
sample_tells_lem n k true [] hs others h f a e = absurd a
sample_tells_lem n k true (row ∷ rows) hs others h f a e =
    fit_tells n k (decoded_of (word_for k row)) others (meanings k rows) (f.0.words k h) e

-- a scan tells no command
scan_tells_lem : (k j : ℕ) (bytes : List ℕ) (others : List Step) → tellings (scan_at k j bytes ++ others) ≡ tellings others
scan_tells_lem k j bytes others = pick_cases (λ (h : List Step). tellings (h ++ others) ≡ tellings others) (eqb j k) (λ e. refl) (λ e. refl)

told_all : (n places : ℕ) → n ≤ places → (es : List Event) (ch : Chain) (rows : List (List ℕ)) → Going n places ch rows (samples_in es)
    → (k : ℕ) → k < n → tellings (steps_for k ch.levels rows es) ≡ meanings k rows
told_all n places fits [] ch rows g k h = ap (meanings k) (sym g.writes.0)
told_all n places fits (sample s ∷ es) ch rows g k h =
    sample_tells_lem n k (load_rises ch.levels s) rows _ _ h g.fit g.writes.1
    (told_all n places fits es (stepped_chain n s ch) (rows_after (load_rises ch.levels s) rows)
    (going_sample n places fits s ch rows (samples_in es) g) k h)
told_all n places fits (scan j bytes ∷ es) ch rows g k h =
    scan_tells_lem k j bytes (steps_for k ch.levels rows es)
    ∙ told_all n places fits es (with_chip j (scanned bytes (chip_at j ch)) ch) rows (going_scan n places fits j bytes ch rows (samples_in es) g) k h

pub own_words : OwnWords
own_words n ch ws asked es whole =
    told_all n most (room n ch ws asked) es ch (rows_of n ws) (begins n ch ws asked (samples_in es) whole)

-- ---- its own scans

pub scans_own : (k was : ℕ) (rows : List (List ℕ)) (es : List Event) → scans_in (steps_for k was rows es) ≡ scans_of k es
scans_own k was rows [] = refl
scans_own k was rows (sample s ∷ es) =
    no_scans (load_rises was s) rows (steps_for k s (rows_after (load_rises was s) rows) es) ∙ scans_own k s (rows_after (load_rises was s) rows) es
  where
    told_none : (o : Told Command) (steps : List Step) → scans_in (command_of o ++ steps) ≡ scans_in steps
    told_none (done command) steps = refl
    told_none (refused number place) steps = refl

    no_scans : (b : Bool) (rows : List (List ℕ)) (steps : List Step) → scans_in (told_at k b rows ++ steps) ≡ scans_in steps
    no_scans false rows steps = refl
    no_scans true [] steps = refl
    no_scans true (row ∷ rows) steps = told_none (decoded_of (word_for k row)) steps
scans_own k was rows (scan j bytes ∷ es) =
    one (eqb j k) (steps_for k was rows es) ∙ ap (λ r. pick (eqb j k) (bytes ∷ []) [] ++ r) (scans_own k was rows es)
  where
    one : (b : Bool) (steps : List Step) → scans_in (pick b (History.scan bytes ∷ []) [] ++ steps) ≡ pick b (bytes ∷ []) [] ++ scans_in steps
    one true steps = refl
    one false steps = refl

-- ---- at no other sample

pub no_other_sample : NoOtherSample
no_other_sample n ch es s e k =
    ap (λ x. body_of (chip_at k x)) (happened_append n es (sample s ∷ []) ch)
    ∙ part_at body_of (stepped_chain n s (happened n es ch)).chips (happened n es ch).chips k reset_chip (quiet_chain n s (happened n es ch) e)

-- ---- writes follow one another

pub in_between : (n : ℕ) (ch : Chain) (ws : List ℕ) → Asked n ch ws → (es : List Event) (rest : List ℕ) → samples_in es ++ rest ≡ written n ws
    → Going n most (happened n es ch) (rows_left ch.levels (rows_of n ws) es) rest
in_between n ch ws asked es rest whole =
    going_on n most (room n ch ws asked) es rest ch (rows_of n ws) (begins n ch ws asked (samples_in es ++ rest) whole)

pub premises_again : PremisesAgain
premises_again n ch ws asked es whole vs accepted =
    let g = in_between n ch ws asked es [] (append-nil (samples_in es) ∙ whole) in
    record {
      chain = record {
        panel = record {
          count = asked.chain.panel.count;
          places = g.standing.size;
          valid = and_left (all_valid n (happened n es ch).chips) (leb (happened n es ch).levels 7) g.standing.valid;
          keypad = g.standing.keypad;
        };
        levels = record {
          small = and_right (all_valid n (happened n es ch).chips) (leb (happened n es ch).levels 7) g.standing.valid;
          dclk_high = g.writes.1;
          load_high = g.writes.2;
        };
      };
      accepted = accepted;
    }
