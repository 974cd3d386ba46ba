-- Demand 3 in one piece, of calls by their contracts alone, and of rows of commands.
--     samples_append, below_first     the samples and the scans of events in two parts
--     valid_at                        a chip of a valid chain is valid
--     demand_3_whole                  the theorem of calls
--     encodes_mean                    a word that `encode` answered means its command
--     demand_3_commands               the theorem of rows of commands
-- Assumes nothing.
use mathlib.Core.Path.{◌≡◌, refl, ap, ap₂, sym, subst, ◌∙◌}
use mathlib.Core.Bool.{Bool, true, false}
use mathlib.Core.Logic.{◌↔◌}
use mathlib.Core.List.{List, [], ◌∷◌, ◌++◌, map, append-nil, head-eq_of_cons-eq, tail-eq_of_cons-eq, nil≢cons}
use Prim.Native.Nat.{ℕ, zero, suc, ◌+◌, ◌*◌, ◌/◌, ◌%◌, ◌≤◌, ◌<◌}
use native.Mathlib.Nat.{not-suc-le-zero, le_of_suc-le-suc, lt_of_lt_of_le, div-mul-le_self}
use native.Mathlib.Omega.{arith}
use lib.Dec.{T}
use lib.ListN.{length, get_or, take, drop, length-drop}
use lib.Seq.{get_or-take, get_or-drop}
use Rattle.base.specs.Pick.{pick}
use Rattle.base.specs.Refusals.{done, refused, tells}
use Rattle.base.proofs.Tests.{and_left, and_right}
use Rattle.word.specs.declared.Command.{Command}
use Rattle.word.specs.declared.Command.TheVariants.{NoOperation}
use Rattle.word.specs.Words.{decoded_of, encoded_of, word_of, legal}
use Rattle.word.proofs.RoundTrips.{command_back}
use Rattle.chip.specs.declared.Chip.{Chip}
use Rattle.chip.specs.Record.{valid, body_of, reset_chip}
use Rattle.chip.specs.History.{after}
use Rattle.chain.specs.declared.Chain.{Chain}
use Rattle.chain.specs.Chain.{all_valid}
use Rattle.chain.specs.Entries.{chip_at}
use Rattle.writer.specs.Rows.{cut_rows, rows_of, written, list_test}
use Rattle.writer.proofs.Answered.{written_part}
use Rattle.demands.specs.Events.{word_for}
use Rattle.chain.specs.Events as Events
use Rattle.chain.specs.Events.{Event, sample, happened, samples_in, ScansBelow}
use Rattle.demands.specs.Demand3.{AskedChain, Asked}
use Rattle.demands.specs.Calls.{events_of, blocks_of}
use Rattle.demands.specs.Direct.{AcceptedDirectly}
use Rattle.demands.specs.Whole.{RisesAt, own_steps, Demand3Whole, Encoding, Encodes, command_for, Demand3Commands}
use Rattle.demands.proofs.Accepted.{rows_accepted, fit_rows}
use Rattle.demands.proofs.Demand3.{room, demand_3}
use Rattle.demands.proofs.Corollaries.{own_words, scans_own, premises_again}
use Rattle.demands.proofs.Calls.{samples_blocks, demand_3_of_calls}
use Rattle.demands.proofs.Direct.{accepted_directly, legal_steps}
use Rattle.demands.proofs.RisePlaces.{rises_place}

-- ---- events in two parts

samples_append : (es fs : List Event) → samples_in (es ++ fs) ≡ samples_in es ++ samples_in fs
samples_append [] fs = refl
samples_append (sample s ∷ es) fs = ap (λ ss. s ∷ ss) (samples_append es fs)
samples_append (Events.scan k bytes ∷ es) fs = samples_append es fs

below_first : (n : ℕ) (es fs : List Event) → ScansBelow n (es ++ fs) → ScansBelow n es
below_first n [] fs b = tt
below_first n (sample s ∷ es) fs b = below_first n es fs b
below_first n (Events.scan k bytes ∷ es) fs b = (b.0, below_first n es fs b.1)

-- ---- a chip of a valid chain

pub valid_at : (n k : ℕ) (cs : List Chip) (d : Chip) → T (all_valid n cs) → k < n → k < length cs → T (valid (get_or cs k d))
unfolding all_valid
valid_at zero k cs d v h l = absurd (not-suc-le-zero h)
valid_at (suc n) k [] d v h l = absurd (not-suc-le-zero l)
valid_at (suc n) zero (c ∷ cs) d v h l = and_left (valid c) (all_valid n cs) v
valid_at (suc n) (suc k) (c ∷ cs) d v h l =
    valid_at n k cs d (and_right (valid c) (all_valid n cs) v) (le_of_suc-le-suc h) (le_of_suc-le-suc l)

-- ---- rows of words

module _ (n : ℕ) (ch : Chain) (ws : List ℕ) (a : AskedChain n ch) (accepted : list_test n ws ≡ done tt) where
  asked : Asked n ch ws
  asked = record { chain = a; accepted = accepted }

  -- where LOAD rises in the written samples
  rises_so : (ss : List ℕ) → ss ≡ written n ws → (p : ℕ) → p < length ss → RisesAt ch.levels ss p ↔ ((p + 1) % (24 * n + 2) ≡ 0)
  rises_so ss e p h =
      subst (λ xs. RisesAt ch.levels xs p ↔ ((p + 1) % (24 * n + 2) ≡ 0)) (sym e)
      (rises_place n (rows_of n ws) ch.levels p a.levels.load_high (fit_rows n (rows_of n ws) (rows_accepted n ws accepted)) (subst (λ xs. p < length xs) e h))

  -- what stands after a beginning
  meanwhile_so : (es before later : List Event) → samples_in es ≡ written n ws → ScansBelow n es → before ++ later ≡ es → (k : ℕ) → k < n
      → body_of (chip_at k (happened n before ch)) ≡ body_of (after (own_steps k n ch ws before) (chip_at k ch))
  meanwhile_so es before later whole below e =
      demand_3 n ch ws asked before (samples_in later) (below_first n before later (subst (ScansBelow n) (sym e) below))
      (sym (samples_append before later) ∙ ap samples_in e ∙ whole)

  directly_so : (es : List Event) (k : ℕ) → k < n → AcceptedDirectly (chip_at k ch) (own_steps k n ch ws es)
  directly_so es k h =
      accepted_directly (chip_at k ch) (own_steps k n ch ws es)
      (valid_at n k ch.chips reset_chip a.panel.valid h
      (subst (λ m. k < m) (sym a.panel.places) (lt_of_lt_of_le h (room n ch ws asked))))
      (legal_steps k ch.levels (rows_of n ws) es)

pub demand_3_whole : Demand3Whole
demand_3_whole n ch ws a out out' r count w e calls below whole ch' ran =
    let p = written_part n ws out out' r count w e in
    let t = demand_3_of_calls n ch ws a out out' r count w e calls [] below (append-nil (blocks_of calls) ∙ whole) ch' ran in
    let three = asked n ch ws a p.0 in
    let complete = samples_blocks calls ∙ whole ∙ p.1 in
    record {
      answered = t.answered;
      rises = rises_so n ch ws a p.0 (blocks_of calls) (whole ∙ p.1);
      took = λ k h.
          record {
            ends = t.bodies k h;
            commands = own_words n ch ws three (events_of calls) complete k h;
            scans = scans_own k ch.levels (rows_of n ws) (events_of calls);
          };
      meanwhile = λ before later q. meanwhile_so n ch ws a p.0 (events_of calls) before later complete below q;
      directly = directly_so n ch ws a p.0 (events_of calls);
      again = subst (AskedChain n) (sym t.chain) (premises_again n ch ws three (events_of calls) complete ws p.0).chain;
    }

-- ---- rows of commands

-- an answer that is a word
word_so : (b : Bool) (c : Command) (w : ℕ) → legal c ≡ b → pick b (done (word_of c)) (refused 9 0) ≡ done w → (T (legal c)) × (word_of c ≡ w)
word_so true c w e f = (subst T (sym e) tt, cc)
word_so false c w e f = let z : ◌≡◌ {A = ℕ} 0 1 = cc in absurd (omega arith)

encoding_means : (c : Command) (w : ℕ) → Encoding c w → decoded_of w ≡ done c
unfolding encoded_of
encoding_means c w y =
    let both = word_so (legal c) c w refl (sym y.contract ∙ ap tells y.word) in
    ap decoded_of (sym both.1) ∙ command_back c both.0

encodes_length : (cs : List Command) (ws : List ℕ) → Encodes cs ws → length cs ≡ length ws
encodes_length [] [] y = refl
encodes_length [] (w ∷ ws) y = absurd y
encodes_length (c ∷ cs) [] y = absurd y
encodes_length (c ∷ cs) (w ∷ ws) y = ap suc (encodes_length cs ws y.1)

encodes_mean : (cs : List Command) (ws : List ℕ) → Encodes cs ws → (i : ℕ) → i < length ws → decoded_of (get_or ws i 0) ≡ done (get_or cs i NoOperation)
encodes_mean [] [] y i h = absurd (not-suc-le-zero h)
encodes_mean [] (w ∷ ws) y i h = absurd y
encodes_mean (c ∷ cs) [] y i h = absurd y
encodes_mean (c ∷ cs) (w ∷ ws) y zero h = encoding_means c w y.0
encodes_mean (c ∷ cs) (w ∷ ws) y (suc i) h = encodes_mean cs ws y.1 i (le_of_suc-le-suc h)

-- chip k's words of the rows mean chip k's commands of the rows
rows_mean : (count n k : ℕ) (cs : List Command) (ws : List ℕ) → k < n → count * n ≤ length ws
    → ((i : ℕ) → i < length ws → decoded_of (get_or ws i 0) ≡ done (get_or cs i NoOperation))
    → map (λ row. decoded_of (word_for k row)) (cut_rows count n ws) ≡ map done (map (command_for k) (cut_rows count n cs))
unfolding cut_rows
rows_mean zero n k cs ws h l mean = refl
rows_mean (suc count) n k cs ws h l mean =
    ap₂ ◌∷◌ first
    (rows_mean count n k (drop n cs) (drop n ws) h (simp length-drop (omega arith))
    (λ i m. rw (get_or-drop n ws i 0, get_or-drop n cs i NoOperation) (mean (n + i) (omega (arith, length-drop n ws)))))
  where
    inside : k < length ws
    inside = omega arith

    first : decoded_of (get_or (take n ws) k 0) ≡ done (get_or (take n cs) k NoOperation)
    first = rw (get_or-take n ws k 0 h, get_or-take n cs k NoOperation h) (mean k inside)

-- answers that are the same are answers of the same
pub undone : (xs ys : List Command) → map done xs ≡ map done ys → xs ≡ ys
undone [] [] e = refl
undone [] (y ∷ ys) e = absurd (nil≢cons e)
undone (x ∷ xs) [] e = absurd (nil≢cons (sym e))
undone (x ∷ xs) (y ∷ ys) e =
    let same = head-eq_of_cons-eq e in
    let first : x ≡ y = cc in
    ap₂ ◌∷◌ first (undone xs ys (tail-eq_of_cons-eq e))

-- of the words of commands, the commands told are these
pub commands_told : (n : ℕ) (commands : List Command) (ws : List ℕ) → Encodes commands ws → (k : ℕ) → k < n → (told : List Command)
    → map done told ≡ map (λ row. decoded_of (word_for k row)) (rows_of n ws)
    → told ≡ map (command_for k) (rows_of n commands)
commands_told n commands ws y k h told e =
    undone told (map (command_for k) (rows_of n commands))
    (e
    ∙ rows_mean (length ws / n) n k commands ws h (div-mul-le_self (length ws) n) (encodes_mean commands ws y)
    ∙ ap (λ m. map done (map (command_for k) (cut_rows (m / n) n commands))) (sym (encodes_length commands ws y)))

pub demand_3_commands : Demand3Commands
demand_3_commands n ch commands ws a y out out' r count w e calls below whole ch' ran k h =
    let took = (demand_3_whole n ch ws a out out' r count w e calls below whole ch' ran).took k h in
    record { ends = took.ends; told = commands_told n commands ws y k h _ took.commands; scans = took.scans }
