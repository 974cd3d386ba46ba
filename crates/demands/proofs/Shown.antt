-- A LOAD rise can change the display: rows for one chip that make it light any eight bytes.
--     rows_accepted_for     rows of legal commands that turn no keypad on and aren't sleep are accepted by the writer
--     no_scan               samples alone are no scans
--     told_alone            a history without scans is its commands
--     answer_1_reached      for any chip and any eight bytes there are rows that the writer accepts, after whose play that chip lights these
-- Assumes nothing.
use mathlib.Core.Path.{◌≡◌, refl, ap, ap₂, sym, subst, ◌∙◌}
use mathlib.Core.Bool.{Bool, true, false, not, ◌&&◌}
use mathlib.Core.List.{List, [], ◌∷◌, ◌++◌, map, append-nil, nil≢cons}
use Prim.Native.Nat.{ℕ, zero, suc, ◌*◌, ◌/◌, ◌%◌, ◌≤◌, ◌<◌}
use native.Mathlib.Nat.{mul-div_cancel, mul-mod_left}
use native.Mathlib.Omega.{arith}
use borrow.Author.Tests.{eq-eqb, le-leb}
use lib.Dec.{T, leb, le→leb}
use lib.ListN.{length, set, replicate, length-append, length-set, length-replicate, length-map}
use lib.Seq.{take_at, drop_at, get_or-set_same}
use Rattle.base.specs.Pick.{pick}
use Rattle.base.specs.Refusals.{done, refused}
use Rattle.base.proofs.Picks.{pick_yes}
use Rattle.base.proofs.Tests.{is_true}
use Rattle.word.specs.declared.Command.{Command}
use Rattle.word.specs.declared.Command.TheVariants.{NoOperation, Reset, SystemParameters, LoadDigit}
use Rattle.word.specs.Words.{encoded_of, word_of, legal}
use Rattle.word.proofs.RoundTrips.{command_back}
use Rattle.chip.specs.declared.Chip.{Chip}
use Rattle.chip.specs.Commands.{applied, obey, reset, system}
use Rattle.chip.specs.Segments.{lit_of, lit_digit}
use Rattle.chip.specs.History.{Step, told, after}
use Rattle.chip.specs.History as History
use Rattle.chip.proofs.Quiet.{by_body}
use Rattle.chain.specs.declared.Chain.{Chain}
use Rattle.chain.specs.Chain.{chip_count, played}
use Rattle.chain.specs.Entries.{chip_at}
use Rattle.base.specs.Below.{AllBelow}
use Rattle.chain.proofs.Tested.{count_low}
use Rattle.chain.specs.Events.{Event, sample, happened, samples_in, ScansBelow}
use Rattle.writer.specs.Lights.{said_by_command, may_sleep, lit_sleep}
use Rattle.writer.specs.Rows.{cut_rows, rows_of, written, keypad_on, for_last, word_test, sleep_test, or_else, test_at, words_from, list_test}
use Rattle.demands.specs.Events.{steps_for, commands_in}
use Rattle.demands.specs.Demand3.{AskedChain, Asked, scans_in, scans_of}
use Rattle.demands.specs.Whole.{Encodes, command_for}
use Rattle.demands.specs.Answers.{AnyDisplay}
use Rattle.demands.proofs.Demand3.{demand_3}
use Rattle.demands.proofs.Corollaries.{own_words, scans_own}
use Rattle.chain.proofs.Histories.{played_happens}
use Rattle.demands.proofs.Calls.{samples_block}
use Rattle.demands.proofs.Whole.{commands_told}
use Rattle.std.specs.declared.result.Result.TheVariants.{Ok}

-- ---- commands that any chip may be sent

-- legal, no keypad turned on, and no sleep
abbrev Sendable : Command → Type 0
Sendable command = T (legal command) × (keypad_on command ≡ false) × ((may : Bool) → lit_sleep (said_by_command command) may ≡ false)

abbrev Each : List Command → Type 0
Each [] = Unit {0}
Each (c ∷ cs) = Sendable c × Each cs

each_append : (xs ys : List Command) → Each xs → Each ys → Each (xs ++ ys)
each_append [] ys p q = q
each_append (x ∷ xs) ys p q = (p.0, each_append xs ys p.1 q)

-- the row of a command for chip k: no operation for every other chip
row_for : ℕ → ℕ → Command → List Command
row_for n k c = set (replicate n NoOperation) k c

row_length : (n k : ℕ) (c : Command) → length (row_for n k c) ≡ n
unfolding row_for
row_length n k c = length-set (replicate n NoOperation) k c ∙ length-replicate n NoOperation

row_command : (n k : ℕ) (c : Command) → k < n → command_for k (row_for n k c) ≡ c
unfolding row_for
row_command n k c h =
    get_or-set_same (replicate n NoOperation) k c NoOperation (subst (λ m. k < m) (sym (length-replicate n NoOperation)) h)

row_sendable : (n k : ℕ) (c : Command) → Sendable c → Each (row_for n k c)
unfolding row_for
row_sendable n k c s = one (replicate n NoOperation) k (all n)
  where
    all : (m : ℕ) → Each (replicate m NoOperation)
    all zero = tt
    all (suc m) = ((tt, refl, λ may. refl), all m)

    one : (cs : List Command) (j : ℕ) → Each cs → Each (set cs j c)
    one [] j p = tt
    one (x ∷ cs) zero p = (s, p.1)
    one (x ∷ cs) (suc j) p = (p.0, one cs j p.1)

-- ---- rows of them

-- rows one after another
flat : List (List Command) → List Command
flat [] = []
flat (row ∷ rows) = row ++ flat rows

module _ (n k : ℕ) where
  -- the commands of rows for chip k
  rows_for : List Command → List Command
  rows_for cs = flat (map (row_for n k) cs)

  for_length : (cs : List Command) → length (rows_for cs) ≡ length cs * n
  unfolding rows_for flat
  for_length [] = omega arith
  for_length (c ∷ cs) =
      omega (arith, length-append (row_for n k c) (flat (map (row_for n k) cs)), row_length n k c, for_length cs)

  for_rows : (cs : List Command) → cut_rows (length cs) n (rows_for cs) ≡ map (row_for n k) cs
  unfolding cut_rows rows_for flat
  for_rows [] = refl
  for_rows (c ∷ cs) =
      ap₂ (λ row rest. row ∷ cut_rows (length cs) n rest)
      (take_at (row_for n k c) (flat (map (row_for n k) cs)) n (row_length n k c))
      (drop_at (row_for n k c) (flat (map (row_for n k) cs)) n (row_length n k c))
      ∙ ap (λ rows. row_for n k c ∷ rows) (for_rows cs)

  for_sendable : (cs : List Command) → Each cs → Each (rows_for cs)
  unfolding rows_for flat
  for_sendable [] p = tt
  for_sendable (c ∷ cs) p = each_append (row_for n k c) (flat (map (row_for n k) cs)) (row_sendable n k c p.0) (for_sendable cs p.1)

  for_commands : (cs : List Command) → k < n → map (command_for k) (map (row_for n k) cs) ≡ cs
  for_commands [] h = refl
  for_commands (c ∷ cs) h = ap₂ ◌∷◌ (row_command n k c h) (for_commands cs h)

-- ---- the writer's tests

word_passes : (n : ℕ) (ws : List ℕ) (place : ℕ) (c : Command) → Sendable c → test_at n ws place (word_of c) ≡ done tt
word_passes n ws place c s =
    ap (λ t. or_else (word_test n place t) (sleep_test n ws place t)) (command_back c s.0)
    ∙ ap₂ (λ k l. or_else (pick k (refused 7 place) (done tt)) (pick l (refused 13 place) (done tt)))
    (ap (λ b. b && not (for_last n place)) s.1) (s.2 (may_sleep n ws place))

words_pass : (n : ℕ) (ws : List ℕ) (place : ℕ) (cs : List Command) → Each cs → words_from n ws place (map word_of cs) ≡ done tt
unfolding words_from
words_pass n ws place [] p = refl
words_pass n ws place (c ∷ cs) p =
    ap (λ t. or_else t (words_from n ws (suc place) (map word_of cs))) (word_passes n ws place c p.0) ∙ words_pass n ws (suc place) cs p.1

rows_accepted_for : (n k : ℕ) (cs : List Command) → T (chip_count n) → length cs ≤ 64 → Each cs → list_test n (map word_of (rows_for n k cs)) ≡ done tt
unfolding list_test
rows_accepted_for n k cs count few p =
    let low = count_low n count in
    let size : length (map word_of (rows_for n k cs)) ≡ length cs * n = length-map (rows_for n k cs) word_of ∙ for_length n k cs in
    let rows : length (map word_of (rows_for n k cs)) / n ≡ length cs = ap (λ x. x / n) size ∙ mul-div_cancel (length cs) low in
    let whole : length (map word_of (rows_for n k cs)) % n ≡ 0 = ap (λ x. x % n) size ∙ mul-mod_left (length cs) n in
    pick_yes _ _ (is_true (chip_count n) count)
    ∙ pick_yes _ _ (eq-eqb (length (map word_of (rows_for n k cs)) % n) 0 whole)
    ∙ pick_yes _ _ (le-leb (length (map word_of (rows_for n k cs)) / n) 64 (subst (λ x. x ≤ 64) (sym rows) few))
    ∙ words_pass n (map word_of (rows_for n k cs)) 0 (rows_for n k cs) (for_sendable n k cs p)

encodes_each : (cs : List Command) → Each cs → Encodes cs (map word_of cs)
unfolding encoded_of
encodes_each [] p = tt
encodes_each (c ∷ cs) p = (
  record { answer = Ok (word_of c); contract = sym (pick_yes _ _ (is_true (legal c) p.0.0)); word = refl },
  encodes_each cs p.1,
)

-- ---- samples alone

pub no_scan : (n : ℕ) (ss : List ℕ) → ScansBelow n (map sample ss)
no_scan n [] = tt
no_scan n (s ∷ ss) = no_scan n ss

none_of : (k : ℕ) (ss : List ℕ) → scans_of k (map sample ss) ≡ []
none_of k [] = refl
none_of k (s ∷ ss) = none_of k ss

told_alone : (steps : List Step) → scans_in steps ≡ [] → steps ≡ map told (commands_in steps)
told_alone [] e = refl
told_alone (told command ∷ steps) e = ap (λ h. told command ∷ h) (told_alone steps e)
told_alone (History.scan bytes ∷ steps) e = absurd (nil≢cons (sym e))

-- what a chip ends as where rows were for it alone
after_rows : (n : ℕ) (ch : Chain) → AskedChain n ch → (k : ℕ) → k < n → (cs : List Command) → length cs ≤ 64 → Each cs
    → lit_of (chip_at k (played n (written n (map word_of (rows_for n k cs))) ch)) ≡ lit_of (after (map told cs) (chip_at k ch))
after_rows n ch a k h cs few p =
    ap (λ x. lit_of (chip_at k x)) (played_happens n (written n ws) ch)
    ∙ by_body lit_of (λ l x. refl) (chip_at k (happened n es ch)) (after steps (chip_at k ch))
    (demand_3 n ch ws asked es [] (no_scan n (written n ws)) (append-nil (samples_in es) ∙ samples_block (written n ws)) k h)
    ∙ ap (λ steps. lit_of (after steps (chip_at k ch))) (told_alone steps none ∙ ap (map told) commands)
  where
    ws : List ℕ
    ws = map word_of (rows_for n k cs)

    es : List Event
    es = map sample (written n ws)

    asked : Asked n ch ws
    asked = record { chain = a; accepted = rows_accepted_for n k cs a.panel.count few p }

    steps : List Step
    steps = steps_for k ch.levels (rows_of n ws) es

    none : scans_in steps ≡ []
    none = scans_own k ch.levels (rows_of n ws) es ∙ none_of k (written n ws)

    commands : commands_in steps ≡ cs
    commands =
        commands_told n (rows_for n k cs) ws (encodes_each (rows_for n k cs) (for_sendable n k cs p)) k h (commands_in steps)
        (own_words n ch ws asked es (samples_block (written n ws)) k h)
        ∙ ap (λ m. map (command_for k) (cut_rows m n (rows_for n k cs))) (ap (λ x. x / n) (for_length n k cs) ∙ mul-div_cancel (length cs) (count_low n a.panel.count))
        ∙ ap (map (command_for k)) (for_rows n k cs)
        ∙ for_commands n k cs h

-- ---- any eight bytes

-- reset, display on, and a byte for each digit
showing : ℕ → ℕ → ℕ → ℕ → ℕ → ℕ → ℕ → ℕ → List Command
showing a b c d e f g h =
    Reset
    ∷ SystemParameters (record { intm = false; sspd = false; dplr = false; keyb = false; disp = true })
    ∷ LoadDigit 0 a
    ∷ LoadDigit 1 b
    ∷ LoadDigit 2 c
    ∷ LoadDigit 3 d
    ∷ LoadDigit 4 e
    ∷ LoadDigit 5 f
    ∷ LoadDigit 6 g
    ∷ LoadDigit 7 h
    ∷ []

shown_so : (a b c d e f g h : ℕ) (chip : Chip) → lit_of (after (map told (showing a b c d e f g h)) chip) ≡ a ∷ b ∷ c ∷ d ∷ e ∷ f ∷ g ∷ h ∷ []
unfolding showing applied obey reset system lit_digit
shown_so a b c d e f g h chip = refl

-- the rows that do it
reached : (n : ℕ) (ch : Chain) → AskedChain n ch → (k : ℕ) → k < n → (a b c d e f g i : ℕ) → AllBelow 256 (a ∷ b ∷ c ∷ d ∷ e ∷ f ∷ g ∷ i ∷ [])
    → (ws : List ℕ) × (list_test n ws ≡ done tt) × (lit_of (chip_at k (played n (written n ws) ch)) ≡ a ∷ b ∷ c ∷ d ∷ e ∷ f ∷ g ∷ i ∷ [])
unfolding showing
reached n ch asked k h a b c d e f g i small = (
  map word_of (rows_for n k (showing a b c d e f g i)),
  rows_accepted_for n k (showing a b c d e f g i) asked.panel.count few p,
  after_rows n ch asked k h (showing a b c d e f g i) few p ∙ shown_so a b c d e f g i (chip_at k ch),
)
  where
    byte : (x : ℕ) → x < 256 → T (leb x 255)
    byte x l = le→leb x 255 (omega arith)

    few : 10 ≤ 64
    few = omega arith

    p : Each
        (Reset
        ∷ SystemParameters (record { intm = false; sspd = false; dplr = false; keyb = false; disp = true })
        ∷ LoadDigit 0 a ∷ LoadDigit 1 b ∷ LoadDigit 2 c ∷ LoadDigit 3 d ∷ LoadDigit 4 e ∷ LoadDigit 5 f ∷ LoadDigit 6 g ∷ LoadDigit 7 i ∷ [])
    p = ((tt, refl, λ may. refl), ((tt, refl, λ may. refl), ((byte a small.0, refl, λ may. refl), ((byte b small.1.0, refl, λ may. refl), ((byte c small.1.1.0, refl, λ may. refl), ((byte d small.1.1.1.0, refl, λ may. refl), ((byte e small.1.1.1.1.0, refl, λ may. refl), ((byte f small.1.1.1.1.1.0, refl, λ may. refl), ((byte g small.1.1.1.1.1.1.0, refl, λ may. refl), ((byte i small.1.1.1.1.1.1.1.0, refl, λ may. refl), tt))))))))))

pub answer_1_reached : AnyDisplay
answer_1_reached n ch asked k h [] size small = absurd (omega arith)
answer_1_reached n ch asked k h (a ∷ []) size small = absurd (omega arith)
answer_1_reached n ch asked k h (a ∷ b ∷ []) size small = absurd (omega arith)
answer_1_reached n ch asked k h (a ∷ b ∷ c ∷ []) size small = absurd (omega arith)
answer_1_reached n ch asked k h (a ∷ b ∷ c ∷ d ∷ []) size small = absurd (omega arith)
answer_1_reached n ch asked k h (a ∷ b ∷ c ∷ d ∷ e ∷ []) size small = absurd (omega arith)
answer_1_reached n ch asked k h (a ∷ b ∷ c ∷ d ∷ e ∷ f ∷ []) size small = absurd (omega arith)
answer_1_reached n ch asked k h (a ∷ b ∷ c ∷ d ∷ e ∷ f ∷ g ∷ []) size small = absurd (omega arith)
answer_1_reached n ch asked k h (a ∷ b ∷ c ∷ d ∷ e ∷ f ∷ g ∷ i ∷ []) size small = reached n ch asked k h a b c d e f g i small
answer_1_reached n ch asked k h (a ∷ b ∷ c ∷ d ∷ e ∷ f ∷ g ∷ i ∷ j ∷ more) size small = absurd (omega arith)
