-- C-17, what the rule is for, from the play: by demand 3 each chip is as after its own commands, and the rule speaks of these.
--     both_off                          a chip with DISP 0 and KEYB 0 shows nothing and takes no keys
--     applied_settings                  what a command leaves of the system bits and the sleeping mark
--     applied_off, asleep_said          so what it leaves of both, and which command puts a chip to sleep
--     lights_kept                       both are off after any events, where that is what the chip was told last
--     rows_allowed                      of an accepted list, each chip's sleep words stand where both were said to be off
--     dark_before_sleep                 the theorem
--     dark_before_sleep_of_calls        the theorem of calls
--     some_sleep                        what they ask can be had
-- Assumes nothing.
use mathlib.Core.Path.{◌≡◌, refl, ap, ap₂, sym, subst, ◌∙◌}
use mathlib.Core.Bool.{Bool, true, false, not, ◌&&◌, ◌||◌}
use mathlib.Core.List.{List, [], ◌∷◌, ◌++◌, map}
use Prim.Native.Nat.{ℕ, zero, suc, ◌+◌, ◌*◌, ◌/◌, ◌≤◌, ◌<◌}
use native.Mathlib.Nat.{zero-mul, div-mul-le_self}
use native.Mathlib.Omega.{arith}
use borrow.Author.Tests.{not-false}
use lib.Arith.{digits_mod, digits_div}
use lib.Dec.{T, eqb, ltb}
use lib.ListN.{length, get_or, take, drop, length-drop}
use lib.Seq.{drop-drop, get_or-take, get_or-drop}
use Rattle.base.specs.Pick.{pick}
use Rattle.base.specs.Refusals.{Told, done, refused, IsDone}
use Rattle.base.proofs.Picks.{pick_yes, pick_no, pick_cases}
use Rattle.word.specs.declared.System.{System}
use Rattle.word.specs.declared.Command.{Command}
use Rattle.word.specs.declared.Command.TheVariants.{NoOperation, BarLevel, SegmentClear, SegmentSet, Reset, Sleep, ShiftLeft, ShiftRight, RotateLeft, RotateRight, CustomCharacter, SystemParameters, DisplayParameters, BlinkByte, ReadKey, LoadDigit}
use Rattle.word.specs.Words.{decoded_of}
use Rattle.chip.specs.declared.Chip.{Chip}
use Rattle.chip.specs.declared.Settings.{Settings}
use Rattle.chip.specs.Record.{Body, body_of, reset_settings}
use Rattle.chip.specs.Commands.{applied, obey, reset, system, read_key}
use Rattle.chip.specs.Edges.{din, load_rises, stepped, clocked, loaded}
use Rattle.chip.specs.Scans.{recorded_by, result}
use Rattle.chip.specs.Segments.{lit_digit, limit_of}
use Rattle.chip.specs.History.{Step, after}
use Rattle.chip.proofs.Quiet.{keyb_scanned}
use Rattle.chain.specs.declared.Chain.{Chain}
use Rattle.chain.specs.Chain.{most, stepped_row, stepped_chain}
use Rattle.chain.specs.Entries.{chip_at, played_of}
use Rattle.chain.specs.Events.{Event, sample, scan, scan_at, happened, samples_in, ScansBelow}
use Rattle.chain.proofs.Clocks.{Held, held_row, held}
use Rattle.chain.proofs.Histories.{happened_append}
use Rattle.writer.specs.Lights.{Said, off, asleep, unsaid, said_by_bits, said_by_command, said_by_meaning, off_after, off_before, may_sleep, lit_sleep}
use Rattle.writer.specs.Rows.{cut_rows, rows_of, word_bits, row_bits, clocking, row_samples, samples_of, written, word_test, sleep_test, words_from, list_test}
use Rattle.writer.proofs.Tests.{passed_next, list_passed}
use Rattle.writer.proofs.Answered.{written_part}
use Rattle.demands.specs.Events.{word_for, command_of, told_at, rows_after, steps_for}
use Rattle.demands.specs.Demand3.{Asked}
use Rattle.demands.specs.Calls.{events_of}
use Rattle.demands.specs.Asleep.{SwitchedDark, DarkBeforeSleep, DarkBeforeSleepOfCalls, SomeSleep}
use Rattle.demands.proofs.Accepted.{Fit, Fits}
use Rattle.demands.proofs.Calls.{samples_blocks, block_played, demand_3_of_calls}
use Rattle.demands.proofs.Corollaries.{meanings, in_between}
use Rattle.demands.proofs.Demand3.{room, demand_3}
use Rattle.demands.proofs.Entries.{start_asked}
use Rattle.demands.proofs.Going.{after_append, rows_left, as_told}
use Rattle.demands.proofs.Writes.{AtSample}

-- ---- a chip that is switched off

-- KEYB and DISP are 0
abbrev BothOff : System → Type 0
BothOff s = (s.keyb ≡ false) × (s.disp ≡ false)

dark_digit : (s : Settings) (dig byte : ℕ) → s.system.disp ≡ false → lit_digit s dig byte ≡ 0
unfolding lit_digit
dark_digit s dig byte e = pick_yes _ _ (ap (λ b. not b || s.sleeping || not (ltb dig (limit_of s.display.limit))) e)

both_off : (c : Chip) → BothOff c.settings.system → SwitchedDark c
unfolding recorded_by
both_off c y =
    let dark : (dig byte : ℕ) → lit_digit c.settings dig byte ≡ 0 = λ dig byte. dark_digit c.settings dig byte y.1 in
    record {
      disp = y.1;
      keyb = y.0;
      shows_nothing = simp dark;
      takes_no_keys = λ bytes. pick_no _ _ (never c.settings.sleeping y.0);
    }
  where
    never : (b : Bool) {k : Bool} → k ≡ false → (not b && k) ≡ false
    never true e = refl
    never false e = e

-- ---- one command

-- what a command says of display and keypad, and what it leaves of the system bits and the sleeping mark: of the sixteen kinds three alone
-- do something to these; a LOAD rise wakes the chip before
applied_settings : (Q : Said → System → Bool → Type 0) (command : Command) (c : Chip) → Q unsaid c.settings.system false
    → Q off reset_settings.system false
    → Q asleep c.settings.system true
    → ((s : System) → Q (said_by_bits s.keyb s.disp) s false)
    → Q (said_by_command command) (applied command c).settings.system (applied command c).settings.sleeping
unfolding applied obey reset system read_key
applied_settings Q NoOperation c same anew sleeps parameters = same
applied_settings Q (BarLevel level) c same anew sleeps parameters = same
applied_settings Q (SegmentClear addr) c same anew sleeps parameters = same
applied_settings Q (SegmentSet addr) c same anew sleeps parameters = same
applied_settings Q Reset c same anew sleeps parameters = anew
applied_settings Q Sleep c same anew sleeps parameters = sleeps
applied_settings Q ShiftLeft c same anew sleeps parameters = same
applied_settings Q ShiftRight c same anew sleeps parameters = same
applied_settings Q RotateLeft c same anew sleeps parameters = same
applied_settings Q RotateRight c same anew sleeps parameters = same
applied_settings Q (CustomCharacter shape) c same anew sleeps parameters = same
applied_settings Q (SystemParameters s) c same anew sleeps parameters =
    pick_cases (λ (x : Chip). Q (said_by_bits s.keyb s.disp) x.settings.system x.settings.sleeping) s.keyb (λ e. parameters s) (λ e. parameters s)
applied_settings Q (DisplayParameters d) c same anew sleeps parameters = same
applied_settings Q (BlinkByte byte) c same anew sleeps parameters = same
applied_settings Q ReadKey c same anew sleeps parameters =
    pick_cases (λ (x : Chip). Q unsaid x.settings.system x.settings.sleeping) c.settings.system.keyb (λ e. same) (λ e. same)
applied_settings Q (LoadDigit dig byte) c same anew sleeps parameters = same

never_true : {A : Type 0} → false ≡ true → A
never_true e = absurd (subst T (sym e) tt)

-- both are off, where that is what was said last
abbrev Holds : Bool → Chip → Type 0
Holds said c = said ≡ true → BothOff c.settings.system

applied_off : (command : Command) (c : Chip) (before : Bool) → Holds before c → Holds (off_after (said_by_command command) before) (applied command c)
applied_off command c before holds =
    applied_settings (λ says s mark. off_after says before ≡ true → BothOff s) command c holds (λ e. (refl, refl)) holds
    (λ s. by_bits s.keyb s.disp)
  where
    by_bits : (k d : Bool) → off_after (said_by_bits k d) before ≡ true → (k ≡ false) × (d ≡ false)
    by_bits true d e = never_true e
    by_bits false true e = never_true e
    by_bits false false e = (refl, refl)

asleep_said : (command : Command) (c : Chip) → (applied command c).settings.sleeping ≡ true → said_by_command command ≡ asleep
asleep_said command c = applied_settings (λ says s mark. mark ≡ true → says ≡ asleep) command c never_true never_true (λ e. refl) (λ s. never_true)

-- ---- a chip's own commands and scans

-- of meanings of words, one after another, given whether both were said to be off before: each sleep word stands where they were
abbrev Allowed : Bool → List (Told Command) → Type 0
Allowed said [] = Unit {0}
Allowed said (means ∷ more) = (lit_sleep (said_by_meaning means) said ≡ false) × Allowed (off_after (said_by_meaning means) said) more

-- what is said, the meanings to come allowed, and the chip as it was said
abbrev Goes : List (Told Command) → Chip → Type 0
Goes more c = (said : Bool) × Allowed said more × Holds said c

word_step : (means : Told Command) (more : List (Told Command)) (c : Chip) → Goes (means ∷ more) c → Goes more (after (command_of means) c)
word_step (done command) more c (said, allowed, holds) = (off_after (said_by_command command) said, allowed.1, applied_off command c said holds)
word_step (refused number place) more c (said, allowed, holds) = (said, allowed.1, holds)

sample_step : (k : ℕ) (rises : Bool) (rows : List (List ℕ)) (c : Chip) → Goes (meanings k rows) c
    → Goes (meanings k (rows_after rises rows)) (after (told_at k rises rows) c)
sample_step k false rows c g = g
sample_step k true [] c g = g
sample_step k true (row ∷ rows) c g = word_step (decoded_of (word_for k row)) (meanings k rows) c g

scan_step : (k j : ℕ) (bytes : List ℕ) (more : List (Told Command)) (c : Chip) → Goes more c → Goes more (after (scan_at k j bytes) c)
scan_step k j bytes more c (said, allowed, holds) = (
  said,
  allowed,
  λ e.
      pick_cases (λ (steps : List Step). BothOff (after steps c).settings.system) (eqb j k)
      (λ q. subst BothOff (sym (keyb_scanned (result bytes) c)) (holds e)) (λ q. holds e),
)

lights_kept : (k was : ℕ) (rows : List (List ℕ)) (es : List Event) (c : Chip) → Goes (meanings k rows) c
    → Goes (meanings k (rows_left was rows es)) (after (steps_for k was rows es) c)
lights_kept k was rows [] c g = g
lights_kept k was rows (sample s ∷ es) c g =
    let told = told_at k (load_rises was s) rows in
    let left = rows_after (load_rises was s) rows in
    subst (Goes (meanings k (rows_left s left es))) (sym (after_append told (steps_for k s left es) c))
    (lights_kept k s left es (after told c) (sample_step k (load_rises was s) rows c g))
lights_kept k was rows (scan j bytes ∷ es) c g =
    subst (Goes (meanings k (rows_left was rows es))) (sym (after_append (scan_at k j bytes) (steps_for k was rows es) c))
    (lights_kept k was rows es (after (scan_at k j bytes) c) (scan_step k j bytes (meanings k rows) c g))

-- ---- an accepted list

-- so many rows, from row m on
from_row : (count m n k : ℕ) (ws vs : List ℕ) → k < n → vs ≡ drop (m * n) ws → count * n ≤ length vs
    → ((p : ℕ) → p < length ws → lit_sleep (said_by_meaning (decoded_of (get_or ws p 0))) (may_sleep n ws p) ≡ false)
    → Allowed (off_before n ws k m) (meanings k (cut_rows count n vs))
unfolding cut_rows off_before
from_row zero m n k ws vs h e l each = tt
from_row (suc count) m n k ws vs h e l each = (
  subst (λ w. lit_sleep (said_by_meaning (decoded_of w)) (off_before n ws k m) ≡ false) word
      (subst (λ b. lit_sleep (said_by_meaning (decoded_of (get_or ws (m * n + k) 0))) b ≡ false) (ap₂ (off_before n ws) (digits_mod m h) (digits_div m h))
      (each (m * n + k) (omega (arith, length-drop (m * n) ws, ap length e)))),
  subst (λ w. Allowed (off_after (said_by_meaning (decoded_of w)) (off_before n ws k m)) (meanings k (cut_rows count n (drop n vs)))) word
      (from_row count (suc m) n k ws (drop n vs) h (ap (drop n) e ∙ drop-drop n (m * n) ws ∙ ap (λ x. drop x ws) next) (simp length-drop (omega arith)) each),
)
  where
    word : get_or ws (m * n + k) 0 ≡ word_for k (take n vs)
    word = sym (get_or-take n vs k 0 h ∙ ap (λ xs. get_or xs k 0) e ∙ get_or-drop (m * n) ws k 0)

    next : m * n + n ≡ suc m * n
    next = omega arith

rows_allowed : (n : ℕ) (ws : List ℕ) → list_test n ws ≡ done tt → (k : ℕ) → k < n → Allowed false (meanings k (rows_of n ws))
unfolding off_before
rows_allowed n ws accepted k h =
    from_row (length ws / n) 0 n k ws ws h (ap (λ x. drop x ws) (sym (zero-mul n))) (div-mul-le_self (length ws) n)
    (λ p l.
    let means = decoded_of (get_or ws p 0) in
    not_refused (lit_sleep (said_by_meaning means) (may_sleep n ws p)) p
    (passed_next (word_test n p means) (sleep_test n ws p means) ((list_passed n ws accepted).each p l)))
  where
    not_refused : (b : Bool) (place : ℕ) → IsDone {A = Unit {0}} (pick b (refused 13 place) (done tt)) → b ≡ false
    not_refused true place y = absurd y
    not_refused false place y = refl

-- ---- the theorem

-- at a LOAD rise that finds a row, a chip that sleeps after it was told sleep, and so both were said to be off
at_rise_lem : (n k : ℕ) (rows : List (List ℕ)) (hs : List Held) (c : Chip) → k < n → AtSample true rows hs → Fits n rows → (said : Bool) → Allowed said (meanings k rows)
    → (after (told_at k true rows ++ []) c).settings.sleeping ≡ true
    → said ≡ true
at_rise_lem n k [] hs c h a f said allowed e = absurd a
at_rise_lem n k (row ∷ rows) hs c h a f said allowed e = go (decoded_of (word_for k row)) (f.0.words k h) allowed.0 e
  where
    go : (means : Told Command) → Fit n k means → lit_sleep (said_by_meaning means) said ≡ false → (after (command_of means ++ []) c).settings.sleeping ≡ true → said ≡ true
    go (done command) fit q z = not-false said (sym (ap (λ s. lit_sleep s said) (asleep_said command c z)) ∙ q)
    go (refused number place) fit q z = absurd fit

module _ (n : ℕ) (ch : Chain) (ws : List ℕ) (asked : Asked n ch ws) (es : List Event) (s : ℕ) (rest : List ℕ)
    (below : ScansBelow n es) (whole : samples_in es ++ (s ∷ rest) ≡ written n ws) where
  abbrev before : Chain
  before = happened n es ch

  dark_before : load_rises before.levels s ≡ true → (k : ℕ) → k < n → (chip_at k (stepped_chain n s before)).settings.sleeping ≡ true
      → SwitchedDark (chip_at k before)
  dark_before rises k h sleeps =
      let left = rows_left ch.levels (rows_of n ws) es in
      let going = in_between n ch ws asked es (s ∷ rest) whole in
      let goes = lights_kept k ch.levels (rows_of n ws) es (chip_at k ch) (false, rows_allowed n ws asked.accepted k h, never_true) in
      let next = as_told n most (room n ch ws asked) (sample s ∷ []) rest before left going tt k h in
      let told = subst (λ b. body_of (chip_at k (stepped_chain n s before)) ≡ body_of (after (told_at k b left ++ []) (chip_at k before))) rises next in
      let found = subst (λ b. AtSample b left (held_row before.levels s (din s) (held n before.chips))) rises going.writes.1 in
      let said = at_rise_lem n k left _ (chip_at k before) h found going.fit goes.0 goes.1 (sym (ap (λ (b : Body). b.settings.sleeping) told) ∙ sleeps) in
      let same = ap (λ (b : Body). b.settings.system) (demand_3 n ch ws asked es (s ∷ rest) below whole k h) in
      both_off (chip_at k before) (subst BothOff (sym same) (goes.2 said))

pub dark_before_sleep : DarkBeforeSleep
dark_before_sleep n ch ws asked es s rest below whole rises k h sleeps =
    dark_before n ch ws asked es s rest below whole rises k h
    (subst (λ x. (chip_at k x).settings.sleeping ≡ true) (happened_append n es (sample s ∷ []) ch) sleeps)

pub dark_before_sleep_of_calls : DarkBeforeSleepOfCalls
dark_before_sleep_of_calls n ch ws a out out' r count w e calls s rest below whole ch' ran next contract rises k h sleeps =
    let p = written_part n ws out out' r count w e in
    let asked : Asked n ch ws = record { chain = a; accepted = p.0 } in
    let es = events_of calls in
    let samples = ap (λ ss. ss ++ (s ∷ rest)) (samples_blocks calls) ∙ whole ∙ p.1 in
    let same : ch' ≡ happened n es ch = (demand_3_of_calls n ch ws a out out' r count w e calls (s ∷ rest) below whole ch' ran).chain in
    let played = (block_played n (room n ch ws asked) a.panel.count (s ∷ []) rest (happened n es ch) _ (in_between n ch ws asked es (s ∷ rest) samples)).0 in
    let after_it : next.value ≡ stepped_chain n s (happened n es ch) = ap (λ o. o.state) (contract ∙ ap (λ x. played_of n x (s ∷ [])) same ∙ played) in
    subst (λ x. SwitchedDark (chip_at k x)) (sym same)
    (dark_before n ch ws asked es s rest below samples (subst (λ x. load_rises x.levels s ≡ true) same rises) k h
    (subst (λ x. (chip_at k x).settings.sleeping ≡ true) after_it sleeps))

-- a reset and a sleep word: all samples but the last, which is the second LOAD rise
pub some_sleep : SomeSleep
unfolding list_test words_from decoded_of off_before cut_rows samples_of row_samples row_bits word_bits clocking stepped_row stepped clocked loaded applied obey reset
some_sleep =
    let ws : List ℕ = 0x201 ∷ 0x202 ∷ [] in
    (ws, map sample (take 51 (written 1 ws)), 7, start_asked 1 ws tt refl, tt, refl, refl, refl)
