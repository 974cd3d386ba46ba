-- "Applied directly" by the entries `chip::apply` and `chip::scan`: they accept every step of a history, and hand back what it leaves.
--     accepted_directly     of a valid chip and a history of legal commands
--     legal_steps           the commands among a chip's own steps are legal
-- Assumes nothing.
use mathlib.Core.Path.{◌≡◌, refl, ap, sym, subst, ◌∙◌}
use mathlib.Core.Bool.{Bool, true, false}
use mathlib.Core.List.{List, [], ◌∷◌, ◌++◌}
use Prim.Native.Nat.{ℕ}
use lib.Dec.{T, eqb}
use Rattle.base.specs.Refusals.{Told, done, refused, IsDone, Outcome}
use Rattle.base.proofs.Picks.{pick_yes, pick_cases}
use Rattle.base.proofs.Tests.{is_true}
use Rattle.word.specs.declared.Command.{Command}
use Rattle.word.specs.Words.{decoded_of, legal}
use Rattle.word.proofs.RoundTrips.{meaning_legal}
use Rattle.chip.specs.declared.Chip.{Chip}
use Rattle.chip.specs.Record.{valid}
use Rattle.chip.specs.Commands as Commands
use Rattle.chip.specs.Scans as Scanning
use Rattle.chip.specs.Entries.{applied_of, scanned_of}
use Rattle.chip.specs.History.{Step, told, scan, after, EachTold}
use Rattle.chip.proofs.Valid.{applied_valid, scanned_valid}
use Rattle.chip.proofs.Unique.{record_of, recording_back}
use Rattle.chip.specs.Edges.{load_rises}
use Rattle.demands.specs.Events.{command_of, word_for, told_at, rows_after, steps_for}
use Rattle.chain.specs.Events as Events
use Rattle.chain.specs.Events.{Event, sample, scan_at}
use Rattle.demands.specs.Direct.{Directly, over, applied, scanned, EachAccepted, AcceptedDirectly}
use Rattle.std.specs.declared.result.Result.TheVariants.{Ok}

-- a legal command
abbrev pub Legal : Command → Type 0
Legal command = T (legal command)

-- ---- one call

apply_done : (c : Chip) (command : Command) → T (valid c) → Legal command → applied_of c command ≡ record { state = Commands.applied command c; told = done tt }
unfolding applied_of
apply_done c command v l = pick_yes _ _ (is_true (valid c) v) ∙ pick_yes _ _ (is_true (legal command) l)

scan_done : (c : Chip) (bytes : List ℕ) → T (valid c) → scanned_of c bytes ≡ record { state = Scanning.scanned bytes c; told = done (Scanning.recorded bytes c) }
unfolding scanned_of
scan_done c bytes v = pick_yes _ _ (is_true (valid c) v)

-- what is told is an answer
is_done : {S A : Type 0} {o : Outcome S A} {s : S} {a : A} → o ≡ record { state = s; told = done a } → IsDone o.told
is_done e = subst (λ (o : Outcome _ _). IsDone o.told) (sym e) tt

-- ---- calls one after another

each_accepted : (steps : List Step) (c : Chip) → T (valid c) → EachTold Legal steps → (end : Chip) (calls : Directly c steps end)
    → EachAccepted calls × (end ≡ after steps c)
each_accepted [] c v l end over = (tt, refl)
each_accepted (told command ∷ steps) c v l end (applied r contract next) =
    let e = contract ∙ apply_done c command v l.0 in
    let same = ap (λ (o : Outcome Chip (Unit {0})). o.state) e in
    let more = each_accepted steps r.value (subst (λ d. T (valid d)) (sym same) (applied_valid command c l.0 v)) l.1 end next in
    ((is_done e, more.0), more.1 ∙ ap (after steps) same)
each_accepted (scan bytes ∷ steps) c v l end (scanned r contract next) =
    let e = contract ∙ scan_done c bytes v in
    let same = ap (λ (o : Outcome Chip Scanning.Recording). o.state) e in
    let more = each_accepted steps r.value (subst (λ d. T (valid d)) (sym same) (scanned_valid bytes c v)) l end next in
    ((is_done e, more.0), more.1 ∙ ap (after steps) same)

some_calls : (steps : List Step) (c : Chip) → T (valid c) → EachTold Legal steps → (end : Chip) × Directly c steps end
some_calls [] c v l = (c, over)
some_calls (told command ∷ steps) c v l =
    let d = Commands.applied command c in
    let more = some_calls steps d (applied_valid command c l.0 v) l.1 in
    (more.0, applied (record { value = d; answer = (Ok tt) }) (sym (apply_done c command v l.0)) more.1)
some_calls (scan bytes ∷ steps) c v l =
    let d = Scanning.scanned bytes c in
    let what = Scanning.recorded bytes c in
    let more = some_calls steps d (scanned_valid bytes c v) l in
    (more.0, scanned (record { value = d; answer = Ok (record_of what) }) (ap (λ w. record { state = d; told = done w }) (recording_back what) ∙ sym (scan_done c bytes v)) more.1)

pub accepted_directly : (c : Chip) (steps : List Step) → T (valid c) → EachTold Legal steps → AcceptedDirectly c steps
accepted_directly c steps v l = record { accepted = each_accepted steps c v l; some = some_calls steps c v l }

-- ---- a chip's own steps

each_append : (P : Command → Type 0) (g h : List Step) → EachTold P g → EachTold P h → EachTold P (g ++ h)
each_append P [] h p q = q
each_append P (told command ∷ g) h p q = (p.0, each_append P g h p.1 q)
each_append P (scan bytes ∷ g) h p q = each_append P g h p q

word_legal : (w : ℕ) (o : Told Command) → decoded_of w ≡ o → EachTold Legal (command_of o)
word_legal w (done command) e = (meaning_legal w command e, tt)
word_legal w (refused number place) e = tt

told_legal : (k : ℕ) (b : Bool) (rows : List (List ℕ)) → EachTold Legal (told_at k b rows)
told_legal k false rows = tt
told_legal k true [] = tt
told_legal k true (row ∷ rows) = word_legal (word_for k row) (decoded_of (word_for k row)) refl

pub legal_steps : (k was : ℕ) (rows : List (List ℕ)) (es : List Event) → EachTold Legal (steps_for k was rows es)
legal_steps k was rows [] = tt
legal_steps k was rows (sample s ∷ es) =
    each_append Legal (told_at k (load_rises was s) rows) (steps_for k s (rows_after (load_rises was s) rows) es) (told_legal k (load_rises was s) rows)
    (legal_steps k s (rows_after (load_rises was s) rows) es)
legal_steps k was rows (Events.scan j bytes ∷ es) =
    each_append Legal (scan_at k j bytes) (steps_for k was rows es)
    (pick_cases (λ (h : List Step). EachTold Legal h) (eqb j k) (λ e. tt) (λ e. tt))
    (legal_steps k was rows es)
