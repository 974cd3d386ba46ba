-- The counterpart of demand 3 for one CH450: the theorem, and the same of the entries.
--     written_below                    each sample is at most 3
--     command_first                    a command's samples, from idle lines: the command applied directly, idle lines, and then the rest
--     each_once                        in every beginning, the commands whose stop has come were applied, each once and in order
--     played_all                       samples at most 3 are played, where nothing else is refused
--     write_then_play                  what `write` wrote, `play` plays: nothing is refused, no key is read, every command is obeyed
-- Assumes nothing.
use mathlib.Core.Path.{◌≡◌, refl, ap, ap₂, subst, sym, ◌∙◌}
use mathlib.Core.Bool.{Bool, true, false}
use mathlib.Core.List.{List, [], ◌∷◌, ◌++◌, append_assoc}
use Prim.Native.Nat.{ℕ, suc, ◌+◌, ◌-◌, ◌*◌, ◌/◌, ◌≤◌, ◌<◌}
use native.Mathlib.Nat.{le_of_suc-le-suc, le_refl, le_of_eq}
use native.Mathlib.Omega.{arith}
use lib.Dec.{T, leb}
use lib.ListN.{length, take, drop}
use lib.Seq.{take-nil, take_all, take_at, take-append-le, take-append-add}
use borrow.Author.Tests.{le-leb}
use Rattle.base.specs.Below.{AllBelow}
use Rattle.base.specs.Pick.{pick}
use Rattle.base.specs.Refusals.{Told, done, refused, IsDone, Outcome, once_tested}
use Rattle.base.proofs.Picks.{pick_yes}
use Rattle.base.proofs.Tests.{is_true, by_order}
use Rattle.base.proofs.Lists.{below_append}
use Rattle.ch450.specs.declared.Panel.{Panel}
use Rattle.ch450.specs.declared.Wires.{Wires}
use Rattle.ch450.specs.Edges.{idle, at_rest}
use Rattle.ch450.specs.Panel.{valid, body_of, with_wires}
use Rattle.ch450.specs.Commands.{word_means, obeyed}
use Rattle.ch450.specs.Samples.{played, reads_in}
use Rattle.base.proofs.Samples.{below_checked}
use Rattle.ch450.specs.Entries.{tested_of, checked_from, played_of}
use Rattle.ch450.specs.Written.{command_samples, written, writable, words_from, list_test, answer_by, answer_of, bytes_by}
use Rattle.ch450.specs.Demand.{applied_all, EachOnce, Demand3, played_back, WriteThenPlay}
use Rattle.ch450.proofs.Silent.{silent_played, silent_reads, silent_take, played_append, reads_append, obeyed_wires}
use Rattle.ch450.proofs.Filling.{command_length, written_length}
use Rattle.ch450.proofs.Valid.{played_valid}
use Rattle.ch450.proofs.OneCommand.{front, front_length, front_silent, command_is, command_below, command_plays, command_unread}

-- ---- the samples of a list

pub written_below : (ws : List ℕ) → AllBelow 4 (written ws)
unfolding written
written_below [] = tt
written_below (w ∷ ws) = below_append 4 (command_samples w) (written ws) (command_below w) (written_below ws)

-- no sample at all
take_none : (n : ℕ) → take n (written []) ≡ []
unfolding written
take_none n = take-nil n

module _ (w : ℕ) (ws : List ℕ) (n : ℕ) where
  -- a beginning ends before the first command's stop
  take_inside : n < 40 → take n (written (w ∷ ws)) ≡ take n (front w)
  unfolding written
  take_inside h =
      ap (λ ss. take n (ss ++ written ws)) (command_is w)
      ∙ ap (take n) (append_assoc (front w) (3 ∷ []) (written ws))
      ∙ take-append-le n (front w) (3 ∷ written ws) (subst (λ m. n ≤ m) (sym (front_length w)) (le_of_suc-le-suc h))

  -- or it has the first command whole
  take_past : 40 ≤ n → take n (written (w ∷ ws)) ≡ command_samples w ++ take (n - 40) (written ws)
  unfolding written
  take_past h =
      let split : n ≡ length (command_samples w) + (n - 40) = omega (arith, command_length w) in
      ap (λ m. take m (command_samples w ++ written ws)) split ∙ take-append-add (command_samples w) (written ws) (n - 40)

-- ---- in every beginning

-- commands don't look at the wires, and leave them
applied_wires : (ws : List ℕ) (w : Wires) (p : Panel) → applied_all ws (with_wires w p) ≡ with_wires w (applied_all ws p)
unfolding applied_all
applied_wires [] w p = refl
applied_wires (v ∷ ws) w p = ap (applied_all ws) (obeyed_wires (word_means v) w p) ∙ applied_wires ws w (obeyed (word_means v) p)

-- a command applied directly, and idle lines
abbrev pub after : ℕ → Panel → Panel
after w p = with_wires (at_rest idle) (obeyed (word_means w) p)

pub command_first : (w : ℕ) (p : Panel) (ss : List ℕ) → p.wires.levels ≡ idle → played (command_samples w ++ ss) p ≡ played ss (after w p)
command_first w p ss e =
    played_append (command_samples w) ss p ∙ ap (played ss) (command_plays w p e ∙ obeyed_wires (word_means w) (at_rest idle) p)

-- settings and digits after any beginning
begun_body : (ws : List ℕ) (n : ℕ) (p : Panel) → p.wires.levels ≡ idle
    → body_of (played (take n (written ws)) p) ≡ body_of (applied_all (take (n / 40) ws) p)
unfolding applied_all played
begun_body [] n p e = ap (λ ss. body_of (played ss p)) (take_none n) ∙ ap (λ ws. body_of (applied_all ws p)) (sym (take-nil (n / 40)))
begun_body (w ∷ ws) n p e =
    by_order 40 n
    (λ h. let more : suc ((n - 40) / 40) ≡ n / 40 = omega arith in
    ap (λ ss. body_of (played ss p)) (take_past w ws n h)
    ∙ ap body_of (command_first w p (take (n - 40) (written ws)) e)
    ∙ begun_body ws (n - 40) (after w p) refl
    ∙ ap body_of (applied_wires (take ((n - 40) / 40) ws) (at_rest idle) (obeyed (word_means w) p))
    ∙ ap (λ k. body_of (applied_all (take k (w ∷ ws)) p)) more)
    (λ h. let none : 0 ≡ n / 40 = omega arith in
    ap (λ ss. body_of (played ss p)) (take_inside w ws n h)
    ∙ ap body_of (silent_played (take n (front w)) p (silent_take n (front w) p.wires (front_silent w p.wires e)))
    ∙ ap (λ k. body_of (applied_all (take k (w ∷ ws)) p)) none)

-- ---- no read

-- every word is a parameter or digit command
abbrev AllWritable : List ℕ → Type 0
AllWritable [] = Unit {0}
AllWritable (w ∷ ws) = (writable w ≡ true) × AllWritable ws

-- a choice between a telling and a refusal that is an answer
pick_done : {A : Type 0} (b : Bool) (t : Told A) (number place : ℕ) (x : A) → pick b t (refused number place) ≡ done x → (b ≡ true) × (t ≡ done x)
pick_done true t number place x e = (refl, e)
pick_done false t number place x e = absurd (subst IsDone (sym e) tt)

-- no refusal 9: every word is one
all_writable : (place : ℕ) (ws : List ℕ) → words_from place ws ≡ done tt → AllWritable ws
unfolding words_from
all_writable place [] e = tt
all_writable place (w ∷ ws) e =
    let first = pick_done (writable w) (words_from (suc place) ws) 9 place tt e in (first.0, all_writable (suc place) ws first.1)

-- so it is in a list that the writer accepts
accepted_writable : (ws : List ℕ) → list_test ws ≡ done tt → AllWritable ws
unfolding list_test
accepted_writable ws e = all_writable 0 ws (pick_done (leb (length ws) 64) (words_from 0 ws) 5 0 tt e).1

-- in no beginning is the key read
begun_unread : (ws : List ℕ) (n : ℕ) (p : Panel) → AllWritable ws → p.wires.levels ≡ idle → reads_in (take n (written ws)) p ≡ 0
unfolding reads_in
begun_unread [] n p a e = ap (λ ss. reads_in ss p) (take_none n)
begun_unread (w ∷ ws) n p a e =
    by_order 40 n
    (λ h.
    ap (λ ss. reads_in ss p) (take_past w ws n h)
    ∙ reads_append (command_samples w) (take (n - 40) (written ws)) p
    ∙ ap₂ (λ x y. x + y) (command_unread w p e a.0)
    (ap (reads_in (take (n - 40) (written ws))) (command_plays w p e ∙ obeyed_wires (word_means w) (at_rest idle) p)
    ∙ begun_unread ws (n - 40) (after w p) a.1 refl))
    (λ h.
    ap (λ ss. reads_in ss p) (take_inside w ws n h)
    ∙ silent_reads (take n (front w)) p (silent_take n (front w) p.wires (front_silent w p.wires e)))

-- ---- the theorem

-- the lines after the whole
idle_again_lem : (ws : List ℕ) (p : Panel) → p.wires.levels ≡ idle → (played (written ws) p).wires.levels ≡ idle
unfolding written played
idle_again_lem [] p e = e
idle_again_lem (w ∷ ws) p e = ap (λ (x : Panel). x.wires.levels) (command_first w p (written ws) e) ∙ idle_again_lem ws (after w p) refl

-- settings and digits after the whole
all_body : (ws : List ℕ) (p : Panel) → p.wires.levels ≡ idle → body_of (played (written ws) p) ≡ body_of (applied_all ws p)
all_body ws p e =
    let n = 40 * length ws in
    ap (λ ss. body_of (played ss p)) (sym (take_all n (written ws) (le_of_eq (written_length ws))))
    ∙ begun_body ws n p e
    ∙ ap (λ vs. body_of (applied_all vs p)) (take_all (n / 40) ws (omega arith))

pub each_once : Demand3
each_once p ws v e accepted = record {
  beginning = λ n h. begun_body ws n p e;
  still = λ n h ne.
      let same : suc n / 40 ≡ n / 40 = omega arith in
      begun_body ws (suc n) p e ∙ ap (λ k. body_of (applied_all (take k ws) p)) same ∙ sym (begun_body ws n p e);
  unread = λ n h. begun_unread ws n p (accepted_writable ws accepted) e;
  idle_again = idle_again_lem ws p e;
  valid_again = played_valid (written ws) p (written_below ws) v;
  whole = all_body ws p e;
}

-- ---- the entries

-- the number that an answer tells
told_number : Told ℕ → ℕ
told_number (done n) = n
told_number (refused number place) = 0

-- where the writer answers a count, the list was accepted and that is its samples'
answered : (t : Told (Unit {0})) (need have count : ℕ) → answer_by t need have ≡ done count → (t ≡ done tt) × (need ≡ count)
unfolding told_number
answered (refused number place) need have count e = absurd (subst IsDone (sym e) tt)
answered (done u) need have count e = (refl, ap told_number (pick_done (leb need have) (done need) 8 0 count e).1)

-- such samples are played, where nothing else is refused
pub played_all : (p : Panel) (key : ℕ) (ss : List ℕ) → T (valid p) → key ≤ 127 → AllBelow 4 ss
    → played_of p key ss ≡ record { state = played ss p; told = done (reads_in ss p) }
unfolding played_of tested_of checked_from
played_all p key ss v h a =
    ap (λ t. once_tested t p (once_tested (checked_from 0 ss) p run)) (pick_yes _ _ (is_true (valid p) v) ∙ pick_yes _ _ (le-leb key 127 h))
    ∙ ap (λ t. once_tested t p run) (below_checked 3 0 ss a)
  where
    run : Outcome Panel ℕ
    run = record { state = played ss p; told = done (reads_in ss p) }

pub write_then_play : WriteThenPlay
unfolding answer_of
write_then_play p key ws out count v e h answer =
    record {
      unread = ap (λ (o : Outcome Panel ℕ). o.told) run ∙ ap done (ap (λ ss. reads_in ss p) (sym whole) ∙ once.unread n (le_refl n));
      whole = ap (λ (o : Outcome Panel ℕ). body_of o.state) run ∙ once.whole;
      idle_again = ap (λ (o : Outcome Panel ℕ). o.state.wires.levels) run ∙ once.idle_again;
      valid_again = subst (λ (o : Outcome Panel ℕ). T (valid o.state)) (sym run) once.valid_again;
    }
  where
    n : ℕ
    n = 40 * length ws

    accepted : (list_test ws ≡ done tt) × (n ≡ count)
    accepted = answered (list_test ws) n (length out) count answer

    once : EachOnce p ws
    once = each_once p ws v e accepted.0

    whole : take n (written ws) ≡ written ws
    whole = take_all n (written ws) (le_of_eq (written_length ws))

    bytes : take count (bytes_by (answer_of ws out) (written ws) out) ≡ written ws
    bytes =
        ap (λ t. take count (bytes_by t (written ws) out)) answer
        ∙ take_at (written ws) (drop (length (written ws)) out) count (written_length ws ∙ accepted.1)

    run : played_back p key ws out count ≡ record { state = played (written ws) p; told = done (reads_in (written ws) p) }
    run = ap (played_of p key) bytes ∙ played_all p key (written ws) v h (written_below ws)
