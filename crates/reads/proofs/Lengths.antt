-- How many samples stand before the next byte that is none.
--     run_prefix                   they are the front that passes the test
--     run_more                     from a place on: one and those after it
--     run_length_le, run_take      how many there can be, and that those taken are all
-- Assumes nothing.
use Rattle.std.proofs.Common.{◌≡◌, ℕ, suc, ◌+◌, ◌<◌, ◌≤◌, true, List, [], ◌∷◌, length, get_or, take, drop, refl, ap, ◌∙◌, arith, length-take-le}
use Rattle.std.specs.List.{prefix_len}
use Rattle.base.proofs.Lists.{rest_is}
use Rattle.base.proofs.Picks.{pick_yes, pick_cases}
use Rattle.reads.specs.Parts.{run_length}
use Rattle.reads.specs.Reads.{is_sample}

pub run_prefix : (bytes : List ℕ) → prefix_len is_sample bytes ≡ run_length bytes
unfolding run_length
run_prefix [] = refl
run_prefix (b ∷ bytes) =
    let more = run_prefix bytes in
    pick_cases (λ m. prefix_len is_sample (b ∷ bytes) ≡ m) (is_sample b) (λ e. rw e (omega arith)) (λ e. rw e refl)

pub run_more : (bytes : List ℕ) (i : ℕ) → i < length bytes → is_sample (get_or bytes i 0) ≡ true → run_length (drop i bytes) ≡ suc (run_length (drop (i + 1) bytes))
unfolding run_length
run_more bytes i h e = ap run_length (rest_is bytes i 0 h) ∙ pick_yes _ _ e

pub run_length_le : (bytes : List ℕ) → run_length bytes ≤ length bytes
unfolding run_length
run_length_le [] = omega arith
run_length_le (b ∷ bytes) =
    let more = run_length_le bytes in
    pick_cases (λ m. m ≤ length (b ∷ bytes)) (is_sample b) (λ _. omega arith) (λ _. omega arith)

pub run_take : (bytes : List ℕ) → length (take (run_length bytes) bytes) ≡ run_length bytes
run_take bytes = length-take-le (run_length bytes) bytes (run_length_le bytes)
