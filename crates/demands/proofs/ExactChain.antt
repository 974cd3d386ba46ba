-- Demand 1, the exact table, of the entries on a chain: specs/Tables.antt.
--     start_exact, host_sees_exact, play_exact      chain, chain::play
--     block_exact                                   chain::blocks
--     scan_exact, apply_exact, segments_exact       chain::one
--     find_exact                                    chain::finder
--     sees_by_table, block_by_table,
--     scan_by_table, segments_by_table              the same row by row, for the functions of the library
-- Assumes nothing.
use mathlib.Core.Path.{subst}
use mathlib.Core.List.{List, [], ◌∷◌, ◌++◌, append-nil}
use Prim.Native.Nat.{ℕ, suc}
use lib.Dec.{leb, ltb}
use lib.ListN.{length}
use Rattle.base.specs.Refusals.{Told, done, refused, Outcome, once_tested}
use Rattle.word.specs.declared.Command.{Command}
use Rattle.word.specs.Words.{legal}
use Rattle.chain.specs.declared.Chain.{Chain}
use Rattle.chain.specs.Chain.{chip_count, checked_from, tested_of}
use Rattle.chain.specs.Entries.{started_of, played_of, scanned_of, applied_of, segments_of, seen_of}
use Rattle.chain.specs.Blocks.{rises_in, block_of}
use Rattle.chain.specs.Finder.{reported, looked_of, found_of}
use Rattle.demands.specs.Exact.{Row, row, each, Exactly}
use Rattle.demands.specs.Refusals.{ListShort}
use Rattle.demands.specs.Tables.{sample_row, start_table, chain_table, play_table, block_table, one_table, one_apply_table, find_table}
use Rattle.demands.proofs.Conditions.{leb_tests, ltb_tests, count_tests, legal_tests, chain_tests}
use Rattle.demands.proofs.ByTable.{ByTable, answered, by_table, tested, told_by, stays, goes_on, done_done}

-- ---- the tests that several entries make

-- a test, and what an entry does where it is passed
pub told_after : {S A : Type 0} (t : Told (Unit {0})) (given : S) (next : Outcome S A) {rows : List Row} (more : List Row) → ByTable t rows
    → ByTable next.told more
    → ByTable (once_tested t given next).told (rows ++ more)
told_after (done u) given next more y z = goes_on y z
told_after (refused number place) given next more y z = stays more y

-- a test that is the last
pub told_only : {S A : Type 0} (t : Told (Unit {0})) (given s : S) (answer : A) {rows : List Row} → ByTable t rows
    → ByTable (once_tested t given (record { state = s; told = done answer })).told rows
told_only (done u) given s answer y = done_done answer y
told_only (refused number place) given s answer {rows} y = subst (ByTable (refused number place)) (append-nil rows) (stays [] y)

first_tests : (n : ℕ) (ch : Chain) → ByTable (tested_of n ch) (chain_table n ch)
unfolding tested_of
first_tests n ch = tested _ (count_tests n) (tested (done tt) (chain_tests n ch) (answered tt))

sample_tests : (place : ℕ) (ss : List ℕ) → ByTable (checked_from place ss) (each sample_row place ss)
unfolding checked_from
sample_tests place [] = answered tt
sample_tests place (s ∷ ss) = tested (checked_from (suc place) ss) (leb_tests s 7) (sample_tests (suc place) ss)

-- ---- the entries

pub start_exact : (n : ℕ) → Exactly (started_of n).told (start_table n)
unfolding started_of
start_exact n = by_table (told_by (chip_count n) _ _ (tested (done tt) (count_tests n) (answered tt)))

pub sees_by_table : (n : ℕ) (ch : Chain) → ByTable (seen_of n ch).told (chain_table n ch)
unfolding seen_of
sees_by_table n ch = told_after (tested_of n ch) _ _ [] (first_tests n ch) (answered tt)

pub host_sees_exact : (n : ℕ) (ch : Chain) → Exactly (seen_of n ch).told (chain_table n ch)
host_sees_exact n ch = by_table (sees_by_table n ch)

pub play_exact : (n : ℕ) (ch : Chain) (samples : List ℕ) → Exactly (played_of n ch samples).told (play_table n ch samples)
unfolding played_of
play_exact n ch samples =
    by_table
    (told_after (tested_of n ch) _ _ (each sample_row 0 samples) (first_tests n ch)
    (told_only (checked_from 0 samples) _ _ _ (sample_tests 0 samples)))

pub block_by_table : (n : ℕ) (ch : Chain) (samples list : List ℕ) → ByTable (block_of n ch samples list).told (block_table n ch samples list)
unfolding block_of
block_by_table n ch samples list =
    let room = leb (length (rises_in ch samples)) (length list) in
    told_after (tested_of n ch) _ _ (each sample_row 0 samples ++ row 8 (ListShort ch samples list) ∷ []) (first_tests n ch)
    (told_after (checked_from 0 samples) _ _ (row 8 (ListShort ch samples list) ∷ []) (sample_tests 0 samples)
    (told_by room _ _ (tested _ (leb_tests (length (rises_in ch samples)) (length list)) (answered tt))))

pub block_exact : (n : ℕ) (ch : Chain) (samples list : List ℕ) → Exactly (block_of n ch samples list).told (block_table n ch samples list)
block_exact n ch samples list = by_table (block_by_table n ch samples list)

pub scan_by_table : (n : ℕ) (ch : Chain) (k : ℕ) (bytes : List ℕ) → ByTable (scanned_of n ch k bytes).told (one_table n ch k)
unfolding scanned_of
scan_by_table n ch k bytes =
    told_after (tested_of n ch) _ _ _ (first_tests n ch) (told_by (ltb k n) _ _ (tested _ (ltb_tests k n) (answered tt)))

pub scan_exact : (n : ℕ) (ch : Chain) (k : ℕ) (bytes : List ℕ) → Exactly (scanned_of n ch k bytes).told (one_table n ch k)
scan_exact n ch k bytes = by_table (scan_by_table n ch k bytes)

pub apply_exact : (n : ℕ) (ch : Chain) (k : ℕ) (command : Command) → Exactly (applied_of n ch k command).told (one_apply_table n ch k command)
unfolding applied_of
apply_exact n ch k command =
    by_table
    (told_after (tested_of n ch) _ _ _ (first_tests n ch)
    (told_by (legal command) _ _
    (tested _ (legal_tests command) (told_by (ltb k n) _ _ (tested (done tt) (ltb_tests k n) (answered tt))))))

pub segments_by_table : (n : ℕ) (ch : Chain) (k : ℕ) → ByTable (segments_of n ch k).told (one_table n ch k)
unfolding segments_of
segments_by_table n ch k =
    told_after (tested_of n ch) _ _ _ (first_tests n ch) (told_by (ltb k n) _ _ (tested (done tt) (ltb_tests k n) (answered tt)))

pub segments_exact : (n : ℕ) (ch : Chain) (k : ℕ) → Exactly (segments_of n ch k).told (one_table n ch k)
segments_exact n ch k = by_table (segments_by_table n ch k)

-- ---- the finder

told_reported : (t : Told (Unit {0})) (levels : ℕ) (ss : List ℕ) {rows : List Row} → ByTable t rows
    → ByTable (reported t (looked_of levels ss)).told rows
told_reported (done u) levels ss y = done_done tt y
told_reported (refused number place) levels ss y = y

pub find_exact : (levels : ℕ) (samples : List ℕ) → Exactly (found_of levels samples).told (find_table levels samples)
unfolding found_of
find_exact levels samples =
    by_table
    (told_by (leb levels 7) _ _
    (tested _ (leb_tests levels 7) (told_reported (checked_from 0 samples) levels samples (sample_tests 0 samples))))
