-- Demand 1, "a refusal changes no chip and no byte of a lent buffer": the theorem.
--     by_pick, by_after             a choice, and a test before it, hand back what their sides do
--     block_kept, list_kept         a refused block hands back its record and its list
--     front_of, rest_of             what is laid at an array's front, and the rest of it
--     text_kept                     what a refused text leaves
--     alone_zero, answer_as         an answer of one number, refused; an answer that is as a contract says
--     refusals_change_nothing       the theorem
-- Assumes nothing.
use mathlib.Core.Path.{◌≡◌, refl, ap, sym, subst, ◌∙◌}
use mathlib.Core.Bool.{Bool, true, false}
use mathlib.Core.List.{List, [], ◌∷◌}
use Prim.Native.Nat.{ℕ, suc}
use native.Mathlib.Omega.{arith}
use lib.Dec.{leb, ltb}
use lib.ListN.{length, get_or, take, drop}
use lib.Seq.{take_at, drop_at}
use Rattle.base.specs.Lent.{laid}
use Rattle.base.specs.Pick.{pick}
use Rattle.base.specs.Refusals.{Told, done, refused, Outcome, once_tested}
use Rattle.word.specs.declared.Command.{Command}
use Rattle.word.specs.Words.{decoded_of, legal}
use Rattle.chip.specs.Record.{valid, blank}
use Rattle.chip.specs.Entries as One
use Rattle.chain.specs.declared.Chain.{Chain}
use Rattle.chain.specs.Chain.{chip_count, checked_from, tested_of}
use Rattle.chain.specs.Blocks.{rises_in, block_of, list_by}
use Rattle.chain.specs.Finder.{Report, reported, no_report, looked_of, found_of}
use Rattle.chain.specs.Entries.{started_of, played_of, scanned_of, applied_of, segments_of, seen_of}
use Rattle.writer.specs.Rows.{written}
use Rattle.writer.specs.Written.{answer_of, bytes_by}
use Rattle.capture.specs.declared.Report as Capture
use Rattle.capture.specs.declared.Report.TheVariants.{Words, Screen}
use Rattle.capture.specs.Replay.{end_of, output_of}
use Rattle.zhaqsumir.specs.Commands.{command_in}
use Rattle.zhaqsumir.specs.Numbers.{place_in, decode_by, alone, encoded_by, find_by}
use Rattle.zhaqsumir.specs.Panels.{count_in, tested_in, chain_of, block_in, scanned_in}
use Rattle.demands.specs.Unchanged.{HandsBack, Refuses, TextRefused, CountRefused, RefusalsChangeNothing}
use Rattle.demands.proofs.ExactText.{text_exact}
use Rattle.demands.proofs.TextOutput.{text_output}
use Rattle.demands.proofs.UnchangedTally.{never, is_refusal, count_refused, tally_refused}
use Rattle.demands.proofs.UnchangedPanels.{start_kept, numbers_kept, scan_kept, scan_zeros, lit_zeros, sees_zero}

-- ---- outcomes

-- a result that a contract allows
pub by_contract : {S A : Type 0} {o p : Outcome S A} {given : S} → o ≡ p → HandsBack p given → HandsBack o given
by_contract {given = given} e = subst (λ x. HandsBack x given) (sym e)

pub by_pick : {S A : Type 0} (b : Bool) (x y : Outcome S A) {given : S} → HandsBack x given → HandsBack y given → HandsBack (pick b x y) given
by_pick true x y p q = p
by_pick false x y p q = q

pub by_after : {S A : Type 0} (t : Told (Unit {0})) (given : S) (next : Outcome S A) → HandsBack next given → HandsBack (once_tested t given next) given
by_after (done u) given next p = p
by_after (refused number place) given next p = λ m q e. refl

by_report : (t : Told (Unit {0})) (report : Report) → HandsBack (reported t report) no_report
by_report (done u) report = λ m q e. never e
by_report (refused number place) report = λ m q e. refl

-- ---- a block

-- a refused one hands back its record
pub block_kept : (n : ℕ) (ch : Chain) (ss list : List ℕ) → HandsBack (block_of n ch ss list) ch
unfolding block_of
block_kept n ch ss list =
    by_after (tested_of n ch) ch _
    (by_after (checked_from 0 ss) ch _ (by_pick (leb (length (rises_in ch ss)) (length list)) _ _ (λ m q e. never e) (λ m q e. refl)))

-- and its list
pub list_kept : (t : Told ℕ) (places list : List ℕ) {number place : ℕ} → t ≡ refused number place → list_by t places list ≡ list
list_kept t places list e = ap (λ x. list_by x places list) e

-- ---- the writer

kept_bytes : (t : Told ℕ) (samples out : List ℕ) {number place : ℕ} → t ≡ refused number place → bytes_by t samples out ≡ out
kept_bytes t samples out e = ap (λ x. bytes_by x samples out) e

-- ---- a text

-- what is laid at an array's front stands there, and the rest is as it was
module _ (laid_out out : List ℕ) {out' : List ℕ} {bytes : ℕ} (count : bytes ≡ length laid_out) (so : out' ≡ laid laid_out out) where
  pub front_of : take bytes out' ≡ laid_out
  front_of = ap (take bytes) so ∙ take_at laid_out (drop (length laid_out) out) bytes (sym count)

  pub rest_of : drop bytes out' ≡ drop bytes out
  rest_of = ap (drop bytes) so ∙ drop_at laid_out (drop (length laid_out) out) bytes (sym count) ∙ ap (λ n. drop n out) (sym count)

text_kept : (what : Capture.Report) (text out out' : List ℕ) (bytes number line : ℕ) → end_of text ≡ refused number line
    → bytes ≡ length (output_of what text) → out' ≡ laid (output_of what text) out → TextRefused what text out out' number line bytes
text_kept what text out out' bytes number line e count so =
    let whole = (text_output what text).refusal number line (((text_exact text).refusal number line).0 e) in
    record {
      front = front_of (output_of what text) out count so ∙ whole;
      counted = count ∙ ap length whole;
      rest = rest_of (output_of what text) out count so;
    }

-- ---- answers by numbers

decode_zeros : (t : Told Command) → Refuses (decode_by t) (0 ∷ 0 ∷ 0 ∷ 0 ∷ 0 ∷ 0 ∷ [])
decode_zeros (done c) number e = let z : 0 ≡ suc number = e in absurd (omega arith)
decode_zeros (refused m place) number e = refl

pub alone_zero : (t : Told ℕ) → Refuses (alone t) (0 ∷ [])
alone_zero (done n) number e = let z : 0 ≡ suc number = e in absurd (omega arith)
alone_zero (refused m place) number e = refl

find_zeros : (o : Outcome Report (Unit {0})) → HandsBack o no_report → Refuses (find_by o.told o.state.rise o.state.passed) (0 ∷ 0 ∷ 0 ∷ [])
find_zeros o back number e =
    ap (λ (r : Report). drop 2 (find_by o.told r.rise r.passed)) (back (suc number) (place_in o.told) (is_refusal o.told e))

pub answer_as : {answer numbers zeros : List ℕ} → answer ≡ numbers → Refuses numbers zeros → Refuses answer zeros
answer_as {zeros = zeros} e = subst (λ x. Refuses x zeros) (sym e)

-- ---- the entries

find_kept : (levels : ℕ) (samples : List ℕ) → HandsBack (found_of levels samples) no_report
unfolding found_of
find_kept levels samples = by_pick (leb levels 7) _ _ (by_report (checked_from 0 samples) (looked_of levels samples)) (λ m q e. refl)

pub refusals_change_nothing : RefusalsChangeNothing
unfolding One.applied_of One.sampled_of One.scanned_of One.segments_of started_of played_of scanned_of applied_of segments_of seen_of
refusals_change_nothing =
    record {
      chip_apply = λ c command r e. by_contract e (by_pick (valid c) _ _ (by_pick (legal command) _ _ (λ m q f. never f) (λ m q f. refl)) (λ m q f. refl));
      chip_sample =
          λ c levels sample r e.
          by_contract e
          (by_pick (valid c) _ _ (by_pick (leb levels 7) _ _ (by_pick (leb sample 7) _ _ (λ m q f. never f) (λ m q f. refl)) (λ m q f. refl)) (λ m q f. refl));
      chip_scan = λ c bytes r e. by_contract e (by_pick (valid c) _ _ (λ m q f. never f) (λ m q f. refl));
      chip_segments = λ c r e. by_contract e (by_pick (valid c) _ _ (λ m q f. never f) (λ m q f. refl));
      start = λ n r e. by_contract e (by_pick (chip_count n) _ _ (λ m q f. never f) (λ m q f. refl));
      play =
          λ n ch samples r e.
          by_contract e (by_after (tested_of n ch) ch _ (by_after (checked_from 0 samples) ch _ (λ m q f. never f)));
      block = λ n ch samples list list' r b. (
        by_contract b.answer (block_kept n ch samples list),
        λ m q e. b.places ∙ list_kept (block_of n ch samples list).told (rises_in ch samples) list (sym (ap (λ o. o.told) b.answer) ∙ e),
      );
      scan = λ n ch k bytes r e. by_contract e (by_after (tested_of n ch) ch _ (by_pick (ltb k n) _ _ (λ m q f. never f) (λ m q f. refl)));
      apply =
          λ n ch k command r e.
          by_contract e
          (by_after (tested_of n ch) ch _ (by_pick (legal command) _ _ (by_pick (ltb k n) _ _ (λ m q f. never f) (λ m q f. refl)) (λ m q f. refl)));
      segments = λ n ch k r e. by_contract e (by_after (tested_of n ch) _ _ (by_pick (ltb k n) _ _ (λ m q f. never f) (λ m q f. refl)));
      host_sees = λ n ch r e. by_contract e (by_after (tested_of n ch) false _ (λ m q f. never f));
      find = λ levels samples r e. by_contract e (find_kept levels samples);
      write = λ n ws out out' r w m q e. w.bytes ∙ kept_bytes (answer_of n ws out) (written n ws) out (sym w.answer ∙ e);
      replay = λ text out out' r w m line e. text_kept Words text out out' r.bytes m line (sym w.answer ∙ e) w.count w.bytes;
      screen = λ text out out' r w m line e. text_kept Screen text out out' r.bytes m line (sym w.answer ∙ e) w.count w.bytes;
      count = λ t text r e m line f.
          subst (CountRefused t text line) (sym (ap (λ o. o.state) e)) (count_refused t text m line (sym (ap (λ o. o.told) e) ∙ f));
      library_decode = λ word answer e. answer_as e (decode_zeros (decoded_of word));
      library_encode = λ command answer e. answer_as e (alone_zero (encoded_by (command_in command)));
      library_find = λ levels samples answer e. answer_as e (find_zeros (found_of levels samples) (find_kept levels samples));
      library_write = λ n words out answer out' w. (
        answer_as w.numbers (alone_zero (answer_of n words out)),
        λ m e. w.bytes ∙ kept_bytes (answer_of n words out) (written n words) out (is_refusal (answer_of n words out) (sym (ap (λ xs. get_or xs 0 0) w.numbers) ∙ e)),
      );
      library_replay = λ text out answer out' w m e.
          let same = w.numbers in
          let told = is_refusal (end_of text) (sym (ap (λ xs. get_or xs 0 0) same) ∙ e) in
          let line = ap (λ xs. get_or xs 1 0) same in
          text_kept Words text out out' (get_or answer 2 0) (suc m) (get_or answer 1 0) (told ∙ ap (refused (suc m)) (sym line)) (ap (λ xs. get_or xs 2 0) same) w.bytes;
      library_tally = tally_refused;
      library_start = start_kept;
      library_block = λ ns samples list answer ns' list' b. (answer_as b.numbers (alone_zero (block_in ns samples list).told), numbers_kept ns samples list answer ns' list' b);
      library_scan = λ ns k bytes answer ns' w. (answer_as w.numbers (scan_zeros (scanned_in ns k bytes).told), scan_kept ns k bytes answer ns' w);
      library_lit = λ ns k answer e.
          answer_as e (lit_zeros _ (by_after (tested_in ns) blank _ (by_after (tested_of (count_in ns) (chain_of ns)) blank _ (by_pick (ltb k (count_in ns)) _ _ (λ m q f. never f) (λ m q f. refl)))));
      library_sees = λ ns answer e.
          answer_as e (sees_zero _ (by_after (tested_in ns) false _ (by_after (tested_of (count_in ns) (chain_of ns)) false _ (λ m q f. never f))));
    }
