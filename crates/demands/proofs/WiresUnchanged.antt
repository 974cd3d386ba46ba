-- Demand 1 for the CH450 and its texts, "a refusal changes no chip and no byte of a lent buffer": the theorem.
--     leaves                                an answer by numbers, and an array that a refusal leaves as it was
--     two_wires_refusals_change_nothing     specs/WiresUnchanged.antt
-- Assumes nothing.
use mathlib.Core.Path.{◌≡◌, refl, ap, sym, ◌∙◌}
use mathlib.Core.List.{List}
use Prim.Native.Nat.{ℕ, suc}
use lib.Dec.{leb}
use lib.ListN.{length, get_or}
use Rattle.base.specs.Lent.{laid}
use Rattle.base.specs.Refusals.{Told, done, refused, Outcome}
use Rattle.ch450.specs.declared.Panel.{Panel}
use Rattle.ch450.specs.Commands.{legal}
use Rattle.ch450.specs.Entries.{applied_of, segments_of, tested_of, checked_from, sampled_of, played_of}
use Rattle.ch450.specs.Panel.{valid, dark}
use Rattle.ch450.specs.Written.{written, answer_of, bytes_by}
use Rattle.wires.specs.declared.Report.{Report}
use Rattle.wires.specs.declared.Report.TheVariants.{Commands, Screen}
use Rattle.wires.specs.Replay.{end_of, output_of}
use Rattle.zhaqsumir.specs.Numbers.{place_in, alone}
use Rattle.zhaqsumir.specs.TwoWires.{command_in, word_by, panel_in, numbers_after, play_of, lit_by, lit_from}
use Rattle.demands.specs.Unchanged.{HandsBack, Refuses}
use Rattle.demands.specs.WiresUnchanged.{WiresRefused, Leaves, TwoWiresRefusalsChangeNothing}
use Rattle.demands.proofs.ExactWires.{wires_exact, wires_output}
use Rattle.demands.proofs.Unchanged.{by_contract, by_pick, by_after, front_of, rest_of, alone_zero, answer_as}
use Rattle.demands.proofs.UnchangedTally.{never, is_refusal}

text_kept : (what : Report) (text out out' : List ℕ) (bytes number line : ℕ) → end_of text ≡ refused number line
    → bytes ≡ length (output_of what text) → out' ≡ laid (output_of what text) out → WiresRefused what text out out' number line bytes
text_kept what text out out' bytes number line e count so =
    let whole = (wires_output what text).refusal number line (((wires_exact text).refusal number line).0 e) in
    record {
      front = front_of (output_of what text) out count so ∙ whole;
      counted = count ∙ ap length whole;
      rest = rest_of (output_of what text) out count so;
    }

-- ---- answers by numbers

-- an answer that tells a refusal, and an array that a refusal leaves as it was
pub leaves : (t : Told ℕ) {answer lent lent' : List ℕ} → answer ≡ alone t → ((m p : ℕ) → t ≡ refused m p → lent' ≡ lent)
    → Leaves answer lent lent'
leaves t e kept = (answer_as e (alone_zero t), λ m f. kept (suc m) (place_in t) (is_refusal t (sym (ap (λ xs. get_or xs 0 0) e) ∙ f)))

-- a block that is refused leaves the panel's numbers
play_kept : (t : Told Panel) (ns : List ℕ) (key : ℕ) (samples : List ℕ) → HandsBack (play_of t ns key samples) ns
play_kept (done p) ns key samples = λ m q e. ap (λ u. numbers_after u (played_of p key samples).state ns) e
play_kept (refused number place) ns key samples = λ m q e. refl

-- no segment is lit
lit_zeros : (o : Outcome (List ℕ) (Unit {0})) → HandsBack o dark → Refuses (lit_by o) dark
lit_zeros o back number e = back (suc number) (place_in o.told) (is_refusal o.told e)

segments_kept : (p : Panel) → HandsBack (segments_of p) dark
unfolding segments_of
segments_kept p = by_pick (valid p) _ _ (λ m q f. never f) (λ m q f. refl)

lit_kept : (t : Told Panel) → Refuses (lit_from t) dark
lit_kept (done p) = lit_zeros (segments_of p) (segments_kept p)
lit_kept (refused number place) = λ m e. refl

-- ---- the entries

pub two_wires_refusals_change_nothing : TwoWiresRefusalsChangeNothing
unfolding applied_of sampled_of played_of
two_wires_refusals_change_nothing =
    record {
      apply = λ p command r e. by_contract e (by_pick (valid p) _ _ (by_pick (legal command) _ _ (λ m q f. never f) (λ m q f. refl)) (λ m q f. refl));
      segments = λ p r e. by_contract e (segments_kept p);
      sample = λ p key s r e. by_contract e (by_after (tested_of p key) p _ (by_pick (leb s 3) _ _ (λ m q f. never f) (λ m q f. refl)));
      play = λ p key samples r e. by_contract e (by_after (tested_of p key) p _ (by_after (checked_from 0 samples) p _ (λ m q f. never f)));
      write = λ ws out out' r w m q e. w.bytes ∙ ap (λ t. bytes_by t (written ws) out) (sym w.answer ∙ e);
      replay = λ text out out' r w m line e. text_kept Commands text out out' r.bytes m line (sym w.answer ∙ e) w.count w.bytes;
      screen = λ text out out' r w m line e. text_kept Screen text out out' r.bytes m line (sym w.answer ∙ e) w.count w.bytes;
      library_encode = λ command answer e. answer_as e (alone_zero (word_by (command_in command)));
      library_write = λ words out answer out' w.
          leaves (answer_of words out) w.numbers (λ m p e. w.bytes ∙ ap (λ t. bytes_by t (written words) out) e);
      library_play = λ ns key samples answer ns' w.
          leaves (play_of (panel_in ns) ns key samples).told w.numbers (λ m p e. w.panel ∙ play_kept (panel_in ns) ns key samples m p e);
      library_lit = λ ns answer e. answer_as e (lit_kept (panel_in ns));
    }
