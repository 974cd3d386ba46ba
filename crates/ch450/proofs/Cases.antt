-- The worked examples of the CH450's sheet hold.
--     comes, lit_so     a list that is accepted, written and played
--     letter_case       64H, 79H with the display on
--     read_case         4FH, with any code
--     ch450_cases_lem       every claim of specs/Cases.antt
-- Assumes nothing.
use mathlib.Core.Path.{◌≡◌, refl, ap, ◌∙◌}
use mathlib.Core.Bool.{true}
use mathlib.Core.List.{List, [], ◌∷◌}
use Prim.Native.Nat.{ℕ, ◌*◌, ◌≤◌}
use native.Mathlib.Omega.{arith}
use borrow.Author.Tests.{le-leb}
use lib.Dec.{T, leb}
use lib.ListN.{length, take}
use lib.Seq.{take_at}
use Rattle.base.specs.Claims.{All}
use Rattle.base.specs.Pick.{pick}
use Rattle.base.specs.Refusals.{Outcome, done, once_tested}
use Rattle.base.proofs.Picks.{pick_yes}
use Rattle.base.proofs.Tests.{is_true, and_right}
use Rattle.ch450.specs.declared.Panel.{Panel}
use Rattle.ch450.specs.Edges.{idle}
use Rattle.ch450.specs.Panel.{Body, valid, valid_wires, valid_transfer, dark, lit_of, with_wires}
use Rattle.ch450.specs.Commands.{encoded_of, meaning_of, applied, told_at}
use Rattle.ch450.specs.Samples.{stepped_panel, played}
use Rattle.ch450.specs.Entries.{answer_to, tested_of, sampled_of}
use Rattle.ch450.specs.Written.{byte_bits, clocking, command_samples, words_from, list_test, answer_by, answer_of}
use Rattle.ch450.specs.Demand.{applied_all, played_back, WrittenPlayed}
use Rattle.ch450.specs.Cases.{Shows, LetterE, reading, Reads, ch450_cases}
use Rattle.ch450.proofs.Clocking.{holding, entered}
use Rattle.ch450.proofs.Demanded.{played_all, write_then_play}
use Rattle.ch450.proofs.OneCommand.{bits_of, front, front_length, front_played, command_is, command_below, command_reads, stop_means}
use Rattle.std.specs.declared.option.Option.TheVariants.{Some}

-- ---- written and played

-- a list that is accepted, in a buffer that has room
module _ (ws : List ℕ) (accepted : list_test ws ≡ done tt) (p : Panel) (key : ℕ) (out : List ℕ) (v : T (valid p)) (e : p.wires.levels ≡ idle) (h : key ≤ 127)
    (room : 40 * length ws ≤ length out) where
  comes : WrittenPlayed p key ws out (40 * length ws)
  unfolding answer_of
  comes =
      write_then_play p key ws out (40 * length ws) v e h
      (ap (λ t. answer_by t (40 * length ws) (length out)) accepted ∙ pick_yes _ _ (le-leb (40 * length ws) (length out) room))

  -- the segments lit are those of settings and digits
  lit_so : lit_of (played_back p key ws out (40 * length ws)).state ≡ lit_of (applied_all ws p)
  unfolding lit_of
  lit_so = ap (λ (b : Body). pick b.settings.sleep dark (pick b.settings.disp b.digits dark)) comes.whole

-- 64H, 79H with the display on
letter_case : Shows (0x6479 ∷ []) (λ p r. p.settings.disp ≡ true → LetterE p r)
unfolding list_test words_from applied_all meaning_of applied lit_of
letter_case p key out v e h room d = lit_so (0x6479 ∷ []) refl p key out v e h room ∙ pick_yes _ _ d

-- ---- 4FH

module _ (code : ℕ) (few : code ≤ 127) (p : Panel) (v : T (valid p)) (e : p.wires.levels ≡ idle) where
  -- the panel before the stop
  abbrev before : Panel
  before = with_wires (holding 0 19 (entered 0 (bits_of 0x4FFF))) p

  -- is one that a run can hold
  before_valid : valid before ≡ true
  unfolding valid valid_wires valid_transfer entered byte_bits
  before_valid = is_true (leb p.settings.intens 3) (and_right (valid_wires p.wires) (leb p.settings.intens 3) v)

  answered : (sampled_of before code 3).told ≡ done (Some code)
  unfolding sampled_of tested_of meaning_of
  answered =
      ap (λ t. (once_tested t before (record { state = stepped_panel 3 before; told = done (answer_to code (told_at 3 before.wires)) })).told)
      (pick_yes _ _ before_valid ∙ pick_yes _ _ (le-leb code 127 few))
      ∙ ap (λ m. done (answer_to code m)) (stop_means 0x4FFF)

  read_case : Reads code p
  unfolding meaning_of
  read_case = (
    ap (λ ss. (sampled_of (played ss p) code 3).told) (ap (take 39) (command_is 0x4FFF) ∙ take_at (front 0x4FFF) (3 ∷ []) 39 (front_length 0x4FFF))
        ∙ ap (λ q. (sampled_of q code 3).told) (front_played 0x4FFF p e)
        ∙ answered,
    ap (λ (o : Outcome Panel ℕ). o.told) (played_all p code reading v few (command_below 0x4FFF)) ∙ ap done (command_reads 0x4FFF p e),
  )

-- ---- all of them

-- one claim, and those after it
infixr 5 ◌also◌
◌also◌ : {A B : Type 0} → A → B → A × B
a also b = (a, b)

pub ch450_cases_lem : All ch450_cases
unfolding encoded_of command_samples clocking byte_bits list_test words_from applied_all meaning_of applied lit_of
ch450_cases_lem =
    -- 5.5
    refl
    also refl
    also (λ p key out v e h room. (comes (0x4801 ∷ []) refl p key out v e h room).unread)
    also (λ p key out v e h room. ap (λ (b : Body). b.settings) (comes (0x4801 ∷ []) refl p key out v e h room).whole)
    also lit_so (0x4801 ∷ []) refl
    -- 6.2
    also refl
    also refl
    also letter_case
    also lit_so (0x4801 ∷ 0x6479 ∷ []) refl
    -- 5.3, 6.3
    also refl
    also refl
    also refl
    also read_case 0x63 (omega arith)
    also read_case 0x23 (omega arith)
    also tt
