-- The insurer's first and third answers.
--     answer_1, answer_1_scans, answer_1_others     which levels on the wires can change the display
--     answer_3                                      each chip took its own commands, each one time
-- The second, how many codes one press gives, is in proofs/Codes; that a LOAD rise can change the display in proofs/Shown.
-- Assumes nothing.
use mathlib.Core.Path.{◌≡◌, refl, ap, sym, ◌∙◌}
use mathlib.Core.Bool.{false}
use mathlib.Core.List.{List, [], ◌∷◌, map, append-nil}
use Prim.Native.Nat.{ℕ}
use Rattle.base.proofs.Picks.{pick_no, pick_cases}
use Rattle.chip.specs.declared.Chip.{Chip}
use Rattle.chip.specs.Record.{Body, body_of, reset_chip}
use Rattle.chip.specs.Scans.{result, wakes, scanned_by, scanned}
use Rattle.chip.specs.Segments.{lit_of}
use Rattle.chain.specs.Chain.{stepped_chain}
use Rattle.chain.specs.Entries.{chip_at}
use Rattle.chain.proofs.Laws.{quiet_chain, one_alone}
use Rattle.chain.specs.Events.{samples_in}
use Rattle.demands.specs.Answers.{OnlyLoadRises, ScansChangeNoDigit, ScansChangeOneChip, EachTookItsOwn}
use Rattle.writer.specs.Rows.{rows_of}
use Rattle.demands.proofs.Demand3.{demand_3}
use Rattle.demands.proofs.Corollaries.{own_words, scans_own}

-- ---- 1

-- what is lit depends on settings and display alone
lit_body : Body → List ℕ
lit_body b = lit_of (record { line = reset_chip.line; settings = b.settings; digits = b.digits; keys = b.keys })

map_lit : (cs : List Chip) → map lit_of cs ≡ map lit_body (map body_of cs)
unfolding lit_body
map_lit [] = refl
map_lit (c ∷ cs) = ap (λ r. lit_of c ∷ r) (map_lit cs)

pub answer_1 : OnlyLoadRises
answer_1 n s ch e =
    let same = quiet_chain n s ch e in
    (same, map_lit (stepped_chain n s ch).chips ∙ ap (map lit_body) same ∙ sym (map_lit ch.chips))

digits_kept : (r : ℕ) (c : Chip) → (scanned_by r c).digits ≡ c.digits
unfolding scanned_by
digits_kept r c =
    pick_cases (λ (x : Chip). x.digits ≡ c.digits) c.settings.sleeping
    (λ _. pick_cases (λ (x : Chip). x.digits ≡ c.digits) (wakes r) (λ _. refl) (λ _. refl))
    (λ _. pick_cases (λ (x : Chip). x.digits ≡ c.digits) c.settings.system.keyb (λ _. refl) (λ _. refl))

lit_kept : (r : ℕ) (c : Chip) → c.settings.sleeping ≡ false → lit_of (scanned_by r c) ≡ lit_of c
unfolding scanned_by
lit_kept r c awake =
    ap lit_of (pick_no _ _ awake) ∙ pick_cases (λ (x : Chip). lit_of x ≡ lit_of c) c.settings.system.keyb (λ _. refl) (λ _. refl)

pub answer_1_scans : ScansChangeNoDigit
answer_1_scans bytes c = (digits_kept (result bytes) c, lit_kept (result bytes) c)

pub answer_1_others : ScansChangeOneChip
answer_1_others k j bytes ch ne = one_alone k j (scanned bytes (chip_at k ch)) ch ne

-- ---- 3

pub answer_3 : EachTookItsOwn
answer_3 n ch ws asked es below whole k h =
    record {
      ends = demand_3 n ch ws asked es [] below (append-nil (samples_in es) ∙ whole) k h;
      commands = own_words n ch ws asked es whole k h;
      scans = scans_own k ch.levels (rows_of n ws) es;
    }
