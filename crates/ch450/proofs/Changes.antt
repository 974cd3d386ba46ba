-- Which levels can change the display: the record's wires, beside the rises counted from the samples alone.
--     played_wires                      the wires move by themselves, whatever is obeyed
--     moved_levels                      their levels are the last sample's
--     moved_agrees                      a transfer runs where one is counted, with as many rises, up to 20
--     stop_completes, completes_stop    a sample completes a transfer exactly where it is a stop after 19 rises
--     only_stops_after_19                          elsewhere neither settings nor digits nor the segments lit change
-- Assumes nothing.
use mathlib.Core.Path.{◌≡◌, refl, ap, ap₂, subst, sym, ◌∙◌}
use mathlib.Core.Bool.{Bool, true, false, ◌&&◌, true≢false}
use mathlib.Core.List.{List, [], ◌∷◌, ◌++◌}
use Prim.Native.Nat.{ℕ, suc}
use native.Mathlib.Omega.{arith}
use lib.Dec.{T, eqb, ltb}
use borrow.Author.Tests.{eqb-true, lt-ltb, le-ltb}
use Rattle.base.specs.Pick.{pick}
use Rattle.base.proofs.Picks.{pick_yes, pick_no}
use Rattle.base.proofs.Tests.{is_true, and_left, and_right, by_order}
use Rattle.ch450.specs.declared.Panel.{Panel}
use Rattle.ch450.specs.declared.Wires.{Wires}
use Rattle.ch450.specs.Edges.{starts, stops, scl_rises, idle, at_rest, one_more, taken, seen, stepped, completes}
use Rattle.ch450.specs.Panel.{body_of, lit_of, power_on, with_wires}
use Rattle.ch450.specs.Samples.{stepped_panel, played}
use Rattle.ch450.specs.Answers.{RisesSoFar, none, since, risen, rises_after, levels_after, StopAfter19, OnlyStopsAfter19}
use Rattle.ch450.proofs.Silent.{moved, silent_step, played_append, step_wires, stepped_levels}

-- ---- the wires

pub played_wires : (ss : List ℕ) (p : Panel) → (played ss p).wires ≡ moved ss p.wires
unfolding played moved
played_wires [] p = refl
played_wires (s ∷ ss) p = played_wires ss (stepped_panel s p) ∙ ap (moved ss) (step_wires s p)

pub moved_levels : (ss : List ℕ) (w : Wires) → (moved ss w).levels ≡ levels_after w.levels ss
unfolding moved
moved_levels [] w = refl
moved_levels (s ∷ ss) w = moved_levels ss (stepped s w) ∙ ap (λ l. levels_after l ss) (stepped_levels s w)

-- ---- the rises

-- rises are counted up to 20
abbrev pub up_to20 : ℕ → ℕ
up_to20 n = pick (ltb n 20) n 20

-- wires beside a transfer that is counted from samples
abbrev pub Agrees : RisesSoFar → Wires → Type 0
Agrees none w = w.running ≡ false
Agrees (since n) w = (w.running ≡ true) × (w.rises ≡ up_to20 n)

-- one rise more of each
one_more_agrees : (n : ℕ) → one_more (up_to20 n) ≡ up_to20 (suc n)
one_more_agrees n =
    by_order 20 n
    (λ past. ap one_more (pick_no n 20 (le-ltb n 20 past)) ∙ sym (pick_no (suc n) 20 (le-ltb (suc n) 20 (omega arith))))
    (λ h. ap one_more (pick_yes n 20 (lt-ltb n 20 h)) ∙ pick_yes (suc n) n (lt-ltb n 20 h)
    ∙ by_order 20 (suc n)
    (λ l. let last : suc n ≡ 20 = omega arith in last ∙ sym (pick_no (suc n) 20 (le-ltb (suc n) 20 l)))
    (λ l. sym (pick_yes (suc n) 20 (lt-ltb (suc n) 20 l))))

-- what holds of two choices by one test
pick_both : (P : RisesSoFar → Wires → Type 0) (b : Bool) {t u : RisesSoFar} {w v : Wires} → P t w → P u v → P (pick b t u) (pick b w v)
pick_both P true p q = p
pick_both P false p q = q

-- neither a start nor a stop
rise_agrees : (s : ℕ) (w : Wires) (up : Bool) (t : RisesSoFar) → Agrees t w
    → Agrees (pick up (risen t) t) (pick (w.running && up) (taken s w) (seen s w))
rise_agrees s w true none a = ap (λ b. (pick (b && true) (taken s w) (seen s w)).running) a ∙ a
rise_agrees s w false none a = ap (λ b. (pick (b && false) (taken s w) (seen s w)).running) a ∙ a
rise_agrees s w true (since n) a = (
  ap (λ b. (pick (b && true) (taken s w) (seen s w)).running) a.0,
  ap (λ b. (pick (b && true) (taken s w) (seen s w)).rises) a.0 ∙ ap one_more a.1 ∙ one_more_agrees n,
)
rise_agrees s w false (since n) a = (
  ap (λ b. (pick (b && false) (taken s w) (seen s w)).running) a.0 ∙ a.0,
  ap (λ b. (pick (b && false) (taken s w) (seen s w)).rises) a.0 ∙ a.1,
)

-- a transfer after one sample
abbrev next : ℕ → ℕ → RisesSoFar → RisesSoFar
next was s t = pick (starts was s) (since 0) (pick (stops was s) none (pick (scl_rises was s) (risen t) t))

-- after one sample they agree again
step_agrees : (s : ℕ) (w : Wires) (t : RisesSoFar) → Agrees t w → Agrees (next w.levels s t) (stepped s w)
unfolding stepped
step_agrees s w t a =
    pick_both Agrees (starts w.levels s) (refl, refl)
    (pick_both Agrees (stops w.levels s) refl (rise_agrees s w (scl_rises w.levels s) t a))

pub moved_agrees : (ss : List ℕ) (w : Wires) (t : RisesSoFar) → Agrees t w → Agrees (rises_after w.levels t ss) (moved ss w)
unfolding moved rises_after
moved_agrees [] w t a = a
moved_agrees (s ∷ ss) w t a =
    subst (λ l. Agrees (rises_after l (next w.levels s t) ss) (moved ss (stepped s w))) (stepped_levels s w)
    (moved_agrees ss (stepped s w) (next w.levels s t) (step_agrees s w t a))

-- ---- what completes a command

-- 19 rises in the record are 19 rises
counted_19 : (t : RisesSoFar) (w : Wires) → Agrees t w → w.running ≡ true → w.rises ≡ 19 → t ≡ since 19
counted_19 none w a runs e = absurd (true≢false (sym runs ∙ a))
counted_19 (since n) w a runs e =
    by_order 20 n (λ past. let wrong = sym e ∙ a.1 ∙ pick_no n 20 (le-ltb n 20 past) in absurd (omega arith))
    (λ h. ap since (sym (pick_yes n 20 (lt-ltb n 20 h)) ∙ sym a.1 ∙ e))

-- the wires after samples from power-on
abbrev pub wires_after : List ℕ → Wires
wires_after ss = moved ss (at_rest idle)

module _ (ss : List ℕ) (s : ℕ) where
  -- those before the sample
  abbrev here : Wires
  here = wires_after ss

  -- their levels, by the samples
  levels_here : here.levels ≡ levels_after idle ss
  levels_here = moved_levels ss (at_rest idle)

  -- and their rises
  agrees_here : Agrees (rises_after idle none ss) here
  agrees_here = moved_agrees ss (at_rest idle) none refl

  pub completes_stop : completes s (wires_after ss) ≡ true → StopAfter19 ss s
  unfolding completes
  completes_stop e =
      let all = subst T (sym e) tt in
      let counts = and_left (here.running && eqb here.rises 19) (stops here.levels s) all in
      let runs = is_true here.running (and_left here.running (eqb here.rises 19) counts) in
      let rises = is_true (eqb here.rises 19) (and_right here.running (eqb here.rises 19) counts) in
      let stop = is_true (stops here.levels s) (and_right (here.running && eqb here.rises 19) (stops here.levels s) all) in
      (ap (λ l. stops l s) (sym levels_here) ∙ stop, counted_19 (rises_after idle none ss) here agrees_here runs (eqb-true here.rises 19 rises))

  pub stop_completes : StopAfter19 ss s → completes s (wires_after ss) ≡ true
  unfolding completes
  stop_completes h =
      let a = subst (λ t. Agrees t here) h.1 agrees_here in
      ap₂ (λ b n. b && eqb n 19 && stops here.levels s) a.0 a.1 ∙ ap (λ l. stops l s) levels_here ∙ h.0

pub only_stops_after_19 : OnlyStopsAfter19
unfolding played lit_of
only_stops_after_19 digits ss s elsewhere = (ap body_of same, ap lit_of same)
  where
    p : Panel
    p = power_on digits

    q : Panel
    q = played ss p

    silent : (b : Bool) → completes s (wires_after ss) ≡ b → completes s (wires_after ss) ≡ false
    silent true e = absurd (elsewhere (completes_stop ss s e))
    silent false e = e

    same : played (ss ++ s ∷ []) p ≡ with_wires (stepped s q.wires) q
    same = played_append ss (s ∷ []) p ∙ silent_step s q (ap (completes s) (played_wires ss p) ∙ silent (completes s (wires_after ss)) refl)
