-- `chain::blocks::listed` meets its contract. The invariant: the rest, played from here, is the whole played, and the places of the
-- rest's rises, put where the list stands, make the whole list.
-- Assumes nothing.
use mathlib.Core.Path.{◌≡◌, refl, sym, subst, ◌∙◌}
use mathlib.Core.Bool.{true, false}
use mathlib.Core.List.{List, [], ◌∷◌, ◌++◌}
use Prim.Native.Nat.{ℕ, ◌+◌, ◌-◌, ◌≤◌}
use native.Mathlib.Omega.{arith}
use lib.ListN.{length, set, drop}
use Rattle.base.proofs.Lent.{Fills, fills_start, fills_more, fills_room, fills_over}
use Rattle.base.proofs.Picks.{pick_yes, pick_no}
use Rattle.base.proofs.Stores.{one_put}
use Rattle.chain.specs.declared.Chain.{Chain}
use Rattle.chain.specs.declared.play.Stretch.{Stretch}
use Rattle.chain.specs.Blocks.{rises_from, rises_in}
use Rattle.chain.specs.Stretch.{stretch_from}
use Rattle.chain.proofs.Rest.{play_over}
use Rattle.chain.proofs.Rises.{rises_over, stretch_rises}
use Rattle.chain.proofs.Stretch.{stretch_fewer, stretch_plays}
use Rattle.chain.proofs.blocks.listed.Goals as goal

-- ---- one stretch

module _ (n : ℕ) (ss : List ℕ) (ch : Chain) (list : List ℕ) (fits : length (rises_in ch ss) ≤ length list) (i : ℕ) (next : Chain) (t : Stretch) (e : t ≡ stretch_from n i (drop i ss) next) where
  -- the list filled so far, and what is left to put
  abbrev So : ℕ → List ℕ → List ℕ → Type 0
  So = Fills 0 (rises_in ch ss) list

  -- what is left after the stretch
  abbrev rest : List ℕ
  rest = rises_from t.stop t.chain.levels (drop t.stop ss)

  whole : 0 + length (rises_in ch ss) ≤ length list
  whole = omega arith

  -- with a LOAD rise at its end, its place comes first
  at_rise_lem : {at : ℕ} {out : List ℕ} → t.rose ≡ true → So at (rises_from i next.levels (drop i ss)) out → So at (((t.stop - 1) ∷ []) ++ rest) out
  at_rise_lem {at} {out} up f = subst (λ r. So at r out) (stretch_rises ss n i next t e ∙ pick_yes _ _ up) f

  room : {at : ℕ} {out : List ℕ} → t.rose ≡ true → So at (rises_from i next.levels (drop i ss)) out → at + 1 ≤ length out
  room up f = fills_room ((t.stop - 1) ∷ []) rest (at_rise_lem up f) whole

  one_more : {at : ℕ} {out : List ℕ} → t.rose ≡ true → So at (rises_from i next.levels (drop i ss)) out → So (at + 1) rest (set out at (t.stop - 1))
  one_more {at} {out} up f = fills_more ((t.stop - 1) ∷ []) rest (at_rise_lem up f) whole refl (one_put out at (t.stop - 1) (room up f))

  none_more : {at : ℕ} {out : List ℕ} → t.rose ≡ false → So at (rises_from i next.levels (drop i ss)) out → So at rest out
  none_more {at} {out} still f = subst (λ r. So at r out) (stretch_rises ss n i next t e ∙ pick_no _ _ still) f

-- ---- the loop
pub loop-i-init : goal.loop-i-init
loop-i-init c = (refl, fills_start 0 (rises_in c.args.chain c.args.samples.now) c.args.rises.now)

pub overflow_sub-rises : goal.overflow_sub-rises
overflow_sub-rises c =
    let o = c.loop-i in
    let a = c.args in
    let part = c.to_next_rise-part in
    let more = c.loop-i-test.true in
    omega (arith, stretch_fewer a.n a.samples.now o.i o.next part.result part.ensures more)

pub bounds-rises-at : goal.bounds-rises-at
bounds-rises-at c =
    let p = c in
    omega (
      arith,
      room p.args.n p.args.samples.now p.args.chain p.args.rises.now p.requires c.loop-i.i
          c.loop-i.next c.to_next_rise-part.result c.to_next_rise-part.ensures c.if-part.true c.loop-i.invariant.1,
    )

pub loop-i-smaller-then-part : goal.loop-i-smaller-then-part
loop-i-smaller-then-part c =
    let o = c.loop-i in
    let a = c.args in
    let part = c.to_next_rise-part in
    stretch_fewer a.n a.samples.now o.i o.next part.result part.ensures c.loop-i-test.true

pub loop-i-preserved-then-part : goal.loop-i-preserved-then-part
loop-i-preserved-then-part c =
    let o = c.loop-i in
    let p = c in
    let a = p.args in
    let part = c.to_next_rise-part in (
      stretch_plays a.n a.samples.now o.i o.next part.result part.ensures ∙ o.invariant.0,
      one_more a.n a.samples.now a.chain a.rises.now p.requires o.i o.next part.result part.ensures c.if-part.true o.invariant.1,
    )

pub loop-i-smaller : goal.loop-i-smaller
loop-i-smaller c =
    let o = c.loop-i in
    let a = c.args in
    let part = c.to_next_rise-part in
    stretch_fewer a.n a.samples.now o.i o.next part.result part.ensures c.loop-i-test.true

pub loop-i-preserved : goal.loop-i-preserved
loop-i-preserved c =
    let o = c.loop-i in
    let p = c in
    let a = p.args in
    let part = c.to_next_rise-part in (
      stretch_plays a.n a.samples.now o.i o.next part.result part.ensures ∙ o.invariant.0,
      none_more a.n a.samples.now a.chain a.rises.now p.requires o.i o.next part.result part.ensures c.if-part.false o.invariant.1,
    )

pub returns : goal.returns
returns c =
    let o = c.loop-i in
    let a = c.args in
    let past = c.loop-i-test.false in record { value = sym (play_over a.n a.samples.now o.i o.next past) ∙ o.invariant.0; rises_after = (fills_over (subst (λ r. Fills 0 (rises_in a.chain a.samples.now) a.rises.now o.at r o.rises) (rises_over a.samples.now o.i o.next.levels past) o.invariant.1)).1 }
