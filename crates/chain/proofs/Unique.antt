-- The contracts of this crate's functions allow one outcome each: `AllowsOne` of the base crate, of what each generated contract tells.
-- The entries come first, then the inner functions.
-- Assumes nothing.
use mathlib.Core.Path.{◌≡◌, refl, ap, sym, ◌∙◌}
use Prim.Native.Nat.{ℕ}
use Rattle.base.specs.Unique.{AllowsOne}
use Rattle.base.proofs.Unique.{same_answer, same_result, same_told, same_handed}
use Rattle.chip.proofs.Unique.{same_scan, same_taken}
use Rattle.chain.specs.Finder.{NextRise, rise_at, no_rise, next_rise_of}
use Rattle.chain.proofs.start
use Rattle.chain.proofs.host_sees
use Rattle.chain.proofs.play
use Rattle.chain.proofs.blocks
use Rattle.chain.proofs.one
use Rattle.chain.proofs.finder
use Rattle.chain.proofs.checks
use Rattle.std.specs.declared.option.Option.{Option}
use Rattle.std.specs.declared.option.Option.TheVariants.{Some, None}

rise_of : NextRise → (Option ℕ)
rise_of (rise_at place) = Some place
rise_of no_rise = None

rise_back : (rise : Option ℕ) → rise_of (next_rise_of rise) ≡ rise
unfolding rise_of
rise_back (Some place) = refl
rise_back None = refl

-- ---- the entries

pub start_unique : AllowsOne start.Kinds.ps start.Kinds.r start.Reads.Learnt
start_unique κs a x y last last' p q = (same_handed p q, refl)

pub host_sees_unique : AllowsOne host_sees.Kinds.ps host_sees.Kinds.r host_sees.Reads.Learnt
host_sees_unique κs a x y last last' p q = (same_handed p q, refl)

pub play_unique : AllowsOne play.play.Kinds.ps play.play.Kinds.r play.play.Reads.Learnt
play_unique κs a x y last last' p q = (same_handed p q, refl)

pub block_unique : AllowsOne blocks.block.Kinds.ps blocks.block.Kinds.r blocks.block.Reads.Learnt
block_unique κs a x y last last' p q =
    (same_handed p.answer q.answer, λ i. (tt, (tt, (tt, (same_answer p.places q.places i, tt)))))

pub apply_unique : AllowsOne one.apply.Kinds.ps one.apply.Kinds.r one.apply.Reads.Learnt
apply_unique κs a x y last last' p q = (same_handed p q, refl)

pub scan_unique : AllowsOne one.scan.Kinds.ps one.scan.Kinds.r one.scan.Reads.Learnt
scan_unique κs a x y last last' p q = (same_scan p q, refl)

pub segments_lit_unique : AllowsOne one.segments_lit.Kinds.ps one.segments_lit.Kinds.r one.segments_lit.Reads.Learnt
segments_lit_unique κs a x y last last' p q = (same_handed p q, refl)

pub next_rise_unique : AllowsOne finder.next_rise.Kinds.ps finder.next_rise.Kinds.r finder.next_rise.Reads.Learnt
next_rise_unique κs a x y last last' p q =
    let e = same_answer p q in
    let answer = same_result {r = x.answer} {s = y.answer} (ap (λ o. o.told) e) in
    let rise = sym (rise_back x.rise) ∙ ap (λ o. rise_of o.state.rise) e ∙ rise_back y.rise in
    (λ i. record { rise = rise i; passed = ap (λ o. o.state.passed) e i; answer = answer i }, refl)

-- ---- the inner functions

pub chip_at_unique : AllowsOne one.chip_at.Kinds.ps one.chip_at.Kinds.r one.chip_at.Reads.Learnt
chip_at_unique κs a x y last last' p q = (same_answer p q, refl)

pub scan_chip_unique : AllowsOne one.scan_chip.Kinds.ps one.scan_chip.Kinds.r one.scan_chip.Reads.Learnt
scan_chip_unique κs a x y last last' p q =
    let before = same_answer p.1.0 q.1.0 in
    let taken = same_taken x.taken y.taken p.1.1 q.1.1 in
    (λ i. record { chain = same_answer p.0 q.0 i; before = before i; taken = taken i }, refl)

pub to_next_rise_unique : AllowsOne play.to_next_rise.Kinds.ps play.to_next_rise.Kinds.r play.to_next_rise.Reads.Learnt
to_next_rise_unique κs a x y last last' p q = (same_answer p q, refl)

pub is_count_unique : AllowsOne checks.is_count.Kinds.ps checks.is_count.Kinds.r checks.is_count.Reads.Learnt
is_count_unique κs a x y last last' p q = (same_answer p q, refl)

pub checked_unique : AllowsOne checks.checked.Kinds.ps checks.checked.Kinds.r checks.checked.Reads.Learnt
checked_unique κs a x y last last' p q = (same_told p q, refl)

pub tested_unique : AllowsOne checks.tested.Kinds.ps checks.tested.Kinds.r checks.tested.Reads.Learnt
tested_unique κs a x y last last' p q = (same_told p q, refl)
