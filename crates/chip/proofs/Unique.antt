-- The contracts of this crate's functions allow one outcome each: `AllowsOne` of the base crate, of what each generated contract tells.
-- The entries come first, then the inner functions by module.
-- Assumes nothing.
use mathlib.Core.Path.{◌≡◌, refl, ap, sym, ◌∙◌}
use Rattle.base.specs.Refusals.{Told, done, refused, Outcome}
use Rattle.base.specs.Unique.{AllowsOne}
use Rattle.base.proofs.Refusals.{refusal_of, refusal_back}
use Rattle.base.proofs.Unique.{same_answer, same_handed}
use Rattle.chip.specs.declared.Recorded.{Recorded}
use Rattle.chip.specs.declared.Recorded.TheVariants as Records
use Rattle.chip.specs.declared.scans.AfterScan.{AfterScan}
use Rattle.chip.specs.Scans.{Recording, nothing, key_code, over_unread, release_noted, recording_of, ScanLeaves, leaves_of}
use Rattle.chip.specs.Entries.{scan_tells, handed_scan}
use Rattle.chip.proofs.reset_chip
use Rattle.chip.proofs.apply
use Rattle.chip.proofs.sample
use Rattle.chip.proofs.scan
use Rattle.chip.proofs.segments_lit
use Rattle.chip.proofs.is_valid
use Rattle.chip.proofs.commands
use Rattle.chip.proofs.edges
use Rattle.chip.proofs.scans
use Rattle.chip.proofs.segments
use Rattle.std.specs.declared.result.Result.{Result}
use Rattle.std.specs.declared.result.Result.TheVariants.{Ok, Err}
use Rattle.base.specs.declared.Refusal.{Refusal}
use Rattle.base.specs.declared.Handed.{Handed}

-- ---- what is handed back is told

-- the answer of a value, and back
pub record_of : Recording → Recorded
record_of nothing = Records.Nothing
record_of (key_code code) = Records.Key code
record_of (over_unread code) = Records.OverUnread code
record_of release_noted = Records.Released

record_back : (what : Recorded) → record_of (recording_of what) ≡ what
unfolding record_of
record_back Records.Nothing = refl
record_back (Records.Key code) = refl
record_back (Records.OverUnread code) = refl
record_back Records.Released = refl

pub recording_back : (what : Recording) → recording_of (record_of what) ≡ what
unfolding record_of
recording_back nothing = refl
recording_back (key_code code) = refl
recording_back (over_unread code) = refl
recording_back release_noted = refl

answered : Told Recording → (Result Recorded Refusal)
answered (done what) = Ok (record_of what)
answered (refused number place) = Err (refusal_of number place)

answered_back : (a : Result Recorded Refusal) → answered (scan_tells a) ≡ a
unfolding answered
answered_back (Ok what) = ap Ok (record_back what)
answered_back (Err e) = ap Err (refusal_back e)

-- a contract `handed_scan r ≡ x`
pub same_scan : {S : Type 0} {x : Outcome S Recording} {r s : Handed S Recorded} → handed_scan r ≡ x → handed_scan s ≡ x → r ≡ s
same_scan {r = r} {s = s} p q =
    let e = same_answer p q in
    let answer = sym (answered_back r.answer) ∙ ap (λ o. answered o.told) e ∙ answered_back s.answer in
    λ i. record { value = ap (λ o. o.state) e i; answer = answer i }

pub same_taken : {x : ScanLeaves} (s t : AfterScan) → leaves_of s ≡ x → leaves_of t ≡ x → s ≡ t
same_taken s t p q =
    let e = same_answer p q in
    let what = sym (record_back s.recorded) ∙ ap (λ x. record_of x.recorded) e ∙ record_back t.recorded in
    λ i. record { chip = ap (λ x. x.chip) e i; recorded = what i }

-- ---- the entries

pub reset_chip_unique : AllowsOne reset_chip.Kinds.ps reset_chip.Kinds.r reset_chip.Reads.Learnt
reset_chip_unique κs a x y last last' p q = (same_answer p q, refl)

pub apply_unique : AllowsOne apply.Kinds.ps apply.Kinds.r apply.Reads.Learnt
apply_unique κs a x y last last' p q = (same_handed p q, refl)

pub sample_unique : AllowsOne sample.Kinds.ps sample.Kinds.r sample.Reads.Learnt
sample_unique κs a x y last last' p q = (same_handed p q, refl)

pub scan_unique : AllowsOne scan.Kinds.ps scan.Kinds.r scan.Reads.Learnt
scan_unique κs a x y last last' p q = (same_scan p q, refl)

pub segments_lit_unique : AllowsOne segments_lit.Kinds.ps segments_lit.Kinds.r segments_lit.Reads.Learnt
segments_lit_unique κs a x y last last' p q = (same_handed p q, refl)

-- ---- the inner functions

pub is_valid_unique : AllowsOne is_valid.Kinds.ps is_valid.Kinds.r is_valid.Reads.Learnt
is_valid_unique κs a x y last last' p q = (same_answer p q, refl)

pub reset_settings_unique : AllowsOne commands.reset_settings.Kinds.ps commands.reset_settings.Kinds.r commands.reset_settings.Reads.Learnt
reset_settings_unique κs a x y last last' p q = (same_answer p q, refl)

pub reset_keys_unique : AllowsOne commands.reset_keys.Kinds.ps commands.reset_keys.Kinds.r commands.reset_keys.Reads.Learnt
reset_keys_unique κs a x y last last' p q = (same_answer p q, refl)

pub applied_unique : AllowsOne commands.applied.Kinds.ps commands.applied.Kinds.r commands.applied.Reads.Learnt
applied_unique κs a x y last last' p q = (same_answer p q, refl)

pub loaded_unique : AllowsOne commands.loaded.Kinds.ps commands.loaded.Kinds.r commands.loaded.Reads.Learnt
loaded_unique κs a x y last last' p q = (same_answer p q, refl)

pub din_unique : AllowsOne edges.din.Kinds.ps edges.din.Kinds.r edges.din.Reads.Learnt
din_unique κs a x y last last' p q = (same_answer p q, refl)

pub dclk_rises_unique : AllowsOne edges.dclk_rises.Kinds.ps edges.dclk_rises.Kinds.r edges.dclk_rises.Reads.Learnt
dclk_rises_unique κs a x y last last' p q = (same_answer p q, refl)

pub dclk_falls_unique : AllowsOne edges.dclk_falls.Kinds.ps edges.dclk_falls.Kinds.r edges.dclk_falls.Reads.Learnt
dclk_falls_unique κs a x y last last' p q = (same_answer p q, refl)

pub load_rises_unique : AllowsOne edges.load_rises.Kinds.ps edges.load_rises.Kinds.r edges.load_rises.Reads.Learnt
load_rises_unique κs a x y last last' p q = (same_answer p q, refl)

pub shifted_unique : AllowsOne edges.shifted.Kinds.ps edges.shifted.Kinds.r edges.shifted.Reads.Learnt
shifted_unique κs a x y last last' p q = (same_answer p q, refl)

pub lowest_bit_unique : AllowsOne edges.lowest_bit.Kinds.ps edges.lowest_bit.Kinds.r edges.lowest_bit.Reads.Learnt
lowest_bit_unique κs a x y last last' p q = (same_answer p q, refl)

pub moved_on_unique : AllowsOne edges.moved_on.Kinds.ps edges.moved_on.Kinds.r edges.moved_on.Reads.Learnt
moved_on_unique κs a x y last last' p q = (same_answer p q, refl)

pub shows_unique : AllowsOne edges.shows.Kinds.ps edges.shows.Kinds.r edges.shows.Reads.Learnt
shows_unique κs a x y last last' p q = (same_answer p q, refl)

pub dout_unique : AllowsOne edges.dout.Kinds.ps edges.dout.Kinds.r edges.dout.Reads.Learnt
dout_unique κs a x y last last' p q = (same_answer p q, refl)

pub stepped_unique : AllowsOne edges.stepped.Kinds.ps edges.stepped.Kinds.r edges.stepped.Reads.Learnt
stepped_unique κs a x y last last' p q = (same_answer p q, refl)

pub scanned_unique : AllowsOne scans.scanned.Kinds.ps scans.scanned.Kinds.r scans.scanned.Reads.Learnt
scanned_unique κs a x y last last' p q = (same_taken x y p q, refl)

pub lit_unique : AllowsOne segments.lit.Kinds.ps segments.lit.Kinds.r segments.lit.Reads.Learnt
lit_unique κs a x y last last' p q = (same_answer p q, refl)
