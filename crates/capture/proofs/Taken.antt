-- A line, samples or a scan taken into a buffer of any length.
--     line_where_lem, samples_where_lem, scan_where_lem       where there is room, they come to what the walk takes
--     line_fits, samples_fit, scan_fits           what they write has room
-- Assumes nothing.
use mathlib.Core.Path.{◌≡◌, ap₂}
use mathlib.Core.Bool.{◌&&◌}
use mathlib.Core.List.{List}
use Prim.Native.Nat.{ℕ, ◌+◌, ◌*◌, ◌≤◌}
use native.Mathlib.Nat.{min-le_left}
use native.Mathlib.Omega.{arith}
use borrow.Author.Tests.{le-leb}
use lib.ListN.{length, length-take}
use Rattle.base.proofs.Picks.{pick_yes}
use Rattle.chain.specs.declared.Chain.{Chain}
use Rattle.chain.specs.Chain.{most}
use Rattle.chain.specs.Entries.{chip_at}
use Rattle.lines.specs.declared.Frame.{Frame}
use Rattle.lines.specs.Answers.{held_by}
use Rattle.capture.specs.declared.Report.{Report}
use Rattle.capture.specs.declared.Report.TheVariants.{Words, Screen}
use Rattle.capture.specs.Frames.{samples, scan, form_of}
use Rattle.capture.specs.Replay.{rises_in, taken}
use Rattle.capture.specs.Reports.{at_scan}
use Rattle.capture.specs.Parts.{out_of}
use Rattle.capture.specs.Takes.{line_room, sample_room, scan_room, line_where, samples_where, scan_where}
use Rattle.capture.proofs.Room.{line_width, at_scan_room, rises_room, form_room}

-- ---- where there is room

pub line_where_lem : (what : Report) (n : ℕ) (ch : Chain) (f : Frame) (at : ℕ) (out : List ℕ) → n ≤ most → f.count ≤ 33 → at + line_room ≤ length out
    → line_where what n ch f at out ≡ taken what n ch (form_of n (held_by f))
line_where_lem what n ch f at out few held room =
    pick_yes _ _ (ap₂ ◌&&◌ (ap₂ ◌&&◌ (le-leb n most few) (le-leb f.count 33 held)) (le-leb (at + line_room) (length out) room))

pub samples_where_lem : (what : Report) (n : ℕ) (ch : Chain) (ss : List ℕ) (at : ℕ) (out : List ℕ) → n ≤ most
    → at + sample_room * (length ss + 1) ≤ length out
    → samples_where what n ch ss at out ≡ taken what n ch (samples ss)
samples_where_lem what n ch ss at out few room =
    pick_yes _ _ (ap₂ ◌&&◌ (le-leb n most few) (le-leb (at + sample_room * (length ss + 1)) (length out) room))

pub scan_where_lem : (what : Report) (n : ℕ) (ch : Chain) (k : ℕ) (bytes : List ℕ) (at : ℕ) (out : List ℕ) → at + scan_room ≤ length out
    → scan_where what n ch k bytes at out ≡ taken what n ch (scan k bytes)
scan_where_lem what n ch k bytes at out room = pick_yes _ _ (le-leb (at + scan_room) (length out) room)

-- ---- what is written has room

pub width_most : (what : Report) → line_width what ≤ 21
width_most Words = omega arith
width_most Screen = omega arith

pub line_fits : (what : Report) (n : ℕ) (ch : Chain) (f : Frame) → n ≤ most → f.count ≤ 33 → length (out_of (taken what n ch (form_of n (held_by f))).told) ≤ line_room
line_fits what n ch f few held =
    let short : 2 * length (held_by f) ≤ 66 = omega (arith, length-take f.count f.bytes, min-le_left f.count (length f.bytes)) in
    omega (arith, form_room what n ch few 66 (held_by f) short, width_most what)

pub samples_fit : (what : Report) (n : ℕ) (ss : List ℕ) (ch : Chain) → n ≤ most → length (rises_in what n ss ch) ≤ sample_room * (length ss + 1)
samples_fit Words n ss ch few = omega (arith, rises_room Words n ss ch few)
samples_fit Screen n ss ch few = omega (arith, rises_room Screen n ss ch few)

pub scan_fits : (what : Report) (k : ℕ) (bytes : List ℕ) (ch : Chain) → length (at_scan what k bytes (chip_at k ch)) ≤ scan_room
scan_fits what k bytes ch = omega (arith, at_scan_room what k bytes (chip_at k ch), width_most what)
