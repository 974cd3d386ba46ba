-- What the fields of a record hold, by their widths, beside what a chip can hold: such a record stays one, whatever the chip's wires and
-- contacts do.
--     HeldChip         each number fits its field, and there are eight digits
--     obey_held        a legal command leaves it so
--     stepped_held     so does any sample
--     scanned_held     so does any scan
--     reset_held       a chip as a start makes it is one
-- Assumes nothing.
use mathlib.Core.Path.{◌≡◌, refl, ap, sym, subst, ◌∙◌}
use mathlib.Core.Bool.{Bool, true, false}
use mathlib.Core.List.{List, [], ◌∷◌}
use Prim.Native.Nat.{ℕ, zero, suc, ◌<◌, ◌≤◌}
use native.Mathlib.Omega.{arith}
use lib.Dec.{T, eqb, leb, ltb, leb→le}
use lib.ListN.{length, get_or, set, length-set}
use Rattle.base.specs.Below.{AllBelow}
use Rattle.base.specs.Bits.{bit}
use Rattle.base.specs.Pick.{pick}
use Rattle.base.specs.Refusals.{Told, done, refused}
use Rattle.base.proofs.Bytes.{byte_below}
use Rattle.base.proofs.Cuts.{bit_value_lt}
use Rattle.base.proofs.Picks.{pick_cases}
use Rattle.base.proofs.Tests.{and_right}
use Rattle.word.specs.declared.Command.{Command}
use Rattle.word.specs.declared.Command.TheVariants.{NoOperation, BarLevel, SegmentClear, SegmentSet, Reset, Sleep, ShiftLeft, ShiftRight, RotateLeft, RotateRight, CustomCharacter, SystemParameters, DisplayParameters, BlinkByte, ReadKey, LoadDigit}
use Rattle.word.specs.Words.{decoded_of, legal}
use Rattle.word.proofs.RoundTrips.{meaning_legal}
use Rattle.chip.specs.declared.Chip.{Chip}
use Rattle.chip.specs.declared.Keys.{Keys}
use Rattle.chip.specs.declared.LineParts.{LineParts}
use Rattle.chip.specs.Record.{none, blank, reset_chip, with_digits, with_line, with_keys, with_readout, ended_readout, with_custom, with_display, with_blink, with_sleeping, with_last}
use Rattle.chip.specs.Commands.{address, lit, bar, segment, moved_left, moved_right, reset, system, read_key, obey, woken, applied, applied_word}
use Rattle.chip.specs.Edges.{dclk_falls, dclk_rises, load_rises, clocked_in, clocked_out, clocked, loaded, stepped}
use Rattle.chip.specs.Scans.{result, wakes, new_key, both_none, keyed, scanned_by, scanned}
use Rattle.chip.proofs.Closed.{result_le}
use Rattle.base.proofs.Lists.{below_at}

-- what the fields of a record hold
abbrev pub HeldChip : Chip → Type 0
HeldChip c =
    record {
      register : c.line.register < 65536;
      code : c.line.readout.code < 256;
      left : c.line.readout.left < 256;
      limit : c.settings.display.limit < 256;
      blink : c.settings.blink < 256;
      custom : c.settings.custom < 256;
      eight : length c.digits ≡ 8;
      digits : AllBelow 256 c.digits;
      key : c.keys.code < 256;
      last : c.keys.last < 256;
    }

-- ---- commands

-- eight other digits, each a byte
held_digits : (ds : List ℕ) (c : Chip) → length ds ≡ 8 → AllBelow 256 ds → HeldChip c → HeldChip (with_digits ds c)
held_digits ds c e b h =
    record {
      register = h.register;
      code = h.code;
      left = h.left;
      limit = h.limit;
      blink = h.blink;
      custom = h.custom;
      eight = e;
      digits = b;
      key = h.key;
      last = h.last;
    }

lit_held : (f : ℕ → ℕ → Bool) (c : Chip) → HeldChip c → HeldChip (with_digits (lit f) c)
lit_held f c h =
    let at : (d : ℕ) → _ = λ d. byte_below (λ s. f s d) in
    held_digits (lit f) c refl (at 0, (at 1, (at 2, (at 3, (at 4, (at 5, (at 6, (at 7, tt)))))))) h

segment_held : (on : Bool) (addr : ℕ) (c : Chip) → HeldChip c → HeldChip (with_digits (segment on addr c.digits) c)
unfolding segment
segment_held on addr c h = lit_held (λ s d. pick (eqb (address s d) addr) on (bit (get_or c.digits d 0) s)) c h

below_set : (ds : List ℕ) (k byte : ℕ) → byte < 256 → AllBelow 256 ds → AllBelow 256 (set ds k byte)
below_set [] k byte l b = b
below_set (d ∷ ds) zero byte l b = (l, b.1)
below_set (d ∷ ds) (suc k) byte l b = (b.0, below_set ds k byte l b.1)

left_held : (fill : ℕ) (c : Chip) → fill < 256 → HeldChip c → HeldChip (with_digits (moved_left fill c.digits) c)
left_held fill c l h =
    let at : (k : ℕ) → get_or c.digits k 0 < 256 = λ k. below_at 256 c.digits k (omega arith) h.digits in
    held_digits (moved_left fill c.digits) c refl (l, (at 0, (at 1, (at 2, (at 3, (at 4, (at 5, (at 6, tt)))))))) h

right_held : (fill : ℕ) (c : Chip) → fill < 256 → HeldChip c → HeldChip (with_digits (moved_right fill c.digits) c)
right_held fill c l h =
    let at : (k : ℕ) → get_or c.digits k 0 < 256 = λ k. below_at 256 c.digits k (omega arith) h.digits in
    held_digits (moved_right fill c.digits) c refl (at 1, (at 2, (at 3, (at 4, (at 5, (at 6, (at 7, (l, tt)))))))) h

-- a readout's code and bits left, and the key record's code and last scan, exchanged
held_rest : (c d : Chip) → d.line.register < 65536 → d.line.readout.code < 256 → d.line.readout.left < 256 → d.settings.display.limit < 256
    → d.settings.blink < 256 → d.settings.custom < 256 → d.digits ≡ c.digits → d.keys.code < 256 → d.keys.last < 256 → HeldChip c → HeldChip d
held_rest c d register code left limit blink custom same key last h =
    record {
      register = register;
      code = code;
      left = left;
      limit = limit;
      blink = blink;
      custom = custom;
      eight = ap length same ∙ h.eight;
      digits = subst (AllBelow 256) (sym same) h.digits;
      key = key;
      last = last;
    }

blank_below : AllBelow 256 blank
blank_below =
    let z : 0 < 256 = omega arith in
    (z, (z, (z, (z, (z, (z, (z, (z, tt))))))))

reset_held_by : (c : Chip) → HeldChip c → HeldChip (reset c)
unfolding reset
reset_held_by c h =
    record {
      register = h.register;
      code = h.code;
      left = omega arith;
      limit = omega arith;
      blink = omega arith;
      custom = omega arith;
      eight = refl;
      digits = blank_below;
      key = omega arith;
      last = omega arith;
    }

pub obey_held : (command : Command) (c : Chip) → T (legal command) → HeldChip c → HeldChip (obey command c)
unfolding obey bar system read_key
obey_held NoOperation c t h = h
obey_held (BarLevel level) c t h = lit_held (λ s d. ltb (address s d) level) c h
obey_held (SegmentClear addr) c t h = segment_held false addr c h
obey_held (SegmentSet addr) c t h = segment_held true addr c h
obey_held Reset c t h = reset_held_by c h
obey_held Sleep c t h = h
obey_held ShiftLeft c t h = left_held 0 c (omega arith) h
obey_held ShiftRight c t h = right_held 0 c (omega arith) h
obey_held RotateLeft c t h = left_held (get_or c.digits 7 0) c (below_at 256 c.digits 7 (omega arith) h.digits) h
obey_held RotateRight c t h = right_held (get_or c.digits 0 0) c (below_at 256 c.digits 0 (omega arith) h.digits) h
obey_held (CustomCharacter shape) c t h = let l = leb→le shape 127 t in held_rest c (with_custom shape c) h.register h.code h.left h.limit h.blink (omega arith) refl h.key h.last h
obey_held (SystemParameters s) c t h =
    pick_cases HeldChip s.keyb (λ e. h) (λ e. held_rest c (ended_readout (with_last none c)) h.register h.code (omega arith) h.limit h.blink h.custom refl h.key (omega arith) h)
obey_held (DisplayParameters d) c t h = let l = leb→le d.limit 7 t in held_rest c (with_display d c) h.register h.code h.left (omega arith) h.blink h.custom refl h.key h.last h
obey_held (BlinkByte byte) c t h = let l = leb→le byte 255 t in held_rest c (with_blink byte c) h.register h.code h.left h.limit (omega arith) h.custom refl h.key h.last h
obey_held ReadKey c t h =
    pick_cases HeldChip c.settings.system.keyb
    (λ e. held_rest c (with_readout c.keys.code 7 c) h.register h.key (omega arith) h.limit h.blink h.custom refl h.key h.last h)
    (λ e. h)
obey_held (LoadDigit dig byte) c t h =
    let l = leb→le byte 255 (and_right (leb dig 7) (leb byte 255) t) in
    held_digits (set c.digits dig byte) c (length-set c.digits dig byte ∙ h.eight) (below_set c.digits dig byte (omega arith) h.digits) h

-- any LOAD rise first wakes the chip and ends a readout
woken_held : (c : Chip) → HeldChip c → HeldChip (woken c)
woken_held c h = held_rest c (woken c) h.register h.code (omega arith) h.limit h.blink h.custom refl h.key h.last h

loaded_held : (c : Chip) → HeldChip c → HeldChip (loaded c)
unfolding loaded applied
loaded_held c h = go (decoded_of c.line.register) refl
  where
    go : (o : Told Command) → decoded_of c.line.register ≡ o → HeldChip (applied_word o c)
    go (done command) e = obey_held command (woken c) (meaning_legal c.line.register command e) (woken_held c h)
    go (refused number place) e = woken_held c h

-- ---- samples

clocked_held : (was now : ℕ) (d : Bool) (c : Chip) → HeldChip c → HeldChip (with_line (clocked was now d c.line) c)
unfolding clocked
clocked_held was now d c h =
    let small = bit_value_lt d in
    pick_cases (λ (l : LineParts). HeldChip (with_line l c)) (dclk_falls was now)
    (λ e. held_rest c (with_line (clocked_out c.line) c) h.register h.code (omega arith) h.limit h.blink h.custom refl h.key h.last h)
    (λ e.
    pick_cases (λ (l : LineParts). HeldChip (with_line l c)) (dclk_rises was now)
    (λ e. held_rest c (with_line (clocked_in d c.line) c) (omega arith) h.code h.left h.limit h.blink h.custom refl h.key h.last h)
    (λ e. h))

pub stepped_held : (was now : ℕ) (d : Bool) (c : Chip) → HeldChip c → HeldChip (stepped was now d c)
unfolding stepped
stepped_held was now d c h =
    let f = clocked_held was now d c h in
    pick_cases HeldChip (load_rises was now) (λ e. loaded_held (with_line (clocked was now d c.line) c) f) (λ e. f)

-- ---- scans

keyed_code : (r : ℕ) (k : Keys) → r ≤ 64 → k.code < 256 → (keyed r k).code < 256
keyed_code r k h l =
    pick_cases (λ (n : ℕ). n < 256) (new_key r k) (λ e. omega arith) (λ e. pick_cases (λ (n : ℕ). n < 256) (both_none r k) (λ f. omega arith) (λ f. l))

pub scanned_held : (bytes : List ℕ) (c : Chip) → HeldChip c → HeldChip (scanned bytes c)
unfolding scanned_by
scanned_held bytes c h =
    let r = result bytes in
    let small = result_le bytes in
    pick_cases HeldChip c.settings.sleeping
    (λ e.
    pick_cases HeldChip (wakes r)
    (λ f. held_rest c (with_sleeping false (with_last none c)) h.register h.code h.left h.limit h.blink h.custom refl h.key (omega arith) h)
    (λ f. h))
    (λ e.
    pick_cases HeldChip c.settings.system.keyb
    (λ f. held_rest c (with_keys (keyed r c.keys) c) h.register h.code h.left h.limit h.blink h.custom refl (keyed_code r c.keys small h.key) (omega arith) h)
    (λ f. h))

-- ---- where records come from

pub reset_held : HeldChip reset_chip
reset_held =
    record {
      register = omega arith;
      code = omega arith;
      left = omega arith;
      limit = omega arith;
      blink = omega arith;
      custom = omega arith;
      eight = refl;
      digits = blank_below;
      key = omega arith;
      last = omega arith;
    }
