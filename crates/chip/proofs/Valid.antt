-- A record that a chip can hold stays one, whatever the chip is told, whatever its wires do and whatever its contacts do.
--     valid_facts      what a valid record's fields are, and that these facts make it valid
--     reset_valid      a chip as the capture text starts it is valid
--     applied_valid    a legal command leaves a valid chip valid
--     loaded_valid     so does a LOAD rise, whatever the register holds
--     stepped_valid    so does any sample
--     scanned_valid    so does any scan
-- Assumes nothing.
use mathlib.Core.Path.{◌≡◌, refl, sym, subst}
use mathlib.Core.Logic.{◌↔◌}
use mathlib.Core.Bool.{Bool, true, false, not, ◌&&◌, ◌||◌}
use mathlib.Core.List.{List}
use Prim.Native.Nat.{ℕ, zero, suc, ◌-◌, ◌≤◌}
use native.Mathlib.Omega.{arith}
use lib.Dec.{T, leb, eqb, leb→le, le→leb, eqb-suc-zero, T_not}
use Rattle.base.specs.Refusals.{Told, done, refused}
use Rattle.base.proofs.Picks.{pick_cases}
use Rattle.base.proofs.Cuts.{bit_value_lt}
use Rattle.base.proofs.Tests.{and_left, and_right, and_both}
use Rattle.word.specs.Words.{decoded_of, legal}
use Rattle.word.specs.declared.Command.{Command}
use Rattle.word.specs.declared.Command.TheVariants.{NoOperation, BarLevel, SegmentClear, SegmentSet, Reset, Sleep, ShiftLeft, ShiftRight, RotateLeft, RotateRight, CustomCharacter, SystemParameters, DisplayParameters, BlinkByte, ReadKey, LoadDigit}
use Rattle.word.proofs.RoundTrips.{meaning_legal}
use Rattle.chip.specs.declared.Chip.{Chip}
use Rattle.chip.specs.declared.LineParts.{LineParts}
use Rattle.chip.specs.declared.Keys.{Keys}
use Rattle.chip.specs.Record.{valid, valid_readout, none, reset_chip, with_line}
use Rattle.chip.specs.Commands.{applied, applied_word, obey, woken, reset, system, read_key}
use Rattle.chip.specs.Edges.{loaded, stepped, clocked, load_rises, dclk_falls, dclk_rises}
use Rattle.chip.specs.Scans.{result, new_key, both_none, code_of, keyed, scanned_by, scanned, wakes}
use Rattle.chip.proofs.Closed.{result_le}

-- ---- what a valid record's fields are

-- refusal 12's chip part, fact by fact
abbrev pub Facts : Chip → Type 0
Facts c =
    record {
      register : c.line.register ≤ 4095;
      readout : T (valid_readout c.line.readout);
      custom : c.settings.custom ≤ 127;
      limit : c.settings.display.limit ≤ 7;
      code : c.keys.code ≤ 127;
      last : c.keys.last ≤ none;
    }

-- six tests passed together, two by two
all_six : (a b c d e f : Bool) → T ((a && b) && (c && d) && (e && f)) ↔ (T a × T b × T c × T d × T e × T f)
all_six true true true true true true = ((λ t. (tt, tt, tt, tt, tt, t)), (λ ts. ts.5))
all_six true true true true true false = ((λ t. absurd t), (λ ts. ts.5))
all_six true true true true false f = ((λ t. absurd t), (λ ts. ts.4))
all_six true true true false e f = ((λ t. absurd t), (λ ts. ts.3))
all_six true true false d e f = ((λ t. absurd t), (λ ts. ts.2))
all_six true false c d e f = ((λ t. absurd t), (λ ts. ts.1))
all_six false b c d e f = ((λ t. absurd t), (λ ts. ts.0))

pub valid_facts : (c : Chip) → T (valid c) ↔ Facts c
unfolding valid
valid_facts c =
    let six =
    all_six (leb c.line.register 4095) (valid_readout c.line.readout) (leb c.settings.custom 127)
    (leb c.settings.display.limit 7) (leb c.keys.code 127) (leb c.keys.last none) in (
      λ t.
          let ts = six.0 t in
          record {
            register = leb→le _ _ ts.0;
            readout = ts.1;
            custom = leb→le _ _ ts.2;
            limit = leb→le _ _ ts.3;
            code = leb→le _ _ ts.4;
            last = leb→le _ _ ts.5;
          },
      λ v.
          six.1
          (le→leb _ _ v.register, v.readout, le→leb _ _ v.custom, le→leb _ _ v.limit, le→leb _ _ v.code, le→leb _ _ v.last),
    )

-- ---- a chip as the capture text starts it

pub reset_valid : T (valid reset_chip)
unfolding valid
reset_valid = tt

-- ---- commands

-- a readout that is ended is no longer looked at
ended : (c : Chip) → Facts c → Facts (woken c)
ended c v =
    record { register = v.register; readout = tt; custom = v.custom; limit = v.limit; code = v.code; last = v.last }

-- what a legal command does to a chip that is awake
obey_facts : (command : Command) (c : Chip) → T (legal command) → Facts c → Facts (obey command c)
unfolding obey reset system read_key
obey_facts NoOperation c t v = v
obey_facts (BarLevel level) c t v = v
obey_facts (SegmentClear addr) c t v = v
obey_facts (SegmentSet addr) c t v = v
obey_facts Reset c t v =
    record { register = v.register; readout = tt; custom = leb→le 0 127 tt; limit = leb→le 0 7 tt; code = leb→le 0 127 tt; last = leb→le none none tt }
obey_facts Sleep c t v = v
obey_facts ShiftLeft c t v = v
obey_facts ShiftRight c t v = v
obey_facts RotateLeft c t v = v
obey_facts RotateRight c t v = v
obey_facts (CustomCharacter shape) c t v =
    record { register = v.register; readout = v.readout; custom = leb→le shape 127 t; limit = v.limit; code = v.code; last = v.last }
obey_facts (SystemParameters s) c t v =
    pick_cases Facts s.keyb (λ e. v)
    (λ e. record { register = v.register; readout = tt; custom = v.custom; limit = v.limit; code = v.code; last = leb→le none none tt })
obey_facts (DisplayParameters d) c t v =
    record { register = v.register; readout = v.readout; custom = v.custom; limit = leb→le d.limit 7 t; code = v.code; last = v.last }
obey_facts (BlinkByte byte) c t v = v
obey_facts ReadKey c t v =
    pick_cases Facts c.settings.system.keyb
    (λ e. record { register = v.register; readout = le→leb _ _ v.code; custom = v.custom; limit = v.limit; code = v.code; last = v.last })
    (λ e. v)
obey_facts (LoadDigit dig byte) c t v = v

-- a command applied directly
applied_facts : (command : Command) (c : Chip) → T (legal command) → Facts c → Facts (applied command c)
unfolding applied
applied_facts command c t v = obey_facts command (woken c) t (ended c v)

pub applied_valid : (command : Command) (c : Chip) → T (legal command) → T (valid c) → T (valid (applied command c))
applied_valid command c t v = (valid_facts (applied command c)).1 (applied_facts command c t ((valid_facts c).0 v))

-- a LOAD rise with any word, whose meaning is a legal command
loaded_facts : (c : Chip) → Facts c → Facts (loaded c)
unfolding loaded
loaded_facts c v = go (decoded_of c.line.register) refl
  where
    go : (o : Told Command) → decoded_of c.line.register ≡ o → Facts (applied_word o c)
    go (done command) e = applied_facts command c (meaning_legal c.line.register command e) v
    go (refused number place) e = ended c v

pub loaded_valid : (c : Chip) → T (valid c) → T (valid (loaded c))
loaded_valid c v = (valid_facts (loaded c)).1 (loaded_facts c ((valid_facts c).0 v))

-- ---- samples

-- one bit fewer left to read out
moved_on : (code left : ℕ) → T (valid_readout (record { code = code; left = left })) → T (valid_readout (record { code = code; left = left - 1 }))
moved_on code zero t = t
moved_on code (suc n) t =
    let h = leb→le (suc n) 7 (and_left (leb (suc n) 7) (eqb (suc n) 0 || leb code 127) t) in
    let u = and_right (leb (suc n) 7) (eqb (suc n) 0 || leb code 127) t in
    and_both (leb (suc n - 1) 7) (eqb (suc n - 1) 0 || leb code 127) (le→leb (suc n - 1) 7 (omega arith))
    (or_right (eqb (suc n - 1) 0) (leb code 127) (subst (λ b. T (b || leb code 127)) (eqb-suc-zero n) u))
  where
    or_right : (a b : Bool) → T b → T (a || b)
    or_right true b t = tt
    or_right false b t = t

-- DCLK's edges
clocked_facts : (was now : ℕ) (d : Bool) (c : Chip) → Facts c → Facts (with_line (clocked was now d c.line) c)
unfolding clocked
clocked_facts was now d c v =
    let small = bit_value_lt d in
    pick_cases (λ (l : LineParts). Facts (with_line l c)) (dclk_falls was now)
    (λ e. record {
      register = v.register;
      readout = moved_on c.line.readout.code c.line.readout.left v.readout;
      custom = v.custom;
      limit = v.limit;
      code = v.code;
      last = v.last;
    })
    (λ e.
    pick_cases (λ (l : LineParts). Facts (with_line l c)) (dclk_rises was now)
    (λ e. record { register = omega arith; readout = v.readout; custom = v.custom; limit = v.limit; code = v.code; last = v.last })
    (λ e. v))

pub stepped_valid : (was now : ℕ) (d : Bool) (c : Chip) → T (valid c) → T (valid (stepped was now d c))
unfolding stepped
stepped_valid was now d c v =
    let f = clocked_facts was now d c ((valid_facts c).0 v) in
    (valid_facts (stepped was now d c)).1
    (pick_cases Facts (load_rises was now) (λ e. loaded_facts (with_line (clocked was now d c.line) c) f) (λ e. f))

-- ---- scans

-- a code that a scan leaves has seven bits
keyed_code : (r : ℕ) (k : Keys) → r ≤ none → k.code ≤ 127 → (keyed r k).code ≤ 127
keyed_code r k h l =
    pick_cases (λ (n : ℕ). n ≤ 127) (new_key r k) (λ e. below (address e))
    (λ e. pick_cases (λ (n : ℕ). n ≤ 127) (both_none r k) (λ f. omega arith) (λ f. l))
  where
    address : new_key r k ≡ true → r ≡ none → ⊥
    address e f =
        let t : T (new_key r k) = subst T (sym e) tt in
        let u = and_left (eqb r k.last && not (eqb r none)) (not (eqb k.code (code_of r))) t in
        T_not (eqb r none) (and_right (eqb r k.last) (not (eqb r none)) u) (subst (λ (x : ℕ). T (eqb x none)) (sym f) tt)

    below : (r ≡ none → ⊥) → code_of r ≤ 127
    below n = omega arith

-- what a scan with a result does
scanned_facts : (r : ℕ) (c : Chip) → r ≤ none → Facts c → Facts (scanned_by r c)
unfolding scanned_by
scanned_facts r c h v =
    pick_cases Facts c.settings.sleeping
    (λ e.
    pick_cases Facts (wakes r)
    (λ f. record { register = v.register; readout = v.readout; custom = v.custom; limit = v.limit; code = v.code; last = leb→le none none tt })
    (λ f. v))
    (λ e.
    pick_cases Facts c.settings.system.keyb
    (λ f. record {
      register = v.register;
      readout = v.readout;
      custom = v.custom;
      limit = v.limit;
      code = keyed_code r c.keys h v.code;
      last = h;
    })
    (λ f. v))

pub scanned_valid : (bytes : List ℕ) (c : Chip) → T (valid c) → T (valid (scanned bytes c))
scanned_valid bytes c v = (valid_facts (scanned bytes c)).1 (scanned_facts (result bytes) c (result_le bytes) ((valid_facts c).0 v))
