-- What a sample and a scan do to the last chip.
--     Started            after a word a readout runs where the word reads the key with KEYB on, of the code held
--     Moved              a sample's doings, as far as readouts go
--     last_moved         a sample does so to the last chip
--     Untouched          a scan's doings, as far as readouts go
--     last_untouched     a scan, of whatever chip, does so to the last chip
-- Assumes nothing.
use Rattle.std.proofs.Common.{◌≡◌, ℕ, zero, suc, ◌-◌, ◌<◌, Bool, true, false, not, ◌&&◌, T, eqb, leb, ◌⊎◌, List, [], ◌∷◌, get_or, set, sym, refl, ap, ◌∙◌, inl, inr, ⊎_elim, le_of_suc-le-suc, not-suc-le-zero, arith, leb-true}
use mathlib.Core.Bool.{false≢true, and-false, and-eq-true_iff}
use Rattle.base.specs.Pick.{pick}
use Rattle.base.specs.Refusals.{Told, done, refused}
use Rattle.base.proofs.Picks.{pick_cases}
use Rattle.word.specs.declared.Command.{Command}
use Rattle.word.specs.declared.Command.TheVariants.{NoOperation, BarLevel, SegmentClear, SegmentSet, Reset, Sleep, ShiftLeft, ShiftRight, RotateLeft, RotateRight, CustomCharacter, SystemParameters, DisplayParameters, BlinkByte, ReadKey, LoadDigit}
use Rattle.word.specs.Words.{decoded_of}
use Rattle.chip.specs.declared.Chip.{Chip}
use Rattle.chip.specs.declared.LineParts.{LineParts}
use Rattle.chip.specs.declared.Readout.{Readout}
use Rattle.chip.specs.Record.{Body, valid, reset_chip, with_line}
use Rattle.chip.specs.Commands.{applied, applied_word, obey, reset, system, read_key, dout}
use Rattle.chip.specs.Edges.{din, dclk_falls, dclk_rises, load_rises, clocked_out, clocked_in, clocked, loaded, stepped}
use Rattle.chip.specs.Scans.{result, scanned}
use Rattle.chip.proofs.Quiet.{quiet, stepped_line, stepped_load, loaded_register, keyb_scanned, line_scanned}
use Rattle.chip.proofs.Valid.{stepped_valid, scanned_valid}
use Rattle.chain.specs.declared.Chain.{Chain}
use Rattle.chain.specs.Chain.{chip_count, stepped_row, stepped_chain}
use Rattle.chain.specs.Entries.{chip_at, with_chip}
use Rattle.reads.specs.Reads.{last_chip}
use Rattle.reads.specs.Till.{is_read_key, keypad_on, runs, left_at}

-- ---- a word

-- it reads the key, or it leaves no readout
ends_or_reads : (o : Told Command) (c : Chip) → (o ≡ done ReadKey) ⊎ ((is_read_key o ≡ false) × ((applied_word o c).line.readout.left ≡ 0))
unfolding applied obey reset system read_key
ends_or_reads (done NoOperation) c = inr (refl, refl)
ends_or_reads (done (BarLevel level)) c = inr (refl, refl)
ends_or_reads (done (SegmentClear addr)) c = inr (refl, refl)
ends_or_reads (done (SegmentSet addr)) c = inr (refl, refl)
ends_or_reads (done Reset) c = inr (refl, refl)
ends_or_reads (done Sleep) c = inr (refl, refl)
ends_or_reads (done ShiftLeft) c = inr (refl, refl)
ends_or_reads (done ShiftRight) c = inr (refl, refl)
ends_or_reads (done RotateLeft) c = inr (refl, refl)
ends_or_reads (done RotateRight) c = inr (refl, refl)
ends_or_reads (done (CustomCharacter shape)) c = inr (refl, refl)
ends_or_reads (done (SystemParameters s)) c =
    inr (refl, pick_cases (λ (x : Chip). x.line.readout.left ≡ 0) s.keyb (λ e. refl) (λ e. refl))
ends_or_reads (done (DisplayParameters d)) c = inr (refl, refl)
ends_or_reads (done (BlinkByte byte)) c = inr (refl, refl)
ends_or_reads (done ReadKey) c = inl refl
ends_or_reads (done (LoadDigit dig byte)) c = inr (refl, refl)
ends_or_reads (refused number place) c = inr (refl, refl)

-- the readout of the code held
abbrev pub whole_code : Chip → Readout
whole_code c = record { code = c.keys.code; left = 7 }

-- a readout runs after a word that reads the key with KEYB on: of the code held
abbrev pub Started : Told Command → Chip → Chip → Type 0
Started o c x = (runs x ≡ (keypad_on c && is_read_key o)) × (runs x ≡ true → x.line.readout ≡ whole_code c)

read_starts : (c : Chip) → Started (done ReadKey) c (applied ReadKey c)
unfolding applied obey read_key
read_starts c =
    pick_cases (Started (done ReadKey) c) c.settings.system.keyb (λ e. (refl, λ t. refl))
    (λ e. (
      ap (λ t. t && false) e ∙ sym (ap (λ t. t && true) e),
      λ t. absurd (false≢true (sym (ap (λ t. t && false) e) ∙ t)),
    ))

none_left : (keyb : Bool) (left : ℕ) → left ≡ 0 → (keyb && not (eqb left 0)) ≡ false
none_left keyb left z = ap (λ t. keyb && not (eqb t 0)) z ∙ and-false keyb

word_starts : (o : Told Command) (c : Chip) → Started o c (applied_word o c)
word_starts o c =
    ⊎_elim (λ e. rw e (read_starts c))
    (λ p.
    let over = none_left (keypad_on (applied_word o c)) (applied_word o c).line.readout.left p.1 in (
      over ∙ sym (ap (λ t. keypad_on c && t) p.0 ∙ and-false (keypad_on c)),
      λ t. absurd (false≢true (sym over ∙ t)),
    ))
    (ends_or_reads o c)

-- ---- a sample

pub record Moved (was now : ℕ) (c x : Chip) : Type 0 where
  -- a valid chip stays valid
  pub sound : T (valid c) → T (valid x)
  -- with no LOAD rise KEYB stays, and a readout moves on at a fall of DCLK
  pub keeps : load_rises was now ≡ false → keypad_on x ≡ keypad_on c
  pub moves : load_rises was now ≡ false → x.line.readout ≡ record { code = c.line.readout.code; left = left_at was now c }
  -- after a LOAD rise a readout runs where it is a read word, of the code held
  pub starts : load_rises was now ≡ true → Started (decoded_of x.line.register) c x

-- what DCLK does to a readout
clocked_readout : (falls rises d : Bool) (l : LineParts)
    → (pick falls (clocked_out l) (pick rises (clocked_in d l) l)).readout
    ≡ record { code = l.readout.code; left = pick falls (l.readout.left - 1) l.readout.left }
clocked_readout true rises d l = refl
clocked_readout false true d l = refl
clocked_readout false false d l = refl

step_starts : (was now : ℕ) (d : Bool) (c : Chip) → load_rises was now ≡ true
    → Started (decoded_of (stepped was now d c).line.register) c (stepped was now d c)
unfolding loaded
step_starts was now d c e =
    rw (stepped_load was now d c e)
    (rw (loaded_register x) (word_starts (decoded_of x.line.register) x))
  where
    x : Chip
    x = with_line (clocked was now d c.line) c

step_moved : (was now : ℕ) (d : Bool) (c : Chip) → Moved was now c (stepped was now d c)
unfolding clocked
step_moved was now d c =
    record {
      sound = stepped_valid was now d c;
      keeps = λ e. ap (λ (x : Body). x.settings.system.keyb) (quiet was now d c e);
      moves = λ e. ap (λ (x : LineParts). x.readout) (stepped_line was now d c e) ∙ clocked_readout (dclk_falls was now) (dclk_rises was now) d c.line;
      starts = step_starts was now d c;
    }

-- past the end of a list of chips stands a reset chip, which no sample moves
none_moved : (was now : ℕ) → Moved was now reset_chip reset_chip
none_moved was now =
    record {
      sound = λ t. t;
      keeps = λ e. refl;
      moves = λ e. pick_cases (λ (k : ℕ). reset_chip.line.readout ≡ record { code = 0; left = k }) (dclk_falls was now) (λ f. refl) (λ f. refl);
      starts = λ e. (refl, λ t. absurd (false≢true t));
    }

row_moved : (was now : ℕ) (n k : ℕ) (d : Bool) (cs : List Chip) → k < n
    → Moved was now (get_or cs k reset_chip) (get_or (stepped_row n was now d cs) k reset_chip)
unfolding stepped_row
row_moved was now zero k d cs h = absurd (not-suc-le-zero h)
row_moved was now (suc n) k d [] h = none_moved was now
row_moved was now (suc n) zero d (c ∷ cs) h = step_moved was now d c
row_moved was now (suc n) (suc k) d (c ∷ cs) h = row_moved was now n k (dout c) cs (le_of_suc-le-suc h)

last_below : (n : ℕ) → chip_count n ≡ true → n - 1 < n
last_below n some =
    let low = leb-true 1 n ((and-eq-true_iff (leb 1 n) (leb n 8)).0 some).0 in
    omega arith

pub last_moved : (n s : ℕ) (ch : Chain) → chip_count n ≡ true → Moved ch.levels s (last_chip n ch) (last_chip n (stepped_chain n s ch))
last_moved n s ch some = row_moved ch.levels s n (n - 1) (din s) ch.chips (last_below n some)

-- ---- a scan

pub record Untouched (c x : Chip) : Type 0 where
  pub sound : T (valid c) → T (valid x)
  pub system : x.settings.system ≡ c.settings.system
  pub line : x.line ≡ c.line

same_untouched : (c : Chip) → Untouched c c
same_untouched c = record { sound = λ t. t; system = refl; line = refl }

scan_untouched : (bytes : List ℕ) (c : Chip) → Untouched c (scanned bytes c)
scan_untouched bytes c =
    record { sound = scanned_valid bytes c; system = keyb_scanned (result bytes) c; line = line_scanned (result bytes) c }

set_untouched : (bytes : List ℕ) (cs : List Chip) (k j : ℕ)
    → Untouched (get_or cs j reset_chip) (get_or (set cs k (scanned bytes (get_or cs k reset_chip))) j reset_chip)
set_untouched bytes [] k j = same_untouched reset_chip
set_untouched bytes (c ∷ cs) zero zero = scan_untouched bytes c
set_untouched bytes (c ∷ cs) zero (suc j) = same_untouched (get_or cs j reset_chip)
set_untouched bytes (c ∷ cs) (suc k) zero = same_untouched c
set_untouched bytes (c ∷ cs) (suc k) (suc j) = set_untouched bytes cs k j

pub last_untouched : (n k : ℕ) (bytes : List ℕ) (ch : Chain) → Untouched (last_chip n ch) (last_chip n (with_chip k (scanned bytes (chip_at k ch)) ch))
last_untouched n k bytes ch = set_untouched bytes ch.chips k (n - 1)
