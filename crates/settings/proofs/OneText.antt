-- One setting has one text (specs/OneText.antt).
--     written_reads_lem     what is written reads back as it was
--     read_written      a text that reads is the one that is written from what it read
--     read_size         what is read has as many chips as a record has
--     same_text         settings have the same text exactly when they are the same below N
-- Assumes nothing.
use mathlib.Core.Path.{◌≡◌, refl, ap, ap₂, sym, subst, ◌∙◌}
use mathlib.Core.Bool.{Bool, true, false, ◌&&◌, and-eq-true_iff}
use mathlib.Core.List.{List, [], ◌∷◌, ◌++◌, append_assoc}
use Prim.Native.Nat.{ℕ, zero, suc, ◌+◌, ◌≤◌, ◌<◌}
use native.Mathlib.Omega.{arith}
use borrow.Author.Tests.{le-ltb}
use lib.Dec.{ltb}
use lib.ListN.{length, get_or, set, take, drop, length-append, length-drop, length-set, take-append-drop}
use lib.Seq.{take_at, take-suc-set, drop-set-lt}
use Rattle.base.specs.Pick.{pick}
use Rattle.base.specs.Below.{every}
use Rattle.base.specs.Refusals.{Told, IsDone, done, refused, Outcome, hands_back}
use Rattle.base.proofs.Picks.{pick_yes, pick_no}
use Rattle.chain.specs.Chain.{most, chip_count}
use Rattle.lines.specs.Lines.{Line, ended, lines_of, bytes_in, as_hex, line_for}
use Rattle.lines.proofs.Hex.{line_back, line_given}
use Rattle.lines.proofs.Texts.{lines_same}
use Rattle.settings.specs.declared.Kept.{Kept}
use Rattle.settings.specs.declared.Kiosk.{Kiosk}
use Rattle.settings.specs.OneText.{trimmed, ReadAs, Writable, WrittenReads, ReadWritten, SameText}
use Rattle.settings.specs.Reading.{version_in, is_first, is_chip, kept_by, chips_from, kiosk_by, lines_read, read_of}
use Rattle.settings.specs.Settings.{newest, no_kepts, no_kiosk, kept_in, legal_kept, all_legal, first_frame, chip_frame, chip_lines, text_of}
use Rattle.settings.proofs.Bytes.{count_within, chip_frame_is, chip_frame_back, chip_frame_below, chip_length, chip_bytes_back, chip_bytes_legal, first_frame_is, first_frame_below, first_frame_back, first_length, first_count}
use Rattle.settings.proofs.Texts.{passes, passes_test, kept_length, frame_lines, text_lines, version_written}

-- ---- chips put at their places

-- so many chips from place k on
abbrev placed_at : ℕ → List Kept → ℕ → List Kept → List Kept
placed_at k cs count kept = take k kept ++ (cs ++ drop (k + count) kept)

placed_none : (k : ℕ) (kept : List Kept) → placed_at k [] 0 kept ≡ kept
placed_none k kept =
    let same : k + 0 ≡ k = omega arith in
    ap (λ j. take k kept ++ drop j kept) same ∙ take-append-drop k kept

placed_more : (k : ℕ) (c : Kept) (cs : List Kept) (count : ℕ) (kept : List Kept) → k < length kept
    → placed_at (suc k) cs count (set kept k c) ≡ placed_at k (c ∷ cs) (suc count) kept
placed_more k c cs count kept h =
    let same : suc k + count ≡ k + suc count = omega arith in
    ap (λ front. front ++ (cs ++ drop (suc k + count) (set kept k c))) (take-suc-set kept k c h)
    ∙ append_assoc (take k kept) (c ∷ []) (cs ++ drop (suc k + count) (set kept k c))
    ∙ ap (λ rest. take k kept ++ (c ∷ (cs ++ rest))) (drop-set-lt (suc k + count) kept k c (omega arith) ∙ ap (λ j. drop j kept) same)

-- ---- the lines of chips that are written are read

chips_read : (k : ℕ) (cs kept : List Kept) → all_legal cs ≡ true → k + length cs ≤ length kept → length kept ≤ 256
    → chips_from (length cs) k kept (frame_lines k cs) ≡ done (placed_at k cs (length cs) kept)
unfolding chips_from frame_lines every
chips_read k [] kept ok room few = ap done (sym (placed_none k kept))
chips_read k (c ∷ cs) kept ok room few =
    let t = (and-eq-true_iff (legal_kept c) (all_legal cs)).0 ok in
    let back = line_back (chip_frame k c) (chip_frame_below k c t.0 (omega arith)) in
    let s = length-set kept k c in
    pick_yes _ (refused 15 (k + 2)) (ap (is_chip k) back ∙ chip_frame_is k c t.0)
    ∙ ap (λ x. chips_from (length cs) (suc k) (set kept k x) (frame_lines (suc k) cs)) (ap kept_by back ∙ chip_frame_back k c t.0)
    ∙ chips_read (suc k) cs (set kept k c) t.1 (omega arith) (omega arith)
    ∙ ap done (placed_more k c cs (length cs) kept (omega arith))

pub written_reads_lem : WrittenReads
unfolding read_of
written_reads_lem kiosk test size =
    let n = kiosk.n in
    let p = passes kiosk test in
    let few = (count_within n p.chips).few in
    let count = kept_length kiosk test size in
    let back = line_back (first_frame n) (first_frame_below n p.chips) in
    let room : 0 + length (kept_in kiosk) ≤ length no_kepts = omega arith in
    let past : 0 + length (kept_in kiosk) ≡ n = omega arith in
    let chips : chips_from n 0 no_kepts (frame_lines 0 (kept_in kiosk)) ≡ done (kept_in kiosk ++ drop n no_kepts) =
    ap (λ m. chips_from m 0 no_kepts (frame_lines 0 (kept_in kiosk))) (sym count)
    ∙ chips_read 0 (kept_in kiosk) no_kepts p.legal room (omega arith)
    ∙ ap (λ m. done (kept_in kiosk ++ drop m no_kepts)) past in
    pick_no _ _ (le-ltb newest (version_in (text_of kiosk)) (version_written kiosk test))
    ∙ ap lines_read (text_lines kiosk test size)
    ∙ ap (λ bytes. pick (is_first bytes) (kiosk_by (get_or bytes 2 0) (chips_from (get_or bytes 2 0) 0 no_kepts (frame_lines 0 (kept_in kiosk)))) (hands_back no_kiosk 15 1)) back
    ∙ pick_yes _ _ (first_frame_is n p.chips)
    ∙ ap (kiosk_by n) chips

-- ---- what is read is written

-- an answer comes from the side that isn't a refusal
told_by : {A : Type 0} (b : Bool) (number place : ℕ) {x : Told A} {y : A} → pick b x (refused number place) ≡ done y → (b ≡ true) × (x ≡ done y)
told_by true number place e = (refl, e)
told_by false number place e = absurd (subst IsDone (sym e) tt)

-- settings that were read
abbrev read_to : Kiosk → Outcome Kiosk (Unit {0})
read_to kiosk = record { state = kiosk; told = done tt }

refused_never : (number place : ℕ) (kiosk : Kiosk) → hands_back no_kiosk number place ≡ read_to kiosk → ⊥
refused_never number place kiosk e = subst IsDone (sym (ap (λ (o : Outcome Kiosk (Unit {0})). o.told) e)) tt

taken_by : (b : Bool) (number place : ℕ) {x : Outcome Kiosk (Unit {0})} {kiosk : Kiosk} → pick b x (hands_back no_kiosk number place) ≡ read_to kiosk
    → (b ≡ true) × (x ≡ read_to kiosk)
taken_by true number place e = (refl, e)
taken_by false number place {kiosk = kiosk} e = absurd (refused_never number place kiosk e)

newer_never : (b : Bool) (number place : ℕ) {x : Outcome Kiosk (Unit {0})} {kiosk : Kiosk} → pick b (hands_back no_kiosk number place) x ≡ read_to kiosk
    → x ≡ read_to kiosk
newer_never true number place {kiosk = kiosk} e = absurd (refused_never number place kiosk e)
newer_never false number place e = e

kiosk_by_lem : (n : ℕ) (t : Told (List Kept)) (kiosk : Kiosk) → kiosk_by n t ≡ read_to kiosk
    → (kept : List Kept) × (t ≡ done kept) × (record { n = n; chips = kept } ≡ kiosk)
kiosk_by_lem n (done kept) kiosk e = (kept, refl, ap (λ (o : Outcome Kiosk (Unit {0})). o.state) e)
kiosk_by_lem n (refused number place) kiosk e = absurd (refused_never number place kiosk e)

-- what lines of chips were read to: the settings of which they are the lines
record ChipsTaken (count k : ℕ) (kept : List Kept) (ls : List Line) (kept' : List Kept) : Type 0 where
  cs : List Kept
  all : length cs ≡ count
  legal : all_legal cs ≡ true
  lines : ls ≡ frame_lines k cs
  placed : kept' ≡ placed_at k cs count kept

chips_taken : (count k : ℕ) (kept : List Kept) (ls : List Line) (kept' : List Kept) → k + count ≤ length kept
    → chips_from count k kept ls ≡ done kept'
    → ChipsTaken count k kept ls kept'
unfolding chips_from frame_lines every
chips_taken zero k kept [] kept' room e =
    let same : kept ≡ kept' = cc in
    record { cs = []; all = refl; legal = refl; lines = refl; placed = sym same ∙ sym (placed_none k kept) }
chips_taken zero k kept (l ∷ ls) kept' room e = absurd (subst IsDone (sym e) tt)
chips_taken (suc count) k kept [] kept' room e = absurd (subst IsDone (sym e) tt)
chips_taken (suc count) k kept (l ∷ ls) kept' room e =
    let c = kept_by (bytes_in l) in
    let t = told_by (is_chip k (bytes_in l)) 15 (k + 2) e in
    let six = chip_length k (bytes_in l) t.0 in
    let w = line_given l (omega arith) in
    let s = length-set kept k c in
    let more = chips_taken count (suc k) (set kept k c) ls kept' (omega arith) t.1 in
    let line : l ≡ ended (as_hex (chip_frame k c)) = w.0 ∙ ap (λ bytes. ended (as_hex bytes)) (sym (chip_bytes_back k (bytes_in l) t.0 w.1)) in
    record {
      cs = c ∷ more.cs;
      all = ap suc more.all;
      legal = ap₂ ◌&&◌ (chip_bytes_legal k (bytes_in l) t.0 w.1) more.legal;
      lines = ap₂ (λ x xs. x ∷ xs) line more.lines;
      placed = more.placed ∙ placed_more k c more.cs count kept (omega arith);
    }

-- what the lines of a text were read to
record LinesTaken (ls : List Line) (kiosk : Kiosk) : Type 0 where
  cs : List Kept
  all : length cs ≡ kiosk.n
  count : chip_count kiosk.n ≡ true
  legal : all_legal cs ≡ true
  lines : ls ≡ ended (as_hex (first_frame kiosk.n)) ∷ frame_lines 0 cs
  chips : kiosk.chips ≡ cs ++ drop kiosk.n no_kepts

lines_taken : (ls : List Line) (kiosk : Kiosk) → lines_read ls ≡ read_to kiosk → LinesTaken ls kiosk
lines_taken [] kiosk e = absurd (refused_never 15 1 kiosk e)
lines_taken (l ∷ ls) kiosk e =
    let n = get_or (bytes_in l) 2 0 in
    let t = taken_by (is_first (bytes_in l)) 15 1 e in
    let by = kiosk_by_lem n (chips_from n 0 no_kepts ls) kiosk t.1 in
    let three = first_length (bytes_in l) t.0 in
    let count = first_count (bytes_in l) t.0 in
    let few = (count_within n count).few in
    let w = line_given l (omega arith) in
    let room : 0 + n ≤ length no_kepts = omega arith in
    let more = chips_taken n 0 no_kepts ls by.0 room by.1 in
    let line : l ≡ ended (as_hex (first_frame n)) = w.0 ∙ ap (λ bytes. ended (as_hex bytes)) (sym (first_frame_back (bytes_in l) t.0)) in
    let past : 0 + n ≡ n = omega arith in
    subst (LinesTaken (l ∷ ls)) by.2
    record {
      cs = more.cs;
      all = more.all;
      count = count;
      legal = more.legal;
      lines = ap₂ (λ x xs. x ∷ xs) line more.lines;
      chips = more.placed ∙ ap (λ m. more.cs ++ drop m no_kepts) past;
    }

text_taken : (text : List ℕ) (kiosk : Kiosk) → ReadAs text kiosk → LinesTaken (lines_of text) kiosk
unfolding read_of
text_taken text kiosk e = lines_taken (lines_of text) kiosk (newer_never (ltb newest (version_in text)) 14 (version_in text) e)

pub read_size : (text : List ℕ) (kiosk : Kiosk) → ReadAs text kiosk → length kiosk.chips ≡ most
read_size text kiosk e =
    let p = text_taken text kiosk e in
    let all = p.all in
    let few = (count_within kiosk.n p.count).few in
    let zeros : length no_kepts ≡ most = refl in
    omega (arith, ap length p.chips, length-append p.cs (drop kiosk.n no_kepts), length-drop kiosk.n no_kepts)

pub read_written : ReadWritten
read_written text kiosk e =
    let p = text_taken text kiosk e in
    let n = kiosk.n in
    let front : kept_in kiosk ≡ p.cs = ap (take n) p.chips ∙ take_at p.cs (drop n no_kepts) n p.all in
    let test = passes_test kiosk record { chips = p.count; legal = ap all_legal front ∙ p.legal } in
    let first = ended (as_hex (first_frame n)) in
    let same : lines_of (text_of kiosk) ≡ lines_of text =
    text_lines kiosk test (read_size text kiosk e) ∙ ap (λ cs. first ∷ frame_lines 0 cs) front ∙ sym p.lines in
    let chips : kept_in kiosk ++ drop n no_kepts ≡ kiosk.chips = ap (λ cs. cs ++ drop n no_kepts) front ∙ sym p.chips in
    (lines_same (text_of kiosk) text same, test, (λ i. record { n = n; chips = chips i }))

-- ---- the same text

-- a text says nothing of the chips from N on
text_trimmed : (kiosk : Kiosk) → Writable kiosk → text_of (trimmed kiosk) ≡ text_of kiosk
unfolding text_of
text_trimmed kiosk w =
    let n = kiosk.n in
    ap (λ cs. line_for (first_frame n) ++ chip_lines 0 cs) (take_at (kept_in kiosk) (drop n no_kepts) n (kept_length kiosk w.0 w.1))

pub same_text : SameText
same_text a b v w = (
  (λ e. ap (λ (o : Outcome Kiosk (Unit {0})). o.state) (sym (written_reads_lem a v.0 v.1) ∙ ap read_of e ∙ written_reads_lem b w.0 w.1)),
  (λ e. sym (text_trimmed a v) ∙ ap text_of e ∙ text_trimmed b w),
)
