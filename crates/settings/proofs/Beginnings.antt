-- The first bytes of a text decide: as many as the longest text has, and one more.
--     SameStart, same_start     a text and its first bytes begin with the same good line, or with a bad one each, or have no line
--     chips_decide              the lines of the chips that are left
--     first_decides             a text (specs/OneText.antt)
-- Assumes nothing.
use mathlib.Core.Path.{◌≡◌, refl, ap, sym, subst, ◌∙◌}
use mathlib.Core.Bool.{Bool, true, false}
use mathlib.Core.List.{List, [], ◌∷◌, ◌++◌}
use Prim.Native.Nat.{ℕ, zero, suc, ◌+◌, ◌*◌, ◌-◌, ◌≤◌, ◌<◌}
use native.Mathlib.Omega.{arith}
use lib.Dec.{ltb}
use lib.ListN.{length, get_or, set, take, length-take}
use lib.Seq.{take-nil, take-take, take-append-le, take-append-add}
use Rattle.base.specs.Pick.{pick}
use Rattle.base.specs.Refusals.{refused, hands_back}
use Rattle.base.proofs.Picks.{pick_no}
use Rattle.base.proofs.Tests.{by_order}
use Rattle.chain.specs.Chain.{most}
use Rattle.lines.specs.Lines.{newline, Line, ended, cut_off, lines_of, bytes_in, as_hex}
use Rattle.lines.proofs.Hex.{line_given}
use Rattle.lines.proofs.Puts.{as_hex_length}
use Rattle.lines.proofs.Texts.{NoEnd, no_end_take, lines_held, lines_cut, lines_some, Begun, no_line, whole_line, cut_line, begun}
use Rattle.settings.specs.declared.Kept.{Kept}
use Rattle.settings.specs.OneText.{FirstDecides}
use Rattle.settings.specs.Reading.{version_by, version_in, is_first, is_chip, kept_by, chips_from, kiosk_by, lines_read, read_of}
use Rattle.settings.specs.Settings.{newest, no_kepts, no_kiosk}
use Rattle.settings.proofs.Bytes.{count_within, first_length, first_count, chip_length}

-- ---- how a text and its first bytes begin

-- the lines of the first m bytes of a text, and those of the whole, where a good line has w characters, its end among them
data SameStart (test : List ℕ → Bool) (w m : ℕ) : List Line → List Line → Type 0 where
  neither : SameStart test w m [] []
  wrong : (k l : Line) (ks ls : List Line) → test (bytes_in k) ≡ false → test (bytes_in l) ≡ false → SameStart test w m (k ∷ ks) (l ∷ ls)
  right : (l : Line) (rest : List ℕ) → test (bytes_in l) ≡ true → SameStart test w m (l ∷ lines_of (take (m - w) rest)) (l ∷ lines_of rest)

cut_lines : (h : List ℕ) → NoEnd h → 0 < length h → lines_of h ≡ cut_off h ∷ []
cut_lines [] p some = absurd (omega arith)
cut_lines (c ∷ h) p some = lines_cut c h p

-- a text that goes on past a line's end
take_past : (h rest : List ℕ) (j m : ℕ) → m ≡ length h + suc j → take m (h ++ newline ∷ rest) ≡ h ++ newline ∷ take j rest
take_past h rest j m e = ap (λ x. take x (h ++ newline ∷ rest)) e ∙ take-append-add h (newline ∷ rest) (suc j)

held_past : (h rest : List ℕ) (j m : ℕ) → NoEnd h → m ≡ length h + suc j
    → lines_of (take m (h ++ newline ∷ rest)) ≡ ended h ∷ lines_of (take j rest)
held_past h rest j m p e = ap lines_of (take_past h rest j m e) ∙ lines_held h (take j rest) p

-- a test that only bytes of one number pass
module _ (test : List ℕ → Bool) (count m : ℕ) (many : (bytes : List ℕ) → test bytes ≡ true → length bytes ≡ count) (some : 0 < count) (room : 2 * count + 1 < m) where
  abbrev Same : List Line → List Line → Type 0
  Same = SameStart test (2 * count + 1) m

  -- no bytes don't
  none_fails : (t : Bool) → test [] ≡ t → t ≡ false
  none_fails true e = absurd (omega (arith, many [] e))
  none_fails false e = refl

  none_false : test [] ≡ false
  none_false = none_fails (test []) refl

  -- characters that end no line, cut shorter
  cut_short : (h : List ℕ) → NoEnd h → 0 < length h → lines_of (take m h) ≡ cut_off (take m h) ∷ []
  cut_short h p long = cut_lines (take m h) (no_end_take m h p) (omega (arith, length-take m h))

  -- a line that is ended
  by_line : (h rest : List ℕ) → NoEnd h → (t : Bool) → test (bytes_in (ended h)) ≡ t
      → Same (lines_of (take m (h ++ newline ∷ rest))) (ended h ∷ lines_of rest)
  by_line h rest p true e =
      let b = many (bytes_in (ended h)) e in
      let w = line_given (ended h) (omega arith) in
      let chars : h ≡ as_hex (bytes_in (ended h)) = cc w.0 in
      let past : m ≡ length h + suc (m - (2 * count + 1)) = omega (arith, ap length chars, as_hex_length (bytes_in (ended h))) in
      subst (λ ks. Same ks (ended h ∷ lines_of rest)) (sym (held_past h rest (m - (2 * count + 1)) m p past)) (right (ended h) rest e)
  by_line h rest p false e =
      by_order m (length h)
      (λ le.
      subst (λ ks. Same ks (ended h ∷ lines_of rest)) (sym (ap lines_of (take-append-le m h (newline ∷ rest) le) ∙ cut_short h p (omega arith)))
      (wrong (cut_off (take m h)) (ended h) [] (lines_of rest) none_false e))
      (λ lt.
      let past : m ≡ length h + suc (m - suc (length h)) = omega arith in
      subst (λ ks. Same ks (ended h ∷ lines_of rest)) (sym (held_past h rest (m - suc (length h)) m p past))
      (wrong (ended h) (ended h) (lines_of (take (m - suc (length h)) rest)) (lines_of rest) e e))

  by_start : {text : List ℕ} → Begun text → Same (lines_of (take m text)) (lines_of text)
  unfolding lines_of
  by_start no_line = subst (λ t. Same (lines_of t) []) (sym (take-nil m)) neither
  by_start (whole_line h rest p) =
      subst (λ ls. Same (lines_of (take m (h ++ newline ∷ rest))) ls) (sym (lines_held h rest p)) (by_line h rest p (test (bytes_in (ended h))) refl)
  by_start (cut_line c h p) =
      subst (λ ks. Same ks (lines_of (c ∷ h))) (sym (cut_short (c ∷ h) p (omega arith)))
      (subst (λ ls. Same (cut_off (take m (c ∷ h)) ∷ []) ls) (sym (lines_cut c h p))
      (wrong (cut_off (take m (c ∷ h))) (cut_off (c ∷ h)) [] [] none_false none_false))

  same_start : (text : List ℕ) → Same (lines_of (take m text)) (lines_of text)
  same_start text = by_start (begun text)

-- ---- the lines of the chips

-- none is left: a line more is refused, whatever it is
over_decides : (k : ℕ) (kept : List Kept) (text : List ℕ) (m : ℕ) → 1 ≤ m → chips_from 0 k kept (lines_of (take m text)) ≡ chips_from 0 k kept (lines_of text)
unfolding chips_from lines_of
over_decides k kept text zero h = absurd (omega arith)
over_decides k kept [] (suc m) h = refl
over_decides k kept (c ∷ text) (suc m) h =
    ap (chips_from 0 k kept) (lines_some c (take m text)).2 ∙ sym (ap (chips_from 0 k kept) (lines_some c text).2)

chips_by : (left k : ℕ) (kept : List Kept) (m : ℕ) {ks ls : List Line} → SameStart (is_chip k) 13 m ks ls
    → ((kept' : List Kept) (rest : List ℕ) → chips_from left (suc k) kept' (lines_of (take (m - 13) rest)) ≡ chips_from left (suc k) kept' (lines_of rest))
    → chips_from (suc left) k kept ks ≡ chips_from (suc left) k kept ls
unfolding chips_from
chips_by left k kept m neither more = refl
chips_by left k kept m (wrong j l ks ls p q) more = pick_no _ (refused 15 (k + 2)) p ∙ sym (pick_no _ (refused 15 (k + 2)) q)
chips_by left k kept m (right l rest p) more =
    ap (λ x. pick (is_chip k (bytes_in l)) x (refused 15 (k + 2))) (more (set kept k (kept_by (bytes_in l))) rest)

pub chips_decide : (left k : ℕ) (kept : List Kept) (text : List ℕ) (m : ℕ) → 13 * left + 1 ≤ m
    → chips_from left k kept (lines_of (take m text)) ≡ chips_from left k kept (lines_of text)
chips_decide zero k kept text m h = over_decides k kept text m (omega arith)
chips_decide (suc left) k kept text m h =
    chips_by left k kept m (same_start (is_chip k) 6 m (chip_length k) (omega arith) (omega arith) text)
    (λ kept' rest. chips_decide left (suc k) kept' rest (m - 13) (omega arith))

-- ---- a text

lines_by : (m : ℕ) {ks ls : List Line} → 7 + 13 * most + 1 ≤ m → SameStart is_first 7 m ks ls → lines_read ks ≡ lines_read ls
lines_by m h neither = refl
lines_by m h (wrong j l ks ls p q) = pick_no _ (hands_back no_kiosk 15 1) p ∙ sym (pick_no _ (hands_back no_kiosk 15 1) q)
lines_by m h (right l rest p) =
    let n = get_or (bytes_in l) 2 0 in
    let few = (count_within n (first_count (bytes_in l) p)).few in
    ap (λ x. pick (is_first (bytes_in l)) (kiosk_by n x) (hands_back no_kiosk 15 1)) (chips_decide n 0 no_kepts rest (m - 7) (omega arith))

version_decides : (text : List ℕ) (m : ℕ) → 4 ≤ m → version_in (take m text) ≡ version_in text
unfolding version_in
version_decides text m h = ap (λ t. version_by (bytes_in (ended t))) (take-take 4 m text h)

pub first_decides : FirstDecides
unfolding read_of
first_decides text m h =
    ap (λ v. pick (ltb newest v) (hands_back no_kiosk 14 v) (lines_read (lines_of (take m text)))) (version_decides text m (omega arith))
    ∙ ap (λ o. pick (ltb newest (version_in text)) (hands_back no_kiosk 14 (version_in text)) o)
    (lines_by m h (same_start is_first 3 m first_length (omega arith) (omega arith) text))
