-- A reader keeps track of the last chip's readouts: what one sample does to both.
--     Tracks          the reader has the bits that were read of a readout that runs
--     pending         the code of a readout that runs
--     by_test         either way of a test
--     tracks_same, pending_same      a scan changes nothing of it
--     tracks_on       the reader does so after a sample
--     tells_codes     a look tells the code of a readout that ends, and the code held at a read word is that of the readout that begins
--     tells_no_cut    it tells no cut
-- Assumes nothing.
use Rattle.std.proofs.Common.{◌≡◌, ℕ, ◌+◌, ◌-◌, ◌/◌, ◌%◌, ◌<◌, ◌≤◌, Bool, true, false, not, ◌&&◌, T, eqb, ◌⊎◌, List, [], ◌∷◌, ◌++◌, sym, refl, ap, ◌∙◌, ap₂, inl, inr, ⊎_elim, arith, le-ltb, eq-eqb, ne_eqb, eqb-true}
use mathlib.Core.Bool.{false≢true, and-false, and-eq-true_iff}
use borrow.Author.Tests.{eqb-false}
use Rattle.base.specs.Pick.{pick}
use Rattle.base.proofs.Picks.{pick_yes, pick_no, pick_cases}
use Rattle.word.specs.declared.System.{System}
use Rattle.word.specs.Words.{decoded_of}
use Rattle.chip.specs.declared.Chip.{Chip}
use Rattle.chip.specs.declared.LineParts.{LineParts}
use Rattle.chip.specs.declared.Readout.{Readout}
use Rattle.chip.specs.Record.{valid}
use Rattle.chip.specs.Commands.{dout}
use Rattle.chip.specs.Edges.{dclk_falls, load_rises}
use Rattle.chip.proofs.Valid.{valid_facts}
use Rattle.reads.specs.declared.Dout.{Dout}
use Rattle.reads.specs.declared.Dout.TheVariants.{NotYet, Missing, Low, High}
use Rattle.reads.specs.declared.Looked.{Looked}
use Rattle.reads.specs.declared.Note.{Note}
use Rattle.reads.specs.declared.Note.TheVariants.{Nothing, Code}
use Rattle.reads.specs.declared.Reader.{Reader}
use Rattle.reads.specs.Reads.{is_edge, looking, bits_with, fall_tells, in_readout, begun, looked, kept}
use Rattle.reads.specs.Till.{codes_told, is_cut, is_read_key, keypad_on, runs, left_at, was_recorded, SettledIs}
use Rattle.reads.proofs.LookCases.{fall_edge, look_dout}
use Rattle.reads.proofs.Kept.{kept_known, kept_looking, kept_first, begins_runs}
use Rattle.reads.proofs.LastChip.{Moved, Untouched}
use Rattle.reads.proofs.ReadBits.{bits_left, bits_whole, bits_all, bits_some, running, look_waiting, look_readout, look_idle, bits_with_lem}

-- before the first sample, or with a recorded level
abbrev Standing : Chip → Reader → Type 0
Standing c r = ((looking r.dout ≡ false) × (r.bits ≡ 1) × (runs c ≡ false)) ⊎ (was_recorded r.dout ≡ true)

pub record Tracks (c : Chip) (r : Reader) : Type 0 where
  pub sound : T (valid c)
  pub bits : runs c ≡ true → r.bits ≡ bits_left c.line.readout.code c.line.readout.left
  pub stands : Standing c r

-- the code that is being read
abbrev pub pending : Chip → List ℕ
pending c = pick (runs c) (c.line.readout.code ∷ []) []

recorded_looks : (level : Dout) → was_recorded level ≡ true → looking level ≡ true
recorded_looks NotYet e = absurd (false≢true e)
recorded_looks Missing e = refl
recorded_looks Low e = refl
recorded_looks High e = refl

-- either way of a test
pub by_test {ℓ} : {A : Type ℓ} (t : Bool) → (t ≡ true → A) → (t ≡ false → A) → A
by_test true f g = f refl
by_test false f g = g refl

-- ---- a scan

module _ (c x : Chip) (u : Untouched c x) where
  -- no readout begins or ends
  runs_same : runs x ≡ runs c
  runs_same = ap₂ (λ (s : System) (l : LineParts). s.keyb && not (eqb l.readout.left 0)) u.system u.line

  pub pending_same : pending x ≡ pending c
  pending_same = ap₂ (λ t (l : LineParts). pick t (l.readout.code ∷ []) []) runs_same u.line

  pub tracks_same : (r : Reader) → Tracks c r → Tracks x r
  tracks_same r k =
      record {
        sound = u.sound k.sound;
        bits = λ on. k.bits (sym runs_same ∙ on) ∙ sym (ap (λ (l : LineParts). bits_left l.readout.code l.readout.left) u.line);
        stands = ⊎_elim (λ p. inl (p.0, p.1, runs_same ∙ p.2)) inr k.stands;
      }

-- ---- a sample

module _ (was b offset : ℕ) (c x : Chip) (r : Reader) (m : Moved was (b % 8) c x) (k : Tracks c r) (has : b / 16 ≡ 1) (seen : is_edge was (b % 8) ≡ true → SettledIs r.dout (dout c)) (ends : (load_rises was (b % 8) && keypad_on c && not (eqb (left_at was (b % 8) c) 0)) ≡ false) where
  abbrev rises : Bool
  rises = load_rises was (b % 8)

  abbrev falls : Bool
  falls = dclk_falls was (b % 8)

  -- the readout before the sample, and what is left of it after DCLK's edge
  abbrev code : ℕ
  code = c.line.readout.code

  abbrev left : ℕ
  left = c.line.readout.left

  abbrev after : ℕ
  after = left_at was (b % 8) c

  abbrev look : Looked
  look = looked was (b % 8) c r

  -- the reader after the sample
  abbrev next : Reader
  next = kept was b offset x (looked was (b % 8) c r).reader

  -- while a readout runs a level was recorded
  known : runs c ≡ true → was_recorded r.dout ≡ true
  known e = ⊎_elim (λ p. absurd (false≢true (sym p.2 ∙ e))) (λ q. q) k.stands

  -- with no LOAD rise a readout runs on
  runs_on : rises ≡ false → runs x ≡ (keypad_on c && not (eqb after 0))
  runs_on e = ap₂ (λ s (t : Readout). s && not (eqb t.left 0)) (m.keeps e) (m.moves e)

  left_none : eqb left 0 ≡ true → eqb after 0 ≡ true
  left_none z =
      let none = eqb-true left 0 z in
      let less : left - 1 ≡ 0 = omega arith in
      pick_cases (λ t. eqb t 0 ≡ true) falls (λ f. eq-eqb (left - 1) 0 less) (λ f. z)

  ran_before : rises ≡ false → runs x ≡ true → runs c ≡ true
  ran_before e on =
      let both = (and-eq-true_iff (keypad_on c) (not (eqb after 0))).0 (sym (runs_on e) ∙ on) in
      by_test (eqb left 0) (λ z. absurd (false≢true (sym (ap not (left_none z)) ∙ both.1)))
      (λ z. ap₂ (λ s t. s && not t) both.0 z)

  -- ---- the bits after the sample

  -- of a readout that begins none is read
  begins_one : rises ≡ true → runs x ≡ true → next.bits ≡ 1
  begins_one e on =
      ⊎_elim
      (λ p.
      let same = ap (λ (l : Looked). l.reader) (look_waiting was (b % 8) c r p.0) in
      ap (λ (y : Reader). (kept was b offset x y).bits) same ∙ ap (λ (y : Reader). y.bits) (kept_first was b offset x r p.0 has) ∙ p.1)
      (λ q.
      ap (λ (y : Reader). y.bits) (kept_looking was b offset x look.reader (ap looking (look_dout was (b % 8) c r) ∙ recorded_looks r.dout q))
      ∙ ap (λ t. (begun t look.reader).bits) (begins_runs was b offset x r ∙ ap₂ ◌&&◌ e on))
      k.stands

  -- with no LOAD rise those are kept that the look left
  bits_kept : rises ≡ false → runs c ≡ true → next.bits ≡ look.reader.bits
  bits_kept e on =
      ap (λ (y : Reader). y.bits) (kept_looking was b offset x look.reader (ap looking (look_dout was (b % 8) c r) ∙ recorded_looks r.dout (known on)))
      ∙ ap (λ t. (begun t look.reader).bits) (begins_runs was b offset x r ∙ ap (λ t. t && runs x) e)

  -- a look while a readout runs
  in_readout_lem : runs c ≡ true → look ≡ in_readout falls rises left r
  in_readout_lem on = look_readout was (b % 8) c r (running c k.sound on) (recorded_looks r.dout (known on))

  -- its bits at a fall
  fallen : runs c ≡ true → falls ≡ true → bits_with r.dout r.bits ≡ bits_left code (left - 1)
  fallen on f = bits_with_lem c r (running c k.sound on) (known on) (seen (fall_edge was (b % 8) f)) (k.bits on)

  bits_on : rises ≡ false → runs c ≡ true → next.bits ≡ bits_left code after
  bits_on e on =
      bits_kept e on
      ∙ ap (λ (l : Looked). l.reader.bits) (in_readout_lem on)
      ∙ by_test falls
      (λ f.
      ap (λ t. (in_readout t rises left r).reader.bits) f
      ∙ fallen on f
      ∙ sym (ap (bits_left code) (pick_yes _ _ f)))
      (λ f.
      ap (λ t. (in_readout t rises left r).reader.bits) f
      ∙ k.bits on
      ∙ sym (ap (bits_left code) (pick_no _ _ f)))

  -- a code that is held is below 80H
  held_small : c.keys.code < 128
  held_small =
      let low = ((valid_facts c).0 k.sound).code in
      omega arith

  pub tracks_on : Tracks x next
  tracks_on =
      record {
        sound = m.sound k.sound;
        bits = λ on.
            by_test rises
            (λ e.
            begins_one e on
            ∙ sym (bits_whole c.keys.code held_small)
            ∙ sym (ap (λ (t : Readout). bits_left t.code t.left) ((m.starts e).1 on)))
            (λ e. bits_on e (ran_before e on) ∙ sym (ap (λ (t : Readout). bits_left t.code t.left) (m.moves e)));
        stands = inr (kept_known was b offset x look.reader has);
      }

  -- ---- what the look tells

  -- the code held, where the sample is a read word
  abbrev held_here : List ℕ
  held_here = pick (rises && keypad_on c && is_read_key (decoded_of x.line.register)) (c.keys.code ∷ []) []

  no_word : rises ≡ false → held_here ≡ []
  no_word e = pick_no _ _ (ap (λ t. t && keypad_on c && is_read_key (decoded_of x.line.register)) e)

  -- where no readout runs on, the one that runs after the sample is of the code held
  only_begun : (rises ≡ false → runs x ≡ false) → pending x ≡ held_here
  only_begun over =
      by_test rises
      (λ e.
      let word : (rises && keypad_on c && is_read_key (decoded_of x.line.register)) ≡ runs x =
      ap (λ t. t && keypad_on c && is_read_key (decoded_of x.line.register)) e ∙ sym (m.starts e).0 in
      by_test (runs x)
      (λ on. pick_yes _ _ on ∙ ap (λ (t : Readout). t.code ∷ []) ((m.starts e).1 on) ∙ sym (pick_yes _ _ (word ∙ on)))
      (λ off. pick_no _ _ off ∙ sym (pick_no _ _ (word ∙ off))))
      (λ e. pick_no _ _ (over e) ∙ sym (no_word e))

  -- none runs before the sample
  idle_codes : runs c ≡ false → (notes : List Note) (held : List ℕ) → codes_told notes ≡ pending x ++ held
      → codes_told (look.note ∷ notes) ≡ pending c ++ (held_here ++ held)
  idle_codes off notes held h =
      (look_idle was (b % 8) c r off).0 notes
      ∙ h
      ∙ ap (λ t. t ++ held) (only_begun (λ e. by_test (runs x) (λ on. absurd (false≢true (sym off ∙ ran_before e on))) (λ f. f)))
      ∙ sym (ap (λ t. t ++ (held_here ++ held)) (pick_no _ _ off))

  -- the last bit is read
  last_bit : runs c ≡ true → eqb after 0 ≡ true → (falls ≡ true) × (left ≡ 1)
  last_bit on z =
      let one = running c k.sound on in
      by_test falls
      (λ f.
      let none = eqb-true (left - 1) 0 (sym (ap (λ t. eqb t 0) (pick_yes (left - 1) left f)) ∙ z) in
      let before = one.before in
      (f, omega arith))
      (λ f. absurd (false≢true (sym one.some ∙ sym (ap (λ t. eqb t 0) (pick_no (left - 1) left f)) ∙ z)))

  -- the code is told
  code_told : runs c ≡ true → eqb after 0 ≡ true → look.note ≡ Code code
  code_told on z =
      let one = running c k.sound on in
      let p = last_bit on z in
      let none : left - 1 ≡ 0 = ap (λ t. t - 1) p.1 in
      let bits = fallen on p.0 ∙ ap (bits_left code) none ∙ bits_all code in
      let small = one.small in
      let high : 128 ≤ 128 + code = omega arith in
      let some : eqb (128 + code) 0 ≡ false = ne_eqb (128 + code) 0 (λ q. omega arith) in
      let cut : (128 + code) % 128 ≡ code = omega arith in
      ap (λ (l : Looked). l.note) (in_readout_lem on)
      ∙ ap (λ t. (in_readout t rises left r).note) p.0
      ∙ ap₂ (λ t n. fall_tells rises n r.bits t) bits p.1
      ∙ pick_no _ _ some
      ∙ pick_no _ _ (le-ltb (128 + code) 128 high)
      ∙ ap Code cut

  -- no LOAD rise cuts it
  no_cut_rise : runs c ≡ true → eqb after 0 ≡ false → rises ≡ false
  no_cut_rise on more =
      by_test rises
      (λ e. absurd (false≢true (sym ends ∙ ap₂ (λ s t. s && keypad_on c && not t) e more ∙ ap (λ t. t && true) (running c k.sound on).on)))
      (λ e. e)

  -- nothing is told while it runs on
  nothing_told : runs c ≡ true → eqb after 0 ≡ false → look.note ≡ Nothing
  nothing_told on more =
      let one = running c k.sound on in
      let quiet = no_cut_rise on more in
      ap (λ (l : Looked). l.note) (in_readout_lem on)
      ∙ by_test falls
      (λ f.
      let within : left - 1 < 8 = omega (arith, one.within) in
      let ne = eqb-false (left - 1) 0 (sym (ap (λ t. eqb t 0) (pick_yes (left - 1) left f)) ∙ more) in
      ap₂ (λ t u. (in_readout t u left r).note) f quiet
      ∙ pick_no _ _ (ap (λ t. eqb t 0) (fallen on f) ∙ bits_some (left - 1) code within one.small)
      ∙ pick_no _ _ (ne_eqb left 1 (λ q. ne (ap (λ t. t - 1) q))))
      (λ f. ap₂ (λ t u. (in_readout t u left r).note) f quiet)

  -- one runs before the sample
  running_codes : runs c ≡ true → (notes : List Note) (held : List ℕ) → codes_told notes ≡ pending x ++ held
      → codes_told (look.note ∷ notes) ≡ pending c ++ (held_here ++ held)
  running_codes on notes held h =
      by_test (eqb after 0)
      (λ z.
      ap (λ note. codes_told (note ∷ notes)) (code_told on z)
      ∙ ap (λ t. code ∷ t)
      (h ∙ ap (λ t. t ++ held) (only_begun (λ e. runs_on e ∙ ap (λ t. keypad_on c && not t) z ∙ and-false (keypad_on c))))
      ∙ sym (ap (λ t. t ++ (held_here ++ held)) (pick_yes _ _ on)))
      (λ more.
      let e = no_cut_rise on more in
      let still : runs x ≡ true = runs_on e ∙ ap₂ (λ s t. s && not t) (running c k.sound on).on more in
      ap (λ note. codes_told (note ∷ notes)) (nothing_told on more)
      ∙ h
      ∙ ap (λ t. t ++ held) (pick_yes _ _ still ∙ ap (λ (t : Readout). t.code ∷ []) (m.moves e) ∙ sym (pick_yes _ _ on))
      ∙ sym (ap (λ t. pending c ++ (t ++ held)) (no_word e)))

  pub tells_codes : (notes : List Note) (held : List ℕ) → codes_told notes ≡ pending x ++ held
      → codes_told (look.note ∷ notes) ≡ pending c ++ (held_here ++ held)
  tells_codes notes held h = by_test (runs c) (λ on. running_codes on notes held h) (λ off. idle_codes off notes held h)

  pub tells_no_cut : is_cut look.note ≡ false
  tells_no_cut =
      by_test (runs c)
      (λ on. by_test (eqb after 0) (λ z. ap is_cut (code_told on z)) (λ more. ap is_cut (nothing_told on more)))
      (λ off. (look_idle was (b % 8) c r off).1)
