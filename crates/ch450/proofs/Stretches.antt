-- Samples up to and with the next stop that completes a transfer, `stretch_from`, from a place of them on.
--     told_stop                                    what a sample tells, where it completes a transfer
--     stretch_more, stretch_step, stretch_over     a sample more, and no sample left
--     each_stretch                                 what holds at an end and at a stop, and before a sample if after it, holds of a stretch
--     stretch_fewer, stretch_within                fewer samples are left after a stretch, and it ends among them
--     stretch_plays, stretch_reads                 a stretch, and then the rest, is the whole: the panel after it, and the reads in it
--     read_once                                    a transfer reads the key at most once
-- Assumes nothing.
use mathlib.Core.Path.{◌≡◌, refl, ap, sym, subst, ◌∙◌}
use mathlib.Core.Bool.{true, false}
use mathlib.Core.List.{List}
use Prim.Native.Nat.{ℕ, zero, suc, ◌+◌, ◌-◌, ◌≤◌, ◌<◌}
use native.Mathlib.Nat.{zero-add}
use native.Mathlib.Numerals.{add-one}
use native.Mathlib.Omega.{arith}
use lib.ListN.{length, get_or, drop, drop_of_length-le}
use Rattle.base.specs.Bits.{bit_value}
use Rattle.base.specs.Pick.{pick}
use Rattle.base.proofs.Cuts.{bit_value_lt}
use Rattle.base.proofs.Picks.{pick_yes, pick_no, pick_cases}
use Rattle.base.proofs.Tests.{by_order}
use Rattle.base.proofs.Lists.{rest_is}
use Rattle.ch450.specs.declared.Panel.{Panel}
use Rattle.ch450.specs.declared.Wires.{Wires}
use Rattle.ch450.specs.declared.play.Stretch.{Stretch}
use Rattle.ch450.specs.declared.play.Transfer.{Transfer}
use Rattle.std.specs.declared.option.Option.TheVariants.{Some, None}
use Rattle.ch450.specs.Commands.{meaning_of, told_at, is_read}
use Rattle.ch450.specs.Edges.{completes, stepped, first_byte, second_byte}
use Rattle.ch450.specs.Panel.{with_wires}
use Rattle.ch450.specs.Samples.{stepped_panel, played, reads_in}
use Rattle.ch450.specs.Stretch.{stretch_from, read_by}
use Rattle.ch450.proofs.Rest.{play_more, reads_more}
use Rattle.ch450.proofs.Silent.{told_nothing, silent_step}
use Rattle.std.specs.declared.option.Option.{Option}
use Rattle.ch450.specs.declared.Command.{Command}

-- the bytes of a transfer that a stop completes
abbrev pub bytes_in : Wires → Option Transfer
bytes_in w = Some (record { first = first_byte w; second = second_byte w })

-- no sample is left, and no transfer was completed
abbrev pub ended : ℕ → Panel → Stretch
ended place p = record { panel = p; stop = place; transfer = None }

-- the last sample completed a transfer
abbrev pub stopped : ℕ → ℕ → Panel → Stretch
stopped place s p = record { panel = stepped_panel s p; stop = place; transfer = bytes_in p.wires }

-- ---- one sample

pub told_stop : (s : ℕ) (w : Wires) → completes s w ≡ true → told_at s w ≡ meaning_of (first_byte w) (second_byte w)
unfolding told_at
told_stop s w e = pick_yes _ _ e

-- ---- a transfer's reads

pub read_once : (t : Option Transfer) → read_by t ≤ 1
read_once (Some t) = let once = bit_value_lt (is_read (meaning_of t.first t.second)) in omega arith
read_once None = omega arith

module _ (ss : List ℕ) where
  -- ---- a sample more

  pub stretch_more : (i : ℕ) (p : Panel) → i < length ss
      → stretch_from i (drop i ss) p
      ≡ pick (completes (get_or ss i 0) p.wires) (stopped (i + 1) (get_or ss i 0) p)
      (stretch_from (i + 1) (drop (i + 1) ss) (stepped_panel (get_or ss i 0) p))
  unfolding stretch_from
  stretch_more i p h =
      ap (λ r. stretch_from i r p) (rest_is ss i 0 h)
      ∙ ap
      (λ m.
      pick (completes (get_or ss i 0) p.wires) (stopped m (get_or ss i 0) p) (stretch_from m (drop (i + 1) ss) (stepped_panel (get_or ss i 0) p)))
      (sym (add-one i))

  pub stretch_step : (i : ℕ) (p : Panel) (w : Wires) → i < length ss → completes (get_or ss i 0) p.wires ≡ false
      → w ≡ stepped (get_or ss i 0) p.wires
      → stretch_from (i + 1) (drop (i + 1) ss) (with_wires w p) ≡ stretch_from i (drop i ss) p
  stretch_step i p w h still e =
      ap (stretch_from (i + 1) (drop (i + 1) ss)) (ap (λ (v : Wires). with_wires v p) e ∙ sym (silent_step (get_or ss i 0) p still))
      ∙ sym (stretch_more i p h ∙ pick_no _ _ still)

  pub stretch_over : (i : ℕ) (p : Panel) → length ss ≤ i → stretch_from i (drop i ss) p ≡ ended i p
  unfolding stretch_from
  stretch_over i p h = ap (λ r. stretch_from i r p) (drop_of_length-le ss h)

  -- ---- what holds of a stretch

  module _
      (P : ℕ → Panel → Stretch → Type 0)
      (none : (i : ℕ) (p : Panel) → length ss ≤ i → P i p (ended i p))
      (stop : (i : ℕ) (p : Panel) → i < length ss → completes (get_or ss i 0) p.wires ≡ true → P i p (stopped (i + 1) (get_or ss i 0) p))
      (still : (i : ℕ) (p : Panel) (t : Stretch) → i < length ss → completes (get_or ss i 0) p.wires ≡ false
      → P (i + 1) (stepped_panel (get_or ss i 0) p) t → P i p t)
    where
      stretch_of : (left i : ℕ) (p : Panel) → length ss ≤ i + left → P i p (stretch_from i (drop i ss) p)
      stretch_of zero i p h = let past : length ss ≤ i = omega arith in subst (P i p) (sym (stretch_over i p past)) (none i p past)
      stretch_of (suc left) i p h =
          by_order (length ss) i (λ past. subst (P i p) (sym (stretch_over i p past)) (none i p past))
          (λ more.
          subst (P i p) (sym (stretch_more i p more))
          (pick_cases (P i p) (completes (get_or ss i 0) p.wires) (stop i p more)
          (λ e. still i p _ more e (stretch_of left (i + 1) (stepped_panel (get_or ss i 0) p) (omega arith)))))

      pub each_stretch : (i : ℕ) (p : Panel) → P i p (stretch_from i (drop i ss) p)
      each_stretch i p = stretch_of (length ss) i p (omega arith)

  -- a stretch passes one sample at least, if there is one, and ends among the samples
  stretch_goes : (i : ℕ) (p : Panel)
      → let stop = (stretch_from i (drop i ss) p).stop in (i ≤ stop) × (i < length ss → i < stop) × (i ≤ length ss → stop ≤ length ss)
  stretch_goes =
      each_stretch (λ i p t. (i ≤ t.stop) × (i < length ss → i < t.stop) × (i ≤ length ss → t.stop ≤ length ss))
      (λ i p past. (omega arith, (λ h. absurd (omega arith)), λ h. h))
      (λ i p more e. (omega arith, (λ h. omega arith), λ h. omega arith))
      (λ i p t more e q. let past = q.0 in (omega arith, (λ h. omega arith), λ h. q.2 (omega arith)))

  module _ (i : ℕ) (p : Panel) (t : Stretch) (e : t ≡ stretch_from i (drop i ss) p) where
    pub stretch_fewer : i < length ss → length ss - t.stop < length ss - i
    stretch_fewer h = omega (arith, ap (λ s. s.stop) e, (stretch_goes i p).1 h)

    pub stretch_within : i < length ss → (i < t.stop) × (t.stop ≤ length ss)
    stretch_within h =
        let same = ap (λ s. s.stop) e in
        let ends = (stretch_goes i p).2 (omega arith) in
        (omega (arith, same, (stretch_goes i p).1 h), omega (arith, same, ends))

    pub stretch_plays : played (drop t.stop ss) t.panel ≡ played (drop i ss) p
    stretch_plays =
        ap (λ s. played (drop s.stop ss) s.panel) e
        ∙ each_stretch (λ i p t. played (drop t.stop ss) t.panel ≡ played (drop i ss) p) (λ i p past. refl)
        (λ i p more q. sym (play_more ss i p more))
        (λ i p t more q r. r ∙ sym (play_more ss i p more))
        i p

    pub stretch_reads : read_by t.transfer + reads_in (drop t.stop ss) t.panel ≡ reads_in (drop i ss) p
    stretch_reads =
        ap (λ s. read_by s.transfer + reads_in (drop s.stop ss) s.panel) e
        ∙ each_stretch (λ i p t. read_by t.transfer + reads_in (drop t.stop ss) t.panel ≡ reads_in (drop i ss) p)
        (λ i p past. zero-add (reads_in (drop i ss) p))
        (λ i p more q.
        sym
        (reads_more ss i p more
        ∙ ap (λ (m : Option Command). bit_value (is_read m) + reads_in (drop (i + 1) ss) (stepped_panel (get_or ss i 0) p))
        (told_stop (get_or ss i 0) p.wires q)))
        (λ i p t more q r.
        r
        ∙ sym
        (reads_more ss i p more
        ∙ ap (λ (m : Option Command). bit_value (is_read m) + reads_in (drop (i + 1) ss) (stepped_panel (get_or ss i 0) p))
        (told_nothing (get_or ss i 0) p.wires q)
        ∙ zero-add (reads_in (drop (i + 1) ss) (stepped_panel (get_or ss i 0) p))))
        i p
