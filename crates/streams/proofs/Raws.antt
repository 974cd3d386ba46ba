-- A raw stream's bytes one after another, and then its end, write what its items write.
--     raw_more                one byte: by what the bytes of its item say
--     raw_from_lem                where N is known: from any place inside an item on
--     raw_head                the first three bytes, and then the items: the whole stream
-- Assumes nothing.
use Rattle.std.proofs.Common.{◌≡◌, ℕ, ◌-◌, ◌<◌, Bool, true, false, List, [], ◌∷◌, ◌++◌, length, sym, refl, ap, ◌∙◌, arith, le-ltb, eq-eqb, ne_eqb}
use Rattle.base.proofs.Picks.{pick_yes, pick_no}
use Rattle.base.proofs.Tests.{by_order, by_equality}
use Rattle.chain.specs.declared.Chain.{Chain}
use Rattle.chain.specs.Chain.{chip_count}
use Rattle.chain.specs.Entries.{start_chain}
use Rattle.capture.specs.declared.Report.{Report}
use Rattle.reads.specs.declared.Reader.{Reader}
use Rattle.reads.specs.Reads.{start_reader, sampled, next_offset, is_sample}
use Rattle.streams.specs.declared.Kind.TheVariants.{Raw}
use Rattle.streams.specs.declared.State.{State}
use Rattle.streams.specs.declared.held.Held.{Held}
use Rattle.streams.specs.Held.{none_held, grown_one}
use Rattle.streams.specs.Raw.{sample, scanned, Said, item_taken, raw_refusal, Item, whole, begun, wrong, is_scan, item_of, by_item, raw_from, raw_count, raw_out}
use Rattle.streams.specs.Steps.{Stepped, begins, raw_refused, raw_held, raw_taken, raw_byte, then, steps}
use Rattle.streams.proofs.Holds.{HoldsLine, holds_none, holds_more, holds_empty, holds_some}
use Rattle.streams.proofs.Items.{Begun, begun_none, begun_one, first_sample, first_scan, first_wrong, begun_more, scan_last}
use Rattle.streams.proofs.RawSteps.{by_head}
use Rattle.streams.proofs.Stepping.{head_other, head_next}
use Rattle.streams.proofs.Written.{stands, written, written_going, written_stopped}

-- a test passes or fails
by_test : {A : Type 0} (b : Bool) → (b ≡ true → A) → (b ≡ false → A) → A
by_test true f g = f refl
by_test false f g = g refl

-- ---- items

module _ (what : Report) (n : ℕ) (some : chip_count n ≡ true) where
  -- what is left of the steps
  abbrev onward : List ℕ → State → Stepped
  onward bytes next = steps (raw_byte what) next bytes

  -- what is left of the output, by what the item's bytes say
  pub raw_more : (offset : ℕ) (ch : Chain) (rd : Reader) (h : List ℕ) (b : ℕ) (bytes : List ℕ) {said : Said} → item_of n (h ++ b ∷ []) ≡ said
      → raw_from what n offset ch rd h (b ∷ bytes)
      ≡ by_item said (λ item. let x = item_taken what n offset ch rd item in
      x.out ++ raw_from what n (next_offset offset) x.chain x.reader [] bytes)
      (raw_from what n (next_offset offset) ch rd (h ++ b ∷ []) bytes)
      (raw_refusal offset)
  unfolding raw_from
  raw_more offset ch rd h b bytes e =
      ap (λ said. by_item said (λ item. let x = item_taken what n offset ch rd item in
      x.out ++ raw_from what n (next_offset offset) x.chain x.reader [] bytes)
      (raw_from what n (next_offset offset) ch rd (h ++ b ∷ []) bytes)
      (raw_refusal offset)) e

  module _ (offset : ℕ) (ch : Chain) (rd : Reader) (held : Held) (h : List ℕ) (b : ℕ) (bytes : List ℕ) where
    abbrev s : State
    s = stands n ch rd offset held

    -- an item is whole
    is_whole : (item : Item) → raw_byte what s b ≡ raw_taken what s item → item_of n (h ++ b ∷ []) ≡ whole item
        → written Raw (onward bytes (begins n (item_taken what n offset ch rd item).chain (item_taken what n offset ch rd item).reader (next_offset offset)))
        ≡ raw_from what n (next_offset offset) (item_taken what n offset ch rd item).chain (item_taken what n offset ch rd item).reader [] bytes
        → written Raw (then (raw_byte what s b) (onward bytes)) ≡ raw_from what n offset ch rd h (b ∷ bytes)
    is_whole item does says rest =
        let x = item_taken what n offset ch rd item in
        ap (λ y. written Raw (then y (onward bytes))) does
        ∙ written_going Raw (begins n x.chain x.reader (next_offset offset)) x.out (onward bytes)
        ∙ ap (λ y. x.out ++ y) rest
        ∙ sym (raw_more offset ch rd h b bytes says)

    -- there is more to come
    is_begun : raw_byte what s b ≡ raw_held s b → item_of n (h ++ b ∷ []) ≡ begun
        → written Raw (onward bytes (stands n ch rd (next_offset offset) (grown_one held b))) ≡ raw_from what n (next_offset offset) ch rd (h ++ b ∷ []) bytes
        → written Raw (then (raw_byte what s b) (onward bytes)) ≡ raw_from what n offset ch rd h (b ∷ bytes)
    is_begun does says rest = ap (λ x. written Raw (then x (onward bytes))) does ∙ rest ∙ sym (raw_more offset ch rd h b bytes says)

    -- the byte may not stand there
    is_wrong : raw_byte what s b ≡ raw_refused s → item_of n (h ++ b ∷ []) ≡ wrong
        → written Raw (then (raw_byte what s b) (onward bytes)) ≡ raw_from what n offset ch rd h (b ∷ bytes)
    is_wrong does says =
        ap (λ x. written Raw (then x (onward bytes))) does
        ∙ written_stopped Raw s (raw_refusal offset) (onward bytes)
        ∙ sym (raw_more offset ch rd h b bytes says)

  pub raw_from_lem : (bytes h : List ℕ) (held : Held) (offset : ℕ) (ch : Chain) (rd : Reader) → HoldsLine held h → Begun n h
      → written Raw (steps (raw_byte what) (stands n ch rd offset held) bytes) ≡ raw_from what n offset ch rd h bytes
  unfolding steps raw_from
  raw_from_lem [] [] held offset ch rd p q = pick_yes [] (raw_refusal offset) (eq-eqb held.count 0 (holds_empty p))
  raw_from_lem [] (f ∷ h) held offset ch rd p q =
      pick_no [] (raw_refusal offset) (ne_eqb held.count 0 (holds_some f h p))
      ∙ sym (pick_no [] (raw_refusal offset) (ne_eqb (length (f ∷ h)) 0 (λ e. absurd (omega arith))))
  raw_from_lem (b ∷ bytes) [] held offset ch rd p q =
      by_test (is_sample b)
      (λ y.
      let x = sampled what n offset b ch rd in
      let r = first_sample what n some ch rd offset held b p y in
      is_whole offset ch rd held [] b bytes (sample b) r.0 r.1
      (raw_from_lem bytes [] none_held (next_offset offset) x.chain x.reader holds_none (begun_none n)))
      (λ y. by_test (is_scan n b)
      (λ k.
      let r = first_scan what n some ch rd offset held b p y k in
      is_begun offset ch rd held [] b bytes r.0 r.1
      (raw_from_lem bytes (b ∷ []) (grown_one held b) (next_offset offset) ch rd (holds_more p b) (begun_one n b y k)))
      (λ k. let r = first_wrong what n some ch rd offset held b p y k in is_wrong offset ch rd held [] b bytes r.0 r.1))
  raw_from_lem (b ∷ bytes) (f ∷ h) held offset ch rd p q =
      by_order 7 (length h)
      (λ l.
      let item = scanned (f - 0x80) (h ++ b ∷ []) in
      let r = scan_last what n some ch rd offset held b f h p q l in
      is_whole offset ch rd held (f ∷ h) b bytes item r.0 r.1
      (raw_from_lem bytes [] none_held (next_offset offset) (item_taken what n offset ch rd item).chain rd holds_none (begun_none n)))
      (λ l.
      let r = begun_more what n some ch rd offset held b f h p q l in
      is_begun offset ch rd held (f ∷ h) b bytes r.0 r.1
      (raw_from_lem bytes (f ∷ (h ++ b ∷ [])) (grown_one held b) (next_offset offset) ch rd (holds_more p b) r.2))

-- ---- the first three bytes

module _ (what : Report) (n : ℕ) (ch : Chain) (rd : Reader) (none : chip_count n ≡ false) where
  -- the end inside them
  head_end : (held : Held) (offset c : ℕ) (h : List ℕ) → HoldsLine held (c ∷ h) → written Raw (steps (raw_byte what) (stands n ch rd offset held) []) ≡ raw_refusal offset
  unfolding steps
  head_end held offset c h p = pick_no [] (raw_refusal offset) (ne_eqb held.count 0 (holds_some c h p))

  -- 00 and 01
  head_held : (held : Held) (offset b : ℕ) → held.count < 2 → b ≡ held.count → raw_byte what (stands n ch rd offset held) b ≡ raw_held (stands n ch rd offset held) b
  head_held held offset b l e =
      by_head what (stands n ch rd offset held) b none ∙ head_next (stands n ch rd offset held) b l e

  -- any other in their place
  head_wrong : (held : Held) (offset b : ℕ) → held.count < 2 → (b ≡ held.count → ⊥) → raw_byte what (stands n ch rd offset held) b ≡ raw_refused (stands n ch rd offset held)
  head_wrong held offset b l ne =
      by_head what (stands n ch rd offset held) b none ∙ head_other (stands n ch rd offset held) b l ne

  -- N
  head_count : (held : Held) (c d : ℕ) → HoldsLine held (c ∷ d ∷ []) → (bytes : List ℕ)
      → written Raw (steps (raw_byte what) (stands n ch rd 2 held) bytes) ≡ raw_count what bytes
  unfolding steps
  head_count held c d p [] = head_end held 2 c (d ∷ []) p
  head_count held c d p (b ∷ bytes) =
      let s = stands n ch rd 2 held in
      let two : held.count ≡ 2 = p.count (omega arith) in
      let third = by_head what s b none ∙ pick_no _ _ (le-ltb held.count 2 (omega arith)) in
      by_test (chip_count b)
      (λ y.
      ap (λ x. written Raw (then x (λ next. steps (raw_byte what) next bytes))) (third ∙ pick_yes _ _ y)
      ∙ raw_from_lem what b y bytes [] none_held 3 start_chain start_reader holds_none (begun_none b)
      ∙ sym (pick_yes (raw_from what b 3 start_chain start_reader [] bytes) (raw_refusal 2) y))
      (λ y.
      ap (λ x. written Raw (then x (λ next. steps (raw_byte what) next bytes))) (third ∙ pick_no _ _ y)
      ∙ written_stopped Raw s (raw_refusal 2) (λ next. steps (raw_byte what) next bytes)
      ∙ sym (pick_no (raw_from what b 3 start_chain start_reader [] bytes) (raw_refusal 2) y))

  -- 01
  head_second : (held : Held) (c : ℕ) → HoldsLine held (c ∷ []) → (bytes : List ℕ)
      → written Raw (steps (raw_byte what) (stands n ch rd 1 held) bytes) ≡ raw_out what bytes
  unfolding steps
  head_second held c p [] = head_end held 1 c [] p
  head_second held c p (b ∷ bytes) =
      let s = stands n ch rd 1 held in
      let one : held.count ≡ 1 = p.count (omega arith) in
      by_equality b 1
      (λ e.
      ap (λ x. written Raw (then x (λ next. steps (raw_byte what) next bytes))) (head_held held 1 b (omega arith) (e ∙ sym one))
      ∙ head_count (grown_one held b) c b (holds_more p b) bytes
      ∙ sym (pick_yes (raw_count what bytes) (raw_refusal 1) (eq-eqb b 1 e)))
      (λ ne.
      ap (λ x. written Raw (then x (λ next. steps (raw_byte what) next bytes))) (head_wrong held 1 b (omega arith) (λ e. ne (e ∙ one)))
      ∙ written_stopped Raw s (raw_refusal 1) (λ next. steps (raw_byte what) next bytes)
      ∙ sym (pick_no (raw_count what bytes) (raw_refusal 1) (ne_eqb b 1 ne)))

  -- 00, and all after it
  pub raw_head : (held : Held) → HoldsLine held [] → (b : ℕ) (bytes : List ℕ) → b ≡ 0
      → written Raw (steps (raw_byte what) (stands n ch rd 0 held) (b ∷ bytes)) ≡ raw_out what bytes
  unfolding steps
  raw_head held p b bytes e =
      let zero : held.count ≡ 0 = holds_empty p in
      ap (λ x. written Raw (then x (λ next. steps (raw_byte what) next bytes))) (head_held held 0 b (omega arith) (e ∙ sym zero))
      ∙ head_second (grown_one held b) b (holds_more p b) bytes
