-- A recording of the model, each sample with the DOUT that the host sees after it: what is asked of a recording can be had.
--     recording_seen         at each edge the settled level is the last chip's DOUT there
--     recording_recorded     each sample has a recorded DOUT
--     recording_plays        the panel after the recording is the panel after what was recorded
-- Assumes nothing.
use Rattle.std.proofs.Common.{◌≡◌, ℕ, ◌+◌, ◌*◌, ◌/◌, ◌%◌, ◌^◌, ◌<◌, Bool, true, false, ◌||◌, eqb, ltb, List, [], ◌∷◌, sym, refl, ap, ◌∙◌, subst, ap₂, arith, le-ltb}
use mathlib.Core.Bool.{false≢true}
use Rattle.base.specs.Bits.{bit_value}
use Rattle.base.proofs.Picks.{pick_yes, pick_no, pick_cases}
use Rattle.chip.specs.declared.Chip.{Chip}
use Rattle.chip.specs.Commands.{dout}
use Rattle.chip.specs.Edges.{dclk, load}
use Rattle.chip.specs.Scans.{scanned}
use Rattle.chain.specs.declared.Chain.{Chain}
use Rattle.chain.specs.Chain.{stepped_chain}
use Rattle.chain.specs.Entries.{chip_at, with_chip}
use Rattle.chain.proofs.Still.{Alike, still_chips}
use Rattle.reads.specs.declared.Reader.{Reader}
use Rattle.reads.specs.Reads.{recorded_in, differ, is_edge, last_chip, start_reader, looking, kept, look_at, reader_after, next_offset}
use Rattle.reads.specs.Till.{chain_after_all, Throughout, SettledIs, Seen, HasDout, Played, levels, scans, shown_byte, recording_of, played_after}

-- ---- a sample with DOUT

-- its parts are what was put into it
shown_parts : (d : Bool) (v : ℕ) → ((0x10 + 8 * bit_value d + v % 8) % 8 ≡ v % 8) × ((0x10 + 8 * bit_value d + v % 8) / 16 ≡ 1)
shown_parts true v = (omega arith, omega arith)
shown_parts false v = (omega arith, omega arith)

shown_levels : (n v : ℕ) (ch : Chain) → shown_byte n v ch % 8 ≡ v % 8
shown_levels n v ch = (shown_parts (dout (last_chip n ch)) v).0

shown_recorded : (n v : ℕ) (ch : Chain) → shown_byte n v ch / 16 ≡ 1
shown_recorded n v ch = (shown_parts (dout (last_chip n ch)) v).1

-- and the level that was recorded is that level
recorded_is : (d : Bool) (v : ℕ) → SettledIs (recorded_in (0x10 + 8 * bit_value d + v % 8)) d
recorded_is true v =
    let b = 0x18 + v % 8 in
    let three : b / 2 ^ 3 % 2 ^ 1 ≡ 1 = omega arith in
    subst (λ x. SettledIs x true) (sym (pick_no _ _ (le-ltb b 0x10 (omega arith)) ∙ pick_yes _ _ (ap (λ x. eqb x 1) three))) refl
recorded_is false v =
    let b = 0x10 + v % 8 in
    let three : b / 2 ^ 3 % 2 ^ 1 ≡ 0 = omega arith in
    subst (λ x. SettledIs x false) (sym (pick_no _ _ (le-ltb b 0x10 (omega arith)) ∙ pick_no _ _ (ap (λ x. eqb x 1) three))) refl

-- so the reader after it keeps that level
kept_level : (was b offset : ℕ) (c : Chip) (r : Reader) → ltb b 0x10 ≡ false → (kept was b offset c r).dout ≡ recorded_in b
unfolding kept
kept_level was b offset c r h =
    pick_cases (λ (x : Reader). x.dout ≡ recorded_in b) (looking r.dout) (λ e. refl) (λ e. ap (λ (x : Reader). x.dout) (pick_no _ _ h))

keeps : (n v offset : ℕ) (shown ch : Chain) (r : Reader) → SettledIs (reader_after n offset (shown_byte n v shown) ch r).dout (dout (last_chip n shown))
keeps n v offset shown ch r =
    let b = shown_byte n v shown in
    let h = shown_recorded n v shown in
    subst (λ x. SettledIs x (dout (last_chip n shown)))
    (sym (kept_level ch.levels b offset (last_chip n (stepped_chain n (b % 8) ch)) (look_at n b ch r).reader (le-ltb b 0x10 (omega arith))))
    (recorded_is (dout (last_chip n shown)) v)

-- ---- a sample with the levels as they are

same_wires : (v : ℕ) → Alike v (v % 8)
same_wires v =
    let clock : v / 2 ^ 1 % 2 ^ 1 ≡ v % 8 / 2 ^ 1 % 2 ^ 1 = omega arith in
    let rise : v / 2 ^ 2 % 2 ^ 1 ≡ v % 8 / 2 ^ 2 % 2 ^ 1 = omega arith in
    record { clock = ap (λ x. eqb x 1) clock; rise = ap (λ x. eqb x 1) rise }

-- it leaves the chips as they are
still_chain : (n : ℕ) (ch : Chain) → stepped_chain n (ch.levels % 8) ch ≡ record { chips = ch.chips; levels = ch.levels % 8 }
still_chain n ch = still_chips n (ch.levels % 8) ch (same_wires ch.levels)

-- and is no edge
same_level_lem : (a : Bool) → differ a a ≡ false
same_level_lem true = refl
same_level_lem false = refl

no_edge : (was now : ℕ) → Alike was now → is_edge was now ≡ false
no_edge was now a =
    ap₂ (λ x y. differ x (dclk now) || differ y (load now)) a.clock a.rise
    ∙ ap₂ (λ x y. x || y) (same_level_lem (dclk now)) (same_level_lem (load now))

-- ---- recordings

-- from any panel and any reader whose level is the last chip's DOUT
seen_from : (n offset : ℕ) (history : List Played) (ch : Chain) (r : Reader) → SettledIs r.dout (dout (last_chip n ch))
    → Throughout n (Seen n) (recording_of n offset history ch) ch r
unfolding recording_of Throughout
seen_from n offset [] ch r q = tt
seen_from n offset (levels v ∷ more) ch r q =
    let next = stepped_chain n (v % 8) ch in
    let b = shown_byte n v next in (
      (λ edge. q),
      subst (λ x. Throughout n (Seen n) (recording_of n (next_offset offset) more next) x (reader_after n offset b ch r))
          (sym (ap (λ s. stepped_chain n s ch) (shown_levels n v next)))
          (seen_from n (next_offset offset) more next (reader_after n offset b ch r) (keeps n v offset next ch r)),
    )
seen_from n offset (scans k bytes ∷ more) ch r q =
    let next = with_chip k (scanned bytes (chip_at k ch)) ch in
    let after = stepped_chain n (ch.levels % 8) next in
    let b = shown_byte n ch.levels next in
    let same = shown_levels n ch.levels next in
    let still = ap (is_edge ch.levels) same ∙ no_edge ch.levels (ch.levels % 8) (same_wires ch.levels) in (
      tt,
      (
        (λ edge. absurd (false≢true (sym still ∙ edge))),
        subst (λ x. Throughout n (Seen n) (recording_of n (next_offset offset) more after) x (reader_after n offset b next r))
            (sym (ap (λ s. stepped_chain n s next) same))
            (seen_from n (next_offset offset) more after (reader_after n offset b next r)
            (subst (λ (x : Chain). SettledIs (reader_after n offset b next r).dout (dout (last_chip n x))) (sym (still_chain n next)) (keeps n ch.levels offset next next r))),
      ),
    )

pub recording_seen : (n offset : ℕ) (history : List Played) (ch : Chain) → Throughout n (Seen n) (recording_of n offset history ch) ch start_reader
recording_seen n offset history ch = seen_from n offset history ch start_reader tt

-- whatever panel is looked at
recorded_from : (n offset : ℕ) (history : List Played) (ch other : Chain) (r : Reader) → Throughout n HasDout (recording_of n offset history ch) other r
unfolding recording_of Throughout
recorded_from n offset [] ch other r = tt
recorded_from n offset (levels v ∷ more) ch other r =
    let next = stepped_chain n (v % 8) ch in
    let b = shown_byte n v next in
    (shown_recorded n v next, recorded_from n (next_offset offset) more next (stepped_chain n (b % 8) other) (reader_after n offset b other r))
recorded_from n offset (scans k bytes ∷ more) ch other r =
    let next = with_chip k (scanned bytes (chip_at k ch)) ch in
    let b = shown_byte n ch.levels next in
    let looked = with_chip k (scanned bytes (chip_at k other)) other in (
      tt,
      (
        shown_recorded n ch.levels next,
        recorded_from n (next_offset offset) more (stepped_chain n (ch.levels % 8) next) (stepped_chain n (b % 8) looked) (reader_after n offset b looked r),
      ),
    )

pub recording_recorded : (n offset : ℕ) (history : List Played) (ch : Chain) → Throughout n HasDout (recording_of n offset history ch) ch start_reader
recording_recorded n offset history ch = recorded_from n offset history ch ch start_reader

pub recording_plays : (n offset : ℕ) (history : List Played) (ch : Chain) → ch.levels < 8
    → chain_after_all n (recording_of n offset history ch) ch ≡ played_after n history ch
unfolding recording_of chain_after_all played_after
recording_plays n offset [] ch low = refl
recording_plays n offset (levels v ∷ more) ch low =
    let next = stepped_chain n (v % 8) ch in
    ap (λ s. chain_after_all n (recording_of n (next_offset offset) more next) (stepped_chain n s ch)) (shown_levels n v next)
    ∙ recording_plays n (next_offset offset) more next (omega arith)
recording_plays n offset (scans k bytes ∷ more) ch low =
    let next = with_chip k (scanned bytes (chip_at k ch)) ch in
    let after = stepped_chain n (ch.levels % 8) next in
    let small : ch.levels % 8 ≡ ch.levels = omega arith in
    ap (λ s. chain_after_all n (recording_of n (next_offset offset) more after) (stepped_chain n s next)) (shown_levels n ch.levels next)
    ∙ ap (λ (x : Chain). chain_after_all n (recording_of n (next_offset offset) more x) x) (still_chain n next ∙ ap (λ m. record { chips = next.chips; levels = m }) small)
    ∙ recording_plays n (next_offset offset) more next low
