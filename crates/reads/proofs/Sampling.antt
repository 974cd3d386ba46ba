-- Samples played with the looks before them, seen from the places of the code that plays them.
--     rises_few, sampled_few, sampled_all_few       how much samples write
--     sampled_so                                    one sample
--     runs_one, runs_more                           it alone, and some samples and then others
--     rest_all                                      the rest, as the code takes it
--     Playing, playing_start, playing_size, playing_room, playing_more, playing_some     the first of them, and the next
-- Assumes nothing.
use Rattle.std.proofs.Common.{◌≡◌, ℕ, ◌+◌, ◌-◌, ◌*◌, ◌%◌, ◌^◌, ◌<◌, ◌≤◌, true, T, List, [], ◌∷◌, ◌++◌, length, take, drop, sym, refl, ap, ◌∙◌, subst, ap₂, append_assoc, append-nil, mul-le-mul_right, arith, length-append, length-drop, length-take-le, take_all, take-add}
use Rattle.base.proofs.Lent.{placed_length}
use Rattle.chain.specs.declared.Chain.{Chain}
use Rattle.chain.specs.Chain.{chip_count, played}
use Rattle.chain.specs.Entries.{chip_at}
use Rattle.chain.proofs.Tested.{count_high}
use Rattle.lines.specs.Answers.{Puts}
use Rattle.lines.proofs.Puts.{puts_both}
use Rattle.capture.specs.declared.Report.{Report}
use Rattle.capture.specs.declared.walk.Took.{Took}
use Rattle.capture.specs.Parts.{Takes}
use Rattle.capture.specs.Replay.{rises_in}
use Rattle.capture.specs.Takes.{samples_where}
use Rattle.capture.proofs.Reported.{none_put}
use Rattle.capture.proofs.Room.{rises_room}
use Rattle.capture.proofs.Taken.{samples_where_lem, width_most}
use Rattle.reads.specs.declared.Looked.{Looked}
use Rattle.reads.specs.declared.Ran.{Ran}
use Rattle.reads.specs.declared.Reader.{Reader}
use Rattle.reads.specs.Notes.{note_line}
use Rattle.reads.specs.Parts.{sample_room, Runs, RunsSome}
use Rattle.reads.specs.Reads.{look_at, kept, Sampled, sampled, sampled_all, next_offset}
use Rattle.reads.proofs.Looking.{note_length}

-- ---- room

pub rises_few : (what : Report) (n : ℕ) (levels : List ℕ) (ch : Chain) → chip_count n ≡ true → length (rises_in what n levels ch) ≤ 84 * (length levels + 1)
rises_few what n levels ch count =
    let few = count_high n (subst T (sym count) tt) in
    omega (arith, rises_room what n levels ch few, mul-le-mul_right (length levels + 1) (width_most what))

module _ (what : Report) (n : ℕ) (count : chip_count n ≡ true) where
  pub sampled_few : (offset b : ℕ) (ch : Chain) (r : Reader) → length (sampled what n offset b ch r).out ≤ sample_room
  unfolding sampled
  sampled_few offset b ch r =
      let note = (look_at n b ch r).note in
      omega (arith, length-append (note_line (n - 1) note) (rises_in what n (b % 8 ∷ []) ch), note_length (n - 1) note, rises_few what n (b % 8 ∷ []) ch count)

  pub sampled_all_few : (offset : ℕ) (bytes : List ℕ) (ch : Chain) (r : Reader) → length (sampled_all what n offset bytes ch r).out ≤ sample_room * length bytes
  unfolding sampled_all
  sampled_all_few offset [] ch r = omega arith
  sampled_all_few offset (b ∷ bytes) ch r =
      let x = sampled what n offset b ch r in
      let rest = sampled_all what n (next_offset offset) bytes x.chain x.reader in
      omega (arith, length-append x.out rest.out, sampled_few offset b ch r, sampled_all_few (next_offset offset) bytes x.chain x.reader)

  -- ---- one sample

  pub sampled_so : (offset b : ℕ) (ch : Chain) (r : Reader) {at : ℕ} {out : List ℕ} → at + sample_room ≤ length out
      → {l : Looked} → l ≡ look_at n b ch r
      → {end : ℕ} {out₁ : List ℕ} → Puts (note_line (n - 1) l.note) at out end out₁
      → {took : Took} {out₂ : List ℕ} → Takes (samples_where what n ch (b % 8 ∷ []) end out₁) end out₁ took out₂
      → {after : Reader} → after ≡ kept ch.levels b offset (chip_at (n - 1) took.chain) l.reader
      → Runs (sampled what n offset b ch r) 1 at out (record { chain = took.chain; reader = after; count = 1; at = took.at }) out₂
  unfolding sampled played
  sampled_so offset b ch r {at} {out} room {l} looked {end} {out₁} note {took} {out₂} takes {after} keeps =
      let few = count_high n (subst T (sym count) tt) in
      let short = note_length (n - 1) l.note in
      let long : length out₁ ≡ length out = ap length note.bytes ∙ placed_length out at (note_line (n - 1) l.note) (omega arith) in
      let one = subst (λ o. Takes o end out₁ took out₂) (samples_where_lem what n ch (b % 8 ∷ []) end out₁ few (omega (arith, note.answer))) takes in
      let rises = rises_few what n (b % 8 ∷ []) ch count in
      let line = note_line (n - 1) l.note in
      let all = puts_both line (rises_in what n (b % 8 ∷ []) ch) (omega (arith, length-append line (rises_in what n (b % 8 ∷ []) ch))) note one.puts in
      record {
        chain = one.chain;
        reader =
            keeps
            ∙ ap₂ (λ next x. kept ch.levels b offset (chip_at (n - 1) next) x) one.chain (ap (λ (x : Looked). x.reader) looked);
        counts = refl;
        puts = subst (λ (x : Looked). Puts (note_line (n - 1) x.note ++ rises_in what n (b % 8 ∷ []) ch) at out took.at out₂) looked all;
      }

-- ---- samples after others

-- the rest, as the code takes it
pub rest_all : (i : ℕ) (bytes : List ℕ) → take (length bytes - i) (drop i bytes) ≡ drop i bytes
rest_all i bytes = take_all (length bytes - i) (drop i bytes) (omega (arith, length-drop i bytes))

-- the offset of the sample at a place
abbrev pub offset_at : ℕ → ℕ → ℕ
offset_at offset i = (offset + i) % 2 ^ 64

module _ (what : Report) (n : ℕ) where
  -- what some come to, and then the rest
  abbrev and_then : Sampled → Sampled → Sampled
  and_then x rest = record { chain = rest.chain; reader = rest.reader; out = x.out ++ rest.out }

  sampled_append : (offset : ℕ) (xs ys : List ℕ) (ch : Chain) (r : Reader) → offset < 2 ^ 64
      → sampled_all what n offset (xs ++ ys) ch r
      ≡ (let x = sampled_all what n offset xs ch r in
      and_then x (sampled_all what n (offset_at offset (length xs)) ys x.chain x.reader))
  unfolding sampled_all
  sampled_append offset [] ys ch r low =
      let same : offset ≡ offset_at offset 0 = omega arith in
      ap (λ (o : ℕ). sampled_all what n o ys ch r) same
  sampled_append offset (b ∷ xs) ys ch r low =
      let x = sampled what n offset b ch r in
      let rest = sampled_all what n (next_offset offset) xs x.chain x.reader in
      let next : offset_at (next_offset offset) (length xs) ≡ offset_at offset (length (b ∷ xs)) = omega arith in
      let left : ℕ → Sampled = λ o. sampled_all what n o ys rest.chain rest.reader in
      ap (and_then x) (sampled_append (next_offset offset) xs ys x.chain x.reader (omega arith))
      ∙ ap (λ (o : ℕ). and_then x (and_then rest (left o))) next
      ∙ ap (λ out. record { chain = (left (offset_at offset (length (b ∷ xs)))).chain; reader = (left (offset_at offset (length (b ∷ xs)))).reader; out = out })
      (sym (append_assoc x.out rest.out (left (offset_at offset (length (b ∷ xs)))).out))

  -- one sample
  pub runs_one : (offset b : ℕ) (ch : Chain) (r : Reader) {at : ℕ} {out : List ℕ} {ran : Ran} {out' : List ℕ} → Runs (sampled what n offset b ch r) 1 at out ran out'
      → Runs (sampled_all what n offset (b ∷ []) ch r) 1 at out ran out'
  unfolding sampled_all
  runs_one offset b ch r {at} {out} {ran} {out'} made =
      let x = sampled what n offset b ch r in
      subst (λ (y : Sampled). Runs y 1 at out ran out') (ap (λ o. record { chain = x.chain; reader = x.reader; out = o }) (sym (append-nil x.out))) made

  -- some, and then others
  pub runs_more : (offset : ℕ) (xs ys : List ℕ) (ch : Chain) (r : Reader) {i j at : ℕ} {out : List ℕ} → offset < 2 ^ 64 → length xs ≡ i → chip_count n ≡ true
      → at + sample_room * length (xs ++ ys) ≤ length out
      → {ran : Ran} {out₁ : List ℕ} → Runs (sampled_all what n offset xs ch r) i at out ran out₁
      → {place : ℕ} → place ≡ offset_at offset i
      → {next : Ran} {out₂ : List ℕ} → Runs (sampled_all what n place ys ran.chain ran.reader) j ran.at out₁ next out₂
      → Runs (sampled_all what n offset (xs ++ ys) ch r) (i + j) at out (record { chain = next.chain; reader = next.reader; count = i + j; at = next.at }) out₂
  runs_more offset xs ys ch r {i} {j} {at} {out} low long count room {ran} {out₁} made {place} placed {next} {out₂} more =
      let x = sampled_all what n offset xs ch r in
      let rest = sampled_all what n place ys ran.chain ran.reader in
      let whole = sampled_all what n offset (xs ++ ys) ch r in
      let same : and_then x rest ≡ whole =
      ap (λ (o : ℕ). and_then x (sampled_all what n o ys ran.chain ran.reader)) (placed ∙ ap (λ (m : ℕ). offset_at offset m) (sym long))
      ∙ ap₂ (λ c q. and_then x (sampled_all what n (offset_at offset (length xs)) ys c q)) made.chain made.reader
      ∙ sym (sampled_append offset xs ys ch r low) in
      record {
        chain = more.chain ∙ ap (λ (y : Sampled). y.chain) same;
        reader = more.reader ∙ ap (λ (y : Sampled). y.reader) same;
        counts = refl;
        puts =
            subst (λ (y : Sampled). Puts y.out at out next.at out₂) same
            (puts_both x.out rest.out
            (omega (arith, ap (λ (y : Sampled). length y.out) same, sampled_all_few what n count offset (xs ++ ys) ch r))
            made.puts more.puts);
      }

  -- ---- the first of them

  -- so many of the first were played, where there is room for all
  pub record Playing (offset : ℕ) (bytes : List ℕ) (ch₀ : Chain) (r₀ : Reader) (at : ℕ) (out₀ : List ℕ) (ran : Ran) (out : List ℕ) : Type 0 where
    pub within : ran.count ≤ length bytes
    pub runs : Runs (sampled_all what n offset (take ran.count bytes) ch₀ r₀) ran.count at out₀ ran out

  pub playing_start : (offset : ℕ) (bytes : List ℕ) (ch : Chain) (r : Reader) (at : ℕ) (out : List ℕ)
      → Playing offset bytes ch r at out (record { chain = ch; reader = r; count = 0; at = at }) out
  unfolding sampled_all
  playing_start offset bytes ch r at out = record { within = omega arith; runs = record { chain = refl; reader = refl; counts = refl; puts = none_put at out } }

  module _ {offset : ℕ} {bytes : List ℕ} {ch₀ : Chain} {r₀ : Reader} {at : ℕ} {out₀ : List ℕ} {ran : Ran} {out : List ℕ}
      (count : chip_count n ≡ true) (fits : at + sample_room * length bytes ≤ length out₀) (p : Playing offset bytes ch₀ r₀ at out₀ ran out) where
    abbrev first : List ℕ
    first = take ran.count bytes

    first_length : length first ≡ ran.count
    first_length = length-take-le ran.count bytes p.within

    few : length (sampled_all what n offset first ch₀ r₀).out ≤ sample_room * length first
    few = sampled_all_few what n count offset first ch₀ r₀

    pub playing_size : length out ≡ length out₀
    playing_size = ap length p.runs.puts.bytes ∙ placed_length out₀ at (sampled_all what n offset first ch₀ r₀).out (omega (arith, few, first_length, p.within))

    pub playing_room : ran.at + sample_room * length (drop ran.count bytes) ≤ length out
    playing_room = omega (arith, few, first_length, p.within, p.runs.puts.answer, playing_size, length-drop ran.count bytes)

    pub playing_more : offset < 2 ^ 64 → {place : ℕ} → place ≡ offset_at offset ran.count → {next : Ran} {out' : List ℕ} → next.count ≤ length (drop ran.count bytes)
        → Runs (sampled_all what n place (take next.count (drop ran.count bytes)) ran.chain ran.reader) next.count ran.at out next out'
        → Playing offset bytes ch₀ r₀ at out₀ (record { chain = next.chain; reader = next.reader; count = ran.count + next.count; at = next.at }) out'
    playing_more low {place} placed {next} {out'} within more =
        let both = take-add ran.count next.count bytes in
        let then = take next.count (drop ran.count bytes) in
        let enough : ran.count + next.count ≤ length bytes = omega (arith, within, length-drop ran.count bytes, p.within) in
        record {
          within = enough;
          runs =
              subst (λ bs. Runs (sampled_all what n offset bs ch₀ r₀) (ran.count + next.count) at out₀ (record { chain = next.chain; reader = next.reader; count = ran.count + next.count; at = next.at }) out')
              (sym both)
              (runs_more offset first then ch₀ r₀ low first_length count
              (omega (arith, ap length (sym both), length-take-le (ran.count + next.count) bytes enough))
              p.runs placed more);
        }

    pub playing_some : offset < 2 ^ 64 → {place : ℕ} → place ≡ offset_at offset ran.count → {next : Ran} {out' : List ℕ}
        → RunsSome what n place (take (length bytes - ran.count) (drop ran.count bytes)) ran.chain ran.reader ran.at out next out'
        → Playing offset bytes ch₀ r₀ at out₀ (record { chain = next.chain; reader = next.reader; count = ran.count + next.count; at = next.at }) out'
    playing_some low {place} placed {next} {out'} made =
        let some = subst (λ rest. RunsSome what n place rest ran.chain ran.reader ran.at out next out') (rest_all ran.count bytes) made in
        playing_more low placed some.within some.runs
