-- Samples looked at ahead of the chain.
--     still_sampled                one sample that is no LOAD rise
--     no_end                       it isn't, and a bit is known
--     Watching, watching_start, watching_room, watching_more     the loop over such samples
--     none_written, one_alone      where there is none, nothing is written, and one sample is played
-- Assumes nothing.
use Rattle.std.proofs.Common.{◌≡◌, ℕ, zero, suc, ◌+◌, ◌-◌, ◌*◌, ◌%◌, ◌^◌, ◌<◌, ◌≤◌, Bool, true, false, ◌||◌, eqb, List, [], ◌∷◌, ◌++◌, length, get_or, take, drop, sym, refl, ap, ◌∙◌, subst, ap₂, true≢false, append-nil, add-one, arith, length-drop, take-suc}
use borrow.Author.Tests.{eqb-false}
use Rattle.base.specs.Lent.{placed}
use Rattle.base.proofs.Lent.{placed_none}
use Rattle.base.proofs.Lists.{rest_is}
use Rattle.base.proofs.Picks.{pick_no}
use Rattle.chip.specs.declared.Chip.{Chip}
use Rattle.chip.specs.Edges.{din, dclk_rises, load_rises, stepped}
use Rattle.chain.specs.declared.Chain.{Chain}
use Rattle.chain.specs.Chain.{most, chip_count, stepped_chain}
use Rattle.chain.specs.Stretch.{stretch_from}
use Rattle.chain.proofs.Rest.{row_length}
use Rattle.chain.proofs.Still.{Alike}
use Rattle.chain.proofs.Stretch.{ended}
use Rattle.lines.specs.Answers.{Puts}
use Rattle.capture.specs.declared.Report.{Report}
use Rattle.capture.specs.declared.Report.TheVariants.{Words}
use Rattle.capture.specs.Replay.{rises_in}
use Rattle.reads.specs.declared.ahead.Ahead.{Ahead}
use Rattle.reads.specs.declared.Looked.{Looked}
use Rattle.reads.specs.declared.Ran.{Ran}
use Rattle.reads.specs.declared.Reader.{Reader}
use Rattle.reads.specs.Notes.{note_line}
use Rattle.reads.specs.Parts.{sample_room, known_after, Runs, RunsSome, Looks}
use Rattle.reads.specs.Reads.{last_chip, look_at, looked, kept, sampled, sampled_all}
use Rattle.reads.specs.Till.{keypad_on}
use Rattle.reads.proofs.Bytes.{byte_alike, byte_rises, byte_step, stretch_one}
use Rattle.reads.proofs.Sampling.{offset_at, runs_one, Playing, playing_start, playing_room, playing_more}
use Rattle.reads.proofs.Shadows.{Shadow, shadow_start, shadow_last, shadow_look, kept_still}

pub still_sampled : (what : Report) (n offset b : ℕ) (ch : Chain) (r : Reader) → load_rises ch.levels (b % 8) ≡ false
    → {l : Looked} → l ≡ look_at n b ch r
    → {at : ℕ} {out : List ℕ} {end : ℕ} {out' : List ℕ} → Puts (note_line (n - 1) l.note) at out end out'
    → {after : Reader} → after ≡ kept ch.levels b offset (last_chip n (stepped_chain n (b % 8) ch)) l.reader
    → {next : Chain} → next ≡ stepped_chain n (b % 8) ch
    → Runs (sampled what n offset b ch r) 1 at out (record { chain = next; reader = after; count = 1; at = end }) out'
unfolding sampled rises_in
still_sampled what n offset b ch r still {l} looks {at} {out} {end} {out'} note {after} keeps {next} steps =
    let none : rises_in what n (b % 8 ∷ []) ch ≡ [] = ap (λ p. p ++ []) (pick_no _ _ still) in
    let line = note_line (n - 1) l.note in
    record {
      chain = steps;
      reader = keeps ∙ ap (λ (x : Looked). kept ch.levels b offset (last_chip n (stepped_chain n (b % 8) ch)) x.reader) looks;
      counts = refl;
      puts =
          subst (λ piece. Puts piece at out end out')
          (sym (append-nil line) ∙ ap₂ (λ (x : Looked) rises. note_line (n - 1) x.note ++ rises) looks (sym none))
          note;
    }

-- ---- the loop

neither : (a b : Bool) → (a || b) ≡ false → (a ≡ false) × (b ≡ false)
neither true b e = absurd (true≢false e)
neither false b e = (refl, e)

some_known : (known : ℕ) → eqb known 0 ≡ false → 1 ≤ known
some_known zero e = absurd (eqb-false 0 0 e refl)
some_known (suc known) e = omega arith

-- a sample that can be looked at ahead: a bit is known, and LOAD doesn't rise
pub no_end : (known : ℕ) (up : Bool) → (eqb known 0 || up) ≡ false → (1 ≤ known) × (up ≡ false)
no_end known up e = let both = neither (eqb known 0) up e in (some_known known both.0, both.1)

-- the chain is played by the bytes so far, and a chip stands for its last
pub record Watching (n offset : ℕ) (bytes : List ℕ) (ch₀ : Chain) (r₀ : Reader) (at : ℕ) (out₀ : List ℕ) (last : Chip) (a : Ahead) (known : ℕ) (out : List ℕ) : Type 0 where
  pub looks : Looks n offset bytes ch₀ r₀ at out₀ a out
  pub long : length looks.chain.chips ≡ most
  pub alike : Alike looks.chain.levels a.levels
  pub shadow : Shadow known last (last_chip n looks.chain)

pub watching_start : (n offset : ℕ) (bytes : List ℕ) (ch : Chain) (r : Reader) (at : ℕ) (out : List ℕ) {last : Chip} → length ch.chips ≡ most → last ≡ last_chip n ch
    → Watching n offset bytes ch r at out last (record { reader = r; count = 0; levels = ch.levels; at = at }) 12 out
unfolding stretch_from
watching_start n offset bytes ch r at out {last} long same =
    record {
      looks =
          record {
            within = omega arith;
            chain = ch;
            stretch = refl;
            runs = λ what. (playing_start what n offset bytes ch r at out).runs;
          };
      long = long;
      alike = record { clock = refl; rise = refl };
      shadow = subst (λ c. Shadow 12 c (last_chip n ch)) (sym same) (shadow_start (last_chip n ch));
    }

module _ {n offset : ℕ} {bytes : List ℕ} {ch₀ : Chain} {r₀ : Reader} {at : ℕ} {out₀ : List ℕ} {last : Chip} {a : Ahead} {known : ℕ} {out : List ℕ}
    (count : chip_count n ≡ true) (fits : at + sample_room * length bytes ≤ length out₀) (w : Watching n offset bytes ch₀ r₀ at out₀ last a known out) where
  -- the chain, with the levels kept
  abbrev now : Chain
  now = record { chips = w.looks.chain.chips; levels = a.levels }

  abbrev so_far : Ran
  so_far = record { chain = now; reader = a.reader; count = a.count; at = a.at }

  playing : (what : Report) → Playing what n offset bytes ch₀ r₀ at out₀ so_far out
  playing what = record { within = w.looks.within; runs = w.looks.runs what }

  pub watching_room : a.count < length bytes → a.at + sample_room ≤ length out
  watching_room more = omega (arith, playing_room Words n count fits (playing Words), length-drop a.count bytes)

  module _ (low : offset < 2 ^ 64) (more : a.count < length bytes) (some : 1 ≤ known) (still : load_rises a.levels (get_or bytes a.count 0 % 8) ≡ false) where
    abbrev b : ℕ
    b = get_or bytes a.count 0

    -- the chain played by one byte more
    abbrev then : Chain
    then = stepped_chain n b w.looks.chain

    steps : record { chips = then.chips; levels = b % 8 } ≡ stepped_chain n (b % 8) now
    steps = ap (λ cs. record { chips = cs; levels = b % 8 }) (byte_step n w.looks.chain.levels a.levels b w.looks.chain.chips w.alike)

    pub watching_more : {l : Looked} → l ≡ looked a.levels (b % 8) last a.reader
        → {end : ℕ} {out' : List ℕ} → Puts (note_line (n - 1) l.note) a.at out end out'
        → {place : ℕ} → place ≡ offset_at offset a.count
        → {after : Reader} → after ≡ kept a.levels b place last l.reader
        → {known' : ℕ} → known' ≡ known_after (keypad_on last) (dclk_rises a.levels (b % 8)) known
        → {last' : Chip} → last' ≡ stepped a.levels (b % 8) false last
        → Watching n offset bytes ch₀ r₀ at out₀ last' (record { reader = after; count = a.count + 1; levels = b % 8; at = end }) known' out'
    watching_more {l} look {end} {out'} note {place} placed {after} keeps {known'} knows {last'} moves =
        let here : take 1 (drop a.count bytes) ≡ b ∷ [] = ap (take 1) (rest_is bytes a.count 0 more) in
        let next : Ran = record { chain = record { chips = then.chips; levels = b % 8 }; reader = after; count = 1; at = end } in
        let one : (what : Report) → Runs (sampled_all what n place (take 1 (drop a.count bytes)) now a.reader) 1 a.at out next out' =
        λ what.
        subst (λ bs. Runs (sampled_all what n place bs now a.reader) 1 a.at out next out') (sym here)
        (runs_one what n place b now a.reader
        (still_sampled what n place b now a.reader still (look ∙ shadow_look a.levels (b % 8) last (last_chip n now) a.reader w.shadow) note
        (keeps ∙ kept_still a.levels b place last (last_chip n (stepped_chain n (b % 8) now)) l.reader still) steps)) in
        let playing' : (what : Report) → Playing what n offset bytes ch₀ r₀ at out₀ (record { chain = next.chain; reader = after; count = a.count + 1; at = end }) out' =
        λ what. playing_more what n count fits (playing what) low placed {next = next} (omega (arith, length-drop a.count bytes)) (one what) in
        record {
          looks =
              record {
                within = omega arith;
                chain = then;
                stretch =
                    ap (λ bs. stretch_from n 0 bs ch₀) (ap (λ m. take m bytes) (add-one a.count) ∙ take-suc bytes a.count 0 more)
                    ∙ stretch_one n 0 (take a.count bytes) b ch₀ w.looks.stretch (byte_rises w.looks.chain.levels a.levels b w.alike ∙ still)
                    ∙ ap (λ m. ended m then) (sym (add-one a.count));
                runs = λ what. (playing' what).runs;
              };
          long = row_length n w.looks.chain.levels b (din b) w.looks.chain.chips ∙ w.long;
          alike = byte_alike b;
          shadow =
              subst (λ k. Shadow k last' (last_chip n then)) (sym knows)
              (subst (λ c. Shadow (known_after (keypad_on last) (dclk_rises a.levels (b % 8)) known) c (last_chip n then)) (sym moves)
              (subst (λ (ch : Chain). Shadow (known_after (keypad_on last) (dclk_rises a.levels (b % 8)) known) (stepped a.levels (b % 8) false last) (last_chip n ch)) (sym steps)
              (shadow_last n (b % 8) now last count w.long still some w.shadow)));
        }

-- ---- what was looked at is played

module _ {n offset : ℕ} {bytes : List ℕ} {ch : Chain} {r : Reader} {at : ℕ} {out : List ℕ} {a : Ahead} {out' : List ℕ} (l : Looks n offset bytes ch r at out a out') where
  pub none_written : a.count ≡ 0 → out' ≡ out
  unfolding sampled_all
  none_written none =
      (l.runs Words).puts.bytes
      ∙ ap (λ m. placed at (sampled_all Words n offset (take m bytes) ch r).out out) none
      ∙ placed_none out at

  -- one sample
  pub one_alone : (what : Report) → 1 ≤ length bytes → a.count ≡ 0 → {ran : Ran} {out'' : List ℕ}
      → Runs (sampled what n offset (get_or bytes 0 0) ch r) 1 at out' ran out''
      → RunsSome what n offset bytes ch r at out ran out''
  one_alone what some none {ran} {out''} made =
      let here : take 1 bytes ≡ get_or bytes 0 0 ∷ [] = ap (take 1) (rest_is bytes 0 0 some) in
      let counts = made.counts in
      let one =
      subst (λ before. Runs (sampled what n offset (get_or bytes 0 0) ch r) 1 at before ran out'') (none_written none) made in
      record {
        some = omega arith;
        within = omega arith;
        runs =
            subst (λ m. Runs (sampled_all what n offset (take m bytes) ch r) m at out ran out'') (sym counts)
            (subst (λ bs. Runs (sampled_all what n offset bs ch r) 1 at out ran out'') (sym here) (runs_one what n offset (get_or bytes 0 0) ch r one));
      }
