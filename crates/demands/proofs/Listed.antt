-- Listed words, by the words of commands: what the decoder refuses is what no command has, and what turns the keypad on is a system
-- word with KEYB 1.
--     decoded_table      6: a word's meaning is told exactly when it is listed and not above 4,095
--     own_word           a listed word without x bits is its command's word
--     keypad_tests       7: of a word that means a command
-- Assumes nothing.
use mathlib.Core.Path.{◌≡◌, refl, ap, sym, subst, ◌∙◌}
use mathlib.Core.Bool.{Bool, true, false, not, ◌&&◌, ◌||◌}
use mathlib.Core.Logic.{inl, inr}
use Prim.Native.Nat.{ℕ, ◌-◌, ◌/◌, ◌%◌, ◌^◌, ◌<◌}
use native.Mathlib.Omega.{arith}
use lib.Dec.{T, eqb, eqb→eq}
use Rattle.base.specs.Below.{below}
use Rattle.base.specs.Pick.{pick}
use Rattle.base.specs.Refusals.{Told, IsDone, done, refused}
use Rattle.base.proofs.Cuts.{bit_value_lt}
use Rattle.base.proofs.Tests.{at_below, by_order, and_left, and_right, is_true}
use Rattle.word.specs.declared.System.{System}
use Rattle.word.specs.declared.Command.{Command}
use Rattle.word.specs.declared.Command.TheVariants.{NoOperation, BarLevel, SegmentClear, SegmentSet, Reset, Sleep, ShiftLeft, ShiftRight, RotateLeft, RotateRight, CustomCharacter, SystemParameters, DisplayParameters, BlinkByte, ReadKey, LoadDigit}
use Rattle.word.specs.Words.{decoded_of, word_of, plain, unlisted}
use Rattle.word.proofs.Rows.{above_unlisted}
use Rattle.word.proofs.RoundTrips.{command_back, word_back, meaning_legal, listed}
use Rattle.writer.specs.Rows.{keypad_on, for_last}
use Rattle.demands.specs.Refusals.{Listed, Unlisted, KeypadWord, KeypadBeforeLast}
use Rattle.demands.specs.Tables.{decode_table}
use Rattle.demands.proofs.Conditions.{Tests, passed, failed, eqb_tests, legal_tests}
use Rattle.demands.proofs.ByTable.{ByTable, answered, here, later}

-- ---- what a test says

holds_not : {G : Type 0} {b : Bool} → Tests G b → T b → G → ⊥
holds_not (passed n) t = n
holds_not (failed g) t = absurd t

not_holds : {G : Type 0} {b : Bool} → Tests G b → (G → ⊥) → T b
not_holds (passed n) f = tt
not_holds (failed g) f = f g

-- a test that every word below 4,096 passes, said of one of them
at_words : (f : ℕ → Told Command → Bool) → T (below (λ w. f w (decoded_of w)) 4096) → (w : ℕ) → w < 4096 → T (f w (decoded_of w))
at_words f t w h = at_below (λ k. f k (decoded_of k)) 4096 t w h

-- ---- 6

-- every refusal is 6, and names no place
abbrev sixes : Told Command → Bool
sixes (done c) = true
sixes (refused number place) = eqb number 6 && eqb place 0

all_sixes : (w number place : ℕ) → decoded_of w ≡ refused number place → ◌≡◌ {A = Told Command} (refused number place) unlisted
unfolding decoded_of
all_sixes w number place e =
    by_order 4096 w (λ h. sym e ∙ above_unlisted w h)
    (λ h.
    let t = subst (λ o. T (sixes o)) e (at_words (λ k o. sixes o) tt w h) in
    let m = eqb→eq number 6 (and_left (eqb number 6) (eqb place 0) t) in
    let p = eqb→eq place 0 (and_right (eqb number 6) (eqb place 0) t) in
    cc)

-- a word whose x bits don't matter
plain_listed : (w : ℕ) (c : Command) → w < 4096 → decoded_of (plain w) ≡ done c → T (listed (decoded_of w))
unfolding decoded_of plain
plain_listed w c h e =
    implied (listed (decoded_of (plain w))) (listed (decoded_of w))
    (at_words (λ k o. not (listed (decoded_of (plain k))) || listed o) tt w h)
    (subst (λ o. T (listed o)) (sym e) tt)
  where
    implied : (a b : Bool) → T (not a || b) → T a → T b
    implied true b t u = t
    implied false b t u = absurd u

-- a word of a command isn't refused
not_refused : (w number place : ℕ) → w < 4096 → decoded_of w ≡ refused number place → Listed w → ⊥
not_refused w number place h e l =
    let c = l.0 in
    let back = command_back c (not_holds (legal_tests c) l.1) in
    subst (λ o. T (listed o)) e (plain_listed w c h (ap decoded_of (sym l.2) ∙ back))

pub decoded_table : (w : ℕ) → ByTable (decoded_of w) (decode_table w)
decoded_table w = go (decoded_of w) refl
  where
    listed_one : (c : Command) → decoded_of w ≡ done c → Unlisted w → ⊥
    listed_one c e (inl n) = n (c, holds_not (legal_tests c) (meaning_legal w c e), word_back w c e)
    listed_one c e (inr h) = subst IsDone (sym e ∙ above_unlisted w h) tt

    go : (t : Told Command) → decoded_of w ≡ t → ByTable t (decode_table w)
    go (done c) e = later (listed_one c e) (answered tt)
    go (refused number place) e =
        here (by_order 4096 w (λ h. inr h) (λ h. inl (not_refused w number place h e))) (all_sixes w number place e)

-- ---- words without x bits

-- a word that isn't one of those with x bits is its own plain word
pub own_word : (w : ℕ) (c : Command) → decoded_of w ≡ done c → (word_of c ≡ 0 → ⊥) → (word_of c ≡ 0x700 → ⊥) → word_of c ≡ w
unfolding plain
own_word w c e no_0 no_7 = go (eqb (w / 2 ^ 8) 0) (eqb (w / 2 ^ 8) 7) (word_back w c e)
  where
    go : (a b : Bool) → word_of c ≡ pick a 0 (pick b 0x700 w) → word_of c ≡ w
    go true b q = absurd (no_0 q)
    go false true q = absurd (no_7 q)
    go false false q = q

pub system_own : (w : ℕ) (s : System) → decoded_of w ≡ done (SystemParameters s) → word_of (SystemParameters s) ≡ w
system_own w s e =
    let i = bit_value_lt s.intm in
    let p = bit_value_lt s.sspd in
    let l = bit_value_lt s.dplr in
    let k = bit_value_lt s.keyb in
    let d = bit_value_lt s.disp in
    own_word w (SystemParameters s) e (λ q. omega arith) (λ q. omega arith)

-- ---- 7

-- a command that turns the keypad on is one of system parameters
system_only : (w : ℕ) (c : Command) → T (keypad_on c) → decoded_of w ≡ done c → KeypadWord w
system_only w NoOperation k e = absurd k
system_only w (BarLevel level) k e = absurd k
system_only w (SegmentClear addr) k e = absurd k
system_only w (SegmentSet addr) k e = absurd k
system_only w Reset k e = absurd k
system_only w Sleep k e = absurd k
system_only w ShiftLeft k e = absurd k
system_only w ShiftRight k e = absurd k
system_only w RotateLeft k e = absurd k
system_only w RotateRight k e = absurd k
system_only w (CustomCharacter shape) k e = absurd k
system_only w (SystemParameters s) k e = (s, is_true s.keyb k, system_own w s e)
system_only w (DisplayParameters d) k e = absurd k
system_only w (BlinkByte byte) k e = absurd k
system_only w ReadKey k e = absurd k
system_only w (LoadDigit dig byte) k e = absurd k

-- a word of such a command is one that turns the keypad on
keypad_back : (w : ℕ) (c : Command) → decoded_of w ≡ done c → KeypadWord w → keypad_on c ≡ true
keypad_back w c e y =
    let s = y.0 in
    let back = command_back (SystemParameters s) tt in
    let same : SystemParameters s ≡ c = inner (sym back ∙ ap decoded_of y.2 ∙ e) in
    ap keypad_on (sym same) ∙ y.1
  where
    inner : {d : Command} → done d ≡ done c → d ≡ c
    inner q = cc

pub keypad_tests : (n place w : ℕ) (c : Command) → decoded_of w ≡ done c
    → Tests (KeypadBeforeLast n place w) (not (keypad_on c && not (for_last n place)))
keypad_tests n place w c e = go (keypad_on c) (for_last n place) refl (eqb_tests (place % n) (n - 1))
  where
    go : (k f : Bool) → keypad_on c ≡ k → Tests (place % n ≡ n - 1 → ⊥) f → Tests (KeypadBeforeLast n place w) (not (k && not f))
    go true true q (passed p) = passed (λ y. p y.1)
    go true false q (failed p) = failed (system_only w c (subst T (sym q) tt) e, p)
    go false f q t = passed (λ y. subst T (sym (keypad_back w c e y.0) ∙ q) tt)
