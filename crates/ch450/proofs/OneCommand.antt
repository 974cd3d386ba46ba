-- One command's 40 samples, from idle lines, whatever ran before: a start, 19 bits taken, and the stop that completes it.
--     command_is, front_length         the samples: the start, the 19 bits, in all 39 samples, and the stop
--     command_below                    each of the 40 is at most 3
--     front_silent, front_moved        the first 39 complete no command, and leave its 19 bits
--     stop_means                       at the stop they mean what the word means
--     command_plays                    the lines are idle again, and the command is obeyed
--     front_played                     before the stop the wires alone have moved
--     command_reads                    the key is read exactly where the word reads it
--     command_unread                   a command that the writer takes reads no key
-- Assumes nothing.
use mathlib.Core.Path.{◌≡◌, refl, ap, ap₂, subst, sym, ◌∙◌}
use mathlib.Core.Bool.{Bool, true, false, ◌||◌, false≢true}
use mathlib.Core.List.{List, [], ◌∷◌, ◌++◌}
use Prim.Native.Nat.{ℕ, ◌+◌, ◌*◌, ◌%◌, ◌^◌, ◌<◌}
use native.Mathlib.Nat.{add-zero, zero-mul, mod-eq_of_lt}
use native.Mathlib.Omega.{arith}
use lib.Dec.{eqb, lit<}
use lib.ListN.{length}
use Rattle.base.specs.Below.{AllBelow}
use Rattle.base.specs.Bits.{cut, bit_value}
use Rattle.base.specs.Pick.{pick}
use Rattle.base.proofs.Cuts.{cut_lt}
use Rattle.base.proofs.Picks.{pick_yes}
use Rattle.base.proofs.Tests.{eq_below}
use Rattle.base.proofs.Lists.{below_append}
use Rattle.ch450.specs.declared.Panel.{Panel}
use Rattle.ch450.specs.declared.Wires.{Wires}
use Rattle.ch450.specs.declared.Command.TheVariants.{Parameters, LoadDigit, ReadKey}
use Rattle.ch450.specs.Edges.{idle, starts, stops, at_rest, begun, stepped, completes}
use Rattle.ch450.specs.Panel.{with_wires}
use Rattle.ch450.specs.Commands.{settings_of, is_digit_byte, meaning_of, word_means, told_at, is_read, obeyed}
use Rattle.ch450.specs.Samples.{stepped_panel, played, reads_in}
use Rattle.ch450.specs.Written.{byte_bits, clocking, command_samples, writable}
use Rattle.ch450.proofs.Silent.{Silent, moved, no_stop, silent_played, silent_reads, played_append, reads_append}
use Rattle.ch450.proofs.Clocking.{holding, entered, number, bits_silent, bits_taken, few_counted, entered_law, number_append}
use Rattle.std.specs.declared.option.Option.{Option}
use Rattle.std.specs.declared.option.Option.TheVariants.{Some, None}
use Rattle.ch450.specs.declared.Command.{Command}

-- the 19 bits that a command's rises take: both bytes with their acknowledges, and 0 at the rise for the stop
abbrev pub bits_of : ℕ → List ℕ
bits_of w = byte_bits (cut w 8 8) ++ byte_bits (cut w 0 8) ++ 0 ∷ []

-- the samples before the stop
abbrev pub front : ℕ → List ℕ
front w = 1 ∷ clocking (bits_of w)

-- ---- the samples

pub command_is : (w : ℕ) → command_samples w ≡ front w ++ 3 ∷ []
unfolding command_samples clocking byte_bits
command_is w = refl

pub front_length : (w : ℕ) → length (front w) ≡ 39
unfolding clocking byte_bits
front_length w = refl

-- a byte's bits are bits
byte_bits_below : (b : ℕ) → AllBelow 2 (byte_bits b)
unfolding byte_bits
byte_bits_below b =
    (cut_lt b 7 1, (cut_lt b 6 1, (cut_lt b 5 1, (cut_lt b 4 1, (cut_lt b 3 1, (cut_lt b 2 1, (cut_lt b 1 1, (cut_lt b 0 1, (lit< tt, tt)))))))))

-- so are all 19
bits_below : (w : ℕ) → AllBelow 2 (bits_of w)
bits_below w =
    below_append 2 (byte_bits (cut w 8 8) ++ byte_bits (cut w 0 8)) (0 ∷ [])
    (below_append 2 (byte_bits (cut w 8 8)) (byte_bits (cut w 0 8)) (byte_bits_below (cut w 8 8)) (byte_bits_below (cut w 0 8)))
    (lit< tt, tt)

-- bits clocked, and then more samples
clocking_below : (bs ss : List ℕ) → AllBelow 2 bs → AllBelow 4 ss → AllBelow 4 (clocking bs ++ ss)
unfolding clocking
clocking_below [] ss bits h = h
clocking_below (b ∷ bs) ss bits h = let low = bits.0 in (omega arith, (omega arith, clocking_below bs ss bits.1 h))

pub command_below : (w : ℕ) → AllBelow 4 (command_samples w)
command_below w = subst (AllBelow 4) (sym (command_is w)) (lit< tt, clocking_below (bits_of w) (3 ∷ []) (bits_below w) (lit< tt, tt))

-- ---- before the stop

-- the start drops what came before
start_drops : (w : Wires) → w.levels ≡ idle → stepped 1 w ≡ holding 0 0 0
unfolding stepped
start_drops w e = pick_yes (begun 1) _ (ap (λ l. starts l 1) e)

pub front_silent : (word : ℕ) (w : Wires) → w.levels ≡ idle → Silent (front word) w
unfolding Silent
front_silent word w e = (
  no_stop 1 w (ap (λ l. stops l 1) e),
  subst (Silent (clocking (bits_of word))) (sym (start_drops w e)) (bits_silent (bits_of word) 0 0 0 (bits_below word) (lit< tt)),
)

pub front_moved : (word : ℕ) (w : Wires) → w.levels ≡ idle → moved (front word) w ≡ holding 0 19 (entered 0 (bits_of word))
unfolding moved byte_bits
front_moved word w e =
    ap (moved (clocking (bits_of word))) (start_drops w e) ∙ bits_taken (bits_of word) 0 0 0 (bits_below word) (lit< tt)
    ∙ ap (λ n. holding 0 n (entered 0 (bits_of word))) (few_counted (bits_of word) 0 (lit< tt))

-- ---- at the stop

-- a byte's bits and its acknowledge, as one number
byte_number : (b : ℕ) → b < 256 → number (byte_bits b) ≡ 2 * b + 1
unfolding number byte_bits
byte_number = eq_below (λ b. number (byte_bits b)) (λ b. 2 * b + 1) 256 tt

-- the 19 bits as one number, byte by byte
bits_parts : (f s : ℕ) → number (byte_bits f ++ byte_bits s ++ 0 ∷ []) ≡ number (byte_bits f) * 1024 + number (byte_bits s) * 2
unfolding number byte_bits
bits_parts f s =
    number_append (byte_bits f) (byte_bits s ++ 0 ∷ [])
    ∙ ap (λ n. number (byte_bits f) * 1024 + n) (number_append (byte_bits s) (0 ∷ []) ∙ add-zero (number (byte_bits s) * 2))

-- two bytes with their acknowledges, and 0
abbrev joined : ℕ → ℕ → ℕ
joined f s = 2048 * f + 1024 + 4 * s + 2

-- they are what the 19 bits make
joined_bits : (f s : ℕ) → f < 256 → s < 256 → entered 0 (byte_bits f ++ byte_bits s ++ 0 ∷ []) ≡ joined f s
joined_bits f s h l =
    entered_law bs 0 (lit< tt)
    ∙ ap (λ n. n % 2 ^ 19) same
    ∙ mod-eq_of_lt fits
  where
    bs : List ℕ
    bs = byte_bits f ++ byte_bits s ++ 0 ∷ []

    same : 0 * 2 ^ length bs + number bs ≡ joined f s
    same = omega (arith, zero-mul (2 ^ length bs), bits_parts f s, byte_number f h, byte_number s l)

    fits : joined f s < 2 ^ 19
    fits = omega arith

-- the bytes are cut out again
first_back : (f s : ℕ) → f < 256 → s < 256 → cut (joined f s) 11 8 ≡ f
first_back f s h l = omega arith

second_back : (f s : ℕ) → f < 256 → s < 256 → cut (joined f s) 2 8 ≡ s
second_back f s h l = omega arith

pub stop_means : (w : ℕ) → told_at 3 (holding 0 19 (entered 0 (bits_of w))) ≡ word_means w
unfolding told_at completes
stop_means w =
    ap (λ v. meaning_of (cut v 11 8) (cut v 2 8)) (joined_bits f s h l) ∙ ap₂ meaning_of (first_back f s h l) (second_back f s h l)
  where
    f : ℕ
    f = cut w 8 8

    s : ℕ
    s = cut w 0 8

    h : f < 256
    h = cut_lt w 8 8

    l : s < 256
    l = cut_lt w 0 8

-- ---- the whole

-- the panel before the stop: the wires alone have moved
pub front_played : (w : ℕ) (p : Panel) → p.wires.levels ≡ idle → played (front w) p ≡ with_wires (holding 0 19 (entered 0 (bits_of w))) p
front_played w p e = silent_played (front w) p (front_silent w p.wires e) ∙ ap (λ x. with_wires x p) (front_moved w p.wires e)

pub command_plays : (w : ℕ) (p : Panel) → p.wires.levels ≡ idle → played (command_samples w) p ≡ obeyed (word_means w) (with_wires (at_rest idle) p)
unfolding played stepped_panel stepped
command_plays w p e =
    ap (λ ss. played ss p) (command_is w)
    ∙ played_append (front w) (3 ∷ []) p
    ∙ ap (played (3 ∷ [])) (front_played w p e)
    ∙ ap (λ m. obeyed m (with_wires (at_rest idle) p)) (stop_means w)

pub command_reads : (w : ℕ) (p : Panel) → p.wires.levels ≡ idle → reads_in (command_samples w) p ≡ bit_value (is_read (word_means w))
unfolding reads_in
command_reads w p e =
    ap (λ ss. reads_in ss p) (command_is w)
    ∙ reads_append (front w) (3 ∷ []) p
    ∙ ap₂ (λ x y. x + y) (silent_reads (front w) p (front_silent w p.wires e))
    (ap (reads_in (3 ∷ [])) (front_played w p e) ∙ ap (λ m. bit_value (is_read m) + 0) (stop_means w))
    ∙ omega arith

-- parameters and digits read no key
writes_no_read : (first second : ℕ) → (eqb first 0x48 || is_digit_byte first) ≡ true → is_read (meaning_of first second) ≡ false
unfolding meaning_of
writes_no_read first second h = by_kind (eqb first 0x48) (is_digit_byte first) h
  where
    other : Option Command
    other = pick (eqb first 0x4F) (Some ReadKey) None

    by_kind : (a b : Bool) → (a || b) ≡ true
        → is_read (pick a (Some (Parameters (settings_of second))) (pick b (Some (LoadDigit (cut first 1 3) second)) other)) ≡ false
    by_kind true b e = refl
    by_kind false true e = refl
    by_kind false false e = absurd (false≢true e)

pub command_unread : (w : ℕ) (p : Panel) → p.wires.levels ≡ idle → writable w ≡ true → reads_in (command_samples w) p ≡ 0
command_unread w p e h = command_reads w p e ∙ ap bit_value (writes_no_read (cut w 8 8) (cut w 0 8) h)
