-- CH450 commands and panels as numbers, and which number stands where in the answers of the four functions for a CH450. Answers are as
-- in specs/Numbers.antt; a panel is lent as 14 numbers: levels, running, rises, bits, SLEEP, INTENS, KEYB, DISP, DIG2 to DIG7.
-- Assumes nothing.
use Rattle.std.specs.Prelude.{◌≡◌, ℕ, Bool, List, [], ◌∷◌, eqb, leb, get_or}
use Rattle.base.specs.Below.{below}
use Rattle.base.specs.Bits.{bit_value}
use Rattle.base.specs.Pick.{pick}
use Rattle.base.specs.Refusals.{Told, done, refused, Outcome, hands_back}
use Rattle.ch450.specs.declared.Command.{Command}
use Rattle.ch450.specs.declared.Command.TheVariants.{Parameters, LoadDigit, ReadKey}
use Rattle.ch450.specs.declared.Panel.{Panel}
use Rattle.ch450.specs.Commands.{encoded_of}
use Rattle.ch450.specs.Entries.{segments_of, played_of}
use Rattle.ch450.specs.Panel.{dark}
use Rattle.ch450.specs.Written.{written, answer_of, bytes_by}
use Rattle.zhaqsumir.specs.Commands.{fits}
use Rattle.zhaqsumir.specs.Numbers.{number_in, place_in, alone}
use Rattle.std.specs.declared.option.Option.{Option}
use Rattle.std.specs.declared.option.Option.TheVariants.{Some, None}

-- ---- encode: a kind and four fields, to number, place, word

-- kind 0, parameters: SLEEP, INTENS, KEYB, DISP
abbrev pub parameters_from : ℕ → ℕ → ℕ → ℕ → Told Command
parameters_from a b c d =
    fits 1 a (fits 3 b (fits 1 c (fits 1 d (done (Parameters (record { sleep = eqb a 1; intens = b; keyb = eqb c 1; disp = eqb d 1 }))))))

-- kind 1, load digit: a digit and a byte; `encoded_of` has no word for DIG0 and DIG1
abbrev pub digit_from : ℕ → ℕ → Told Command
digit_from a b = fits 7 a (fits 255 b (done (LoadDigit a b)))

-- the command of a kind and four fields, kind 2 the read; a field that a kind lacks is not looked at
unfoldable pub command_from : ℕ → ℕ → ℕ → ℕ → ℕ → Told Command
command_from kind a b c d =
    pick (eqb kind 0) (parameters_from a b c d)
    (pick (eqb kind 1) (digit_from a b) (pick (eqb kind 2) (done ReadKey) (refused 9 0)))

-- the command of five numbers
abbrev pub command_in : List ℕ → Told Command
command_in ns = command_from (get_or ns 0 0) (get_or ns 1 0) (get_or ns 2 0) (get_or ns 3 0) (get_or ns 4 0)

-- what the code has of a command that is given
abbrev pub asked_tells : Option Command → Told Command
asked_tells (Some c) = done c
asked_tells None = refused 9 0

-- the word of a command that was given
abbrev pub word_by : Told Command → Told ℕ
word_by (done c) = encoded_of c
word_by (refused number place) = refused number place

-- what `zhaqsumir_ch450_encode` answers to a kind and four fields
abbrev pub ch450_word : List ℕ → List ℕ
ch450_word command = alone (word_by (command_in command))

-- ---- write: number, place, how many samples

-- what `zhaqsumir_ch450_write` does: its answer, and the buffer as the writer leaves it
pub record Ch450Writes (words out : List ℕ) (answer out' : List ℕ) : Type 0 where
  pub numbers : answer ≡ alone (answer_of words out)
  pub bytes : out' ≡ bytes_by (answer_of words out) (written words) out

-- ---- a panel as 14 numbers

-- the most that each of them can be
abbrev pub mosts : List ℕ
mosts = 3 ∷ 1 ∷ 20 ∷ 0x7FFFF ∷ 1 ∷ 3 ∷ 1 ∷ 1 ∷ 255 ∷ 255 ∷ 255 ∷ 255 ∷ 255 ∷ 255 ∷ []

-- the number at a place is no more than that
abbrev pub fits_at : List ℕ → ℕ → Bool
fits_at ns k = leb (get_or ns k 0) (get_or mosts k 0)

-- so is each number
abbrev pub fitting : List ℕ → Bool
fitting ns = below (fits_at ns) 14

-- the panel that they stand for
abbrev pub panel_of : List ℕ → Panel
panel_of ns =
    record {
      wires = record { levels = get_or ns 0 0; running = eqb (get_or ns 1 0) 1; rises = get_or ns 2 0; bits = get_or ns 3 0 };
      settings = record { sleep = eqb (get_or ns 4 0) 1; intens = get_or ns 5 0; keyb = eqb (get_or ns 6 0) 1; disp = eqb (get_or ns 7 0) 1 };
      digits = get_or ns 8 0 ∷ get_or ns 9 0 ∷ get_or ns 10 0 ∷ get_or ns 11 0 ∷ get_or ns 12 0 ∷ get_or ns 13 0 ∷ [];
    }

-- or refusal 12; whether a run can hold the panel is the function's own test
unfoldable pub panel_in : List ℕ → Told Panel
panel_in ns = pick (fitting ns) (done (panel_of ns)) (refused 12 0)

-- the numbers of a panel
abbrev pub panel_numbers : Panel → List ℕ
panel_numbers p =
    p.wires.levels
    ∷ bit_value p.wires.running
    ∷ p.wires.rises
    ∷ p.wires.bits
    ∷ bit_value p.settings.sleep
    ∷ p.settings.intens
    ∷ bit_value p.settings.keyb
    ∷ bit_value p.settings.disp
    ∷ p.digits

-- ---- play: number, place, how many times the key was read; the panel's numbers before and after

-- the numbers after a block, or those before it where it is refused
abbrev pub numbers_after : Told ℕ → Panel → List ℕ → List ℕ
numbers_after (done reads) after ns = panel_numbers after
numbers_after (refused number place) after ns = ns

-- a block that was played, told by numbers
abbrev pub played_by : Outcome Panel ℕ → List ℕ → Outcome (List ℕ) ℕ
played_by o ns = record { state = numbers_after o.told o.state ns; told = o.told }

-- the panel that was lent, and a block of samples
abbrev pub play_of : Told Panel → List ℕ → ℕ → List ℕ → Outcome (List ℕ) ℕ
play_of (done p) ns key samples = played_by (played_of p key samples) ns
play_of (refused number place) ns key samples = hands_back ns number place

-- what `zhaqsumir_ch450_play` does, where `ns` are the panel's numbers before it: its answer, and the panel's numbers
pub record Ch450Plays (ns : List ℕ) (key : ℕ) (samples : List ℕ) (answer ns' : List ℕ) : Type 0 where
  pub numbers : answer ≡ alone (play_of (panel_in ns) ns key samples).told
  pub panel : ns' ≡ (play_of (panel_in ns) ns key samples).state

-- ---- lit: number, place, six bytes of segments

-- the segments, zeros where refused
abbrev pub lit_by : Outcome (List ℕ) (Unit {0}) → List ℕ
lit_by o = number_in o.told ∷ place_in o.told ∷ o.state

-- of the panel that was lent
abbrev pub lit_from : Told Panel → List ℕ
lit_from (done p) = lit_by (segments_of p)
lit_from (refused number place) = lit_by (hands_back dark number place)

-- what `zhaqsumir_ch450_lit` answers
abbrev pub ch450_lit : List ℕ → List ℕ
ch450_lit ns = lit_from (panel_in ns)
