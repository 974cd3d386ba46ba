-- Which number stands where in the answers: a refusal's number and place by document 01 (0 and 0 where there is none), then the
-- answer's own numbers, zeros where it is refused; but a replay counts the bytes that it wrote either way, its refusal's line included,
-- and a tally stands in arrays of its own, before and after.
-- Assumes nothing.
use Rattle.std.specs.Prelude.{◌≡◌, ℕ, ◌+◌, ◌*◌, List, [], ◌∷◌, length, get_or}
use Rattle.base.specs.Lent.{laid}
use Rattle.base.specs.Refusals.{Told, done, refused}
use Rattle.word.specs.declared.Command.{Command}
use Rattle.word.specs.Words.{decoded_of, encoded_of}
use Rattle.chain.specs.Finder.{NextRise, rise_at, no_rise, found_of}
use Rattle.writer.specs.Rows.{written}
use Rattle.writer.specs.Written.{answer_of, bytes_by}
use Rattle.capture.specs.declared.Report.TheVariants.{Words}
use Rattle.capture.specs.Replay.{end_of, output_of}
use Rattle.tallies.specs.declared.Counts.{Counts}
use Rattle.tallies.specs.declared.Tally.{Tally}
use Rattle.tallies.specs.Counted.{counted_of}
use Rattle.zhaqsumir.specs.Commands.{numbers_of, command_in}

-- the number of a refusal; 0 where there is none
abbrev pub number_in {ℓ} : {A : Type ℓ} → Told A → ℕ
number_in (done answer) = 0
number_in (refused number place) = number

-- its place; 0 where there is none
abbrev pub place_in {ℓ} : {A : Type ℓ} → Told A → ℕ
place_in (done answer) = 0
place_in (refused number place) = place

-- ---- decode: number, place, kind, five fields

-- the command's numbers, or zeros
abbrev pub kind_and_fields : Told Command → List ℕ
kind_and_fields (done c) = numbers_of c
kind_and_fields (refused number place) = 0 ∷ 0 ∷ 0 ∷ 0 ∷ 0 ∷ 0 ∷ []

abbrev pub decode_by : Told Command → List ℕ
decode_by t = number_in t ∷ place_in t ∷ kind_and_fields t

-- what `zhaqsumir_decode` answers
abbrev pub decode_numbers : ℕ → List ℕ
decode_numbers word = decode_by (decoded_of word)

-- ---- encode and write: number, place, and the word or how many samples

-- the answer's one number, or 0
abbrev pub number_or0 : Told ℕ → ℕ
number_or0 (done n) = n
number_or0 (refused number place) = 0

abbrev pub alone : Told ℕ → List ℕ
alone t = number_in t ∷ place_in t ∷ number_or0 t ∷ []

-- the word of a command that was given
abbrev pub encoded_by : Told Command → Told ℕ
encoded_by (done c) = encoded_of c
encoded_by (refused number place) = refused number place

-- what `zhaqsumir_encode` answers to a kind and five fields
abbrev pub encode_numbers : List ℕ → List ℕ
encode_numbers command = alone (encoded_by (command_in command))

-- what `zhaqsumir_write` does: its answer, and the buffer as the writer leaves it
pub record WritesNumbers (n : ℕ) (words out : List ℕ) (answer out' : List ℕ) : Type 0 where
  pub numbers : answer ≡ alone (answer_of n words out)
  pub bytes : out' ≡ bytes_by (answer_of n words out) (written n words) out

-- ---- find: number, place, 1 where there is a rise, its place, how many samples were passed

-- 1 where there is a rise
abbrev pub is_rise : NextRise → ℕ
is_rise (rise_at place) = 1
is_rise no_rise = 0

-- its place, or 0
abbrev pub rise_place : NextRise → ℕ
rise_place (rise_at place) = place
rise_place no_rise = 0

abbrev pub find_by : Told (Unit {0}) → NextRise → ℕ → List ℕ
find_by t rise passed = number_in t ∷ place_in t ∷ is_rise rise ∷ rise_place rise ∷ passed ∷ []

-- what `zhaqsumir_find` answers
abbrev pub find_numbers : ℕ → List ℕ → List ℕ
find_numbers levels samples = let o = found_of levels samples in find_by o.told o.state.rise o.state.passed

-- ---- replay: number, line, how many bytes were written

abbrev pub replay_by : Told (Unit {0}) → ℕ → List ℕ
replay_by t bytes = number_in t ∷ place_in t ∷ bytes ∷ []

-- what `zhaqsumir_replay` does: its answer, and the array, with the output at its front
pub record ReplaysNumbers (text out : List ℕ) (answer out' : List ℕ) : Type 0 where
  pub numbers : answer ≡ replay_by (end_of text) (length (output_of Words text))
  pub bytes : out' ≡ laid (output_of Words text) out

-- ---- tally: number, line; and the tally lent as numbers: four counts for each chip, 128 tallies, the largest N

-- the counts of chip k: recorded, read, overwritten, cleared
abbrev pub chip_in : List ℕ → ℕ → Counts
chip_in numbers k =
    record { recorded = get_or numbers (4 * k) 0; read = get_or numbers (4 * k + 1) 0; overwritten = get_or numbers (4 * k + 2) 0; cleared = get_or numbers (4 * k + 3) 0 }

abbrev pub chips_in : List ℕ → List Counts
chips_in numbers =
    chip_in numbers 0 ∷ chip_in numbers 1 ∷ chip_in numbers 2 ∷ chip_in numbers 3 ∷ chip_in numbers 4 ∷ chip_in numbers 5 ∷ chip_in numbers 6 ∷ chip_in numbers 7 ∷ []

-- and their numbers
abbrev pub chip_numbers : List Counts → List ℕ
chip_numbers [] = []
chip_numbers (c ∷ cs) = c.recorded ∷ c.read ∷ c.overwritten ∷ c.cleared ∷ chip_numbers cs

-- the tally that numbers stand for
abbrev pub tally_in : List ℕ → List ℕ → ℕ → Tally
tally_in chips codes largest = record { chips = chips_in chips; codes = codes; largest = largest }

-- what `zhaqsumir_tally` does, where `cs`, `ts` and `n` are the tally's numbers before it: its answer, and the numbers of the tally after the text
pub record TalliesNumbers (text cs ts : List ℕ) (n : ℕ) (answer cs' ts' : List ℕ) (n' : ℕ) : Type 0 where
  pub numbers : answer ≡ number_in (counted_of (tally_in cs ts n) text).told ∷ place_in (counted_of (tally_in cs ts n) text).told ∷ []
  pub chips : cs' ≡ chip_numbers (counted_of (tally_in cs ts n) text).state.chips
  pub codes : ts' ≡ (counted_of (tally_in cs ts n) text).state.codes
  pub largest : n' ≡ (counted_of (tally_in cs ts n) text).state.largest
