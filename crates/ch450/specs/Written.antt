-- Document 02, C-15: the samples that commands are written as, the lists that are accepted, and the writer's entry, refusals and all.
-- Assumes nothing.
use Rattle.std.specs.Prelude.{◌≡◌, ℕ, suc, ◌+◌, ◌*◌, Bool, ◌||◌, List, [], ◌∷◌, ◌++◌, eqb, leb, length}
use Rattle.base.specs.Bits.{cut}
use Rattle.base.specs.Lent.{laid}
use Rattle.base.specs.Pick.{pick}
use Rattle.base.specs.Refusals.{Told, done, refused, tells}
use Rattle.ch450.specs.Commands.{is_digit_byte}
use Rattle.std.specs.declared.result.Result.{Result}
use Rattle.base.specs.declared.Refusal.{Refusal}

-- ---- samples

-- a byte's bits, highest first, and its acknowledge, 1
unfoldable pub byte_bits : ℕ → List ℕ
byte_bits b =
    cut b 7 1 ∷ cut b 6 1 ∷ cut b 5 1 ∷ cut b 4 1 ∷ cut b 3 1 ∷ cut b 2 1 ∷ cut b 1 1 ∷ cut b 0 1 ∷ 1 ∷ []

-- a bit is two samples, 2b and 2b + 1: SCL low and SCL high
unfoldable pub clocking : List ℕ → List ℕ
clocking [] = []
clocking (b ∷ bs) = (2 * b) ∷ (2 * b + 1) ∷ clocking bs

-- a command is 40 samples: 1, then the 18 bits, then 0, 1, 3
unfoldable pub command_samples : ℕ → List ℕ
command_samples w = 1 ∷ (clocking (byte_bits (cut w 8 8)) ++ clocking (byte_bits (cut w 0 8)) ++ 0 ∷ 1 ∷ 3 ∷ [])

-- commands one after another
unfoldable pub written : List ℕ → List ℕ
written [] = []
written (w ∷ ws) = command_samples w ++ written ws

-- ---- which lists are accepted

-- a parameter or digit command, by its byte 1
abbrev pub writable : ℕ → Bool
writable w = eqb (cut w 8 8) 0x48 || is_digit_byte (cut w 8 8)

-- 9 at the lowest place of a word that is neither
unfoldable pub words_from : ℕ → List ℕ → Told (Unit {0})
words_from place [] = done tt
words_from place (w ∷ ws) = pick (writable w) (words_from (suc place) ws) (refused 9 place)

-- the list is accepted, whatever the buffer: refusals 5 (over 64 commands), 9
unfoldable pub list_test : List ℕ → Told (Unit {0})
list_test ws = pick (leb (length ws) 64) (words_from 0 ws) (refused 5 0)

-- ---- the entry

-- the list's own refusal, or 8 where the buffer is shorter than the samples, or their number
abbrev pub answer_by : Told (Unit {0}) → ℕ → ℕ → Told ℕ
answer_by (refused number place) need have = refused number place
answer_by (done u) need have = pick (leb need have) (done need) (refused 8 0)

-- the answer: refusals 5, 9, 8
unfoldable pub answer_of : List ℕ → List ℕ → Told ℕ
answer_of ws out = answer_by (list_test ws) (40 * length ws) (length out)

-- the buffer: the written samples at its front, or as it was where the list is refused
abbrev pub bytes_by : Told ℕ → List ℕ → List ℕ → List ℕ
bytes_by (refused number place) samples out = out
bytes_by (done count) samples out = laid samples out

-- what `write` does: its answer, and the buffer after it
pub record Writes (words out : List ℕ) (r : Result ℕ Refusal) (out' : List ℕ) : Type 0 where
  pub answer : tells r ≡ answer_of words out
  pub bytes : out' ≡ bytes_by (answer_of words out) (written words) out
