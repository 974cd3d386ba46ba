-- Document 02, C-15: the counterpart of demand 3 for one chip. From any valid record with idle lines and any commands that the writer
-- accepts, the written samples are played; in every beginning of them settings and digits are as if the commands whose stop has come had
-- been applied directly, each once and in order. proofs/Demanded.antt proves it: `each_once`. And the same of the entries: what one
-- wrote, the other plays: `write_then_play`.
-- Assumes nothing.
use Rattle.std.specs.Prelude.{◌≡◌, List, [], ◌∷◌, ℕ, suc, ◌*◌, ◌/◌, ◌%◌, ◌≤◌, T, length, take}
use Rattle.base.specs.Refusals.{Outcome, done}
use Rattle.ch450.specs.declared.Panel.{Panel}
use Rattle.ch450.specs.Edges.{idle}
use Rattle.ch450.specs.Panel.{valid, body_of}
use Rattle.ch450.specs.Commands.{word_means, obeyed}
use Rattle.ch450.specs.Samples.{played, reads_in}
use Rattle.ch450.specs.Entries.{played_of}
use Rattle.ch450.specs.Written.{written, list_test, answer_of, bytes_by}

-- words' commands applied directly, one after another
unfoldable pub applied_all : List ℕ → Panel → Panel
applied_all [] p = p
applied_all (w ∷ ws) p = applied_all ws (obeyed (word_means w) p)

-- what the written samples of a list do to a panel
pub record EachOnce (p : Panel) (ws : List ℕ) : Type 0 where
  -- in every beginning: a command's stop is the last of its 40 samples
  pub beginning : (n : ℕ) → n ≤ 40 * length ws → body_of (played (take n (written ws)) p) ≡ body_of (applied_all (take (n / 40) ws) p)
  -- at no other sample do they change
  pub still : (n : ℕ) → suc n ≤ 40 * length ws → (suc n % 40 ≡ 0 → ⊥)
      → body_of (played (take (suc n) (written ws)) p) ≡ body_of (played (take n (written ws)) p)
  -- no read is answered
  pub unread : (n : ℕ) → n ≤ 40 * length ws → reads_in (take n (written ws)) p ≡ 0
  -- at the end the lines are idle and the record valid again, so writes follow one another
  pub idle_again : (played (written ws) p).wires.levels ≡ idle
  pub valid_again : T (valid (played (written ws) p))
  -- and every command was obeyed
  pub whole : body_of (played (written ws) p) ≡ body_of (applied_all ws p)

-- from any valid record with idle lines, any commands that the writer accepts
abbrev pub Demand3 : Type 0
Demand3 = (p : Panel) (ws : List ℕ) → T (valid p) → p.wires.levels ≡ idle → list_test ws ≡ done tt → EachOnce p ws

-- ---- the entries

-- a list is written into a buffer, and then so many bytes at its front are played, with the code of a key
abbrev pub played_back : Panel → ℕ → List ℕ → List ℕ → ℕ → Outcome Panel ℕ
played_back p key ws out count = played_of p key (take count (bytes_by (answer_of ws out) (written ws) out))

-- what that comes to
pub record WrittenPlayed (p : Panel) (key : ℕ) (ws out : List ℕ) (count : ℕ) : Type 0 where
  -- nothing is refused, and the key is read 0 times
  pub unread : (played_back p key ws out count).told ≡ done 0
  -- every command was obeyed
  pub whole : body_of (played_back p key ws out count).state ≡ body_of (applied_all ws p)
  -- the lines are idle and the record valid again
  pub idle_again : (played_back p key ws out count).state.wires.levels ≡ idle
  pub valid_again : T (valid (played_back p key ws out count).state)

-- from any valid record with idle lines and any key code that is one, where as many samples were written
abbrev pub WriteThenPlay : Type 0
WriteThenPlay =
    (p : Panel) (key : ℕ) (ws out : List ℕ) (count : ℕ)
    → T (valid p) → p.wires.levels ≡ idle → key ≤ 127
    → answer_of ws out ≡ done count
    → WrittenPlayed p key ws out count
