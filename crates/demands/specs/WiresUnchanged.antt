-- The first demand for the CH450 and its texts: "a refusal changes no chip and no byte of a lent buffer". Of every entry, by its contract
-- alone, as in specs/Unchanged.antt.
--     WiresRefused                      what a refused text of two wires leaves in the lent array
--     Leaves                            what a refused function of the library leaves of an array lent to it
--     TwoWiresRefusalsChangeNothing     the statement, entry by entry
-- Assumes nothing.
use Rattle.std.specs.Prelude.{◌≡◌, List, [], ◌∷◌, ◌++◌, ℕ, suc, length, get_or, take, drop}
use Rattle.base.specs.Refusals.{refused, tells, handed}
use Rattle.capture.specs.declared.Replayed.{Replayed}
use Rattle.capture.specs.Reports.{refusal_line}
use Rattle.ch450.specs.declared.Command.{Command}
use Rattle.ch450.specs.declared.Panel.{Panel}
use Rattle.ch450.specs.Entries.{applied_of, segments_of, sampled_of, played_of}
use Rattle.ch450.specs.Panel.{dark}
use Rattle.ch450.specs.Written.{Writes}
use Rattle.wires.specs.declared.Report.{Report}
use Rattle.wires.specs.declared.Report.TheVariants.{Commands, Screen}
use Rattle.wires.specs.Replay.{Replays}
use Rattle.zhaqsumir.specs.TwoWires.{ch450_word, Ch450Writes, Ch450Plays, ch450_lit}
use Rattle.demands.specs.Unchanged.{HandsBack, Refuses}
use Rattle.demands.specs.WiresTexts.{wires_before}
use Rattle.std.specs.declared.result.Result.{Result}
use Rattle.base.specs.declared.Refusal.{Refusal}
use Rattle.base.specs.declared.Handed.{Handed}
use Rattle.std.specs.declared.option.Option.{Option}

-- of a text that is refused at a line: at the array's front what earlier lines wrote, which stands, and the refusal's line; so many bytes
-- are counted, and the rest of the array is as it was
pub record WiresRefused (what : Report) (text out out' : List ℕ) (number line bytes : ℕ) : Type 0 where
  pub front : take bytes out' ≡ wires_before what text line ++ refusal_line number line
  pub counted : bytes ≡ length (wires_before what text line ++ refusal_line number line)
  pub rest : drop bytes out' ≡ drop bytes out

-- of `wires::replay` and `wires::screen`
abbrev pub WiresKept : Report → Type 0
WiresKept what =
    (text out out' : List ℕ) (r : Replayed) → Replays what text out r out'
    → (number line : ℕ) → tells r.answer ≡ refused number line
    → WiresRefused what text out out' number line r.bytes

-- where an answer by numbers tells a refusal, its last number is 0, and the array lent is as it was
abbrev pub Leaves : List ℕ → List ℕ → List ℕ → Type 0
Leaves answer lent lent' = Refuses answer (0 ∷ []) × ((number : ℕ) → get_or answer 0 0 ≡ suc number → lent' ≡ lent)

-- a refusal changes no panel and no byte of a lent buffer
pub record TwoWiresRefusalsChangeNothing : Type 0 where
  -- the panel handed back is the one given; no segment is lit
  pub apply : (p : Panel) (command : Command) (r : Handed Panel (Unit {0})) → handed r ≡ applied_of p command → HandsBack (handed r) p
  pub segments : (p : Panel) (r : Handed (List ℕ) (Unit {0})) → handed r ≡ segments_of p → HandsBack (handed r) dark
  pub sample : (p : Panel) (key s : ℕ) (r : Handed Panel (Option ℕ)) → handed r ≡ sampled_of p key s → HandsBack (handed r) p
  pub play : (p : Panel) (key : ℕ) (samples : List ℕ) (r : Handed Panel ℕ) → handed r ≡ played_of p key samples → HandsBack (handed r) p
  -- the writer: every byte of the lent buffer is as it was
  pub write : (ws out out' : List ℕ) (r : Result ℕ Refusal) → Writes ws out r out'
      → (number place : ℕ) → tells r ≡ refused number place → out' ≡ out
  -- a text: what earlier lines wrote stands, the refusal's line follows, and the rest of the array is as it was
  pub replay : WiresKept Commands
  pub screen : WiresKept Screen
  -- the library's four functions: zeros after the refusal's number and place; the buffer, and the panel's 14 numbers, are those lent
  pub library_encode : (command answer : List ℕ) → answer ≡ ch450_word command → Refuses answer (0 ∷ [])
  pub library_write : (words out answer out' : List ℕ) → Ch450Writes words out answer out' → Leaves answer out out'
  pub library_play : (ns : List ℕ) (key : ℕ) (samples answer ns' : List ℕ) → Ch450Plays ns key samples answer ns' → Leaves answer ns ns'
  pub library_lit : (ns answer : List ℕ) → answer ≡ ch450_lit ns → Refuses answer (0 ∷ 0 ∷ 0 ∷ 0 ∷ 0 ∷ 0 ∷ [])
