-- The lines of a tally, seen from the places of the code that writes them.
--     chip_bytes, chip_length                           a chip's line
--     code_bytes, code_room                             a code's
--     end_room                                         a refusal's
--     chips_fit, codes_fit, end_fits, prints_so        the three parts of the whole, put one after another
--     printed_room, prints_counts                      the whole always fits, and the answer counts bytes at the array's front
-- Assumes nothing.
use mathlib.Core.Path.{◌≡◌, sym, subst}
use mathlib.Core.List.{List, ◌∷◌, ◌++◌}
use Prim.Native.Nat.{ℕ, ◌+◌, ◌*◌, ◌≤◌}
use native.Mathlib.Omega.{arith}
use lib.Dec.{eqb}
use lib.ListN.{length, take, length-append}
use Rattle.base.specs.Lent.{Counts}
use Rattle.base.specs.Refusals.{Told, done, refused, tells}
use Rattle.base.proofs.Lent.{laid_counts}
use Rattle.base.proofs.Picks.{pick_cases}
use Rattle.lines.specs.Answers.{Puts}
use Rattle.lines.specs.Lines.{lines_at, eight_bytes}
use Rattle.lines.proofs.Each.{lines_room, front_many}
use Rattle.lines.proofs.Puts.{eight_of, line_for_length, puts_room, puts_both}
use Rattle.chain.specs.Chain.{most}
use Rattle.capture.specs.Law.{end_line}
use Rattle.capture.proofs.Reported.{refusal_length}
use Rattle.tallies.specs.declared.Counts.{Counts as Four}
use Rattle.tallies.specs.declared.Tally.{Tally}
use Rattle.tallies.specs.Printed.{chip_line, code_line, tally_lines, printed_of, Prints}
use Rattle.std.specs.declared.result.Result.{Result}
use Rattle.base.specs.declared.Refusal.{Refusal}

-- ---- one line

abbrev pub chip_bytes : ℕ → List ℕ → List ℕ → List ℕ → List ℕ → List ℕ
chip_bytes k a b d e = 0x13 ∷ k ∷ (eight_of a ++ eight_of b ++ eight_of d ++ eight_of e)

abbrev pub code_bytes : ℕ → List ℕ → List ℕ
code_bytes code a = 0x14 ∷ code ∷ eight_of a

pub chip_length : (k : ℕ) (c : Four) → length (chip_line k c) ≡ 69
chip_length k c = line_for_length (chip_bytes k (eight_bytes c.recorded) (eight_bytes c.read) (eight_bytes c.overwritten) (eight_bytes c.cleared))

pub code_room : (code count : ℕ) → length (code_line code count) ≤ 21
code_room code count =
    pick_cases (λ piece. length piece ≤ 21) (eqb count 0) (λ _. omega arith) (λ _. omega (arith, line_for_length (code_bytes code (eight_bytes count))))

pub end_room : (t : Told (Unit {0})) → length (end_line t) ≤ 13
end_room (done u) = omega arith
end_room (refused number line) = omega (arith, refusal_length number line)

-- ---- the whole

-- the chips' lines
abbrev chips_of : Tally → List ℕ
chips_of t = lines_at chip_line 0 (take t.largest t.chips)

-- and the codes'
abbrev codes_of : Tally → List ℕ
codes_of t = lines_at code_line 0 t.codes

module _ (t : Tally) (end : Result (Unit {0}) Refusal) (out : List ℕ) (room : length (printed_of t end) ≤ length out) where
  fits : 0 + length (tally_lines t ++ end_line (tells end)) ≤ length out
  unfolding printed_of
  fits = omega (arith, room)

  both_fit : 0 + length (tally_lines t) ≤ length out
  both_fit = omega (arith, fits, length-append (tally_lines t) (end_line (tells end)))

  pub chips_fit : 0 + length (chips_of t) ≤ length out
  chips_fit = omega (arith, both_fit, length-append (chips_of t) (codes_of t))

  module _ {r : ℕ} {out' : List ℕ} (first : Puts (chips_of t) 0 out r out') where
    pub codes_fit : r + length (codes_of t) ≤ length out'
    codes_fit = puts_room (chips_of t) (codes_of t) both_fit first

    module _ {s : ℕ} {out'' : List ℕ} (second : Puts (codes_of t) r out' s out'') where
      both : Puts (tally_lines t) 0 out s out''
      both = puts_both (chips_of t) (codes_of t) both_fit first second

      pub end_fits : s + length (end_line (tells end)) ≤ length out''
      end_fits = puts_room (tally_lines t) (end_line (tells end)) fits both

      pub prints_so : {u : ℕ} {last : List ℕ} → Puts (end_line (tells end)) s out'' u last → Prints t end out u last
      unfolding printed_of
      prints_so third =
          let whole = puts_both (tally_lines t) (end_line (tells end)) fits both third in
          record { count = omega (arith, whole.answer); bytes = whole.bytes }

pub printed_room : (t : Tally) (end : Result (Unit {0}) Refusal) → length t.chips ≡ most → length t.codes ≡ 128
    → length (printed_of t end) ≤ 69 * most + 21 * 128 + 13
unfolding printed_of
printed_room t end c d =
    let few : length (take t.largest t.chips) ≤ most = front_many t.largest t.chips most (omega arith) in
    omega (
      arith,
      length-append (tally_lines t) (end_line (tells end)),
      length-append (chips_of t) (codes_of t),
      lines_room chip_line 69 (λ k x. omega (arith, chip_length k x)) 0 (take t.largest t.chips),
      lines_room code_line 21 code_room 0 t.codes,
      end_room (tells end),
    )

pub prints_counts : {t : Tally} {end : Result (Unit {0}) Refusal} {out : List ℕ} {r : ℕ} {out' : List ℕ} → length (printed_of t end) ≤ length out
    → Prints t end out r out'
    → Counts r out'
prints_counts {t} {end} {out} {r} {out'} room p =
    subst (λ n. Counts n out') (sym p.count) (subst (λ xs. Counts (length (printed_of t end)) xs) (sym p.bytes) (laid_counts out (printed_of t end) room))
