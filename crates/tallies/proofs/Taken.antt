-- A line's samples and scans: counted where every count has room for so many, refused with 16 where one has not.
--     counted_line_lem, full_line      what a line leaves and tells
-- Assumes nothing.
use mathlib.Core.Path.{◌≡◌, ap, sym, ◌∙◌}
use mathlib.Core.Bool.{true, false}
use mathlib.Core.List.{List}
use Prim.Native.Nat.{ℕ}
use lib.ListN.{length}
use Rattle.base.specs.Refusals.{done, hands_back}
use Rattle.base.proofs.Picks.{pick_yes, pick_no}
use Rattle.chain.specs.Events.{Event}
use Rattle.tallies.specs.declared.walk.Counting.{Counting}
use Rattle.tallies.specs.Counted.{counted_events}
use Rattle.tallies.specs.Parts.{counting_after}
use Rattle.tallies.specs.Tallies.{fits}

module _ (n line : ℕ) (s : Counting) (es : List Event) where
  pub counted_line_lem : fits (length es) s.tally ≡ true → {after : Counting} → after ≡ counting_after n es s
      → record { state = after; told = done tt } ≡ counted_events n line s es
  counted_line_lem room e =
      ap (λ (x : Counting). record { state = x; told = done tt }) e
      ∙ sym (pick_yes (record { state = counting_after n es s; told = done tt }) (hands_back s 16 line) room)

  pub full_line : fits (length es) s.tally ≡ false → hands_back s 16 line ≡ counted_events n line s es
  full_line full = sym (pick_no (record { state = counting_after n es s; told = done tt }) (hands_back s 16 line) full)
