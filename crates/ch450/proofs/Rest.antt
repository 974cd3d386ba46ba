-- What is left of samples: each definition by recursion on them, seen from a place in their middle. A loop's invariant says that the
-- definition on the rest, with what was done before it, is the definition on the whole.
--     play_more, play_over       the panel after them
--     reads_more, reads_over     how many times the key is read
-- Assumes nothing.
use mathlib.Core.Path.{◌≡◌, ap}
use mathlib.Core.List.{List}
use Prim.Native.Nat.{ℕ, ◌+◌, ◌≤◌, ◌<◌}
use lib.ListN.{length, get_or, drop, drop_of_length-le}
use Rattle.base.specs.Bits.{bit_value}
use Rattle.base.proofs.Lists.{rest_is}
use Rattle.ch450.specs.declared.Panel.{Panel}
use Rattle.ch450.specs.Commands.{told_at, is_read}
use Rattle.ch450.specs.Samples.{stepped_panel, played, reads_in}

module _ (ss : List ℕ) (i : ℕ) where
  -- ---- the panel after them

  pub play_more : (p : Panel) → i < length ss → played (drop i ss) p ≡ played (drop (i + 1) ss) (stepped_panel (get_or ss i 0) p)
  unfolding played
  play_more p h = ap (λ r. played r p) (rest_is ss i 0 h)

  pub play_over : (p : Panel) → length ss ≤ i → played (drop i ss) p ≡ p
  unfolding played
  play_over p h = ap (λ r. played r p) (drop_of_length-le ss h)

  -- ---- how many times the key is read

  pub reads_more : (p : Panel) → i < length ss
      → reads_in (drop i ss) p ≡ bit_value (is_read (told_at (get_or ss i 0) p.wires)) + reads_in (drop (i + 1) ss) (stepped_panel (get_or ss i 0) p)
  unfolding reads_in
  reads_more p h = ap (λ r. reads_in r p) (rest_is ss i 0 h)

  pub reads_over : (p : Panel) → length ss ≤ i → reads_in (drop i ss) p ≡ 0
  unfolding reads_in
  reads_over p h = ap (λ r. reads_in r p) (drop_of_length-le ss h)
