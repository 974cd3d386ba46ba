-- The samples that stand first in a list of bytes, played where there is room for them.
--     first_few      they are no more than the bytes
--     none_first     where there is no room, none is played
-- Assumes nothing.
use Rattle.std.proofs.Common.{◌≡◌, ℕ, ◌≤◌, false, List, length, sym, refl, ap, ◌∙◌, subst, arith}
use Rattle.base.proofs.Picks.{pick_no}
use Rattle.chain.specs.declared.Chain.{Chain}
use Rattle.capture.specs.declared.Report.{Report}
use Rattle.capture.proofs.Reported.{none_put}
use Rattle.reads.specs.declared.Reader.{Reader}
use Rattle.reads.specs.Parts.{run_length, has_room, first_of, RunsFirst}
use Rattle.reads.specs.Reads.{sampled_all}
use Rattle.reads.proofs.Lengths.{run_length_le}

module _ (what : Report) (n offset : ℕ) (bytes : List ℕ) (ch : Chain) (r : Reader) (at : ℕ) (out : List ℕ) {count : ℕ} (all : count ≡ run_length bytes) where
  pub first_few : count ≤ length bytes
  first_few = omega (arith, run_length_le bytes)

  pub none_first : has_room n count at (length out) ≡ false
      → RunsFirst what n offset (first_of n bytes at out) ch r at out (record { chain = ch; reader = r; count = 0; at = at }) out
  unfolding sampled_all
  none_first e =
      subst (λ first. RunsFirst what n offset first ch r at out (record { chain = ch; reader = r; count = 0; at = at }) out)
      (sym (pick_no _ _ (ap (λ m. has_room n m at (length out)) (sym all) ∙ e)))
      (record { chain = refl; reader = refl; counts = refl; puts = none_put at out })
