-- A line taken as its form says, and the form of a line's bytes, as `is_samples` finds it.
--     taken_as, room_as                          a line is taken as its form says, and has room as it says
--     not_taken                                  a line of no form: refused, and nothing changes
--     held_some, held_samples, held_other        the bytes at an array's front: samples, at least two bytes, and of no form
-- Assumes nothing.
use mathlib.Core.Path.{◌≡◌, refl, ap, sym, subst, ◌∙◌}
use mathlib.Core.Bool.{true, false}
use mathlib.Core.List.{List}
use Prim.Native.Nat.{ℕ, ◌+◌, ◌-◌, ◌≤◌}
use native.Mathlib.Omega.{arith}
use lib.ListN.{length, take, drop}
use lib.Seq.{length-take-le}
use Rattle.base.proofs.Picks.{pick_yes, pick_no}
use Rattle.capture.proofs.Read.{front_rest}
use Rattle.capture.proofs.Reported.{none_put}
use Rattle.capture.specs.Parts.{out_of}
use Rattle.ch450.specs.declared.Panel.{Panel}
use Rattle.wires.specs.declared.Report.{Report}
use Rattle.wires.specs.declared.walk.Took.{Took}
use Rattle.wires.specs.Frames.{Form, samples, other, is_samples, form_of}
use Rattle.wires.specs.Parts.{Takes}
use Rattle.wires.specs.Replay.{taken}
use Rattle.wires.proofs.Walked.{samples_long}

-- ---- a line

module _ (what : Report) (key : ℕ) (p : Panel) where
  pub taken_as : {form like : Form} {at : ℕ} {out : List ℕ} {r : Took} {out' : List ℕ} → form ≡ like
      → Takes (taken what key p like) at out r out'
      → Takes (taken what key p form) at out r out'
  taken_as {at = at} {out = out} {r = r} {out' = out'} e = subst (λ form. Takes (taken what key p form) at out r out') (sym e)

  pub room_as : {form like : Form} (at room : ℕ) → form ≡ like
      → at + length (out_of (taken what key p form).told) ≤ room
      → at + length (out_of (taken what key p like).told) ≤ room
  room_as at room = subst (λ form. at + length (out_of (taken what key p form).told) ≤ room)

  pub not_taken : {form : Form} (at : ℕ) (out : List ℕ) → form ≡ other
      → Takes (taken what key p form) at out (record { panel = p; taken = false; at = at }) out
  not_taken at out e = taken_as e (record { panel = refl; taken = refl; puts = none_put at out })

-- ---- an array that holds them at its front

module _ (fb : List ℕ) (count : ℕ) (high : count ≤ length fb) where
  pub held_some : is_samples (take count fb) ≡ true → 2 ≤ count
  held_some e = omega (arith, length-take-le count fb high, samples_long (take count fb) e)

  pub held_samples : is_samples (take count fb) ≡ true → form_of (take count fb) ≡ samples (take (count - 1) (drop 1 fb))
  held_samples e = let some = held_some e in pick_yes _ _ e ∙ ap samples (front_rest fb count (omega arith))

  pub held_other : is_samples (take count fb) ≡ false → form_of (take count fb) ≡ other
  held_other e = pick_no _ _ e
