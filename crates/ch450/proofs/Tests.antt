-- The words of a list, tested from the first on.
--     first_bad                  by the first that is neither a parameter nor a digit command
--     list_long, list_short      over 64 commands, and at most 64
--     few_words                  what a list that passed its tests has
-- Assumes nothing.
use Rattle.std.proofs.Common.{Option, Some, None, position, cond}
use Rattle.std.proofs.lemmas.Iterator.Adapters.{position_from-zero}
use Rattle.std.specs.List.{position_from}
use mathlib.Core.Path.{◌≡◌, refl, ap, sym, subst, ◌∙◌}
use mathlib.Core.Bool.{Bool, true, false, not}
use mathlib.Core.List.{List, [], ◌∷◌}
use Prim.Native.Nat.{ℕ, suc, ◌+◌, ◌≤◌, ◌<◌}
use native.Mathlib.Numerals.{add-one}
use borrow.Author.Tests.{le-leb, lt-leb, leb-true}
use lib.Dec.{leb}
use lib.ListN.{length}
use Rattle.base.specs.Pick.{pick}
use Rattle.base.specs.Refusals.{Told, IsDone, done, refused}
use Rattle.base.proofs.Picks.{pick_yes, pick_no}
use Rattle.ch450.specs.Written.{writable, words_from, list_test}

-- what the first place of such a word tells
abbrev pub told_first : Option ℕ → Told (Unit {0})
told_first None = done tt
told_first (Some place) = refused 9 place

-- neither a parameter nor a digit command
abbrev pub is_bad : ℕ → Bool
is_bad w = not (writable w)

bad_from : (place : ℕ) (ws : List ℕ) → words_from place ws ≡ told_first (position_from is_bad place ws)
unfolding words_from
bad_from place [] = refl
bad_from place (w ∷ ws) = go (writable w) (bad_from (suc place) ws)
  where
    go : (b : Bool) → words_from (suc place) ws ≡ told_first (position_from is_bad (suc place) ws)
        → pick b (words_from (suc place) ws) (refused 9 place) ≡ told_first (cond (not b) (Some place) (position_from is_bad (place + 1) ws))
    go true e = rw add-one e
    go false e = refl

pub first_bad : (ws : List ℕ) → words_from 0 ws ≡ told_first (position is_bad ws)
first_bad ws = bad_from 0 ws ∙ ap told_first (sym (position_from-zero is_bad ws))

-- ---- the list

pub list_long : (ws : List ℕ) → 64 < length ws → list_test ws ≡ refused 5 0
unfolding list_test
list_long ws h = pick_no (words_from 0 ws) (refused 5 0) (lt-leb (length ws) 64 h)

pub list_short : (ws : List ℕ) → length ws ≤ 64 → list_test ws ≡ words_from 0 ws
unfolding list_test
list_short ws h = pick_yes (words_from 0 ws) (refused 5 0) (le-leb (length ws) 64 h)

-- a list that was not refused by 5 is short
passed : (b : Bool) (t : Told (Unit {0})) → IsDone (pick b t (refused 5 0)) → b ≡ true
passed true t p = refl
passed false t p = absurd p

-- a list that passed its tests has at most 64 commands
pub few_words : (ws : List ℕ) → list_test ws ≡ done tt → length ws ≤ 64
unfolding list_test
few_words ws e = leb-true (length ws) 64 (passed (leb (length ws) 64) (words_from 0 ws) (subst IsDone (sym e) tt))
