-- C-20: which code is lost where one is recorded over an unread one.
--     unread_is_last    where an interrupt stands after a history, the code held is, but for bit 6, the one that was recorded last, or the
--                       one given, if that is so at the start
--     lost_is_last      after a history from a chip without an interrupt, what a scan overwrites is, but for bit 6, the code recorded last
-- Assumes nothing.
use mathlib.Core.Path.{◌≡◌, refl, ap, sym, subst, ◌∙◌}
use mathlib.Core.Bool.{Bool, true, false, ◌&&◌, false≢true}
use mathlib.Core.List.{List, [], ◌∷◌}
use Prim.Native.Nat.{ℕ, ◌-◌, ◌*◌}
use native.Mathlib.Nat.{sub-zero}
use Rattle.base.specs.Bits.{bit, bit_value}
use Rattle.base.specs.Pick.{pick}
use Rattle.base.proofs.Picks.{pick_cases}
use Rattle.word.specs.declared.Command.{Command}
use Rattle.chip.specs.declared.Chip.{Chip}
use Rattle.chip.specs.declared.Keys.{Keys}
use Rattle.chip.specs.Commands.{applied, woken}
use Rattle.chip.specs.Scans.{Recording, nothing, key_code, over_unread, release_noted, released, new_key, both_none, keyed, keys_record, code_taken, code_of, wakes, scanned_by, recorded_by, scanned, recorded, result}
use Rattle.chip.specs.History.{Step, told, scan, after, records_of}
use Rattle.chip.specs.Meanings.{last_code}
use Rattle.chip.proofs.Quiet.{obey_keys}
use Rattle.chip.proofs.OneScan.{by_scan}
use Rattle.chip.proofs.Meanings.{released_bit, records_exactly}

-- an interrupt that stands is of a code: the one held is that one, but for bit 6
abbrev Unread : ℕ → Keys → Type 0
Unread code k = k.interrupt ≡ true → released k.code ≡ released code

-- ---- commands

-- a command keeps this: one after which an interrupt stands changed neither interrupt nor code
applied_unread : (command : Command) (c : Chip) (code : ℕ) → Unread code c.keys → Unread code (applied command c).keys
unfolding applied
applied_unread command c code u =
    obey_keys (Unread code) command (woken c) u (λ r e. absurd (false≢true e)) (λ last e. absurd (false≢true e))

-- ---- scans

-- a code let go twice is let go
released_again : (code : ℕ) → released (released code) ≡ released code
released_again code = ap (λ t. released code - 0x40 * bit_value t) (released_bit code) ∙ sub-zero (released code)

-- one record more
last_more : (given : ℕ) (what : Recording) (rest : List Recording) → last_code given (what ∷ rest) ≡ last_code (last_code given (what ∷ [])) rest
last_more given nothing rest = refl
last_more given (key_code code) rest = refl
last_more given (over_unread code) rest = refl
last_more given release_noted rest = refl

-- awake with KEYB on
keys_unread : (r : ℕ) (k : Keys) (given : ℕ) → Unread given k → Unread (last_code given (keys_record r k ∷ [])) (keyed r k)
keys_unread r k given u = by_tests (new_key r k) (both_none r k)
  where
    by_tests : (new both : Bool)
        → Unread (last_code given (pick new (code_taken k.interrupt (code_of r)) (pick (both && bit k.code 6) release_noted nothing) ∷ []))
        (record { code = pick new (code_of r) (pick both (released k.code) k.code); interrupt = pick new true k.interrupt; last = r })
    by_tests true both f = ap released (sym (pick_cases (λ (what : Recording). last_code given (what ∷ []) ≡ code_of r) k.interrupt (λ i. refl) (λ i. refl)))
    by_tests false true f =
        released_again k.code
        ∙ u f
        ∙ ap released (sym (pick_cases (λ (what : Recording). last_code given (what ∷ []) ≡ given) (bit k.code 6) (λ i. refl) (λ i. refl)))
    by_tests false false f = u f

scan_unread : (r : ℕ) (c : Chip) (given : ℕ) → Unread given c.keys → Unread (last_code given (recorded_by r c ∷ [])) (scanned_by r c).keys
scan_unread r c given u =
    by_scan (λ what d. Unread (last_code given (what ∷ [])) d.keys) r c
    (pick_cases (λ (x : Chip). Unread given x.keys) (wakes r) (λ e. u) (λ e. u))
    (keys_unread r c.keys given u)
    u

-- ---- histories

pub unread_is_last : (h : List Step) (c : Chip) (given : ℕ) → Unread given c.keys → Unread (last_code given (records_of h c)) (after h c).keys
unread_is_last [] c given u = u
unread_is_last (told command ∷ h) c given u = unread_is_last h (applied command c) given (applied_unread command c given u)
unread_is_last (scan bytes ∷ h) c given u =
    subst (λ code. Unread code (after h (scanned bytes c)).keys) (sym (last_more given (recorded bytes c) (records_of h (scanned bytes c))))
    (unread_is_last h (scanned bytes c) (last_code given (recorded bytes c ∷ [])) (scan_unread (result bytes) c given u))

-- for every code given: so one was recorded in the history, and it is never the one given
pub lost_is_last : (h : List Step) (c : Chip) → c.keys.interrupt ≡ false → (bytes : List ℕ) (code : ℕ) → recorded bytes (after h c) ≡ over_unread code
    → (given : ℕ) → released (after h c).keys.code ≡ released (last_code given (records_of h c))
lost_is_last h c none bytes code over given =
    unread_is_last h c given (λ e. absurd (false≢true (sym none ∙ e))) ((records_exactly bytes (after h c) (over_unread code)).0 over).1
