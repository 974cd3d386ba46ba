-- What each of the four things that a scan can record means, of the key record before the scan and the one after it: theorem
-- `records_exactly` of proofs/Meanings.antt. And which code was recorded last, for that of an unread code that is lost: theorem
-- `lost_is_last` of proofs/Lost.antt. No contract cites these.
-- Assumes nothing.
use Rattle.std.specs.Prelude.{◌≡◌, true, false, List, [], ◌∷◌, ℕ, ◌<◌}
use Rattle.base.specs.Bits.{bit}
use Rattle.chip.specs.declared.Keys.{Keys}
use Rattle.chip.specs.Record.{none}
use Rattle.chip.specs.Scans.{Recording, nothing, key_code, over_unread, release_noted, code_of}

-- the code changed to 40H + an address: it is that after the scan, and was another before
pub record CodeChanged (code : ℕ) (before after : Keys) : Type 0 where
  pub address : ℕ
  pub is_address : address < none
  pub is_code : code ≡ code_of address
  pub is_after : after.code ≡ code
  pub was_another : before.code ≡ code → ⊥

-- bit 6 of the code went from 1 to 0
abbrev pub BitCleared : Keys → Keys → Type 0
BitCleared before after = (bit before.code 6 ≡ true) × (bit after.code 6 ≡ false)

-- nothing recorded; recorded, where no interrupt stood before the scan; recorded over an unread code, where one stood; release noted
abbrev pub Meant : Recording → Keys → Keys → Type 0
Meant nothing before after = ((code : ℕ) → CodeChanged code before after → ⊥) × (BitCleared before after → ⊥)
Meant (key_code code) before after = CodeChanged code before after × (before.interrupt ≡ false)
Meant (over_unread code) before after = CodeChanged code before after × (before.interrupt ≡ true)
Meant release_noted before after = BitCleared before after

-- the code that was recorded last, over an unread one or not, or the one given where none was
abbrev pub last_code : ℕ → List Recording → ℕ
last_code given [] = given
last_code given (nothing ∷ rest) = last_code given rest
last_code given (key_code code ∷ rest) = last_code code rest
last_code given (over_unread code ∷ rest) = last_code code rest
last_code given (release_noted ∷ rest) = last_code given rest
