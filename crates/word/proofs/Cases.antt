-- The word halves of P1 to P8 hold.
-- Assumes nothing.
use mathlib.Core.Path.{refl}
use Rattle.base.specs.Claims.{All}
use Rattle.word.specs.Words.{decoded_of}
use Rattle.word.specs.Cases.{word_cases}

pub word_cases_lem : All word_cases
unfolding decoded_of
word_cases_lem = (refl, (refl, (refl, (refl, (refl, (refl, (refl, (refl, (refl, (refl, tt))))))))))
