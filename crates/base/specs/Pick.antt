-- A choice by a test: how every definition of this project says "if".
-- Assumes nothing.
use Rattle.std.specs.Prelude.{Bool, true, false}

-- x where the test passes, y where it fails
abbrev pub pick {ℓ} : {A : Type ℓ} → Bool → A → A → A
pick true x y = x
pick false x y = y
