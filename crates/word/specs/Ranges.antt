-- Document 01, "The words" and refusal 9: the ranges of a command's fields, by its kind. This is the one table of them.
-- Assumes nothing.
use Rattle.std.specs.Prelude.{ℕ, Bool, true, false, ◌&&◌, List, [], ◌∷◌, leb, get_or}

-- for each kind, from 0 in the order of document 01's table, the most of each field that it has; a bit is a field of at most 1
abbrev pub ranges : List (List ℕ)
ranges =
    -- 0: no operation
    []
    -- 1: bar level
    ∷ (127 ∷ [])
    -- 2, 3: segment clear, segment set
    ∷ (63 ∷ [])
    ∷ (63 ∷ [])
    -- 4, 5: reset, sleep
    ∷ []
    ∷ []
    -- 6 to 9: shift left, shift right, rotate left, rotate right
    ∷ []
    ∷ []
    ∷ []
    ∷ []
    -- 10: custom character
    ∷ (127 ∷ [])
    -- 11: system parameters, INTM SSPD DPLR KEYB DISP
    ∷ (1 ∷ 1 ∷ 1 ∷ 1 ∷ 1 ∷ [])
    -- 12: display parameters, MODE and LIMIT
    ∷ (1 ∷ 7 ∷ [])
    -- 13: blink byte
    ∷ (255 ∷ [])
    -- 14: read key
    ∷ []
    -- 15: load digit, DIG and DATA
    ∷ (7 ∷ 255 ∷ [])
    ∷ []

-- the most of a field of a kind, both counted from 0
abbrev pub most_of : ℕ → ℕ → ℕ
most_of kind field = get_or (get_or ranges kind []) field 0

-- each field is at most its most; further fields are not looked at
abbrev pub within : List ℕ → List ℕ → Bool
within [] fields = true
within (most ∷ mosts) [] = false
within (most ∷ mosts) (field ∷ fields) = leb field most && within mosts fields

-- there is such a kind, and its fields are in range
abbrev pub in_range : ℕ → List ℕ → Bool
in_range kind fields = leb kind 15 && within (get_or ranges kind []) fields
