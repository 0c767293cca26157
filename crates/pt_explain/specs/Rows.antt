-- Rows: the rows of an explanation: what is on the left, the reason from column 37 on, and its
-- source, which ends at column 100.
use Rattle.std.specs.Prelude.{ℕ, ◌-◌, ◌++◌, List, ◌∷◌, codes, length, max, min, nat_le, take}
use Rattle.std.specs.Prelude.{if◌then◌else◌}

-- 50 spaces
abbrev pub blank : List ℕ
blank = codes "                                                  "

-- this many spaces, but at most 100
abbrev pub spaces : ℕ → List ℕ
spaces n = take (min n 50) blank ++ take (min (n - 50) 50) blank

-- the spaces after what is on the left: up to column 36, but at least two  [profile]
abbrev pub margin : ℕ → ℕ
margin width = max (36 - width) 2

-- the columns before a source that ends at column 100, after a reason of this length and what is on
-- the left  [profile]
abbrev pub room_before : (width reason source : ℕ) → ℕ
room_before width reason source = 98 - width - margin width - reason - source

-- what is before a source: this room, or a new line and spaces if two do not fit  [profile]
abbrev pub gap : (room source : ℕ) → List ℕ
gap room source = if nat_le 2 room then spaces room else 10 ∷ spaces (98 - source)

-- what follows what is on the left, which has this width: a reason, and its source in brackets
-- [profile]
abbrev pub right : ℕ → List ℕ × List ℕ → List ℕ
right width reason =
    spaces (margin width) ++ reason.0
    ++ gap (room_before width (length reason.0) (length reason.1)) (length reason.1)
    ++ codes "[" ++ reason.1 ++ codes "]\n"

-- a row: what is on the left, a reason, and its source in brackets  [profile]
abbrev pub row : List ℕ → List ℕ × List ℕ → List ℕ
row text reason = text ++ right (length text) reason
