-- Keys: the number by which a name is looked up.
use Rattle.std.specs.Prelude.{ℕ, ◌+◌, ◌-◌, ◌*◌, ◌/◌, ◌%◌, ◌^◌, List, [], ◌∷◌, length, drop, bit_and}
use Rattle.std.specs.Prelude.{if◌then◌else◌, nat_lt}
use Rattle.std.specs.Int.{w32, from_le_bytes}

-- four bytes read as four digits
abbrev pub four_digits : List ℕ → ℕ
four_digits bytes =
    let digits = (from_le_bytes w32 bytes + (2 ^ 32 - 808464432)) % 2 ^ 32 in
    let pairs = bit_and ((digits * 2561) % 2 ^ 32 / 2 ^ 8) 16711935 in
    (pairs * 6553601) % 2 ^ 32 / 2 ^ 16

-- fewer than four bytes read as digits
abbrev pub short_digits : List ℕ → ℕ
short_digits [] = 0
short_digits (a ∷ []) = a
short_digits (a ∷ b ∷ []) = a * 10 + b
short_digits (a ∷ b ∷ c ∷ rest) = a * 100 + b * 10 + c

-- the last bytes of a name, up to four, read as digits
abbrev pub end_digits : List ℕ → ℕ
end_digits bytes =
    if nat_lt (length bytes) 4
    then short_digits bytes
    else four_digits (drop (length bytes - 4) bytes)

-- the key of a name: its last bytes read as digits, plus a distance for each byte of its length
abbrev pub name_key : List ℕ → ℕ
name_key bytes = (end_digits bytes + (10615 * length bytes) % 2 ^ 64) % 2 ^ 64
