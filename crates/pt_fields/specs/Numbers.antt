-- Numbers: 1 to 10 decimal digits without a leading zero, or `0`.
use Rattle.std.specs.Prelude.{ℕ, ◌<◌, ◌^◌, ◌==◌, ◌&&◌, ◌||◌, not, Bool, List, Option, None, Some}
use Rattle.std.specs.Prelude.{length, nat_le, slice_index, if◌then◌else◌}
use Rattle.std.specs.List.{list_all}
use Rattle.std.specs.Str.Parse.{digits_value}

-- a line can have this number: its decimal has at most 10 digits
abbrev pub IsNumber : ℕ → Type 0
IsNumber n = n < 10 ^ 10

-- whether a byte is a digit
abbrev pub is_digit : ℕ → Bool
is_digit b = nat_le 48 b && nat_le b 57

-- whether a field is a number: 1 to 10 digits without a leading zero, or `0`
abbrev pub is_decimal : List ℕ → Bool
is_decimal field =
    nat_le 1 (length field) && nat_le (length field) 10 && list_all is_digit field
    && (length field == 1 || not (slice_index field 0 == 48))

-- the number that a field spells
abbrev pub read_number : List ℕ → Option ℕ
read_number field = if is_decimal field then Some (digits_value 10 field) else None
