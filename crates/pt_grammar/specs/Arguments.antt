-- Arguments: how the fields after the first word of a line are read.
use Rattle.std.specs.Prelude.{ℕ, Bool, true, false, ◌&&◌, List, [], ◌∷◌, Option, None, Some, length}
use Rattle.std.specs.Prelude.{nat_le, nat_lt, if◌then◌else◌, codes}
use Rattle.std.specs.List.{list_all}
use Rattle.std.specs.Option.{option_map, option_and_then}
use Rattle.std.specs.Str.{bytes_eq}
use Rattle.pt_types.specs.Limits.{max_priority, nanoseconds_per_second}
use Rattle.pt_types.specs.Names.{is_name_byte}
use Rattle.pt_types.specs.Times.{Timespec, nanos}
use Rattle.pt_types.specs.declared.time.Clock.{Clock}
use Rattle.pt_types.specs.declared.time.Clock.TheVariants.{Real, Mono}
use Rattle.pt_types.specs.declared.call.MutexKind.{MutexKind}
use Rattle.pt_types.specs.declared.call.MutexKind.TheVariants.{Normal, Errorcheck, Recursive}
use Rattle.pt_fields.specs.Numbers.{read_number}

-- the name that a field spells
abbrev pub read_name : List ℕ → Option (List ℕ)
read_name field =
    if nat_le 1 (length field) && nat_le (length field) 32 && list_all is_name_byte field
    then Some field else None

-- the kind of mutex that a field names
abbrev pub read_kind : List ℕ → Option MutexKind
read_kind field =
    if bytes_eq field (codes "normal") then Some Normal
    else if bytes_eq field (codes "default") then Some Normal
    else if bytes_eq field (codes "errorcheck") then Some Errorcheck
    else if bytes_eq field (codes "recursive") then Some Recursive
    else None

-- whether a mutex is robust, if a field is `robust` or `stalled`
abbrev pub read_robust : List ℕ → Option Bool
read_robust field =
    if bytes_eq field (codes "robust") then Some true
    else if bytes_eq field (codes "stalled") then Some false
    else None

-- the clock that a field names
abbrev pub read_clock : List ℕ → Option Clock
read_clock field =
    if bytes_eq field (codes "real") then Some Real
    else if bytes_eq field (codes "mono") then Some Mono
    else None

-- exactly one field, read in this way
abbrev pub single_field : {X : Type 0} → (List ℕ → Option X) → List (List ℕ) → Option X
single_field read [] = None
single_field read (field ∷ []) = read field
single_field read (field ∷ other ∷ more) = None

-- the first field read in one way, and the rest in another way
abbrev pub first_then :
    {X Y : Type 0} → (List ℕ → Option X) → (List (List ℕ) → Option Y)
    → List (List ℕ) → Option (X × Y)
first_then first rest [] = None
first_then first rest (field ∷ more) =
    option_and_then (λ x. option_map (λ y. (x, y)) (rest more)) (first field)

-- the priority that a number gives
abbrev pub read_priority : ℕ → Option ℕ
read_priority n = if nat_le 1 n && nat_le n max_priority then Some n else None

-- the moment that seconds and nanoseconds give
abbrev pub read_moment : ℕ × ℕ → Option ℕ
read_moment time = if nat_lt time.1 nanoseconds_per_second then Some (nanos time.0 time.1) else None

-- the deadline that seconds and nanoseconds give
abbrev pub read_deadline : ℕ × ℕ → Timespec
read_deadline time = record { sec = time.0; nsec = time.1 }

-- the seconds and nanoseconds that the fields are
abbrev pub two_numbers : List (List ℕ) → Option (ℕ × ℕ)
two_numbers args = first_then read_number (single_field read_number) args

-- the deadline that the fields are
abbrev pub one_deadline : List (List ℕ) → Option Timespec
one_deadline args = option_map read_deadline (two_numbers args)

-- the name and the deadline that the fields are
abbrev pub name_and_deadline : List (List ℕ) → Option (List ℕ × Timespec)
name_and_deadline args = first_then read_name one_deadline args

-- the clock and the deadline that the fields are
abbrev pub clock_and_deadline : List (List ℕ) → Option (Clock × Timespec)
clock_and_deadline args = first_then read_clock one_deadline args

-- the name, the clock and the deadline that the fields are
abbrev pub name_clock_and_deadline : List (List ℕ) → Option (List ℕ × (Clock × Timespec))
name_clock_and_deadline args = first_then read_name clock_and_deadline args
