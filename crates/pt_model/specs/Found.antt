-- Found: tests of what was found, if anything was.
use Rattle.std.specs.Prelude.{Bool, false, Option, Some, None, if◌then◌else◌}

-- whether a value was found and passes the test
abbrev pub is_some_and : {A : Type 0} → (A → Bool) → Option A → Bool
is_some_and test None = false
is_some_and test (Some x) = test x

-- the value that was found, if it passes the test
abbrev pub option_filter : {A : Type 0} → (A → Bool) → Option A → Option A
option_filter test None = None
option_filter test (Some x) = if test x then Some x else None
