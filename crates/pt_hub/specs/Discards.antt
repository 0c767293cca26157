-- Discards: values that were discarded.
use Rattle.std.specs.Prelude.{List, map}

-- the values of a log
abbrev pub noted : {A : Type 0} → List (A × Unit {0}) → List A
noted xs = map (λ x. x.0) xs
