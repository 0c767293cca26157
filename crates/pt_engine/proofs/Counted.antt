-- Counts of lines, and look-ups, after one more row.
use Rattle.std.proofs.Common.{◌≡◌, suc, ◌+◌, Bool, true, false, cond, List, [], ◌∷◌, ◌++◌, Some}
use Rattle.std.proofs.Common.{None, refl, ◌∙◌, arith}
use Rattle.std.specs.List.{count_by}
use Rattle.std.specs.Map.{lookup}
use Rattle.std.specs.Option.{option_or}
use Rattle.std.proofs.lemmas.List.Sums.{sum_by-append}

-- a function of a conditional
pub ap_cond : {X Y : Type 0} (f : X → Y) (b : Bool) (x y : X) → f (cond b x y) ≡ cond b (f x) (f y)
ap_cond f true x y = refl
ap_cond f false x y = refl

-- a count after one more item
pub count_by_push : {X : Type 0} (p : X → Bool) (xs : List X) (x : X)
    → count_by p (xs ++ x ∷ []) ≡ cond (p x) (suc (count_by p xs)) (count_by p xs)
count_by_push p xs x = sum_by-append (λ y. cond (p y) 1 0) xs (x ∷ []) ∙ by (p x)
  where
    by : (b : Bool)
        → count_by p xs + (0 + cond b 1 0) ≡ cond b (suc (count_by p xs)) (count_by p xs)
    by true = omega arith
    by false = omega arith

-- a look-up after one more row
pub lookup_push : {K X : Type 0} (test : K → Bool) (rows : List (K × X)) (k : K) (x : X)
    → lookup test (rows ++ (k, x) ∷ []) ≡ option_or (lookup test rows) (cond (test k) (Some x) None)
lookup_push test [] k x = refl
lookup_push test (row ∷ rows) k x = by (test row.0) (lookup_push test rows k x)
  where
    by : (b : Bool)
        → lookup test (rows ++ (k, x) ∷ [])
        ≡ option_or (lookup test rows) (cond (test k) (Some x) None)
        → cond b (Some row.1) (lookup test (rows ++ (k, x) ∷ []))
        ≡ option_or (cond b (Some row.1) (lookup test rows)) (cond (test k) (Some x) None)
    by true rest = refl
    by false rest = rest
