-- Counts that aren't zero, found by a test of each count.
use Rattle.std.proofs.Common.{◌≡◌, ◌≢◌, ◌<◌, ◌≤◌, ◌+◌, ◌-◌, ◌||◌, ◌∙◌, ℕ, zero, suc, Bool, true}
use Rattle.std.proofs.Common.{false, not, nat_lt, cond, List, [], ◌∷◌, length, drop, get_or, refl}
use Rattle.std.proofs.Common.{ap, sym, arith, IsTrue, Some, None}
use Rattle.std.specs.List.{list_any}
use Rattle.std.proofs.lemmas.Grind.{common_steps}
use Rattle.std.proofs.lemmas.List.{get_or-drop, get_or_past}
use Rattle.pt_lanes.specs.Counts.{is_set, IsSetAt, AnyFrom, AllZero, IsHighest}

-- past its end a list reads as zero
abbrev pub NoneFrom : List ℕ → ℕ → Type 0
NoneFrom xs p = (i : ℕ) → p ≤ i → get_or xs i 0 ≡ 0

within_if : (xs : List ℕ) (i : ℕ) (b : Bool) → nat_lt i (length xs) ≡ b
    → get_or xs i 0 ≢ 0 → i < length xs
within_if xs i true e h = grind arith
within_if xs i false e h = absurd (h (get_or_past xs i 0 (grind arith)))

pub set-at : (xs : List ℕ) (i : ℕ) → get_or xs i 0 ≢ 0 → IsSetAt xs i
set-at xs i h = (within_if xs i (nat_lt i (length xs)) refl h, h)

set_or_not : (x : ℕ) (b : Bool) → is_set x ≡ b → cond b (x ≢ 0) (x ≡ 0)
set_or_not x true e = grind arith
set_or_not x false e = grind arith

found_at : (x : ℕ) (xs : List ℕ) (b : Bool) → cond b (x ≢ 0) (x ≡ 0)
    → (b || list_any is_set xs) ≡ true
    → (list_any is_set xs ≡ true → (i : ℕ) × (get_or xs i 0 ≢ 0))
    → (i : ℕ) × (get_or (x ∷ xs) i 0 ≢ 0)
found_at x xs true e h f = (0, e)
found_at x xs false e h f = let r : (i : ℕ) × (get_or xs i 0 ≢ 0) = f h in (suc r.0, r.1)

found : (xs : List ℕ) → list_any is_set xs ≡ true → (i : ℕ) × (get_or xs i 0 ≢ 0)
found [] h = (0, cc)
found (x ∷ xs) h = found_at x xs (is_set x) (set_or_not x (is_set x) refl) h (found xs)

none_at : (x : ℕ) (xs : List ℕ) (b : Bool) → cond b (x ≢ 0) (x ≡ 0)
    → (b || list_any is_set xs) ≡ false → (x ≡ 0) × (list_any is_set xs ≡ false)
none_at x xs true e h = cc
none_at x xs false e h = (e, h)

-- a list in which no count is set reads as zero everywhere
pub none_set : (xs : List ℕ) → list_any is_set xs ≡ false → NoneFrom xs 0
none_set [] h i le = grind (arith, common_steps)
none_set (x ∷ xs) h zero le = (none_at x xs (is_set x) (set_or_not x (is_set x) refl) h).0
none_set (x ∷ xs) h (suc i) le =
    none_set xs (none_at x xs (is_set x) (set_or_not x (is_set x) refl) h).1 i (omega arith)

any_above : (xs : List ℕ) (p : ℕ) → list_any is_set (drop p xs) ≡ true → AnyFrom xs p
any_above xs p h =
    let r : (i : ℕ) × (get_or (drop p xs) i 0 ≢ 0) = found (drop p xs) h in
    (p + r.0, omega arith, set-at xs (p + r.0) (λ z. r.1 (get_or-drop p xs r.0 0 ∙ z)))

none_above : (xs : List ℕ) (p : ℕ) → list_any is_set (drop p xs) ≡ false → NoneFrom xs p
none_above xs p h i le =
    let at : p + (i - p) ≡ i = omega arith in
    sym (ap (λ k. get_or xs k 0) at)
    ∙ sym (get_or-drop p xs (i - p) 0)
    ∙ none_set (drop p xs) h (i - p) (omega arith)

decided : (xs : List ℕ) (p : ℕ) (b : Bool) → list_any is_set (drop p xs) ≡ b
    → (IsTrue b → AnyFrom xs p) × (AnyFrom xs p → IsTrue b)
decided xs p true e = (λ _. any_above xs p e, λ _. refl)
decided xs p false e = (λ h. cc, λ a. absurd (a.2.1 (none_above xs p e a.0 a.1)))

-- the test of the counts from p on says whether one is set
pub any_from_test : (xs : List ℕ) (p : ℕ)
    → (IsTrue (list_any is_set (drop p xs)) → AnyFrom xs p)
    × (AnyFrom xs p → IsTrue (list_any is_set (drop p xs)))
any_from_test xs p = decided xs p (list_any is_set (drop p xs)) refl

decided_zero : (xs : List ℕ) (b : Bool) → list_any is_set xs ≡ b
    → (IsTrue (not b) → AllZero xs) × (AllZero xs → IsTrue (not b))
decided_zero xs false e = (λ _ i lt. none_set xs e i (omega arith), λ _. refl)
decided_zero xs true e =
    let r : (i : ℕ) × (get_or xs i 0 ≢ 0) = found xs e in
    (λ h. cc, λ n. absurd (r.1 (n r.0 (set-at xs r.0 r.1).0)))

pub all_zero_test : (xs : List ℕ)
    → (IsTrue (not (list_any is_set xs)) → AllZero xs)
    × (AllZero xs → IsTrue (not (list_any is_set xs)))
all_zero_test xs = decided_zero xs (list_any is_set xs) refl

-- a set count with none above it is the highest, and the other way round
pub highest-is : (xs : List ℕ) (i : ℕ)
    → (get_or xs i 0 ≢ 0) × NoneFrom xs (i + 1) → IsHighest xs (Some i)
highest-is xs i h = (set-at xs i h.0, λ j s. least_past j (nat_lt i j) refl s)
  where
    least_past : (j : ℕ) (b : Bool) → nat_lt i j ≡ b → IsSetAt xs j → j ≤ i
    least_past j true e s = absurd (s.1 (h.1 j (grind arith)))
    least_past j false e s = grind arith

zero_or : (xs : List ℕ) (i : ℕ) (x : ℕ) → get_or xs i 0 ≡ x
    → (b : Bool) → is_set x ≡ b → (IsSetAt xs i → ⊥) → get_or xs i 0 ≡ 0
zero_or xs i x e true s f = absurd (f (set-at xs i (λ z. set_or_not x true s (sym e ∙ z))))
zero_or xs i x e false s f = e ∙ set_or_not x false s

pub is-highest : (xs : List ℕ) (i : ℕ)
    → IsHighest xs (Some i) → (get_or xs i 0 ≢ 0) × NoneFrom xs (i + 1)
is-highest xs i h = (h.0.1, above)
  where
    above : NoneFrom xs (i + 1)
    above j le =
        let past : IsSetAt xs j → ⊥ = λ s. absurd (omega (arith, h.1 j s, le)) in
        zero_or xs j (get_or xs j 0) refl (is_set (get_or xs j 0)) refl past

pub is-none : (xs : List ℕ) → IsHighest xs None → NoneFrom xs 0
is-none xs h = λ i le. all i (nat_lt i (length xs)) refl
  where
    all : (i : ℕ) (b : Bool) → nat_lt i (length xs) ≡ b → get_or xs i 0 ≡ 0
    all i true e = h i (grind arith)
    all i false e = get_or_past xs i 0 (grind arith)
