-- Texts are cut at the first of a byte.
use Rattle.std.proofs.Common.{◌≡◌, ℕ, ◌==◌, ◌&&◌, ◌∙◌, not, Bool, true, false, cond, List, [], ◌∷◌}
use Rattle.std.proofs.Common.{◌++◌, drop, refl, sym, ap, subst, append_assoc}
use Rattle.std.proofs.lemmas.Bool.Decides.{Decides-eqb}
use Rattle.std.proofs.lemmas.List.Folds.{list_all-append}
use Rattle.std.specs.Prelude.{codes}
use Rattle.std.specs.List.{list_all}
use Rattle.pt_fields.specs.Fields.{after_spaces, join_with_spaces}
use Rattle.pt_fields.proofs.TestLemmas.{and_parts, and_true}

-- the bytes before the first of this one
abbrev pub upto : ℕ → List ℕ → List ℕ
upto stop [] = []
upto stop (b ∷ bytes) = cond (b == stop) [] (b ∷ upto stop bytes)

-- the bytes after it
abbrev pub past : ℕ → List ℕ → List ℕ
past stop [] = []
past stop (b ∷ bytes) = cond (b == stop) bytes (past stop bytes)

-- no byte is this one
abbrev pub Avoids : ℕ → List ℕ → Type 0
Avoids stop bytes = list_all (λ b. not (b == stop)) bytes ≡ true

-- so is none of these texts
abbrev pub AllAvoid : ℕ → List (List ℕ) → Type 0
AllAvoid stop [] = Unit {0}
AllAvoid stop (text ∷ texts) = Avoids stop text × AllAvoid stop texts

pub upto_first : (stop : ℕ) (xs ys : List ℕ) → (stop == stop) ≡ true → Avoids stop xs
    → upto stop (xs ++ stop ∷ ys) ≡ xs
upto_first stop [] ys same none = ap (λ t. cond t [] (stop ∷ upto stop ys)) same
upto_first stop (x ∷ xs) ys same none =
    go (x == stop) (λ rest. upto_first stop xs ys same rest) none
  where
    go : (t : Bool) → (Avoids stop xs → upto stop (xs ++ stop ∷ ys) ≡ xs)
        → (not t && list_all (λ b. not (b == stop)) xs) ≡ true
        → cond t [] (x ∷ upto stop (xs ++ stop ∷ ys)) ≡ x ∷ xs
    go true on none = absurd cc
    go false on none = ap (λ r. x ∷ r) (on none)

pub past_first : (stop : ℕ) (xs ys : List ℕ) → (stop == stop) ≡ true → Avoids stop xs
    → past stop (xs ++ stop ∷ ys) ≡ ys
past_first stop [] ys same none = ap (λ t. cond t ys (past stop ys)) same
past_first stop (x ∷ xs) ys same none =
    go (x == stop) (λ rest. past_first stop xs ys same rest) none
  where
    go : (t : Bool) → (Avoids stop xs → past stop (xs ++ stop ∷ ys) ≡ ys)
        → (not t && list_all (λ b. not (b == stop)) xs) ≡ true
        → cond t (xs ++ stop ∷ ys) (past stop (xs ++ stop ∷ ys)) ≡ ys
    go true on none = absurd cc
    go false on none = on none

-- two texts with a comma and a space between them, and a parenthesis behind them
regroup : (a b : List ℕ)
    → (a ++ codes ", " ++ b) ++ codes ")" ≡ a ++ 44 ∷ 32 ∷ (b ++ codes ")")
regroup a b =
    append_assoc (a ++ codes ", ") b (codes ")") ∙ append_assoc a (codes ", ") (b ++ codes ")")

pub first_of_two : (a b : List ℕ) → Avoids 44 a
    → upto 44 ((a ++ codes ", " ++ b) ++ codes ")") ≡ a
first_of_two a b plain =
    ap (upto 44) (regroup a b) ∙ upto_first 44 a (32 ∷ (b ++ codes ")")) refl plain

pub rest_of_two : (a b : List ℕ) → Avoids 44 a
    → drop 1 (past 44 ((a ++ codes ", " ++ b) ++ codes ")")) ≡ b ++ codes ")"
rest_of_two a b plain =
    ap (λ t. drop 1 (past 44 t)) (regroup a b)
    ∙ ap (drop 1) (past_first 44 a (32 ∷ (b ++ codes ")")) refl plain)

pub second_of_two : (a b : List ℕ) → Avoids 44 a → Avoids 41 b
    → upto 41 (drop 1 (past 44 ((a ++ codes ", " ++ b) ++ codes ")"))) ≡ b
second_of_two a b plain closed =
    ap (upto 41) (rest_of_two a b plain) ∙ upto_first 41 b [] refl closed

-- what passes a test that this byte fails has no such byte
pub avoids_by : (test : ℕ → Bool) (stop : ℕ) (bytes : List ℕ) → test stop ≡ false
    → list_all test bytes ≡ true → Avoids stop bytes
avoids_by test stop [] out all = refl
avoids_by test stop (b ∷ bytes) out all =
    let parts = and_parts (test b) (list_all test bytes) all in
    and_true (not (b == stop)) (list_all (λ x. not (x == stop)) bytes)
    (go (b == stop) (Decides-eqb b stop).0 parts.0) (avoids_by test stop bytes out parts.1)
  where
    go : (t : Bool) → (t ≡ true → b ≡ stop) → test b ≡ true → not t ≡ true
    go true same passes =
        absurd (let clash = sym out ∙ subst (λ x. test x ≡ true) (same refl) passes in cc)
    go false same passes = refl

pub avoids_append : (stop : ℕ) (xs ys : List ℕ) → Avoids stop xs → Avoids stop ys
    → Avoids stop (xs ++ ys)
avoids_append stop xs ys one two =
    list_all-append (λ b. not (b == stop)) xs ys
    ∙ and_true (list_all (λ b. not (b == stop)) xs) (list_all (λ b. not (b == stop)) ys) one two

-- words separated by spaces have no comma if none of them has
behind_avoid : (words : List (List ℕ)) → AllAvoid 44 words → Avoids 44 (after_spaces words)
behind_avoid [] h = refl
behind_avoid (word ∷ words) h =
    avoids_append 44 word (after_spaces words) h.0 (behind_avoid words h.1)

pub spaced_avoid : (word : List ℕ) (words : List (List ℕ)) → Avoids 44 word → AllAvoid 44 words
    → Avoids 44 (join_with_spaces word words)
spaced_avoid word words one more =
    avoids_append 44 word (after_spaces words) one (behind_avoid words more)
