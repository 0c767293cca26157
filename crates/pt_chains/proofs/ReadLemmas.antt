-- What is read from a list after a write.
use Rattle.std.proofs.Common.{◌≡◌, ℕ, ◌==◌, ◌<◌, ◌-◌, ◌⊎◌, Bool, true, false, cond, ◌&&◌, not, List}
use Rattle.std.proofs.Common.{length, Option, None, inl, inr, refl, sym, ap, ◌∙◌, arith, eq-eqb}
use Rattle.std.proofs.Common.{get_or, get_or-set_other}
use Rattle.std.proofs.Math.ListN.{set}
use Rattle.std.proofs.lemmas.Bool.Decides.{nat_tests}
use Rattle.std.proofs.lemmas.Bool.{false≢true}
use Rattle.std.proofs.lemmas.Grind.{get_or-set_at}

pub read-set : {X : Type 0} (xs : List X) (p i : ℕ) (y d : X) → p < length xs
    → get_or (set xs p y) i d ≡ cond (p == i) y (get_or xs i d)
read-set {X} xs p i y d within = go (p == i) refl
  where
    go : (b : Bool) → (p == i) ≡ b → get_or (set xs p y) i d ≡ cond b y (get_or xs i d)
    go true e =
        let same : i ≡ p = grind (arith, nat_tests) in
        get_or-set_at xs p i y d same within
    go false e =
        get_or-set_other xs p i y d (λ same. false≢true (sym e ∙ eq-eqb p i (sym same)))

-- a count after one was lowered by one
pub read-less : (xs ys : List ℕ) (p i : ℕ) → xs ≡ ys → p < length ys
    → get_or (set xs p (get_or xs p 0 - 1)) i 0
    ≡ cond (p == i) (get_or ys p 0 - 1) (get_or ys i 0)
read-less xs ys p i same within =
    ap (λ zs. get_or (set zs p (get_or zs p 0 - 1)) i 0) same ∙ read-set ys p i _ 0 within

-- an end that is written
pub read-put : (xs ys : List (Option ℕ)) (p i : ℕ) (y : Option ℕ) → xs ≡ ys → p < length ys
    → get_or (set xs p y) i None ≡ cond (p == i) y (get_or ys i None)
read-put xs ys p i y same within =
    ap (λ zs. get_or (set zs p y) i None) same ∙ read-set ys p i y None within

both : (b : Bool) → b ≡ (b && true)
both true = refl
both false = refl

neither : (b : Bool) → false ≡ (b && false)
neither true = refl
neither false = refl

-- an end that is written only if there was none
pub read-if : (xs ys : List (Option ℕ)) (p i : ℕ) (y : Option ℕ) (there empty : Bool)
    → there ≡ not empty
    → ((empty ≡ true) × (xs ≡ set ys p y)) ⊎ ((empty ≡ false) × (xs ≡ ys)) → p < length ys
    → get_or xs i None ≡ cond ((p == i) && not there) y (get_or ys i None)
read-if xs ys p i y there empty e w within =
    go empty w ∙ sym (ap (λ t. cond ((p == i) && not t) y (get_or ys i None)) e)
  where
    go : (b : Bool) → ((b ≡ true) × (xs ≡ set ys p y)) ⊎ ((b ≡ false) × (xs ≡ ys))
        → get_or xs i None ≡ cond ((p == i) && not (not b)) y (get_or ys i None)
    go true (inl v) =
        ap (λ zs. get_or zs i None) v.1
        ∙ (read-set ys p i y None within
        ∙ ap (λ b. cond b y (get_or ys i None)) (both (p == i)))
    go true (inr v) = absurd (false≢true (sym v.0))
    go false (inl v) = absurd (false≢true v.0)
    go false (inr v) =
        ap (λ zs. get_or zs i None) v.1
        ∙ ap (λ b. cond b y (get_or ys i None)) (neither (p == i))
