-- Look-ups in lists of entries, and what an added or a removed entry changes in them.
use Rattle.std.proofs.Common.{◌≡◌, ◌∙◌, ℕ, Bool, true, false, cond, nat_eq, List}
use Rattle.std.proofs.Common.{[], ◌∷◌, ◌++◌, refl, ap, sym, Option, None, Some}
use Rattle.std.proofs.Common.{true≢false, is_some, inl, inr}
use Rattle.std.specs.Map.{lookup, remove_entry}
use Rattle.indexmap.specs.IndexMap.{insert_entry}
use Rattle.std.proofs.lemmas.Bool.{eqb-true, eq-eqb}
use Rattle.std.proofs.lemmas.Bool.Decides.{eqb_tells}
use Rattle.pt_table.specs.Slots.{Distinct}

pub some_inj : {X : Type 0} {x y : X} → Some x ≡ Some y → x ≡ y
some_inj e = cc

pub none_some : {X : Type 0} {x : X} → None ≡ Some x → ⊥
none_some e = cc

pub none_of : {X : Type 0} (o : Option X) → is_some o ≡ false → o ≡ None
none_of None e = refl
none_of (Some x) e = cc

pub turned : (m n : ℕ) → nat_eq m n ≡ false → nat_eq n m ≡ false
turned m n h =
    elim (eqb_tells n m) [
      | inl s ↦ absurd (true≢false (sym (eq-eqb m n (sym s.1)) ∙ h))
      | inr a ↦ a.0
    ]

module _ {K : Type 0} (test : K → Bool) where
  pub lookup_none-parts : (e : K × ℕ) (es : List (K × ℕ)) → lookup test (e ∷ es) ≡ None
      → (test e.0 ≡ false) × (lookup test es ≡ None)
  lookup_none-parts e es h = by (test e.0) h
    where
      by : (b : Bool) → cond b (Some e.1) (lookup test es) ≡ None
          → (b ≡ false) × (lookup test es ≡ None)
      by true h = cc
      by false h = (refl, h)

  pub lookup-append_some : (es : List (K × ℕ)) (k : K) (v s : ℕ) → lookup test es ≡ Some s
      → lookup test (es ++ (k, v) ∷ []) ≡ Some s
  lookup-append_some [] k v s e = cc
  lookup-append_some (x ∷ es) k v s e = by (lookup-append_some es k v s) (test x.0) e
    where
      by : (lookup test es ≡ Some s → lookup test (es ++ (k, v) ∷ []) ≡ Some s)
          → (b : Bool) → cond b (Some x.1) (lookup test es) ≡ Some s
          → cond b (Some x.1) (lookup test (es ++ (k, v) ∷ [])) ≡ Some s
      by ih true e = e
      by ih false e = ih e

  pub lookup-append_none : (es : List (K × ℕ)) (k : K) (v : ℕ) → lookup test es ≡ None
      → lookup test (es ++ (k, v) ∷ []) ≡ cond (test k) (Some v) None
  lookup-append_none [] k v e = refl
  lookup-append_none (x ∷ es) k v e = by (lookup-append_none es k v) (test x.0) e
    where
      by : (lookup test es ≡ None → lookup test (es ++ (k, v) ∷ []) ≡ cond (test k) (Some v) None)
          → (b : Bool) → cond b (Some x.1) (lookup test es) ≡ None
          → cond b (Some x.1) (lookup test (es ++ (k, v) ∷ [])) ≡ cond (test k) (Some v) None
      by ih true e = cc
      by ih false e = ih e

  pub lookup-remove_none : (other : K → Bool) (es : List (K × ℕ)) → lookup test es ≡ None
      → lookup test (remove_entry other es) ≡ None
  lookup-remove_none other [] h = refl
  lookup-remove_none other (e ∷ es) h =
      let parts = lookup_none-parts e es h in
      by (lookup-remove_none other es parts.1) parts (other e.0)
    where
      by : lookup test (remove_entry other es) ≡ None
          → (test e.0 ≡ false) × (lookup test es ≡ None)
          → (b : Bool) → lookup test (cond b es (e ∷ remove_entry other es)) ≡ None
      by ih parts true = parts.1
      by ih parts false =
          ap (λ b. cond b (Some e.1) (lookup test (remove_entry other es))) parts.0 ∙ ih

pub lookup-remove_other : (m n : ℕ) → nat_eq m n ≡ false → (es : List (ℕ × ℕ))
    → lookup (nat_eq m) (remove_entry (nat_eq n) es) ≡ lookup (nat_eq m) es
lookup-remove_other m n apart [] = refl
lookup-remove_other m n apart (e ∷ es) =
    by (lookup-remove_other m n apart es) (nat_eq n e.0) refl
  where
    by : lookup (nat_eq m) (remove_entry (nat_eq n) es) ≡ lookup (nat_eq m) es
        → (b : Bool) → nat_eq n e.0 ≡ b
        → lookup (nat_eq m) (cond b es (e ∷ remove_entry (nat_eq n) es))
        ≡ cond (nat_eq m e.0) (Some e.1) (lookup (nat_eq m) es)
    by ih true eq =
        sym (ap (λ b. cond b (Some e.1) (lookup (nat_eq m) es))
        (ap (nat_eq m) (sym (eqb-true n e.0 eq)) ∙ apart))
    by ih false eq = ap (cond (nat_eq m e.0) (Some e.1)) ih

pub Distinct-append : (n key : ℕ) (es : List (ℕ × ℕ)) → Distinct es
    → lookup (nat_eq n) es ≡ None → Distinct (es ++ (n, key) ∷ [])
Distinct-append n key [] all new = (refl, tt)
Distinct-append n key (e ∷ es) all new =
    let parts = lookup_none-parts (nat_eq n) e es new in
    let apart : nat_eq e.0 n ≡ false = turned n e.0 parts.0 in (
      lookup-append_none (nat_eq e.0) es n key all.0 ∙ ap (λ b. cond b (Some key) None) apart,
      Distinct-append n key es all.1 parts.1,
    )

pub Distinct-remove : (other : ℕ → Bool) (es : List (ℕ × ℕ)) → Distinct es
    → Distinct (remove_entry other es)
Distinct-remove other [] all = tt
Distinct-remove other (e ∷ es) all = by (Distinct-remove other es all.1) (other e.0)
  where
    by : Distinct (remove_entry other es) → (b : Bool)
        → Distinct (cond b es (e ∷ remove_entry other es))
    by ih true = all.1
    by ih false = (lookup-remove_none (nat_eq e.0) other es all.0, ih)

-- a number that is removed is not found
pub lookup-removed : (n : ℕ) (es : List (ℕ × ℕ)) → Distinct es
    → lookup (nat_eq n) (remove_entry (nat_eq n) es) ≡ None
lookup-removed n [] once = refl
lookup-removed n (e ∷ es) once = by (lookup-removed n es once.1) (nat_eq n e.0) refl
  where
    by : lookup (nat_eq n) (remove_entry (nat_eq n) es) ≡ None → (b : Bool) → nat_eq n e.0 ≡ b
        → lookup (nat_eq n) (cond b es (e ∷ remove_entry (nat_eq n) es)) ≡ None
    by ih true eq = ap (λ m. lookup (nat_eq m) es) (eqb-true n e.0 eq) ∙ once.0
    by ih false eq =
        ap (λ b. cond b (Some e.1) (lookup (nat_eq n) (remove_entry (nat_eq n) es))) eq ∙ ih

-- a number that is not listed is not removed
pub remove-absent : (n : ℕ) (es : List (ℕ × ℕ)) → lookup (nat_eq n) es ≡ None
    → remove_entry (nat_eq n) es ≡ es
remove-absent n [] none = refl
remove-absent n (e ∷ es) none =
    let parts = lookup_none-parts (nat_eq n) e es none in
    ap (λ b. cond b es (e ∷ remove_entry (nat_eq n) es)) parts.0
    ∙ ap (λ xs. e ∷ xs) (remove-absent n es parts.1)

-- a number that is listed again is removed as before
pub remove-inserted : (n s : ℕ) (es : List (ℕ × ℕ))
    → remove_entry (nat_eq n) (insert_entry nat_eq es n s) ≡ remove_entry (nat_eq n) es
remove-inserted n s [] = ap (λ b. cond b [] ((n, s) ∷ [])) (eq-eqb n n refl)
remove-inserted n s (e ∷ es) = by (remove-inserted n s es) (nat_eq n e.0) refl
  where
    rest : List (ℕ × ℕ)
    rest = remove_entry (nat_eq n) es

    by : remove_entry (nat_eq n) (insert_entry nat_eq es n s) ≡ rest → (b : Bool)
        → nat_eq n e.0 ≡ b
        → remove_entry (nat_eq n) (cond b ((e.0, s) ∷ es) (e ∷ insert_entry nat_eq es n s))
        ≡ cond b es (e ∷ rest)
    by ih true eq = ap (λ b. cond b es ((e.0, s) ∷ rest)) eq
    by ih false eq =
        ap (λ b. cond b (insert_entry nat_eq es n s)
        (e ∷ remove_entry (nat_eq n) (insert_entry nat_eq es n s))) eq
        ∙ ap (λ xs. e ∷ xs) ih
