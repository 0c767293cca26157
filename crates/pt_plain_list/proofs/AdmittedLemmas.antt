-- Which clients are admitted, when the lists change.
use Rattle.std.proofs.Common.{◌≡◌, ℕ, ◌==◌, ◌<◌, Bool, true, false, not, ◌&&◌, ◌||◌, List, [], ◌∷◌}
use Rattle.std.proofs.Common.{◌++◌, length, filter, Option, Some, None, IfSome, IfNone, is_some}
use Rattle.std.proofs.Common.{refl, sym, ap, ◌∙◌, arith, eq-eqb}
use Rattle.std.proofs.lemmas.Bool.Decides.{nat_tests}
use Rattle.pt_waitq.specs.declared.waiter.Waiter.{Waiter}
use Rattle.pt_waitq.specs.Queues.{In}
use Rattle.pt_waitq.specs.Waits.{is_listed, has_waiter}
use Rattle.pt_waitq.specs.ListLemmas.{any-in, any-out, any-append, any-without, filter-fewer}

-- a client that waits nowhere is dismissed
pub dismissed : (c : ℕ) (cs : List ℕ) (es : List (ℕ × Waiter)) → has_waiter c es ≡ false
    → (d : ℕ) → (is_listed d (filter (λ x. not (x == c)) cs) || has_waiter d es)
    ≡ (not (c == d) && (is_listed d cs || has_waiter d es))
dismissed c cs es n d = rw (any-without (λ (x : ℕ). x) c d cs) (go (c == d) refl)
  where
    go : (b : Bool) → (c == d) ≡ b
        → ((not b && is_listed d cs) || has_waiter d es)
        ≡ (not b && (is_listed d cs || has_waiter d es))
    go true e =
        let same : c ≡ d = grind (arith, nat_tests) in
        ap (λ k. has_waiter k es) (sym same) ∙ n
    go false e = refl

or_true : (y : Bool) → (y || true) ≡ true
or_true true = refl
or_true false = refl

-- an idle client begins to wait
pub inserted : (c : ℕ) (cs : List ℕ) (es : List (ℕ × Waiter)) (e : ℕ × Waiter)
    → e.1.client ≡ c → is_listed c cs ≡ true
    → (d : ℕ) → (is_listed d (filter (λ x. not (x == c)) cs) || has_waiter d (es ++ e ∷ []))
    ≡ (is_listed d cs || has_waiter d es)
inserted c cs es e is a d =
    let more = any-append (λ (x : ℕ × Waiter). x.1.client == d) es (e ∷ []) in
    rw (any-without (λ (x : ℕ). x) c d cs, more, is) (
    go (c == d) (is_listed d cs) (has_waiter d es) refl refl)
  where
    go : (b x y : Bool) → (c == d) ≡ b → is_listed d cs ≡ x
        → ((not b && x) || (y || (b || false))) ≡ (x || y)
    go true x y t ex =
        let same : c ≡ d = grind (arith, nat_tests) in
        let there : x ≡ true = sym ex ∙ (ap (λ k. is_listed k cs) (sym same) ∙ a) in
        or_true y ∙ sym (ap (λ b. b || y) there)
    go false true y t ex = refl
    go false false true t ex = refl
    go false false false t ex = refl

-- one more client is idle
pub admitted-more : (c : ℕ) (cs : List ℕ) (es : List (ℕ × Waiter)) (d : ℕ)
    → (is_listed d (cs ++ c ∷ []) || has_waiter d es)
    ≡ ((c == d) || (is_listed d cs || has_waiter d es))
admitted-more c cs es d =
    ap (λ b. b || has_waiter d es) (any-append (λ (x : ℕ). x == d) cs (c ∷ []))
    ∙ go (c == d) (is_listed d cs) (has_waiter d es)
  where
    go : (b x y : Bool) → ((x || (b || false)) || y) ≡ (b || (x || y))
    go true true y = refl
    go true false y = refl
    go false true y = refl
    go false false y = refl

-- a client that waits becomes idle
pub removed : (c : ℕ) (cs : List ℕ) (es : List (ℕ × Waiter)) → has_waiter c es ≡ true
    → (d : ℕ)
    → (is_listed d (cs ++ c ∷ []) || has_waiter d (filter (λ e. not (e.1.client == c)) es))
    ≡ (is_listed d cs || has_waiter d es)
removed c cs es a d =
    let more = any-append (λ (x : ℕ). x == d) cs (c ∷ []) in
    rw (any-without (λ (e : ℕ × Waiter). e.1.client) c d es, more) (
    go (c == d) (is_listed d cs) (has_waiter d es) refl refl)
  where
    go : (b x y : Bool) → (c == d) ≡ b → has_waiter d es ≡ y
        → ((x || (b || false)) || (not b && y)) ≡ (x || y)
    go true true y t ey = refl
    go true false y t ey =
        let same : c ≡ d = grind (arith, nat_tests) in
        sym (sym ey ∙ (ap (λ k. has_waiter k es) (sym same) ∙ a))
    go false true y t ey = refl
    go false false y t ey = refl

-- fewer clients are idle once one is taken out
pub fewer-idle : (c : ℕ) (cs : List ℕ) → is_listed c cs ≡ true
    → length (filter (λ x. not (x == c)) cs) < length cs
fewer-idle c cs a =
    let r = any-out (λ (x : ℕ). x == c) cs a in
    filter-fewer (λ (x : ℕ). not (x == c)) cs r.0 r.1 (ap not r.2)

pub fewer-waiting : (c : ℕ) (es : List (ℕ × Waiter)) → has_waiter c es ≡ true
    → length (filter (λ e. not (e.1.client == c)) es) < length es
fewer-waiting c es a =
    let r = any-out (λ (e : ℕ × Waiter). e.1.client == c) es a in
    filter-fewer (λ (e : ℕ × Waiter). not (e.1.client == c)) es r.0 r.1 (ap not r.2)

-- what a search for a client's entry returns
pub found-test : (c : ℕ) (es : List (ℕ × Waiter)) (o : Option (ℕ × Waiter))
    → IfSome o (λ e. In e es × (e.1.client ≡ c)) → IfNone o (has_waiter c es ≡ false)
    → is_some o ≡ has_waiter c es
found-test c es None a b = sym b
found-test c es (Some e) a b =
    sym (any-in (λ (x : ℕ × Waiter). x.1.client == c) es e a.0 (eq-eqb e.1.client c a.1))
