-- How many queues have a waiter, as waiters come and go.
use Rattle.std.proofs.Common.{◌≡◌, ℕ, suc, ◌==◌, ◌+◌, ◌≤◌, Bool, true, false, cond, ◌||◌, not}
use Rattle.std.proofs.Common.{List, [], ◌∷◌, ◌++◌, length, filter, inl, inr, refl, sym, ap, ◌∙◌}
use Rattle.std.proofs.Common.{arith, eq-eqb}
use Rattle.std.specs.List.{AllByRecursion as Each}
use Rattle.std.proofs.lemmas.Bool.Decides.{nat_tests}
use Rattle.std.proofs.lemmas.Bool.{false≢true}
use Rattle.pt_waitq.specs.declared.waiter.Waiter.{Waiter}
use Rattle.pt_waitq.specs.Queues.{In, is_queued_in}
use Rattle.pt_waitq.specs.Waits.{is_listed, has_waiter, queue_of, IsOnce}
use Rattle.pt_waitq.specs.ListLemmas.{any-in, filter-rest, Each-in}
use Rattle.pt_waitq.specs.WaitingLemmas.{entry-queued}
use Rattle.pt_chains.specs.Chains.{numbers, Unique}
use Rattle.pt_chains.specs.Boxes.{busy_queue_count}
use Rattle.pt_chains.proofs.ChainLemmas.{queue-none}
use Rattle.pt_chains.proofs.InsertLemmas.{no-more}

-- no more queues than waiters
pub busy_queue_count-few : (es : List (ℕ × Waiter)) → busy_queue_count es ≤ length es
busy_queue_count-few [] = omega arith
busy_queue_count-few (e ∷ es) = go (is_listed e.0 (numbers es)) (busy_queue_count-few es)
  where
    go : (b : Bool) → busy_queue_count es ≤ length es
        → cond b (busy_queue_count es) (busy_queue_count es + 1) ≤ suc (length es)
    go true ih = omega (arith, ih)
    go false ih = omega (arith, ih)

eq_swap : (m n : ℕ) → (m == n) ≡ (n == m)
eq_swap m n = go (m == n) (n == m) refl refl
  where
    go : (s t : Bool) → (m == n) ≡ s → (n == m) ≡ t → s ≡ t
    go true true p q = refl
    go true false p q = absurd (grind (arith, nat_tests))
    go false true p q = absurd (grind (arith, nat_tests))
    go false false p q = refl

-- if one more waiter is listed
step : (t l m a : Bool) (more n : ℕ) → a ≡ (l || t) → (t ≡ true → l ≡ m)
    → more ≡ cond m n (n + 1)
    → cond a more (more + 1) ≡ cond (t || m) (cond l n (n + 1)) (cond l n (n + 1) + 1)
step true true true a more n p q r = rw (p, r) refl
step true true false a more n p q r = absurd (false≢true (sym (q refl)))
step true false true a more n p q r = absurd (false≢true (q refl))
step true false false a more n p q r = rw (p, r) refl
step false true true a more n p q r = rw (p, r) refl
step false true false a more n p q r = rw (p, r) refl
step false false true a more n p q r = rw (p, r) refl
step false false false a more n p q r = rw (p, r) refl

listed-more : (n : ℕ) (es : List (ℕ × Waiter)) (e : ℕ × Waiter)
    → is_listed n (numbers (es ++ e ∷ [])) ≡ (is_listed n (numbers es) || (e.0 == n))
listed-more n [] e = go (e.0 == n)
  where
    go : (b : Bool) → (b || false) ≡ b
    go true = refl
    go false = refl
listed-more n (x ∷ es) e = go (x.0 == n) (listed-more n es e)
  where
    go : (b : Bool)
        → is_listed n (numbers (es ++ e ∷ [])) ≡ (is_listed n (numbers es) || (e.0 == n))
        → (b || is_listed n (numbers (es ++ e ∷ [])))
        ≡ ((b || is_listed n (numbers es)) || (e.0 == n))
    go true ih = refl
    go false ih = ih

same-listed : (m n : ℕ) (es : List (ℕ × Waiter)) → (m == n) ≡ true
    → is_listed m (numbers es) ≡ is_listed n (numbers es)
same-listed m n es e =
    let same : m ≡ n = grind (arith, nat_tests) in
    ap (λ k. is_listed k (numbers es)) same

-- one more waiter
pub busy_queue_count-more : (es : List (ℕ × Waiter)) (e : ℕ × Waiter)
    → busy_queue_count (es ++ e ∷ [])
    ≡ cond (is_listed e.0 (numbers es)) (busy_queue_count es) (busy_queue_count es + 1)
busy_queue_count-more [] e = refl
busy_queue_count-more (x ∷ es) e =
    step (x.0 == e.0) (is_listed x.0 (numbers es)) (is_listed e.0 (numbers es)) _ _
    (busy_queue_count es)
    (listed-more x.0 es e ∙ ap (λ b. is_listed x.0 (numbers es) || b) (eq_swap e.0 x.0))
    (same-listed x.0 e.0 es) (busy_queue_count-more es e)

listed-in : (e : ℕ × Waiter) (es : List (ℕ × Waiter)) → In e es
    → is_listed e.0 (numbers es) ≡ true
listed-in e [] i = absurd i
listed-in e (x ∷ es) (inl h) =
    ap (λ b. b || is_listed e.0 (numbers es))
    (eq-eqb x.0 e.0 (ap (λ (y : ℕ × Waiter). y.0) (sym h)))
listed-in e (x ∷ es) (inr i) = go (x.0 == e.0) (listed-in e es i)
  where
    go : (b : Bool) → is_listed e.0 (numbers es) ≡ true → (b || is_listed e.0 (numbers es)) ≡ true
    go true ih = refl
    go false ih = ih

module _ (c : ℕ) where
  -- all waiters but the client's
  abbrev left : List (ℕ × Waiter) → List (ℕ × Waiter)
  left es = filter (λ e. not (e.1.client == c)) es

  disjoint : (x e : ℕ × Waiter) (es : List (ℕ × Waiter)) → has_waiter x.1.client es ≡ false
      → In e es → e.1.client ≡ c → (x.1.client == c) ≡ false
  disjoint x e es none i is = go (x.1.client == c) refl
    where
      go : (b : Bool) → (x.1.client == c) ≡ b → b ≡ false
      go false t = refl
      go true t =
          let same : e.1.client ≡ x.1.client = grind (arith, nat_tests, is) in
          let test = λ (y : ℕ × Waiter). y.1.client == x.1.client in
          absurd (false≢true (sym none
          ∙ any-in test es e i (eq-eqb e.1.client x.1.client same)))

  -- the first of these is the client's
  left-own : (x e : ℕ × Waiter) (es : List (ℕ × Waiter)) → has_waiter x.1.client es ≡ false
      → e ≡ x → e.1.client ≡ c → left (x ∷ es) ≡ es
  left-own x e es none h is =
      let own : x.1.client ≡ c = ap (λ (y : ℕ × Waiter). y.1.client) (sym h) ∙ is in
      let gone = ap (λ n. has_waiter n es) (sym own) ∙ none in
      rw (eq-eqb x.1.client c own)
      (filter-rest (λ (y : ℕ × Waiter). y.1.client == c) es gone)

  left-other : (x : ℕ × Waiter) (es : List (ℕ × Waiter)) → (x.1.client == c) ≡ false
      → left (x ∷ es) ≡ x ∷ left es
  left-other x es t = rw t refl

  listed-left : (n : ℕ) (e : ℕ × Waiter) (es : List (ℕ × Waiter)) → IsOnce es → In e es
      → e.1.client ≡ c → (e.0 == n) ≡ false
      → is_listed n (numbers (left es)) ≡ is_listed n (numbers es)
  listed-left n e [] once i is off = absurd i
  listed-left n e (x ∷ es) once (inl h) is off =
      let far : (x.0 == n) ≡ false = ap (λ (y : ℕ × Waiter). y.0 == n) (sym h) ∙ off in
      ap (λ xs. is_listed n (numbers xs)) (left-own x e es once.0 h is)
      ∙ sym (ap (λ b. b || is_listed n (numbers es)) far)
  listed-left n e (x ∷ es) once (inr i) is off =
      ap (λ xs. is_listed n (numbers xs)) (left-other x es (disjoint x e es once.0 i is))
      ∙ ap (λ b. (x.0 == n) || b) (listed-left n e es once.1 i is off)

  -- the client's one waiter is taken out
  pub busy_queue_count-fewer : (e : ℕ × Waiter) (es : List (ℕ × Waiter)) → IsOnce es → In e es
      → e.1.client ≡ c
      → busy_queue_count es ≡ cond (is_listed e.0 (numbers (left es))) (busy_queue_count (left es))
      (busy_queue_count (left es) + 1)
  busy_queue_count-fewer e [] once i is = absurd i
  busy_queue_count-fewer e (x ∷ es) once (inl h) is =
      let number = ap (λ (y : ℕ × Waiter). y.0) h in
      sym (ap (λ xs. cond (is_listed e.0 (numbers xs)) (busy_queue_count xs)
      (busy_queue_count xs + 1))
      (left-own x e es once.0 h is)
      ∙ ap (λ n. cond (is_listed n (numbers es)) (busy_queue_count es)
      (busy_queue_count es + 1)) number)
  busy_queue_count-fewer e (x ∷ es) once (inr i) is =
      step (x.0 == e.0) (is_listed x.0 (numbers (left es))) (is_listed e.0 (numbers (left es))) _ _
      (busy_queue_count (left es)) (was (x.0 == e.0) refl) (same-listed x.0 e.0 (left es))
      (busy_queue_count-fewer e es once.1 i is)
      ∙ sym (ap (λ xs. cond (is_listed e.0 (numbers xs)) (busy_queue_count xs)
      (busy_queue_count xs + 1))
      (left-other x es (disjoint x e es once.0 i is)))
    where
      was : (t : Bool) → (x.0 == e.0) ≡ t
          → is_listed x.0 (numbers es) ≡ (is_listed x.0 (numbers (left es)) || t)
      was true q =
          same-listed x.0 e.0 es q ∙ (listed-in e es i
          ∙ sym (go (is_listed x.0 (numbers (left es)))))
        where
          go : (b : Bool) → (b || true) ≡ true
          go true = refl
          go false = refl
      was false q =
          sym (listed-left x.0 e es once.1 i is (eq_swap e.0 x.0 ∙ q))
          ∙ go (is_listed x.0 (numbers (left es)))
        where
          go : (b : Bool) → b ≡ (b || false)
          go true = refl
          go false = refl

-- a queue has a waiter if its number is listed
listed-entry : (o : ℕ) (es : List (ℕ × Waiter)) → is_listed o (numbers es) ≡ true
    → (e : ℕ × Waiter) × In e es × (e.0 ≡ o)
listed-entry o [] h = absurd (false≢true h)
listed-entry o (x ∷ es) h = go (x.0 == o) refl h (listed-entry o es)
  where
    go : (b : Bool) → (x.0 == o) ≡ b → (b || is_listed o (numbers es)) ≡ true
        → (is_listed o (numbers es) ≡ true → (e : ℕ × Waiter) × In e es × (e.0 ≡ o))
        → (e : ℕ × Waiter) × In e (x ∷ es) × (e.0 ≡ o)
    go true t k ih = (x, inl refl, grind (arith, nat_tests, t))
    go false t k ih = let r = ih k in (r.0, inr r.1, r.2)

pub listed-none : (o : ℕ) (es : List (ℕ × Waiter)) → is_listed o (numbers es) ≡ false
    → Each (λ e. (e.0 == o) ≡ false) es
listed-none o [] h = tt
listed-none o (x ∷ es) h = go (x.0 == o) refl h (listed-none o es)
  where
    go : (b : Bool) → (x.0 == o) ≡ b → (b || is_listed o (numbers es)) ≡ false
        → (is_listed o (numbers es) ≡ false → Each (λ e. (e.0 == o) ≡ false) es)
        → ((x.0 == o) ≡ false) × Each (λ e. (e.0 == o) ≡ false) es
    go true t k ih = absurd (false≢true (sym k))
    go false t k ih = (t, ih k)

not-empty : (c : ℕ) (ws : List Waiter) → is_queued_in c ws ≡ true → (length ws == 0) ≡ false
not-empty c [] h = absurd (false≢true h)
not-empty c (w ∷ ws) h = go (length (w ∷ ws) == 0) refl
  where
    go : (b : Bool) → (length (w ∷ ws) == 0) ≡ b → b ≡ false
    go false e = refl
    go true e = absurd (grind (arith, nat_tests))

pub empty-listed : (o : ℕ) (es : List (ℕ × Waiter))
    → (length (queue_of o es) == 0) ≡ not (is_listed o (numbers es))
empty-listed o es = go (is_listed o (numbers es)) refl
  where
    go : (b : Bool) → is_listed o (numbers es) ≡ b → (length (queue_of o es) == 0) ≡ not b
    go true h =
        let e = listed-entry o es h in
        ap (λ q. length (queue_of q es) == 0) (sym e.2)
        ∙ not-empty e.0.1.client (queue_of e.0.0 es) (entry-queued e.0 es e.1)
    go false h = ap (λ ws. length ws == 0) (queue-none o es (listed-none o es h))

zero-is : (n : ℕ) (b : Bool) → (n == 0) ≡ not b → n ≡ 0 → b ≡ false
zero-is n false e z = refl
zero-is n true e z = absurd (grind (arith, nat_tests))

more-is : (n : ℕ) (b : Bool) → (n == 0) ≡ not b → (n ≡ 0 → ⊥) → b ≡ true
more-is n true e z = refl
more-is n false e z = absurd (z (grind (arith, nat_tests)))

pub zero-listed : (o : ℕ) (es : List (ℕ × Waiter)) → length (queue_of o es) ≡ 0
    → is_listed o (numbers es) ≡ false
zero-listed o es z = zero-is (length (queue_of o es)) _ (empty-listed o es) z

pub more-listed : (o : ℕ) (es : List (ℕ × Waiter)) → (length (queue_of o es) ≡ 0 → ⊥)
    → is_listed o (numbers es) ≡ true
more-listed o es z = more-is (length (queue_of o es)) _ (empty-listed o es) z

-- the numbers of the queues that have a waiter, each once
abbrev distinct : List (ℕ × Waiter) → List ℕ
distinct [] = []
distinct (e ∷ es) = cond (is_listed e.0 (numbers es)) (distinct es) (e.0 ∷ distinct es)

length-distinct : (es : List (ℕ × Waiter)) → length (distinct es) ≡ busy_queue_count es
length-distinct [] = refl
length-distinct (e ∷ es) = go (is_listed e.0 (numbers es)) (length-distinct es)
  where
    go : (b : Bool) → length (distinct es) ≡ busy_queue_count es
        → length (cond b (distinct es) (e.0 ∷ distinct es))
        ≡ cond b (busy_queue_count es) (busy_queue_count es + 1)
    go true ih = ih
    go false ih = omega (arith, ih)

listed-distinct : (n : ℕ) (es : List (ℕ × Waiter))
    → is_listed n (distinct es) ≡ is_listed n (numbers es)
listed-distinct n [] = refl
listed-distinct n (e ∷ es) =
    go (is_listed e.0 (numbers es)) (e.0 == n) refl refl (listed-distinct n es)
  where
    go : (b t : Bool) → is_listed e.0 (numbers es) ≡ b → (e.0 == n) ≡ t
        → is_listed n (distinct es) ≡ is_listed n (numbers es)
        → is_listed n (cond b (distinct es) (e.0 ∷ distinct es)) ≡ (t || is_listed n (numbers es))
    go true true p q ih = ih ∙ (sym (same-listed e.0 n es q) ∙ p)
    go true false p q ih = ih
    go false t p q ih = ap (λ b. b || is_listed n (distinct es)) q ∙ ap (λ b. t || b) ih

unique-distinct : (es : List (ℕ × Waiter)) → Unique (distinct es)
unique-distinct [] = tt
unique-distinct (e ∷ es) = go (is_listed e.0 (numbers es)) refl (unique-distinct es)
  where
    go : (b : Bool) → is_listed e.0 (numbers es) ≡ b → Unique (distinct es)
        → Unique (cond b (distinct es) (e.0 ∷ distinct es))
    go true p ih = ih
    go false p ih = (listed-distinct e.0 es ∙ p, ih)

-- with one more queue that has no waiter yet, they are no more than all queues
pub busy_queue_count-made : (o : ℕ) (os : List ℕ) (es : List (ℕ × Waiter)) → is_listed o os ≡ true
    → Each (λ e. is_listed e.0 os ≡ true) es → is_listed o (numbers es) ≡ false
    → busy_queue_count es + 1 ≤ length os
busy_queue_count-made o os es is_queue all none =
    let most = no-more (o ∷ distinct es) os (listed-distinct o es ∙ none, unique-distinct es)
    (λ m i. go m (o == m) refl i) in
    omega (arith, most, length-distinct es)
  where
    go : (m : ℕ) (b : Bool) → (o == m) ≡ b → (b || is_listed m (distinct es)) ≡ true
        → is_listed m os ≡ true
    go m true t i =
        let same : o ≡ m = grind (arith, nat_tests) in
        ap (λ k. is_listed k os) (sym same) ∙ is_queue
    go m false t i =
        let e = listed-entry m es (sym (listed-distinct m es) ∙ i) in
        ap (λ k. is_listed k os) (sym e.2)
        ∙ Each-in (λ (x : ℕ × Waiter). is_listed x.0 os ≡ true) es e.0 all e.1
