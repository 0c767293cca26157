-- A queue whose first waiter is removed until none is left.
use Rattle.std.proofs.Common.{◌≡◌, ℕ, ◌<◌, ◌≤◌, length, ◌==◌, Bool, true, false, cond, not, ◌||◌}
use Rattle.std.proofs.Common.{filter, List, [], ◌∷◌, ◌++◌, map, Option, Some, refl, sym, ap}
use Rattle.std.proofs.Common.{◌∙◌, subst, append_assoc, arith, eq-eqb}
use Rattle.std.specs.Prelude.{IfSome, IsSome}
use Rattle.std.specs.List.{list_any}
use Rattle.std.proofs.lemmas.Bool.{false≢true, ne_eqb}
use Rattle.std.proofs.lemmas.Bool.Decides.{nat_tests}
use Rattle.pt_waitq.specs.declared.waiter.Waiter.{Waiter}
use Rattle.pt_records.specs.declared.answers.Answered.{Answered}
use Rattle.pt_records.specs.Arrivals.{answer_to, answer_to_earlier, with_serial}
use Rattle.pt_waitq.specs.Queues.{head_of, of_client, is_queued_in, other_waiters}
use Rattle.pt_waitq.specs.ListLemmas.{filter-rest}
use Rattle.pt_waitq.proofs.CallerLemmas.{head-stands}

-- a queue is no longer without a client's waiters than with them
other_waiters-length : (c : ℕ) (ws : List Waiter) → length (other_waiters c ws) ≤ length ws
other_waiters-length c [] = omega arith
other_waiters-length c (w ∷ ws) = go (not (w.client == c)) (other_waiters-length c ws)
  where
    go : (b : Bool) → length (other_waiters c ws) ≤ length ws
        → length (cond b (w ∷ other_waiters c ws) (other_waiters c ws)) ≤ length (w ∷ ws)
    go true ih = omega (arith, ih)
    go false ih = omega (arith, ih)

-- a queue is shorter without its first waiter
pub first-out : (ws : List Waiter) (w : Waiter) → head_of ws ≡ Some w
    → length (other_waiters w.client ws) < length ws
first-out [] w e = absurd cc
first-out (v ∷ vs) w e =
    let same : v ≡ w = cc in
    let own : v.client ≡ w.client = ap (λ (x : Waiter). x.client) same in
    rw (eq-eqb v.client w.client own) (omega (arith, other_waiters-length w.client vs))

-- what is known of the queues after the first waiter of one is removed, if there is one
module _ (queue queue' : ℕ → List Waiter) (found : Option Waiter) where
  pub taken : (w : Waiter) → found ≡ Some w
      → IfSome found (λ v. (q : ℕ) → queue' q ≡ other_waiters v.client (queue q))
      → (q : ℕ) → queue' q ≡ other_waiters w.client (queue q)
  taken w is out =
      subst (λ o. IfSome o (λ v. (q : ℕ) → queue' q ≡ other_waiters v.client (queue q))) is out

-- the first waiter of one queue is in no other
pub others-stay :
    (queue : ℕ → List Waiter)
    → ((c q r : ℕ) → is_queued_in c (queue q) ≡ true → is_queued_in c (queue r) ≡ true → q ≡ r)
    → (object : ℕ) (w : Waiter) → head_of (queue object) ≡ Some w
    → (q : ℕ) → (object == q) ≡ false → other_waiters w.client (queue q) ≡ queue q
others-stay queue one object w e q ne =
    filter-rest (λ (v : Waiter). v.client == w.client) (queue q)
    (none (is_queued_in w.client (queue q)) refl)
  where
    none : (b : Bool) → is_queued_in w.client (queue q) ≡ b → is_queued_in w.client (queue q)
        ≡ false
    none false k = k
    none true k =
        let same : object ≡ q =
        one w.client object q (head-stands (queue object) w e) k in
        absurd (false≢true (sym ne ∙ eq-eqb object q same))

none-any : (p : Waiter → Bool) (ws : List Waiter) → length (filter p ws) ≤ 0
    → list_any p ws ≡ false
none-any p [] le = refl
none-any p (w ∷ ws) le = go (p w) le (none-any p ws)
  where
    go : (b : Bool) → length (cond b (w ∷ filter p ws) (filter p ws)) ≤ 0
        → (length (filter p ws) ≤ 0 → list_any p ws ≡ false) → (b || list_any p ws) ≡ false
    go true few ih = absurd (omega (arith, few))
    go false few ih = ih few

-- a queue in which its first waiter's client waits once is that waiter, and then all without that
-- client
pub first-split : (ws : List Waiter) (w : Waiter) → head_of ws ≡ Some w
    → length (of_client w.client ws) ≤ 1 → ws ≡ w ∷ other_waiters w.client ws
first-split [] w e le = absurd cc
first-split (v ∷ vs) w e le =
    let same : v ≡ w = cc in
    let own : (v.client == w.client) ≡ true =
    eq-eqb v.client w.client (ap (λ (x : Waiter). x.client) same) in
    go (v.client == w.client) own same le
  where
    go : (b : Bool) → b ≡ true → v ≡ w
        → length (cond b (v ∷ of_client w.client vs) (of_client w.client vs)) ≤ 1
        → v ∷ vs ≡ w ∷ cond (not b) (v ∷ other_waiters w.client vs) (other_waiters w.client vs)
    go false t same few = absurd (false≢true t)
    go true t same few =
        let none = none-any (λ (x : Waiter). x.client == w.client) vs (omega (arith, few)) in
        ap (λ x. x ∷ vs) same
        ∙ ap (λ xs. w ∷ xs)
        (sym (filter-rest (λ (x : Waiter). x.client == w.client) vs none))

-- a queue with a waiter has a first one
pub some-first : (ws : List Waiter) → 0 < length ws → IsSome (head_of ws)
some-first [] e = absurd (omega (arith, e))
some-first (w ∷ ws) e = refl

-- a queue without waiters is empty
pub none-left : (ws : List Waiter) → length ws ≡ 0 → ws ≡ []
none-left [] e = refl
none-left (w ∷ ws) e = absurd (omega (arith, e))

-- the answer to the first waiter of a queue comes first
pub serial-first : (k : ℕ) (w : Waiter) (left : List Waiter)
    → with_serial (map (answer_to_earlier k) (w ∷ left))
    ≡ answer_to k (length left == 0) w ∷ with_serial (map (answer_to_earlier k) left)
serial-first k w [] = refl
serial-first k w (v ∷ vs) =
    ap (λ b. answer_to k b w ∷ with_serial (map (answer_to_earlier k) (v ∷ vs)))
    (sym (ne_eqb (length (v ∷ vs)) 0 (λ e. omega (arith, e))))

-- the first waiter of the queue was answered, and has left it
pub told-first : (k : ℕ) (last : Bool) (now then : List Answered) (ws left : List Waiter)
    (w : Waiter) → last ≡ (length left == 0) → then ≡ now ++ answer_to k last w ∷ []
    → ws ≡ w ∷ left
    → then ++ with_serial (map (answer_to_earlier k) left) ≡ now
    ++ with_serial (map (answer_to_earlier k) ws)
told-first k last now then ws left w ends is split =
    let rest = with_serial (map (answer_to_earlier k) left) in
    ap (λ ts. ts ++ rest) is
    ∙ (append_assoc now (answer_to k last w ∷ []) rest
    ∙ (ap (λ b. now ++ answer_to k b w ∷ rest) ends
    ∙ (ap (λ ts. now ++ ts) (sym (serial-first k w left))
    ∙ ap (λ vs. now ++ with_serial (map (answer_to_earlier k) vs)) (sym split))))

-- the queue that was emptied is empty, and the others are unchanged
pub emptied-one : (b q : ℕ) (queue old : ℕ → List Waiter) → queue b ≡ []
    → ((r : ℕ) → (b == r) ≡ false → queue r ≡ old r) → queue q ≡ cond (b == q) [] (old q)
emptied-one b q queue old none others = go (b == q) refl
  where
    go : (t : Bool) → (b == q) ≡ t → queue q ≡ cond t [] (old q)
    go false ne = others q ne
    go true e =
        let same : b ≡ q = grind (arith, nat_tests) in
        subst (λ (r : ℕ). queue r ≡ []) same none
