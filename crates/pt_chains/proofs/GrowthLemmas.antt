-- What stays true as room is made for one more client or queue.
use Rattle.std.proofs.Common.{◌≡◌, ℕ, ◌==◌, ◌+◌, ◌≤◌, min, Bool, true, false, ◌||◌, List, [], ◌∷◌}
use Rattle.std.proofs.Common.{◌++◌, ◌<◌, Option, Some, None, is_some, cond, refl, sym, ap, ◌∙◌}
use Rattle.std.proofs.Common.{subst, arith, length}
use Rattle.std.specs.Prelude.{Result, Ok, Err, IfOk, OnOk, OnErr, IsErr, IfSome}
use Rattle.std.specs.Option.{option_and_then}
use Rattle.std.specs.List.{AllByRecursion as Each}
use Rattle.std.proofs.lemmas.Bool.{false≢true}
use Rattle.pt_waitq.specs.declared.waiter.Waiter.{Waiter}
use Rattle.pt_chains.specs.declared.nodes.Node.{Node}
use Rattle.pt_chains.specs.declared.sides.Queue.{Queue}
use Rattle.pt_waitq.specs.Waits.{is_listed, has_waiter}
use Rattle.pt_chains.specs.Chains.{numbers, node_index_of, entry_in, AreChains}
use Rattle.pt_chains.specs.Boxes.{busy_queue_count, AreBoxes}
use Rattle.pt_chains.proofs.ChainLemmas.{listed-lookup, chains-agree}

-- the same nodes, and each client has the one that it had
pub chains-same : (homes hs : List (ℕ × ℕ)) (nodes ns : List (Option Node))
    (queues : List (ℕ × Queue)) (es : List (ℕ × Waiter))
    → ((d : ℕ) → node_index_of hs d ≡ node_index_of homes d) → length hs ≡ length homes → ns ≡ nodes
    → AreChains homes nodes queues es → AreChains hs ns queues es
chains-same homes hs nodes ns queues es same count alike a =
    subst (λ xs. AreChains hs xs queues es) (sym alike)
    (chains-agree homes hs nodes nodes queues es (λ d i. same d.1.client) (λ d i m e. refl)
    (λ d. ap (option_and_then (entry_in nodes)) (same d))
    (record {
      there = λ d n e. a.homed.there d n (sym (same d) ∙ e);
      disjoint = λ d e n h k. a.homed.disjoint d e n (sym (same d) ∙ h) (sym (same e) ∙ k);
      own = λ n d e. same d ∙ a.homed.own n d e;
      bounded = let bounded = a.homed.bounded in omega (arith, bounded, count);
    })
    a)

-- the same clients
pub still-listed : (homes hs : List (ℕ × ℕ)) (d : ℕ) → node_index_of hs d ≡ node_index_of homes d
    → is_listed d (numbers hs) ≡ is_listed d (numbers homes)
still-listed homes hs d same =
    listed-lookup d hs ∙ (ap is_some same ∙ sym (listed-lookup d homes))

-- no more boxes, and no less room
pub boxes-same : (clients clients' objects : ℕ) (es : List (ℕ × Waiter))
    (spares spares' room room' boxes : ℕ) → clients' ≡ clients → spares' ≡ spares → room ≤ room'
    → AreBoxes clients objects es spares room boxes
    → AreBoxes clients' objects es spares' room' boxes
boxes-same clients clients' objects es spares spares' room room' boxes fewer same wider b =
    record {
      count = b.count ∙ ap (λ n. busy_queue_count es + n) (sym same);
      enough = subst (λ n. min n objects ≤ boxes) (sym fewer) b.enough;
      fit = fits boxes room room' b.fit wider;
    }
  where
    fits : (m n k : ℕ) → m ≤ n → n ≤ k → m ≤ k
    fits m n k h l = omega arith

pub spares-few : (boxes waiting spares : ℕ) → boxes ≡ waiting + spares → spares ≤ boxes
spares-few boxes waiting spares e = omega arith

-- one more box is enough for one more client, or for one more queue
pub few-clients : (clients objects boxes homes queues wanted : ℕ) → min clients objects ≤ boxes
    → homes ≡ clients → queues ≡ objects → wanted ≡ min queues (homes + 1) → wanted ≤ boxes + 1
few-clients clients objects boxes homes queues wanted e h q w = omega arith

pub few-objects : (clients objects boxes homes queues wanted : ℕ) → min clients objects ≤ boxes
    → homes ≡ clients → queues ≡ objects → wanted ≡ min homes (queues + 1) → wanted ≤ boxes + 1
few-objects clients objects boxes homes queues wanted e h q w = omega arith

pub enough-clients : (clients clients' objects boxes homes queues wanted : ℕ) → wanted ≤ boxes
    → homes ≡ clients → queues ≡ objects → wanted ≡ min queues (homes + 1)
    → clients' ≡ clients + 1 → min clients' objects ≤ boxes
enough-clients clients clients' objects boxes homes queues wanted e h q w more = omega arith

pub enough-objects : (clients objects objects' boxes homes queues wanted : ℕ) → wanted ≤ boxes
    → homes ≡ clients → queues ≡ objects → wanted ≡ min homes (queues + 1)
    → objects' ≤ objects + 1 → min clients objects' ≤ boxes
enough-objects clients objects objects' boxes homes queues wanted e h q w more = omega arith

pub at-most : (n : ℕ) → n ≤ n
at-most n = omega arith

-- one more client is admitted
pub one-admitted : (homes hs : List (ℕ × ℕ)) (es : List (ℕ × Waiter)) (k n d : ℕ)
    → node_index_of hs d ≡ cond (k == d) (Some n) (node_index_of homes d)
    → (is_listed d (numbers hs) || has_waiter d es)
    ≡ ((k == d) || (is_listed d (numbers homes) || has_waiter d es))
one-admitted homes hs es k n d e =
    ap (λ b. b || has_waiter d es) (listed-lookup d hs ∙ ap is_some e)
    ∙ (go (k == d) (node_index_of homes d)
    ∙ ap (λ b. (k == d) || (b || has_waiter d es)) (sym (listed-lookup d homes)))
  where
    go : (b : Bool) (f : Option ℕ) → (is_some (cond b (Some n) f) || has_waiter d es)
        ≡ (b || (is_some f || has_waiter d es))
    go true f = refl
    go false f = refl

-- one more element at the end
pub each-more : {X : Type 0} (P : X → Type 0) (xs ys zs : List X) (x : X) → ys ≡ xs
    → zs ≡ ys ++ x ∷ [] → Each P xs → P x → Each P zs
each-more {X} P xs ys zs x same e a b =
    subst (Each P) (sym (e ∙ ap (λ l. l ++ x ∷ []) same)) (go xs a)
  where
    go : (l : List X) → Each P l → Each P (l ++ x ∷ [])
    go [] h = (b, tt)
    go (y ∷ l) h = (h.0, go l h.1)

-- what is said of an outcome holds if the result has the other one
pub if-err : {X E : Type 0} (r : Result X E) (P : X → Type 0) → IsErr r → IfOk r P
if-err (Ok x) P h = absurd (false≢true h)
if-err (Err e) P h = tt

pub if-none : {X : Type 0} (o : Option X) (P : X → Type 0) → o ≡ None → IfSome o P
if-none o P none = subst (λ x. IfSome x P) (sym none) tt

pub on-ok : {X E : Type 0} (r : Result X E) (P : Type 0) → P → OnOk r P
on-ok (Ok x) P h = h
on-ok (Err e) P h = tt

pub ok-not : {X E : Type 0} (r : Result X E) (P : Type 0) (e : E) → r ≡ Err e → OnOk r P
ok-not r P e is = subst (λ x. OnOk x P) (sym is) tt

pub err-not : {X E : Type 0} (r : Result X E) (P : Type 0) (x : X) → r ≡ Ok x → OnErr r P
err-not r P x is = subst (λ y. OnErr y P) (sym is) tt

pub few-more : (len n : ℕ) → len ≡ n → len < 4294967295 → n + 1 < 4294967296
few-more len n e less = omega arith

pub on-err : {X E : Type 0} (r : Result X E) (P : Type 0) → P → OnErr r P
on-err (Ok x) P h = tt
on-err (Err e) P h = h
