-- Which client waits where, and the waiters that are the last of their clients.
use Rattle.std.proofs.Common.{◌≡◌, ℕ, ◌≤◌, length, ◌==◌, inl, inr, Bool, true, false, cond, ◌&&◌}
use Rattle.std.proofs.Common.{◌||◌, not, List, [], ◌∷◌, ◌++◌, filter, refl, sym, ap, ◌∙◌, subst}
use Rattle.std.proofs.Common.{arith, eq-eqb}
use Rattle.std.proofs.lemmas.Bool.Decides.{nat_tests}
use Rattle.std.proofs.lemmas.Bool.{false≢true, and_from, and_parts}
use Rattle.pt_waitq.specs.declared.waiter.Waiter.{Waiter}
use Rattle.pt_waitq.specs.Queues.{In, is_queued_in, of_client, other_waiters}
use Rattle.pt_waitq.specs.Waits.{Waits, is_listed, has_waiter, queue_of, latest_waiters, waiting_of}
use Rattle.pt_waitq.specs.Waits.{queue_in, IsOnce, AllQueued}
use Rattle.pt_waitq.specs.ListLemmas.{any-in, any-out, any-append, any-filter, filter-all}
use Rattle.pt_waitq.specs.ListLemmas.{filter-none}
use Rattle.pt_waitq.specs.QueueLemmas.{queue_of-filter, any-queue_of}

-- a client that waits in a queue has an entry there
pub queued-entry : (c q : ℕ) (es : List (ℕ × Waiter)) → is_queued_in c (queue_of q es) ≡ true
    → (e : ℕ × Waiter) × In e es × (e.0 ≡ q) × (e.1.client ≡ c)
queued-entry c q es s =
    let test = λ (w : Waiter). w.client == c in
    let there = sym (any-queue_of test q es) ∙ s in
    let r = any-out (λ (e : ℕ × Waiter). (e.0 == q) && test e.1) es there in
    let both = and_parts (r.0.0 == q) (test r.0.1) r.2 in
    (r.0, r.1, grind (arith, nat_tests, both.0), grind (arith, nat_tests, both.1))

pub entry-queued : (e : ℕ × Waiter) (es : List (ℕ × Waiter)) → In e es
    → is_queued_in e.1.client (queue_of e.0 es) ≡ true
entry-queued e es i =
    let test = λ (w : Waiter). w.client == e.1.client in
    any-queue_of test e.0 es
    ∙ any-in (λ (d : ℕ × Waiter). (d.0 == e.0) && test d.1) es e i
    (and_from (e.0 == e.0) (test e.1) (eq-eqb e.0 e.0 refl) (eq-eqb e.1.client e.1.client refl))

false_unless : (b : Bool) → (b ≡ true → ⊥) → b ≡ false
false_unless true f = absurd (f refl)
false_unless false f = refl

-- a client that has no entry waits nowhere, and the other way round
pub nowhere : (c q : ℕ) (es : List (ℕ × Waiter)) → has_waiter c es ≡ false
    → is_queued_in c (queue_of q es) ≡ false
nowhere c q es n =
    false_unless (is_queued_in c (queue_of q es)) (λ s.
    let r = queued-entry c q es s in
    let t = any-in (λ (d : ℕ × Waiter). d.1.client == c) es r.0 r.1 (eq-eqb r.0.1.client c r.3) in
    absurd (false≢true (sym n ∙ t)))

pub no-entry : (c : ℕ) (es : List (ℕ × Waiter))
    → ((q : ℕ) → is_queued_in c (queue_of q es) ≡ false) → has_waiter c es ≡ false
no-entry c es f =
    false_unless (has_waiter c es) (λ h.
    let r = any-out (λ (d : ℕ × Waiter). d.1.client == c) es h in
    let same : r.0.1.client ≡ c = grind (arith, nat_tests, r.2) in
    let t = subst (λ n. is_queued_in n (queue_of r.0.0 es) ≡ true) same (entry-queued r.0 es r.1) in
    absurd (false≢true (sym (f r.0.0) ∙ t)))

-- the only entry of a client
filter-one : (c : ℕ) (e : ℕ × Waiter) (es : List (ℕ × Waiter)) → IsOnce es → In e es
    → e.1.client ≡ c → filter (λ d. d.1.client == c) es ≡ e ∷ []
filter-one c e [] o i is = absurd i
filter-one c e (d ∷ ds) o (inl h) is =
    let own : d.1.client ≡ c = ap (λ (x : ℕ × Waiter). x.1.client) (sym h) ∙ is in
    let none = filter-none (λ (x : ℕ × Waiter). x.1.client == c) ds (
    ap (λ n. has_waiter n ds) (sym own) ∙ o.0) in
    rw (eq-eqb d.1.client c own, none, h) refl
filter-one c e (d ∷ ds) o (inr i) is =
    go (d.1.client == c) refl (filter-one c e ds o.1 i is)
  where
    go : (b : Bool) → (d.1.client == c) ≡ b
        → filter (λ x. x.1.client == c) ds ≡ e ∷ []
        → cond b (d ∷ filter (λ x. x.1.client == c) ds) (filter (λ x. x.1.client == c) ds)
        ≡ e ∷ []
    go true t ih =
        let same : d.1.client ≡ c = grind (arith, nat_tests) in
        let has = any-in (λ (x : ℕ × Waiter). x.1.client == c) ds e i (eq-eqb e.1.client c is) in
        absurd (false≢true (sym o.0 ∙ (ap (λ n. has_waiter n ds) same ∙ has)))
    go false t ih = ih

pub only-waiter : (c : ℕ) (e : ℕ × Waiter) (es : List (ℕ × Waiter)) → IsOnce es → In e es
    → e.1.client ≡ c
    → (q : ℕ) → of_client c (queue_of q es) ≡ cond (e.0 == q) (e.1 ∷ []) []
only-waiter c e es o i is q =
    sym (queue_of-filter (λ w. w.client == c) q es) ∙ ap (queue_of q) (filter-one c e es o i is)

pub queue_of-other_waiters : (c q : ℕ) (es : List (ℕ × Waiter))
    → queue_of q (filter (λ e. not (e.1.client == c)) es) ≡ other_waiters c (queue_of q es)
queue_of-other_waiters c q es = queue_of-filter (λ w. not (w.client == c)) q es

-- each entry stays the only one of its client
pub IsOnce-push : (e : ℕ × Waiter) (es : List (ℕ × Waiter)) → IsOnce es
    → has_waiter e.1.client es ≡ false → IsOnce (es ++ e ∷ [])
IsOnce-push e [] o n = (refl, tt)
IsOnce-push e (d ∷ ds) o n =
    go (d.1.client == e.1.client) refl n (IsOnce-push e ds o.1)
  where
    go : (b : Bool) → (d.1.client == e.1.client) ≡ b → (b || has_waiter e.1.client ds) ≡ false
        → (has_waiter e.1.client ds ≡ false → IsOnce (ds ++ e ∷ []))
        → (has_waiter d.1.client (ds ++ e ∷ []) ≡ false) × IsOnce (ds ++ e ∷ [])
    go true t h ih = cc
    go false t h ih =
        let other : (e.1.client == d.1.client) ≡ false = grind (arith, nat_tests) in
        let more = any-append (λ (x : ℕ × Waiter). x.1.client == d.1.client) ds (e ∷ []) in
        (more ∙ rw (o.0, other) refl, ih h)

pub IsOnce-filter : (p : ℕ × Waiter → Bool) (es : List (ℕ × Waiter)) → IsOnce es
    → IsOnce (filter p es)
IsOnce-filter p [] o = tt
IsOnce-filter p (e ∷ es) o = go (p e) (IsOnce-filter p es o.1)
  where
    rest : List (ℕ × Waiter)
    rest = filter p es

    none : has_waiter e.1.client rest ≡ false
    none =
        false_unless (has_waiter e.1.client rest) (λ h.
        absurd (false≢true (
        sym o.0 ∙ any-filter p (λ (x : ℕ × Waiter). x.1.client == e.1.client) es h)))

    go : (b : Bool) → IsOnce rest → IsOnce (cond b (e ∷ rest) rest)
    go true ih = (none, ih)
    go false ih = ih

-- the last entry of each client
has_waiter-latest_waiters : (c : ℕ) (es : List (ℕ × Waiter)) → has_waiter c (latest_waiters es)
    ≡ has_waiter c es
has_waiter-latest_waiters c [] = refl
has_waiter-latest_waiters c (e ∷ es) =
    go (has_waiter e.1.client es) (e.1.client == c) refl refl (has_waiter-latest_waiters c es)
  where
    go : (b x : Bool) → has_waiter e.1.client es ≡ b → (e.1.client == c) ≡ x
        → has_waiter c (latest_waiters es) ≡ has_waiter c es
        → has_waiter c (cond b (latest_waiters es) (e ∷ latest_waiters es)) ≡ (x || has_waiter c es)
    go true true h t ih =
        let same : e.1.client ≡ c = grind (arith, nat_tests) in
        ih ∙ (ap (λ n. has_waiter n es) (sym same) ∙ h)
    go true false h t ih = ih
    go false x h t ih = rw t (ap (λ b. x || b) ih)

pub IsOnce-latest_waiters : (es : List (ℕ × Waiter)) → IsOnce (latest_waiters es)
IsOnce-latest_waiters [] = tt
IsOnce-latest_waiters (e ∷ es) = go (has_waiter e.1.client es) refl (IsOnce-latest_waiters es)
  where
    go : (b : Bool) → has_waiter e.1.client es ≡ b → IsOnce (latest_waiters es)
        → IsOnce (cond b (latest_waiters es) (e ∷ latest_waiters es))
    go true h ih = ih
    go false h ih = (has_waiter-latest_waiters e.1.client es ∙ h, ih)

latest_waiters-once : (es : List (ℕ × Waiter)) → IsOnce es → latest_waiters es ≡ es
latest_waiters-once [] o = refl
latest_waiters-once (e ∷ es) o = rw o.0 (ap (λ xs. e ∷ xs) (latest_waiters-once es o.1))

pub In-latest_waiters : (d : ℕ × Waiter) (es : List (ℕ × Waiter)) → In d (latest_waiters es)
    → In d es
In-latest_waiters d [] i = absurd i
In-latest_waiters d (e ∷ es) i = go (has_waiter e.1.client es) (In-latest_waiters d es) i
  where
    go : (b : Bool) → (In d (latest_waiters es) → In d es)
        → In d (cond b (latest_waiters es) (e ∷ latest_waiters es)) → In d (e ∷ es)
    go true ih h = inr (ih h)
    go false ih (inl h) = inl h
    go false ih (inr h) = inr (ih h)

-- if all waiters are queued, each queue is formed from all of them
pub all-queued : (w : Waits) → AllQueued w.objects w.waiting → waiting_of w ≡ w.waiting
all-queued w a =
    ap latest_waiters
    (filter-all (λ (e : ℕ × Waiter). is_listed e.0 w.objects) w.waiting a.is_queue)
    ∙ latest_waiters-once w.waiting a.once

pub queue-is : (w : Waits) → AllQueued w.objects w.waiting
    → (q : ℕ) → queue_in w q ≡ queue_of q w.waiting
queue-is w a q = ap (queue_of q) (all-queued w a)

-- two entries of one client are the same
pub one_entry : (d e : ℕ × Waiter) (es : List (ℕ × Waiter)) → IsOnce es → In d es → In e es
    → d.1.client ≡ e.1.client → d ≡ e
one_entry d e [] o i j same = absurd i
one_entry d e (x ∷ xs) o (inl h) (inl k) same = h ∙ sym k
one_entry d e (x ∷ xs) o (inr i) (inr j) same = one_entry d e xs o.1 i j same
one_entry d e (x ∷ xs) o (inl h) (inr j) same =
    let own : e.1.client ≡ x.1.client = sym same ∙ ap (λ (y : ℕ × Waiter). y.1.client) h in
    let test = λ (y : ℕ × Waiter). y.1.client == x.1.client in
    absurd (false≢true (sym o.0 ∙ any-in test xs e j (eq-eqb e.1.client x.1.client own)))
one_entry d e (x ∷ xs) o (inr i) (inl k) same =
    let own : d.1.client ≡ x.1.client = same ∙ ap (λ (y : ℕ × Waiter). y.1.client) k in
    let test = λ (y : ℕ × Waiter). y.1.client == x.1.client in
    absurd (false≢true (sym o.0 ∙ any-in test xs d i (eq-eqb d.1.client x.1.client own)))

pub short : (c : ℕ) (es : List (ℕ × Waiter)) → IsOnce es
    → length (filter (λ e. e.1.client == c) es) ≤ 1
short c [] o = omega arith
short c (e ∷ es) o = go (e.1.client == c) refl (short c es o.1)
  where
    own : List (ℕ × Waiter)
    own = filter (λ d. d.1.client == c) es

    go : (b : Bool) → (e.1.client == c) ≡ b → length own ≤ 1 → length (cond b (e ∷ own) own) ≤ 1
    go true t ih =
        let same : e.1.client ≡ c = grind (arith, nat_tests) in
        let no = ap (λ n. has_waiter n es) (sym same) ∙ o.0 in
        let none = filter-none (λ (d : ℕ × Waiter). d.1.client == c) es no in
        omega (arith, ap length none)
    go false t ih = ih
