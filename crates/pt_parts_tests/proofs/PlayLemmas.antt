-- PlayLemmas: a list in play stays in play when a change is made.
use Rattle.std.proofs.Common.{ℕ, ◌≡◌, ◌<◌, ◌+◌, Bool, List, sym, subst, arith, ◌∙◌}
use Rattle.std.specs.List.{AllByRecursion as Each}
use Rattle.pt_waitq.specs.declared.waiter.Waiter.{Waiter}
use Rattle.pt_waitq.specs.Queues.{queues_of, other_waiters}
use Rattle.pt_waitq.specs.ListLemmas.{Each-weaker}
use Rattle.pt_waitq.proofs.CallerLemmas.{other_waiters-each}
use Rattle.pt_parts_tests.specs.Playing.{IsInPlay}

-- a waiter that came before a place came before the next one too
pub later : (n : ℕ) (ws : List Waiter) → Each (λ v. v.moved < n) ws
    → Each (λ v. v.moved < n + 1) ws
later n ws a =
    Each-weaker (λ (v : Waiter). v.moved < n) (λ v. v.moved < n + 1) (λ v lt. omega (arith, lt))
    ws a

-- a change after which all waiters came before the next place
pub plays : (before after : ℕ → List Waiter) (admitted admits made makes : ℕ → Bool) (n : ℕ)
    → IsInPlay (queues_of before admitted made) n → ((c : ℕ) → admits c ≡ admitted c)
    → ((q : ℕ) → makes q ≡ made q) → ((q : ℕ) → Each (λ v. v.moved < n + 1) (after q))
    → IsInPlay (queues_of after admits makes) (n + 1)
plays before after admitted admits made makes n p a m e =
    record {
      clients = λ c lt. a c ∙ p.clients c lt;
      queues = λ q lt. m q ∙ p.queues q lt;
      earlier = e;
    }

-- a change that leaves the queues as they are
pub plays-same : (before after : ℕ → List Waiter) (admitted admits made makes : ℕ → Bool) (n : ℕ)
    → IsInPlay (queues_of before admitted made) n → ((c : ℕ) → admits c ≡ admitted c)
    → ((q : ℕ) → makes q ≡ made q) → ((q : ℕ) → after q ≡ before q)
    → IsInPlay (queues_of after admits makes) (n + 1)
plays-same before after admitted admits made makes n p a m e =
    plays before after admitted admits made makes n p a m (λ q.
    subst (λ (ws : List Waiter). Each (λ v. v.moved < n + 1) ws) (sym (e q))
    (later n (before q) (p.earlier q)))

-- a change that takes a client's waiters out
pub plays-other_waiters : (before after : ℕ → List Waiter) (admitted admits made makes : ℕ → Bool)
    (client n : ℕ) → IsInPlay (queues_of before admitted made) n → ((c : ℕ) → admits c ≡ admitted c)
    → ((q : ℕ) → makes q ≡ made q) → ((q : ℕ) → after q ≡ other_waiters client (before q))
    → IsInPlay (queues_of after admits makes) (n + 1)
plays-other_waiters before after admitted admits made makes client n p a m e =
    plays before after admitted admits made makes n p a m (λ q.
    subst (λ (ws : List Waiter). Each (λ v. v.moved < n + 1) ws) (sym (e q))
    (other_waiters-each (λ v. v.moved < n + 1) client (before q)
    (later n (before q) (p.earlier q))))
