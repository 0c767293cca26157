-- The head of a queue, found as the head of a chain.
use Rattle.std.proofs.Common.{◌≡◌, ℕ, ◌==◌, nat_lt, Bool, true, false, cond, ◌&&◌, ◌||◌, List, []}
use Rattle.std.proofs.Common.{◌∷◌, map, filter, Some, inl, refl, sym, ap, ◌∙◌, arith}
use Rattle.std.proofs.lemmas.Bool.Decides.{nat_tests}
use Rattle.std.proofs.lemmas.Bool.{false≢true}
use Rattle.std.specs.List.{AllByRecursion as Each}
use Rattle.pt_types.specs.KeyOrder.{kind_rank}
use Rattle.pt_waitq.specs.declared.waiter.Waiter.{Waiter}
use Rattle.pt_waitq.specs.Queues.{In, comes_before, head_of, IsInKeyOrder}
use Rattle.pt_waitq.specs.Waits.{queue_of}
use Rattle.pt_waitq.specs.ListLemmas.{Each-in, In-filter}
use Rattle.pt_waitq.specs.QueueLemmas.{queue_of-in-order}
use Rattle.pt_chains.specs.Chains.{is_kind, chain_of}
use Rattle.pt_chains.proofs.SortedLemmas.{kind-of}

-- whether a waiter belongs to a chain that goes ahead of this one
abbrev pub goes_ahead : Bool → ℕ → Waiter → Bool
goes_ahead k p v = nat_lt p v.prio || ((v.prio == p) && nat_lt (kind_rank v.writer) (kind_rank k))

kind-ahead : (k : Bool) (p : ℕ) (u v : Waiter) → is_kind k p u ≡ true → is_kind k p v ≡ false
    → goes_ahead k p v ≡ false → comes_before u v ≡ true
kind-ahead k p u v a b c = grind (arith, nat_tests)

head-in : (vs : List Waiter) (u : Waiter) → head_of vs ≡ Some u → In u vs
head-in [] u h = cc
head-in (v ∷ vs) u h = inl cc

-- if no chain ahead of this one has a waiter, its head is the queue's head
pub top-head : (k : Bool) (p : ℕ) (vs : List Waiter) (u : Waiter) → IsInKeyOrder vs
    → Each (λ v. goes_ahead k p v ≡ false) vs → head_of (filter (is_kind k p) vs) ≡ Some u
    → head_of vs ≡ Some u
top-head k p [] u s a h = h
top-head k p (v ∷ vs) u s a h = go (is_kind k p v) refl h
  where
    go : (b : Bool) → is_kind k p v ≡ b
        → head_of (cond b (v ∷ filter (is_kind k p) vs) (filter (is_kind k p) vs)) ≡ Some u
        → Some v ≡ Some u
    go true e h = h
    go false e h =
        let r = In-filter (is_kind k p) vs u (head-in _ u h) in
        absurd (false≢true (sym (Each-in (λ x. comes_before x v ≡ false) vs u s.0 r.0)
        ∙ kind-ahead k p u v r.1 e a.0))

pub queue-head : (o : ℕ) (k : Bool) (p : ℕ) (es : List (ℕ × Waiter)) (u : Waiter)
    → Each (λ v. goes_ahead k p v ≡ false) (queue_of o es)
    → queue_of o (chain_of o k p es) ≡ map (λ e. e.1) (chain_of o k p es)
    → head_of (map (λ e. e.1) (chain_of o k p es)) ≡ Some u
    → head_of (queue_of o es) ≡ Some u
queue-head o k p es u a s h =
    top-head k p (queue_of o es) u (queue_of-in-order o es) a
    (ap head_of (sym (kind-of o k p es) ∙ s) ∙ h)
