-- What is found in the list, when one more of its waiters is looked at.
use Rattle.std.proofs.Common.{◌≡◌, ℕ, ◌+◌, ◌<◌, ◌≤◌, length, get_or, take, ◌==◌, Bool, true, false}
use Rattle.std.proofs.Common.{cond, ◌&&◌, List, [], ◌∷◌, ◌++◌, Option, Some, filter, refl, sym, ap}
use Rattle.std.proofs.Common.{◌∙◌, arith}
use Rattle.std.proofs.lemmas.List.{take_more}
use Rattle.pt_waitq.specs.declared.waiter.Waiter.{Waiter}
use Rattle.pt_waitq.specs.Queues.{comes_before, insert_in_order, head_of, first_writer_of}
use Rattle.pt_waitq.specs.Waits.{queue_of}
use Rattle.pt_waitq.specs.OrderLemmas.{filter-insert}
use Rattle.pt_waitq.specs.QueueLemmas.{queue_of-more, queue_of-in-order, length-insert}
use Rattle.pt_plain_list.specs.Earlier.{earlier_of}

head_of-insert : (w : Waiter) (ws : List Waiter)
    → head_of (insert_in_order w ws) ≡ Some (earlier_of (head_of ws) w)
head_of-insert w [] = refl
head_of-insert w (v ∷ vs) = go (comes_before w v)
  where
    go : (b : Bool) → head_of (cond b (w ∷ v ∷ vs) (v ∷ insert_in_order w vs)) ≡ Some (cond b w v)
    go true = refl
    go false = refl

-- the next waiter of the list
queue-next : (es : List (ℕ × Waiter)) (i q : ℕ) (e : ℕ × Waiter)
    → i < length es → e ≡ get_or es i e
    → queue_of q (take (i + 1) es)
    ≡ cond (e.0 == q) (insert_in_order e.1 (queue_of q (take i es))) (queue_of q (take i es))
queue-next es i q e lt is =
    ap (queue_of q) (take_more es i e lt ∙ ap (λ x. take i es ++ x ∷ []) (sym is))
    ∙ queue_of-more q (take i es) e

pub first-next : (es : List (ℕ × Waiter)) (i q : ℕ) (e : ℕ × Waiter) (old new : Option Waiter)
    → i < length es → e ≡ get_or es i e
    → old ≡ head_of (queue_of q (take i es))
    → new ≡ cond (e.0 == q) (Some (earlier_of old e.1)) old
    → new ≡ head_of (queue_of q (take (i + 1) es))
first-next es i q e old new lt is before step =
    step ∙ (go (e.0 == q) ∙ ap head_of (sym (queue-next es i q e lt is)))
  where
    ws : List Waiter
    ws = queue_of q (take i es)

    go : (b : Bool)
        → cond b (Some (earlier_of old e.1)) old ≡ head_of (cond b (insert_in_order e.1 ws) ws)
    go true = ap (λ o. Some (earlier_of o e.1)) before ∙ sym (head_of-insert e.1 ws)
    go false = before

pub first_writer-next : (es : List (ℕ × Waiter)) (i q : ℕ) (e : ℕ × Waiter)
    (old new : Option Waiter)
    → i < length es → e ≡ get_or es i e
    → old ≡ first_writer_of (queue_of q (take i es))
    → new ≡ cond (e.1.writer && (e.0 == q)) (Some (earlier_of old e.1)) old
    → new ≡ first_writer_of (queue_of q (take (i + 1) es))
first_writer-next es i q e old new lt is before step =
    step
    ∙ (go (e.1.writer) (e.0 == q) refl ∙ ap first_writer_of (sym (queue-next es i q e lt is)))
  where
    ws : List Waiter
    ws = queue_of q (take i es)

    writers : List Waiter
    writers = filter (λ w. w.writer) ws

    go : (a b : Bool) → e.1.writer ≡ a
        → cond (a && b) (Some (earlier_of old e.1)) old
        ≡ first_writer_of (cond b (insert_in_order e.1 ws) ws)
    go true true t =
        let split = filter-insert (λ w. w.writer) e.1 ws (queue_of-in-order q (take i es)) in
        let kept = ap (λ b. cond b (insert_in_order e.1 writers) writers) t in
        ap (λ o. Some (earlier_of o e.1)) before
        ∙ (sym (head_of-insert e.1 writers) ∙ ap head_of (sym (split ∙ kept)))
    go true false t = before
    go false true t =
        let split = filter-insert (λ w. w.writer) e.1 ws (queue_of-in-order q (take i es)) in
        let kept = ap (λ b. cond b (insert_in_order e.1 writers) writers) t in
        before ∙ ap head_of (sym (split ∙ kept))
    go false false t = before

pub count-next : (es : List (ℕ × Waiter)) (i q : ℕ) (e : ℕ × Waiter) (old new : ℕ)
    → i < length es → e ≡ get_or es i e
    → old ≡ length (queue_of q (take i es))
    → new ≡ cond (e.0 == q) (old + 1) old
    → new ≡ length (queue_of q (take (i + 1) es))
count-next es i q e old new lt is before step =
    step ∙ (go (e.0 == q) ∙ ap length (sym (queue-next es i q e lt is)))
  where
    ws : List Waiter
    ws = queue_of q (take i es)

    go : (b : Bool) → cond b (old + 1) old ≡ length (cond b (insert_in_order e.1 ws) ws)
    go true = omega (arith, before, length-insert e.1 ws)
    go false = before

pub count-bound : (b : Bool) (old i new : ℕ) → old ≤ i → new ≡ cond b (old + 1) old → new ≤ i + 1
count-bound true old i new le e = omega (arith, e)
count-bound false old i new le e = omega (arith, e)
