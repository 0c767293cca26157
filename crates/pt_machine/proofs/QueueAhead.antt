-- QueueAhead: the first of a queue has the greatest priority of those that wait there.
use Rattle.std.proofs.Common.{◌≡◌, ℕ, ◌==◌, ◌<◌, ◌≤◌, Bool, true, false, cond, List, Option, Some}
use Rattle.std.proofs.Common.{None, refl, sym, ◌∙◌, arith, eq-eqb}
use Rattle.std.proofs.lemmas.Bool.Decides.{nat_tests}
use Rattle.std.specs.Prelude.{nat_lt}
use Rattle.pt_types.specs.declared.key_order.Key.{Key}
use Rattle.pt_types.specs.KeyOrder.{goes_before}
use Rattle.pt_types.specs.Limits.{max_priority}
use Rattle.pt_waitq.specs.declared.waiter.Waiter.{Waiter}
use Rattle.pt_waitq.specs.Members.{Members}
use Rattle.pt_waitq.specs.Queues.{head_of, waiter_key}
use Rattle.pt_waitq.proofs.MemberLemmas.{head-first, head-in, head-none}
use Rattle.pt_model.specs.Histories.{History}
use Rattle.pt_model.specs.declared.waiting_call.WaitingCall.{WaitingCall}
use Rattle.pt_model.specs.WaitingCall.{is_barrier_wait}
use Rattle.pt_model.specs.Answers.{open_calls}
use Rattle.pt_model.specs.Moves.{wait_object}
use Rattle.pt_model.specs.Steps.{Follows}
use Rattle.pt_machine.specs.SettledCalls.{NoneWaits}
use Rattle.pt_machine.specs.GrantedAtOnce.{IsAhead}
use Rattle.pt_machine.specs.CallQueues.{waiter}
use Rattle.pt_machine.proofs.Membership.{in-list}
use Rattle.pt_machine.proofs.QueueFirsts.{is_waiting}

-- a key that does not go before another has no higher priority
no_higher : (a b : Key) (p : ℕ) → goes_before a b ≡ false → b.priority < p → a.priority < p
no_higher a b p e lt = go (nat_lt b.priority a.priority) refl
  where
    go : (t : Bool) → nat_lt b.priority a.priority ≡ t → a.priority < p
    go true s = absurd cc
    go false s = grind (arith, nat_tests)

module _ (h : History) (queue : ℕ → List Waiter)
    (m : Members (wait_object h) (waiter h) (open_calls h) queue) (follows : Follows h) (q p : ℕ)
    (first : Option Waiter) (e : first ≡ head_of (queue q)) where
  abbrev here : WaitingCall → Bool
  here w = wait_object h w == q

  -- all calls there have a lower priority than this if none waits
  pub ahead-none : first ≡ None → IsAhead h p q
  ahead-none s =
      λ w i t. absurd (head-none (queue q) (sym e ∙ s) (waiter h w)
      (is_waiting h queue m follows q here (λ w i. refl) w i t))

  -- or if the first has a lower one
  pub ahead-first : (v : Waiter) → first ≡ Some v → v.prio < p → p ≤ max_priority → IsAhead h p q
  ahead-first v s lt le =
      λ w i t. own (is_barrier_wait w.role) w.priority
      (no_higher (waiter_key (waiter h w)) (waiter_key v) p
      (head-first (queue q) v (m.in_order q) (sym e ∙ s) (waiter h w)
      (is_waiting h queue m follows q here (λ w i. refl) w i t)) lt)
    where
      -- it waits with its own priority, or with the highest
      own : (b : Bool) (n : ℕ) → cond b max_priority n < p → n < p
      own true n k = absurd (omega (arith, k, le))
      own false n k = k

  -- if there is a first waiter, a call waits
  pub not-alone : (v : Waiter) → first ≡ Some v → NoneWaits h q → ⊥
  not-alone v s none =
      let r = m.has_call q v (head-in (queue q) v (sym e ∙ s)) in
      none r.0 (in-list r.0 (open_calls h) r.1) (eq-eqb (wait_object h r.0) q r.2)
