-- Bindings: a condition's mutex is that of the first wait of its queue.
use Rattle.std.proofs.Common.{◌≡◌, ℕ, ◌==◌, true, List, Option, Some, None, filter, refl, sym, ap}
use Rattle.std.proofs.Common.{◌∙◌}
use Rattle.pt_types.specs.declared.call.ObjectKind.TheVariants as kind
use Rattle.pt_types.specs.declared.operations.ObjectClass.TheVariants.{Cond as CondClass}
use Rattle.pt_model.specs.Searches.{In, least}
use Rattle.pt_model.specs.Histories.{History}
use Rattle.pt_model.specs.Objects.{kind_of}
use Rattle.pt_model.specs.declared.waiting_call.WaitingCall.{WaitingCall}
use Rattle.pt_model.specs.Answers.{open_calls}
use Rattle.pt_model.specs.Moves.{precedes, wait_object, waiting_at}
use Rattle.pt_model.specs.Verdicts.{bound_mutex, mutex_of_wait}
use Rattle.pt_model.specs.Steps.{Follows}
use Rattle.pt_model.proofs.Lists.{In-filter, filter-in, false_by}
use Rattle.pt_model.proofs.Leasts.{least-in, least-none}
use Rattle.pt_model.proofs.Seats.{exists_as}
use Rattle.pt_state.specs.Serving.{waits_at_cond}
use Rattle.pt_next_grant.proofs.BoundMutex.{at_cond, bound-any, bound-none}
use Rattle.pt_machine.proofs.QueueClasses.{at-cond}

module _ (h : History) (f : Follows h) (q : ℕ) (cond : kind_of h q ≡ Some kind.Cond) where
  -- the waits at the condition
  abbrev pub waits : List WaitingCall
  waits = filter (waits_at_cond h q) (open_calls h)

  cond_here : exists_as h CondClass q ≡ true
  cond_here = rw cond refl

  -- the mutex of the first wait is the one that is bound to the condition
  pub bound-first : (w : WaitingCall) → Some w ≡ least (precedes h) waits → (m : Option ℕ)
      → m ≡ mutex_of_wait w.role → m ≡ bound_mutex (waiting_at h q)
  bound-first w e m t =
      let wait = In-filter (waits_at_cond h q) (open_calls h) w
      (least-in (precedes h) waits w (sym e)) in
      let there : In w (waiting_at h q) =
      filter-in (λ (u : WaitingCall). wait_object h u == q) (open_calls h) w wait.0
      (at-cond h f q cond w wait.0 ∙ wait.1) in
      let has_call = at_cond h q w f cond_here there in
      t ∙ ap mutex_of_wait has_call.1.1.0
      ∙ sym (bound-any h f q w has_call.1.0 has_call.0 has_call.1.1.1.1 has_call.1.1.0 has_call.1.1.1.0)

  -- if no call waits at the condition, no mutex is bound to it
  pub bound-nothing : None ≡ least (precedes h) waits → None ≡ bound_mutex (waiting_at h q)
  bound-nothing e =
      sym (bound-none h f q cond (λ w i. false_by (waits_at_cond h q w) (λ t.
      least-none (precedes h) waits (sym e) w
      (filter-in (waits_at_cond h q) (open_calls h) w i t))))
