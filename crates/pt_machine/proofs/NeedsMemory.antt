-- What follows if a call needs no memory to wait.
use Rattle.std.proofs.Common.{◌≡◌, Bool, true, false, ◌||◌, Some, is_some, Result, refl, ap}
use Rattle.pt_types.specs.Times.{Timespec}
use Rattle.pt_types.specs.declared.outcome.Refusal.{Refusal}
use Rattle.pt_types.specs.Operations.{Operation}
use Rattle.pt_waitq.specs.Queues.{QueuesView}
use Rattle.pt_model.specs.declared.entry.Entry.{Entry}
use Rattle.pt_state.specs.Outer.{is_read_call}
use Rattle.pt_state.specs.declared.state.State.{State}
use Rattle.pt_machine.specs.CallDeadlines.{operation_deadline, valid_deadline}
use Rattle.pt_machine.specs.Memory.{needs_memory_to_wait}
use Rattle.pt_machine.specs.Pushes.{PushesOnOk}

-- it asks for no read lock
pub small-unread : (o : Operation) → needs_memory_to_wait o ≡ false → is_read_call o ≡ false
small-unread o e = go (is_read_call o) refl e
  where
    go : (b : Bool) → is_read_call o ≡ b → (b || is_some (valid_deadline (operation_deadline o)))
        ≡ false
        → is_read_call o ≡ false
    go false same none = same
    go true same none = absurd cc

-- and has no deadline that is a time
pub small-untimed : (o : Operation) (d : Timespec) → valid_deadline (operation_deadline o) ≡ Some d
    → needs_memory_to_wait o ≡ false → ⊥
small-untimed o d good e = go (is_read_call o) e
  where
    go : (b : Bool) → (b || is_some (valid_deadline (operation_deadline o))) ≡ false → ⊥
    go true none = cc
    go false none = let some : is_some (valid_deadline (operation_deadline o))
        ≡ true = ap is_some good in cc

-- so it is never refused
pub left-needs : {A X : Type 0} {old new : State A} {e : Entry} {result : Result X Refusal}
    {view : QueuesView} (o : Operation) → PushesOnOk old e (is_read_call o) result new view
    → PushesOnOk old e (needs_memory_to_wait o) result new view
left-needs o p =
    record {
      ok = p.ok;
      err = p.err;
      reason = p.reason;
      enough = λ small. p.enough (small-unread o small);
      queued = p.queued;
    }
