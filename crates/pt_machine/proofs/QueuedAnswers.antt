-- Pushes of answered calls that change no queue, and pushes that are never refused.
use Rattle.std.proofs.Common.{◌≡◌, ℕ, Bool, true, false, Ok, Some, refl}
use Rattle.pt_types.specs.declared.call.Call.{Call as FunctionCall}
use Rattle.pt_types.specs.declared.outcome.Outcome.{Outcome}
use Rattle.pt_types.specs.declared.outcome.Outcome.TheVariants.{Done}
use Rattle.pt_types.specs.Operations.{operation}
use Rattle.pt_model.specs.declared.entry.Entry.{Entry}
use Rattle.pt_model.specs.declared.entry.Entry.TheVariants.{Call}
use Rattle.pt_state.specs.declared.request.Request.{Request}
use Rattle.pt_state.specs.declared.state.State.{State}
use Rattle.pt_state.specs.Adds.{history_of, Adds}
use Rattle.pt_state.specs.Calling.{is_done, is_plain}
use Rattle.pt_waitq.specs.Queues.{QueuesView}
use Rattle.pt_machine.specs.Pushes.{CanCall, Pushes, PushesOnOk}
use Rattle.pt_machine.proofs.QueuedSame.{queued-adds}
use Rattle.pt_machine.proofs.QueuedCalls.{queued-told, queued-plain}

module _ {A : Type 0} {s new : State A} {view : QueuesView} where
  -- a call that is answered anything but 0
  pub told-pushes : {c : ℕ} {call : FunctionCall} {x : Outcome} {r : Request}
      → CanCall s view c call (Some x) r → is_done x ≡ false → Adds s (Call c call (Some x)) new
      → Pushes s (Call c call (Some x)) new view
  told-pushes {c} {call} {x} can other a =
      record {
        adds = a;
        queued = queued-adds s new (Call c call (Some x)) view a
            (queued-told (history_of s) c call x can.ready.read.follows can.ready.step view other
            can.queued);
      }

  -- a call that is answered 0, makes no object, ends none and wakes no wait
  pub plain-pushes : {c : ℕ} {call : FunctionCall} {r : Request} → CanCall s view c call (Some Done) r
      → is_plain (operation call) ≡ true → Adds s (Call c call (Some Done)) new
      → Pushes s (Call c call (Some Done)) new view
  plain-pushes {c} {call} can plain a =
      record {
        adds = a;
        queued = queued-adds s new (Call c call (Some Done)) view a
            (queued-plain (history_of s) c call can.ready.read.follows can.ready.step view plain
            can.queued);
      }

  -- a push that is never refused
  pub pushes-on-ok : {X : Type 0} {x : X} {e : Entry} {needs : Bool} → Pushes s e new view
      → PushesOnOk s e needs (Ok x) new view
  pushes-on-ok p =
      record { ok = p.adds; err = tt; reason = tt; enough = λ small. refl; queued = p.queued }
