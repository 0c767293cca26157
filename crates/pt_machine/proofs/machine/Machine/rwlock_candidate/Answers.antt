use Rattle.std.proofs.Common.{◌≡◌, ◌==◌, ◌&&◌, Some, false, not, is_some, option_map, refl, sym, ap}
use Rattle.std.proofs.Common.{◌∙◌}
use Rattle.pt_types.specs.declared.operations.ObjectClass.TheVariants.{Barrier as BarrierClass}
use Rattle.pt_waitq.specs.declared.waiter.Waiter.{Waiter}
use Rattle.pt_rwlock.specs.RwlockState.{nobody_holds}
use Rattle.pt_model.specs.declared.waiting_call.WaitingCall.{WaitingCall}
use Rattle.pt_model.specs.Moves.{wait_object}
use Rattle.pt_model.specs.Objects.{is_class, kind_of}
use Rattle.pt_model.specs.Queries.{client_of_found}
use Rattle.pt_records.specs.Objects.{kind_in_row}
use Rattle.pt_state.specs.Adds.{history_of}
use Rattle.pt_machine.specs.CallQueues.{IsQueued}
use Rattle.pt_machine.proofs.CandidateRows.{empty, lock-again, lock-first, lock-unasked, may-go}
use Rattle.pt_machine.proofs.QueueClasses.{no-arrival}
use Rattle.pt_machine.proofs.QueueFirsts.{first-least, none-call_of_open}
use Rattle.pt_machine.proofs.machine.Machine.rwlock_candidate.Goals as goal
use Rattle.pt_machine.proofs.machine.Machine.rwlock_candidate.Goals.{
  else-first-via-else-first,
  else-first-via-then-first+else-not-is_free,
}

pub returns-in_err-first : goal.returns-in_err-first
returns-in_err-first g c =
    let s = c.args.self.now in
    let read = c.requires.tables in
    let queues = c.self.inside.queues in
    let queued : IsQueued (history_of s) (g.Q.WaitList.seen queues) =
    rw (← c.self.view_is) c.self.invariant.0 in
    c.from_residual.ensures
    ∙ ap client_of_found
    (lock-unasked (history_of s) s.clients s.objects read.follows read.callers read.object_rows.look
    c.args.r c.args.lock.now c.requires.stored (empty c.args.lock.now.writer
    (ap is_some (sym c.writer.ensures) ∙ (sym c.is_some.ensures ∙ c.if-is_some.false)))
    (none-call_of_open (history_of s)
    (g.Q.WaitList.seen queues).queue queued.members read.follows c.args.r
    (λ (w : WaitingCall). wait_object (history_of s) w == c.args.r) (λ w i. refl) c.first.result
    c.first.ensures c.in_err-first.was))

pub returns-then-not-is_free : goal.returns-then-not-is_free
returns-then-not-is_free g c =
    let s = c.args.self.now in
    let read = c.requires.tables in
    let queues = c.self.inside.queues in
    let queued : IsQueued (history_of s) (g.Q.WaitList.seen queues) =
    rw (← c.self.view_is) c.self.invariant.0 in
    let other : is_class (kind_of (history_of s) c.args.r) BarrierClass ≡ false =
    ap (λ k. is_class k BarrierClass)
    (sym (read.object_rows.look.kinds c.args.r) ∙ ap (option_map kind_in_row) c.requires.stored) in
    let first = first-least (history_of s) (g.Q.WaitList.seen queues).queue queued.members
    read.follows c.args.r (λ (w : WaitingCall). wait_object (history_of s) w == c.args.r)
    (λ w i. refl)
    (no-arrival (history_of s) read.follows c.args.r other) c.in_ok-first.first
    (sym c.first.ensures ∙ c.in_ok-first.was) in
    c.relocking_reader.ensures
    ∙ ap client_of_found
    (lock-again (history_of s) s.clients s.objects read.follows read.callers read.object_rows.look
    c.args.r c.args.lock.now c.requires.stored (empty c.args.lock.now.writer
    (ap is_some (sym c.writer.ensures) ∙ (sym c.is_some.ensures ∙ c.if-is_some.false)))
    (sym c.is_free.ensures ∙ c.if-not-is_free.true) first.0 (sym first.1.2)
    (sym (ap (λ (v : Waiter). v.writer) first.1.1) ∙ c.if-first.true))

pub returns-else-first : goal.returns-else-first
returns-else-first g c =
    let s = c.args.self.now in
    let read = c.requires.tables in
    let queues = c.self.inside.queues in
    let queued : IsQueued (history_of s) (g.Q.WaitList.seen queues) =
    rw (← c.self.view_is) c.self.invariant.0 in
    let other : is_class (kind_of (history_of s) c.args.r) BarrierClass ≡ false =
    ap (λ k. is_class k BarrierClass)
    (sym (read.object_rows.look.kinds c.args.r) ∙ ap (option_map kind_in_row) c.requires.stored) in
    let first = first-least (history_of s) (g.Q.WaitList.seen queues).queue queued.members
    read.follows c.args.r (λ (w : WaitingCall). wait_object (history_of s) w == c.args.r)
    (λ w i. refl)
    (no-arrival (history_of s) read.follows c.args.r other) c.in_ok-first.first
    (sym c.first.ensures ∙ c.in_ok-first.was) in
    let may : (c.in_ok-first.first.writer && not (nobody_holds c.args.lock.now)) ≡ false =
    elim c.else-first.branch [
      | else-first-via-then-first+else-not-is_free w ↦ may-go c.in_ok-first.first.writer
          (nobody_holds c.args.lock.now) (sym w.is_free.ensures ∙ w.if-not-is_free.false)
      | else-first-via-else-first w ↦ ap (λ b. b && not (nobody_holds c.args.lock.now))
          w.if-first.false
    ] in
    ap (λ (v : Waiter). Some v.client) first.1.1
    ∙ ap client_of_found
    (lock-first (history_of s) s.clients s.objects read.follows read.callers read.object_rows.look
    c.args.r c.args.lock.now c.requires.stored (empty c.args.lock.now.writer
    (ap is_some (sym c.writer.ensures) ∙ (sym c.is_some.ensures ∙ c.if-is_some.false)))
    first.0 (sym first.1.2)
    (sym (ap (λ (v : Waiter). v.writer && not (nobody_holds c.args.lock.now)) first.1.1) ∙ may))

pub relocking_reader-requires-clause-unwritten : goal.relocking_reader-requires-clause-unwritten
relocking_reader-requires-clause-unwritten g c =
    empty c.args.lock.now.writer
    (ap is_some (sym c.writer.ensures) ∙ (sym c.is_some.ensures ∙ c.if-is_some.false))
