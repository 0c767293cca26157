-- The queues and the deadlines are also those of the seal, if nothing must follow.
use Rattle.std.proofs.Common.{◌≡◌, ℕ, false, not, ◌&&◌, List, None, refl, sym, ap, ◌∙◌}
use Rattle.std.proofs.Common.{is_some, filter}
use Rattle.pt_types.specs.declared.time.Clock.{Clock}
use Rattle.pt_types.specs.Times.{has_invalid_deadline}
use Rattle.pt_model.specs.Searches.{In}
use Rattle.pt_model.specs.declared.waiting_call.WaitingCall.{WaitingCall}
use Rattle.pt_model.specs.Histories.{History, Begin}
use Rattle.pt_model.specs.WaitingCall.{call_at_place, waiting_calls}
use Rattle.pt_model.specs.Answers.{open_calls}
use Rattle.pt_model.specs.Moves.{is_moved}
use Rattle.pt_model.specs.Queries.{deadline_if}
use Rattle.pt_model.specs.Forced.{forced}
use Rattle.pt_model.specs.Seals.{seal}
use Rattle.pt_model.specs.Steps.{Follows}
use Rattle.pt_model.proofs.Lists.{false_by}
use Rattle.pt_model.proofs.Seats.{move-sealed}
use Rattle.pt_model.proofs.Agreeing.{calls-sealed, filter-alike}
use Rattle.pt_waitq.specs.Queues.{QueuesView}
use Rattle.pt_machine.specs.CallQueues.{IsQueued}
use Rattle.pt_machine.specs.CallDeadlines.{call_deadline, has_timer, timer_of_found, timer_at}
use Rattle.pt_machine.specs.CallDeadlines.{AreDeadlinesSet}
use Rattle.pt_machine.proofs.QueuedSame.{members-carry}
use Rattle.pt_machine.proofs.NoBadDeadlines.{none-bad, written_good}

-- the queues
pub queued-seal : (h : History) (view : QueuesView) → IsQueued h view
    → IsQueued (Begin (seal h)) view
queued-seal h view k =
    record {
      members = members-carry h (Begin (seal h)) view.queue view.queue (λ q. refl) (calls-sealed h)
          (λ w i. move-sealed h w i) k.members;
      admits = k.admits;
      makes = k.makes;
    }

pub set-alike : (h : History) → Follows h → forced h ≡ None → (p : ℕ)
    → timer_at h p ≡ timer_at (Begin (seal h)) p
set-alike h f n p =
    ap (λ ws. timer_of_found (call_at_place p ws))
    (filter-alike (has_timer h) (has_timer (Begin (seal h))) (open_calls h) same
    ∙ ap (filter (has_timer (Begin (seal h)))) (sym (calls-sealed h)))
  where
    good : (w : WaitingCall) → has_invalid_deadline (call_deadline (Begin (seal h)) w.place) ≡ false
    good w = false_by (has_invalid_deadline (call_deadline (Begin (seal h)) w.place))
        (written_good (deadline_if (call_at_place w.place (waiting_calls (Begin (seal h))))))

    same : (w : WaitingCall) → In w (open_calls h) → has_timer h w ≡ has_timer (Begin (seal h)) w
    same w i =
        ap (λ m. not (is_some m) && not (has_invalid_deadline (call_deadline h w.place)))
        (sym (move-sealed h w i))
        ∙ ap (λ b. not (is_moved (Begin (seal h)) w) && not b)
        (none-bad h f n w i ∙ sym (good w))

-- the deadlines that are set
pub call_deadline-seal : (h : History) (timers : List (ℕ × (Clock × ℕ))) → Follows h → forced h
    ≡ None
    → AreDeadlinesSet h timers → AreDeadlinesSet (Begin (seal h)) timers
call_deadline-seal h timers f n t p = t p ∙ set-alike h f n p
