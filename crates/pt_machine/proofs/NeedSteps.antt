-- NeedSteps: the number of reserved entries, as entries are pushed.
use Rattle.std.proofs.Common.{◌≡◌, ℕ, ◌+◌, ◌-◌, false, refl, sym, subst, arith}
use Rattle.pt_model.specs.declared.entry.Entry.{Entry}
use Rattle.pt_model.specs.declared.entry.Event.{Event}
use Rattle.pt_model.specs.declared.entry.Event.TheVariants as event
use Rattle.pt_model.specs.Histories.{History, Begin, ◌▷◌, is_forced}
use Rattle.pt_model.specs.Starts.{empty_start}
use Rattle.pt_model.specs.Room.{entry_for, need}
use Rattle.pt_model.specs.Steps.{Step, Follows}
use Rattle.pt_state.specs.declared.state.State.{State}
use Rattle.pt_state.specs.Adds.{Adds, history_of}
use Rattle.pt_state.specs.Needed.{added_by, unreserved_by}
use Rattle.pt_state.proofs.NeedLemmas.{need-step}
use Rattle.pt_machine.specs.Reserved.{IsReserved}
use Rattle.pt_machine.proofs.QueuedSame.{history_of-adds}

-- an event's own entry is not forced
pub event-outer : (h : History) (v : Event) → is_forced (entry_for h v) ≡ false
event-outer h (event.Join p) = refl
event-outer h (event.Call c call) = refl
event-outer h (event.Death c) = refl
event-outer h (event.Moment k t) = refl

-- the need after an event's entry, by what the entry adds and uses
pub need-event : (h : History) (v : Event) → Follows h → Step h (entry_for h v)
    → need (h ▷ entry_for h v) + unreserved_by h (entry_for h v) ≡ need h + added_by (entry_for h v)
need-event h v f s = need-step h (entry_for h v) f s (event-outer h v)

module _ {A : Type 0} (old new : State A) where
  -- after an outer entry
  pub reserved-outer : (e : Entry) → Adds old e new → (reserved : ℕ)
      → reserved ≡ need (history_of old ▷ e) → IsReserved (history_of new) reserved
  reserved-outer e a reserved k =
      subst (λ (h : History). IsReserved h reserved) (sym (history_of-adds old new e a))
      (record { needs = k })

  -- after a forced entry
  pub reserved-forced : (e : Entry) → Adds old e new → (reserved used : ℕ)
      → IsReserved (history_of old) reserved → need (history_of old ▷ e) + used
      ≡ need (history_of old)
      → IsReserved (history_of new) (reserved - used)
  reserved-forced e a reserved used r n =
      subst (λ (h : History). IsReserved h (reserved - used)) (sym (history_of-adds old new e a))
      (record { needs = omega (arith, r.needs, n) })

-- before the first entry
pub reserved-begin : (h : History) → h ≡ Begin empty_start → IsReserved h 0
reserved-begin h e = subst (λ (g : History). IsReserved g 0) (sym e) (record { needs = refl })
