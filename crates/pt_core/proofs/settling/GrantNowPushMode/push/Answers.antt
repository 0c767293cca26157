use Rattle.std.proofs.Common.{◌≡◌, ℕ, Bool, true, Some, None, refl, sym, ap, ◌∙◌, subst}
use Rattle.std.specs.Bool.{OnTrue}
use Rattle.pt_types.specs.declared.call.Call.{Call as FunctionCall}
use Rattle.pt_history.specs.Stored.{stored_history}
use Rattle.pt_model.specs.Histories.{History, place}
use Rattle.pt_model.specs.declared.entry.Event.{Event}
use Rattle.pt_model.specs.declared.entry.Event.TheVariants as event
use Rattle.pt_legal.specs.Applying.{AnswersCallerOnly, KeepsOutcome}
use Rattle.pt_core.specs.Settling.{AnswersOnlyCaller}
use Rattle.pt_model.specs.StartRows.{start_of_rows}
use Rattle.pt_core.proofs.AnswersStay.{entry_replies-settled}
use Rattle.pt_model.specs.declared.entry.Entry.{Entry}
use Rattle.pt_model.specs.declared.entry.Entry.TheVariants.{Call}
use Rattle.pt_model.specs.Room.{entry_for}
use Rattle.pt_state.specs.Adds.{HasRoomFor, history_of}
use Rattle.pt_machine.specs.GrantedAtOnce.{AddsBoth, IsGrantedAtOnce, IsReadyAfter}
use Rattle.pt_machine.specs.Plans.{IsAtOnce, IsPlanned}
use Rattle.pt_core.proofs.ValidStateLemmas.{ready-outer, ready-after, begins-both}
use Rattle.pt_core.proofs.settling.GrantNowPushMode.push.Goals as goal

-- if the flag says that a call is granted as it comes, it is
granted : (h : History) (v : Event) (b : Bool) → IsAtOnce h v b → (c : ℕ) (call : FunctionCall)
    → v ≡ event.Call c call → b ≡ true → IsGrantedAtOnce h c call
granted h v b k c call is e =
    subst (λ (x : Bool). OnTrue x (IsGrantedAtOnce h c call)) e
    (subst (λ (x : Event). IsAtOnce h x b) is k)

pub push_granted_at_once-requires-clause-granted : goal.push_granted_at_once-requires-clause-granted
push_granted_at_once-requires-clause-granted g c =
    granted (history_of c.args.body.now) c.args.event.now c.args.plan.now.at_once
    c.requires.planned.at_once c.in-Call.c c.in-Call.call c.in-Call.is c.if-plan.true

pub push_granted_at_once-requires-clause-has_room :
    goal.push_granted_at_once-requires-clause-has_room
push_granted_at_once-requires-clause-has_room g c =
    let s = c.args.body.now in
    let known : entry_for (history_of s) c.args.event.now ≡ Call c.in-Call.c c.in-Call.call None =
    ap (entry_for (history_of s)) c.in-Call.is
    ∙ (granted (history_of s) c.args.event.now c.args.plan.now.at_once c.requires.planned.at_once
    c.in-Call.c c.in-Call.call c.in-Call.is c.if-plan.true).waits in
    subst (λ (e : Entry). HasRoomFor s e) known
    (ready-outer s c.args.event.now c.requires.open c.requires.accepted)

pub push_granted_at_once-requires-clause-next : goal.push_granted_at_once-requires-clause-next
push_granted_at_once-requires-clause-next g c =
    let s = c.args.body.now in
    let known : entry_for (history_of s) c.args.event.now ≡ Call c.in-Call.c c.in-Call.call None =
    ap (entry_for (history_of s)) c.in-Call.is
    ∙ (granted (history_of s) c.args.event.now c.args.plan.now.at_once c.requires.planned.at_once
    c.in-Call.c c.in-Call.call c.in-Call.is c.if-plan.true).waits in
    subst (λ (e : Entry). IsReadyAfter s e) known
    (ready-after s c.args.event.now c.requires.open c.requires.accepted)

pub push_granted_at_once-requires-clause-planned : goal.push_granted_at_once-requires-clause-planned
push_granted_at_once-requires-clause-planned g c =
    subst (λ (v : Event). IsPlanned (history_of c.args.body.now) v c.args.plan.now) c.in-Call.is
    c.requires.planned

pub returns-in_ok-outcome-in-Call : goal.returns-in_ok-outcome-in-Call
returns-in_ok-outcome-in-Call g c =
    let s = c.args.body.now in
    let new = c.push_granted_at_once.new.self in
    let known : entry_for (history_of s) c.args.event.now ≡ Call c.in-Call.c c.in-Call.call None =
    ap (entry_for (history_of s)) c.in-Call.is
    ∙ (granted (history_of s) c.args.event.now c.args.plan.now.at_once c.requires.planned.at_once
    c.in-Call.c c.in-Call.call c.in-Call.is c.if-plan.true).waits in
    let pushed = c.in_ok-outcome-in-Call.ensures in
    let begins = begins-both s c.args.event.now c.requires.open c.requires.accepted new
    (subst (λ (e : Entry). AddsBoth s e new) (sym known) pushed.ok) in
    let x = c.in_ok-outcome-in-Call.outcome in
    record {
      ok = begins;
      replies = λ u st. subst (λ (v : Event). KeepsOutcome v (Some x) (stored_history u) (place
          (history_of s)))
          (sym c.in-Call.is)
          (entry_replies-settled new.stored u (place (history_of s)) x
          begins.roomy.read.follows st.settling pushed.replies);
      rests = λ rests. pushed.settled;
      only_caller = λ rests. subst (λ (v : Event). AnswersOnlyCaller new.stored v (place (history_of s)))
          (sym c.in-Call.is)
          (subst (AnswersCallerOnly (start_of_rows new.stored.start) new.stored.entries
          (event.Call c.in-Call.c c.in-Call.call) (place (history_of s))) (sym pushed.replies)
          pushed.answers_only_caller);
      err = tt;
      reason = tt;
      enough = λ small. refl;
    }
