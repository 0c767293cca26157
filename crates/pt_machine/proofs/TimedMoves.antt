-- The deadlines that are set after an answered call: all but those of the waits that it moves.
use Rattle.std.proofs.Common.{◌+◌, ◌≡◌, ℕ, Bool, true, false, cond, ◌&&◌, ◌==◌, List, Option, Some}
use Rattle.std.proofs.Common.{None, is_some, length, refl, sym, ap, ◌∙◌, subst, arith}
use Rattle.std.proofs.lemmas.Bool.Decides.{nat_tests}
use Rattle.std.proofs.lemmas.Bool.{false≢true}
use Rattle.std.specs.List.{list_any}
use Rattle.pt_types.specs.declared.time.Clock.{Clock}
use Rattle.pt_types.specs.declared.call.Call.{Call as FunctionCall}
use Rattle.pt_types.specs.declared.outcome.Outcome.{Outcome}
use Rattle.pt_types.specs.declared.outcome.Outcome.TheVariants.{Done, Serial, Eperm, Einval, Ebusy}
use Rattle.pt_types.specs.declared.outcome.Outcome.TheVariants.{Eagain, Edeadlk, Etimedout}
use Rattle.pt_types.specs.declared.outcome.Outcome.TheVariants.{Eownerdead, Enotrecoverable}
use Rattle.pt_types.specs.Operations.{Operation, Inits, Ends, Acquires, Unlocks, Restores}
use Rattle.pt_types.specs.Operations.{Rwunlocks, CondWaits, Signals, Broadcasts, BarrierWaits, operation}
use Rattle.pt_timers.specs.Deadlines.{deadline_at}
use Rattle.pt_waitq.specs.ListLemmas.{any-in, any-out}
use Rattle.pt_model.specs.declared.entry.Cause.{Cause}
use Rattle.pt_model.specs.declared.entry.Entry.{Entry}
use Rattle.pt_model.specs.declared.entry.Entry.TheVariants.{Call}
use Rattle.pt_model.specs.Searches.{In}
use Rattle.pt_model.specs.Histories.{History, ◌▷◌, place}
use Rattle.pt_model.specs.declared.waiting_call.WaitingCall.{WaitingCall}
use Rattle.pt_model.specs.declared.waiting_call.Move.{Move}
use Rattle.pt_model.specs.Answers.{open_calls}
use Rattle.pt_model.specs.Moves.{cause_by, cause_by_operation, move_or, wait_move, is_moved}
use Rattle.pt_model.specs.Steps.{Follows}
use Rattle.pt_records.specs.declared.clients.Open.{Open}
use Rattle.pt_state.specs.declared.state.State.{State}
use Rattle.pt_state.specs.Adds.{history_of, Adds, HasRoomFor}
use Rattle.pt_records.specs.Callers.{opens_of}
use Rattle.pt_state.specs.Serving.{call_of_open, move_of, AreOpen}
use Rattle.pt_state.proofs.ServingFinds.{are-open}
use Rattle.pt_machine.specs.CallDeadlines.{timer_at, AreDeadlinesSet, HasOwnDeadline, can_move_waits}
use Rattle.pt_machine.specs.CallDeadlines.{is_from}
use Rattle.pt_machine.specs.CallDeadlines.{was_moved_at}
use Rattle.pt_machine.proofs.QueuedSame.{history_of-adds}
use Rattle.pt_machine.proofs.QueuedCalls.{open-answered}
use Rattle.pt_machine.proofs.TimedSteps.{set-same, set-wait_move}
use Rattle.pt_machine.proofs.TimedStates.{own-deadline}
use Rattle.pt_machine.proofs.TimerDrops.{went, dropped}
use Rattle.pt_history.proofs.Places.{place_of_next}

-- both tests pass
both : (a b : Bool) → (a && b) ≡ true → (a ≡ true) × (b ≡ true)
both true true e = (refl, refl)
both true false e = absurd cc
both false b e = absurd cc

-- a call that an entry moved has a move
is_there : (k : ℕ) (o : Option Move) → is_from k o ≡ true → is_some o ≡ true
is_there k None e = absurd cc
is_there k (Some v) e = refl

module _ (h : History) (e : Entry) (f : Follows h) (same : open_calls (h ▷ e) ≡ open_calls h)
    (opens : List Open) (are : AreOpen (h ▷ e) opens) (p : ℕ) where
  -- the entry moved the call at this place
  abbrev Went : Bool → Type 0
  Went b = list_any (went (place h) p) opens ≡ b

  -- then that call is moved
  goes : Went true → (w : WaitingCall) → In w (open_calls h) → w.place ≡ p
      → is_moved (h ▷ e) w ≡ true
  goes t w i at =
      let r = any-out (went (place h) p) opens t in
      let tests = both (was_moved_at (place h) r.0) (r.0.call.place == p) r.2 in
      let test : (r.0.call.place == p) ≡ true = tests.1 in
      let there : r.0.call.place ≡ w.place = grind (arith, nat_tests) in
      subst (λ j. is_some (wait_move (h ▷ e) j) ≡ true) there
      (is_there (place h) (wait_move (h ▷ e) r.0.call.place)
      (ap (is_from (place h)) (sym (are.has_call r.0 r.1).1) ∙ tests.0))

  -- otherwise its move is unchanged
  stays : Went false → (w : WaitingCall) → In w (open_calls h) → w.place ≡ p
      → wait_move (h ▷ e) w.place ≡ wait_move h w.place
  stays t w i at = go (cause_by h (wait_move h) e w.place) refl
    where
      here : (place h == place h) ≡ true
      here = grind (arith, nat_tests)

      go : (x : Option Cause) → cause_by h (wait_move h) e w.place ≡ x
          → move_or (place h) x (wait_move h w.place) ≡ wait_move h w.place
      go None k = refl
      go (Some z) k =
          let r = are.found w (subst (λ (ws : List WaitingCall). In w ws) (sym same) i) in
          let its : r.0.call.place ≡ w.place = ap (λ (u : WaitingCall). u.place) r.1.1 in
          let test : (r.0.call.place == p) ≡ true = grind (arith, nat_tests) in
          let move : move_of r.0 ≡ move_or (place h) (Some z) (wait_move h w.place) =
          (are.has_call r.0 r.1.0).1 ∙ (ap (wait_move (h ▷ e)) its
          ∙ ap (λ y. move_or (place h) y (wait_move h w.place)) k) in
          let from : was_moved_at (place h) r.0 ≡ true = ap (is_from (place h)) move ∙ here in
          absurd (false≢true (sym t ∙ any-in (went (place h) p) opens r.0 r.1.0
          (rw (from, test) refl)))

  -- so the deadlines of those that it moves are dropped
  pub set-dropped : timer_at (h ▷ e) p ≡ dropped (place h) opens (timer_at h p) p
  set-dropped = go (list_any (went (place h) p) opens) refl
    where
      go : (b : Bool) → Went b → timer_at (h ▷ e) p ≡ cond b None (timer_at h p)
      go true t = set-wait_move h e f same p (goes t)
      go false t = set-same h e f same p (stays t)

-- a call that can move no wait moves none
moves-none : (h : History) (c : ℕ) (call : FunctionCall) (x : Outcome)
    → can_move_waits (operation call) ≡ false → (j : ℕ)
    → cause_by h (wait_move h) (Call c call (Some x)) j ≡ None
moves-none h c call Done none j = by (operation call) none
  where
    by : (o : Operation) → can_move_waits o ≡ false → cause_by_operation h (wait_move h) o j ≡ None
    by (Signals n) e = cc
    by (Broadcasts n) e = cc
    by (Inits n kind) e = refl
    by (Ends n s) e = refl
    by (Acquires n k how) e = refl
    by (Unlocks n) e = refl
    by (Restores n) e = refl
    by (Rwunlocks n) e = refl
    by (CondWaits n m d) e = refl
    by (BarrierWaits n) e = refl
moves-none h c call Serial none j = refl
moves-none h c call Eperm none j = refl
moves-none h c call Einval none j = refl
moves-none h c call Ebusy none j = refl
moves-none h c call Eagain none j = refl
moves-none h c call Edeadlk none j = refl
moves-none h c call Etimedout none j = refl
moves-none h c call Eownerdead none j = refl
moves-none h c call Enotrecoverable none j = refl

module _ {A : Type 0} (old new : State A) (timers later : List (ℕ × (Clock × ℕ))) (c : ℕ)
    (call : FunctionCall) (x : Outcome) (ready : HasRoomFor old (Call c call (Some x)))
    (adds : Adds old (Call c call (Some x)) new) where
  -- the open calls after the entry are those in the rows
  opens-new : AreOpen (history_of old ▷ Call c call (Some x)) (opens_of new.clients)
  opens-new =
      subst (λ (h : History). AreOpen h (opens_of new.clients))
      (history_of-adds old new (Call c call (Some x)) adds)
      (are-open (history_of new) new.clients adds.read.follows adds.read.callers)

  -- a deadline that is set at the place of an open call is still the call's own
  pub own-answered : AreDeadlinesSet (history_of old) timers → (o : Open)
      → In o (opens_of new.clients)
      → HasOwnDeadline timers (call_of_open o)
  own-answered timed o i =
      own-deadline (history_of old) ready.read.follows timers timed (call_of_open o)
      (subst (λ (ws : List WaitingCall). In (call_of_open o) ws)
      (open-answered (history_of old) c call x ready.read.follows ready.step)
      (opens-new.has_call o i).0)

  -- the deadlines that are left are those of the history with the call
  pub timed-answered : (k : ℕ) → k ≡ old.stored.start.at + length old.stored.entries
      → AreDeadlinesSet (history_of old) timers
      → ((p : ℕ) → deadline_at later p
      ≡ dropped k (opens_of new.clients) (deadline_at timers p) p)
      → AreDeadlinesSet (history_of new) later
  timed-answered k at timed drops =
      subst (λ (h : History). AreDeadlinesSet h later)
      (sym (history_of-adds old new (Call c call (Some x)) adds))
      (λ p. drops p
      ∙ (ap (λ j. dropped j (opens_of new.clients) (deadline_at timers p) p)
      (at ∙ sym (place_of_next old.stored))
      ∙ (ap (λ d. dropped (place (history_of old)) (opens_of new.clients) d p) (timed p)
      ∙ sym (set-dropped (history_of old) (Call c call (Some x)) ready.read.follows
      (open-answered (history_of old) c call x ready.read.follows ready.step)
      (opens_of new.clients) opens-new p))))

  -- if it can move no wait, they are those that were set before
  pub timed-unmoved : can_move_waits (operation call) ≡ false
      → AreDeadlinesSet (history_of old) timers
      → AreDeadlinesSet (history_of new) timers
  timed-unmoved none timed =
      subst (λ (h : History). AreDeadlinesSet h timers)
      (sym (history_of-adds old new (Call c call (Some x)) adds))
      (λ p. timed p
      ∙ sym (set-same (history_of old) (Call c call (Some x)) ready.read.follows
      (open-answered (history_of old) c call x ready.read.follows ready.step) p
      (λ w i at. ap (λ y. move_or (place (history_of old)) y (wait_move (history_of old) w.place))
      (moves-none (history_of old) c call x none w.place))))
