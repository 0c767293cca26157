-- The deadlines that are set beside a state, as entries are pushed.
use Rattle.std.proofs.Common.{◌+◌, ◌≡◌, ℕ, Bool, true, false, cond, ◌==◌, ◌&&◌, List, Option, Some}
use Rattle.std.proofs.Common.{None}
use Rattle.std.proofs.Common.{Result, Ok, Err, OnOk, OnErr, length, refl, sym, ap, ◌∙◌, subst}
use Rattle.std.proofs.Common.{rules, arith}
use Rattle.std.proofs.lemmas.Bool.Decides.{nat_tests}
use Rattle.std.specs.Prelude.{option_map}
use Rattle.pt_types.specs.declared.call.Call.{Call as FunctionCall}
use Rattle.pt_types.specs.Times.{Timespec, deadline_nanos, is_invalid_deadline}
use Rattle.pt_types.specs.declared.time.Clock.{Clock}
use Rattle.pt_types.specs.Operations.{operation, clock_of}
use Rattle.pt_types.specs.declared.time.Clock.TheVariants.{Real, Mono}
use Rattle.pt_timers.specs.Deadlines.{deadline_at, is_set_to}
use Rattle.pt_model.specs.declared.entry.Entry.{Entry}
use Rattle.pt_model.specs.declared.entry.Entry.TheVariants.{Call, Death, Grant, Trip, Yield, Expire}
use Rattle.pt_model.specs.Searches.{In}
use Rattle.pt_model.specs.Histories.{History, ◌▷◌, place}
use Rattle.pt_model.specs.declared.waiting_call.WaitingCall.{WaitingCall}
use Rattle.pt_model.specs.WaitingCall.{is_barrier_wait}
use Rattle.pt_model.specs.Steps.{Follows}
use Rattle.pt_model.specs.Answers.{open_calls, open_place}
use Rattle.pt_model.specs.Grants.{grant_outcome}
use Rattle.pt_model.specs.Forced.{service}
use Rattle.pt_records.specs.declared.clients.Open.{Open}
use Rattle.pt_state.specs.declared.state.State.{State}
use Rattle.pt_state.specs.Adds.{history_of, Adds, AddsNothing, HasRoomFor}
use Rattle.pt_records.specs.Callers.{opens_of}
use Rattle.pt_state.specs.Reads.{AreTables}
use Rattle.pt_state.specs.Serving.{call_of_open}
use Rattle.pt_state.proofs.ServingFinds.{are-open}
use Rattle.pt_machine.specs.CallDeadlines.{operation_deadline, has_timer, timer_at, timer_of_call}
use Rattle.pt_machine.specs.CallDeadlines.{AreDeadlinesSet, HasOwnDeadline}
use Rattle.pt_machine.specs.CallDeadlines.{valid_deadline}
use Rattle.pt_machine.proofs.QueuedSame.{history_of-adds, history_of-stays}
use Rattle.pt_machine.proofs.TimedSteps.{set-new, set-yield, set-grant, set-expire, set-death-free}
use Rattle.pt_machine.proofs.TimedSteps.{set-death, set-open}
use Rattle.pt_machine.proofs.TimedCalls.{set-arrival, set-trip, set-left}
use Rattle.pt_history.proofs.Places.{place_of_next}

-- cancelling the deadline at a place where none is set changes nothing
pub unset : (set : ℕ → Option (Clock × ℕ)) (j : ℕ) → set j ≡ None → (p : ℕ)
    → cond (j == p) None (set p) ≡ set p
unset set j e p = go (j == p) refl
  where
    go : (b : Bool) → (j == p) ≡ b → cond b None (set p) ≡ set p
    go false k = refl
    go true k =
        let here : j ≡ p = grind (arith, nat_tests) in
        sym e ∙ ap set here

-- setting a deadline and cancelling it again changes nothing
set_back : (set between after : ℕ → Option (Clock × ℕ)) (j : ℕ) (n : Clock × ℕ)
    → set j ≡ None → ((p : ℕ) → between p ≡ cond (j == p) (Some n) (set p))
    → ((p : ℕ) → after p ≡ cond (j == p) None (between p)) → (p : ℕ) → after p ≡ set p
set_back set between after j n e one two p =
    two p ∙ (ap (cond (j == p) None) (one p) ∙ (both (j == p) ∙ unset set j e p))
  where
    both : (b : Bool) → cond b None (cond b (Some n) (set p)) ≡ cond b None (set p)
    both true = refl
    both false = refl

-- a deadline is the same as itself
own_setting : (k : Clock) (n : ℕ) → is_set_to k n (Some (k, n)) ≡ true
own_setting Real n = grind (arith, nat_tests)
own_setting Mono n = grind (arith, nat_tests)

-- a deadline that is taken away by its clock and its nanoseconds is no longer set
pub taken : (timers later : List (ℕ × (Clock × ℕ))) (j : ℕ) (k : Clock) (n : ℕ)
    → ((d : Clock × ℕ) → deadline_at timers j ≡ Some d → Some (k, n) ≡ Some d)
    → ((p : ℕ) → deadline_at later p
    ≡ cond ((j == p) && is_set_to k n (deadline_at timers p)) None (deadline_at timers p))
    → (p : ℕ) → deadline_at later p ≡ cond (j == p) None (deadline_at timers p)
taken timers later j k n own less p = less p ∙ go (j == p) refl (deadline_at timers p) refl
  where
    go : (b : Bool) → (j == p) ≡ b → (o : Option (Clock × ℕ)) → deadline_at timers p ≡ o
        → cond (b && is_set_to k n o) None o ≡ cond b None o
    go false t o e = refl
    go true t None e = search rules
    go true t (Some d) e =
        let here : j ≡ p = grind (arith, nat_tests) in
        ap (λ (x : Option (Clock × ℕ)). cond {A = Option (Clock × ℕ)} (is_set_to k n x) None
        (Some d)) (sym (own d (ap (deadline_at timers) here ∙ e)))
        ∙ ap (λ b. cond {A = Option (Clock × ℕ)} b None (Some d)) (own_setting k n)

-- the deadline at a place is the one that was just set there
pub just-set : (timers between : List (ℕ × (Clock × ℕ))) (j : ℕ) (k : Clock) (n m : ℕ) → n ≡ m
    → ((p : ℕ) → deadline_at between p ≡ cond (j == p) (Some (k, m)) (deadline_at timers p))
    → (d : Clock × ℕ) → deadline_at between j ≡ Some d
    → ◌≡◌ {A = Option (Clock × ℕ)} (Some (k, n)) (Some d)
just-set timers between j k n m same set d e =
    let here : (j == j) ≡ true = grind (arith, nat_tests) in
    ap (λ i. Some (k, i)) same
    ∙ (sym (ap (λ b. cond b (Some (k, m)) (deadline_at timers j)) here) ∙ (sym (set j) ∙ e))

-- a call with no deadline has none set at its place
pub own-none : (timers : List (ℕ × (Clock × ℕ))) (w : WaitingCall) → HasOwnDeadline timers w
    → w.deadline ≡ None → deadline_at timers w.place ≡ None
own-none timers w own none = go (deadline_at timers w.place) refl
  where
    go : (o : Option (Clock × ℕ)) → deadline_at timers w.place ≡ o → o ≡ None
    go None e = refl
    go (Some d) e =
        let both = sym (ap (option_map (λ n. (w.clock, n))) none) ∙ own d e in absurd cc

-- a deadline that is set at the place of an open call is the call's own
pub own-deadline : (h : History) → Follows h → (timers : List (ℕ × (Clock × ℕ)))
    → AreDeadlinesSet h timers → (w : WaitingCall) → In w (open_calls h) → HasOwnDeadline timers w
own-deadline h f timers timed w i d e =
    go (has_timer h w) (sym (timed w.place ∙ set-open h f w i) ∙ e)
  where
    go : (b : Bool) → cond b (timer_of_call w) None ≡ Some d → timer_of_call w ≡ Some d
    go true x = x
    go false x = absurd cc

pub own-deadlines : {A : Type 0} (s : State A) (timers : List (ℕ × (Clock × ℕ))) → AreTables s
    → AreDeadlinesSet (history_of s) timers → (o : Open) → In o (opens_of s.clients)
    → HasOwnDeadline timers (call_of_open o)
own-deadlines s timers read timed o has_call =
    own-deadline (history_of s) read.follows timers timed (call_of_open o)
    ((are-open (history_of s) s.clients read.follows read.callers).has_call o has_call).0

module _ {A : Type 0} (old new : State A) (timers later : List (ℕ × (Clock × ℕ)))
    (timed : AreDeadlinesSet (history_of old) timers) where
  -- if no entry is added, the same deadlines are set
  pub timed-stays : AddsNothing old new → ((p : ℕ) → deadline_at later p ≡ deadline_at timers p)
      → AreDeadlinesSet (history_of new) later
  timed-stays s t =
      subst (λ (h : History). AreDeadlinesSet h later) (sym (history_of-stays old new s))
      (λ p. t p ∙ timed p)

  -- the deadlines of the history with an entry are right for the state that has the entry
  timed_adds : (e : Entry) → Adds old e new
      → ((p : ℕ) → deadline_at later p ≡ timer_at (history_of old ▷ e) p)
      → AreDeadlinesSet (history_of new) later
  timed_adds e a t =
      subst (λ (h : History). AreDeadlinesSet h later) (sym (history_of-adds old new e a)) t

  -- the deadline of the call at a place was cancelled
  abbrev Cancels : ℕ → Type 0
  Cancels j = (p : ℕ) → deadline_at later p ≡ cond (j == p) None (deadline_at timers p)

  -- a deadline of the history before is cancelled
  cancelled : (j : ℕ) → Cancels j → (p : ℕ)
      → deadline_at later p ≡ cond (j == p) None (timer_at (history_of old) p)
  cancelled j k p = k p ∙ ap (cond (j == p) None) (timed p)

module _ {A : Type 0} (old : State A) (timers : List (ℕ × (Clock × ℕ))) (c : ℕ) (call : FunctionCall)
    (ready : HasRoomFor old (Call c call None)) (timed : AreDeadlinesSet
    (history_of old) timers) where
  -- the place of the call that comes next
  abbrev IsNext : ℕ → Type 0
  IsNext j = j ≡ old.stored.start.at + length old.stored.entries

  next : (j : ℕ) → IsNext j → j ≡ place (history_of old)
  next j at = at ∙ sym (place_of_next old.stored)

  -- no deadline is set there yet
  pub none-next : (j : ℕ) → IsNext j → deadline_at timers j ≡ None
  none-next j at =
      timed j ∙ (ap (timer_at (history_of old)) (next j at)
      ∙ set-new (history_of old) ready.read.follows)

  -- a call without a deadline that is a time sets none
  pub untimed : (new : State A) → valid_deadline (operation_deadline (operation call)) ≡ None
      → Adds old (Call c call None) new
      → AreDeadlinesSet (history_of new) timers
  untimed new none a =
      timed_adds old new timers timers timed (Call c call None) a
      (λ p. timed p
      ∙ (sym (unset (timer_at (history_of old)) (place (history_of old))
      (set-new (history_of old) ready.read.follows) p)
      ∙ (ap (λ d. cond (place (history_of old) == p)
      (option_map (λ t. (clock_of call, deadline_nanos t)) d)
      (timer_at (history_of old) p)) (sym none)
      ∙ sym (set-left (history_of old) ready.read.follows c call ready.step p))))

  -- whether it is refused or not
  pub timed-untimed : {X E : Type 0} (new : State A) (answer : Result X E)
      → valid_deadline (operation_deadline (operation call)) ≡ None
      → OnOk answer (Adds old (Call c call None) new)
      → OnErr answer (AddsNothing old new) → AreDeadlinesSet (history_of new) timers
  timed-untimed new (Ok x) none a s = untimed new none a
  timed-untimed new (Err x) none a s = timed-stays old new timers timers timed s (λ p. refl)

  module _ (d : Timespec) (written : operation_deadline (operation call) ≡ Some d)
      (good : is_invalid_deadline d ≡ false) (z : Clock) (its : z ≡ clock_of call) (j : ℕ)
      (at : IsNext j) (between : List (ℕ × (Clock × ℕ))) (set : (p : ℕ)
      → deadline_at between p ≡ cond (j == p) (Some (z, deadline_nanos d)) (deadline_at timers p))
    where
      good_one : valid_deadline (operation_deadline (operation call)) ≡ Some d
      good_one = ap valid_deadline written ∙ ap (λ b. cond b None (Some d)) good

      -- the deadline that was set before the push is that of the call
      pub timed-left : (new : State A) → Adds old (Call c call None) new
          → AreDeadlinesSet (history_of new) between
      timed-left new a =
          timed_adds old new timers between timed (Call c call None) a
          (λ p. set p
          ∙ (ap (cond (j == p) (Some (z, deadline_nanos d))) (timed p)
          ∙ (ap (λ k. cond (k == p) (Some (z, deadline_nanos d)) (timer_at (history_of old) p))
          (next j at)
          ∙ (ap (λ k. cond (place (history_of old) == p) (Some (k, deadline_nanos d))
          (timer_at (history_of old) p)) its
          ∙ (ap (λ o. cond (place (history_of old) == p)
          (option_map (λ t. (clock_of call, deadline_nanos t)) o)
          (timer_at (history_of old) p)) (sym good_one)
          ∙ sym (set-left (history_of old) ready.read.follows c call ready.step p))))))

      -- if the call is refused, its deadline is cancelled
      pub timed-refused : (new : State A) (later : List (ℕ × (Clock × ℕ))) → AddsNothing old new
          → ((p : ℕ) → deadline_at later p ≡ cond (j == p) None (deadline_at between p))
          → AreDeadlinesSet (history_of new) later
      timed-refused new later s cancel =
          timed-stays old new timers later timed s
          (set_back (deadline_at timers) (deadline_at between) (deadline_at later) j
          (z, deadline_nanos d) (none-next j at) set cancel)

module _ {A : Type 0} (old new : State A) (timers later : List (ℕ × (Clock × ℕ)))
    (read : AreTables old)
    (timed : AreDeadlinesSet (history_of old) timers) where
  -- a client died whose open call had this place
  pub timed-death : (c j : ℕ) → Adds old (Death c) new → open_place (history_of old) c ≡ Some j
      → Cancels old new timers later timed j → AreDeadlinesSet (history_of new) later
  timed-death c j a e k =
      timed_adds old new timers later timed (Death c) a
      (λ p. cancelled old new timers later timed j k p
      ∙ sym (set-death (history_of old) c j read.follows e p))

  -- a client died that had no open call
  pub timed-death-free : (c : ℕ) → Adds old (Death c) new → open_place (history_of old) c ≡ None
      → AreDeadlinesSet (history_of new) timers
  timed-death-free c a e =
      timed_adds old new timers timers timed (Death c) a
      (λ p. timed p ∙ sym (set-death-free (history_of old) c read.follows e p))

  -- a mutex was taken from its dead owner
  pub timed-yield : (m : ℕ) → Adds old (Yield m) new → AreDeadlinesSet (history_of new) timers
  timed-yield m a =
      timed_adds old new timers timers timed (Yield m) a
      (λ p. timed p ∙ sym (set-yield (history_of old) m read.follows p))

  -- a full barrier tripped
  pub timed-tripped : (b : ℕ) → Adds old (Trip b) new → AreDeadlinesSet (history_of new) timers
  timed-tripped b a =
      timed_adds old new timers timers timed (Trip b) a
      (λ p. timed p ∙ sym (set-trip (history_of old) b read.follows p))

  module _ (o : Open) (has_call : In o (opens_of old.clients))
      (k : Cancels old new timers later timed o.call.place) where
    open_call : In (call_of_open o) (open_calls (history_of old))
    open_call = ((are-open (history_of old) old.clients read.follows read.callers).has_call o has_call).0

    -- a deadline passed
    pub timed-late : Adds old (Expire o.call.place) new → AreDeadlinesSet (history_of new) later
    timed-late a =
        timed_adds old new timers later timed (Expire o.call.place) a
        (λ p. cancelled old new timers later timed o.call.place k p
        ∙ sym (set-expire (history_of old) (call_of_open o) read.follows open_call p))

    -- a call was served
    pub timed-served : Adds old (service (history_of old) (call_of_open o)) new
        → AreDeadlinesSet (history_of new) later
    timed-served a =
        timed_adds old new timers later timed (service (history_of old) (call_of_open o)) a
        (λ p. cancelled old new timers later timed o.call.place k p
        ∙ sym (go (is_barrier_wait (call_of_open o).role) refl p))
      where
        go : (b : Bool) → is_barrier_wait (call_of_open o).role ≡ b → (p : ℕ)
            → timer_at (history_of old ▷ cond b (Trip o.call.object)
            (Grant o.call.place (grant_outcome (history_of old) (call_of_open o)))) p
            ≡ cond (o.call.place == p) None (timer_at (history_of old) p)
        go true arrival p =
            set-trip (history_of old) o.call.object read.follows p
            ∙ sym (unset (timer_at (history_of old)) o.call.place
            (set-arrival (history_of old) read.follows (call_of_open o) open_call arrival) p)
        go false other p =
            set-grant (history_of old) o.call.place (grant_outcome (history_of old)
            (call_of_open o)) read.follows p
