-- How the deadlines that are set change as a call is left waiting, and as a barrier trips.
use Rattle.std.proofs.Common.{◌≡◌, ℕ, inl, inr, ◌⊎◌, Bool, true, false, cond, not, ◌&&◌, ◌==◌, List}
use Rattle.std.proofs.Common.{◌++◌, Option, Some, None, is_some, refl, sym, ap, ◌∙◌, subst, arith}
use Rattle.std.proofs.Common.{filter}
use Rattle.std.proofs.lemmas.Bool.Decides.{nat_tests}
use Rattle.std.proofs.lemmas.Bool.{false≢true, and_parts}
use Rattle.std.proofs.lemmas.List.Elements.{filter-append}
use Rattle.std.specs.List.{list_any}
use Rattle.std.specs.Prelude.{option_map}
use Rattle.pt_types.specs.declared.call.Call.{Call as FunctionCall}
use Rattle.pt_types.specs.declared.outcome.Outcome.{Outcome}
use Rattle.pt_types.specs.Times.{Timespec, deadline_nanos, has_invalid_deadline}
use Rattle.pt_types.specs.declared.time.Clock.{Clock}
use Rattle.pt_types.specs.Operations.{Operation, Inits, Ends, Acquires, Unlocks, Restores}
use Rattle.pt_types.specs.Operations.{Rwunlocks, CondWaits, Signals, Broadcasts, BarrierWaits, operation}
use Rattle.pt_types.specs.Operations.{clock_of}
use Rattle.pt_types.specs.declared.operations.LockKind.{LockKind}
use Rattle.pt_types.specs.declared.operations.LockKind.TheVariants.{MutexLock, ReadLock, WriteLock}
use Rattle.pt_types.specs.Tables.{reply}
use Rattle.pt_model.proofs.Induction.{by_steps}
use Rattle.pt_model.specs.declared.entry.Entry.{Entry}
use Rattle.pt_model.specs.declared.entry.Entry.TheVariants.{Call, Trip}
use Rattle.pt_model.specs.Searches.{In}
use Rattle.pt_model.specs.Histories.{History, ◌▷◌, place}
use Rattle.pt_model.specs.declared.waiting_call.WaitingCall.{WaitingCall}
use Rattle.pt_model.specs.WaitingCall.{waiting_calls_by_operation, waiting_calls_by, role_of_lock}
use Rattle.pt_model.specs.WaitingCall.{call_at_place}
use Rattle.pt_model.specs.WaitingCall.{is_barrier_wait}
use Rattle.pt_model.specs.Answers.{open_calls}
use Rattle.pt_model.specs.Moves.{wait_move, is_moved}
use Rattle.pt_model.specs.Verdicts.{verdict}
use Rattle.pt_model.specs.Steps.{Step, joins, calls, dies, ticks, grants, trips, yields, expires}
use Rattle.pt_model.specs.Steps.{Follows}
use Rattle.pt_model.proofs.Lists.{In-append_right, any-in, any-false}
use Rattle.pt_model.proofs.Effects.{effect, Allowed}
use Rattle.pt_model.proofs.Allowances.{allowed}
use Rattle.pt_model.proofs.Changes.{left_by}
use Rattle.pt_model.proofs.Readings.{stood-call}
use Rattle.pt_model.proofs.Sound.{Fresh-follows}
use Rattle.pt_model.proofs.Found.{one_open}
use Rattle.pt_model.proofs.Opens.{open-sealed, stands_at_barrier, left, was_open, open-call}
use Rattle.pt_model.proofs.Opens.{open-trip}
use Rattle.pt_model.proofs.WaitingOrder.{stands-operation}
use Rattle.pt_state.proofs.StepLemmas.{called}
use Rattle.pt_machine.specs.CallDeadlines.{operation_deadline, call_deadline, has_timer, timer_of_call}
use Rattle.pt_machine.specs.CallDeadlines.{timer_of_found, timer_at, valid_deadline}
use Rattle.pt_machine.proofs.NoBadDeadlines.{stood_timed, left_timed}
use Rattle.pt_machine.proofs.TimedSteps.{at-none, at-same, at-before, set-open, still-set}
use Rattle.pt_machine.proofs.TimedSteps.{set-stays, set-goes}

-- a call that an operation leaves at a barrier has no deadline
operation_arrival : (h : History) (c : ℕ) (z : Clock) (d : Operation) (w : WaitingCall)
    → In w (waiting_calls_by_operation h c z d) → is_barrier_wait w.role ≡ true → w.deadline ≡ None
operation_arrival h c z (Acquires n lock_kind how) w (inl i) a =
    absurd (false≢true (sym (lock lock_kind)
    ∙ (ap (λ (v : WaitingCall). is_barrier_wait v.role) (sym i) ∙ a)))
  where
    lock : (x : LockKind) → is_barrier_wait (role_of_lock x) ≡ false
    lock MutexLock = refl
    lock ReadLock = refl
    lock WriteLock = refl
operation_arrival h c z (Acquires n lock_kind how) w (inr i) a = absurd i
operation_arrival h c z (CondWaits n m d) w (inl i) a =
    absurd (false≢true (ap (λ (v : WaitingCall). is_barrier_wait v.role) (sym i) ∙ a))
operation_arrival h c z (CondWaits n m d) w (inr i) a = absurd i
operation_arrival h c z (BarrierWaits n) w (inl i) a = ap (λ (v : WaitingCall). v.deadline) i
operation_arrival h c z (BarrierWaits n) w (inr i) a = absurd i
operation_arrival h c z (Inits n kind) w i a = absurd i
operation_arrival h c z (Ends n class) w i a = absurd i
operation_arrival h c z (Unlocks n) w i a = absurd i
operation_arrival h c z (Restores n) w i a = absurd i
operation_arrival h c z (Rwunlocks n) w i a = absurd i
operation_arrival h c z (Signals n) w i a = absurd i
operation_arrival h c z (Broadcasts n) w i a = absurd i

-- the same for a call
stood_arrival : (h : History) (c : ℕ) (call : FunctionCall) (r : Option Outcome) (w : WaitingCall)
    → In w (waiting_calls_by h (Call c call r)) → is_barrier_wait w.role ≡ true → w.deadline ≡ None
stood_arrival h c call None w i a = operation_arrival h c (clock_of call) (operation call) w i a
stood_arrival h c call (Some x) w i a = absurd i

-- no open call at a barrier has a deadline
abbrev pub Untimed : History → Type 0
Untimed h =
    (w : WaitingCall) → In w (open_calls h) → is_barrier_wait w.role ≡ true → w.deadline ≡ None

-- each entry preserves this
untimed_step : (h : History) (e : Entry) → Untimed h → Step h e → (w : WaitingCall)
    → In w (open_calls h) ⊎ In w (left h e) → is_barrier_wait w.role ≡ true → w.deadline ≡ None
untimed_step h e u s w (inl i) a = u w i a
untimed_step h _ u (calls c call n v o) w (inr i) a =
    stood_arrival h c call (reply (verdict h c call)) w
    (subst (λ (ws : List WaitingCall). In w ws)
    (sym (stood-call h c call (reply (verdict h c call)))) i) a
untimed_step h _ u (joins p n lt) w (inr i) a = absurd i
untimed_step h _ u (dies c n v) w (inr i) a = absurd i
untimed_step h _ u (ticks k t n) w (inr i) a = absurd i
untimed_step h _ u (grants v s j g) w (inr i) a = absurd i
untimed_step h _ u (trips v s j t) w (inr i) a = absurd i
untimed_step h _ u (yields m s t) w (inr i) a = absurd i
untimed_step h _ u (expires v s j t) w (inr i) a = absurd i

-- and it holds for every history
pub arrival-untimed : (h : History) → Follows h → Untimed h
arrival-untimed h f =
    by_steps Untimed (λ w i a. absurd i)
    (λ h e f u s w i a. untimed_step h e u s w (was_open h e f s w i) a)
    (λ h f u w i a. u w (open-sealed h w i) a) h f

-- so no deadline is set at the place of such a call
pub set-arrival : (h : History) → Follows h → (w : WaitingCall) → In w (open_calls h)
    → is_barrier_wait w.role ≡ true → timer_at h w.place ≡ None
set-arrival h f w i a =
    set-open h f w i
    ∙ (ap (λ d. cond (has_timer h w) (option_map (λ n. (w.clock, n)) d) None)
    (arrival-untimed h f w i a)
    ∙ none (has_timer h w))
  where
    none : (b : Bool) → ◌≡◌ {A = Option (Clock × ℕ)} (cond b None None) None
    none true = refl
    none false = refl

-- and a Trip cancels none
pub set-trip : (h : History) (b : ℕ) → Follows h → (p : ℕ)
    → timer_at (h ▷ Trip b) p ≡ timer_at h p
set-trip h b f p = go (list_any trips_at (open_calls h)) refl
  where
    trips_at : WaitingCall → Bool
    trips_at w = (w.place == p) && stands_at_barrier b w

    waiting : (x t : Bool) → (x && t) ≡ false → x ≡ true → not t ≡ true
    waiting true false e k = refl
    waiting true true e k = absurd cc
    waiting false t e k = absurd cc

    go : (t : Bool) → list_any trips_at (open_calls h) ≡ t → timer_at (h ▷ Trip b) p ≡ timer_at h p
    go true k =
        let x = any-in trips_at (open_calls h) k in
        let parts = and_parts (x.0.place == p) (stands_at_barrier b x.0) x.1.1 in
        let here : (x.0.place == p) ≡ true = parts.0 in
        let there : x.0.place ≡ p = grind (arith, nat_tests) in
        set-goes h (Trip b) f (λ w. not (stands_at_barrier b w)) (open-trip h b f) p
        (λ w i at. ap (λ t. not t && not (is_moved h w))
        (ap (stands_at_barrier b) (one_open h f w x.0 i x.1.0 (at ∙ sym there)) ∙ parts.1))
        ∙ sym (subst (λ q. timer_at h q ≡ None) there (set-arrival h f x.0 x.1.0
        (and_parts (is_barrier_wait x.0.role) (x.0.object == b) parts.1).0))
    go false k =
        set-stays h (Trip b) f (λ w. not (stands_at_barrier b w)) (open-trip h b f) p
        (λ w i at. let here : (w.place == p) ≡ true = grind (arith, nat_tests) in (
          waiting (w.place == p) (stands_at_barrier b w)
              (any-false trips_at (open_calls h) w k i) here,
          refl,
        ))

-- the deadline that a call sets, if it is a time
abbrev pub sets : FunctionCall → Option (Clock × ℕ)
sets call = option_map (λ d. (clock_of call, deadline_nanos d)) (valid_deadline (operation_deadline
    (operation call)))

module _ (h : History) (f : Follows h) (c : ℕ) (call : FunctionCall) (s : Step h (Call c call None))
  where
    -- the history after the call
    abbrev after : History
    after = h ▷ Call c call None

    -- the open calls, with the one that it leaves waiting
    opens : open_calls after ≡ open_calls h ++ left_by (effect h c call None)
    opens =
        open-call h c call None (Fresh-follows h f) (called h c call None s).alive
        (subst (λ (r : Option Outcome). Allowed h c (effect h c call r))
        (sym (called h c call None s).replies) (allowed h c call))

    -- at its place its deadline is set, if it is a time
    at_new : timer_at after (place h) ≡ sets call
    at_new =
        subst (λ q. timer_at after q ≡ sets call)
        new.1.1.0
        (set-open after (f, s) new.0 there
        ∙ (ap (λ o. cond (not (is_some o)
        && not (has_invalid_deadline (call_deadline after new.0.place)))
        (timer_of_call new.0) None) unmoved
        ∙ (ap (λ d. cond (not (has_invalid_deadline d)) (timer_of_call new.0) None) of_call.0
        ∙ (ap (λ d. cond (not (has_invalid_deadline (operation_deadline
        (operation call)))) d None) its
        ∙ good (operation_deadline (operation call)) (has_invalid_deadline (operation_deadline
        (operation call)))))))
      where
        new : (w : WaitingCall)
            × (In w (waiting_calls_by_operation h c (clock_of call) (operation call))
            × ((w.place ≡ place h) × (w.client ≡ c)))
        new = stands-operation h c (clock_of call) (operation call)
            (sym (called h c call None s).replies)

        own : In new.0 (left_by (effect h c call None))
        own = subst (λ (ws : List WaitingCall). In new.0 ws) (stood-call h c call None) new.1.0

        there : In new.0 (open_calls after)
        there =
            subst (λ (ws : List WaitingCall). In new.0 ws) (sym opens)
            (In-append_right new.0 (open_calls h) (left_by (effect h c call None)) own)

        unmoved : wait_move after new.0.place ≡ None
        unmoved = (Fresh-follows h f).moves new.0.place (omega (arith, new.1.1.0))

        of_call : (call_deadline after new.0.place ≡ operation_deadline (operation call))
            × (new.0.deadline ≡ option_map deadline_nanos (operation_deadline (operation call)))
            × (new.0.clock ≡ clock_of call)
        of_call = left_timed h c call None new.0 own

        timer : Clock → Timespec → Clock × ℕ
        timer k d = (k, deadline_nanos d)

        both : (k : Clock) (d : Option Timespec)
            → option_map (λ n. (k, n)) (option_map deadline_nanos d) ≡ option_map (timer k) d
        both k None = refl
        both k (Some d) = refl

        its : timer_of_call new.0 ≡ option_map (timer (clock_of call)) (operation_deadline
            (operation call))
        its =
            ap (option_map (λ n. (new.0.clock, n))) of_call.1
            ∙ (both new.0.clock (operation_deadline (operation call))
            ∙ ap (λ k. option_map (timer k) (operation_deadline (operation call))) of_call.2)

        good : (d : Option Timespec) (bad : Bool)
            → cond (not bad) (option_map (timer (clock_of call)) d) None
            ≡ option_map (timer (clock_of call)) (cond bad None d)
        good d true = refl
        good d false = refl

    -- at other places nothing has changed
    at_old : (p : ℕ) → (place h == p) ≡ false → timer_at after p ≡ timer_at h p
    at_old p k =
        ap (λ ws. timer_of_found (call_at_place p (filter (has_timer after) ws))) opens
        ∙ (ap (λ ws. timer_of_found (call_at_place p ws))
        (filter-append (has_timer after) (open_calls h) (left_by (effect h c call None)))
        ∙ (ap timer_of_found (at-before p (filter (has_timer after) (open_calls h))
        (filter (has_timer after) (left_by (effect h c call None)))
        (at-none p (has_timer after) (left_by (effect h c call None)) (λ w i at. elsewhere w i at)))
        ∙ ap timer_of_found (at-same p (has_timer after) (has_timer h) (open_calls h)
        (λ w i at. still-set h (Call c call None) w f i refl))))
      where
        elsewhere : (w : WaitingCall) → In w (left_by (effect h c call None)) → w.place ≡ p
            → has_timer after w ≡ false
        elsewhere w i at =
            let here : w.place ≡ place h =
            (stood_timed h c call None w (subst (λ (ws : List WaitingCall). In w ws)
            (sym (stood-call h c call None)) i)).0 in
            absurd (grind (arith, nat_tests))

    -- a call that is left waiting sets its deadline, if that is a time
    pub set-left : (p : ℕ) → timer_at after p
        ≡ cond (place h == p) (sets call) (timer_at h p)
    set-left p = go (place h == p) refl
      where
        go : (b : Bool) → (place h == p) ≡ b → timer_at after p
            ≡ cond b (sets call) (timer_at h p)
        go false k = at_old p k
        go true k =
            let here : place h ≡ p = grind (arith, nat_tests) in
            subst (λ q. timer_at after q ≡ sets call)
            here at_new
