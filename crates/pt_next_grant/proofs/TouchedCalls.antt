-- What a call touches: another that may be served after it, and waits elsewhere, could be served
-- before it.
use Rattle.std.proofs.Common.{◌≡◌, ℕ, Bool, true, false, cond, ◌&&◌, ◌==◌, ◌⊎◌, inl, inr, List, []}
use Rattle.std.proofs.Common.{◌∷◌, ◌++◌, Option, Some, None, refl, sym, ap, ◌∙◌, subst, arith}
use Rattle.std.proofs.Common.{append-nil}
use Rattle.std.proofs.lemmas.Bool.Decides.{nat_tests}
use Rattle.std.proofs.lemmas.Bool.{false≢true}
use Rattle.std.proofs.lemmas.List.Elements.{filter-append}
use Rattle.pt_types.specs.declared.call.Call.{Call as Asked}
use Rattle.pt_types.specs.declared.time.Clock.{Clock}
use Rattle.pt_types.specs.declared.outcome.Consistency.{Consistency}
use Rattle.pt_types.specs.declared.outcome.Consistency.TheVariants.{Consistent, Inconsistent}
use Rattle.pt_types.specs.declared.outcome.Consistency.TheVariants.{NotRecoverable}
use Rattle.pt_types.specs.declared.outcome.Outcome.{Outcome}
use Rattle.pt_types.specs.declared.outcome.Outcome.TheVariants.{Done, Serial, Eperm, Einval, Ebusy}
use Rattle.pt_types.specs.declared.outcome.Outcome.TheVariants.{Eagain, Edeadlk, Etimedout}
use Rattle.pt_types.specs.declared.outcome.Outcome.TheVariants.{Eownerdead, Enotrecoverable}
use Rattle.pt_types.specs.Operations.{Operation, Inits, Ends, Acquires, Unlocks, Restores}
use Rattle.pt_types.specs.Operations.{Rwunlocks, CondWaits, Signals, Broadcasts, BarrierWaits, operation}
use Rattle.pt_types.specs.Operations.{clock_of}
use Rattle.pt_types.specs.declared.operations.ObjectClass.TheVariants.{Mutex as MutexClass}
use Rattle.pt_types.specs.declared.operations.ObjectClass.TheVariants.{Rwlock as RwlockClass}
use Rattle.pt_types.specs.declared.operations.ObjectClass.TheVariants.{Cond as CondClass}
use Rattle.pt_types.specs.declared.operations.LockKind.TheVariants.{MutexLock, ReadLock, WriteLock}
use Rattle.pt_types.specs.MutexTable.{is_some_number, is_not_recoverable}
use Rattle.pt_types.specs.Tables.{reply}
use Rattle.pt_model.specs.declared.entry.Entry.TheVariants.{Call}
use Rattle.pt_model.specs.declared.entry.Cause.{Cause}
use Rattle.pt_model.specs.Searches.{In}
use Rattle.pt_model.specs.Histories.{History, ◌▷◌, place}
use Rattle.pt_model.specs.Clients.{is_alive}
use Rattle.pt_model.specs.Objects.{find_object, kind_of}
use Rattle.pt_model.specs.declared.waiting_call.WaitingCall.{WaitingCall}
use Rattle.pt_model.specs.declared.waiting_call.Role.{Role}
use Rattle.pt_model.specs.declared.waiting_call.Role.TheVariants.{ForMutex, ForRead, ForWrite}
use Rattle.pt_model.specs.declared.waiting_call.Role.TheVariants.{ForBarrier, ForCond}
use Rattle.pt_model.specs.Answers.{open_calls, at_barrier}
use Rattle.pt_model.specs.Moves.{move_or, wait_move, wait_object_by, wait_object}
use Rattle.pt_model.specs.Mutexes.{consistency, owner, mutex_count, frees, consistency_by_operation}
use Rattle.pt_model.specs.Rwlocks.{is_writer, read_count}
use Rattle.pt_model.specs.Verdicts.{verdict}
use Rattle.pt_model.specs.Forced.{can_be_served}
use Rattle.pt_model.specs.Steps.{Step, Follows}
use Rattle.pt_model.proofs.Lists.{In-append_left, In-append_cases, any-false}
use Rattle.pt_model.proofs.Effects.{Effect, Idle, Creates, Removes, Relocks, Frees, Mends, Returns}
use Rattle.pt_model.proofs.Effects.{Wakes, Waits, upon, succeeds, stays, effect, Allowed}
use Rattle.pt_model.proofs.Allowances.{allowed}
use Rattle.pt_model.proofs.Changes.{left_by, kind_effect, cause_effect, awaited, gives_up, mends}
use Rattle.pt_model.proofs.Changes.{returns_it, consistency_effect, resolved}
use Rattle.pt_model.proofs.Readings.{kind-call, consistency-call, is_writer-call, reads-call}
use Rattle.pt_model.proofs.Sound.{Fresh-follows}
use Rattle.pt_model.proofs.Opens.{stands_at_barrier, open-call}
use Rattle.pt_model.proofs.Moves.{wait_move-call}
use Rattle.pt_model.proofs.Seats.{unused-at}
use Rattle.pt_model.proofs.Holders.{owner-call}
use Rattle.pt_next_grant.specs.TouchLaws.{WasServed}
use Rattle.pt_next_grant.specs.Touched.{bound_if, goal, goal_of_operation, service_object_by}
use Rattle.pt_next_grant.specs.Touched.{touched_by_operation}
use Rattle.pt_next_grant.proofs.BoundMutex.{bound-any}
use Rattle.pt_next_grant.proofs.WokenWaits.{cond_beside, stands_below, unserved, waits_known, wakes}
use Rattle.pt_next_grant.proofs.Unchanged.{Quiet, Stays, write_holder-same, first_reader-same, stays-all}
use Rattle.pt_next_grant.proofs.Unchanged.{served-before}

-- the object that an effect touches
abbrev pub touched_effect : History → Effect → Option ℕ
touched_effect h (Frees m) = Some m
touched_effect h (Returns r) = Some r
touched_effect h (Wakes n all) = bound_if h (find_object h n CondClass)
touched_effect h (Waits w) = Some (goal w.role w.object)
touched_effect h _ = None

upon_none : (h : History) (o : Option ℕ) (k : ℕ → Effect)
    → ((x : ℕ) → touched_effect h (k x) ≡ None) → None ≡ touched_effect h (upon o k)
upon_none h None k e = refl
upon_none h (Some x) k e = sym (e x)

upon_some : (h : History) (o : Option ℕ) (k : ℕ → Effect)
    → ((x : ℕ) → touched_effect h (k x) ≡ Some x) → o ≡ touched_effect h (upon o k)
upon_some h None k e = refl
upon_some h (Some x) k e = sym (e x)

-- a call touches the object that its effect touches
pub touched-call : (h : History) (c : ℕ) (call : Asked) (r : Option Outcome)
    → service_object_by h (Call c call r) ≡ touched_effect h (effect h c call r)
touched-call h c call None = waits (clock_of call) (operation call)
  where
    waits : (k : Clock) (d : Operation) → goal_of_operation h d ≡ touched_effect h (stays h c k d)
    waits k (Inits n kind) = refl
    waits k (Ends n class) = refl
    waits k (Acquires n MutexLock how) = refl
    waits k (Acquires n ReadLock how) = refl
    waits k (Acquires n WriteLock how) = refl
    waits k (Unlocks n) = refl
    waits k (Restores n) = refl
    waits k (Rwunlocks n) = refl
    waits k (CondWaits n m deadline) = refl
    waits k (Signals n) = refl
    waits k (Broadcasts n) = refl
    waits k (BarrierWaits n) = refl
touched-call h c call (Some Done) = done (operation call)
  where
    done : (d : Operation) → touched_by_operation h d ≡ touched_effect h (succeeds h d)
    done (Inits n kind) = refl
    done (Ends n class) = upon_none h (find_object h n class) (Removes n class) (λ x. refl)
    done (Acquires n MutexLock how) = upon_none h (find_object h n MutexClass) Relocks (λ x. refl)
    done (Acquires n ReadLock how) = refl
    done (Acquires n WriteLock how) = refl
    done (Unlocks n) = upon_some h (find_object h n MutexClass) Frees (λ x. refl)
    done (Restores n) = upon_none h (find_object h n MutexClass) Mends (λ x. refl)
    done (Rwunlocks n) = upon_some h (find_object h n RwlockClass) Returns (λ x. refl)
    done (CondWaits n m deadline) = refl
    done (Signals n) = refl
    done (Broadcasts n) = refl
    done (BarrierWaits n) = refl
touched-call h c call (Some Serial) = refl
touched-call h c call (Some Eperm) = refl
touched-call h c call (Some Einval) = refl
touched-call h c call (Some Ebusy) = refl
touched-call h c call (Some Eagain) = refl
touched-call h c call (Some Edeadlk) = refl
touched-call h c call (Some Etimedout) = refl
touched-call h c call (Some Eownerdead) = refl
touched-call h c call (Some Enotrecoverable) = refl

still_lost : (b : Bool) (k : Consistency) → is_not_recoverable (consistency_by_operation b false k)
    ≡ is_not_recoverable k
still_lost false k = refl
still_lost true Consistent = refl
still_lost true Inconsistent = refl
still_lost true NotRecoverable = refl

awaited_goal : (role : Role) (q o : ℕ) → (goal role q == o) ≡ false → awaited role o ≡ false
awaited_goal (ForCond m) q o e = e
awaited_goal ForMutex q o e = refl
awaited_goal ForRead q o e = refl
awaited_goal ForWrite q o e = refl
awaited_goal ForBarrier q o e = refl

arrives_goal : (w : WaitingCall) (role : Role) (o : ℕ) → w.role ≡ role
    → (goal role w.object == o) ≡ false
    → stands_at_barrier o w ≡ false
arrives_goal w ForBarrier o r e = rw (r, e) refl
arrives_goal w ForMutex o r e = rw r refl
arrives_goal w ForRead o r e = rw r refl
arrives_goal w ForWrite o r e = rw r refl
arrives_goal w (ForCond m) o r e = rw r refl

module _ (h : History) (c : ℕ) (call : Asked) (f : Follows h) (alive : is_alive h c ≡ true)
    (s : Step h (Call c call (reply (verdict h c call)))) where
  abbrev pub g : History
  g = h ▷ Call c call (reply (verdict h c call))

  module _ (E : Effect) (e : effect h c call (reply (verdict h c call)) ≡ E) (a : Allowed h c E)
    where
      open-E : open_calls g ≡ open_calls h ++ left_by E
      open-E =
          open-call h c call (reply (verdict h c call)) (Fresh-follows h f) alive (allowed h c call)
          ∙ ap (λ x. open_calls h ++ left_by x) e

      wait_move-E : (j : ℕ) → wait_move g j
          ≡ move_or (place h) (cause_effect h (wait_move h) E j) (wait_move h j)
      wait_move-E j =
          wait_move-call h c call (reply (verdict h c call)) j
          ∙ ap (λ x. move_or (place h) (cause_effect h (wait_move h) x j) (wait_move h j)) e

      still : (j : ℕ) → cause_effect h (wait_move h) E j ≡ None → wait_move g j ≡ wait_move h j
      still j none = wait_move-E j ∙ ap (λ x. move_or (place h) x (wait_move h j)) none

      still_at : (w : WaitingCall) → cause_effect h (wait_move h) E w.place ≡ None → wait_object g w
          ≡ wait_object h w
      still_at w none = ap (λ x. wait_object_by w.role x w.object) (still w.place none)

      kind-kept : (w : WaitingCall) → In w (open_calls h)
          → kind_effect (place h) E (kind_of h (wait_object h w)) (wait_object h w)
          ≡ kind_of h (wait_object h w)
      kind-kept w i = go E a
        where
          go : (E : Effect) → Allowed h c E
              → kind_effect (place h) E (kind_of h (wait_object h w)) (wait_object h w)
              ≡ kind_of h (wait_object h w)
          go (Creates n kind) a =
              let lt = stands_below h f w i in
              let ne : (place h == wait_object h w) ≡ false = grind (arith, nat_tests) in
              rw ne refl
          go (Removes n s q) a =
              let aside : (wait_object h w == q) ≡ false =
              any-false (λ (u : WaitingCall). wait_object h u == q) (open_calls h) w
              (unused-at h s q a.1) i in
              let ne : (q == wait_object h w) ≡ false = grind (arith, nat_tests) in
              rw ne refl
          go Idle a = refl
          go (Relocks m) a = refl
          go (Frees m) a = refl
          go (Mends m) a = refl
          go (Returns r) a = refl
          go (Wakes n all) a = refl
          go (Waits u) a = refl

      quiet-E : (w : WaitingCall) → In w (open_calls h) → gives_up E (wait_object h w) ≡ false
          → returns_it E (wait_object h w) ≡ false → Quiet h g (wait_object h w) w.client
      quiet-E w i no_lock no_return =
          record {
            owners =
                owner-call h c call f s o
                ∙ (ap (λ x. cond (gives_up x o && (mutex_count h o c == 1)) None (owner h o)) e
                ∙ rw no_lock refl);
            losses =
                ap is_not_recoverable
                (consistency-call h c call (reply (verdict h c call)) (resolved h c call) o
                (consistency h o)
                ∙ ap (λ x. consistency_effect h c x o (consistency h o)) e)
                ∙ (ap (λ b. is_not_recoverable (consistency_by_operation (mends E o) (frees h o c b)
                (consistency h o))) no_lock
                ∙ still_lost (mends E o) (consistency h o));
            kinds =
                kind-call h c call (reply (verdict h c call)) (kind_of h o) o
                ∙ (ap (λ x. kind_effect (place h) x (kind_of h o) o) e ∙ kind-kept w i);
            writers = write_holder-same h (Call c call (reply (verdict h c call))) o f wrote;
            readers = first_reader-same h (Call c call (reply (verdict h c call))) o f read;
            counts = read w.client;
          }
        where
          o : ℕ
          o = wait_object h w

          back : returns_it (effect h c call (reply (verdict h c call))) o ≡ false
          back = ap (λ x. returns_it x o) e ∙ no_return

          wrote : (d : ℕ) → is_writer g o d ≡ is_writer h o d
          wrote d =
              is_writer-call h c call (reply (verdict h c call)) o d (is_writer h o d)
              ∙ rw back refl

          read : (d : ℕ) → read_count g o d ≡ read_count h o d
          read d = reads-call h c call (reply (verdict h c call)) o d (read_count h o d)
              ∙ rw back refl

      old : (w : WaitingCall) → In w (open_calls h) → gives_up E (wait_object h w) ≡ false
          → returns_it E (wait_object h w) ≡ false → Stays h g (wait_object h w) → can_be_served g w
          ≡ true
          → WasServed h g w
      old w i no_lock no_return k t =
          (i, served-before h g w i (quiet-E w i no_lock no_return) k t)

      no_more : left_by E ≡ [] → open_calls g ≡ open_calls h
      no_more e = open-E ∙ (ap (λ ws. open_calls h ++ ws) e ∙ append-nil (open_calls h))

      was : left_by E ≡ [] → (w : WaitingCall) → In w (open_calls g) → In w (open_calls h)
      was e w i = subst (λ (ws : List WaitingCall). In w ws) (no_more e) i

      -- if an effect moves nothing and leaves no call waiting
      plain : left_by E ≡ [] → ((j : ℕ) → cause_effect h (wait_move h) E j ≡ None)
          → (w : WaitingCall)
          → In w (open_calls g) → can_be_served g w ≡ true
          → ((o : ℕ) → wait_object g w ≡ o → (gives_up E o ≡ false) × (returns_it E o ≡ false))
          → WasServed h g w
      plain el none w i t aside =
          let out = aside (wait_object h w) (still_at w (none w.place)) in
          old w (was el w i) out.0 out.1
          (stays-all h g (wait_object h w) (no_more el) (λ v j at. still v.place (none v.place))) t

  at_false : (k o q : ℕ) → (k == o) ≡ false → o ≡ q → (k == q) ≡ false
  at_false k o q e same = ap (λ x. k == x) (sym same) ∙ e

  -- a new call is served only at its goal
  fresh_call : (u : WaitingCall) → effect h c call (reply (verdict h c call)) ≡ Waits u
      → Allowed h c (Waits u) → (w : WaitingCall) → w ≡ u → can_be_served g w ≡ true
      → (goal u.role u.object == wait_object g w) ≡ false → ⊥
  fresh_call u e a w same t aside =
      let at : w.place ≡ place h = ap (λ (v : WaitingCall). v.place) (same ∙ a.0) in
      let none : wait_move h w.place ≡ None =
      (Fresh-follows h f).moves w.place (omega (arith, at)) in
      go w.role refl (still (Waits u) e a w.place refl ∙ none)
      (ap (λ (v : WaitingCall). goal v.role v.object == wait_object g w) same ∙ aside)
    where
      own : (x : ℕ) → (x == x) ≡ false → ⊥
      own x k = let yes : (x == x) ≡ true = grind (arith, nat_tests) in false≢true (sym k ∙ yes)

      at_role : (role : Role) → w.role ≡ role → wait_object g w
          ≡ wait_object_by role (wait_move g w.place)
          w.object
      at_role role r = ap (λ x. wait_object_by x (wait_move g w.place) w.object) r

      differs : (role : Role) → w.role ≡ role → (q : ℕ) → goal role w.object ≡ q → wait_object g w
          ≡ q
          → (goal w.role w.object == wait_object g w) ≡ false → ⊥
      differs role r q one two k =
          own q (sym (ap (λ x. goal x w.object == wait_object g w) r
          ∙ (ap (λ x. x == wait_object g w) one ∙ ap (λ x. q == x) two)) ∙ k)

      go : (role : Role) → w.role ≡ role → wait_move g w.place ≡ None
          → (goal w.role w.object == wait_object g w) ≡ false → ⊥
      go (ForCond m) r n k = unserved g w (ForCond m) None r n refl t
      go ForMutex r n k = differs ForMutex r w.object refl (at_role ForMutex r) k
      go ForRead r n k = differs ForRead r w.object refl (at_role ForRead r) k
      go ForWrite r n k = differs ForWrite r w.object refl (at_role ForWrite r) k
      go ForBarrier r n k = differs ForBarrier r w.object refl (at_role ForBarrier r) k

  stays_waits : (u : WaitingCall) → effect h c call (reply (verdict h c call)) ≡ Waits u
      → Allowed h c (Waits u) → (o : ℕ) → (goal u.role u.object == o) ≡ false → Stays h g o
  stays_waits u e a o aside =
      record {
        stays =
            λ v i at. (
              subst (λ (ws : List WaitingCall). In v ws) (sym (open-E (Waits u) e a))
                  (In-append_left v (open_calls h) (u ∷ []) i),
              still (Waits u) e a v.place refl,
            );
        arrivals =
            ap (at_barrier o) (open-E (Waits u) e a)
            ∙ (filter-append (stands_at_barrier o) (open_calls h) (u ∷ [])
            ∙ (ap (λ b. at_barrier o (open_calls h) ++ cond b (u ∷ []) [])
            (arrives_goal u u.role o refl aside) ∙ append-nil (at_barrier o (open_calls h))));
      }

  -- a wait that is woken goes to the mutex that is touched
  woken_touched : (n : List ℕ) (all : Bool) → effect h c call (reply (verdict h c call))
      ≡ Wakes n all → Allowed h c (Wakes n all) → (w : WaitingCall) → In w (open_calls h)
      → (x : Cause) → cause_effect h (wait_move h) (Wakes n all) w.place ≡ Some x
      → bound_if h (find_object h n CondClass) ≡ Some (wait_object g w)
  woken_touched n all e a w i x k =
      let u = waits_known h n a.0 w a.1 (wakes h n all f w i x k) in
      let now : wait_move g w.place ≡ Some (record { at = place h; cause = x }) =
      wait_move-E (Wakes n all) e a w.place
      ∙ ap (λ y. move_or (place h) y (wait_move h w.place)) k in
      let at : wait_object g w ≡ u.0 =
      ap (λ x. wait_object_by x (wait_move g w.place) w.object) u.1.0
      ∙ ap (λ y. wait_object_by (ForCond u.0) y w.object) now in
      ap (bound_if h) a.1
      ∙ (bound-any h f a.0 w u.0 i u.1.1.1 u.1.0 u.1.1.0 ∙ ap Some (sym at))

  wakes_aside : (n : List ℕ) (all : Bool) → effect h c call (reply (verdict h c call))
      ≡ Wakes n all → Allowed h c (Wakes n all) → (w : WaitingCall) → In w (open_calls h)
      → can_be_served g w ≡ true
      → is_some_number (bound_if h (find_object h n CondClass)) (wait_object g w) ≡ false
      → WasServed h g w
  wakes_aside n all e a w i t aside = go (cause_effect h (wait_move h) (Wakes n all) w.place) refl
    where
      go : (x : Option Cause) → cause_effect h (wait_move h) (Wakes n all) w.place ≡ x
          → WasServed h g w
      go (Some x) k =
          let yes : (wait_object g w == wait_object g w) ≡ true = grind (arith, nat_tests) in
          absurd (false≢true (sym aside
          ∙ (ap (λ o. is_some_number o (wait_object g w)) (woken_touched n all e a w i x k) ∙ yes)))
      go None k =
          old (Wakes n all) e a w i refl refl
          (stays-all h g (wait_object h w) (no_more (Wakes n all) e a refl) (λ v j at. each v j at
          (cause_effect h (wait_move h) (Wakes n all) v.place) refl)) t
        where
          each : (v : WaitingCall) → In v (open_calls h) → wait_object h v ≡ wait_object h w
              → (x : Option Cause) → cause_effect h (wait_move h) (Wakes n all) v.place ≡ x
              → wait_move g v.place ≡ wait_move h v.place
          each v j at None z = still (Wakes n all) e a v.place z
          each v j at (Some x) z =
              let u = waits_known h n a.0 v a.1 (wakes h n all f v j x z) in
              absurd (unserved g w w.role (wait_move h w.place) refl
              (still (Wakes n all) e a w.place k)
              (cond_beside h f v w j i u.0 u.1.0 u.1.1.0 at) t)

  effect_aside : (E : Effect) → effect h c call (reply (verdict h c call)) ≡ E → Allowed h c E
      → (w : WaitingCall) → In w (open_calls g) → can_be_served g w ≡ true
      → is_some_number (touched_effect h E) (wait_object g w) ≡ false → WasServed h g w
  effect_aside Idle e a w i t aside = plain Idle e a refl (λ j. refl) w i t (λ o at. (refl, refl))
  effect_aside (Creates n kind) e a w i t aside =
      plain (Creates n kind) e a refl (λ j. refl) w i t (λ o at. (refl, refl))
  effect_aside (Removes n z q) e a w i t aside =
      plain (Removes n z q) e a refl (λ j. refl) w i t (λ o at. (refl, refl))
  effect_aside (Relocks m) e a w i t aside =
      plain (Relocks m) e a refl (λ j. refl) w i t (λ o at. (refl, refl))
  effect_aside (Mends m) e a w i t aside =
      plain (Mends m) e a refl (λ j. refl) w i t (λ o at. (refl, refl))
  effect_aside (Frees m) e a w i t aside =
      plain (Frees m) e a refl (λ j. refl) w i t
      (λ o at. (at_false m (wait_object g w) o aside at, refl))
  effect_aside (Returns m) e a w i t aside =
      plain (Returns m) e a refl (λ j. refl) w i t
      (λ o at. (refl, at_false m (wait_object g w) o aside at))
  effect_aside (Wakes n all) e a w i t aside =
      wakes_aside n all e a w (was (Wakes n all) e a refl w i) t aside
  effect_aside (Waits u) e a w i t aside =
      go (In-append_cases w (open_calls h) (u ∷ [])
      (subst (λ (ws : List WaitingCall). In w ws) (open-E (Waits u) e a) i))
    where
      go : In w (open_calls h) ⊎ In w (u ∷ []) → WasServed h g w
      go (inr (inl same)) = absurd (fresh_call u e a w same t aside)
      go (inr (inr k)) = absurd k
      go (inl k) =
          let out : (goal u.role u.object == wait_object h w) ≡ false =
          at_false (goal u.role u.object) (wait_object g w) (wait_object h w) aside
          (still_at (Waits u) e a w refl) in
          old (Waits u) e a w k (awaited_goal u.role u.object (wait_object h w) out) refl
          (stays_waits u e a (wait_object h w) out) t

  -- a call that may be served after another, and does not wait at what that touches, could be
  -- served before
  pub call-aside : (w : WaitingCall) → In w (open_calls g) → can_be_served g w ≡ true
      → is_some_number (service_object_by h (Call c call (reply (verdict h c call))))
      (wait_object g w) ≡ false
      → WasServed h g w
  call-aside w i t aside =
      effect_aside (effect h c call (reply (verdict h c call))) refl (allowed h c call) w i t
      (ap (λ o. is_some_number o (wait_object g w))
      (sym (touched-call h c call (reply (verdict h c call)))) ∙ aside)
