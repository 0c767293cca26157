-- The call that is served at an object is its candidate.
use Rattle.std.proofs.Common.{◌≡◌, ℕ, Bool, true, false, cond, ◌&&◌, ◌||◌, ◌==◌, nat_lt, length}
use Rattle.std.proofs.Common.{Option, Some, None, is_some, is_none, refl, sym, ap, ◌∙◌, arith}
use Rattle.std.proofs.lemmas.Bool.Decides.{nat_tests}
use Rattle.std.proofs.lemmas.Bool.{and_parts, and_from, false≢true}
use Rattle.pt_types.specs.declared.call.ObjectKind.{ObjectKind}
use Rattle.pt_types.specs.declared.call.ObjectKind.TheVariants.{Mutex, Rwlock, Cond, Barrier}
use Rattle.pt_types.specs.declared.operations.ObjectClass.TheVariants.{Mutex as MutexClass}
use Rattle.pt_types.specs.declared.operations.ObjectClass.TheVariants.{Rwlock as RwlockClass}
use Rattle.pt_types.specs.MutexTable.{is_some_number, is_not_recoverable, is_recursive}
use Rattle.pt_types.specs.MutexTable.{can_grant_mutex, can_grant_relock}
use Rattle.pt_model.specs.Searches.{In}
use Rattle.pt_model.specs.Histories.{History, Begin}
use Rattle.pt_model.specs.Objects.{is_class, kind_of, mutex_kind, barrier_count}
use Rattle.pt_model.specs.declared.waiting_call.WaitingCall.{WaitingCall}
use Rattle.pt_model.specs.declared.waiting_call.Move.{Move}
use Rattle.pt_model.specs.declared.waiting_call.Role.{Role}
use Rattle.pt_model.specs.declared.waiting_call.Role.TheVariants.{ForMutex, ForRead, ForWrite}
use Rattle.pt_model.specs.declared.waiting_call.Role.TheVariants.{ForBarrier, ForCond}
use Rattle.pt_model.specs.WaitingCall.{is_cond_wait, is_write_lock}
use Rattle.pt_model.specs.Answers.{open_calls, at_barrier}
use Rattle.pt_model.specs.Moves.{wait_move, is_moved, wait_object_by, wait_object, precedes}
use Rattle.pt_model.specs.Moves.{waiting_at}
use Rattle.pt_model.specs.Moves.{is_least}
use Rattle.pt_model.specs.Mutexes.{owner, consistency, mutex_view}
use Rattle.pt_model.specs.Rwlocks.{read_count, write_holder, first_reader}
use Rattle.pt_model.specs.Grants.{is_grantable_as, is_at_full_barrier}
use Rattle.pt_model.specs.Forced.{can_be_served, service_if}
use Rattle.pt_model.specs.Queries.{client_of_found}
use Rattle.pt_model.specs.Steps.{Follows}
use Rattle.pt_model.proofs.Leasts.{least-in}
use Rattle.pt_model.proofs.Seats.{exists_as, seat, housed}
use Rattle.pt_model.proofs.Services.{or_true, or_left_true}
use Rattle.pt_next_grant.specs.Candidates.{open_call_if, candidate_by, candidate_if, is_back_at_mutex}
use Rattle.pt_next_grant.specs.Candidates.{latest_caller, first_at, if_passes, is_read_lock}
use Rattle.pt_next_grant.specs.Candidates.{is_write_if}
use Rattle.pt_next_grant.specs.Candidates.{is_read_relock_at, served_call}
use Rattle.pt_next_grant.specs.TouchLaws.{BeginsUntouched, Candidates, RestsUntouched, ServesTouched}
use Rattle.pt_next_grant.specs.Touched.{next_service, object_if, service_object}
use Rattle.pt_next_grant.proofs.JustCome.{all_come, holder_served, none_again, read_role}
use Rattle.pt_next_grant.proofs.ServedFirsts.{at_role, barrier-full, barrier-short, cond-none}
use Rattle.pt_next_grant.proofs.ServedFirsts.{first_decides, mutex-first, mutex-owned, none_serves}
use Rattle.pt_next_grant.proofs.ServedFirsts.{only_serves, sits, there}
use Rattle.pt_next_grant.proofs.ServedLocks.{lock-free, lock-held, lock-first_reader, lock-written}
use Rattle.pt_next_grant.proofs.ServedLocks.{writes_role}
use Rattle.pt_next_grant.proofs.TouchedServices.{next_none, served-none, served-service_object}
use Rattle.pt_next_grant.proofs.ClientCalls.{open_call-found, open_call-is}

module _ (h : History) (f : Follows h) (o : ℕ) where
  -- if only a call of one client that passes a test can be served
  by_client : (c : ℕ) (test : WaitingCall → Bool)
      → ((w : WaitingCall) → In w (open_calls h) → wait_object h w ≡ o → can_be_served h w ≡ true
      → (w.client ≡ c) × (test w ≡ true))
      → ((w : WaitingCall) → In w (open_calls h) → w.client ≡ c → test w ≡ true
      → (wait_object h w ≡ o) × (can_be_served h w ≡ true))
      → served_call h o ≡ if_passes test (open_call_if h (Some c))
  by_client c test each back = go (open_call_if h (Some c)) refl
    where
      go : (x : Option WaitingCall) → open_call_if h (Some c) ≡ x → served_call h o
          ≡ if_passes test x
      go None e =
          none_serves h f o (λ w i at t. let found = open_call-found h f w c i (each w i at t).0 in
          let wrong : ◌≡◌ {A = Option WaitingCall} None (Some w) = sym e ∙ found in cc)
      go (Some u) e = pick (test u) refl
        where
          is_it : (w : WaitingCall) → In w (open_calls h) → wait_object h w ≡ o → can_be_served h w
              ≡ true
              → w ≡ u
          is_it w i at t =
              let both : Some w ≡ Some u = sym (open_call-found h f w c i (each w i at t).0) ∙ e in
              cc

          pick : (b : Bool) → test u ≡ b → served_call h o ≡ cond b (Some u) None
          pick true eb =
              let p = open_call-is h f u c e in
              let q = back u p.0 p.1 eb in
              only_serves h f o u p.0 q.0 q.1 is_it
          pick false eb =
              none_serves h f o (λ w i at t. false≢true (sym eb
              ∙ (ap test (sym (is_it w i at t)) ∙ (each w i at t).1)))

  equals : (a b : ℕ) → a ≡ b → (a == b) ≡ true
  equals a b e = grind (arith, nat_tests)

  equal_is : (a b : ℕ) → (a == b) ≡ true → a ≡ b
  equal_is a b e = grind (arith, nat_tests)

  or_none : (a b : Bool) → (a || b) ≡ false → (a ≡ false) × (b ≡ false)
  or_none true b e = absurd cc
  or_none false b e = (refl, e)

  mutex-candidate : exists_as h MutexClass o ≡ true → served_call h o
      ≡ cond (is_not_recoverable (consistency h o) || is_none (owner h o)) (first_at h o)
      (if_passes (is_back_at_mutex h o) (open_call_if h (owner h o)))
  mutex-candidate k = go (is_not_recoverable (consistency h o) || is_none (owner h o)) refl
    where
      owned : (x : Option ℕ) → owner h o ≡ x → is_not_recoverable (consistency h o) ≡ false
          → is_none x ≡ false
          → served_call h o ≡ if_passes (is_back_at_mutex h o) (open_call_if h x)
      owned None e live n = absurd cc
      owned (Some c) e live n =
          by_client c (is_back_at_mutex h o)
          (λ w i at t. let p = mutex-owned h f o c k live e w i at t in (
            p.0,
            and_from (wait_object h w == o) _ (equals (wait_object h w) o at)
                (and_from (is_recursive (mutex_kind (kind_of h o))) _ p.1.1 p.1.0),
          ))
          (λ w i own t. let p = and_parts (wait_object h w == o) _ t in
          let q = and_parts (is_recursive (mutex_kind (kind_of h o))) _ p.1 in
          let r = and_parts (is_cond_wait w.role) (is_moved h w) q.1 in
          let at = equal_is (wait_object h w) o p.0 in
          (at, back w w.role (wait_move h w.place) refl refl r.0 r.1 at q.0 own))
        where
          back : (w : WaitingCall) (role : Role) (x : Option Move) → w.role ≡ role
              → wait_move h w.place
              ≡ x
              → is_cond_wait w.role ≡ true → is_moved h w ≡ true → wait_object h w ≡ o
              → is_recursive (mutex_kind (kind_of h o)) ≡ true → w.client ≡ c → can_be_served h w
              ≡ true
          back w (ForCond n) (Some v) r m a b at rec own =
              let here : n ≡ o =
              sym (ap (λ x. wait_object_by (ForCond n) x w.object) m)
              ∙ at_role h f o w (ForCond n) r at in
              let relock : can_grant_relock (mutex_view h o) w.client ≡ true =
              and_from (is_recursive (mutex_kind (kind_of h o))) (is_some_number
              (owner h o) w.client)
              rec
              (ap (λ y. is_some_number y w.client) e ∙ equals c w.client (sym own)) in
              or_left_true _ (is_at_full_barrier h w)
              (ap (is_grantable_as h w) r
              ∙ and_from (is_moved h w) (can_grant_mutex (mutex_view h n) (is_least h w)
              || can_grant_relock
              (mutex_view h n) w.client) b
              (or_true (can_grant_mutex (mutex_view h n) (is_least h w)) (can_grant_relock
              (mutex_view h n)
              w.client) (ap (λ q. can_grant_relock (mutex_view h q) w.client) here ∙ relock)))
          back w (ForCond n) None r m a b at rec own = absurd (false≢true (sym (ap is_some m) ∙ b))
          back w ForMutex x r m a b at rec own = absurd (false≢true (sym (ap is_cond_wait r) ∙ a))
          back w ForRead x r m a b at rec own = absurd (false≢true (sym (ap is_cond_wait r) ∙ a))
          back w ForWrite x r m a b at rec own = absurd (false≢true (sym (ap is_cond_wait r) ∙ a))
          back w ForBarrier x r m a b at rec own = absurd (false≢true (sym (ap is_cond_wait r) ∙ a))

      go : (b : Bool) → (is_not_recoverable (consistency h o) || is_none (owner h o)) ≡ b
          → served_call h o
          ≡ cond b (first_at h o) (if_passes (is_back_at_mutex h o) (open_call_if h (owner h o)))
      go true e = mutex-first h f o k e
      go false e =
          let p = or_none (is_not_recoverable (consistency h o)) (is_none (owner h o)) e in
          owned (owner h o) refl p.0 p.1

  is_none-some : (x : Option ℕ) → is_some x ≡ false → is_none x ≡ true
  is_none-some None e = refl
  is_none-some (Some c) e = absurd cc

  rwlock-candidate : exists_as h RwlockClass o ≡ true → served_call h o
      ≡ cond (is_some (write_holder h o)) None (cond (is_some (first_reader h o)
      && is_write_if (first_at h o))
      (if_passes (is_read_relock_at h o) (open_call_if h (latest_caller h))) (first_at h o))
  rwlock-candidate k = written (is_some (write_holder h o)) refl
    where
      Holds : WaitingCall → Type 0
      Holds w = (w.role ≡ ForRead) × (nat_lt 0 (read_count h o w.client) ≡ true)

      come : (w : WaitingCall) → In w (open_calls h) → wait_object h w ≡ o → w.role ≡ ForRead
          → nat_lt 0 (read_count h o w.client) ≡ true → latest_caller h ≡ Some w.client
      come w i at r t =
          all_come h f w i r
          (ap (λ q. nat_lt 0 (read_count h q w.client)) (at_role h f o w ForRead r at) ∙ t)

      entered : (x : Option ℕ) → latest_caller h ≡ x
          → ((w : WaitingCall) → In w (open_calls h) → wait_object h w ≡ o → can_be_served h w
          ≡ true
          → (w.role ≡ ForRead) × (nat_lt 0 (read_count h o w.client) ≡ true))
          → served_call h o ≡ if_passes (is_read_relock_at h o) (open_call_if h x)
      entered None e held =
          none_serves h f o (λ w i at t. let p = held w i at t in
          let wrong : ◌≡◌ {A = Option ℕ} None (Some w.client) = sym e ∙ come w i at p.0 p.1 in cc)
      entered (Some c) e held =
          by_client c (is_read_relock_at h o)
          (λ w i at t. let p = held w i at t in
          let both : Some w.client ≡ Some c = sym (come w i at p.0 p.1) ∙ e in
          let own : w.client ≡ c = cc in (
            own,
            and_from (wait_object h w == o) _ (equals (wait_object h w) o at)
                (and_from (is_read_lock w.role) _ (ap is_read_lock p.0)
                (ap (λ q. nat_lt 0 (read_count h q w.client)) (at_role h f o w ForRead p.0 at)
                ∙ p.1)),
          ))
          (λ w i own t. let p = and_parts (wait_object h w == o) _ t in
          let q = and_parts (is_read_lock w.role) (nat_lt 0 (read_count h w.object w.client)) p.1 in
          let at = equal_is (wait_object h w) o p.0 in
          let r = read_role w.role q.0 in (
            at,
            holder_served h f w r q.1,
          ))

      behind : (x : Option WaitingCall) → first_at h o ≡ x → is_write_if x ≡ true
          → is_some (first_reader h o) ≡ true → (w : WaitingCall) → In w (open_calls h)
          → wait_object h w ≡ o → can_be_served h w ≡ true
          → (w.role ≡ ForRead) × (nat_lt 0 (read_count h o w.client) ≡ true)
      behind None e a b w i at t = absurd cc
      behind (Some u) e a b w i at t = lock-held h f o k b u e (writes_role h f o u.role a) w i at t

      first : is_some (write_holder h o) ≡ false → (is_some (first_reader h o)
          && is_write_if (first_at h o))
          ≡ false
          → (b : Bool) → is_some (first_reader h o) ≡ b → served_call h o ≡ first_at h o
      first nw n false e =
          lock-free h f o k (is_none-some (write_holder h o) nw) (is_none-some (first_reader h o) e)
      first nw n true e =
          first_decides h f o (λ u eu. let p = there h f o u
          (least-in (precedes h) (waiting_at h o) u eu) in
          go u eu u.role (wait_move h u.place) refl refl (sits h f o RwlockClass k u p.0 p.1))
        where
          plain : (x : Option WaitingCall) → first_at h o ≡ x → is_write_if x ≡ false
          plain x ex = ap is_write_if (sym ex) ∙ (sym (ap (λ b. b && is_write_if (first_at h o)) e)
              ∙ n)

          go : (u : WaitingCall) → first_at h o ≡ Some u → (role : Role) (x : Option Move) → u.role
              ≡ role
              → wait_move h u.place ≡ x → seat role x ≡ RwlockClass → can_be_served h u ≡ true
          go u eu ForRead x r m s = lock-first_reader h f o u eu r (is_none-some
              (write_holder h o) nw)
          go u eu ForWrite x r m s =
              absurd (false≢true (sym (plain (Some u) eu) ∙ ap is_write_lock r))
          go u eu ForMutex x r m s = absurd cc
          go u eu ForBarrier x r m s = absurd cc
          go u eu (ForCond y) None r m s = absurd cc
          go u eu (ForCond y) (Some v) r m s = absurd cc

      unwritten : is_some (write_holder h o) ≡ false → (b : Bool)
          → (is_some (first_reader h o) && is_write_if (first_at h o)) ≡ b → served_call h o
          ≡ cond b (if_passes (is_read_relock_at h o) (open_call_if h (latest_caller h)))
          (first_at h o)
      unwritten nw true e =
          let p = and_parts (is_some (first_reader h o)) (is_write_if (first_at h o)) e in
          entered (latest_caller h) refl (behind (first_at h o) refl p.1 p.0)
      unwritten nw false e = first nw e (is_some (first_reader h o)) refl

      written : (b : Bool) → is_some (write_holder h o) ≡ b → served_call h o ≡ cond b None
          (cond (is_some (first_reader h o) && is_write_if (first_at h o))
          (if_passes (is_read_relock_at h o) (open_call_if h (latest_caller h))) (first_at h o))
      written true e = lock-written h f o k e
      written false e =
          unwritten e (is_some (first_reader h o) && is_write_if (first_at h o)) refl

  candidate_at : (x : Option ObjectKind) → kind_of h o ≡ x → served_call h o ≡ candidate_by h o x
  candidate_at None e =
      none_serves h f o (λ w i at t. absurd (gone (kind_of h o) e (seat w.role
      (wait_move h w.place))
      (ap (exists_as h (seat w.role (wait_move h w.place))) (sym at) ∙ (housed h f w i).0)))
    where
      gone : (y : Option ObjectKind) → y ≡ None → (s : _) → is_class y s ≡ true → ⊥
      gone None e s k = cc
      gone (Some z) e s k = cc
  candidate_at (Some (Mutex kind robust)) e = mutex-candidate (rw e refl)
  candidate_at (Some Rwlock) e = rwlock-candidate (rw e refl)
  candidate_at (Some Cond) e = cond-none h f o (rw e refl)
  candidate_at (Some (Barrier n)) e = go (length (at_barrier o (open_calls h)) == n) refl
    where
      full : (b : Bool) → (length (at_barrier o (open_calls h)) == n) ≡ b
          → (length (at_barrier o (open_calls h)) == barrier_count (kind_of h o)) ≡ b
      full b eb = ap (λ y. length (at_barrier o (open_calls h)) == barrier_count y) e ∙ eb

      go : (b : Bool) → (length (at_barrier o (open_calls h)) == n) ≡ b → served_call h o
          ≡ cond b (first_at h o) None
      go true eb = barrier-full h f o (rw e refl) (full true eb)
      go false eb = barrier-short h f o (rw e refl) (full false eb)

pub candidates : Candidates
candidates h f o = candidate_at h f o (kind_of h o) refl

-- the call that is served is the candidate of the object that is touched
pub served_candidate : (h : History) → Follows h → next_service h
    ≡ candidate_if h (service_object h)
served_candidate h f = go (service_object h) refl
  where
    go : (x : Option ℕ) → service_object h ≡ x → next_service h ≡ candidate_if h x
    go None e = served-none h f e
    go (Some o) e = served-service_object h o f e ∙ candidates h f o

pub serves_touched : ServesTouched
serves_touched h f = ap (service_if h) (served_candidate h f)

pub rests_untouched : RestsUntouched
rests_untouched h f e = sym (served_candidate h f) ∙ next_none h e

pub begins_untouched : BeginsUntouched
begins_untouched s f e = (
  ap (object_if (Begin s)) (next_none (Begin s) e),
  ap client_of_found (none_again (Begin s) f e),
)
