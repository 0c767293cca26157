-- SettledGrants: nothing must follow the Grant of a call that is granted as it comes.
use Rattle.std.proofs.Common.{◌≡◌, ℕ, Bool, true, false, cond, not, ◌||◌, ◌&&◌, ◌==◌, nat_lt}
use Rattle.std.proofs.Common.{suc, ◌-◌, Option, Some, None, is_some, is_none, filter, refl, sym, ap}
use Rattle.std.proofs.Common.{◌∙◌, List, subst, arith, eq-eqb}
use Rattle.std.proofs.lemmas.Bool.{false≢true}
use Rattle.std.proofs.lemmas.Bool.Decides.{nat_tests}
use Rattle.std.specs.Prelude.{option_map}
use Rattle.std.specs.Option.{option_or}
use Rattle.pt_types.specs.declared.call.Call.{Call as FunctionCall}
use Rattle.pt_types.specs.declared.call.ObjectKind.{ObjectKind}
use Rattle.pt_types.specs.declared.call.ObjectKind.TheVariants as kind_is
use Rattle.pt_types.specs.declared.operations.LockKind.{LockKind}
use Rattle.pt_types.specs.declared.operations.LockKind.TheVariants.{MutexLock, ReadLock, WriteLock}
use Rattle.pt_types.specs.declared.outcome.Outcome.{Outcome}
use Rattle.pt_types.specs.MutexTable.{after_release, is_acquired, is_not_recoverable}
use Rattle.pt_types.specs.MutexTable.{is_some_number}
use Rattle.pt_types.specs.Operations.{Operation, class_needed, class_of}
use Rattle.pt_model.specs.declared.entry.Entry.TheVariants.{Call, Grant}
use Rattle.pt_model.specs.Searches.{In, least}
use Rattle.pt_model.specs.Histories.{History, place}
use Rattle.pt_model.specs.Objects.{is_robust, kind_of}
use Rattle.pt_model.specs.declared.waiting_call.WaitingCall.{WaitingCall}
use Rattle.pt_model.specs.WaitingCall.{is_write_lock, final_mutex, role_of_lock}
use Rattle.pt_model.specs.Answers.{open_calls}
use Rattle.pt_model.specs.Moves.{wait_object, precedes}
use Rattle.pt_model.specs.Mutexes.{consistency, mutex_count, frees, lock_count, unlock_count, owner}
use Rattle.pt_model.specs.Mutexes.{unlocks_to_wait}
use Rattle.pt_model.specs.Rwlocks.{first_reader, read_count, is_reader_here, write_holder}
use Rattle.pt_model.specs.Rwlocks.{is_writer, is_writer_here}
use Rattle.pt_model.specs.Forced.{expire_if, expires_before, forced, forced_expire, forced_service}
use Rattle.pt_model.specs.Forced.{forced_yield, is_dead_if, is_orphan, is_overdue, service_if}
use Rattle.pt_model.specs.Forced.{yield_if}
use Rattle.pt_model.specs.Grants.{grant_outcome}
use Rattle.pt_model.specs.Steps.{Step, Follows}
use Rattle.pt_model.proofs.FirstBelow.{first_below-none}
use Rattle.pt_model.proofs.Holders.{owner-grant, owner-same}
use Rattle.pt_model.proofs.Rwlocks.{read_count-grant, is_writer-grant}
use Rattle.pt_model.proofs.Services.{none-served}
use Rattle.pt_model.proofs.Leasts.{first_below-some}
use Rattle.pt_model.proofs.NotOwned.{read_count-read, writes_below}
use Rattle.pt_records.proofs.LockViews.{class-found}
use Rattle.pt_state.proofs.Orphans.{orphan-rests}
use Rattle.pt_state.proofs.StepLemmas.{Called, called as known_call}
use Rattle.pt_next_grant.specs.Candidates.{candidate, candidate_by, candidate_if, is_back_at_mutex}
use Rattle.pt_next_grant.specs.Candidates.{latest_caller}
use Rattle.pt_next_grant.specs.Candidates.{first_at, if_passes, is_write_if, open_call_if}
use Rattle.pt_next_grant.specs.Candidates.{rwlock_candidate, is_read_relock_at}
use Rattle.pt_next_grant.specs.Touched.{waiting_if}
use Rattle.pt_next_grant.proofs.Candidates.{candidates, serves_touched}
use Rattle.pt_next_grant.proofs.ClientCalls.{open_call-found, open_call-is}
use Rattle.pt_next_grant.proofs.ServedFirsts.{none_serves}
use Rattle.pt_machine.specs.GrantedAtOnce.{IsFree, IsGrantedAtOnce}
use Rattle.pt_machine.proofs.LockClasses.{has_lock}
use Rattle.pt_machine.proofs.GrantsAtOnce.{after, comes, comes-open, granted, same_open, touches}

-- if option_or gives none, both options are none
pub neither : {X : Type 0} (a b : Option X) → option_or a b ≡ None → (a ≡ None) × (b ≡ None)
neither None b e = (refl, e)
neither (Some x) b e = absurd cc

-- a choice between two options that are none is none
both_none : {X : Type 0} (b : Bool) (x y : Option X) → x ≡ None → y ≡ None → cond b x y ≡ None
both_none true x y e f = e
both_none false x y e f = f

and_true : (a : Bool) → (a && true) ≡ a
and_true true = refl
and_true false = refl

pub and_false : (a : Bool) → (a && false) ≡ false
and_false true = refl
and_false false = refl

module _ (h : History) (f : Follows h) (c : ℕ) (call : FunctionCall) (acquisition : IsGrantedAtOnce h c call)
    (s : Step h (Call c call None)) where
  abbrev g : History
  g = after h f c call acquisition s

  abbrev w : WaitingCall
  w = comes h f c call acquisition s

  abbrev x : Outcome
  x = grant_outcome g w

  abbrev o : ℕ
  o = acquisition.object

  abbrev t : History
  t = granted h f c call acquisition s x

  module _ (next : Step g (Grant (place h) x)) where
    follows_g : Follows g
    follows_g = (f, s)

    follows_t : Follows t
    follows_t = (follows_g, next)

    has_call : Called h c call None
    has_call = known_call h c call None s

    opens : open_calls t ≡ open_calls h
    opens = same_open h f c call acquisition s x

    is_open : In w (open_calls g)
    is_open = comes-open h f c call acquisition s

    both_here : ((o == o) && (c == c)) ≡ true
    both_here =
        ap (λ b. b && (c == c)) (eq-eqb o o refl) ∙ eq-eqb c c refl

    -- the first call that waits there is the same
    same_first : first_at t o ≡ first_at h o
    same_first = ap (λ ws. least (precedes h) (filter (λ v. wait_object h v == o) ws)) opens

    -- and no call was served there before
    unserved : candidate h o ≡ None
    unserved =
        sym (candidates h f o)
        ∙ none_serves h f o (λ v i at e. false≢true (sym (none-served h has_call.quiet v i) ∙ e))

    -- its client no longer waits
    closed : open_call_if t (Some c) ≡ None
    closed = go (open_call_if t (Some c)) refl
      where
        go : (y : Option WaitingCall) → open_call_if t (Some c) ≡ y → y ≡ None
        go None e = refl
        go (Some u) e =
            let p = open_call-is t follows_t u c e in
            let was : open_call_if h (Some c) ≡ Some u =
            open_call-found h f u c (subst (λ (ws : List WaitingCall). In u ws) opens p.0) p.1 in
            let none : open_call_if h (Some c) ≡ None = ap (waiting_if h) has_call.unblocked in
            sym was ∙ none

    -- the owner of each mutex after the Grant
    owner_of : (m : ℕ) → owner t m
        ≡ cond (is_acquired x && is_some_number (final_mutex w.role w.object) m) (Some c)
        (owner h m)
    owner_of m =
        owner-grant g w follows_g is_open next m
        ∙ ap (cond (is_acquired x && is_some_number (final_mutex w.role w.object) m) (Some c))
        (owner-same h (Call c call None) m f (λ d. ap (nat_lt 0) (kept d)))
      where
        kept : (d : ℕ) → mutex_count g m d ≡ mutex_count h m d
        kept d =
            ap (λ (q : Operation). lock_count h m d
            - cond (unlocks_to_wait h q m && (c == d)) (suc (unlock_count h m d))
            (unlock_count h m d)) acquisition.has_request

    no_orphan : (m : ℕ) → is_orphan t m ≡ false
    no_orphan m =
        ap (λ y. is_robust (kind_of h m) && is_dead_if t y) (owner_of m)
        ∙ go (is_acquired x && is_some_number (final_mutex w.role w.object) m)
      where
        as_before : (y : Option ℕ) → is_dead_if t y ≡ is_dead_if h y
        as_before None = refl
        as_before (Some d) = refl

        go : (b : Bool) → (is_robust (kind_of h m) && is_dead_if t (cond b (Some c) (owner h m)))
            ≡ false
        go true =
            ap (λ a. is_robust (kind_of h m) && not a) has_call.alive
            ∙ and_false (is_robust (kind_of h m))
        go false =
            ap (λ b. is_robust (kind_of h m) && b) (as_before (owner h m))
            ∙ orphan-rests h f has_call.quiet m

    no_yield : forced_yield t ≡ None
    no_yield = ap yield_if (first_below-none (is_orphan t) (place t) (λ m lt. no_orphan m))

    no_expire : forced_expire t ≡ None
    no_expire =
        ap (λ ws. expire_if (least expires_before (filter (is_overdue h) ws))) opens
        ∙ (neither (forced_yield h) (forced_expire h)
        (neither (forced_service h) (option_or (forced_yield h) (forced_expire h))
        has_call.quiet).1).1

    -- a mutex has no call to serve: it was free, and now has an owner unless it is not recoverable
    same_consistency : consistency t o ≡ consistency h o
    same_consistency =
        ap (λ (q : Operation). cond (frees h o c (unlocks_to_wait h q o))
        (after_release (consistency h o)) (consistency h o)) acquisition.has_request

    mutex_none : acquisition.kind ≡ MutexLock
        → (is_not_recoverable (consistency h o) || is_none (owner h o)) ≡ true → first_at h o ≡ None
        → cond (is_not_recoverable (consistency t o) || is_none (owner t o)) (first_at t o)
        (if_passes (is_back_at_mutex t o) (open_call_if t (owner t o))) ≡ None
    mutex_none is free none =
        ap (λ y. cond (is_not_recoverable (consistency t o) || is_none y) (first_at t o)
        (if_passes (is_back_at_mutex t o) (open_call_if t y))) its_owner
        ∙ go (is_acquired x)
      where
        there : is_some_number (final_mutex w.role w.object) o ≡ true
        there =
            ap (λ (k : LockKind). is_some_number (final_mutex (role_of_lock k) o) o) is
            ∙ eq-eqb o o refl

        its_owner : owner t o ≡ cond (is_acquired x) (Some c) (owner h o)
        its_owner =
            owner_of o
            ∙ (ap (λ b. cond (is_acquired x && b) (Some c) (owner h o)) there
            ∙ ap (λ b. cond b (Some c) (owner h o)) (and_true (is_acquired x)))

        go : (a : Bool) → cond (is_not_recoverable (consistency t o)
            || is_none (cond a (Some c) (owner h o)))
            (first_at t o)
            (if_passes (is_back_at_mutex t o) (open_call_if t (cond a (Some c) (owner h o)))) ≡ None
        go true =
            both_none (is_not_recoverable (consistency t o) || false) (first_at t o)
            (if_passes (is_back_at_mutex t o) (open_call_if t (Some c))) (same_first ∙ none)
            (ap (if_passes (is_back_at_mutex t o)) closed)
        go false =
            ap (λ b. cond b (first_at t o)
            (if_passes (is_back_at_mutex t o) (open_call_if t (owner h o))))
            (ap (λ k. is_not_recoverable k || is_none (owner h o)) same_consistency ∙ free)
            ∙ (same_first ∙ none)

    -- nor has a read-write lock
    abbrev again : Option WaitingCall
    again = if_passes (is_read_relock_at t o) (open_call_if t (latest_caller t))

    none_again : again ≡ None
    none_again = ap (if_passes (is_read_relock_at t o)) closed

    reads_now : acquisition.kind ≡ ReadLock → is_some (first_reader t o) ≡ true
    reads_now is =
        read_count-read t follows_t o c
        (ap (nat_lt 0) (read_count-grant g w x o c follows_g is_open)
        ∙ (ap (λ (k : LockKind). nat_lt 0 (cond (is_reader_here (role_of_lock k)
        ((o == o) && (c == c))) (suc (read_count g o c)) (read_count g o c))) is
        ∙ (ap (λ b. nat_lt 0 (cond b (suc (read_count g o c)) (read_count g o c))) both_here
        ∙ above (read_count g o c))))
      where
        above : (n : ℕ) → nat_lt 0 (suc n) ≡ true
        above n = grind (arith, nat_tests)

    writes_now : acquisition.kind ≡ WriteLock → is_some (write_holder t o) ≡ true
    writes_now is =
        first_below-some (place t) (λ d. is_writer t o d) c (writes_below t follows_t o c now) now
      where
        now : is_writer t o c ≡ true
        now =
            is_writer-grant g w x o c follows_g is_open
            ∙ (ap (λ (k : LockKind). cond (is_writer_here (role_of_lock k) ((o == o)
            && (c == c))) true
            (is_writer g o c)) is
            ∙ ap (λ b. cond b true (is_writer g o c)) both_here)

    read_none : acquisition.kind ≡ ReadLock → write_holder h o ≡ None → rwlock_candidate h o ≡ None
        → rwlock_candidate t o ≡ None
    read_none is free was = written (is_some (write_holder t o))
      where
        waiting : (y : Option WaitingCall) → first_at h o ≡ y
            → cond (is_some (first_reader t o) && is_write_if y) again y ≡ None
        waiting None e = both_none (is_some (first_reader t o) && false) again None none_again refl
        waiting (Some u) e =
            ap (λ b. cond (b && is_write_lock u.role) again (Some u)) (reads_now is)
            ∙ kind (is_write_lock u.role) refl
          where
            kind : (b : Bool) → is_write_lock u.role ≡ b → cond b again (Some u) ≡ None
            kind true k = none_again
            kind false k =
                let was_it : cond (is_some (first_reader h o) && is_write_lock u.role)
                (if_passes (is_read_relock_at h o) (open_call_if h (latest_caller h))) (Some u)
                ≡ None =
                ap (λ y. cond (is_some (first_reader h o) && is_write_if y)
                (if_passes (is_read_relock_at h o) (open_call_if h (latest_caller h))) y) (sym e)
                ∙ (ap (λ y. cond (is_some y) None (cond (is_some (first_reader h o)
                && is_write_if (first_at h o))
                (if_passes (is_read_relock_at h o) (open_call_if h (latest_caller h)))
                (first_at h o)))
                (sym free) ∙ was) in
                sym (ap (λ b. cond b
                (if_passes (is_read_relock_at h o) (open_call_if h (latest_caller h))) (Some u))
                (ap (λ b. is_some (first_reader h o) && b) k
                ∙ and_false (is_some (first_reader h o))))
                ∙ was_it

        written : (b : Bool)
            → cond b None (cond (is_some (first_reader t o) && is_write_if (first_at t o))
            again (first_at t o)) ≡ None
        written true = refl
        written false =
            ap (λ y. cond (is_some (first_reader t o) && is_write_if y) again y) same_first
            ∙ waiting (first_at h o) refl

    none_there : candidate t o ≡ None
    none_there =
        go acquisition.kind refl acquisition.free (kind_of h o) refl
        (class-found h f acquisition.name (class_needed acquisition.kind) o acquisition.found)
      where
        go : (k : LockKind) → acquisition.kind ≡ k → IsFree h k o → (q : Option ObjectKind)
            → kind_of h o ≡ q → option_map class_of q ≡ Some (class_needed k)
            → candidate_by t o q ≡ None
        go MutexLock is free (Some (kind_is.Mutex q r)) e m =
            mutex_none is free
            (sym (ap (λ b. cond b (first_at h o) (if_passes (is_back_at_mutex h o)
            (open_call_if h (owner h o)))) free)
            ∙ (sym (ap (candidate_by h o) e) ∙ unserved))
        go ReadLock is free (Some kind_is.Rwlock) e m =
            read_none is free (sym (ap (candidate_by h o) e) ∙ unserved)
        go WriteLock is free (Some kind_is.Rwlock) e m =
            ap (λ b. cond b None (cond (is_some (first_reader t o)
            && is_write_if (first_at t o)) again
            (first_at t o))) (writes_now is)
        go MutexLock is free None e m = absurd (has_lock MutexLock None m)
        go ReadLock is free None e m = absurd (has_lock ReadLock None m)
        go WriteLock is free None e m = absurd (has_lock WriteLock None m)
        go MutexLock is free (Some kind_is.Rwlock) e m =
            absurd (has_lock MutexLock (Some kind_is.Rwlock) m)
        go MutexLock is free (Some kind_is.Cond) e m =
            absurd (has_lock MutexLock (Some kind_is.Cond) m)
        go MutexLock is free (Some (kind_is.Barrier n)) e m =
            absurd (has_lock MutexLock (Some (kind_is.Barrier n)) m)
        go ReadLock is free (Some (kind_is.Mutex q r)) e m =
            absurd (has_lock ReadLock (Some (kind_is.Mutex q r)) m)
        go ReadLock is free (Some kind_is.Cond) e m =
            absurd (has_lock ReadLock (Some kind_is.Cond) m)
        go ReadLock is free (Some (kind_is.Barrier n)) e m =
            absurd (has_lock ReadLock (Some (kind_is.Barrier n)) m)
        go WriteLock is free (Some (kind_is.Mutex q r)) e m =
            absurd (has_lock WriteLock (Some (kind_is.Mutex q r)) m)
        go WriteLock is free (Some kind_is.Cond) e m =
            absurd (has_lock WriteLock (Some kind_is.Cond) m)
        go WriteLock is free (Some (kind_is.Barrier n)) e m =
            absurd (has_lock WriteLock (Some (kind_is.Barrier n)) m)

    no_service : forced_service t ≡ None
    no_service =
        serves_touched t follows_t
        ∙ ap (service_if t) (ap (candidate_if t) (touches h f c call acquisition s) ∙ none_there)

    -- so nothing must follow
    pub rests : forced t ≡ None
    rests =
        ap (λ y. option_or y (option_or (forced_yield t) (forced_expire t))) no_service
        ∙ (ap (λ y. option_or y (forced_expire t)) no_yield ∙ no_expire)
