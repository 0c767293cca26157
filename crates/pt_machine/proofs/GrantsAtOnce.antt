-- GrantsAtOnce: a call for a free lock, ahead of those that wait for it, is granted as it comes.
use Rattle.std.proofs.Common.{◌≡◌, ℕ, ◌<◌, Bool, true, false, cond, not, ◌||◌, ◌==◌, nat_lt, List}
use Rattle.std.proofs.Common.{[], ◌∷◌, ◌++◌, Option, Some, None, is_some, is_none, filter, refl}
use Rattle.std.proofs.Common.{sym, ap}
use Rattle.std.proofs.Common.{◌∙◌, ◌-◌, ◌&&◌, suc, subst, arith, append-nil, eq-eqb, inl, ⊎_elim}
use Rattle.std.proofs.lemmas.Bool.Decides.{nat_tests}
use Rattle.std.proofs.lemmas.List.Elements.{filter-append}
use Rattle.std.specs.Prelude.{option_map, unwrap_or}
use Rattle.std.specs.Option.{option_or}
use Rattle.pt_types.specs.declared.call.Call.{Call as FunctionCall}
use Rattle.pt_types.specs.declared.call.ObjectKind.{ObjectKind}
use Rattle.pt_types.specs.declared.call.ObjectKind.TheVariants as kind_is
use Rattle.pt_types.specs.declared.operations.LockKind.{LockKind}
use Rattle.pt_types.specs.declared.operations.LockKind.TheVariants.{MutexLock, ReadLock, WriteLock}
use Rattle.pt_types.specs.declared.key_order.Key.{Key}
use Rattle.pt_types.specs.declared.outcome.Outcome.{Outcome}
use Rattle.pt_types.specs.KeyOrder.{goes_before, goes_before_in_priority}
use Rattle.pt_types.specs.MutexTable.{after_release, is_not_recoverable}
use Rattle.pt_types.specs.Times.{deadline_nanos}
use Rattle.pt_types.specs.Operations.{Operation, class_needed, class_of, clock_of, deadline_of}
use Rattle.pt_types.specs.Operations.{operation}
use Rattle.pt_waitq.specs.Members.{Members}
use Rattle.pt_waitq.specs.Queues.{QueuesView}
use Rattle.pt_model.specs.declared.entry.Entry.TheVariants.{Call, Grant, Trip}
use Rattle.pt_model.specs.Searches.{In}
use Rattle.pt_model.specs.Histories.{History, ◌▷◌, place}
use Rattle.pt_model.specs.Objects.{kind_of}
use Rattle.pt_model.specs.declared.waiting_call.WaitingCall.{WaitingCall}
use Rattle.pt_model.specs.WaitingCall.{new_waiting_call, is_barrier_wait, is_write_lock}
use Rattle.pt_model.specs.WaitingCall.{role_of_lock, waiting_calls_by}
use Rattle.pt_model.specs.WaitingCall.{waiting_calls_by_operation}
use Rattle.pt_model.specs.Answers.{open_calls}
use Rattle.pt_model.specs.Moves.{wait_object, call_key, precedes}
use Rattle.pt_model.specs.Mutexes.{consistency, mutex_count, frees, lock_count, unlock_count, owner}
use Rattle.pt_model.specs.Mutexes.{unlocks_to_wait}
use Rattle.pt_model.specs.Rwlocks.{first_reader}
use Rattle.pt_model.specs.Forced.{forced, forced_expire, forced_yield, service, service_if}
use Rattle.pt_model.specs.Grants.{grant_outcome}
use Rattle.pt_model.specs.Steps.{Step, Follows}
use Rattle.pt_model.proofs.Allowances.{allowed}
use Rattle.pt_model.proofs.Changes.{left_by}
use Rattle.pt_model.proofs.Effects.{Allowed, effect, stays}
use Rattle.pt_model.proofs.Holders.{owner-same}
use Rattle.pt_model.proofs.Lists.{In-append_cases, In-append_right, filter-all}
use Rattle.pt_model.proofs.Opens.{open-call, open-grant}
use Rattle.pt_model.proofs.Orders.{precedes-order}
use Rattle.pt_model.proofs.Sound.{Fresh-follows, below_open}
use Rattle.pt_records.proofs.LockViews.{class-found}
use Rattle.pt_state.proofs.StepLemmas.{called as known_call}
use Rattle.pt_next_grant.specs.Candidates.{candidate, candidate_by, candidate_if, is_back_at_mutex}
use Rattle.pt_next_grant.specs.Candidates.{latest_caller}
use Rattle.pt_next_grant.specs.Candidates.{first_at, if_passes, is_write_if, open_call_if}
use Rattle.pt_next_grant.specs.Candidates.{is_read_relock_at}
use Rattle.pt_next_grant.specs.Touched.{goal_of_operation, service_object}
use Rattle.pt_next_grant.proofs.Candidates.{serves_touched}
use Rattle.pt_next_grant.proofs.Unchanged.{first_reader-same, write_holder-same}
use Rattle.pt_machine.specs.GrantedAtOnce.{IsFree, IsGrantedAtOnce}
use Rattle.pt_machine.specs.CallQueues.{IsQueued, waiter}
use Rattle.pt_machine.specs.CallDeadlines.{timer_at}
use Rattle.pt_machine.proofs.LockClasses.{has_lock}
use Rattle.pt_machine.proofs.QueueFirsts.{least-open}
use Rattle.pt_machine.proofs.TimedCalls.{set-left}
use Rattle.pt_machine.proofs.TimedStates.{unset}
use Rattle.pt_machine.proofs.TimedSteps.{set-grant, set-new}

-- a number that is less than another is not equal to it
apart_below : (a b : ℕ) → a < b → (a == b) ≡ false
apart_below a b lt = grind (arith, nat_tests)

-- a call of a lower priority goes before none of a higher one
lower : (a b : Key) → a.priority < b.priority → goes_before a b ≡ false
lower a b lt =
    let no : nat_lt b.priority a.priority ≡ false = grind (arith, nat_tests) in
    let apart : (a.priority == b.priority) ≡ false = grind (arith, nat_tests) in
    ap (λ t. t || ((a.priority == b.priority) && goes_before_in_priority a b)) no
    ∙ ap (λ t. t && goes_before_in_priority a b) apart

module _ (h : History) (f : Follows h) (c : ℕ) (call : FunctionCall) (acquisition : IsGrantedAtOnce h c call)
    (s : Step h (Call c call None)) where
  -- the history after the call
  abbrev pub after : History
  after = h ▷ Call c call None

  follows : Follows after
  follows = (f, s)

  -- the call, as it waits
  abbrev pub comes : WaitingCall
  comes =
      new_waiting_call h c acquisition.object (role_of_lock acquisition.kind) (clock_of call) (deadline_of acquisition.how)

  opens : open_calls after ≡ open_calls h ++ comes ∷ []
  opens =
      let has_call = known_call h c call None s in
      let may = subst (λ (r : Option Outcome). Allowed h c (effect h c call r)) (sym has_call.replies)
      (allowed h c call) in
      open-call h c call None (Fresh-follows h f) has_call.alive may
      ∙ (ap (λ (d : Operation). open_calls h ++ left_by (stays h c (clock_of call) d)) acquisition.has_request
      ∙ ap (λ o. open_calls h ++ new_waiting_call h c (unwrap_or o 0) (role_of_lock acquisition.kind)
      (clock_of call)
      (deadline_of acquisition.how) ∷ []) acquisition.found)

  -- it is open
  pub comes-open : In comes (open_calls after)
  comes-open =
      subst (λ (ws : List WaitingCall). In comes ws) (sym opens)
      (In-append_right comes (open_calls h) (comes ∷ []) (inl refl))

  -- it is not an arrival
  pub comes-stays : is_barrier_wait comes.role ≡ false
  comes-stays = go acquisition.kind
    where
      go : (k : LockKind) → is_barrier_wait (role_of_lock k) ≡ false
      go MutexLock = refl
      go ReadLock = refl
      go WriteLock = refl

  -- it waits at the lock
  at : wait_object after comes ≡ acquisition.object
  at = go acquisition.kind
    where
      go : (k : LockKind)
          → wait_object after (new_waiting_call h c acquisition.object (role_of_lock k) (clock_of call)
          (deadline_of acquisition.how)) ≡ acquisition.object
      go MutexLock = refl
      go ReadLock = refl
      go WriteLock = refl

  -- and goes before all others there
  abbrev here : WaitingCall → Bool
  here w = wait_object after w == acquisition.object

  first : first_at after acquisition.object ≡ Some comes
  first =
      least-open after follows here comes comes-open (eq-eqb
      (wait_object after comes) acquisition.object at)
      before
    where
      before : (w : WaitingCall) → In w (open_calls after) → here w ≡ true
          → precedes after w comes ≡ false
      before w i t =
          ⊎_elim
          (λ j. lower (call_key after w) (call_key after comes) (acquisition.ahead w j t))
          (λ j. ⊎_elim
          (λ (same : w ≡ comes). subst (λ u. precedes after u comes ≡ false) (sym same)
          ((precedes-order after).irreflexive comes))
          (λ none. absurd none) j)
          (In-append_cases w (open_calls h) (comes ∷ [])
          (subst (λ (ws : List WaitingCall). In w ws) opens i))

  -- who holds the lock has not changed
  stays_locked : unlocks_to_wait h (operation call) acquisition.object ≡ false
  stays_locked = ap (λ (d : Operation). unlocks_to_wait h d acquisition.object) acquisition.has_request

  counted : (d : ℕ) → mutex_count after acquisition.object d ≡ mutex_count h acquisition.object d
  counted d =
      ap (λ b. lock_count h acquisition.object d
      - cond (b && (c == d)) (suc (unlock_count h acquisition.object d))
      (unlock_count h acquisition.object d)) stays_locked

  pub owner_kept : owner after acquisition.object ≡ owner h acquisition.object
  owner_kept =
      owner-same h (Call c call None) acquisition.object f (λ d. ap (nat_lt 0) (counted d))

  -- it is left waiting
  pub is_waiting : waiting_calls_by h (Call c call None) ≡ comes ∷ []
  is_waiting =
      ap (waiting_calls_by_operation h c (clock_of call)) acquisition.has_request
      ∙ ap (λ o. new_waiting_call h c (unwrap_or o 0) (role_of_lock acquisition.kind) (clock_of call)
      (deadline_of acquisition.how) ∷ []) acquisition.found

  freed : (k : LockKind) → IsFree h k acquisition.object → IsFree after k acquisition.object
  freed MutexLock e =
      ap (λ b. is_not_recoverable (cond (frees h acquisition.object c b) (after_release
      (consistency h acquisition.object))
      (consistency h acquisition.object)) || is_none (owner after acquisition.object)) stays_locked
      ∙ (ap (λ o. is_not_recoverable (consistency h acquisition.object) || is_none o) owner_kept ∙ e)
  freed ReadLock e =
      write_holder-same h (Call c call None) acquisition.object f (λ d. refl) ∙ e
  freed WriteLock e = (
    write_holder-same h (Call c call None) acquisition.object f (λ d. refl) ∙ e.0,
    ap is_some (first_reader-same h (Call c call None) acquisition.object f (λ d. refl)) ∙ e.1,
  )

  -- so it is the call that is served there
  no_writer : (b : Bool) → (b && false) ≡ false
  no_writer true = refl
  no_writer false = refl

  abbrev again : Option WaitingCall
  again = if_passes (is_read_relock_at after acquisition.object) (open_call_if after (latest_caller after))

  candidate_is : candidate after acquisition.object ≡ Some comes
  candidate_is =
      go acquisition.kind refl (freed acquisition.kind acquisition.free) (kind_of h acquisition.object)
      (class-found h f acquisition.name (class_needed acquisition.kind) acquisition.object acquisition.found)
    where
      go : (k : LockKind) → acquisition.kind ≡ k → IsFree after k acquisition.object → (o : Option ObjectKind)
          → option_map class_of o ≡ Some (class_needed k)
          → candidate_by after acquisition.object o ≡ Some comes
      go MutexLock e free (Some (kind_is.Mutex q r)) t =
          ap (λ b. cond b (first_at after acquisition.object) (if_passes (is_back_at_mutex after acquisition.object)
          (open_call_if after (owner after acquisition.object)))) free
          ∙ first
      go ReadLock e free (Some kind_is.Rwlock) t =
          let reads : is_write_if (first_at after acquisition.object) ≡ false =
          ap is_write_if first ∙ ap (λ (x : LockKind). is_write_lock (role_of_lock x)) e in
          ap (λ w. cond (is_some w) None (cond (is_some (first_reader after acquisition.object)
          && is_write_if (first_at after acquisition.object)) again (first_at after acquisition.object))) free
          ∙ (ap (λ b. cond (is_some (first_reader after acquisition.object) && b) again
          (first_at after acquisition.object)) reads
          ∙ (ap (λ b. cond b again (first_at after acquisition.object))
          (no_writer (is_some (first_reader after acquisition.object)))
          ∙ first))
      go WriteLock e free (Some kind_is.Rwlock) t =
          ap (λ w. cond (is_some w) None (cond (is_some (first_reader after acquisition.object)
          && is_write_if (first_at after acquisition.object)) again (first_at after acquisition.object))) free.0
          ∙ (ap (λ b. cond (b && is_write_if (first_at after acquisition.object)) again
          (first_at after acquisition.object)) free.1
          ∙ first)
      go MutexLock e free None t = absurd (has_lock MutexLock None t)
      go ReadLock e free None t = absurd (has_lock ReadLock None t)
      go WriteLock e free None t = absurd (has_lock WriteLock None t)
      go MutexLock e free (Some kind_is.Rwlock) t =
          absurd (has_lock MutexLock (Some kind_is.Rwlock) t)
      go MutexLock e free (Some kind_is.Cond) t = absurd (has_lock MutexLock (Some kind_is.Cond) t)
      go MutexLock e free (Some (kind_is.Barrier n)) t =
          absurd (has_lock MutexLock (Some (kind_is.Barrier n)) t)
      go ReadLock e free (Some (kind_is.Mutex q r)) t =
          absurd (has_lock ReadLock (Some (kind_is.Mutex q r)) t)
      go ReadLock e free (Some kind_is.Cond) t = absurd (has_lock ReadLock (Some kind_is.Cond) t)
      go ReadLock e free (Some (kind_is.Barrier n)) t =
          absurd (has_lock ReadLock (Some (kind_is.Barrier n)) t)
      go WriteLock e free (Some (kind_is.Mutex q r)) t =
          absurd (has_lock WriteLock (Some (kind_is.Mutex q r)) t)
      go WriteLock e free (Some kind_is.Cond) t = absurd (has_lock WriteLock (Some kind_is.Cond) t)
      go WriteLock e free (Some (kind_is.Barrier n)) t =
          absurd (has_lock WriteLock (Some (kind_is.Barrier n)) t)

  -- the object touched is the lock
  pub touches : service_object after ≡ Some acquisition.object
  touches =
      ap (goal_of_operation h) acquisition.has_request ∙ ap (λ o. Some (unwrap_or o 0)) acquisition.found

  -- so it must be granted
  pub serves : forced after ≡ Some (service after comes)
  serves =
      ap (λ o. option_or o (option_or (forced_yield after) (forced_expire after)))
      (serves_touched after follows
      ∙ ap (service_if after) (ap (candidate_if after) touches ∙ candidate_is))

  -- and is granted
  pub grants : service after comes ≡ Grant (place h) (grant_outcome after comes)
  grants =
      ap (λ b. cond b (Trip comes.object) (Grant comes.place (grant_outcome after comes)))
      comes-stays

  module _ (x : Outcome) where
    -- the history after its Grant
    abbrev pub granted : History
    granted = after ▷ Grant (place h) x

    abbrev remains : WaitingCall → Bool
    remains w = not (w.place == place h)

    -- the open calls are the same as before it came
    pub same_open : open_calls granted ≡ open_calls h
    same_open =
        open-grant after (place h) x
        ∙ (ap (filter remains) opens
        ∙ (filter-append remains (open_calls h) (comes ∷ [])
        ∙ (ap (λ ws. ws ++ filter remains (comes ∷ []))
        (filter-all remains (open_calls h) older)
        ∙ (ap (λ b. open_calls h ++ cond (not b) (comes ∷ []) [])
        (eq-eqb (place h) (place h) refl)
        ∙ append-nil (open_calls h)))))
      where
        older : (w : WaitingCall) → In w (open_calls h) → remains w ≡ true
        older w i =
            let lt : w.place < place h = (below_open h w (Fresh-follows h f) i).0 in
            ap not (apart_below w.place (place h) lt)

    -- the queues are unchanged
    pub queued : (v : QueuesView) → IsQueued h v → IsQueued granted v
    queued v k =
        record {
          members = subst (λ ws. Members (wait_object granted) (waiter granted) ws v.queue)
              (sym same_open) k.members;
          admits = k.admits;
          makes = k.makes;
        }

    -- and so are the deadlines that are set
    pub timed : (p : ℕ) → timer_at granted p ≡ timer_at h p
    timed p =
        set-grant after (place h) x follows p
        ∙ (ap (cond (place h == p) None)
        (set-left h f c call s p
        ∙ ap (λ d. cond (place h == p) (option_map (λ t. (clock_of call, deadline_nanos t)) d)
        (timer_at h p)) acquisition.untimed)
        ∙ (twice (place h == p) ∙ unset (timer_at h) (place h) (set-new h f) p))
      where
        twice : (b : Bool) → cond b None (cond b None (timer_at h p)) ≡ cond b None (timer_at h p)
        twice true = refl
        twice false = refl
