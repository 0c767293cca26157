-- A call whose deadline is not a time is answered at once, or is granted by the next entry.
use Rattle.std.proofs.Common.{◌≡◌, ℕ, suc, ◌⊎◌, inl, inr, nat_lt, nat_le, Bool, true, false, cond}
use Rattle.std.proofs.Common.{not, ◌&&◌, ◌||◌, ◌==◌, List, [], ◌∷◌, ◌++◌, length, Option, Some}
use Rattle.std.proofs.Common.{None, is_none, is_some, refl, sym, ap, ◌∙◌, subst, arith, filter}
use Rattle.std.proofs.Common.{append-nil}
use Rattle.std.proofs.lemmas.Bool.{and_parts, and_from, false≢true}
use Rattle.std.proofs.lemmas.List.Elements.{filter-append}
use Rattle.std.specs.Option.{option_or}
use Rattle.pt_types.specs.declared.call.Call.{Call as FunctionCall}
use Rattle.pt_types.specs.declared.call.ObjectKind.{ObjectKind}
use Rattle.pt_types.specs.declared.outcome.Consistency.{Consistency}
use Rattle.pt_types.specs.Times.{has_invalid_deadline}
use Rattle.pt_types.specs.Operations.{operation}
use Rattle.pt_types.specs.MutexTable.{is_some_number, is_recursive, is_not_recoverable}
use Rattle.pt_types.specs.MutexTable.{can_grant_mutex}
use Rattle.pt_types.specs.RwlockTable.{is_free, can_grant_read}
use Rattle.pt_types.specs.declared.views.RwlockView.{RwlockView}
use Rattle.pt_types.specs.Tables.{reply}
use Rattle.pt_model.specs.declared.entry.Entry.TheVariants.{Call, Grant, Trip}
use Rattle.pt_model.specs.Searches.{In, least}
use Rattle.pt_model.specs.Histories.{History, ◌▷◌, place}
use Rattle.pt_model.specs.Clients.{is_alive}
use Rattle.pt_model.specs.Objects.{kind_of, mutex_kind, barrier_count}
use Rattle.pt_model.specs.declared.waiting_call.WaitingCall.{WaitingCall}
use Rattle.pt_model.specs.declared.waiting_call.Role.{Role}
use Rattle.pt_model.specs.declared.waiting_call.Role.TheVariants.{ForMutex, ForRead, ForWrite}
use Rattle.pt_model.specs.declared.waiting_call.Role.TheVariants.{ForBarrier, ForCond}
use Rattle.pt_model.specs.WaitingCall.{is_barrier_wait, is_write_lock}
use Rattle.pt_model.specs.Answers.{open_calls, open_place, at_barrier}
use Rattle.pt_model.specs.Moves.{move_or, wait_move, is_moved, wait_object_by, wait_object}
use Rattle.pt_model.specs.Moves.{waiting_at}
use Rattle.pt_model.specs.Mutexes.{mutex_count, owner, consistency, mutex_view}
use Rattle.pt_model.specs.Rwlocks.{reads_after_unlock, is_writer, read_count, write_holder}
use Rattle.pt_model.specs.Rwlocks.{first_reader, rwlock_view}
use Rattle.pt_model.specs.Grants.{blocks_readers, is_blocked, is_at_full_barrier, may_take_mutex}
use Rattle.pt_model.specs.Grants.{may_go_on_as, may_go_on}
use Rattle.pt_model.specs.Grants.{grant_outcome}
use Rattle.pt_model.specs.Forced.{is_served_before, can_be_served, service_if, forced_yield}
use Rattle.pt_model.specs.Forced.{forced_expire, forced}
use Rattle.pt_model.specs.Verdicts.{verdict}
use Rattle.pt_model.specs.Steps.{Step, calls, Follows}
use Rattle.pt_model.proofs.Lists.{In-filter, filter-in, In-append_left, In-append_right}
use Rattle.pt_model.proofs.Lists.{In-append_cases, any-in, in-any}
use Rattle.pt_model.proofs.Leasts.{least-in, least-none, none-least, first_below-same}
use Rattle.pt_model.proofs.Leasts.{first_below-more}
use Rattle.pt_model.proofs.Effects.{Effect, Idle, Creates, Removes, Relocks, Frees, Mends, Returns}
use Rattle.pt_model.proofs.Effects.{Wakes, Waits, effect}
use Rattle.pt_model.proofs.Allowances.{allowed}
use Rattle.pt_model.proofs.Changes.{left_by, kind_effect, cause_effect, gives_up, returns_it}
use Rattle.pt_model.proofs.Changes.{consistency_effect, resolved}
use Rattle.pt_model.proofs.Readings.{stood-call, kind-call, consistency-call, is_writer-call}
use Rattle.pt_model.proofs.Readings.{reads-call}
use Rattle.pt_model.proofs.Sound.{Fresh-follows}
use Rattle.pt_model.proofs.NotOwned.{has_read, Unheld-follows}
use Rattle.pt_model.proofs.Opens.{open-call}
use Rattle.pt_model.proofs.Moves.{wait_move-call}
use Rattle.pt_model.proofs.Holders.{owner-call}
use Rattle.pt_model.proofs.Services.{served, none-served}
use Rattle.pt_model.proofs.Forcing.{served-least}
use Rattle.pt_machine.specs.CallDeadlines.{operation_deadline}
use Rattle.pt_machine.proofs.BadVerdicts.{is_for_lock, lock_role, call_bad}

-- an effect that leaves a call waiting is the wait of that call
left_waits : (E : Effect) (w : WaitingCall) → In w (left_by E) → E ≡ Waits w
left_waits (Waits u) w (inl i) = ap Waits (sym i)
left_waits (Waits u) w (inr i) = absurd i
left_waits Idle w i = absurd i
left_waits (Creates n kind) w i = absurd i
left_waits (Removes n s q) w i = absurd i
left_waits (Relocks m) w i = absurd i
left_waits (Frees m) w i = absurd i
left_waits (Mends m) w i = absurd i
left_waits (Returns r) w i = absurd i
left_waits (Wakes n all) w i = absurd i

-- whether a client may have a mutex, apart from the order of calls
abbrev may_from : Consistency → Option ℕ → Option ObjectKind → ℕ → Bool
may_from k o kind d =
    (is_not_recoverable k || (is_none o && true)) || (is_recursive (mutex_kind kind)
    && is_some_number o d)

module _ (h : History) (f : Follows h) (c : ℕ) (call : FunctionCall) (n : forced h ≡ None)
    (a : is_alive h c ≡ true) (o : open_place h c ≡ None) (w : WaitingCall)
    (e : effect h c call (reply (verdict h c call)) ≡ Waits w)
    (l : is_for_lock w.role ≡ true) where
  -- the history after the call
  abbrev g : History
  g = h ▷ Call c call (reply (verdict h c call))

  s : Step h (Call c call (reply (verdict h c call)))
  s = calls c call n a o

  kind_after : (m : ℕ) → kind_of g m ≡ kind_of h m
  kind_after m =
      kind-call h c call (reply (verdict h c call)) (kind_of h m) m
      ∙ ap (λ E. kind_effect (place h) E (kind_of h m) m) e

  consistency_after : (m : ℕ) → consistency g m ≡ consistency h m
  consistency_after m =
      consistency-call h c call (reply (verdict h c call)) (resolved h c call) m (consistency h m)
      ∙ (ap (λ E. consistency_effect h c E m (consistency h m)) e
      ∙ rw ((lock_role w.role l).1 m) refl)

  owner_after : (m : ℕ) → owner g m ≡ owner h m
  owner_after m =
      owner-call h c call f s m
      ∙ (ap (λ E. cond (gives_up E m && (mutex_count h m c == 1)) None (owner h m)) e
      ∙ rw ((lock_role w.role l).1 m) refl)

  writes_after : (r d : ℕ) → is_writer g r d ≡ is_writer h r d
  writes_after r d =
      is_writer-call h c call (reply (verdict h c call)) r d (is_writer h r d)
      ∙ ap (λ E. cond (returns_it E r && (c == d)) false (is_writer h r d)) e

  reads_after : (r d : ℕ) → read_count g r d ≡ read_count h r d
  reads_after r d =
      reads-call h c call (reply (verdict h c call)) r d (read_count h r d)
      ∙ ap (λ E. cond (returns_it E r
      && (c == d)) (reads_after_unlock (is_writer h r d) (read_count h r d))
      (read_count h r d)) e

  writer_after : (r : ℕ) → write_holder g r ≡ write_holder h r
  writer_after r =
      first_below-same (suc (place h)) (λ d. is_writer g r d) (λ d. is_writer h r d)
      (λ d lt. writes_after r d)
      ∙ first_below-more (place h) (λ d. is_writer h r d)
      ((Unheld-follows h f).writers r (place h) (omega arith))

  reader_after : (r : ℕ) → first_reader g r ≡ first_reader h r
  reader_after r =
      first_below-same (suc (place h)) (λ d. has_read g r d) (λ d. has_read h r d)
      (λ d lt. ap (nat_lt 0) (reads_after r d))
      ∙ first_below-more (place h) (λ d. has_read h r d)
      (ap (nat_lt 0) ((Unheld-follows h f).readers r (place h) (omega arith)))

  moved_after : (j : ℕ) → wait_move g j ≡ wait_move h j
  moved_after j =
      wait_move-call h c call (reply (verdict h c call)) j
      ∙ ap (λ E. move_or (place h) (cause_effect h (wait_move h) E j) (wait_move h j)) e

  at_after : (v : WaitingCall) → wait_object g v ≡ wait_object h v
  at_after v = ap (λ x. wait_object_by v.role x v.object) (moved_after v.place)

  open_after : open_calls g ≡ open_calls h ++ (w ∷ [])
  open_after =
      open-call h c call (reply (verdict h c call)) (Fresh-follows h f) a (allowed h c call)
      ∙ ap (λ E. open_calls h ++ left_by E) e

  open_still : (v : WaitingCall) → In v (open_calls h) → In v (open_calls g)
  open_still v i =
      subst (λ (us : List WaitingCall). In v us) (sym open_after)
      (In-append_left v (open_calls h) (w ∷ []) i)

  open_new : In w (open_calls g)
  open_new =
      subst (λ (us : List WaitingCall). In w us) (sym open_after)
      (In-append_right w (open_calls h) (w ∷ []) (inl refl))

  -- readers that were held back still are
  blocked_still : (r p : ℕ) → is_blocked h r p ≡ true → is_blocked g r p ≡ true
  blocked_still r p t =
      let x = any-in (λ (v : WaitingCall). blocks_readers v p) (waiting_at h r) t in
      let there = In-filter (λ (v : WaitingCall). wait_object h v == r) (open_calls h) x.0 x.1.0 in
      in-any (λ (v : WaitingCall). blocks_readers v p) (waiting_at g r) x.0
      (filter-in (λ (v : WaitingCall). wait_object g v == r) (open_calls g) x.0
      (open_still x.0 there.0) (ap (λ k. k == r) (at_after x.0) ∙ there.1)) x.1.1

  -- and no others are, unless the new call is a writer
  blocked_before : (r p : ℕ) → is_write_lock w.role ≡ false → is_blocked g r p ≡ true
      → is_blocked h r p ≡ true
  blocked_before r p calm t = go (In-append_cases x.0 (open_calls h) (w ∷ [])
      (subst (λ (us : List WaitingCall). In x.0 us) open_after there.0))
    where
      x : (v : WaitingCall) × (In v (waiting_at g r) × (blocks_readers v p ≡ true))
      x = any-in (λ (v : WaitingCall). blocks_readers v p) (waiting_at g r) t

      there : In x.0 (open_calls g) × ((wait_object g x.0 == r) ≡ true)
      there = In-filter (λ (v : WaitingCall). wait_object g v == r) (open_calls g) x.0 x.1.0

      go : In x.0 (open_calls h) ⊎ In x.0 (w ∷ []) → is_blocked h r p ≡ true
      go (inl i) =
          in-any (λ (v : WaitingCall). blocks_readers v p) (waiting_at h r) x.0
          (filter-in (λ (v : WaitingCall). wait_object h v == r) (open_calls h) x.0 i
          (ap (λ k. k == r) (sym (at_after x.0)) ∙ there.1)) x.1.1
      go (inr (inl i)) =
          absurd (false≢true (sym (ap (λ (v : WaitingCall). is_write_lock v.role) i ∙ calm)
          ∙ (and_parts (is_write_lock x.0.role) (nat_le p x.0.priority) x.1.1).0))
      go (inr (inr i)) = absurd i

  -- whether an arrival's barrier is full has not changed
  complete_after : (v : WaitingCall) → is_at_full_barrier g v ≡ is_at_full_barrier h v
  complete_after v =
      ap (λ (us : List WaitingCall). is_barrier_wait v.role && (length (at_barrier v.object us)
      == barrier_count (kind_of g v.object))) open_after
      ∙ (ap (λ (us : List WaitingCall). is_barrier_wait v.role && (length us
      == barrier_count (kind_of g v.object))) same
      ∙ ap (λ k. is_barrier_wait v.role && (length (at_barrier v.object (open_calls h))
      == barrier_count k)) (kind_after v.object))
    where
      same : at_barrier v.object (open_calls h ++ (w ∷ [])) ≡ at_barrier v.object (open_calls h)
      same =
          filter-append (λ (u : WaitingCall). is_barrier_wait u.role && (u.object == v.object))
          (open_calls h) (w ∷ [])
          ∙ (rw ((lock_role w.role l).0) (append-nil (at_barrier v.object (open_calls h))))

  mutex_after : (v : WaitingCall) (m : ℕ) → may_take_mutex g v m ≡ may_take_mutex h v m
  mutex_after v m =
      ap (λ x. may_from x (owner g m) (kind_of g m) v.client) (consistency_after m)
      ∙ (ap (λ x. may_from (consistency h m) x (kind_of g m) v.client) (owner_after m)
      ∙ ap (λ x. may_from (consistency h m) (owner h m) x v.client) (kind_after m))

  lock_after : (m : ℕ) → can_grant_mutex (mutex_view g m) true
      ≡ can_grant_mutex (mutex_view h m) true
  lock_after m =
      ap (λ x. is_not_recoverable x || (is_none (owner g m) && true)) (consistency_after m)
      ∙ ap (λ x. is_not_recoverable (consistency h m) || (is_none x && true)) (owner_after m)

  free_after : (r d : ℕ) → is_free (rwlock_view g r d) ≡ is_free (rwlock_view h r d)
  free_after r d =
      ap (λ x. not (is_some x) && not (is_some (first_reader g r))) (writer_after r)
      ∙ ap (λ x. not (is_some (write_holder h r)) && not (is_some x)) (reader_after r)

  read_after : (r d : ℕ) (b : Bool) → can_grant_read (rwlock_view g r d) b
      ≡ can_grant_read (rwlock_view h r d) b
  read_after r d b =
      ap (λ x. not (is_some x) && (not b || nat_lt 0 (read_count g r d))) (writer_after r)
      ∙ ap (λ x. not (is_some (write_holder h r)) && (not b || nat_lt 0 x)) (reads_after r d)

  -- a reader that could have its lock still can if it is not held back more than before
  unheld_back : (v : RwlockView) (x y : Bool) → (y ≡ true → x ≡ true) → can_grant_read v x ≡ true
      → can_grant_read v y ≡ true
  unheld_back v x true up t = subst (λ b. can_grant_read v b ≡ true) (up refl) t
  unheld_back v true false up t =
      let p = and_parts (not v.is_written) (nat_lt 0 v.reads) t in
      and_from (not v.is_written) true p.0 refl
  unheld_back v false false up t = t

  -- a call that may go on after the new call could go on before it
  may_before : (v : WaitingCall) (role : Role) → may_go_on_as g v role ≡ true
      → may_go_on_as h v role ≡ true
  may_before v ForMutex t = sym (lock_after v.object) ∙ t
  may_before v (ForCond m) t =
      sym (ap (λ x. is_some x && may_take_mutex g v m) (moved_after v.place)
      ∙ ap (λ b. is_moved h v && b) (mutex_after v m)) ∙ t
  may_before v ForWrite t = sym (free_after v.object v.client) ∙ t
  may_before v ForRead t =
      unheld_back (rwlock_view h v.object v.client) (is_blocked g v.object v.priority)
      (is_blocked h v.object v.priority) (blocked_still v.object v.priority)
      (sym (read_after v.object v.client (is_blocked g v.object v.priority)) ∙ t)
  may_before v ForBarrier t = sym (complete_after v) ∙ t

  -- the new call may go on if it could have gone on before it came
  may_new : (role : Role) → w.role ≡ role → is_for_lock role ≡ true → may_go_on_as h w role ≡ true
      → may_go_on_as g w role ≡ true
  may_new ForMutex r k t = lock_after w.object ∙ t
  may_new ForWrite r k t = free_after w.object w.client ∙ t
  may_new ForRead r k t =
      read_after w.object w.client (is_blocked g w.object w.priority)
      ∙ unheld_back (rwlock_view h w.object w.client) (is_blocked h w.object w.priority)
      (is_blocked g w.object w.priority)
      (blocked_before w.object w.priority (ap is_write_lock r)) t
  may_new ForBarrier r k t = absurd (false≢true k)
  may_new (ForCond m) r k t = absurd (false≢true k)

  -- no earlier call may go on, since nothing was forced
  none_may : (v : WaitingCall) → In v (open_calls h) → may_go_on h v ≡ true → ⊥
  none_may v i t =
      least-none (is_served_before h) (filter (may_go_on h) (open_calls h))
      (sym (served-least h f) ∙ none) v (filter-in (may_go_on h) (open_calls h) v i t)
    where
      none : served h ≡ None
      none =
          none-least (is_served_before h) (filter (can_be_served h) (open_calls h))
          (λ u j. let r = In-filter (can_be_served h) (open_calls h) u j in
          false≢true (sym (none-served h n u r.0) ∙ r.1))

  -- so the new call is the one that is served
  served_new : may_go_on h w ≡ true → served g ≡ Some w
  served_new t =
      served-least g (f, s)
      ∙ go (least (is_served_before g) (filter (may_go_on g) (open_calls g))) refl
    where
      go : (x : Option WaitingCall) → least (is_served_before g) (filter (may_go_on g)
          (open_calls g)) ≡ x
          → x ≡ Some w
      go None k =
          absurd (least-none (is_served_before g) (filter (may_go_on g) (open_calls g)) k w
          (filter-in (may_go_on g) (open_calls g) w open_new (may_new w.role refl l t)))
      go (Some u) k =
          let p =
          In-filter (may_go_on g) (open_calls g) u
          (least-in (is_served_before g) (filter (may_go_on g) (open_calls g)) u k) in
          old (In-append_cases u (open_calls h) (w ∷ [])
          (subst (λ (us : List WaitingCall). In u us) open_after p.0)) p.1
        where
          old : In u (open_calls h) ⊎ In u (w ∷ []) → may_go_on g u ≡ true → Some u ≡ Some w
          old (inl i) m = absurd (none_may u i (may_before u u.role m))
          old (inr (inl i)) m = ap Some i
          old (inr (inr i)) m = absurd i

  -- and it is granted by the next entry
  granted_new : may_go_on h w ≡ true → forced g ≡ Some (Grant w.place (grant_outcome g w))
  granted_new t =
      ap (λ x. option_or (service_if g x) (option_or (forced_yield g) (forced_expire g)))
      (served_new t)
      ∙ ap (λ b. Some (cond b (Trip w.object) (Grant w.place (grant_outcome g w))))
      (lock_role w.role l).0

-- a call that is left waiting with a deadline that is not a time is granted by the next entry
pub bad-granted : (h : History) → Follows h → (c : ℕ) (call : FunctionCall) → forced h ≡ None
    → is_alive h c ≡ true → open_place h c ≡ None
    → has_invalid_deadline (operation_deadline (operation call)) ≡ true
    → (w : WaitingCall) → In w (left_by (effect h c call (reply (verdict h c call))))
    → forced (h ▷ Call c call (reply (verdict h c call)))
    ≡ Some (Grant w.place (grant_outcome (h ▷ Call c call (reply (verdict h c call))) w))
bad-granted h f c call n a o bad w i =
    let ready =
    call_bad h f c call (reply (verdict h c call)) refl bad w
    (subst (λ (us : List WaitingCall). In w us)
    (sym (stood-call h c call (reply (verdict h c call)))) i) in
    granted_new h f c call n a o w
    (left_waits (effect h c call (reply (verdict h c call))) w i) ready.0 ready.1
