-- No client has more than 255 read locks at a read-write lock, and one that is granted a lock can
-- have it.
use Rattle.std.proofs.Common.{◌≡◌, ℕ, suc, ◌<◌, ◌≤◌, ◌⊎◌, inl, inr, Bool, true, false, cond, not}
use Rattle.std.proofs.Common.{◌&&◌, ◌||◌, ◌==◌, nat_lt, nat_le, List, Option, Some, None, is_some}
use Rattle.std.proofs.Common.{is_none, unwrap_or, refl, sym, ap, ◌∙◌, subst, arith}
use Rattle.std.proofs.lemmas.Bool.Decides.{nat_tests}
use Rattle.std.proofs.lemmas.Bool.{and_parts, and_from, ltb-true, lt-ltb}
use Rattle.pt_types.specs.declared.call.Call.{Call as Asked}
use Rattle.pt_types.specs.declared.call.How.{How}
use Rattle.pt_types.specs.declared.outcome.Outcome.{Outcome}
use Rattle.pt_types.specs.declared.outcome.Outcome.TheVariants.{Einval, Ebusy, Eagain}
use Rattle.pt_types.specs.declared.outcome.Verdict.TheVariants.{Reply, Stands}
use Rattle.pt_types.specs.Times.{has_invalid_deadline}
use Rattle.pt_types.specs.declared.time.Clock.{Clock}
use Rattle.pt_types.specs.Operations.{Operation, Inits, Ends, Acquires, Unlocks, Restores}
use Rattle.pt_types.specs.Operations.{Rwunlocks, CondWaits, Signals, Broadcasts, BarrierWaits, operation}
use Rattle.pt_types.specs.Operations.{clock_of, is_try, deadline_of}
use Rattle.pt_types.specs.declared.operations.ObjectClass.TheVariants.{Mutex as MutexClass}
use Rattle.pt_types.specs.declared.operations.ObjectClass.TheVariants.{Rwlock as RwlockClass}
use Rattle.pt_types.specs.declared.operations.LockKind.TheVariants.{MutexLock, ReadLock, WriteLock}
use Rattle.pt_types.specs.Limits.{max_read_locks}
use Rattle.pt_types.specs.MutexTable.{is_some_number}
use Rattle.pt_types.specs.RwlockTable.{is_free, relock_outcome}
use Rattle.pt_types.specs.Tables.{reply}
use Rattle.pt_rwlock.specs.RwlockState.{RwlockState, reads_in_row, reads_of, has_readers}
use Rattle.pt_rwlock.specs.RwlockState.{nobody_holds}
use Rattle.pt_rwlock.specs.RwlockState.{view_for, has_room, can_acquire_read}
use Rattle.pt_rwlock.proofs.RowLemmas.{read_by_somebody}
use Rattle.pt_model.specs.declared.entry.Entry.{Entry}
use Rattle.pt_model.specs.declared.entry.Entry.TheVariants.{Call, Grant}
use Rattle.pt_model.specs.Searches.{In}
use Rattle.pt_model.specs.Histories.{History, ◌▷◌, place}
use Rattle.pt_model.specs.Clients.{client_priority}
use Rattle.pt_model.specs.Objects.{find_object}
use Rattle.pt_model.specs.declared.waiting_call.WaitingCall.{WaitingCall}
use Rattle.pt_model.specs.declared.waiting_call.Role.{Role}
use Rattle.pt_model.specs.declared.waiting_call.Role.TheVariants.{ForMutex, ForRead, ForWrite}
use Rattle.pt_model.specs.declared.waiting_call.Role.TheVariants.{ForBarrier, ForCond}
use Rattle.pt_model.specs.WaitingCall.{waiting_calls_by_operation, waiting_calls_by, object_or_zero}
use Rattle.pt_model.specs.Answers.{open_calls}
use Rattle.pt_model.specs.Moves.{is_least}
use Rattle.pt_model.specs.Rwlocks.{is_reader_here, reads_after_unlock, is_writer, read_count}
use Rattle.pt_model.specs.Rwlocks.{write_holder, first_reader}
use Rattle.pt_model.specs.Rwlocks.{rwlock_view}
use Rattle.pt_model.specs.Grants.{is_blocked, is_grantable_as, is_grantable, grant_outcome}
use Rattle.pt_model.specs.Verdicts.{verdict_on, lock_kind_verdict, operation_verdict, verdict}
use Rattle.pt_model.specs.Steps.{Step, joins, calls, dies, ticks, grants, trips, yields, expires}
use Rattle.pt_model.specs.Steps.{Follows}
use Rattle.pt_records.specs.Objects.{IsRwlock}
use Rattle.pt_model.specs.Seals.{is_rwlock}
use Rattle.pt_model.proofs.Induction.{by_steps}
use Rattle.pt_model.proofs.Lists.{In-filter}
use Rattle.pt_model.proofs.Leasts.{first_below-passes}
use Rattle.pt_model.proofs.Effects.{effect}
use Rattle.pt_model.proofs.Changes.{returns_it}
use Rattle.pt_model.proofs.Readings.{stood-call, reads-call}
use Rattle.pt_model.proofs.NotOwned.{has_read, read_count-read}
use Rattle.pt_model.proofs.Opens.{open-sealed, left, was_open, open-grant}
use Rattle.pt_model.proofs.OneEach.{one_each}
use Rattle.pt_model.proofs.Rwlocks.{read_count-grant, is_writer-write_holder}

-- no client has more than 255 read locks on a lock, and one that waits to read there has fewer
pub record ReadsBound (h : History) : Type 0 where
  pub most : (r c : ℕ) → read_count h r c ≤ max_read_locks
  pub room : (w : WaitingCall) → In w (open_calls h) → w.role ≡ ForRead
      → read_count h w.object w.client < max_read_locks

-- a call for a read lock is left waiting only if its client has fewer than 255
read_allowed : (h : History) (c : ℕ) (how : How) (o : Option ℕ)
    → reply (verdict_on o (λ r. lock_kind_verdict h c r ReadLock how)) ≡ None
    → read_count h (unwrap_or o 0) c < max_read_locks
read_allowed h c how None e = absurd cc
read_allowed h c how (Some r) e =
    let less : nat_le max_read_locks (read_count h r c) ≡ false =
    go (relock_outcome (is_try how)) (is_try how) (is_writer h r c) (nat_le max_read_locks
    (read_count h r c))
    (nat_lt 0 (read_count h r c))
    (not (is_some (write_holder h r)) && not (is_blocked h r (unwrap_or (client_priority h c) 0)))
    (has_invalid_deadline (deadline_of how)) e in
    grind (arith, nat_tests)
  where
    go : (x : Outcome) (u w l p f y : Bool) → reply (cond w (Reply x) (cond l (Reply Eagain)
        (cond p Stands (cond f Stands (cond u (Reply Ebusy) (cond y (Reply Einval) Stands))))))
        ≡ None → l ≡ false
    go x u true l p f y e = absurd cc
    go x u false true p f y e = absurd cc
    go x u false false p f y e = refl

-- the same for the call that an operation leaves waiting
read_left : (h : History) (c : ℕ) (k : Clock) (d : Operation)
    → reply (operation_verdict h c d) ≡ None
    → (w : WaitingCall) → In w (waiting_calls_by_operation h c k d) → w.role ≡ ForRead
    → read_count h w.object w.client < max_read_locks
read_left h c k (Acquires n ReadLock how) e w (inl i) r =
    let object : w.object ≡ object_or_zero h n RwlockClass = ap (λ (u : WaitingCall). u.object) i in
    let by : w.client ≡ c = ap (λ (u : WaitingCall). u.client) i in
    rw (object, by) (read_allowed h c how (find_object h n RwlockClass) e)
read_left h c k (Acquires n ReadLock how) e w (inr i) r = absurd i
read_left h c k (Acquires n MutexLock how) e w (inl i) r =
    let no : ForMutex ≡ ForRead = sym (ap (λ (u : WaitingCall). u.role) i) ∙ r in absurd cc
read_left h c k (Acquires n MutexLock how) e w (inr i) r = absurd i
read_left h c k (Acquires n WriteLock how) e w (inl i) r =
    let no : ForWrite ≡ ForRead = sym (ap (λ (u : WaitingCall). u.role) i) ∙ r in absurd cc
read_left h c k (Acquires n WriteLock how) e w (inr i) r = absurd i
read_left h c k (CondWaits n m deadline) e w (inl i) r =
    let no : ForCond (object_or_zero h m MutexClass)
    ≡ ForRead = sym (ap (λ (u : WaitingCall). u.role) i)
    ∙ r in
    absurd cc
read_left h c k (CondWaits n m deadline) e w (inr i) r = absurd i
read_left h c k (BarrierWaits n) e w (inl i) r =
    let no : ForBarrier ≡ ForRead = sym (ap (λ (u : WaitingCall). u.role) i) ∙ r in absurd cc
read_left h c k (BarrierWaits n) e w (inr i) r = absurd i
read_left h c k (Inits n kind) e w i r = absurd i
read_left h c k (Ends n class) e w i r = absurd i
read_left h c k (Unlocks n) e w i r = absurd i
read_left h c k (Restores n) e w i r = absurd i
read_left h c k (Rwunlocks n) e w i r = absurd i
read_left h c k (Signals n) e w i r = absurd i
read_left h c k (Broadcasts n) e w i r = absurd i

-- the same for the call that a call leaves waiting
read_new : (h : History) (c : ℕ) (call : Asked) (x : Option Outcome) → reply (verdict h c call) ≡ x
    → (w : WaitingCall) → In w (waiting_calls_by h (Call c call x)) → w.role ≡ ForRead
    → read_count h w.object w.client < max_read_locks
read_new h c call None e w i r = read_left h c (clock_of call) (operation call) e w i r
read_new h c call (Some x) e w i r = absurd i

-- an entry that grants no read lock preserves the bounds
no_more : (h : History) (e : Entry) → Follows h → ReadsBound h → Step h e
    → ((r c : ℕ) → read_count (h ▷ e) r c ≤ read_count h r c)
    → ((w : WaitingCall) → In w (left h e) → w.role ≡ ForRead
    → read_count h w.object w.client < max_read_locks)
    → ReadsBound (h ▷ e)
no_more h e f b s less new =
    record {
      most = λ r c. below (b.most r c) (less r c);
      room = λ w i r. under (old w r (was_open h e f s w i)) (less w.object w.client);
    }
  where
    below : {k n : ℕ} → n ≤ max_read_locks → k ≤ n → k ≤ max_read_locks
    below a l = omega arith

    under : {k n : ℕ} → n < max_read_locks → k ≤ n → k < max_read_locks
    under a l = omega arith

    old : (w : WaitingCall) → w.role ≡ ForRead → In w (open_calls h) ⊎ In w (left h e)
        → read_count h w.object w.client < max_read_locks
    old w r (inl i) = b.room w i r
    old w r (inr i) = new w i r

-- after a read lock is given back, there are no more than before
given_less : (b w : Bool) (n : ℕ) → cond b (reads_after_unlock w n) n ≤ n
given_less true true n = omega arith
given_less true false n = omega arith
given_less false w n = omega arith

-- a call for which the test fails does not read there
there_false : (role : Role) (a b : Bool) → b ≡ false → is_reader_here role (a && b) ≡ false
there_false ForRead true b e = e
there_false ForRead false b e = refl
there_false ForMutex a b e = refl
there_false ForWrite a b e = refl
there_false ForBarrier a b e = refl
there_false (ForCond m) a b e = refl

-- a Grant adds a read lock only for a call that has room
granted_most : (h : History) (v : WaitingCall) (r c : ℕ) → ReadsBound h → In v (open_calls h)
    → (role : Role) → v.role ≡ role
    → cond (is_reader_here role ((v.object == r)
    && (v.client == c))) (suc (read_count h r c)) (read_count h r c)
    ≤ max_read_locks
granted_most h v r c b i ForRead e = go (v.object == r) (v.client == c) refl refl
  where
    go : (x y : Bool) → (v.object == r) ≡ x → (v.client == c) ≡ y
        → cond (x && y) (suc (read_count h r c)) (read_count h r c) ≤ max_read_locks
    go true true ex ey =
        let object : v.object ≡ r = grind (arith, nat_tests) in
        let by : v.client ≡ c = grind (arith, nat_tests) in
        rw (← object, ← by) (b.room v i e)
    go true false ex ey = b.most r c
    go false y ex ey = b.most r c
granted_most h v r c b i ForMutex e = b.most r c
granted_most h v r c b i ForWrite e = b.most r c
granted_most h v r c b i ForBarrier e = b.most r c
granted_most h v r c b i (ForCond m) e = b.most r c

-- each entry preserves the bounds
pub ReadsBound-step : (h : History) (e : Entry) → Follows h → ReadsBound h → Step h e
    → ReadsBound (h ▷ e)
ReadsBound-step h _ f b (joins p n lt) =
    no_more h _ f b (joins p n lt) (λ r c. omega arith) (λ w i r. absurd i)
ReadsBound-step h _ f b (dies c n a) =
    no_more h _ f b (dies c n a) (λ r c. omega arith) (λ w i r. absurd i)
ReadsBound-step h _ f b (ticks k t n) =
    no_more h _ f b (ticks k t n) (λ r c. omega arith) (λ w i r. absurd i)
ReadsBound-step h _ f b (trips w s i t) =
    no_more h _ f b (trips w s i t) (λ r c. omega arith) (λ w i r. absurd i)
ReadsBound-step h _ f b (yields k s t) =
    no_more h _ f b (yields k s t) (λ r c. omega arith) (λ w i r. absurd i)
ReadsBound-step h _ f b (expires w s i t) =
    no_more h _ f b (expires w s i t) (λ r c. omega arith) (λ w i r. absurd i)
ReadsBound-step h _ f b (calls c call n a o) =
    no_more h _ f b (calls c call n a o)
    (λ r d. subst (λ k. k ≤ read_count h r d)
    (sym (reads-call h c call (reply (verdict h c call)) r d (read_count h r d)))
    (given_less (returns_it (effect h c call (reply (verdict h c call))) r && (c == d))
    (is_writer h r d) (read_count h r d)))
    (λ w i r. read_new h c call (reply (verdict h c call)) refl w
    (subst (λ (us : List WaitingCall). In w us)
    (sym (stood-call h c call (reply (verdict h c call)))) i) r)
ReadsBound-step h _ f b (grants v s j g) =
    record {
      most = λ r c. subst (λ k. k ≤ max_read_locks) (sym (read_count-grant h v
          (grant_outcome h v) r c f j))
          (granted_most h v r c b j v.role refl);
      room = λ w i r. subst (λ k. k < max_read_locks) (sym (same w (In-filter
          (λ (u : WaitingCall). not (u.place == v.place)) (open_calls h) w
          (subst (λ (us : List WaitingCall). In w us)
          (open-grant h v.place (grant_outcome h v)) i))))
          (b.room w (In-filter (λ (u : WaitingCall). not (u.place == v.place)) (open_calls h) w
          (subst (λ (us : List WaitingCall). In w us) (open-grant h v.place (grant_outcome h v))
          i)).0 r);
    }
  where
    apart : (w : WaitingCall) → In w (open_calls h) × (not (w.place == v.place) ≡ true) → (z : Bool)
        → (v.client == w.client) ≡ z → z ≡ false
    apart w i true e =
        let by : v.client ≡ w.client = grind (arith, nat_tests) in
        let one : v ≡ w = one_each h f v w j i.0 by in
        let at : v.place ≡ w.place = ap (λ (u : WaitingCall). u.place) one in
        let ne : not (w.place == v.place) ≡ true = i.1 in
        absurd (grind (arith, nat_tests))
    apart w i false e = refl

    same : (w : WaitingCall) → In w (open_calls h) × (not (w.place == v.place) ≡ true)
        → read_count (h ▷ Grant v.place (grant_outcome h v)) w.object w.client
        ≡ read_count h w.object w.client
    same w i =
        read_count-grant h v (grant_outcome h v) w.object w.client f j
        ∙ ap (λ t. cond t (suc (read_count h w.object w.client)) (read_count h w.object w.client))
        (there_false v.role (v.object == w.object) (v.client == w.client)
        (apart w i (v.client == w.client) refl))

kept-most : (b : Bool) (n m : ℕ) → n ≤ m → cond b n 0 ≤ m
kept-most true n m le = le
kept-most false n m le = omega (arith, le)

kept-less : (b : Bool) (n m : ℕ) → n < m → cond b n 0 < m
kept-less true n m lt = lt
kept-less false n m lt = omega (arith, lt)

-- so they hold for each history
pub ReadsBound-follows : (h : History) → Follows h → ReadsBound h
ReadsBound-follows h f =
    by_steps ReadsBound
    (record { most = λ r c. omega arith; room = λ w i r. absurd i })
    ReadsBound-step
    (λ h f b. record {
      most = λ r c. kept-most (is_rwlock h r) (read_count h r c) max_read_locks (b.most r c);
      room = λ w i r. kept-less (is_rwlock h w.object)
          (read_count h w.object w.client) max_read_locks
          (b.room w (open-sealed h w i) r);
    }) h f

-- a client that waits to read has room for one more read lock
pub read-room : (h : History) → Follows h → (w : WaitingCall) → In w (open_calls h)
    → w.role ≡ ForRead → read_count h w.object w.client < max_read_locks
read-room h f w i r = (ReadsBound-follows h f).room w i r

-- an option that is not some is none
unsome : (o : Option ℕ) → not (is_some o) ≡ true → is_none o ≡ true
unsome None e = refl
unsome (Some x) e = absurd cc

-- if a reader may be granted a lock, nobody holds it for writing
pub read-can : (h : History) (w : WaitingCall) → is_grantable h w ≡ true → w.role ≡ ForRead
    → is_none (write_holder h w.object) ≡ true
read-can h w g r =
    let may : is_grantable_as h w ForRead ≡ true =
    subst (λ (role : Role). is_grantable_as h w role ≡ true) r g in
    unsome (write_holder h w.object) (and_parts (not (is_some (write_holder h w.object)))
    (not (is_blocked h w.object w.priority) || nat_lt 0 (read_count h w.object w.client)) may).0

-- if a writer may be granted a lock, nobody holds it
pub write-can : (h : History) (w : WaitingCall) → is_grantable h w ≡ true → w.role ≡ ForWrite
    → (is_none (write_holder h w.object) ≡ true) × (is_none (first_reader h w.object) ≡ true)
write-can h w g r =
    let may : is_grantable_as h w ForWrite ≡ true =
    subst (λ (role : Role). is_grantable_as h w role ≡ true) r g in
    let free =
    and_parts (not (is_some (write_holder h w.object))) (not (is_some (first_reader h w.object)))
    (and_parts (is_free (rwlock_view h w.object w.client)) (is_least h w) may).0 in
    (unsome (write_holder h w.object) free.0, unsome (first_reader h w.object) free.1)

-- rows that store each client's read locks have one exactly if there is a reader
pub read-by : (h : History) → Follows h → (o : ℕ) (r : RwlockState)
    → ((c : ℕ) → reads_of r c ≡ read_count h o c) → has_readers r ≡ is_some (first_reader h o)
read-by h f o r same = go (has_readers r) (first_reader h o) refl refl
  where
    some : has_readers r ≡ true → is_some (first_reader h o) ≡ true
    some e =
        let by = (read_by_somebody r).0 e in
        read_count-read h f o by.0
        (lt-ltb 0 (read_count h o by.0) (subst (λ n. 0 < n) (same by.0) by.1))

    none : (c : ℕ) → first_reader h o ≡ Some c → has_readers r ≡ true
    none c e =
        let has : nat_lt 0 (read_count h o c) ≡ true =
        first_below-passes (place h) (λ d. has_read h o d) c e in
        (read_by_somebody r).1
        (c, subst (λ n. 0 < n) (sym (same c)) (ltb-true 0 (read_count h o c) has))

    go : (b : Bool) (x : Option ℕ) → has_readers r ≡ b → first_reader h o ≡ x → b ≡ is_some x
    go true x eb ex = sym (ap is_some (sym ex) ∙ some eb)
    go false None eb ex = refl
    go false (Some c) eb ex = sym eb ∙ none c ex

-- nobody holds a lock that is stored in this way if it has neither a writer nor a reader
pub nobody-holds : (h : History) → Follows h → (o : ℕ) (r : RwlockState) → r.writer
    ≡ write_holder h o
    → ((c : ℕ) → reads_of r c ≡ read_count h o c) → is_none (write_holder h o) ≡ true
    → is_none (first_reader h o) ≡ true → nobody_holds r ≡ true
nobody-holds h f o r w same a b =
    and_from (not (is_some r.writer)) (not (has_readers r))
    (ap (λ x. not (is_some x)) w ∙ unsaid (write_holder h o) a)
    (ap not (read-by h f o r same) ∙ unsaid (first_reader h o) b)
  where
    unsaid : (x : Option ℕ) → is_none x ≡ true → not (is_some x) ≡ true
    unsaid None e = refl
    unsaid (Some d) e = absurd cc

-- a client is the writer exactly if it holds the lock for writing
pub writes-by : (h : History) → Follows h → (o c : ℕ) → is_some_number (write_holder h o) c
    ≡ is_writer h o c
writes-by h f o c = go (is_writer h o c) (write_holder h o) refl refl
  where
    go : (b : Bool) (x : Option ℕ) → is_writer h o c ≡ b → write_holder h o ≡ x → is_some_number x c
        ≡ b
    go true x eb ex =
        let same : (c == c) ≡ true = grind (arith, nat_tests) in
        ap (λ y. is_some_number y c) (sym ex ∙ is_writer-write_holder h f o c eb) ∙ same
    go false None eb ex = refl
    go false (Some d) eb ex = other (d == c) refl
      where
        other : (z : Bool) → (d == c) ≡ z → z ≡ false
        other true ez =
            let same : d ≡ c = grind (arith, nat_tests) in
            let own : is_writer h o d ≡ true = first_below-passes (place h)
            (λ k. is_writer h o k) d ex in
            sym own ∙ (ap (is_writer h o) same ∙ eb)
        other false ez = refl

-- each client sees a lock that is stored in this way as it is read off the history
pub view-by : (h : History) → Follows h → (o : ℕ) (r : RwlockState) → r.writer ≡ write_holder h o
    → ((c : ℕ) → reads_of r c ≡ read_count h o c) → (c : ℕ) → view_for r c ≡ rwlock_view h o c
view-by h f o r w same c =
    rw (w, writes-by h f o c, same c, read-by h f o r same) refl

-- a reader that may be granted the lock has a row with room, and no writer in its way
pub read-acquire : (h : History) → Follows h → (w : WaitingCall) (r : RwlockState)
    → In w (open_calls h) → is_grantable h w ≡ true → w.role ≡ ForRead → IsRwlock h w.object r
    → can_acquire_read r w.client ≡ true
read-acquire h f w r i g role k =
    and_from (is_none r.writer) (has_room (reads_in_row r w.client))
    (ap is_none k.writer ∙ read-can h w g role)
    (go (reads_in_row r w.client) (k.rows w i role refl) (k.reads w.client))
  where
    go : (o : Option ℕ) → is_some o ≡ true → unwrap_or o 0 ≡ read_count h w.object w.client
        → has_room o ≡ true
    go None t e = absurd cc
    go (Some n) t e =
        let lt : n < max_read_locks = subst (λ m. m < max_read_locks) (sym e)
        (read-room h f w i role) in
        lt-ltb n max_read_locks lt

-- a writer that may be granted the lock finds that nobody holds it
pub write-acquire : (h : History) → Follows h → (w : WaitingCall) (r : RwlockState)
    → is_grantable h w ≡ true → w.role ≡ ForWrite → IsRwlock h w.object r → nobody_holds r ≡ true
write-acquire h f w r g role k =
    let can = write-can h w g role in
    nobody-holds h f w.object r k.writer k.reads can.0 can.1
