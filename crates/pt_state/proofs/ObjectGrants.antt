-- ObjectGrants: what is stored of all objects, after a Grant.
use Rattle.std.proofs.Common.{◌≡◌, ℕ, suc, ◌+◌, Bool, true, false, cond, ◌&&◌, ◌==◌, nat_lt, Option}
use Rattle.std.proofs.Common.{Some, None, is_none, refl, sym, ap, ◌∙◌, arith}
use Rattle.std.proofs.lemmas.Bool.Decides.{nat_tests}
use Rattle.pt_types.specs.MutexTable.{is_some_number, is_acquired}
use Rattle.pt_mutex.specs.MutexState.{MutexState, mutex_after_acquire}
use Rattle.pt_rwlock.specs.RwlockState.{RwlockState, reads_of, with_reads, ChangesRow}
use Rattle.pt_model.specs.declared.entry.Entry.TheVariants.{Grant}
use Rattle.pt_model.specs.Histories.{History, ◌▷◌}
use Rattle.pt_model.specs.Objects.{kind_of}
use Rattle.pt_model.specs.declared.waiting_call.WaitingCall.{WaitingCall}
use Rattle.pt_model.specs.declared.waiting_call.Role.{Role}
use Rattle.pt_model.specs.declared.waiting_call.Role.TheVariants.{ForMutex, ForRead, ForWrite}
use Rattle.pt_model.specs.declared.waiting_call.Role.TheVariants.{ForBarrier, ForCond}
use Rattle.pt_model.specs.Searches.{In}
use Rattle.pt_model.specs.WaitingCall.{final_mutex}
use Rattle.pt_model.specs.Answers.{open_calls}
use Rattle.pt_model.specs.Mutexes.{consistency, owner, mutex_count, mutex_count_if, mutex_view}
use Rattle.pt_model.specs.Rwlocks.{is_reader_here, is_writer_here, is_writer, read_count}
use Rattle.pt_model.specs.Grants.{is_grantable, grant_outcome}
use Rattle.pt_model.specs.Steps.{Step, Follows}
use Rattle.pt_model.proofs.Found.{one_open}
use Rattle.pt_model.proofs.Services.{granted}
use Rattle.pt_model.proofs.NotOwned.{and_false, none_has, owner-has}
use Rattle.pt_model.proofs.Counts.{mutex_count-grant}
use Rattle.pt_model.proofs.Owners.{grants-owner, one_owner}
use Rattle.pt_model.proofs.Holders.{owner-grant}
use Rattle.pt_model.proofs.Rwlocks.{is_writer-grant, read_count-grant, is_writer-write_holder}
use Rattle.pt_records.specs.declared.objects.Object.{Object}
use Rattle.pt_records.specs.declared.objects.Object.TheVariants.{Mutex, Rwlock}
use Rattle.pt_records.specs.Objects.{IsRwlock, ObjectsLook}
use Rattle.pt_state.proofs.OneObject.{OldReaders, Quiet, object_rows-quiet, object_rows-one}
use Rattle.pt_state.proofs.OneObject.{mutex-changed, rwlock-changed}
use Rattle.pt_state.proofs.ObjectEntries.{write_holder-same, quiet-parts, old-readers}
use Rattle.pt_state.proofs.ObjectCalls.{read_count-changed, rows-changed}
use Rattle.pt_state.proofs.ObjectChanges.{view-parts}

-- the history after the Grant of a call
abbrev pub after_grant : History → WaitingCall → History
after_grant h w = h ▷ Grant w.place (grant_outcome h w)

-- a call that is granted may be granted
pub granted-may : (h : History) (w : WaitingCall) → Follows h → In w (open_calls h)
    → Step h (Grant w.place (grant_outcome h w)) → is_grantable h w ≡ true
granted-may h w f i s =
    let g = granted h w.place (grant_outcome h w) f s in
    ap (is_grantable h) (sym (one_open h f g.call w g.is_waiting i g.came)) ∙ g.grantable

both_false : (a b k : Bool) → (a && b) ≡ false → (a && (b && k)) ≡ false
both_false true true k e = absurd cc
both_false true false k e = refl
both_false false b k e = refl

-- a call for a mutex takes no read-write lock
mutex-only : (role : Role) (o m : ℕ) → final_mutex role o ≡ Some m → (b : Bool)
    → (is_reader_here role b ≡ false) × (is_writer_here role b ≡ false)
mutex-only ForMutex o m e b = (refl, refl)
mutex-only (ForCond k) o m e b = (refl, refl)
mutex-only ForRead o m e b = absurd cc
mutex-only ForWrite o m e b = absurd cc
mutex-only ForBarrier o m e b = absurd cc

module _ (h : History) (w : WaitingCall) (f : Follows h) (i : In w (open_calls h))
    (s : Step h (Grant w.place (grant_outcome h w))) where
  -- a Grant that takes nothing of an object changes nothing of it
  quiet_grant : (o : ℕ)
      → (is_acquired (grant_outcome h w) && is_some_number (final_mutex w.role w.object) o) ≡ false
      → ((b : Bool) → is_reader_here w.role ((w.object == o) && b) ≡ false)
      → ((b : Bool) → is_writer_here w.role ((w.object == o) && b) ≡ false)
      → Quiet h (after_grant h w) o
  quiet_grant o m r v =
      quiet-parts h (Grant w.place (grant_outcome h w)) o f refl refl
      (λ d. mutex_count-grant h w (grant_outcome h w) o d f i
      ∙ rw (both_false (is_acquired (grant_outcome h w))
      (is_some_number (final_mutex w.role w.object) o) (w.client == d) m) refl)
      (λ d. is_writer-grant h w (grant_outcome h w) o d f i ∙ rw (v (w.client == d)) refl)
      (λ d. read_count-grant h w (grant_outcome h w) o d f i ∙ rw (r (w.client == d)) refl)

  readers_grant : OldReaders h (after_grant h w)
  readers_grant = old-readers h (Grant w.place (grant_outcome h w)) f s (λ v j role. j)

  -- a client that has locks on a mutex when it is granted is the one that it is granted to
  had_before : (m : ℕ) → final_mutex w.role w.object ≡ Some m
      → is_acquired (grant_outcome h w) ≡ true
      → mutex_count_if h m (owner h m) ≡ mutex_count h m w.client
  had_before m e x = go (owner h m) refl
    where
      go : (o : Option ℕ) → owner h m ≡ o → mutex_count_if h m o ≡ mutex_count h m w.client
      go None k =
          let none : nat_lt 0 (mutex_count h m w.client) ≡ false =
          none_has h f m (ap is_none k) w.client in
          grind (arith, nat_tests)
      go (Some d) k =
          let same : d ≡ w.client =
          grants-owner h w m f (granted-may h w f i s) e x (one_owner h f m) d
          (owner-has h m d k) in
          ap (mutex_count h m) same

  -- a mutex that is granted, and that its call acquires
  granted_view : (m : ℕ) → final_mutex w.role w.object ≡ Some m
      → is_acquired (grant_outcome h w) ≡ true
      → mutex_view (after_grant h w) m ≡ mutex_after_acquire (mutex_view h m) w.client
  granted_view m e x =
      let here : (m == m) ≡ true = grind (arith, nat_tests) in
      let same : (w.client == w.client) ≡ true = grind (arith, nat_tests) in
      let more : mutex_count (after_grant h w) m w.client ≡ suc (mutex_count h m w.client) =
      mutex_count-grant h w (grant_outcome h w) m w.client f i ∙ rw (x, e, here, same) refl in
      view-parts (after_grant h w) m (kind_of h m) (consistency h m) (Some w.client)
      (mutex_count h m w.client + 1) refl refl
      (owner-grant h w f i s m ∙ rw (x, e, here) refl) (omega (arith, more))
      ∙ rw (had_before m e x) refl

  -- a lock that is granted for reading
  granted_read : (r r' : RwlockState) → IsRwlock h w.object r → w.role ≡ ForRead
      → r'.writer ≡ r.writer → ChangesRow r r' w.client (Some (reads_of r w.client + 1))
      → IsRwlock (after_grant h w) w.object r'
  granted_read r r' old role same row =
      let here : (w.object == w.object) ≡ true = grind (arith, nat_tests) in
      record {
        writer = same ∙ (old.writer ∙ sym (write_holder-same h (Grant w.place (grant_outcome h w))
            w.object f (λ d. is_writer-grant h w (grant_outcome h w) w.object d f i
            ∙ rw role refl)));
        reads = λ d. read_count-changed r r' w.client (reads_of r w.client + 1) row d
            ∙ sym (read_count-grant h w (grant_outcome h w) w.object d f i
            ∙ rw (role, here) (more d (w.client == d) refl));
        rows = λ v j k at. rows-changed r r' w.client (reads_of r w.client + 1) row v.client
            (old.rows v (readers_grant v j k) k at);
      }
    where
      more : (d : ℕ) (b : Bool) → (w.client == d) ≡ b
          → cond b (suc (read_count h w.object d)) (read_count h w.object d)
          ≡ cond b (reads_of r w.client + 1) (reads_of r d)
      more d true e =
          let is : w.client ≡ d = grind (arith, nat_tests) in
          let n : reads_of r w.client ≡ read_count h w.object d =
          ap (reads_of r) is ∙ old.reads d in
          omega (arith, n)
      more d false e = sym (old.reads d)

  -- a lock that is granted for writing
  granted_write : (r : RwlockState) → IsRwlock h w.object r → w.role ≡ ForWrite
      → IsRwlock (after_grant h w) w.object (record r { writer = Some w.client })
  granted_write r old role =
      let here : (w.object == w.object) ≡ true = grind (arith, nat_tests) in
      let same : (w.client == w.client) ≡ true = grind (arith, nat_tests) in
      let wrote : is_writer (after_grant h w) w.object w.client ≡ true =
      is_writer-grant h w (grant_outcome h w) w.object w.client f i
      ∙ rw (role, here, same) refl in
      record {
        writer = sym (is_writer-write_holder (after_grant h w) (f, s) w.object w.client wrote);
        reads = λ d. old.reads d
            ∙ sym (read_count-grant h w (grant_outcome h w) w.object d f i ∙ rw role refl);
        rows = λ v j k at. old.rows v (readers_grant v j k) k at;
      }

module _ {A : Type 0} (h : History) (look : ℕ → Option (Object A)) (w : WaitingCall)
    (f : Follows h) (i : In w (open_calls h)) (s : Step h (Grant w.place (grant_outcome h w)))
    (t : ObjectsLook h look) where
  -- a call that is granted a mutex acquires it
  pub object_rows-grant-mutex : (look' : ℕ → Option (Object A)) (m : ℕ) (x : MutexState)
      → final_mutex w.role w.object ≡ Some m → look m ≡ Some (Mutex x)
      → is_acquired (grant_outcome h w) ≡ true
      → ((o : ℕ) → look' o
      ≡ cond (m == o) (Some (Mutex (record x { view = mutex_after_acquire x.view w.client })))
      (look o))
      → ObjectsLook (after_grant h w) look'
  object_rows-grant-mutex look' m x e k replies change =
      object_rows-one h (after_grant h w) look look' m
      (Some (Mutex (record x { view = mutex_after_acquire x.view w.client }))) t change
      (λ o ne. quiet_grant h w f i s o
      (rw e (and_false (is_acquired (grant_outcome h w)) (m == o) ne))
      (λ b. (mutex-only w.role w.object m e ((w.object == o) && b)).0)
      (λ b. (mutex-only w.role w.object m e ((w.object == o) && b)).1))
      (readers_grant h w f i s)
      (mutex-changed h (after_grant h w) look t m x k refl (λ v. mutex_after_acquire v w.client)
      (granted_view h w f i s m e replies))

  -- one that is answered that the mutex is lost changes nothing
  pub object_rows-grant-lost : (m : ℕ) → final_mutex w.role w.object ≡ Some m
      → is_acquired (grant_outcome h w) ≡ false → ObjectsLook (after_grant h w) look
  object_rows-grant-lost m e replies =
      object_rows-quiet h (after_grant h w) look t
      (λ o. quiet_grant h w f i s o (rw replies refl)
      (λ b. (mutex-only w.role w.object m e ((w.object == o) && b)).0)
      (λ b. (mutex-only w.role w.object m e ((w.object == o) && b)).1))
      (readers_grant h w f i s)

  -- a reader has one read lock more
  pub object_rows-grant-read : (look' : ℕ → Option (Object A)) (r r' : RwlockState)
      → w.role ≡ ForRead → look w.object ≡ Some (Rwlock r)
      → r' ≡ with_reads r w.client (reads_of r w.client + 1)
      → ChangesRow r r' w.client (Some (reads_of r w.client + 1))
      → ((o : ℕ) → look' o ≡ cond (w.object == o) (Some (Rwlock r')) (look o))
      → ObjectsLook (after_grant h w) look'
  object_rows-grant-read look' r r' role k made row change =
      object_rows-one h (after_grant h w) look look' w.object (Some (Rwlock r')) t change
      (λ o ne. quiet_grant h w f i s o
      (rw role refl) (λ b. rw (role, ne) refl) (λ b. rw role refl))
      (readers_grant h w f i s)
      (rwlock-changed h (after_grant h w) look t w.object r r' k refl
      (granted_read h w f i s r r' (t.rwlocks w.object r k) role
      (ap (λ (x : RwlockState). x.writer) made) row))

  -- a writer has the write lock
  pub object_rows-grant-write : (look' : ℕ → Option (Object A)) (r : RwlockState)
      → w.role ≡ ForWrite → look w.object ≡ Some (Rwlock r)
      → ((o : ℕ) → look' o
      ≡ cond (w.object == o) (Some (Rwlock (record r { writer = Some w.client }))) (look o))
      → ObjectsLook (after_grant h w) look'
  object_rows-grant-write look' r role k change =
      object_rows-one h (after_grant h w) look look' w.object
      (Some (Rwlock (record r { writer = Some w.client }))) t change
      (λ o ne. quiet_grant h w f i s o
      (rw role refl) (λ b. rw role refl) (λ b. rw (role, ne) refl))
      (readers_grant h w f i s)
      (rwlock-changed h (after_grant h w) look t w.object r
      (record r { writer = Some w.client }) k refl
      (granted_write h w f i s r (t.rwlocks w.object r k) role))
