-- ObjectLocks: what is stored of all objects, after a call that makes an object or gives back a
-- lock.
use Rattle.std.proofs.Common.{◌≡◌, ℕ, suc, ◌-◌, ◌<◌, Bool, true, false, cond, ◌==◌, List, Option}
use Rattle.std.proofs.Common.{Some, None, refl, sym, ap, ◌∙◌, subst, arith}
use Rattle.std.proofs.lemmas.Bool.Decides.{nat_tests}
use Rattle.pt_types.specs.declared.call.Call.{Call as FunctionCall}
use Rattle.pt_types.specs.declared.call.MutexKind.{MutexKind}
use Rattle.pt_types.specs.declared.call.ObjectKind.{ObjectKind}
use Rattle.pt_types.specs.declared.call.ObjectKind.TheVariants as kind
use Rattle.pt_types.specs.declared.outcome.Consistency.TheVariants.{Consistent}
use Rattle.pt_types.specs.Tables.{reply}
use Rattle.pt_types.specs.MutexTable.{is_some_number}
use Rattle.pt_mutex.specs.MutexState.{MutexState, new_mutex}
use Rattle.pt_rwlock.specs.RwlockState.{RwlockState, reads_of, rwlock_after_release, ChangesRow}
use Rattle.pt_rwlock.specs.RwlockState.{new_rwlock}
use Rattle.pt_model.specs.declared.entry.Entry.TheVariants.{Call}
use Rattle.pt_model.specs.Histories.{History, place}
use Rattle.pt_model.specs.Objects.{kind_of}
use Rattle.pt_model.specs.declared.waiting_call.WaitingCall.{WaitingCall}
use Rattle.pt_model.specs.declared.waiting_call.Role.{Role}
use Rattle.pt_model.specs.declared.waiting_call.Role.TheVariants.{ForRead}
use Rattle.pt_model.specs.Searches.{In}
use Rattle.pt_model.specs.Answers.{open_calls}
use Rattle.pt_model.specs.Moves.{wait_move}
use Rattle.pt_model.specs.Mutexes.{consistency, mutex_view}
use Rattle.pt_model.specs.Rwlocks.{reads_after_unlock, is_writer, read_count}
use Rattle.pt_model.specs.Verdicts.{verdict}
use Rattle.pt_model.specs.Steps.{Step, Follows}
use Rattle.pt_model.proofs.Leasts.{first_below-passes, first_below-nowhere}
use Rattle.pt_model.proofs.Effects.{Creates, Returns}
use Rattle.pt_model.proofs.Changes.{resolved}
use Rattle.pt_model.proofs.Readings.{kind-call, consistency-call, is_writer-call, reads-call}
use Rattle.pt_model.proofs.Disjoint.{owner-unmade}
use Rattle.pt_model.proofs.Seats.{HousedBy, housed}
use Rattle.pt_model.proofs.Rwlocks.{alone, is_writer-write_holder}
use Rattle.pt_model.proofs.Holders.{owner-call}
use Rattle.pt_records.specs.declared.objects.Object.{Object}
use Rattle.pt_records.specs.declared.objects.Object.TheVariants.{Mutex, Rwlock, Cond, Barrier}
use Rattle.pt_records.specs.Objects.{IsRwlock, IsNew, ObjectsLook}
use Rattle.pt_state.proofs.OneObject.{number-is, OldReaders, IsKept, kept-mutex, kept-rwlock}
use Rattle.pt_state.proofs.OneObject.{rwlock-changed}
use Rattle.pt_state.proofs.ObjectEntries.{write_holder-same}
use Rattle.pt_state.proofs.ObjectNotCreated.{unmade-all, write_holder-unmade, lock-below}
use Rattle.pt_state.proofs.ObjectCalls.{does, behind, call-readers, read_count-changed, rows-changed}
use Rattle.pt_state.proofs.ObjectChanges.{view-parts, call-one}

-- a call for a read lock waits at a lock that exists
reader-below : (h : History) → Follows h → (w : WaitingCall) → In w (open_calls h)
    → w.role ≡ ForRead → w.object < place h
reader-below h f w i e =
    let house : HousedBy h ForRead (wait_move h w.place) w.object =
    subst (λ (x : Role). HousedBy h x (wait_move h w.place) w.object) e (housed h f w i) in
    lock-below h f w.object house.0

module _ (h : History) (c : ℕ) (call : FunctionCall) (f : Follows h)
    (s : Step h (Call c call (reply (verdict h c call)))) (n : List ℕ) (k : ObjectKind)
    (e : does h c call ≡ Creates n k) where
  -- the object that is made is of its kind
  new_kind : kind_of (behind h c call) (place h) ≡ Some k
  new_kind =
      let here : (place h == place h) ≡ true = grind (arith, nat_tests) in
      kind-call h c call (reply (verdict h c call)) (kind_of h (place h)) (place h)
      ∙ rw (e, here) refl

  -- if it is a mutex, it is consistent, and nobody owns it
  new_view : (m : MutexKind) (robust : Bool) → k ≡ kind.Mutex m robust
      → mutex_view (behind h c call) (place h) ≡ (new_mutex m robust).view
  new_view m robust same =
      view-parts (behind h c call) (place h) (Some (kind.Mutex m robust)) Consistent None 0
      (new_kind ∙ ap Some same)
      (consistency-call h c call (reply (verdict h c call)) (resolved h c call) (place h)
      (consistency h (place h)) ∙ rw e ((unmade-all h f).consistencies (place h) (omega arith)))
      (owner-call h c call f s (place h) ∙ rw e (owner-unmade h f (place h) (omega arith)))
      refl

  -- if it is a read-write lock, nobody holds it or waits for it
  new_lock : IsRwlock (behind h c call) (place h) new_rwlock
  new_lock =
      record {
        writer = sym (write_holder-same h (Call c call (reply (verdict h c call))) (place h) f
            (λ d. is_writer-call h c call (reply (verdict h c call)) (place h) d
            (is_writer h (place h) d) ∙ rw e refl)
            ∙ write_holder-unmade h f (place h) (omega arith));
        reads = λ d. sym (reads-call h c call (reply (verdict h c call)) (place h) d
            (read_count h (place h) d) ∙ rw e ((unmade-all h f).readers (place h) d (omega arith)));
        rows = λ w i role at.
            let lt = reader-below h f w
            (call-readers h c call f s (Creates n k) e (λ v j r. j) w i role) role in
            absurd (omega (arith, lt, at));
      }

module _ {A : Type 0} (h : History) (look look' : ℕ → Option (Object A)) (c : ℕ) (call : FunctionCall)
    (f : Follows h) (s : Step h (Call c call (reply (verdict h c call)))) (t : ObjectsLook h look)
  where
    -- the object that is made is stored as a new one
    new_kept : (n : List ℕ) (k : ObjectKind) → does h c call ≡ Creates n k → (x : Object A)
        → IsNew x k → IsKept (behind h c call) (place h) (Some x)
    new_kept n (kind.Mutex m robust) e (Mutex x) new =
        kept-mutex (behind h c call) (place h) x m robust
        (new_kind h c call f s n (kind.Mutex m robust) e)
        (ap (λ (y : MutexState). y.view) new
        ∙ sym (new_view h c call f s n (kind.Mutex m robust) e m robust refl))
        (ap (λ (y : MutexState). y.bound_waits) new)
    new_kept n kind.Rwlock e (Rwlock x) new =
        kept-rwlock (behind h c call) (place h) x (new_kind h c call f s n kind.Rwlock e)
        (subst (λ r. IsRwlock (behind h c call) (place h) r) (sym new)
        (new_lock h c call f s n kind.Rwlock e))
    new_kept n kind.Cond e (Cond x) new =
        record {
          kind = sym (new_kind h c call f s n kind.Cond e);
          mutex = λ m k. absurd cc;
          rwlock = λ r k. absurd cc;
        }
    new_kept n (kind.Barrier count) e (Barrier x) new =
        record {
          kind = ap (λ y. Some (kind.Barrier y)) new
              ∙ sym (new_kind h c call f s n (kind.Barrier count) e);
          mutex = λ m k. absurd cc;
          rwlock = λ r k. absurd cc;
        }
    new_kept n (kind.Mutex m robust) e (Rwlock x) new = absurd new
    new_kept n (kind.Mutex m robust) e (Cond x) new = absurd new
    new_kept n (kind.Mutex m robust) e (Barrier x) new = absurd new
    new_kept n kind.Rwlock e (Mutex x) new = absurd new
    new_kept n kind.Rwlock e (Cond x) new = absurd new
    new_kept n kind.Rwlock e (Barrier x) new = absurd new
    new_kept n kind.Cond e (Mutex x) new = absurd new
    new_kept n kind.Cond e (Rwlock x) new = absurd new
    new_kept n kind.Cond e (Barrier x) new = absurd new
    new_kept n (kind.Barrier count) e (Mutex x) new = absurd new
    new_kept n (kind.Barrier count) e (Rwlock x) new = absurd new
    new_kept n (kind.Barrier count) e (Cond x) new = absurd new

    -- an init makes an object
    pub object_rows-creates : (n : List ℕ) (k : ObjectKind) (x : Object A)
        → does h c call ≡ Creates n k → IsNew x k
        → ((o : ℕ) → look' o ≡ cond (place h == o) (Some x) (look o))
        → ObjectsLook (behind h c call) look'
    object_rows-creates n k x e new change =
        call-one h look look' c call f s t (Creates n k) (place h) (Some x) e change
        (λ o ne. record {
          kinds = rw ne refl;
          takes = refl;
          gives = refl;
          mends = refl;
          returns = refl;
        })
        (λ w i r. i) (new_kept n k e x new)

-- a lock that its writer or a reader gives back
module _ (h : History) (c : ℕ) (call : FunctionCall) (f : Follows h)
    (s : Step h (Call c call (reply (verdict h c call)))) (o : ℕ)
    (e : does h c call ≡ Returns o) (r : RwlockState) (old : IsRwlock h o r) where
  writes_after : (d : ℕ) → is_writer (behind h c call) o d ≡ cond (c == d) false (is_writer h o d)
  writes_after d =
      let here : (o == o) ≡ true = grind (arith, nat_tests) in
      is_writer-call h c call (reply (verdict h c call)) o d (is_writer h o d) ∙ rw (e, here) refl

  reads_after : (d : ℕ) → read_count (behind h c call) o d
      ≡ cond (c == d) (reads_after_unlock (is_writer h o d) (read_count h o d)) (read_count h o d)
  reads_after d =
      let here : (o == o) ≡ true = grind (arith, nat_tests) in
      reads-call h c call (reply (verdict h c call)) o d (read_count h o d) ∙ rw (e, here) refl

  readers_old : OldReaders h (behind h c call)
  readers_old = call-readers h c call f s (Returns o) e (λ w i role. i)

  -- the writer no longer has the lock
  by_writer : is_some_number r.writer c ≡ true
      → IsRwlock (behind h c call) o (record r { writer = None })
  by_writer b =
      record {
        writer = sym (first_below-nowhere (suc (place h)) (λ d. is_writer (behind h c call) o d)
            (λ d lt. writes_after d ∙ unwritten d (c == d) refl));
        reads = λ d. old.reads d ∙ sym (reads_after d ∙ unread d (c == d) refl);
        rows = λ w i role at. old.rows w (readers_old w i role) role at;
      }
    where
      wrote : is_writer h o c ≡ true
      wrote =
          first_below-passes (place h) (λ d. is_writer h o d) c
          (sym old.writer ∙ number-is r.writer c b)

      unwritten : (d : ℕ) (x : Bool) → (c == d) ≡ x → cond x false (is_writer h o d) ≡ false
      unwritten d true ex = refl
      unwritten d false ex = go (is_writer h o d) refl
        where
          go : (y : Bool) → is_writer h o d ≡ y → y ≡ false
          go false ey = refl
          go true ey =
              let same : c ≡ d = (alone h f o c d wrote).0 ey in
              let no : (c == d) ≡ true = grind (arith, nat_tests) in
              sym no ∙ ex

      unread : (d : ℕ) (x : Bool) → (c == d) ≡ x
          → cond x (reads_after_unlock (is_writer h o d) (read_count h o d)) (read_count h o d)
          ≡ read_count h o d
      unread d true ex =
          let same : c ≡ d = grind (arith, nat_tests) in
          let w : is_writer h o d ≡ true = ap (is_writer h o) (sym same) ∙ wrote in rw w refl
      unread d false ex = refl

  -- a reader has one read lock less
  by_reader : (r' : RwlockState) → is_some_number r.writer c ≡ false → r'.writer ≡ r.writer
      → ChangesRow r r' c (Some (reads_of r c - 1)) → IsRwlock (behind h c call) o r'
  by_reader r' b same row =
      record {
        writer = same ∙ (old.writer ∙ sym (write_holder-same h (Call c call (reply
            (verdict h c call))) o
            f (λ d. writes_after d ∙ written d (c == d) refl)));
        reads = λ d. read_count-changed r r' c (reads_of r c - 1) row d
            ∙ sym (reads_after d ∙ less d (c == d) refl);
        rows = λ w i role at. rows-changed r r' c (reads_of r c - 1) row w.client
            (old.rows w (readers_old w i role) role at);
      }
    where
      unwritten : is_writer h o c ≡ false
      unwritten = go (is_writer h o c) refl
        where
          go : (y : Bool) → is_writer h o c ≡ y → y ≡ false
          go false ey = refl
          go true ey =
              let is : r.writer ≡ Some c = old.writer ∙ is_writer-write_holder h f o c ey in
              let yes : is_some_number r.writer c ≡ true =
              rw is (let t : (c == c) ≡ true = grind (arith, nat_tests) in t) in
              sym yes ∙ b

      written : (d : ℕ) (x : Bool) → (c == d) ≡ x → cond x false (is_writer h o d) ≡ is_writer h o d
      written d true ex =
          let is : c ≡ d = grind (arith, nat_tests) in sym (ap (is_writer h o) (sym is) ∙ unwritten)
      written d false ex = refl

      less : (d : ℕ) (x : Bool) → (c == d) ≡ x
          → cond x (reads_after_unlock (is_writer h o d) (read_count h o d)) (read_count h o d)
          ≡ cond x (reads_of r c - 1) (reads_of r d)
      less d true ex =
          let is : c ≡ d = grind (arith, nat_tests) in
          let w : is_writer h o d ≡ false = ap (is_writer h o) (sym is) ∙ unwritten in
          let n : read_count h o d ≡ reads_of r c = ap (read_count h o) (sym is)
          ∙ sym (old.reads c) in
          rw w (ap (λ k. k - 1) n)
      less d false ex = sym (old.reads d)

  given : (r' : RwlockState) → r' ≡ rwlock_after_release r c
      → (is_some_number r.writer c ≡ false → ChangesRow r r' c (Some (reads_of r c - 1)))
      → (b : Bool) → is_some_number r.writer c ≡ b → IsRwlock (behind h c call) o r'
  given r' made row true b =
      let is : r' ≡ record r { writer = None } = made ∙ rw b refl in
      subst (λ x. IsRwlock (behind h c call) o x) (sym is) (by_writer b)
  given r' made row false b =
      by_reader r' b (ap (λ (x : RwlockState). x.writer) made ∙ rw b refl) (row b)

module _ {A : Type 0} where
  -- a holder gives its lock back
  pub object_rows-returns : (h : History) (look look' : ℕ → Option (Object A)) (c : ℕ)
      (call : FunctionCall)
      → Follows h → Step h (Call c call (reply (verdict h c call))) → ObjectsLook h look → (o : ℕ)
      (r r' : RwlockState) → does h c call ≡ Returns o → look o ≡ Some (Rwlock r)
      → r' ≡ rwlock_after_release r c
      → (is_some_number r.writer c ≡ false → ChangesRow r r' c (Some (reads_of r c - 1)))
      → ((q : ℕ) → look' q ≡ cond (o == q) (Some (Rwlock r')) (look q))
      → ObjectsLook (behind h c call) look'
  object_rows-returns h look look' c call f s t o r r' e k made row change =
      call-one h look look' c call f s t (Returns o) o (Some (Rwlock r')) e change
      (λ q ne. record { kinds = refl; takes = refl; gives = refl; mends = refl; returns = ne })
      (λ w i role. i)
      (rwlock-changed h (behind h c call) look t o r r' k
      (kind-call h c call (reply (verdict h c call)) (kind_of h o) o ∙ rw e refl)
      (given h c call f s o e r (t.rwlocks o r k) r' made row (is_some_number r.writer c) refl))
