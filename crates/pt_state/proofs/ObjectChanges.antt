-- ObjectChanges: what is stored of all objects, after a call that changes one of them.
use Rattle.std.proofs.Common.{◌≡◌, ℕ, suc, ◌+◌, ◌-◌, ◌<◌, Bool, true, false, cond, ◌==◌, nat_lt}
use Rattle.std.proofs.Common.{inl, inr, List, Option, Some, None, refl, sym, ap, ◌∙◌, subst, arith}
use Rattle.std.proofs.lemmas.Bool.Decides.{nat_tests}
use Rattle.std.proofs.lemmas.Bool.{ltb-true}
use Rattle.pt_types.specs.declared.call.Call.{Call as FunctionCall}
use Rattle.pt_types.specs.declared.call.ObjectKind.{ObjectKind}
use Rattle.pt_types.specs.declared.outcome.Consistency.{Consistency}
use Rattle.pt_types.specs.declared.operations.ObjectClass.{ObjectClass}
use Rattle.pt_types.specs.Tables.{reply}
use Rattle.pt_types.specs.MutexTable.{after_release, after_consistent}
use Rattle.pt_mutex.specs.MutexState.{MutexState, mutex_after_acquire, mutex_after_release}
use Rattle.pt_mutex.specs.MutexState.{mutex_after_consistent}
use Rattle.pt_model.specs.declared.entry.Entry.TheVariants.{Call}
use Rattle.pt_model.specs.Histories.{History, place}
use Rattle.pt_model.specs.Objects.{kind_of, mutex_kind, is_robust}
use Rattle.pt_model.specs.declared.waiting_call.WaitingCall.{WaitingCall}
use Rattle.pt_model.specs.declared.waiting_call.Role.TheVariants.{ForRead, ForCond}
use Rattle.pt_model.specs.Searches.{In}
use Rattle.pt_model.specs.Mutexes.{consistency, owner, mutex_count, mutex_count_if, mutex_view}
use Rattle.pt_model.specs.Verdicts.{verdict}
use Rattle.pt_model.specs.Steps.{Step, Follows}
use Rattle.pt_model.proofs.Effects.{Effect, Removes, Relocks, Frees, Mends, Waits, owning}
use Rattle.pt_model.proofs.Allowances.{allowed}
use Rattle.pt_model.proofs.Changes.{left_by, kind_effect, takes_more, awaited, gives_up, mends}
use Rattle.pt_model.proofs.Changes.{resolved}
use Rattle.pt_model.proofs.Readings.{kind-call, consistency-call}
use Rattle.pt_model.proofs.Counts.{Balanced-follows, owning-owner, owning-has, gives_up-owns}
use Rattle.pt_model.proofs.Counts.{not_both, mutex_count-call}
use Rattle.pt_model.proofs.Owners.{takes_owns}
use Rattle.pt_model.proofs.Holders.{owner-call}
use Rattle.pt_records.specs.declared.objects.Object.{Object}
use Rattle.pt_records.specs.declared.objects.Object.TheVariants.{Mutex}
use Rattle.pt_records.specs.Objects.{ObjectsLook}
use Rattle.pt_state.proofs.OneObject.{IsKept, object_rows-one, mutex-changed}
use Rattle.pt_state.proofs.ObjectCalls.{does, behind, Spares, quiet-call, call-readers}

-- the view of a mutex consists of its parts
pub view-parts : (g : History) (m : ℕ) (k : Option ObjectKind) (d : Consistency) (o : Option ℕ)
    (n : ℕ) → kind_of g m ≡ k → consistency g m ≡ d → owner g m ≡ o → mutex_count_if g m o ≡ n
    → mutex_view g m ≡ record {
      kind = mutex_kind k;
      robust = is_robust k;
      consistency = d;
      owner = o;
      count = n;
    }
view-parts g m k d o n ek ed eo en = rw (ek, ed, eo, en) refl

module _ (h : History) (c : ℕ) (call : FunctionCall) (f : Follows h)
    (s : Step h (Call c call (reply (verdict h c call)))) (m : ℕ) where
  -- a call that is no init and no destroy leaves the kinds unchanged
  kind_same : kind_effect (place h) (does h c call) (kind_of h m) m ≡ kind_of h m
      → kind_of (behind h c call) m ≡ kind_of h m
  kind_same e = kind-call h c call (reply (verdict h c call)) (kind_of h m) m ∙ e

  -- the view of a mutex after its owner locks it once more
  relocked : does h c call ≡ Relocks m
      → mutex_view (behind h c call) m ≡ mutex_after_acquire (mutex_view h m) c
  relocked e =
      let here : (m == m) ≡ true = grind (arith, nat_tests) in
      let same : (c == c) ≡ true = grind (arith, nat_tests) in
      let takes : takes_more (does h c call) m ≡ true = rw e here in
      let gives : gives_up (does h c call) m ≡ false = rw e refl in
      let own : owner h m ≡ Some c =
      owning-owner h m c (takes_owns h c (does h c call) m (allowed h c call) takes) in
      let more : mutex_count (behind h c call) m c ≡ suc (mutex_count h m c) =
      mutex_count-call h c call (reply (verdict h c call)) m c (resolved h c call)
      (Balanced-follows h f)
      ∙ rw (takes, same) refl in
      let owner' : owner (behind h c call) m ≡ Some c =
      owner-call h c call f s m ∙ rw gives own in
      let consistency' : consistency (behind h c call) m ≡ consistency h m =
      consistency-call h c call (reply (verdict h c call)) (resolved h c call) m (consistency h m)
      ∙ rw e refl in
      view-parts (behind h c call) m (kind_of h m) (consistency h m) (Some c)
      (mutex_count h m c + 1)
      (kind_same (rw e refl)) consistency' owner' (omega (arith, more))
      ∙ rw own refl

  -- the view of a mutex after its owner gives back a lock
  given_back : gives_up (does h c call) m ≡ true → mends (does h c call) m ≡ false
      → kind_effect (place h) (does h c call) (kind_of h m) m ≡ kind_of h m
      → mutex_view (behind h c call) m ≡ mutex_after_release (mutex_view h m)
  given_back gives unmended kinds = go (mutex_count h m c == 1) refl
    where
      own : owning h m c ≡ true
      own = gives_up-owns h c (does h c call) m (allowed h c call) gives

      by : owner h m ≡ Some c
      by = owning-owner h m c own

      some : 0 < mutex_count h m c
      some = ltb-true 0 (mutex_count h m c) (owning-has h m c own)

      less : mutex_count (behind h c call) m c ≡ mutex_count h m c - 1
      less =
          let same : (c == c) ≡ true = grind (arith, nat_tests) in
          mutex_count-call h c call (reply (verdict h c call)) m c (resolved h c call)
          (Balanced-follows h f)
          ∙ rw (not_both (does h c call) m gives, gives, same) refl

      go : (b : Bool) → (mutex_count h m c == 1) ≡ b
          → mutex_view (behind h c call) m ≡ mutex_after_release (mutex_view h m)
      go true e =
          let last : nat_lt 1 (mutex_count h m c) ≡ false = grind (arith, nat_tests) in
          view-parts (behind h c call) m (kind_of h m) (after_release (consistency h m)) None 0
          (kind_same kinds)
          (consistency-call h c call (reply (verdict h c call)) (resolved h c call) m
          (consistency h m)
          ∙ rw (unmended, gives, e) refl)
          (owner-call h c call f s m ∙ rw (gives, e) refl) refl
          ∙ sym (rw (by, last) refl)
      go false e =
          let more : nat_lt 1 (mutex_count h m c) ≡ true = grind (arith, nat_tests, some) in
          view-parts (behind h c call) m (kind_of h m) (consistency h m) (Some c)
          (mutex_count h m c - 1)
          (kind_same kinds)
          (consistency-call h c call (reply (verdict h c call)) (resolved h c call) m
          (consistency h m)
          ∙ rw (unmended, gives, e) refl)
          (owner-call h c call f s m ∙ rw (gives, e) by) less
          ∙ sym (rw (by, more) refl)

  -- the view of a mutex after its owner makes it consistent
  mended : does h c call ≡ Mends m
      → mutex_view (behind h c call) m ≡ mutex_after_consistent (mutex_view h m)
  mended e =
      let here : (m == m) ≡ true = grind (arith, nat_tests) in
      view-parts (behind h c call) m (kind_of h m) (after_consistent (consistency h m)) (owner h m)
      (mutex_count_if h m (owner h m)) (kind_same (rw e refl))
      (consistency-call h c call (reply (verdict h c call)) (resolved h c call) m (consistency h m)
      ∙ rw (e, here) refl)
      (owner-call h c call f s m ∙ rw e refl) (counted (owner h m))
    where
      counted : (o : Option ℕ) → mutex_count_if (behind h c call) m o ≡ mutex_count_if h m o
      counted None = refl
      counted (Some d) =
          mutex_count-call h c call (reply (verdict h c call)) m d (resolved h c call)
          (Balanced-follows h f) ∙ rw e refl

-- a wait that begins gives back a lock of its mutex, and is no reader
wait-gives : (w : WaitingCall) (m : ℕ) → w.role ≡ ForCond m → awaited w.role m ≡ true
wait-gives w m e = rw e (let here : (m == m) ≡ true = grind (arith, nat_tests) in here)

wait-unread : (w v : WaitingCall) (m : ℕ) → w.role ≡ ForCond m → In v (left_by (Waits w))
    → v.role ≡ ForRead → ⊥
wait-unread w v m e (inl i) r =
    let no : ForRead ≡ ForCond m = sym r ∙ (ap (λ (u : WaitingCall). u.role) i ∙ e) in absurd cc
wait-unread w v m e (inr i) r = i

module _ {A : Type 0} (h : History) (look look' : ℕ → Option (Object A)) (c : ℕ) (call : FunctionCall)
    (f : Follows h) (s : Step h (Call c call (reply (verdict h c call)))) (t : ObjectsLook h look)
  where
    -- a call that lets nobody wait for a read lock changes one object
    pub call-one : (E : Effect) (q : ℕ) (x : Option (Object A)) → does h c call ≡ E
        → ((o : ℕ) → look' o ≡ cond (q == o) x (look o))
        → ((o : ℕ) → (q == o) ≡ false → Spares h E o)
        → ((w : WaitingCall) → In w (left_by E) → w.role ≡ ForRead → ⊥)
        → IsKept (behind h c call) q x → ObjectsLook (behind h c call) look'
    call-one E q x e change spared unread new =
        object_rows-one h (behind h c call) look look' q x t change
        (λ o ne. quiet-call h c call f o
        (subst (λ (X : Effect). Spares h X o) (sym e) (spared o ne)))
        (call-readers h c call f s E e unread) new

    -- a destroy takes an object away
    pub object_rows-removes : (n : List ℕ) (class : ObjectClass) (q : ℕ)
        → does h c call ≡ Removes n class q
        → ((o : ℕ) → look' o ≡ cond (q == o) None (look o)) → ObjectsLook (behind h c call) look'
    object_rows-removes n class q e change =
        call-one (Removes n class q) q None e change
        (λ o ne. record {
          kinds = rw ne refl;
          takes = refl;
          gives = refl;
          mends = refl;
          returns = refl;
        })
        (λ w i r. i)
        record {
          kind = sym (kind-call h c call (reply (verdict h c call)) (kind_of h q) q ∙ gone);
          mutex = λ m k. absurd cc;
          rwlock = λ r k. absurd cc;
        }
      where
        gone : kind_effect (place h) (does h c call) (kind_of h q) q ≡ None
        gone = let here : (q == q) ≡ true = grind (arith, nat_tests) in rw (e, here) refl

    -- an owner locks its mutex once more
    pub object_rows-relocks : (m : ℕ) (x : MutexState) → does h c call ≡ Relocks m
        → look m ≡ Some (Mutex x)
        → ((o : ℕ) → look' o
        ≡ cond (m == o) (Some (Mutex (record x { view = mutex_after_acquire x.view c }))) (look o))
        → ObjectsLook (behind h c call) look'
    object_rows-relocks m x e k change =
        call-one (Relocks m) m (Some (Mutex
        (record x { view = mutex_after_acquire x.view c }))) e change
        (λ o ne. record { kinds = refl; takes = ne; gives = refl; mends = refl; returns = refl })
        (λ w i r. i)
        (mutex-changed h (behind h c call) look t m x k (kind_same h c call f s m (rw e refl))
        (λ v. mutex_after_acquire v c) (relocked h c call f s m e))

    -- an owner gives a lock back
    pub object_rows-frees : (m : ℕ) (x : MutexState) → does h c call ≡ Frees m
        → look m ≡ Some (Mutex x)
        → ((o : ℕ) → look' o
        ≡ cond (m == o) (Some (Mutex (record x { view = mutex_after_release x.view }))) (look o))
        → ObjectsLook (behind h c call) look'
    object_rows-frees m x e k change =
        let here : (m == m) ≡ true = grind (arith, nat_tests) in
        call-one (Frees m) m (Some (Mutex
        (record x { view = mutex_after_release x.view }))) e change
        (λ o ne. record { kinds = refl; takes = refl; gives = ne; mends = refl; returns = refl })
        (λ w i r. i)
        (mutex-changed h (behind h c call) look t m x k (kind_same h c call f s m (rw e refl))
        mutex_after_release (given_back h c call f s m (rw e here) (rw e refl) (rw e refl)))

    -- and so does one that begins to wait
    pub object_rows-awaits : (w : WaitingCall) (m : ℕ) (x : MutexState) → does h c call ≡ Waits w
        → w.role ≡ ForCond m → look m ≡ Some (Mutex x)
        → ((o : ℕ) → look' o
        ≡ cond (m == o) (Some (Mutex (record x { view = mutex_after_release x.view }))) (look o))
        → ObjectsLook (behind h c call) look'
    object_rows-awaits w m x e role k change =
        call-one (Waits w) m (Some (Mutex
        (record x { view = mutex_after_release x.view }))) e change
        (λ o ne. record {
          kinds = refl;
          takes = refl;
          gives = rw role ne;
          mends = refl;
          returns = refl;
        })
        (λ v i r. wait-unread w v m role i r)
        (mutex-changed h (behind h c call) look t m x k (kind_same h c call f s m (rw e refl))
        mutex_after_release (given_back h c call f s m (rw e (wait-gives w m role)) (rw e refl)
        (rw e refl)))

    -- an owner makes its mutex consistent
    pub object_rows-mends : (m : ℕ) (x : MutexState) → does h c call ≡ Mends m
        → look m ≡ Some (Mutex x)
        → ((o : ℕ) → look' o
        ≡ cond (m == o) (Some (Mutex (record x { view = mutex_after_consistent x.view }))) (look o))
        → ObjectsLook (behind h c call) look'
    object_rows-mends m x e k change =
        call-one (Mends m) m (Some (Mutex
        (record x { view = mutex_after_consistent x.view }))) e change
        (λ o ne. record { kinds = refl; takes = refl; gives = refl; mends = ne; returns = refl })
        (λ w i r. i)
        (mutex-changed h (behind h c call) look t m x k (kind_same h c call f s m (rw e refl))
        mutex_after_consistent (mended h c call f s m e))
