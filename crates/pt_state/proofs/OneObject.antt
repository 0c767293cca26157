-- OneObject: what is stored of one object, and of all objects if one of them changes.
use Rattle.std.proofs.Common.{◌≡◌, ℕ, Bool, true, false, cond, ◌==◌, Option, Some, None, is_some}
use Rattle.std.proofs.Common.{option_map, refl, sym, ap, ◌∙◌, subst, arith}
use Rattle.std.proofs.lemmas.Bool.Decides.{nat_tests}
use Rattle.pt_types.specs.MutexTable.{is_some_number}
use Rattle.pt_types.specs.declared.views.MutexView.{MutexView}
use Rattle.pt_types.specs.declared.call.MutexKind.{MutexKind}
use Rattle.pt_types.specs.declared.call.ObjectKind.TheVariants as kind
use Rattle.pt_mutex.specs.MutexState.{MutexState}
use Rattle.pt_rwlock.specs.RwlockState.{RwlockState, reads_in_row}
use Rattle.pt_model.specs.Histories.{History}
use Rattle.pt_model.specs.Objects.{kind_of}
use Rattle.pt_model.specs.declared.waiting_call.WaitingCall.{WaitingCall}
use Rattle.pt_model.specs.declared.waiting_call.Role.TheVariants.{ForRead}
use Rattle.pt_model.specs.Searches.{In}
use Rattle.pt_model.specs.Answers.{open_calls}
use Rattle.pt_model.specs.Mutexes.{consistency, owner, mutex_count, mutex_count_if, mutex_view}
use Rattle.pt_model.specs.Rwlocks.{write_holder, read_count}
use Rattle.pt_records.specs.declared.objects.Object.{Object}
use Rattle.pt_records.specs.declared.objects.Object.TheVariants.{Mutex, Rwlock}
use Rattle.pt_records.specs.Objects.{IsMutex, IsRwlock, kind_in_row, ObjectsLook}

-- a number that is known to be this one
pub number-is : (o : Option ℕ) (c : ℕ) → is_some_number o c ≡ true → o ≡ Some c
number-is None c e = absurd cc
number-is (Some d) c e = let same : d ≡ c = grind (arith, nat_tests) in ap Some same

-- each client that waits for a read lock at this lock has a row there
abbrev pub HasRows : History → ℕ → RwlockState → Type 0
HasRows h o r =
    (w : WaitingCall) → In w (open_calls h) → w.role ≡ ForRead → w.object ≡ o
    → is_some (reads_in_row r w.client) ≡ true

-- whoever waits for a read lock did so before
abbrev pub OldReaders : (h g : History) → Type 0
OldReaders h g = (w : WaitingCall) → In w (open_calls g) → w.role ≡ ForRead → In w (open_calls h)

-- nothing that is read off this object has changed
pub record Quiet (h g : History) (o : ℕ) : Type 0 where
  pub kind : kind_of g o ≡ kind_of h o
  pub view : mutex_view g o ≡ mutex_view h o
  pub writer : write_holder g o ≡ write_holder h o
  pub reads : (c : ℕ) → read_count g o c ≡ read_count h o c

-- the view of a mutex is as before if its parts are as before
pub view-same : (h g : History) (m : ℕ) → kind_of g m ≡ kind_of h m
    → consistency g m ≡ consistency h m → owner g m ≡ owner h m
    → ((c : ℕ) → mutex_count g m c ≡ mutex_count h m c) → mutex_view g m ≡ mutex_view h m
view-same h g m k d o n = rw (k, d, o, counted (owner h m)) refl
  where
    counted : (c : Option ℕ) → mutex_count_if g m c ≡ mutex_count_if h m c
    counted None = refl
    counted (Some c) = n c

-- if each client that waited to read had a row, so has each that still waits
pub rows-old : (h g : History) (o : ℕ) (r : RwlockState) → OldReaders h g → HasRows h o r
    → HasRows g o r
rows-old h g o r old rows = λ w i e a. rows w (old w i e) e a

module _ {A : Type 0} where
  -- what is found of one object is what is read off the history
  pub record IsKept (h : History) (o : ℕ) (x : Option (Object A)) : Type 0 where
    pub kind : option_map kind_in_row x ≡ kind_of h o
    pub mutex : (m : MutexState) → x ≡ Some (Mutex m) → IsMutex h o m
    pub rwlock : (r : RwlockState) → x ≡ Some (Rwlock r) → IsRwlock h o r

  pub kept-at : (h : History) (look : ℕ → Option (Object A)) → ObjectsLook h look → (o : ℕ)
      → IsKept h o (look o)
  kept-at h look t o =
      record { kind = t.kinds o; mutex = t.mutexes o; rwlock = t.rwlocks o }

  pub object_rows-each : (h : History) (look : ℕ → Option (Object A))
      → ((o : ℕ) → IsKept h o (look o))
      → ObjectsLook h look
  object_rows-each h look each =
      record {
        kinds = λ o. (each o).kind;
        mutexes = λ o. (each o).mutex;
        rwlocks = λ o. (each o).rwlock;
      }

  -- an object of which nothing changed is stored as it was
  pub kept-quiet : (h g : History) (o : ℕ) (x : Option (Object A)) → Quiet h g o
      → ((r : RwlockState) → x ≡ Some (Rwlock r) → HasRows h o r → HasRows g o r) → IsKept h o x
      → IsKept g o x
  kept-quiet h g o x q rows k =
      record {
        kind = k.kind ∙ sym q.kind;
        mutex = λ m e. let old = k.mutex m e in (old.0 ∙ sym q.view, old.1);
        rwlock = λ r e. let old = k.rwlock r e in
            record {
              writer = old.writer ∙ sym q.writer;
              reads = λ c. old.reads c ∙ sym (q.reads c);
              rows = rows r e old.rows;
            };
      }

  -- a look-up stays right if nothing has changed except who waits to read
  pub object_rows-still : (h g : History) (look : ℕ → Option (Object A)) → ObjectsLook h look
      → ((o : ℕ) → Quiet h g o)
      → ((o : ℕ) (r : RwlockState) → look o ≡ Some (Rwlock r) → HasRows h o r → HasRows g o r)
      → ObjectsLook g look
  object_rows-still h g look t quiet rows =
      object_rows-each g look
      (λ o. kept-quiet h g o (look o) (quiet o) (rows o) (kept-at h look t o))

  -- and if nothing has changed at all
  pub object_rows-quiet : (h g : History) (look : ℕ → Option (Object A)) → ObjectsLook h look
      → ((o : ℕ) → Quiet h g o) → OldReaders h g → ObjectsLook g look
  object_rows-quiet h g look t quiet old =
      object_rows-still h g look t quiet (λ o r e rows. rows-old h g o r old rows)

  -- a look-up in which one object is written is right if nothing else has changed
  pub object_rows-one : (h g : History) (look look' : ℕ → Option (Object A)) (q : ℕ)
      (x : Option (Object A)) → ObjectsLook h look
      → ((o : ℕ) → look' o ≡ cond (q == o) x (look o))
      → ((o : ℕ) → (q == o) ≡ false → Quiet h g o) → OldReaders h g → IsKept g q x
      → ObjectsLook g look'
  object_rows-one h g look look' q x t change quiet old new =
      object_rows-each g look' (λ o. rw (change o) (go o (q == o) refl))
    where
      go : (o : ℕ) (b : Bool) → (q == o) ≡ b → IsKept g o (cond b x (look o))
      go o true e =
          let same : q ≡ o = grind (arith, nat_tests) in
          subst (λ k. IsKept g k x) same new
      go o false e =
          kept-quiet h g o (look o) (quiet o e) (λ r k rows. rows-old h g o r old rows)
          (kept-at h look t o)

  -- a stored mutex is right if it is stored as it is seen
  pub kept-mutex : (g : History) (m : ℕ) (y : MutexState) (k : MutexKind) (robust : Bool)
      → kind_of g m ≡ Some (kind.Mutex k robust) → y.view ≡ mutex_view g m → y.bound_waits ≡ 0
      → IsKept g m (Some (Mutex y))
  kept-mutex g m y k robust e s b =
      record {
        kind = ap (λ (v : MutexView). Some (kind.Mutex v.kind v.robust)) s ∙ rw e refl;
        mutex = λ z f. let same : y ≡ z = cc in (rw (← same) s, rw (← same) b);
        rwlock = λ r f. absurd cc;
      }

  -- a mutex whose view has changed, but not its kind
  pub mutex-changed : (h g : History) (look : ℕ → Option (Object A)) → ObjectsLook h look
      → (m : ℕ) (x : MutexState) → look m ≡ Some (Mutex x) → kind_of g m ≡ kind_of h m
      → (change : MutexView → MutexView) → mutex_view g m ≡ change (mutex_view h m)
      → IsKept g m (Some (Mutex (record x { view = change x.view })))
  mutex-changed h g look t m x e k change v =
      let old = t.mutexes m x e in
      kept-mutex g m (record x { view = change x.view }) x.view.kind x.view.robust
      (k ∙ (sym (t.kinds m) ∙ ap (option_map kind_in_row) e)) (ap change old.0 ∙ sym v) old.1

  -- a stored read-write lock is right if it is stored as it is read off the history
  pub kept-rwlock : (g : History) (o : ℕ) (r : RwlockState) → kind_of g o ≡ Some kind.Rwlock
      → IsRwlock g o r → IsKept g o (Some (Rwlock r))
  kept-rwlock g o r e k =
      record {
        kind = sym e;
        mutex = λ m f. absurd cc;
        rwlock = λ z f. let same : r ≡ z = cc in subst (λ y. IsRwlock g o y) same k;
      }

  -- the same for an object that was a read-write lock before
  pub rwlock-changed : (h g : History) (look : ℕ → Option (Object A)) → ObjectsLook h look
      → (o : ℕ) (r r' : RwlockState) → look o ≡ Some (Rwlock r) → kind_of g o ≡ kind_of h o
      → IsRwlock g o r' → IsKept g o (Some (Rwlock r'))
  rwlock-changed h g look t o r r' e k new =
      kept-rwlock g o r' (k ∙ (sym (t.kinds o) ∙ ap (option_map kind_in_row) e)) new
