-- ObjectEntries: what is stored of all objects, after each entry except calls and grants.
use Rattle.std.proofs.Common.{◌≡◌, ℕ, suc, true, cond, ◌⊎◌, inl, inr, ◌==◌, nat_lt, Option, Some}
use Rattle.std.proofs.Common.{None, refl, ap, ◌∙◌, arith}
use Rattle.std.proofs.lemmas.Bool.Decides.{nat_tests}
use Rattle.pt_types.specs.MutexTable.{after_yield}
use Rattle.pt_mutex.specs.MutexState.{MutexState, mutex_after_yield}
use Rattle.pt_types.specs.declared.time.Clock.{Clock}
use Rattle.pt_model.specs.declared.entry.Entry.{Entry}
use Rattle.pt_model.specs.declared.entry.Entry.TheVariants.{Join, Death, Moment, Trip, Yield}
use Rattle.pt_model.specs.declared.entry.Entry.TheVariants.{Expire}
use Rattle.pt_model.specs.Histories.{History, ◌▷◌, place}
use Rattle.pt_model.specs.Objects.{kind_of}
use Rattle.pt_model.specs.declared.waiting_call.WaitingCall.{WaitingCall}
use Rattle.pt_model.specs.declared.waiting_call.Role.TheVariants.{ForRead}
use Rattle.pt_model.specs.Searches.{In}
use Rattle.pt_model.specs.Answers.{open_calls}
use Rattle.pt_model.specs.Mutexes.{consistency, owner, mutex_count, mutex_view}
use Rattle.pt_model.specs.Rwlocks.{is_writer, write_holder, read_count}
use Rattle.pt_model.specs.Steps.{Step, Follows}
use Rattle.pt_model.proofs.Leasts.{first_below-same, first_below-more}
use Rattle.pt_model.proofs.Opens.{left, was_open}
use Rattle.pt_model.proofs.NotOwned.{Unheld-follows}
use Rattle.pt_model.proofs.Counts.{mutex_count-yield}
use Rattle.pt_model.proofs.Holders.{owner-same, owner-yield}
use Rattle.pt_records.specs.declared.objects.Object.{Object}
use Rattle.pt_records.specs.declared.objects.Object.TheVariants.{Mutex}
use Rattle.pt_records.specs.Objects.{ObjectsLook}
use Rattle.pt_state.proofs.OneObject.{OldReaders, Quiet, view-same, object_rows-quiet}
use Rattle.pt_state.proofs.OneObject.{object_rows-one, mutex-changed}

-- an entry that changes no client's write lock leaves it to its writer
pub write_holder-same : (h : History) (e : Entry) (r : ℕ) → Follows h
    → ((c : ℕ) → is_writer (h ▷ e) r c ≡ is_writer h r c) → write_holder (h ▷ e) r
    ≡ write_holder h r
write_holder-same h e r f same =
    first_below-same (suc (place h)) (λ c. is_writer (h ▷ e) r c) (λ c. is_writer h r c)
    (λ c lt. same c)
    ∙ first_below-more (place h) (λ c. is_writer h r c)
    ((Unheld-follows h f).writers r (place h) (omega arith))

-- an entry that changes neither the consistency nor a count leaves the view of a mutex unchanged
pub view-counts : (h : History) (e : Entry) (m : ℕ) → Follows h → kind_of (h ▷ e) m ≡ kind_of h m
    → consistency (h ▷ e) m ≡ consistency h m → ((c : ℕ) → mutex_count (h ▷ e) m c
    ≡ mutex_count h m c)
    → mutex_view (h ▷ e) m ≡ mutex_view h m
view-counts h e m f k d n =
    view-same h (h ▷ e) m k d (owner-same h e m f (λ c. ap (nat_lt 0) (n c))) n

-- an object is read as before if its kind, its consistency and all locks on it are as before
pub quiet-parts : (h : History) (e : Entry) (o : ℕ) → Follows h → kind_of (h ▷ e) o ≡ kind_of h o
    → consistency (h ▷ e) o ≡ consistency h o → ((c : ℕ) → mutex_count (h ▷ e) o c
    ≡ mutex_count h o c)
    → ((c : ℕ) → is_writer (h ▷ e) o c ≡ is_writer h o c)
    → ((c : ℕ) → read_count (h ▷ e) o c ≡ read_count h o c) → Quiet h (h ▷ e) o
quiet-parts h e o f k d n w r =
    record {
      kind = k;
      view = view-counts h e o f k d n;
      writer = write_holder-same h e o f w;
      reads = r;
    }

-- whoever waits for a read lock did so before, unless the entry leaves a reader waiting
pub old-readers : (h : History) (e : Entry) → Follows h → Step h e
    → ((w : WaitingCall) → In w (left h e) → w.role ≡ ForRead → ⊥) → OldReaders h (h ▷ e)
old-readers h e f s none = λ w i role. go w role (was_open h e f s w i)
  where
    go : (w : WaitingCall) → w.role ≡ ForRead → In w (open_calls h) ⊎ In w (left h e)
        → In w (open_calls h)
    go w role (inl i) = i
    go w role (inr i) = absurd (none w i role)

module _ {A : Type 0} where
  -- the same look-up is right after a Join
  pub object_rows-join : (h : History) (look : ℕ → Option (Object A)) (p : ℕ) → Follows h
      → Step h (Join (place h) p) → ObjectsLook h look → ObjectsLook (h ▷ Join (place h) p) look
  object_rows-join h look p f s t =
      object_rows-quiet h (h ▷ Join (place h) p) look t
      (λ o. quiet-parts h (Join (place h) p) o f refl refl (λ c. refl) (λ c. refl) (λ c. refl))
      (old-readers h (Join (place h) p) f s (λ w i e. i))

  -- and after a Death
  pub object_rows-death : (h : History) (look : ℕ → Option (Object A)) (c : ℕ) → Follows h
      → Step h (Death c) → ObjectsLook h look → ObjectsLook (h ▷ Death c) look
  object_rows-death h look c f s t =
      object_rows-quiet h (h ▷ Death c) look t
      (λ o. quiet-parts h (Death c) o f refl refl (λ d. refl) (λ d. refl) (λ d. refl))
      (old-readers h (Death c) f s (λ w i e. i))

  -- and after a Moment
  pub object_rows-moment : (h : History) (look : ℕ → Option (Object A)) (k : Clock) (n : ℕ)
      → Follows h → Step h (Moment k n) → ObjectsLook h look → ObjectsLook (h ▷ Moment k n) look
  object_rows-moment h look k n f s t =
      object_rows-quiet h (h ▷ Moment k n) look t
      (λ o. quiet-parts h (Moment k n) o f refl refl (λ c. refl) (λ c. refl) (λ c. refl))
      (old-readers h (Moment k n) f s (λ w i e. i))

  -- and after a Trip
  pub object_rows-trip : (h : History) (look : ℕ → Option (Object A)) (b : ℕ) → Follows h
      → Step h (Trip b) → ObjectsLook h look → ObjectsLook (h ▷ Trip b) look
  object_rows-trip h look b f s t =
      object_rows-quiet h (h ▷ Trip b) look t
      (λ o. quiet-parts h (Trip b) o f refl refl (λ c. refl) (λ c. refl) (λ c. refl))
      (old-readers h (Trip b) f s (λ w i e. i))

  -- and after an Expire
  pub object_rows-expire : (h : History) (look : ℕ → Option (Object A)) (j : ℕ) → Follows h
      → Step h (Expire j) → ObjectsLook h look → ObjectsLook (h ▷ Expire j) look
  object_rows-expire h look j f s t =
      object_rows-quiet h (h ▷ Expire j) look t
      (λ o. quiet-parts h (Expire j) o f refl refl (λ c. refl) (λ c. refl) (λ c. refl))
      (old-readers h (Expire j) f s (λ w i e. i))

-- the view of a mutex after its Yield
mutex_after_yield-view : (h : History) (m : ℕ) → Follows h
    → mutex_view (h ▷ Yield m) m ≡ mutex_after_yield (mutex_view h m)
mutex_after_yield-view h m f =
    let here : (m == m) ≡ true = grind (arith, nat_tests) in
    let none : owner (h ▷ Yield m) m ≡ None = owner-yield h m m f ∙ rw here refl in
    let lost : consistency (h ▷ Yield m) m ≡ after_yield (consistency h m) = rw here refl in
    rw (none, lost) refl

module _ {A : Type 0} where
  -- a Yield takes its mutex from the owner
  pub object_rows-yield : (h : History) (look look' : ℕ → Option (Object A)) (m : ℕ)
      (x : MutexState)
      → Follows h → Step h (Yield m) → ObjectsLook h look → look m ≡ Some (Mutex x)
      → ((o : ℕ) → look' o
      ≡ cond (m == o) (Some (Mutex (record x { view = mutex_after_yield x.view }))) (look o))
      → ObjectsLook (h ▷ Yield m) look'
  object_rows-yield h look look' m x f s t e change =
      object_rows-one h (h ▷ Yield m) look look' m
      (Some (Mutex (record x { view = mutex_after_yield x.view }))) t
      change (λ o ne. quiet-parts h (Yield m) o f refl (rw ne refl)
      (λ c. mutex_count-yield h m o c ∙ rw ne refl) (λ c. refl) (λ c. refl))
      (old-readers h (Yield m) f s (λ w i r. i))
      (mutex-changed h (h ▷ Yield m) look t m x e refl mutex_after_yield
      (mutex_after_yield-view h m f))
