-- A mutex that is locked, given back or taken from a dead owner, with the chain that it is in.
use Rattle.std.proofs.Common.{◌≡◌, ◌∙◌, ℕ, Bool, true, false, ◌==◌, ◌&&◌, ◌||◌, ◌-◌, not, cond}
use Rattle.std.proofs.Common.{nat_eq, nat_lt, List, [], ◌∷◌, Option, Some, None, is_none, is_some}
use Rattle.std.proofs.Common.{option_map, refl, sym, ap, subst, true≢false, inl, inr, ◌⊎◌, IsSome}
use Rattle.std.proofs.Common.{IsTrue, arith}
use Rattle.std.specs.Option.{option_and_then}
use Rattle.std.proofs.lemmas.Bool.Decides.{eqb_tells, nat_tests}
use Rattle.pt_types.specs.MutexTable.{owns, is_some_number, is_recursive, after_release}
use Rattle.pt_types.specs.Limits.{max_locks}
use Rattle.pt_types.specs.declared.views.MutexView.{MutexView}
use Rattle.pt_mutex.specs.MutexState.{MutexState, mutex_after_acquire, can_acquire}
use Rattle.pt_mutex.specs.MutexState.{mutex_after_release, mutex_without_owner, mutex_after_yield}
use Rattle.pt_table.specs.declared.clients.ClientRow.{ClientRow}
use Rattle.pt_table.specs.ClientRows.{client_at, client_value, has_client}
use Rattle.pt_table.specs.declared.objects.ObjectRow.{ObjectRow}
use Rattle.pt_table.specs.ObjectRows.{object_value}
use Rattle.pt_table.specs.Linked.{rows_without_links, but_number, HasChain, IsInChain, IsRowChain}
use Rattle.pt_table.specs.Linked.{IsOneOf}
use Rattle.pt_model.specs.Found.{is_some_and}
use Rattle.pt_records.specs.declared.clients.Caller.{Caller}
use Rattle.pt_records.specs.declared.objects.Object.{Object}
use Rattle.pt_records.specs.declared.objects.Object.TheVariants.{Mutex, Rwlock, Cond, Barrier}
use Rattle.pt_records.specs.Chained.{is_gone, is_robust_free, is_locked_once, robust_owner}
use Rattle.pt_records.specs.Chained.{robust_owner_at, KeepsChains, HasOwned, AreChained}
use Rattle.pt_records.specs.Chained.{EntersChain, UnlinksFromChain, rows_without_owned}
use Rattle.pt_records.specs.Callers.{HasDistinctNumbers}
use Rattle.pt_records.specs.LocksInRows.{mutex_in}
use Rattle.pt_records.specs.Moved.{Moves, IsMoved}
use Rattle.pt_records.specs.Writes.{WritesObject}
use Rattle.pt_records.proofs.ChainsKept.{chain-stays}
use Rattle.pt_records.proofs.Chaining.{passed, chained-written}
use Rattle.pt_records.proofs.Owning.{Owned, chained-entered, chained-left, chained-yielded}

-- the owner before and after
free-owner : (robust : Bool) (owner : Option ℕ) → (robust && is_none owner) ≡ true
    → cond robust owner None ≡ None
free-owner true None e = refl
free-owner true (Some c) e = cc
free-owner false owner e = refl

-- a client that locks a robust mutex that is not free owns it already
pub again-owner : (robust : Bool) (owner : Option ℕ) (c : ℕ) (b : Bool)
    → (robust && is_none owner) ≡ false → IsTrue (is_none owner || (is_some_number owner c && b))
    → cond robust (Some c) None ≡ cond robust owner None
again-owner true None c b e can = cc
again-owner true (Some d) c b e can = go (eqb_tells d c) can
  where
    go : ((nat_eq d c ≡ true) × (d ≡ c)) ⊎ ((nat_eq d c ≡ false) × (d ≡ c → ⊥))
        → IsTrue (nat_eq d c && b) → Some c ≡ Some d
    go (inl s) can = ap Some (sym s.1)
    go (inr s) can = absurd (true≢false (sym can ∙ ap (λ t. t && b) s.0))
again-owner false owner c b e can = refl

-- a client that gives one of several locks back still owns the mutex
abbrev given_back : MutexView → Bool → MutexView
given_back s several =
    cond several (record s { count = s.count - 1 }) (mutex_without_owner s
    (after_release s.consistency))

still-owner : (s : MutexView) (b : Bool) → (s.robust && not b) ≡ false
    → cond (given_back s b).robust (given_back s b).owner None ≡ cond s.robust s.owner None
still-owner s true e = refl
still-owner s false e = go s.robust e
  where
    go : (k : Bool) → (k && not false) ≡ false → cond k None None ≡ cond k s.owner None
    go true e = cc
    go false e = refl

no-owner : (k : Bool) → ◌≡◌ {A = Option ℕ} (cond k None None) None
no-owner true = refl
no-owner false = refl

-- a client that gives the last lock back no longer owns the mutex
last-owner : (s : MutexView) (b : Bool) → (s.robust && not b) ≡ true
    → cond (given_back s b).robust (given_back s b).owner None ≡ None
last-owner s true e = go s.robust e
  where
    go : (k : Bool) → (k && not true) ≡ true → cond k s.owner None ≡ None
    go true e = cc
    go false e = cc
last-owner s false e = no-owner s.robust

once-owner : (robust : Bool) (owner : Option ℕ) (c : ℕ) (b : Bool) → (robust && b) ≡ true
    → is_some_number owner c ≡ true → cond robust owner None ≡ Some c
once-owner true None c b e own = cc
once-owner true (Some d) c b e own =
    let same : d ≡ c = grind (arith, nat_tests) in
    ap Some same
once-owner false owner c b e own = cc

-- a free robust mutex that is locked is owned by the client
new-owner : (robust : Bool) (owner : Option ℕ) (c : ℕ) → (robust && is_none owner) ≡ true
    → cond robust (Some c) None ≡ Some c
new-owner true owner c e = refl
new-owner false owner c e = cc

-- a client that has a row has a value there
pub row-there : (clients : List (ClientRow Caller)) (c : ℕ) → has_client clients c ≡ true
    → (v : Caller) × (client_value clients c ≡ Some v)
row-there clients c has = go (client_at clients c) refl has
  where
    go : (o : Option (ClientRow Caller)) → client_at clients c ≡ o → is_some o ≡ true
        → (v : Caller) × (client_value clients c ≡ Some v)
    go None found e = cc
    go (Some r) found e = (r.value, ap (option_map (λ (row : ClientRow Caller). row.value)) found)

module _ {A : Type 0} where
  free-none : (o : Option (Object A)) → is_some_and is_robust_free o ≡ true
      → option_and_then robust_owner o ≡ None
  free-none None e = refl
  free-none (Some (Mutex m)) e = free-owner m.view.robust m.view.owner e
  free-none (Some (Rwlock r)) e = refl
  free-none (Some (Cond q)) e = refl
  free-none (Some (Barrier count)) e = refl

  -- a chain that an object is in has a head
  pub has-head : (objects : List (ObjectRow (Object A))) (head : Option ℕ) (test : ℕ → Bool)
      → HasOwned objects head test → (m : ℕ) → is_some_and test (robust_owner_at objects m) ≡ true
      → (n : ℕ) × ((head ≡ Some n) × IsInChain objects n m)
  has-head objects head test h m e = go h.numbers h.chain (h.whole m e)
    where
      go : (numbers : List ℕ) → IsRowChain objects head numbers → IsOneOf numbers m
          → (n : ℕ) × ((head ≡ Some n) × IsInChain objects n m)
      go [] l i = absurd i
      go (n ∷ ns) l i =
          (n, (l.0, (n ∷ ns, subst (λ x. IsRowChain objects x (n ∷ ns)) l.0 l, i)))

  -- a row enters a chain or leaves it, and then a value is written
  enters-then : (old mid new : List (ObjectRow (Object A))) (head after : Option ℕ) (m : ℕ)
      → KeepsChains mid new → EntersChain old mid head after m → EntersChain old new head after m
  enters-then old mid new head after m k w = record {
    chain = λ ns l. chain-stays mid new k after (m ∷ ns) (w.chain ns l);
    others = λ ns l other its o apart.
        chain-stays mid new k other its (w.others ns l other its o apart);
    linked = λ n. k.linked n ∙ w.linked n;
  }

  pub leaves-then : (old mid new : List (ObjectRow (Object A))) (head after : Option ℕ) (m : ℕ)
      → KeepsChains mid new → UnlinksFromChain old mid head after m → UnlinksFromChain old new head after m
  leaves-then old mid new head after m k w = record {
    chain = λ ns l. chain-stays mid new k after (but_number ns m) (w.chain ns l);
    others = λ ns l other its o apart.
        chain-stays mid new k other its (w.others ns l other its o apart);
    linked = λ n. k.linked n ∙ w.linked n;
  }

  -- the owners after a value is written
  pub owners-written : (old new : List (ObjectRow (Object A))) (m : ℕ) (y : Object A)
      (owner : Option ℕ) → WritesObject old new m y → robust_owner y ≡ owner
      → Owned old new m owner
  owners-written old new m y owner w e p =
      ap (option_and_then robust_owner) (w.look p) ∙ elim (eqb_tells m p) [
        | inl s ↦ rw s.0 e
        | inr s ↦ rw s.0 refl
      ]

  -- the chain of a living client
  pub chain-there : (clients : List (ClientRow Caller)) (objects : List (ObjectRow (Object A)))
      → ((orphans : Option ℕ) × AreChained clients objects orphans) → (c : ℕ) (v : Caller)
      → client_value clients c ≡ Some v → HasChain objects v.owned
  chain-there clients objects a c v e =
      let h = a.1.living c v e in
      (h.numbers, h.chain)

  -- its head, if the client has a mutex that is locked once
  pub head-there : (clients : List (ClientRow Caller)) (objects : List (ObjectRow (Object A)))
      → ((orphans : Option ℕ) × AreChained clients objects orphans) → (c m : ℕ) (x : MutexState)
      → object_value objects m ≡ Some (Mutex x) → IsTrue (owns x.view c)
      → is_some_and is_locked_once (object_value objects m) ≡ true → (v : Caller)
      → client_value clients c ≡ Some v
      → (n : ℕ) × ((v.owned ≡ Some n) × IsInChain objects n m)
  head-there clients objects a c m x is own e v there =
      has-head objects v.owned (λ owner. owner == c) (a.1.living c v there) m
      (ap (is_some_and (λ owner. owner == c))
      (ap (option_and_then robust_owner) is
      ∙ once-owner x.view.robust x.view.owner c (not (nat_lt 1 x.view.count))
      (sym (ap (is_some_and is_locked_once) is) ∙ e) own)
      ∙ same c)
    where
      same : (n : ℕ) → (n == n) ≡ true
      same n = grind (arith, nat_tests)

  -- the mutex that is found
  pub mutex-found : (o : Option (Object A)) → IsSome (mutex_in o)
      → (x : MutexState) × (o ≡ Some (Mutex x))
  mutex-found None e = cc
  mutex-found (Some (Mutex x)) e = (x, refl)
  mutex-found (Some (Rwlock r)) e = cc
  mutex-found (Some (Cond q)) e = cc
  mutex-found (Some (Barrier count)) e = cc

  module _ (moves : Moves A) (must : Bool) (clients after : List (ClientRow Caller))
      (old mid : List (ObjectRow (Object A))) (c m : ℕ)
      (moved : IsMoved moves must clients after old mid c m) where
    pub moved-objects : rows_without_links mid ≡ rows_without_links old
    moved-objects = elim moved [
      | inl s ↦ ap rows_without_links s.1.1
      | inr s ↦ s.1.1.0
    ]

    pub moved-clients : HasDistinctNumbers clients → rows_without_owned after
        ≡ rows_without_owned clients
    moved-clients once = elim moved [
      | inl s ↦ ap rows_without_owned s.1.0
      | inr s ↦ s.1.1.1 once
    ]

  module _ (clients after : List (ClientRow Caller)) (old mid new : List (ObjectRow (Object A)))
      (c m : ℕ) (x : MutexState) (is : object_value old m ≡ Some (Mutex x))
      (has : has_client clients c ≡ true) (k : KeepsChains mid new) (orphans : Option ℕ)
      (a : AreChained clients old orphans) where
    pub locked-chained : IsTrue (can_acquire x.view c)
        → IsMoved EntersChain (is_some_and is_robust_free
        (object_value old m)) clients after old mid c m
        → WritesObject old new m (Mutex (record x { view = mutex_after_acquire x.view c }))
        → AreChained after new orphans
    locked-chained can moved w = elim moved [
      | inl s ↦
          subst (λ rows. AreChained rows new orphans) (sym s.1.0)
          (chained-written clients old new orphans a m (Mutex x)
          (Mutex (record x { view = mutex_after_acquire x.view c })) is w
          (again-owner x.view.robust x.view.owner c
          (is_recursive x.view.kind && nat_lt x.view.count max_locks)
          (sym (ap (is_some_and is_robust_free) is) ∙ s.0) can)
          (subst (λ rows. KeepsChains rows new) s.1.1 k))
      | inr s ↦
          let v = row-there clients c has in
          let own = s.1.0 v.0 v.1 in
          chained-entered clients old new orphans a c m v.0 v.1 after own.0 own.1.0
          (free-none (object_value old m) s.0)
          (enters-then old mid new v.0.owned own.0 m k own.1.1)
          (owners-written old new m (Mutex (record x { view = mutex_after_acquire x.view c }))
          (Some c) w
          (new-owner x.view.robust x.view.owner c (sym (ap (is_some_and is_robust_free) is) ∙ s.0)))
    ]

    own-lock : IsTrue (owns x.view c) → is_some_and is_locked_once (object_value old m) ≡ true
        → robust_owner_at old m ≡ Some c
    own-lock own e =
        ap (option_and_then robust_owner) is
        ∙ once-owner x.view.robust x.view.owner c (not (nat_lt 1 x.view.count))
        (sym (ap (is_some_and is_locked_once) is) ∙ e) own

    pub unlocked-chained : IsTrue (owns x.view c)
        → IsMoved UnlinksFromChain (is_some_and is_locked_once
        (object_value old m)) clients after old mid c m
        → WritesObject old new m (Mutex (record x { view = mutex_after_release x.view }))
        → AreChained after new orphans
    unlocked-chained own moved w = elim moved [
      | inl s ↦
          subst (λ rows. AreChained rows new orphans) (sym s.1.0)
          (chained-written clients old new orphans a m (Mutex x)
          (Mutex (record x { view = mutex_after_release x.view })) is w
          (still-owner x.view (nat_lt 1 x.view.count)
          (sym (ap (is_some_and is_locked_once) is) ∙ s.0))
          (subst (λ rows. KeepsChains rows new) s.1.1 k))
      | inr s ↦
          let v = row-there clients c has in
          let out = s.1.0 v.0 v.1 in
          chained-left clients old new orphans a c m v.0 v.1 after out.0 out.1.0
          (own-lock own s.0)
          (leaves-then old mid new v.0.owned out.0 m k out.1.1)
          (owners-written old new m (Mutex (record x { view = mutex_after_release x.view })) None w
          (last-owner x.view (nat_lt 1 x.view.count)
          (sym (ap (is_some_and is_locked_once) is) ∙ s.0)))
    ]

  -- the head of the orphans' chain is one of them, and has a dead owner
  pub head-orphan : (clients : List (ClientRow Caller)) (objects : List (ObjectRow (Object A)))
      (m : ℕ) → AreChained clients objects (Some m)
      → IsInChain objects m m
      × ((d : ℕ) × ((robust_owner_at objects m ≡ Some d) × (is_gone clients d ≡ true)))
  head-orphan clients objects m a = go a.dead.numbers a.dead.chain a.dead.listed
    where
      go : (numbers : List ℕ) → IsRowChain objects (Some m) numbers
          → ((n : ℕ) → IsOneOf numbers n
          → is_some_and (is_gone clients) (robust_owner_at objects n) ≡ true)
          → IsInChain objects m m
          × ((d : ℕ) × ((robust_owner_at objects m ≡ Some d) × (is_gone clients d ≡ true)))
      go [] l each =
          let none : Some m ≡ None = l in
          absurd cc
      go (n ∷ ns) l each =
          let head : Some m ≡ Some n = l.0 in
          let same : m ≡ n = cc in (
            (n ∷ ns, l, inl same),
            passed (is_gone clients) (robust_owner_at objects m) (each m (inl same)),
          )

  -- after the mutex is taken from its owner
  pub mutex_without_owner-chained : (clients : List (ClientRow Caller))
      (old mid new : List (ObjectRow (Object A))) (m : ℕ) (after : Option ℕ) (x : MutexState)
      → AreChained clients old (Some m)
      → UnlinksFromChain old mid (Some m) after m → KeepsChains mid new
      → WritesObject old new m (Mutex (record x { view = mutex_after_yield x.view }))
      → AreChained clients new after
  mutex_without_owner-chained clients old mid new m after x a out k w =
      let orphan = (head-orphan clients old m a).1 in
      chained-yielded clients old new (Some m) after m orphan.0 a orphan.1.0 orphan.1.1
      (leaves-then old mid new (Some m) after m k out)
      (owners-written old new m (Mutex (record x { view = mutex_after_yield x.view })) None w
      (no-owner x.view.robust))
