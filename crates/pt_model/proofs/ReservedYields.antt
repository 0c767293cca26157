-- What is reserved for Yields, after a call.
use Rattle.std.proofs.Common.{◌≡◌, ℕ, suc, ◌+◌, ◌<◌, ◌≤◌, ◌==◌, nat_lt, Bool, true, false, cond}
use Rattle.std.proofs.Common.{not, ◌&&◌, ◌||◌, ◌⊎◌, inl, inr, List, Option, Some, None, is_some}
use Rattle.std.proofs.Common.{refl, sym, ap, ◌∙◌, arith}
use Rattle.std.proofs.lemmas.Bool.Decides.{nat_tests}
use Rattle.std.proofs.lemmas.Bool.{and_parts, and_from, false≢true}
use Rattle.pt_types.specs.declared.call.ObjectKind.{ObjectKind}
use Rattle.pt_types.specs.declared.call.ObjectKind.TheVariants.{Mutex, Rwlock, Cond, Barrier}
use Rattle.pt_types.specs.Operations.{class_of, same_class}
use Rattle.pt_types.specs.declared.operations.ObjectClass.{ObjectClass}
use Rattle.pt_types.specs.declared.operations.ObjectClass.TheVariants.{Mutex as MutexClass}
use Rattle.pt_types.specs.declared.operations.ObjectClass.TheVariants.{Rwlock as RwlockClass}
use Rattle.pt_types.specs.declared.operations.ObjectClass.TheVariants.{Cond as CondClass}
use Rattle.pt_types.specs.declared.operations.ObjectClass.TheVariants.{Barrier as BarrierClass}
use Rattle.pt_model.specs.Searches.{count_below}
use Rattle.pt_model.specs.Histories.{History, place}
use Rattle.pt_model.specs.Clients.{is_alive}
use Rattle.pt_model.specs.Objects.{find_object, kind_of, is_robust}
use Rattle.pt_model.specs.declared.waiting_call.Role.{Role}
use Rattle.pt_model.specs.declared.waiting_call.Role.TheVariants.{ForMutex, ForRead, ForWrite}
use Rattle.pt_model.specs.declared.waiting_call.Role.TheVariants.{ForBarrier, ForCond}
use Rattle.pt_model.specs.Mutexes.{mutex_count, owner}
use Rattle.pt_model.specs.Forced.{is_orphan, is_dead_if, forced}
use Rattle.pt_model.specs.Verdicts.{mutex_of_wait, is_alive_if, is_busy}
use Rattle.pt_model.specs.Room.{is_robust_owned}
use Rattle.pt_model.specs.Steps.{Follows}
use Rattle.pt_model.proofs.Counting.{count_below-less, count_below-one_more, count_below-same}
use Rattle.pt_model.proofs.Effects.{Effect, Idle, Creates, Removes, Relocks, Frees, Mends, Returns}
use Rattle.pt_model.proofs.Effects.{Wakes, Waits, owning, Seated, Allowed}
use Rattle.pt_model.proofs.Changes.{kind_effect, awaited, gives_up}
use Rattle.pt_model.proofs.Sound.{Fresh-follows, kind_below}
use Rattle.pt_model.proofs.Room.{reserved_yields}
use Rattle.pt_model.proofs.Named.{found_object, Named-follows}
use Rattle.pt_model.proofs.Counts.{owning-owner}
use Rattle.pt_model.proofs.Services.{none-orphan}

plus_none : (n : ℕ) → n + 0 ≡ n
plus_none n = omega arith

-- the mutex that an effect gives back a lock on
abbrev pub freed : Effect → Option ℕ
freed (Frees m) = Some m
freed (Waits w) = mutex_of_wait w.role
freed _ = None

-- whether that is the last lock on a robust mutex, for whose Yield one entry was reserved
abbrev pub released_if : History → ℕ → Option ℕ → ℕ
released_if h c None = 0
released_if h c (Some m) = cond (is_robust (kind_of h m) && (mutex_count h m c == 1)) 1 0

abbrev pub released : History → ℕ → Effect → ℕ
released h c E = released_if h c (freed E)

module _ (h : History) (f : Follows h) where
  -- whether a robust mutex has an owner after an effect
  abbrev pub robust_after : ℕ → Effect → ℕ → Bool
  robust_after c E m =
      is_robust (kind_effect (place h) E (kind_of h m) m) && is_some
      (cond (gives_up E m && (mutex_count h m c == 1)) None (owner h m))

  robust_made : (k : Option ObjectKind) → is_robust k ≡ true → is_some k ≡ true
  robust_made None e = absurd cc
  robust_made (Some k) e = refl

  none_same : (k m c : ℕ) (b : Bool) → (mutex_count h k c == 1) ≡ false → (k == m) ≡ b
      → ((k == m) && (mutex_count h m c == 1)) ≡ false
  none_same k m c true e eb =
      let same : k ≡ m = grind (arith, nat_tests) in rw eb
      (ap (λ x. mutex_count h x c == 1) (sym same) ∙ e)
  none_same k m c false e eb = rw eb refl

  -- after the last lock on a robust mutex is given back, one robust mutex less has an owner
  freed_last : (k c : ℕ) → owning h k c ≡ true → is_robust (kind_of h k) ≡ true
      → (mutex_count h k c == 1)
      ≡ true
      → suc (count_below (place h) (λ m. is_robust (kind_of h m) && is_some
      (cond ((k == m) && (mutex_count h m c == 1)) None (owner h m)))) ≡ reserved_yields h
  freed_last k c own r l =
      let here : (k == k) ≡ true = grind (arith, nat_tests) in
      let before : is_robust_owned h k ≡ true =
      and_from (is_robust (kind_of h k)) (is_some (owner h k)) r
      (ap is_some (owning-owner h k c own)) in
      let gone : (is_robust (kind_of h k) && is_some
      (cond ((k == k) && (mutex_count h k c == 1)) None (owner h k)))
      ≡ false = rw (r, here, l) refl in
      let lt : k < place h = kind_below h k (Fresh-follows h f) (robust_made (kind_of h k) r) in
      let less =
      count_below-less (place h) s (is_robust_owned h) k (λ m l t. weaker m t) lt before gone in
      let more =
      count_below-one_more (place h) (is_robust_owned h) s k
      (λ m l t. other m (k == m) refl t) in
      omega (arith, less, more)
    where
      s : ℕ → Bool
      s m =
          is_robust (kind_of h m) && is_some (cond ((k == m) && (mutex_count h m c == 1)) None
          (owner h m))

      some_of : (b : Bool) (o : Option ℕ) → is_some (cond b None o) ≡ true → is_some o ≡ true
      some_of true o e = absurd cc
      some_of false o e = e

      weaker : (m : ℕ) → s m ≡ true → is_robust_owned h m ≡ true
      weaker m t =
          let p =
          and_parts (is_robust (kind_of h m))
          (is_some (cond ((k == m) && (mutex_count h m c == 1)) None (owner h m))) t in
          and_from (is_robust (kind_of h m)) (is_some (owner h m)) p.0
          (some_of ((k == m) && (mutex_count h m c == 1)) (owner h m) p.1)

      other : (m : ℕ) (b : Bool) → (k == m) ≡ b → is_robust_owned h m ≡ true → (s m ≡ true)
          ⊎ (m ≡ k)
      other m true e t = inr (grind (arith, nat_tests))
      other m false e t = inl (rw e t)

  freed_yields : (k c : ℕ) → owning h k c ≡ true
      → count_below (place h) (λ m. is_robust (kind_of h m) && is_some
      (cond ((k == m) && (mutex_count h m c == 1)) None (owner h m))) + cond
      (is_robust (kind_of h k) && (mutex_count h k c == 1)) 1 0 ≡ reserved_yields h
  freed_yields k c own = go (is_robust (kind_of h k)) (mutex_count h k c == 1) refl refl
    where
      s : ℕ → Bool
      s m =
          is_robust (kind_of h m) && is_some (cond ((k == m) && (mutex_count h m c == 1)) None
          (owner h m))

      same_but : (a : Bool) (m : ℕ) → is_robust (kind_of h k) ≡ false → (k == m) ≡ a → s m
          ≡ is_robust_owned h m
      same_but true m r e =
          let same : k ≡ m = grind (arith, nat_tests) in
          let plain : is_robust (kind_of h m) ≡ false =
          ap (λ x. is_robust (kind_of h x)) (sym same) ∙ r in
          rw plain refl
      same_but false m r e = rw e refl

      go : (a b : Bool) → is_robust (kind_of h k) ≡ a → (mutex_count h k c == 1) ≡ b
          → count_below (place h) s + cond (a && b) 1 0 ≡ reserved_yields h
      go true true ea eb = omega (arith, freed_last k c own ea eb)
      go true false ea eb =
          omega (
            arith,
            count_below-same (place h) s (is_robust_owned h)
                (λ m lt. rw (none_same k m c (k == m) eb refl) refl),
          )
      go false b ea eb =
          omega (
            arith,
            count_below-same (place h) s (is_robust_owned h)
                (λ m lt. same_but (k == m) m ea refl),
          )

  -- an object that may be destroyed is no robust mutex with an owner
  ended_unowned : (n : List ℕ) (s : ObjectClass) (q : ℕ) → forced h ≡ None → find_object h n s
      ≡ Some q
      → is_busy h s q ≡ false → is_robust_owned h q ≡ false
  ended_unowned n s q none e idle =
      let u = found_object h n s q e in
      let there : kind_of h u.0.number ≡ Some u.0.kind = (Named-follows h f).made n u.0 u.1.0 in
      let at : kind_of h q ≡ Some u.0.kind = ap (kind_of h) (sym u.1.1.0) ∙ there in
      go s u.0.kind at u.1.1.1 idle
    where
      unowned : (r : Bool) (o : Option ℕ) → is_alive_if h o ≡ false → (r && is_dead_if h o) ≡ false
          → (r && is_some o) ≡ false
      unowned false o a d = refl
      unowned true None a d = refl
      unowned true (Some c) a d =
          absurd (let alive : is_alive h c ≡ false = a in false≢true (sym d ∙ ap not alive))

      orphan : (b : Bool) → nat_lt q (place h) ≡ b → is_orphan h q ≡ false
      orphan true lt = none-orphan h none q (grind (arith, nat_tests))
      orphan false ge =
          let le : place h ≤ q = grind (arith, nat_tests) in
          ap (λ k. is_robust k && is_dead_if h (owner h q)) ((Fresh-follows h f).kinds q le)

      or_first : (a b : Bool) → (a || b) ≡ false → a ≡ false
      or_first true b e = absurd cc
      or_first false b e = refl

      go : (s : ObjectClass) (k : ObjectKind) → kind_of h q ≡ Some k
          → same_class (class_of k) s ≡ true
          → is_busy h s q ≡ false → is_robust_owned h q ≡ false
      go MutexClass k ek es i =
          unowned (is_robust (kind_of h q)) (owner h q) (or_first (is_alive_if h (owner h q)) _ i)
          (orphan (nat_lt q (place h)) refl)
      go RwlockClass (Mutex a b) ek es i = absurd cc
      go RwlockClass Rwlock ek es i = rw ek refl
      go RwlockClass Cond ek es i = rw ek refl
      go RwlockClass (Barrier x) ek es i = rw ek refl
      go CondClass (Mutex a b) ek es i = absurd cc
      go CondClass Rwlock ek es i = rw ek refl
      go CondClass Cond ek es i = rw ek refl
      go CondClass (Barrier x) ek es i = rw ek refl
      go BarrierClass (Mutex a b) ek es i = absurd cc
      go BarrierClass Rwlock ek es i = rw ek refl
      go BarrierClass Cond ek es i = rw ek refl
      go BarrierClass (Barrier x) ek es i = rw ek refl

  pub yields_effect : (c : ℕ) (E : Effect) → forced h ≡ None → Allowed h c E
      → count_below (place h) (robust_after c E) + released h c E ≡ reserved_yields h
  yields_effect c (Frees k) n a = freed_yields k c a.1
  yields_effect c (Waits w) n a = go w.role a.1
    where
      go : (role : Role) → Seated h c role w.object
          → count_below (place h) (λ m. is_robust (kind_of h m) && is_some
          (cond (awaited role m && (mutex_count h m c == 1)) None (owner h m))) + released_if h c
          (mutex_of_wait role) ≡ reserved_yields h
      go (ForCond k) s = freed_yields k c s.1.1
      go ForMutex s = plus_none (reserved_yields h)
      go ForRead s = plus_none (reserved_yields h)
      go ForWrite s = plus_none (reserved_yields h)
      go ForBarrier s = plus_none (reserved_yields h)
  yields_effect c (Creates k kind) n a =
      omega (
        arith,
        count_below-same (place h) (robust_after c (Creates k kind)) (is_robust_owned h)
            (λ m lt. let ne : (place h == m) ≡ false = grind (arith, nat_tests) in rw ne refl),
      )
  yields_effect c (Removes k s q) n a =
      omega (
        arith,
        count_below-same (place h) (robust_after c (Removes k s q)) (is_robust_owned h)
            (λ m lt. go m (q == m) refl),
      )
    where
      go : (m : ℕ) (b : Bool) → (q == m) ≡ b → (is_robust (cond b None (kind_of h m)) && is_some
          (owner h m)) ≡ is_robust_owned h m
      go m false e = refl
      go m true e =
          let same : q ≡ m = grind (arith, nat_tests) in
          sym (ap (is_robust_owned h) (sym same) ∙ ended_unowned k s q n a.0 a.1)
  yields_effect c Idle n a = plus_none (reserved_yields h)
  yields_effect c (Relocks m) n a = plus_none (reserved_yields h)
  yields_effect c (Mends m) n a = plus_none (reserved_yields h)
  yields_effect c (Returns r) n a = plus_none (reserved_yields h)
  yields_effect c (Wakes k all) n a = plus_none (reserved_yields h)
