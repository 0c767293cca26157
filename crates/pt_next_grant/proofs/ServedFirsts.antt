-- Which call is served at a mutex, a condition or a barrier, given the first call that waits there.
use Rattle.std.proofs.Common.{◌≡◌, ℕ, Bool, true, false, not, ◌&&◌, ◌||◌, ◌==◌, length, Option}
use Rattle.std.proofs.Common.{Some, None, is_some, is_none, refl, sym, ap, ◌∙◌, subst, arith}
use Rattle.std.proofs.Common.{filter}
use Rattle.std.proofs.lemmas.Bool.Decides.{nat_tests}
use Rattle.std.proofs.lemmas.Bool.{and_parts, and_from, false≢true}
use Rattle.pt_types.specs.declared.operations.ObjectClass.{ObjectClass}
use Rattle.pt_types.specs.declared.operations.ObjectClass.TheVariants.{Mutex as MutexClass}
use Rattle.pt_types.specs.declared.operations.ObjectClass.TheVariants.{Cond as CondClass}
use Rattle.pt_types.specs.declared.operations.ObjectClass.TheVariants.{Barrier as BarrierClass}
use Rattle.pt_types.specs.MutexTable.{is_some_number, is_not_recoverable, is_recursive}
use Rattle.pt_types.specs.MutexTable.{can_grant_mutex, can_grant_relock}
use Rattle.pt_model.specs.Searches.{In, least}
use Rattle.pt_model.specs.Histories.{History}
use Rattle.pt_model.specs.Objects.{kind_of, mutex_kind, barrier_count}
use Rattle.pt_model.specs.declared.waiting_call.WaitingCall.{WaitingCall}
use Rattle.pt_model.specs.declared.waiting_call.Move.{Move}
use Rattle.pt_model.specs.declared.waiting_call.Role.{Role}
use Rattle.pt_model.specs.declared.waiting_call.Role.TheVariants.{ForMutex, ForRead, ForWrite}
use Rattle.pt_model.specs.declared.waiting_call.Role.TheVariants.{ForBarrier, ForCond}
use Rattle.pt_model.specs.WaitingCall.{is_barrier_wait, is_cond_wait}
use Rattle.pt_model.specs.Answers.{open_calls, at_barrier}
use Rattle.pt_model.specs.Moves.{wait_move, is_moved, wait_object_by, wait_object, precedes}
use Rattle.pt_model.specs.Moves.{waiting_at}
use Rattle.pt_model.specs.Moves.{is_least}
use Rattle.pt_model.specs.Mutexes.{owner, consistency, mutex_view}
use Rattle.pt_model.specs.Grants.{is_grantable_as, is_at_full_barrier}
use Rattle.pt_model.specs.Forced.{can_be_served}
use Rattle.pt_model.specs.Steps.{Follows}
use Rattle.pt_model.proofs.Lists.{In-filter, filter-in, filter-all, in-all}
use Rattle.pt_model.proofs.Leasts.{least-in, least-none, none-least}
use Rattle.pt_model.proofs.Orders.{precedes-order, least-first, least-part}
use Rattle.pt_model.proofs.Services.{or_left_true}
use Rattle.pt_model.proofs.Seats.{exists_as, seat, housed, one_class}
use Rattle.pt_next_grant.specs.Candidates.{first_at, served_call}
use Rattle.pt_next_grant.proofs.WokenWaits.{unserved}

module _ (h : History) (f : Follows h) (o : ℕ) where
  -- a call that waits there
  pub there : (w : WaitingCall) → In w (waiting_at h o) → In w (open_calls h) × (wait_object h w
      ≡ o)
  there w i =
      let p = In-filter (λ (u : WaitingCall). wait_object h u == o) (open_calls h) w i in
      let at : wait_object h w ≡ o =
      let t : (wait_object h w == o) ≡ true = p.1 in grind (arith, nat_tests) in
      (p.0, at)

  -- if the first call can be served, it is the one that is served
  pub first_serves : (u : WaitingCall) → first_at h o ≡ Some u → can_be_served h u ≡ true
      → served_call h o
      ≡ Some u
  first_serves u e t =
      least-part (precedes h) (precedes-order h) (can_be_served h) (λ w. true) (λ w k. refl)
      (waiting_at h o) u
      (ap (least (precedes h)) (filter-all (λ w. true) (waiting_at h o) (λ w i. refl)) ∙ e) t

  -- if no call can be served there, none is served
  pub none_serves : ((w : WaitingCall) → In w (open_calls h) → wait_object h w ≡ o
      → can_be_served h w
      ≡ true → ⊥) → served_call h o ≡ None
  none_serves none =
      none-least (precedes h) (filter (can_be_served h) (waiting_at h o))
      (λ w i. let p = In-filter (can_be_served h) (waiting_at h o) w i in
      let q = there w p.0 in none w q.0 q.1 p.1)

  -- if the first call can be served, or there is none, what is served is the first
  pub first_decides : ((u : WaitingCall) → first_at h o ≡ Some u → can_be_served h u ≡ true)
      → served_call h o ≡ first_at h o
  first_decides each = go (first_at h o) refl
    where
      go : (x : Option WaitingCall) → first_at h o ≡ x → served_call h o ≡ x
      go None e =
          none_serves (λ w i at t. least-none (precedes h) (waiting_at h o) e w
          (filter-in (λ (u : WaitingCall). wait_object h u == o) (open_calls h) w i
          (let yes : (wait_object h w == o) ≡ true = grind (arith, nat_tests) in yes)))
      go (Some u) e = first_serves u e (each u e)

  -- the first call is the least
  pub first_least : (u : WaitingCall) → first_at h o ≡ Some u → is_least h u ≡ true
  first_least u e =
      in-all (λ v. not (precedes h v u)) (waiting_at h (wait_object h u))
      (λ v i. ap not (least-first (precedes h) (precedes-order h) (waiting_at h o) u e v
      (subst (λ (q : ℕ). In v (waiting_at h q))
      (there u (least-in (precedes h) (waiting_at h o) u e)).1 i)))

  -- all calls at an object are for its class
  pub sits : (s : ObjectClass) → exists_as h s o ≡ true → (w : WaitingCall) → In w (open_calls h)
      → wait_object h w ≡ o → seat w.role (wait_move h w.place) ≡ s
  sits s k w i at =
      one_class (kind_of h o) (seat w.role (wait_move h w.place)) s
      (ap (exists_as h (seat w.role (wait_move h w.place))) (sym at) ∙ (housed h f w i).0) k

  pub at_role : (w : WaitingCall) (role : Role) → w.role ≡ role → wait_object h w ≡ o
      → wait_object_by role (wait_move h w.place) w.object ≡ o
  at_role w role r at = sym (ap (λ x. wait_object_by x (wait_move h w.place) w.object) r) ∙ at

  -- at a condition no call is served
  pub cond-none : exists_as h CondClass o ≡ true → served_call h o ≡ None
  cond-none k =
      none_serves (λ w i at t. unserved h w w.role (wait_move h w.place) refl refl
      (sits CondClass k w i at) t)

  -- at a mutex that is lost or has no owner, the first call is served
  pub mutex-first : exists_as h MutexClass o ≡ true
      → (is_not_recoverable (consistency h o) || is_none (owner h o)) ≡ true → served_call h o
      ≡ first_at h o
  mutex-first k free = first_decides each
    where
      may : (b : Bool) → b ≡ true → (l n : Bool) → (l || n) ≡ true → (l || (n && b)) ≡ true
      may b e true n t = refl
      may b e false true t = e
      may b e false false t = absurd cc

      each : (u : WaitingCall) → first_at h o ≡ Some u → can_be_served h u ≡ true
      each u e = go u.role (wait_move h u.place) refl refl (sits MutexClass k u p.0 p.1)
        where
          p : In u (open_calls h) × (wait_object h u ≡ o)
          p = there u (least-in (precedes h) (waiting_at h o) u e)

          can : can_grant_mutex (mutex_view h o) (is_least h u) ≡ true
          can =
              may (is_least h u) (first_least u e) (is_not_recoverable (consistency h o))
              (is_none (owner h o)) free

          go : (role : Role) (x : Option Move) → u.role ≡ role → wait_move h u.place ≡ x
              → seat role x ≡ MutexClass → can_be_served h u ≡ true
          go ForMutex x r m s =
              let at : u.object ≡ o = at_role u ForMutex r p.1 in
              or_left_true (is_grantable_as h u u.role) (is_at_full_barrier h u)
              (ap (is_grantable_as h u) r
              ∙ (ap (λ q. can_grant_mutex (mutex_view h q) (is_least h u)) at ∙ can))
          go (ForCond n) (Some v) r m s =
              let at : n ≡ o =
              sym (ap (λ x. wait_object_by (ForCond n) x u.object) m)
              ∙ at_role u (ForCond n) r p.1 in
              or_left_true (is_grantable_as h u u.role) (is_at_full_barrier h u)
              (ap (is_grantable_as h u) r
              ∙ and_from (is_moved h u) (can_grant_mutex (mutex_view h n) (is_least h u)
              || can_grant_relock
              (mutex_view h n) u.client) (ap is_some m)
              (or_left_true (can_grant_mutex (mutex_view h n) (is_least h u)) (can_grant_relock
              (mutex_view h n) u.client)
              (ap (λ q. can_grant_mutex (mutex_view h q) (is_least h u)) at ∙ can)))
          go (ForCond n) None r m s = absurd cc
          go ForRead x r m s = absurd cc
          go ForWrite x r m s = absurd cc
          go ForBarrier x r m s = absurd cc

  -- at a mutex that has an owner and is not lost, only a moved wait of the owner is served, and
  -- only if the mutex is RECURSIVE
  pub mutex-owned : (c : ℕ) → exists_as h MutexClass o ≡ true → is_not_recoverable (consistency h o)
      ≡ false
      → owner h o ≡ Some c → (w : WaitingCall) → In w (open_calls h) → wait_object h w ≡ o
      → can_be_served h w ≡ true → (w.client ≡ c)
      × (((is_cond_wait w.role && is_moved h w) ≡ true)
      × (is_recursive (mutex_kind (kind_of h o)) ≡ true))
  mutex-owned c k live own w i at t =
      go w.role (wait_move h w.place) refl refl (sits MutexClass k w i at)
    where
      ungranted : can_grant_mutex (mutex_view h o) (is_least h w) ≡ false
      ungranted = rw (live, own) refl

      go : (role : Role) (x : Option Move) → w.role ≡ role → wait_move h w.place ≡ x
          → seat role x ≡ MutexClass → (w.client ≡ c)
          × (((is_cond_wait w.role && is_moved h w) ≡ true)
          × (is_recursive (mutex_kind (kind_of h o)) ≡ true))
      go ForMutex x r m s =
          let here : w.object ≡ o = at_role w ForMutex r at in
          let wrong : can_be_served h w ≡ false =
          ap (λ q. is_grantable_as h w q || (is_barrier_wait q && (length
          (at_barrier w.object (open_calls h)) == barrier_count (kind_of h w.object)))) r
          ∙ (ap (λ q. can_grant_mutex (mutex_view h q) (is_least h w) || false) here
          ∙ ap (λ b. b || false) ungranted) in
          absurd (false≢true (sym wrong ∙ t))
      go (ForCond n) (Some v) r m s =
          let here : n ≡ o =
          sym (ap (λ x. wait_object_by (ForCond n) x w.object) m) ∙ at_role w (ForCond n) r at in
          let can : ((is_some (Some v) && (can_grant_mutex (mutex_view h o) (is_least h w)
          || can_grant_relock
          (mutex_view h o) w.client)) || false) ≡ true =
          sym (ap (λ q. is_grantable_as h w q || (is_barrier_wait q && (length
          (at_barrier w.object (open_calls h)) == barrier_count (kind_of h w.object)))) r
          ∙ (ap (λ y. (is_some y && (can_grant_mutex (mutex_view h n) (is_least h w)
          || can_grant_relock
          (mutex_view h n) w.client)) || false) m
          ∙ ap (λ q. (is_some (Some v) && (can_grant_mutex (mutex_view h q) (is_least h w)
          || can_grant_relock
          (mutex_view h q) w.client)) || false) here)) ∙ t in
          let back : can_grant_relock (mutex_view h o) w.client ≡ true =
          only (can_grant_mutex (mutex_view h o) (is_least h w)) (can_grant_relock
          (mutex_view h o) w.client)
          ungranted can in
          let p =
          and_parts (is_recursive (mutex_kind (kind_of h o))) (is_some_number (owner h o) w.client)
          back in
          let same : (c == w.client) ≡ true = sym (ap (λ x. is_some_number x w.client) own) ∙ p.1 in
          let one : w.client ≡ c = grind (arith, nat_tests) in (
            one,
            (
              and_from (is_cond_wait w.role) (is_moved h w) (ap is_cond_wait r)
                  (ap is_some m),
              p.0,
            ),
          )
        where
          only : (a b : Bool) → a ≡ false → ((a || b) || false) ≡ true → b ≡ true
          only true b e z = absurd cc
          only false true e z = refl
          only false false e z = absurd cc
      go (ForCond n) None r m s = absurd cc
      go ForRead x r m s = absurd cc
      go ForWrite x r m s = absurd cc
      go ForBarrier x r m s = absurd cc

  -- the only call that can be served there is the one that is served
  pub only_serves : (w : WaitingCall) → In w (open_calls h) → wait_object h w ≡ o
      → can_be_served h w
      ≡ true
      → ((v : WaitingCall) → In v (open_calls h) → wait_object h v ≡ o → can_be_served h v ≡ true
      → v ≡ w)
      → served_call h o ≡ Some w
  only_serves w i at t one = go (served_call h o) refl
    where
      go : (x : Option WaitingCall) → served_call h o ≡ x → x ≡ Some w
      go None e =
          absurd (least-none (precedes h) (filter (can_be_served h) (waiting_at h o)) e w
          (filter-in (can_be_served h) (waiting_at h o) w
          (filter-in (λ (v : WaitingCall). wait_object h v == o) (open_calls h) w i
          (let yes : (wait_object h w == o) ≡ true = grind (arith, nat_tests) in yes)) t))
      go (Some v) e =
          let p =
          In-filter (can_be_served h) (waiting_at h o) v
          (least-in (precedes h) (filter (can_be_served h) (waiting_at h o)) v e) in
          let q = there v p.0 in
          ap Some (one v q.0 q.1 p.1)

  -- at a full barrier the first call is served, and at any other barrier none
  barrier_at : exists_as h BarrierClass o ≡ true → (w : WaitingCall) → In w (open_calls h)
      → wait_object h w ≡ o → can_be_served h w
      ≡ (length (at_barrier o (open_calls h)) == barrier_count (kind_of h o))
  barrier_at k w i at = go w.role (wait_move h w.place) refl refl (sits BarrierClass k w i at)
    where
      go : (role : Role) (x : Option Move) → w.role ≡ role → wait_move h w.place ≡ x
          → seat role x ≡ BarrierClass → can_be_served h w
          ≡ (length (at_barrier o (open_calls h)) == barrier_count (kind_of h o))
      go ForBarrier x r m s =
          ap (λ q. is_grantable_as h w q || (is_barrier_wait q && (length
          (at_barrier w.object (open_calls h)) == barrier_count (kind_of h w.object)))) r
          ∙ ap (λ q. length (at_barrier q (open_calls h)) == barrier_count (kind_of h q))
          (at_role w ForBarrier r at)
      go ForMutex x r m s = absurd cc
      go ForRead x r m s = absurd cc
      go ForWrite x r m s = absurd cc
      go (ForCond n) None r m s = absurd cc
      go (ForCond n) (Some v) r m s = absurd cc

  pub barrier-full : exists_as h BarrierClass o ≡ true
      → (length (at_barrier o (open_calls h)) == barrier_count (kind_of h o)) ≡ true
      → served_call h o ≡ first_at h o
  barrier-full k full =
      first_decides (λ u e. let p = there u (least-in (precedes h) (waiting_at h o) u e) in
      barrier_at k u p.0 p.1 ∙ full)

  pub barrier-short : exists_as h BarrierClass o ≡ true
      → (length (at_barrier o (open_calls h)) == barrier_count (kind_of h o)) ≡ false
      → served_call h o ≡ None
  barrier-short k short =
      none_serves (λ w i at t. false≢true (sym (barrier_at k w i at ∙ short) ∙ t))
