-- Which call is served at a read-write lock, given the first call that waits there.
use Rattle.std.proofs.Common.{◌≡◌, ℕ, Bool, true, false, not, ◌&&◌, ◌||◌, ◌==◌, nat_lt, nat_le}
use Rattle.std.proofs.Common.{length, ◌⊎◌, inl, inr, Option, Some, None, is_some, is_none, refl}
use Rattle.std.proofs.Common.{sym, ap, ◌∙◌, subst, arith}
use Rattle.std.proofs.lemmas.Bool.Decides.{nat_tests}
use Rattle.std.proofs.lemmas.Bool.{and_parts, and_from, false≢true}
use Rattle.pt_types.specs.KeyOrder.{kind_rank}
use Rattle.pt_types.specs.Times.{pair_before}
use Rattle.pt_types.specs.declared.operations.ObjectClass.TheVariants.{Rwlock as RwlockClass}
use Rattle.pt_model.specs.Searches.{In}
use Rattle.pt_model.specs.Histories.{History}
use Rattle.pt_model.specs.Objects.{kind_of, barrier_count}
use Rattle.pt_model.specs.declared.waiting_call.WaitingCall.{WaitingCall}
use Rattle.pt_model.specs.declared.waiting_call.Move.{Move}
use Rattle.pt_model.specs.declared.waiting_call.Role.{Role}
use Rattle.pt_model.specs.declared.waiting_call.Role.TheVariants.{ForMutex, ForRead, ForWrite}
use Rattle.pt_model.specs.declared.waiting_call.Role.TheVariants.{ForBarrier, ForCond}
use Rattle.pt_model.specs.WaitingCall.{is_barrier_wait, is_write_lock}
use Rattle.pt_model.specs.Answers.{open_calls, at_barrier}
use Rattle.pt_model.specs.Moves.{wait_move, wait_object, precedes, call_key, waiting_at, is_least}
use Rattle.pt_model.specs.Rwlocks.{read_count, write_holder, first_reader}
use Rattle.pt_model.specs.Grants.{blocks_readers, is_blocked, is_grantable_as, is_at_full_barrier}
use Rattle.pt_model.specs.Forced.{can_be_served}
use Rattle.pt_model.specs.Steps.{Follows}
use Rattle.pt_model.proofs.Lists.{filter-in, any-in, in-any, false_by}
use Rattle.pt_model.proofs.Leasts.{least-in}
use Rattle.pt_model.proofs.Orders.{precedes-order, least-first}
use Rattle.pt_model.proofs.Services.{or_left_true}
use Rattle.pt_model.proofs.Seats.{exists_as, seat}
use Rattle.pt_next_grant.specs.Candidates.{first_at, served_call}
use Rattle.pt_next_grant.proofs.ServedFirsts.{at_role, first_decides, first_least, none_serves, sits}
use Rattle.pt_next_grant.proofs.ServedFirsts.{there}

module _ (h : History) (f : Follows h) (o : ℕ) where
  -- a call that is served at a lock is a reader's or a writer's, and it can have the lock
  pub lock-served : exists_as h RwlockClass o ≡ true → (w : WaitingCall) → In w (open_calls h)
      → wait_object h w ≡ o → can_be_served h w ≡ true
      → ((w.role ≡ ForRead) × ((not (is_some (write_holder h o)) && (not (is_blocked h o w.priority)
      || nat_lt 0 (read_count h o w.client))) ≡ true))
      ⊎ ((w.role ≡ ForWrite) × ((not (is_some (write_holder h o))
      && not (is_some (first_reader h o))) ≡ true))
  lock-served k w i at t = go w.role refl (sits h f o RwlockClass k w i at)
    where
      can : (role : Role) → w.role ≡ role → (is_grantable_as h w role || (is_barrier_wait role
          && (length
          (at_barrier w.object (open_calls h)) == barrier_count (kind_of h w.object)))) ≡ true
      can role r =
          sym (ap (λ q. is_grantable_as h w q || (is_barrier_wait q && (length
          (at_barrier w.object (open_calls h)) == barrier_count (kind_of h w.object)))) r) ∙ t

      plain : (b : Bool) → (b || false) ≡ true → b ≡ true
      plain true e = refl
      plain false e = absurd cc

      go : (role : Role) → w.role ≡ role → seat w.role (wait_move h w.place) ≡ RwlockClass
          → ((w.role ≡ ForRead) × ((not (is_some (write_holder h o))
          && (not (is_blocked h o w.priority)
          || nat_lt 0 (read_count h o w.client))) ≡ true))
          ⊎ ((w.role ≡ ForWrite)
          × ((not (is_some (write_holder h o)) && not (is_some (first_reader h o))) ≡ true))
      go ForRead r s =
          inl (
            r,
            subst (λ (q : ℕ). (not (is_some (write_holder h q)) && (not (is_blocked h q w.priority)
                || nat_lt 0 (read_count h q w.client))) ≡ true) (at_role h f o w ForRead r at)
                (plain (is_grantable_as h w ForRead) (can ForRead r)),
          )
      go ForWrite r s =
          inr (
            r,
            subst (λ (q : ℕ). (not (is_some (write_holder h q)) && not (is_some (first_reader h q)))
                ≡ true) (at_role h f o w ForWrite r at)
                (and_parts _ (is_least h w)
                (plain (is_grantable_as h w ForWrite) (can ForWrite r))).0,
          )
      go ForMutex r s =
          absurd (let no : seat ForMutex (wait_move h w.place) ≡ RwlockClass =
          sym (ap (λ x. seat x (wait_move h w.place)) r) ∙ s in cc)
      go ForBarrier r s =
          absurd (let no : seat ForBarrier (wait_move h w.place) ≡ RwlockClass =
          sym (ap (λ x. seat x (wait_move h w.place)) r) ∙ s in cc)
      go (ForCond m) r s =
          absurd (two (wait_move h w.place) (sym (ap (λ x. seat x (wait_move h w.place)) r) ∙ s))
        where
          two : (x : Option Move) → seat (ForCond m) x ≡ RwlockClass → ⊥
          two None e = cc
          two (Some v) e = cc

  -- at a lock that is held for writing, no call is served
  pub lock-written : exists_as h RwlockClass o ≡ true → is_some (write_holder h o) ≡ true
      → served_call h o ≡ None
  lock-written k wrote = none_serves h f o (λ w i at t. go w (lock-served k w i at t))
    where
      held : (b x : Bool) → b ≡ true → (not b && x) ≡ true → ⊥
      held true x e z = cc
      held false x e z = cc

      go : (w : WaitingCall) → ((w.role ≡ ForRead) × ((not (is_some (write_holder h o))
          && (not (is_blocked h o w.priority) || nat_lt 0 (read_count h o w.client))) ≡ true))
          ⊎ ((w.role ≡ ForWrite)
          × ((not (is_some (write_holder h o)) && not (is_some (first_reader h o))) ≡ true)) → ⊥
      go w (inl p) = held (is_some (write_holder h o)) _ wrote p.1
      go w (inr p) = held (is_some (write_holder h o)) _ wrote p.1

  -- a writer precedes a reader of the same or a lower priority
  writer_before : (x v : WaitingCall) → x.role ≡ ForWrite → v.role ≡ ForRead
      → nat_le v.priority x.priority ≡ true → precedes h x v ≡ true
  writer_before x v q r le =
      let rx : kind_rank (is_write_lock x.role) ≡ 0 = ap (λ z. kind_rank (is_write_lock z)) q in
      let rv : kind_rank (is_write_lock v.role) ≡ 1 = ap (λ z. kind_rank (is_write_lock z)) r in
      over_by x.priority v.priority (kind_rank (is_write_lock x.role)) (kind_rank
      (is_write_lock v.role))
      ((kind_rank (is_write_lock x.role) == kind_rank (is_write_lock v.role))
      && pair_before (call_key h x).arrival
      (call_key h v).arrival) rx rv le
    where
      over_by : (px pv rx rv : ℕ) (z : Bool) → rx ≡ 0 → rv ≡ 1 → nat_le pv px ≡ true
          → (nat_lt pv px || ((px == pv) && (nat_lt rx rv || z))) ≡ true
      over_by px pv rx rv true a b le = grind (arith, nat_tests)
      over_by px pv rx rv false a b le = grind (arith, nat_tests)

  pub writes_role : (role : Role) → is_write_lock role ≡ true → role ≡ ForWrite
  writes_role ForWrite e = refl
  writes_role ForMutex e = absurd cc
  writes_role ForRead e = absurd cc
  writes_role ForBarrier e = absurd cc
  writes_role (ForCond m) e = absurd cc

  -- no call precedes the first
  none_before : (u : WaitingCall) → first_at h o ≡ Some u → (v : WaitingCall)
      → In v (waiting_at h o) → precedes h v u ≡ false
  none_before u e v i = least-first (precedes h) (precedes-order h) (waiting_at h o) u e v i

  -- a reader that is first is not held back
  unblocked : (u : WaitingCall) → first_at h o ≡ Some u → u.role ≡ ForRead
      → is_blocked h o u.priority ≡ false
  unblocked u e r =
      false_by (is_blocked h o u.priority)
      (λ t. let x = any-in (λ (v : WaitingCall). blocks_readers v u.priority) (waiting_at h o) t in
      let p = and_parts (is_write_lock x.0.role) (nat_le u.priority x.0.priority) x.1.1 in
      false≢true (sym (none_before u e x.0 x.1.0)
      ∙ writer_before x.0 u (writes_role x.0.role p.0) r p.1))

  pub unsome : (x : Option ℕ) → is_none x ≡ true → not (is_some x) ≡ true
  unsome None e = refl
  unsome (Some n) e = absurd cc

  -- at a lock that is not held for writing, a reader that is first is served
  pub lock-first_reader : (u : WaitingCall) → first_at h o ≡ Some u → u.role ≡ ForRead
      → is_none (write_holder h o) ≡ true → can_be_served h u ≡ true
  lock-first_reader u e r n =
      let p = there h f o u (least-in (precedes h) (waiting_at h o) u e) in
      let at : u.object ≡ o = at_role h f o u ForRead r p.1 in
      or_left_true (is_grantable_as h u u.role) (is_at_full_barrier h u)
      (ap (is_grantable_as h u) r
      ∙ (ap (λ q. not (is_some (write_holder h q)) && (not (is_blocked h q u.priority) || nat_lt 0
      (read_count h q u.client))) at
      ∙ and_from (not (is_some (write_holder h o)))
      (not (is_blocked h o u.priority) || nat_lt 0 (read_count h o u.client))
      (unsome (write_holder h o) n)
      (or_left_true (not (is_blocked h o u.priority)) (nat_lt 0 (read_count h o u.client))
      (ap not (unblocked u e r)))))

  -- at a lock that nobody holds, the first call is served
  pub lock-free : exists_as h RwlockClass o ≡ true → is_none (write_holder h o) ≡ true
      → is_none (first_reader h o) ≡ true → served_call h o ≡ first_at h o
  lock-free k nw nr = first_decides h f o each
    where
      each : (u : WaitingCall) → first_at h o ≡ Some u → can_be_served h u ≡ true
      each u e = go u.role (wait_move h u.place) refl refl (sits h f o RwlockClass k u p.0 p.1)
        where
          p : In u (open_calls h) × (wait_object h u ≡ o)
          p = there h f o u (least-in (precedes h) (waiting_at h o) u e)

          go : (role : Role) (x : Option Move) → u.role ≡ role → wait_move h u.place ≡ x
              → seat role x ≡ RwlockClass → can_be_served h u ≡ true
          go ForRead x r m s = lock-first_reader u e r nw
          go ForWrite x r m s =
              let at : u.object ≡ o = at_role h f o u ForWrite r p.1 in
              or_left_true (is_grantable_as h u u.role) (is_at_full_barrier h u)
              (ap (is_grantable_as h u) r
              ∙ (ap (λ q. (not (is_some (write_holder h q)) && not (is_some (first_reader h q)))
              && is_least h u) at
              ∙ and_from (not (is_some (write_holder h o))
              && not (is_some (first_reader h o))) (is_least h u)
              (and_from (not (is_some (write_holder h o))) (not (is_some (first_reader h o)))
              (unsome (write_holder h o) nw) (unsome (first_reader h o) nr))
              (first_least h f o u e)))
          go ForMutex x r m s = absurd cc
          go ForBarrier x r m s = absurd cc
          go (ForCond n) None r m s = absurd cc
          go (ForCond n) (Some v) r m s = absurd cc

  -- if readers hold a lock and a writer is first, only readers that hold it already are served
  pub lock-held : exists_as h RwlockClass o ≡ true → is_some (first_reader h o) ≡ true
      → (u : WaitingCall)
      → first_at h o ≡ Some u → u.role ≡ ForWrite → (w : WaitingCall) → In w (open_calls h)
      → wait_object h w ≡ o → can_be_served h w ≡ true → (w.role ≡ ForRead)
      × (nat_lt 0 (read_count h o w.client) ≡ true)
  lock-held k read u e q w i at t = go (lock-served k w i at t)
    where
      stands : In w (waiting_at h o)
      stands =
          filter-in (λ (v : WaitingCall). wait_object h v == o) (open_calls h) w i
          (let yes : (wait_object h w == o) ≡ true = grind (arith, nat_tests) in yes)

      high : nat_le w.priority u.priority ≡ true
      high = by (nat_lt u.priority w.priority) refl
        where
          after : precedes h w u ≡ false
          after = none_before u e w stands

          by : (b : Bool) → nat_lt u.priority w.priority ≡ b → nat_le w.priority u.priority ≡ true
          by false eb = grind (arith, nat_tests)
          by true eb =
              absurd (false≢true (sym after ∙ ap (λ b. b || ((w.priority == u.priority)
              && (nat_lt (kind_rank (is_write_lock w.role)) (kind_rank (is_write_lock u.role))
              || ((kind_rank (is_write_lock w.role) == kind_rank (is_write_lock u.role))
              && pair_before
              (call_key h w).arrival (call_key h u).arrival)))) eb))

      blocked : is_blocked h o w.priority ≡ true
      blocked =
          in-any (λ (v : WaitingCall). blocks_readers v w.priority) (waiting_at h o) u
          (least-in (precedes h) (waiting_at h o) u e)
          (and_from (is_write_lock u.role) (nat_le w.priority u.priority) (ap is_write_lock q) high)

      own : (b x : Bool) → b ≡ true → (not b || x) ≡ true → x ≡ true
      own true x eb z = z
      own false x eb z = absurd cc

      held : (b x : Bool) → b ≡ true → (x && not b) ≡ true → ⊥
      held true true eb z = cc
      held true false eb z = cc
      held false x eb z = cc

      go : ((w.role ≡ ForRead) × ((not (is_some (write_holder h o))
          && (not (is_blocked h o w.priority)
          || nat_lt 0 (read_count h o w.client))) ≡ true))
          ⊎ ((w.role ≡ ForWrite)
          × ((not (is_some (write_holder h o)) && not (is_some (first_reader h o))) ≡ true))
          → (w.role ≡ ForRead) × (nat_lt 0 (read_count h o w.client) ≡ true)
      go (inl p) = (
        p.0,
        own (is_blocked h o w.priority) (nat_lt 0 (read_count h o w.client)) blocked
            (and_parts (not (is_some (write_holder h o))) _ p.1).1,
      )
      go (inr p) = absurd (held (is_some (first_reader h o)) (not (is_some
          (write_holder h o))) read p.1)
