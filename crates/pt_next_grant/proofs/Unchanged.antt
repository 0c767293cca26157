-- If nothing changed at an object, a call that waits there may be served only if it could be
-- before.
use Rattle.std.proofs.Common.{◌≡◌, ℕ, suc, Bool, true, false, not, ◌&&◌, ◌||◌, ◌==◌, nat_lt, ◌⊎◌}
use Rattle.std.proofs.Common.{inl, inr, List, [], length, Option, Some, None, is_some, is_none}
use Rattle.std.proofs.Common.{refl, sym, ap, ◌∙◌, subst, arith, filter}
use Rattle.std.proofs.lemmas.Bool.Decides.{nat_tests}
use Rattle.std.proofs.lemmas.Bool.{and_parts, and_from, false≢true}
use Rattle.pt_types.specs.MutexTable.{is_some_number, is_not_recoverable, is_recursive}
use Rattle.pt_types.specs.MutexTable.{can_grant_mutex, can_grant_relock}
use Rattle.pt_model.specs.Searches.{In}
use Rattle.pt_model.specs.declared.entry.Entry.{Entry}
use Rattle.pt_model.specs.Histories.{History, ◌▷◌, place}
use Rattle.pt_model.specs.Objects.{kind_of, mutex_kind, barrier_count}
use Rattle.pt_model.specs.declared.waiting_call.WaitingCall.{WaitingCall}
use Rattle.pt_model.specs.declared.waiting_call.Move.{Move}
use Rattle.pt_model.specs.declared.waiting_call.Role.{Role}
use Rattle.pt_model.specs.declared.waiting_call.Role.TheVariants.{ForMutex, ForRead, ForWrite}
use Rattle.pt_model.specs.declared.waiting_call.Role.TheVariants.{ForBarrier, ForCond}
use Rattle.pt_model.specs.WaitingCall.{is_barrier_wait}
use Rattle.pt_model.specs.Answers.{open_calls, at_barrier}
use Rattle.pt_model.specs.Moves.{wait_move, wait_object_by, wait_object, precedes, waiting_at}
use Rattle.pt_model.specs.Moves.{is_least}
use Rattle.pt_model.specs.Mutexes.{owner, consistency, mutex_view}
use Rattle.pt_model.specs.Rwlocks.{is_writer, read_count, write_holder, first_reader}
use Rattle.pt_model.specs.Grants.{blocks_readers, is_blocked, is_grantable_as, is_at_full_barrier}
use Rattle.pt_model.specs.Forced.{can_be_served}
use Rattle.pt_model.specs.Steps.{Step, Follows}
use Rattle.pt_model.proofs.Lists.{In-filter, filter-in, filter-filter, filter-agree_on}
use Rattle.pt_model.proofs.Lists.{Each-from_in, any-in, in-any, all-in, in-all}
use Rattle.pt_model.proofs.Leasts.{first_below-same, first_below-more}
use Rattle.pt_model.proofs.NotOwned.{has, Unheld-follows}
use Rattle.pt_model.proofs.Opens.{stands_at_barrier, left, was_open}
use Rattle.pt_model.proofs.Holders.{owner-same}
use Rattle.pt_model.proofs.Services.{or_true, or_left_true}

-- what is known of an object is unchanged, for one client
pub record Quiet (h : History) (g : History) (o : ℕ) (c : ℕ) : Type 0 where
  pub owners : owner g o ≡ owner h o
  pub losses : is_not_recoverable (consistency g o) ≡ is_not_recoverable (consistency h o)
  pub kinds : kind_of g o ≡ kind_of h o
  pub writers : write_holder g o ≡ write_holder h o
  pub readers : first_reader g o ≡ first_reader h o
  pub counts : read_count g o c ≡ read_count h o c

-- all calls that waited at an object still do, with the same moves, and no more arrive at a barrier
pub record Stays (h : History) (g : History) (o : ℕ) : Type 0 where
  pub stays : (v : WaitingCall) → In v (open_calls h) → wait_object h v ≡ o → In v (open_calls g)
      × (wait_move g v.place ≡ wait_move h v.place)
  pub arrivals : at_barrier o (open_calls g) ≡ at_barrier o (open_calls h)

-- an entry that changes no client's write lock leaves the lock to its writer
pub write_holder-same : (h : History) (e : Entry) (r : ℕ) → Follows h
    → ((c : ℕ) → is_writer (h ▷ e) r c ≡ is_writer h r c) → write_holder (h ▷ e) r
    ≡ write_holder h r
write_holder-same h e r f same =
    first_below-same (suc (place h)) (λ c. is_writer (h ▷ e) r c) (λ c. is_writer h r c)
    (λ c lt. same c)
    ∙ first_below-more (place h) (λ c. is_writer h r c)
    ((Unheld-follows h f).writers r (place h) (omega arith))

-- the same for readers
pub first_reader-same : (h : History) (e : Entry) (r : ℕ) → Follows h
    → ((c : ℕ) → read_count (h ▷ e) r c ≡ read_count h r c) → first_reader (h ▷ e) r
    ≡ first_reader h r
first_reader-same h e r f same =
    first_below-same (suc (place h)) (λ c. nat_lt 0 (read_count (h ▷ e) r c))
    (λ c. nat_lt 0 (read_count h r c)) (λ c lt. ap (nat_lt 0) (same c))
    ∙ first_below-more (place h) (λ c. nat_lt 0 (read_count h r c))
    (ap (nat_lt 0) ((Unheld-follows h f).readers r (place h) (omega arith)))

-- an entry after which what is known of an object is unchanged
pub quiet-entry : (h : History) (e : Entry) (o c : ℕ) → Follows h
    → ((d : ℕ) → has (h ▷ e) o d ≡ has h o d)
    → is_not_recoverable (consistency (h ▷ e) o) ≡ is_not_recoverable (consistency h o)
    → kind_of (h ▷ e) o ≡ kind_of h o
    → ((d : ℕ) → is_writer (h ▷ e) o d ≡ is_writer h o d)
    → ((d : ℕ) → read_count (h ▷ e) o d ≡ read_count h o d) → Quiet h (h ▷ e) o c
quiet-entry h e o c f own lost kind w r =
    record {
      owners = owner-same h e o f own;
      losses = lost;
      kinds = kind;
      writers = write_holder-same h e o f w;
      readers = first_reader-same h e o f r;
      counts = r c;
    }

-- if no call at the object is removed or moved
pub stays-filter : (h g : History) (o : ℕ) (p : WaitingCall → Bool) → open_calls g
    ≡ filter p (open_calls h)
    → ((v : WaitingCall) → In v (open_calls h) → wait_object h v ≡ o → (p v ≡ true)
    × (wait_move g v.place
    ≡ wait_move h v.place)) → Stays h g o
stays-filter h g o p e each =
    record {
      stays =
          λ v i at. (
            subst (λ (ws : List WaitingCall). In v ws) (sym e)
                (filter-in p (open_calls h) v i (each v i at).0),
            (each v i at).1,
          );
      arrivals =
          ap (at_barrier o) e
          ∙ (filter-filter (stands_at_barrier o) p (open_calls h)
          ∙ filter-agree_on (λ v. p v && stands_at_barrier o v) (stands_at_barrier o)
          (open_calls h) (Each-from_in (λ v. (p v && stands_at_barrier o v)
          ≡ stands_at_barrier o v) (open_calls h) (λ v i. same v i (stands_at_barrier o v) refl)));
    }
  where
    at : (v : WaitingCall) (role : Role) → v.role ≡ role
        → (is_barrier_wait role && (v.object == o)) ≡ true → wait_object h v ≡ o
    at v ForBarrier r t =
        let here : v.object ≡ o = grind (arith, nat_tests) in
        ap (λ x. wait_object_by x (wait_move h v.place) v.object) r ∙ here
    at v ForMutex r t = absurd cc
    at v ForRead r t = absurd cc
    at v ForWrite r t = absurd cc
    at v (ForCond m) r t = absurd cc

    same : (v : WaitingCall) → In v (open_calls h) → (b : Bool) → stands_at_barrier o v ≡ b
        → (p v && b) ≡ b
    same v i true t = rw ((each v i (at v v.role refl t)).0) refl
    same v i false t = no (p v)
      where
        no : (b : Bool) → (b && false) ≡ false
        no true = refl
        no false = refl

-- if no call is removed, and none at the object is moved
pub stays-all : (h g : History) (o : ℕ) → open_calls g ≡ open_calls h
    → ((v : WaitingCall) → In v (open_calls h) → wait_object h v ≡ o → wait_move g v.place
    ≡ wait_move h v.place) → Stays h g o
stays-all h g o e each =
    record {
      stays = λ v i at. (subst (λ (ws : List WaitingCall). In v ws) (sym e) i, each v i at);
      arrivals = ap (at_barrier o) e;
    }

or_map : (a b x y : Bool) → (a ≡ true → x ≡ true) → (b ≡ true → y ≡ true) → (a || b) ≡ true
    → (x || y) ≡ true
or_map true b x y f k e = or_left_true x y (f refl)
or_map false b x y f k e = or_true x y (k e)

and_map : (a b x y : Bool) → (a ≡ true → x ≡ true) → (b ≡ true → y ≡ true) → (a && b) ≡ true
    → (x && y) ≡ true
and_map a b x y f k e = let p = and_parts a b e in and_from x y (f p.0) (k p.1)

turned : (a b : Bool) → (b ≡ true → a ≡ true) → not a ≡ true → not b ≡ true
turned true b f e = absurd cc
turned false true f e = absurd (false≢true (f refl))
turned false false f e = refl

module _ (h g : History) (w : WaitingCall) (i : In w (open_calls h)) where
  module _ (o : ℕ) (here : wait_object h w ≡ o) (s : Stays h g o) where
    same_move : wait_move g w.place ≡ wait_move h w.place
    same_move = (s.stays w i here).1

    pub same_object : wait_object h w ≡ wait_object g w
    same_object = ap (λ x. wait_object_by w.role x w.object) (sym same_move)

    -- a call that waited beside it still does
    beside : (v : WaitingCall) → In v (waiting_at h o) → In v (waiting_at g o)
        × (wait_move g v.place ≡ wait_move h v.place)
    beside v j =
        let p = In-filter (λ (u : WaitingCall). wait_object h u == o) (open_calls h) v j in
        let at : wait_object h v ≡ o =
        let t : (wait_object h v == o) ≡ true = p.1 in grind (arith, nat_tests) in
        let q = s.stays v p.0 at in
        let after : wait_object g v ≡ o = ap (λ x. wait_object_by v.role x v.object) q.1 ∙ at in
        let test : (wait_object g v == o) ≡ true = grind (arith, nat_tests) in
        (filter-in (λ (u : WaitingCall). wait_object g u == o) (open_calls g) v q.0 test, q.1)

    precedes-same : (v : WaitingCall) → wait_move g v.place ≡ wait_move h v.place → precedes g v w
        ≡ precedes h v w
    precedes-same v e = rw (e, same_move) refl

    least-before : is_least g w ≡ true → is_least h w ≡ true
    least-before t =
        in-all (λ v. not (precedes h v w)) (waiting_at h (wait_object h w))
        (λ v j. let b = beside v (subst (λ (q : ℕ). In v (waiting_at h q)) here j) in
        let there : In v (waiting_at g (wait_object g w)) =
        subst (λ (q : ℕ). In v (waiting_at g q)) (sym here ∙ same_object) b.0 in
        ap not (sym (precedes-same v b.1))
        ∙ all-in (λ v. not (precedes g v w)) (waiting_at g (wait_object g w)) v t there)

    blocked-still : (p : ℕ) → is_blocked h o p ≡ true → is_blocked g o p ≡ true
    blocked-still p t =
        let r = any-in (λ (v : WaitingCall). blocks_readers v p) (waiting_at h o) t in
        in-any (λ (v : WaitingCall). blocks_readers v p) (waiting_at g o) r.0
        (beside r.0 r.1.0).0 r.1.1

    module _ (q : Quiet h g o w.client) where
      lock-before : can_grant_mutex (mutex_view g o) (is_least g w) ≡ true
          → can_grant_mutex (mutex_view h o) (is_least h w) ≡ true
      lock-before t =
          or_map (is_not_recoverable (consistency g o)) (is_none (owner g o) && is_least g w)
          (is_not_recoverable (consistency h o)) (is_none (owner h o) && is_least h w)
          (λ e. sym q.losses ∙ e)
          (λ e. and_map (is_none (owner g o)) (is_least g w) (is_none (owner h o)) (is_least h w)
          (λ k. ap is_none (sym q.owners) ∙ k) least-before e) t

      relock-before : can_grant_relock (mutex_view g o) w.client ≡ true
          → can_grant_relock (mutex_view h o) w.client ≡ true
      relock-before t =
          sym (ap (λ k. is_recursive (mutex_kind k) && is_some_number (owner g o) w.client) q.kinds
          ∙ ap (λ k. is_recursive (mutex_kind (kind_of h o)) && is_some_number k w.client) q.owners)
          ∙ t

      read-before : (not (is_some (write_holder g o)) && (not (is_blocked g o w.priority)
          || nat_lt 0
          (read_count g o w.client))) ≡ true
          → (not (is_some (write_holder h o)) && (not (is_blocked h o w.priority) || nat_lt 0
          (read_count h o w.client))) ≡ true
      read-before t =
          and_map (not (is_some (write_holder g o)))
          (not (is_blocked g o w.priority) || nat_lt 0 (read_count g o w.client))
          (not (is_some (write_holder h o)))
          (not (is_blocked h o w.priority) || nat_lt 0 (read_count h o w.client))
          (λ e. ap (λ k. not (is_some k)) (sym q.writers) ∙ e)
          (λ e. or_map (not (is_blocked g o w.priority)) (nat_lt 0 (read_count g o w.client))
          (not (is_blocked h o w.priority)) (nat_lt 0 (read_count h o w.client))
          (λ k. turned (is_blocked g o w.priority) (is_blocked h o w.priority)
          (blocked-still w.priority) k) (λ k. ap (nat_lt 0) (sym q.counts) ∙ k) e) t

      write-before : ((not (is_some (write_holder g o)) && not (is_some (first_reader g o)))
          && is_least g w)
          ≡ true
          → ((not (is_some (write_holder h o)) && not (is_some (first_reader h o))) && is_least h w)
          ≡ true
      write-before t =
          and_map (not (is_some (write_holder g o))
          && not (is_some (first_reader g o))) (is_least g w)
          (not (is_some (write_holder h o)) && not (is_some (first_reader h o))) (is_least h w)
          (λ e. sym (ap (λ k. not (is_some k) && not (is_some (first_reader g o))) q.writers
          ∙ ap (λ k. not (is_some (write_holder h o)) && not (is_some k)) q.readers) ∙ e)
          least-before t

      full-before : (length (at_barrier o (open_calls g)) == barrier_count (kind_of g o)) ≡ true
          → (length (at_barrier o (open_calls h)) == barrier_count (kind_of h o)) ≡ true
      full-before t =
          sym (ap (λ (ws : List WaitingCall). length ws == barrier_count (kind_of g o)) s.arrivals
          ∙ ap (λ k. length (at_barrier o (open_calls h)) == barrier_count k) q.kinds) ∙ t

  -- the object of a call of this role
  at_role : (role : Role) → w.role ≡ role → wait_object h w
      ≡ wait_object_by role (wait_move h w.place)
      w.object
  at_role role r = ap (λ x. wait_object_by x (wait_move h w.place) w.object) r

  module _ (q : Quiet h g (wait_object h w) w.client) (s : Stays h g (wait_object h w)) where
    quiet_at : (o : ℕ) → wait_object h w ≡ o → Quiet h g o w.client
    quiet_at o e = subst (λ (x : ℕ). Quiet h g x w.client) e q

    stays_at : (o : ℕ) → wait_object h w ≡ o → Stays h g o
    stays_at o e = subst (λ (x : ℕ). Stays h g x) e s

    moved_grantable : (m : ℕ) → w.role ≡ ForCond m → (o : Option Move) → wait_move h w.place ≡ o
        → (is_some o && (can_grant_mutex (mutex_view g m) (is_least g w)
        || can_grant_relock (mutex_view g m)
        w.client)) ≡ true
        → (is_some o && (can_grant_mutex (mutex_view h m) (is_least h w)
        || can_grant_relock (mutex_view h m)
        w.client)) ≡ true
    moved_grantable m r None e t = absurd cc
    moved_grantable m r (Some v) e t =
        let at : wait_object h w ≡ m = rw (r, e) refl in
        or_map (can_grant_mutex (mutex_view g m) (is_least g w)) (can_grant_relock
        (mutex_view g m) w.client)
        (can_grant_mutex (mutex_view h m) (is_least h w)) (can_grant_relock
        (mutex_view h m) w.client)
        (lock-before m at (stays_at m at) (quiet_at m at))
        (relock-before m at (stays_at m at) (quiet_at m at)) t

    grantable-before : (role : Role) → w.role ≡ role → is_grantable_as g w role ≡ true
        → is_grantable_as h w role ≡ true
    grantable-before ForMutex r t =
        let at = at_role ForMutex r in
        lock-before w.object at (stays_at w.object at) (quiet_at w.object at) t
    grantable-before ForRead r t =
        let at = at_role ForRead r in
        read-before w.object at (stays_at w.object at) (quiet_at w.object at) t
    grantable-before ForWrite r t =
        let at = at_role ForWrite r in
        write-before w.object at (stays_at w.object at) (quiet_at w.object at) t
    grantable-before ForBarrier r t = absurd cc
    grantable-before (ForCond m) r t =
        let same : wait_move g w.place ≡ wait_move h w.place = (s.stays w i refl).1 in
        moved_grantable m r (wait_move h w.place) refl
        (sym (ap (λ x. is_some x && (can_grant_mutex (mutex_view g m) (is_least g w)
        || can_grant_relock
        (mutex_view g m) w.client)) same) ∙ t)

    complete-before : is_at_full_barrier g w ≡ true → is_at_full_barrier h w ≡ true
    complete-before t = go w.role refl t
      where
        go : (role : Role) → w.role ≡ role → (is_barrier_wait role
            && (length (at_barrier w.object (open_calls g)) == barrier_count (kind_of g w.object)))
            ≡ true → (is_barrier_wait w.role && (length (at_barrier w.object (open_calls h))
            == barrier_count (kind_of h w.object))) ≡ true
        go ForBarrier r t =
            let at = at_role ForBarrier r in
            and_from (is_barrier_wait w.role) (length (at_barrier w.object (open_calls h))
            == barrier_count (kind_of h w.object)) (ap is_barrier_wait r)
            (full-before w.object at (stays_at w.object at) (quiet_at w.object at) t)
        go ForMutex r t = absurd cc
        go ForRead r t = absurd cc
        go ForWrite r t = absurd cc
        go (ForCond m) r t = absurd cc

    -- if nothing changed at its object, a call may be served only if it could be before
    pub served-before : can_be_served g w ≡ true → (can_be_served h w ≡ true)
        × (wait_object h w ≡ wait_object g w)
    served-before t = (
      or_map (is_grantable_as g w w.role) (is_at_full_barrier g w) (is_grantable_as h w w.role)
          (is_at_full_barrier h w) (grantable-before w.role refl) complete-before t,
      same_object (wait_object h w) refl s,
    )

-- the object that is touched is itself
pub itself : (t : Option ℕ) (o q : ℕ) → t ≡ Some q → q ≡ o → is_some_number t o ≡ false → ⊥
itself t o q e same k =
    let yes : (q == o) ≡ true = grind (arith, nat_tests) in
    false≢true (sym k ∙ (ap (λ x. is_some_number x o) e ∙ yes))

-- if an entry leaves no call waiting, an open call was open before it
pub was : (h : History) (e : Entry) → Follows h → Step h e → left h e ≡ [] → (w : WaitingCall)
    → In w (open_calls (h ▷ e)) → In w (open_calls h)
was h e f s none w i = go (was_open h e f s w i)
  where
    go : In w (open_calls h) ⊎ In w (left h e) → In w (open_calls h)
    go (inl j) = j
    go (inr j) = absurd (subst (λ (ws : List WaitingCall). In w ws) none j)
