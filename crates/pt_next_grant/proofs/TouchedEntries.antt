-- A call that may be served after an entry waits at what the entry touches, or could be served
-- before.
use Rattle.std.proofs.Common.{◌≡◌, ℕ, Bool, true, false, cond, not, ◌==◌, nat_lt, ◌⊎◌, inl, inr}
use Rattle.std.proofs.Common.{List, Option, Some, None, refl, sym, ap, ◌∙◌, subst, arith}
use Rattle.std.proofs.lemmas.Bool.Decides.{nat_tests}
use Rattle.std.proofs.lemmas.Bool.{and_parts, false≢true}
use Rattle.pt_types.specs.declared.operations.ObjectClass.TheVariants.{Barrier as BarrierClass}
use Rattle.pt_types.specs.MutexTable.{is_some_number, is_not_recoverable, after_yield}
use Rattle.pt_model.specs.declared.entry.Entry.{Entry}
use Rattle.pt_model.specs.declared.entry.Entry.TheVariants.{Join, Death, Moment, Trip, Yield}
use Rattle.pt_model.specs.Searches.{In}
use Rattle.pt_model.specs.Histories.{History, ◌▷◌, place}
use Rattle.pt_model.specs.Objects.{is_class, kind_of}
use Rattle.pt_model.specs.declared.waiting_call.WaitingCall.{WaitingCall}
use Rattle.pt_model.specs.declared.waiting_call.Move.{Move}
use Rattle.pt_model.specs.declared.waiting_call.Role.{Role}
use Rattle.pt_model.specs.declared.waiting_call.Role.TheVariants.{ForMutex, ForRead, ForWrite}
use Rattle.pt_model.specs.declared.waiting_call.Role.TheVariants.{ForBarrier, ForCond}
use Rattle.pt_model.specs.WaitingCall.{is_barrier_wait}
use Rattle.pt_model.specs.Answers.{open_calls}
use Rattle.pt_model.specs.Moves.{wait_move, wait_object_by, wait_object}
use Rattle.pt_model.specs.Mutexes.{mutex_count, consistency}
use Rattle.pt_model.specs.Forced.{can_be_served}
use Rattle.pt_model.specs.Steps.{Step, joins, calls, dies, ticks, grants, trips, yields, expires}
use Rattle.pt_model.specs.Steps.{Follows}
use Rattle.pt_model.proofs.Lists.{In-filter}
use Rattle.pt_model.proofs.Opens.{stands_at_barrier, open-join, open-moment, open-yield, open-death}
use Rattle.pt_model.proofs.Opens.{open-trip}
use Rattle.pt_model.proofs.Sound.{Fresh-follows}
use Rattle.pt_model.proofs.Seats.{seat, housed, one_class}
use Rattle.pt_model.proofs.Counts.{mutex_count-yield}
use Rattle.pt_next_grant.specs.TouchLaws.{Touches, WasServed}
use Rattle.pt_next_grant.proofs.TouchedCalls.{call-aside}
use Rattle.pt_next_grant.proofs.Unchanged.{Quiet, itself, was, quiet-entry, stays-filter, stays-all}
use Rattle.pt_next_grant.proofs.Unchanged.{served-before}
use Rattle.pt_next_grant.proofs.TouchedGrants.{grant_aside}
use Rattle.pt_next_grant.proofs.TouchedExpiries.{expire_aside}
use Rattle.pt_next_grant.proofs.ClientCalls.{open_call-found}
use Rattle.pt_next_grant.specs.Touched.{object_if, service_object_by}

numbered : (o : Option ℕ) (c : ℕ) → is_some_number o c ≡ true → o ≡ Some c
numbered None c e = absurd cc
numbered (Some d) c e = let same : d ≡ c = grind (arith, nat_tests) in ap Some same

-- a Death touches the object at which its client's call waited
pub death-touched : (h : History) (c : ℕ) (v : WaitingCall) → Follows h → In v (open_calls h)
    → v.client ≡ c → service_object_by h (Death c) ≡ Some (wait_object h v)
death-touched h c v f i e = ap (object_if h) (open_call-found h f v c i e)

-- an entry that changes nothing but clients and the clock
quiet_after : (h : History) (e : Entry) → Follows h → open_calls (h ▷ e) ≡ open_calls h
    → ((w : WaitingCall) → Quiet h (h ▷ e) (wait_object h w) w.client)
    → ((j : ℕ) → wait_move (h ▷ e) j ≡ wait_move h j) → (w : WaitingCall)
    → In w (open_calls (h ▷ e))
    → can_be_served (h ▷ e) w ≡ true → WasServed h (h ▷ e) w
quiet_after h e f same quiet moves w i t =
    let old : In w (open_calls h) = subst (λ (ws : List WaitingCall). In w ws) same i in (
      old,
      served-before h (h ▷ e) w old (quiet w)
          (stays-all h (h ▷ e) (wait_object h w) same (λ v j at. moves v.place)) t,
    )

death_aside : (h : History) (c : ℕ) → Follows h → Step h (Death c) → (w : WaitingCall)
    → In w (open_calls (h ▷ Death c)) → can_be_served (h ▷ Death c) w ≡ true
    → is_some_number (service_object_by h (Death c)) (wait_object h w) ≡ false
    → WasServed h (h ▷ Death c) w
death_aside h c f s w i t k =
    let old : In w (open_calls h) = was h (Death c) f s refl w i in (
      old,
      served-before h (h ▷ Death c) w old
          (quiet-entry h (Death c) (wait_object h w) w.client f (λ d. refl) refl refl (λ d. refl)
          (λ d. refl))
          (stays-filter h (h ▷ Death c) (wait_object h w) (λ v. not (v.client == c))
          (open-death h c)
          (λ v j at. (other v j at (v.client == c) refl, refl))) t,
    )
  where
    other : (v : WaitingCall) → In v (open_calls h) → wait_object h v ≡ wait_object h w → (b : Bool)
        → (v.client == c) ≡ b → not b ≡ true
    other v j at false e = refl
    other v j at true e =
        let own : v.client ≡ c = grind (arith, nat_tests) in
        absurd (itself (service_object_by h (Death c)) (wait_object h w) (wait_object h v)
        (death-touched h c v f j own) at k)

-- a call that waits at the same object as an arrival is an arrival too
at_full : (h : History) → Follows h → (u w : WaitingCall) (b : ℕ) → In u (open_calls h)
    → In w (open_calls h) → stands_at_barrier b u ≡ true → wait_object h u ≡ wait_object h w
    → stands_at_barrier b w ≡ true
at_full h f u w b i j t at = go u.role refl (and_parts (is_barrier_wait u.role) (u.object == b) t)
  where
    arrives : (role : Role) (o : Option Move) → w.role ≡ role → wait_move h w.place ≡ o
        → seat role o ≡ BarrierClass → wait_object h w ≡ b → stands_at_barrier b w ≡ true
    arrives ForBarrier o r e s q =
        let here : w.object ≡ b =
        sym (ap (λ x. wait_object_by x (wait_move h w.place) w.object) r) ∙ q in
        let yes : (w.object == b) ≡ true = grind (arith, nat_tests) in
        rw (r, yes) refl
    arrives ForMutex o r e s q = absurd cc
    arrives ForRead o r e s q = absurd cc
    arrives ForWrite o r e s q = absurd cc
    arrives (ForCond m) None r e s q = absurd cc
    arrives (ForCond m) (Some k) r e s q = absurd cc

    go : (role : Role) → u.role ≡ role → (is_barrier_wait u.role ≡ true) × ((u.object == b) ≡ true)
        → stands_at_barrier b w ≡ true
    go ForBarrier r p =
        let there : wait_object h u ≡ u.object = ap (λ x. wait_object_by x
        (wait_move h u.place) u.object) r in
        let here : u.object ≡ b =
        let k : (u.object == b) ≡ true = p.1 in grind (arith, nat_tests) in
        let class : seat u.role (wait_move h u.place) ≡ BarrierClass =
        ap (λ x. seat x (wait_move h u.place)) r in
        arrives w.role (wait_move h w.place) refl refl
        (one_class (kind_of h (wait_object h w)) (seat w.role (wait_move h w.place)) BarrierClass
        (housed h f w j).0 (ap (λ q. is_class (kind_of h q) BarrierClass) (sym at)
        ∙ (ap (is_class (kind_of h (wait_object h u))) (sym class) ∙ (housed h f u i).0)))
        (sym at ∙ (there ∙ here))
    go ForMutex r p = absurd (false≢true (sym (ap is_barrier_wait r) ∙ p.0))
    go ForRead r p = absurd (false≢true (sym (ap is_barrier_wait r) ∙ p.0))
    go ForWrite r p = absurd (false≢true (sym (ap is_barrier_wait r) ∙ p.0))
    go (ForCond m) r p = absurd (false≢true (sym (ap is_barrier_wait r) ∙ p.0))

trip_aside : (h : History) (b : ℕ) → Follows h → Step h (Trip b) → (w : WaitingCall)
    → In w (open_calls (h ▷ Trip b)) → can_be_served (h ▷ Trip b) w ≡ true
    → WasServed h (h ▷ Trip b) w
trip_aside h b f s w i t =
    let p =
    In-filter (λ u. not (stands_at_barrier b u)) (open_calls h) w
    (subst (λ (ws : List WaitingCall). In w ws) (open-trip h b f) i) in (
      p.0,
      served-before h (h ▷ Trip b) w p.0
          (quiet-entry h (Trip b) (wait_object h w) w.client f (λ d. refl) refl refl (λ d. refl)
          (λ d. refl))
          (stays-filter h (h ▷ Trip b) (wait_object h w) (λ u. not (stands_at_barrier b u))
          (open-trip h b f)
          (λ u j at. (other p.0 p.1 u j at (stands_at_barrier b u) refl, refl))) t,
    )
  where
    other : In w (open_calls h) → not (stands_at_barrier b w) ≡ true → (u : WaitingCall)
        → In u (open_calls h) → wait_object h u ≡ wait_object h w → (x : Bool)
        → stands_at_barrier b u ≡ x → not x ≡ true
    other old away u j at false e = refl
    other old away u j at true e =
        absurd (false≢true (sym (ap not (at_full h f u w b j old e at)) ∙ away))

-- no call remains there
pub trip_leaves : (h : History) (b : ℕ) → Follows h → (v w : WaitingCall) → In v (open_calls h)
    → stands_at_barrier b v ≡ true → In w (open_calls (h ▷ Trip b))
    → wait_object h v ≡ wait_object h w → ⊥
trip_leaves h b f v w j e i at =
    let p =
    In-filter (λ u. not (stands_at_barrier b u)) (open_calls h) w
    (subst (λ (ws : List WaitingCall). In w ws) (open-trip h b f) i) in
    false≢true (sym (ap not (at_full h f v w b j p.0 e at)) ∙ p.1)

yield_aside : (h : History) (m : ℕ) → Follows h → (w : WaitingCall)
    → In w (open_calls (h ▷ Yield m)) → can_be_served (h ▷ Yield m) w ≡ true
    → (m == wait_object h w) ≡ false → WasServed h (h ▷ Yield m) w
yield_aside h m f w i t k =
    let old : In w (open_calls h) =
    subst (λ (ws : List WaitingCall). In w ws) (open-yield h m) i in (
      old,
      served-before h (h ▷ Yield m) w old
          (quiet-entry h (Yield m) (wait_object h w) w.client f
          (λ d. ap (nat_lt 0) (mutex_count-yield h m (wait_object h w) d
          ∙ ap (λ b. cond b 0 (mutex_count h (wait_object h w) d)) k))
          (ap (λ b. is_not_recoverable (cond b (after_yield (consistency h (wait_object h w)))
          (consistency h (wait_object h w)))) k) refl (λ d. refl) (λ d. refl))
          (stays-all h (h ▷ Yield m) (wait_object h w) (open-yield h m) (λ v j at. refl)) t,
    )

-- a call that may be served after an entry, and does not wait at what the entry touches, could be
-- served before
aside : (h : History) (e : Entry) → Follows h → Step h e → (w : WaitingCall)
    → In w (open_calls (h ▷ e)) → can_be_served (h ▷ e) w ≡ true
    → is_some_number (service_object_by h e) (wait_object (h ▷ e) w) ≡ false → WasServed h (h ▷ e) w
aside h _ f (joins p n lt) w i t k =
    quiet_after h (Join (place h) p) f (open-join h p (Fresh-follows h f))
    (λ v. quiet-entry h (Join (place h) p) (wait_object h v) v.client f (λ d. refl) refl refl
    (λ d. refl) (λ d. refl)) (λ j. refl) w i t
aside h _ f (ticks z m n) w i t k =
    quiet_after h (Moment z m) f (open-moment h z m)
    (λ v. quiet-entry h (Moment z m) (wait_object h v) v.client f (λ d. refl) refl refl
    (λ d. refl) (λ d. refl)) (λ j. refl) w i t
aside h _ f (calls c call n a o) w i t k =
    call-aside h c call f a (calls c call n a o) w i t k
aside h _ f (dies c n a) w i t k = death_aside h c f (dies c n a) w i t k
aside h _ f (grants v s j g) w i t k = grant_aside h v f (grants v s j g) j g w i t k
aside h _ f (trips v s j g) w i t k = trip_aside h v.object f (trips v s j g) w i t
aside h _ f (yields m s g) w i t k = yield_aside h m f w i t k
aside h _ f (expires v s j g) w i t k = expire_aside h v f (expires v s j g) j g w i t k

pub touches : Touches
touches h e f s w i t = go (is_some_number (service_object_by h e) (wait_object (h ▷ e) w)) refl
  where
    go : (b : Bool) → is_some_number (service_object_by h e) (wait_object (h ▷ e) w) ≡ b
        → (service_object_by h e ≡ Some (wait_object (h ▷ e) w)) ⊎ WasServed h (h ▷ e) w
    go true k = inl (numbered (service_object_by h e) (wait_object (h ▷ e) w) k)
    go false k = inr (aside h e f s w i t k)
