-- One object is touched at a time, and the call that is served is the least there that may be
-- served.
use Rattle.std.proofs.Common.{◌≡◌, ℕ, Bool, true, false, cond, ◌&&◌, ◌||◌, ◌==◌, nat_lt, ◌⊎◌, inl}
use Rattle.std.proofs.Common.{inr, List, [], ◌∷◌, Option, Some, None, refl, sym, ap, ◌∙◌, subst}
use Rattle.std.proofs.Common.{arith, filter}
use Rattle.std.proofs.lemmas.Bool.Decides.{nat_tests}
use Rattle.std.proofs.lemmas.Bool.{and_parts, eq-eqb, false≢true}
use Rattle.std.specs.Option.{option_or}
use Rattle.pt_model.specs.declared.entry.Entry.{Entry}
use Rattle.pt_model.specs.declared.entry.Entry.TheVariants.{Join, Death, Moment, Grant, Trip, Yield}
use Rattle.pt_model.specs.declared.entry.Entry.TheVariants.{Expire}
use Rattle.pt_model.specs.Searches.{In, least, least_with}
use Rattle.pt_model.specs.Histories.{History, Begin, ◌▷◌, place}
use Rattle.pt_model.specs.declared.waiting_call.WaitingCall.{WaitingCall}
use Rattle.pt_model.specs.WaitingCall.{is_barrier_wait}
use Rattle.pt_model.specs.Answers.{open_calls}
use Rattle.pt_model.specs.Moves.{wait_object, precedes, waiting_at}
use Rattle.pt_model.specs.Grants.{is_grantable, is_at_full_barrier, grant_outcome}
use Rattle.pt_model.specs.Forced.{is_served_before, can_be_served, service, service_if}
use Rattle.pt_model.specs.Forced.{forced_yield}
use Rattle.pt_model.specs.Forced.{forced_expire, forced}
use Rattle.pt_model.specs.Seals.{seal}
use Rattle.pt_model.specs.SealLaws.{Agree}
use Rattle.pt_model.specs.Steps.{Step, joins, calls, dies, ticks, grants, trips, yields, expires}
use Rattle.pt_model.specs.Steps.{Follows}
use Rattle.pt_model.proofs.Induction.{by_steps}
use Rattle.pt_model.proofs.Agreeing.{seal_agrees, grantable-alike, complete-alike, object-alike}
use Rattle.pt_model.proofs.Lists.{In-filter, filter-in, filter-filter, filter-agree_on}
use Rattle.pt_model.proofs.Lists.{Each-from_in}
use Rattle.pt_model.proofs.Leasts.{least-in, least-none, none-least}
use Rattle.pt_model.proofs.Opens.{stands_at_barrier}
use Rattle.pt_model.proofs.Services.{none-served, or_left_true}
use Rattle.pt_next_grant.specs.Candidates.{served_call}
use Rattle.pt_next_grant.specs.TouchLaws.{AreTouched, WasServed}
use Rattle.pt_next_grant.specs.Touched.{next_service, object_if, service_object, service_object_by}
use Rattle.pt_next_grant.proofs.TouchedEntries.{touches, trip_leaves}
use Rattle.pt_next_grant.proofs.TouchedGrants.{grant_touched}

-- all calls that may be served wait at the object that is touched
abbrev pub AllTouched : History → Type 0
AllTouched h =
    (w : WaitingCall) → In w (open_calls h) → can_be_served h w ≡ true
    → service_object h ≡ Some (wait_object h w)

-- an entry that serves no call
abbrev serves_none : Entry → Type 0
serves_none f = (h : History) (w : WaitingCall) → service h w ≡ f → ⊥

-- if another entry is forced, no call may be served
unserved_by : (h : History) (f : Entry) → serves_none f → forced h ≡ Some f → (w : WaitingCall)
    → In w (open_calls h) → can_be_served h w ≡ true → ⊥
unserved_by h f no_service e w i t = go (next_service h) refl e
  where
    go : (o : Option WaitingCall) → next_service h ≡ o
        → option_or (service_if h o) (option_or (forced_yield h) (forced_expire h)) ≡ Some f → ⊥
    go None eo k =
        least-none (is_served_before h) (filter (can_be_served h) (open_calls h)) eo w
        (filter-in (can_be_served h) (open_calls h) w i t)
    go (Some u) eo k = let same : service h u ≡ f = cc in no_service h u same

no_yield : (m : ℕ) → serves_none (Yield m)
no_yield m h w e = go (is_barrier_wait w.role) e
  where
    go : (b : Bool) → cond b (Trip w.object) (Grant w.place (grant_outcome h w)) ≡ Yield m → ⊥
    go true k = cc
    go false k = cc

no_expire : (j : ℕ) → serves_none (Expire j)
no_expire j h w e = go (is_barrier_wait w.role) e
  where
    go : (b : Bool) → cond b (Trip w.object) (Grant w.place (grant_outcome h w)) ≡ Expire j → ⊥
    go true k = cc
    go false k = cc

-- an entry before which no call may be served
at_rest : (h : History) (e : Entry)
    → ((w : WaitingCall) → In w (open_calls h) → can_be_served h w ≡ true → ⊥)
    → (w : WaitingCall) → (service_object_by h e ≡ Some (wait_object (h ▷ e) w))
    ⊎ WasServed h (h ▷ e) w
    → service_object_by h e ≡ Some (wait_object (h ▷ e) w)
at_rest h e none w (inl k) = k
at_rest h e none w (inr k) = absurd (none w k.0 k.1.0)

pub quiet_rest : (h : History) → forced h ≡ None → (w : WaitingCall) → In w (open_calls h)
    → can_be_served h w ≡ true → ⊥
quiet_rest h n w i t = false≢true (sym (none-served h n w i) ∙ t)

-- at rest no call is served next
pub next_none : (h : History) → forced h ≡ None → next_service h ≡ None
next_none h n =
    none-least (is_served_before h) (filter (can_be_served h) (open_calls h))
    (λ w i. let p = In-filter (can_be_served h) (open_calls h) w i in quiet_rest h n w p.0 p.1)

-- after a Grant
still_touched : (h : History) (e : Entry) (t : Option ℕ) → ((v : WaitingCall) → In v (open_calls h)
    → can_be_served h v ≡ true → t ≡ Some (wait_object h v)) → (w : WaitingCall)
    → ((o : ℕ) → service_object_by h e ≡ Some o → t ≡ Some o)
    → (service_object_by h e ≡ Some (wait_object (h ▷ e) w)) ⊎ WasServed h (h ▷ e) w
    → t ≡ Some (wait_object (h ▷ e) w)
still_touched h e t all w from (inl k) = from (wait_object (h ▷ e) w) k
still_touched h e t all w from (inr k) = all w k.0 k.1.0 ∙ ap Some k.1.1

-- a call at a full barrier is served
served-complete : (h : History) (v : WaitingCall) → is_at_full_barrier h v ≡ true
    → can_be_served h v ≡ true
served-complete h v g = go (is_grantable h v) (is_at_full_barrier h v) g
  where
    go : (a b : Bool) → b ≡ true → (a || b) ≡ true
    go true b e = refl
    go false b e = e

-- such a call waits at that barrier
stands-complete : (h : History) (v : WaitingCall) → is_at_full_barrier h v ≡ true
    → stands_at_barrier v.object v ≡ true
stands-complete h v g =
    rw ((and_parts (is_barrier_wait v.role) _ g).0, eq-eqb v.object v.object refl) refl

service_object-step : (h : History) (e : Entry) → Follows h → Step h e → AllTouched h
    → (w : WaitingCall) → In w (open_calls (h ▷ e)) → can_be_served (h ▷ e) w ≡ true
    → (service_object_by h e ≡ Some (wait_object (h ▷ e) w)) ⊎ WasServed h (h ▷ e) w
    → service_object (h ▷ e) ≡ Some (wait_object (h ▷ e) w)
service_object-step h _ f (joins p n lt) ih w i t k = at_rest h (Join (place h) p)
    (quiet_rest h n) w k
service_object-step h _ f (calls c call n a o) ih w i t (inr k) = absurd
    (quiet_rest h n w k.0 k.1.0)
service_object-step h _ f (calls c call n a o) ih w i t (inl k) = k
service_object-step h _ f (dies c n a) ih w i t k = at_rest h (Death c) (quiet_rest h n) w k
service_object-step h _ f (ticks z m n) ih w i t k = at_rest h (Moment z m) (quiet_rest h n) w k
service_object-step h _ f (yields m s o) ih w i t k =
    at_rest h (Yield m) (unserved_by h (Yield m) (no_yield m) s) w k
service_object-step h _ f (expires v s j o) ih w i t k =
    at_rest h (Expire v.place) (unserved_by h (Expire v.place) (no_expire v.place) s) w k
service_object-step h _ f (grants v s j g) ih w i t k =
    still_touched h (Grant v.place (grant_outcome h v)) (service_object h) ih w
    (λ o e. ih v j (or_left_true (is_grantable h v) (is_at_full_barrier h v) g)
    ∙ (sym (grant_touched h v f (grants v s j g) j g) ∙ e)) k
service_object-step h _ f (trips v s j g) ih w i t (inl k) = absurd cc
service_object-step h _ f (trips v s j g) ih w i t (inr k) =
    let both : Some (wait_object h v) ≡ Some (wait_object h w) =
    sym (ih v j (served-complete h v g)) ∙ ih w k.0 k.1.0 in
    let same : wait_object h v ≡ wait_object h w = cc in
    absurd (trip_leaves h v.object f v w j (stands-complete h v g) i same)

module _ (h g : History) (a : Agree h g) (f : Follows h) where
  served-alike : (w : WaitingCall) → In w (open_calls h) → can_be_served h w ≡ can_be_served g w
  served-alike w i = rw (grantable-alike h g a f w i, complete-alike h g a f w) refl

  -- a call that may be served in one of two histories that agree may be served in the other
  was_served : (w : WaitingCall) → In w (open_calls g) → can_be_served g w ≡ true → WasServed h g w
  was_served w i t =
      let old : In w (open_calls h) = subst (λ (ws : List WaitingCall). In w ws) (sym a.calls) i in
      (old, (served-alike w old ∙ t, object-alike h g a f w old))

  -- all such calls wait at the touched object there too
  service_object-alike : AllTouched h → (w : WaitingCall) → In w (open_calls g) → can_be_served g w
      ≡ true
      → object_if g (next_service g) ≡ Some (wait_object g w)
  service_object-alike all w i t = go (next_service g) refl
    where
      go : (o : Option WaitingCall) → next_service g ≡ o → object_if g o ≡ Some (wait_object g w)
      go None e =
          absurd (least-none (is_served_before g) (filter (can_be_served g) (open_calls g)) e w
          (filter-in (can_be_served g) (open_calls g) w i t))
      go (Some v) e =
          let p =
          In-filter (can_be_served g) (open_calls g) v
          (least-in (is_served_before g) (filter (can_be_served g) (open_calls g)) v e) in
          let x = was_served v p.0 p.1 in
          let y = was_served w i t in
          let both : Some (wait_object h v) ≡ Some (wait_object h w) =
          sym (all v x.0 x.1.0) ∙ all w y.0 y.1.0 in
          let same : wait_object h v ≡ wait_object h w = cc in
          ap Some (sym x.1.1 ∙ (same ∙ y.1.1))

pub are_touched : AreTouched
are_touched h f =
    by_steps AllTouched (λ w i t. absurd i)
    (λ h e f all s w i t. service_object-step h e f s all w i t (touches h e f s w i t))
    (λ h f all. service_object-alike h (Begin (seal h)) (seal_agrees h f) f all) h f

-- two orders that agree on a list have the same least element
least-same : {X : Type 0} (lt gt : X → X → Bool) (xs : List X)
    → ((x y : X) → In x xs → In y xs → lt x y ≡ gt x y) → least lt xs ≡ least gt xs
least-same lt gt [] e = refl
least-same lt gt (x ∷ xs) e =
    ap (least_with lt x) (least-same lt gt xs (λ y z i j. e y z (inr i) (inr j)))
    ∙ go (least gt xs) refl
  where
    go : (o : Option _) → least gt xs ≡ o → least_with lt x o ≡ least_with gt x o
    go None eo = refl
    go (Some y) eo =
        ap (λ b. cond b (Some y) (Some x)) (e y x (inr (least-in gt xs y eo)) (inl refl))

-- if no object is touched, no call is served
pub served-none : (h : History) → Follows h → service_object h ≡ None
    → next_service h ≡ None
served-none h f n =
    none-least (is_served_before h) (filter (can_be_served h) (open_calls h))
    (λ w i. let p = In-filter (can_be_served h) (open_calls h) w i in
    let some = are_touched h f w p.0 p.1 in
    let wrong : ◌≡◌ {A = Option ℕ} None (Some (wait_object h w)) = sym n ∙ some in cc)

-- the call that is served is the one that is served at the touched object
pub served-service_object : (h : History) (o : ℕ) → Follows h → service_object h ≡ Some o
    → next_service h ≡ served_call h o
served-service_object h o f e =
    ap (least (is_served_before h)) (sym all)
    ∙ least-same (is_served_before h) (precedes h) (filter (can_be_served h) (waiting_at h o))
    (λ v w i j. same v w (there v i) (there w j))
  where
    here : (w : WaitingCall) → In w (open_calls h) → can_be_served h w ≡ true → wait_object h w ≡ o
    here w i t =
        let some : Some (wait_object h w) ≡ Some o = sym (are_touched h f w i t) ∙ e in cc

    all : filter (can_be_served h) (waiting_at h o) ≡ filter (can_be_served h) (open_calls h)
    all =
        filter-filter (can_be_served h) (λ w. wait_object h w == o) (open_calls h)
        ∙ filter-agree_on (λ w. (wait_object h w == o)
        && can_be_served h w) (can_be_served h) (open_calls h)
        (Each-from_in (λ w. ((wait_object h w == o) && can_be_served h w) ≡ can_be_served h w)
        (open_calls h) (λ w i. go w i (can_be_served h w) refl))
      where
        go : (w : WaitingCall) → In w (open_calls h) → (b : Bool) → can_be_served h w ≡ b
            → ((wait_object h w == o) && b) ≡ b
        go w i true t =
            let at : wait_object h w ≡ o = here w i t in
            let yes : (wait_object h w == o) ≡ true = grind (arith, nat_tests) in
            rw yes refl
        go w i false t = none (wait_object h w == o)
          where
            none : (b : Bool) → (b && false) ≡ false
            none true = refl
            none false = refl

    there : (w : WaitingCall) → In w (filter (can_be_served h) (waiting_at h o)) → wait_object h w
        ≡ o
    there w i =
        let p = In-filter (can_be_served h) (waiting_at h o) w i in
        let q = In-filter (λ (u : WaitingCall). wait_object h u == o) (open_calls h) w p.0 in
        let t : (wait_object h w == o) ≡ true = q.1 in grind (arith, nat_tests)

    same : (v w : WaitingCall) → wait_object h v ≡ o → wait_object h w ≡ o → is_served_before h v w
        ≡ precedes h v w
    same v w a b = go (wait_object h v) (wait_object h w) (precedes h v w) (a ∙ sym b)
      where
        go : (x y : ℕ) (p : Bool) → x ≡ y → (nat_lt x y || ((x == y) && p)) ≡ p
        go x y true e = grind (arith, nat_tests)
        go x y false e = grind (arith, nat_tests)
