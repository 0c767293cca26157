-- A client that asks for a read lock which it holds has just made that call.
use Rattle.std.proofs.Common.{◌≡◌, ℕ, suc, Bool, true, false, cond, not, ◌&&◌, ◌||◌, ◌==◌, nat_lt}
use Rattle.std.proofs.Common.{◌⊎◌, inl, inr, List, Option, Some, None, is_some, refl, sym, ap, ◌∙◌}
use Rattle.std.proofs.Common.{subst, arith, filter}
use Rattle.std.proofs.lemmas.Bool.Decides.{nat_tests}
use Rattle.std.proofs.lemmas.Bool.{and_parts, and_from, false≢true}
use Rattle.pt_types.specs.Tables.{reply}
use Rattle.pt_model.specs.declared.entry.Entry.{Entry}
use Rattle.pt_model.specs.declared.entry.Entry.TheVariants.{Grant}
use Rattle.pt_model.specs.Searches.{In, least}
use Rattle.pt_model.specs.Histories.{History, Begin, ◌▷◌, place}
use Rattle.pt_model.specs.declared.waiting_call.WaitingCall.{WaitingCall}
use Rattle.pt_model.specs.declared.waiting_call.Role.{Role}
use Rattle.pt_model.specs.declared.waiting_call.Role.TheVariants.{ForMutex, ForRead, ForWrite}
use Rattle.pt_model.specs.declared.waiting_call.Role.TheVariants.{ForBarrier, ForCond}
use Rattle.pt_model.specs.Answers.{open_calls}
use Rattle.pt_model.specs.Moves.{wait_move, precedes}
use Rattle.pt_model.specs.Queries.{client_of_found}
use Rattle.pt_model.specs.Seals.{seal}
use Rattle.pt_model.specs.SealLaws.{Agree}
use Rattle.pt_model.specs.Rwlocks.{is_reader_here, reads_after_unlock, is_writer, read_count}
use Rattle.pt_model.specs.Rwlocks.{write_holder}
use Rattle.pt_model.specs.Grants.{is_blocked, is_grantable_as, is_at_full_barrier, grant_outcome}
use Rattle.pt_model.specs.Forced.{forced, can_be_served}
use Rattle.pt_model.specs.Verdicts.{verdict}
use Rattle.pt_model.specs.Steps.{Step, joins, calls, dies, ticks, grants, trips, yields, expires}
use Rattle.pt_model.specs.Steps.{Follows}
use Rattle.pt_model.proofs.Lists.{In-filter, filter-in}
use Rattle.pt_model.proofs.Leasts.{least-in, least-none, none-least, first_below-passes}
use Rattle.pt_model.proofs.Induction.{by_steps}
use Rattle.pt_model.proofs.Agreeing.{seal_agrees}
use Rattle.pt_model.proofs.Seats.{HousedBy, housed}
use Rattle.pt_model.proofs.Effects.{Effect, Idle, Creates, Removes, Relocks, Frees, Mends, Returns}
use Rattle.pt_model.proofs.Effects.{Wakes, Waits, effect, Allowed}
use Rattle.pt_model.proofs.Allowances.{allowed}
use Rattle.pt_model.proofs.Changes.{left_by, returns_it}
use Rattle.pt_model.proofs.Readings.{reads-call}
use Rattle.pt_model.proofs.Opens.{left, was_open, open-grant}
use Rattle.pt_model.proofs.OneEach.{one_each}
use Rattle.pt_model.proofs.Rwlocks.{alone, read_count-grant}
use Rattle.pt_model.proofs.Services.{none-served, or_true, or_left_true}
use Rattle.pt_next_grant.specs.Candidates.{latest_caller, is_read_lock, is_read_relock}
use Rattle.pt_next_grant.specs.TouchLaws.{HasJustCome}

-- an open call for a read lock that its client holds belongs to the client whose call came last
abbrev pub AllCome : History → Type 0
AllCome h =
    (w : WaitingCall) → In w (open_calls h) → w.role ≡ ForRead
    → nat_lt 0 (read_count h w.object w.client) ≡ true → latest_caller h ≡ Some w.client

pub read_role : (role : Role) → is_read_lock role ≡ true → role ≡ ForRead
read_role ForRead e = refl
read_role ForMutex e = absurd cc
read_role ForWrite e = absurd cc
read_role ForBarrier e = absurd cc
read_role (ForCond m) e = absurd cc

-- a reader that holds a lock may have it again
pub holder_served : (h : History) → Follows h → (w : WaitingCall) → w.role ≡ ForRead
    → nat_lt 0 (read_count h w.object w.client) ≡ true → can_be_served h w ≡ true
holder_served h f w r t =
    or_left_true (is_grantable_as h w w.role) (is_at_full_barrier h w)
    (ap (is_grantable_as h w) r
    ∙ and_from (not (is_some (write_holder h w.object)))
    (not (is_blocked h w.object w.priority) || nat_lt 0 (read_count h w.object w.client))
    (unwritten (write_holder h w.object) refl)
    (or_true (not (is_blocked h w.object w.priority)) (nat_lt 0
    (read_count h w.object w.client)) t))
  where
    unwritten : (x : Option ℕ) → write_holder h w.object ≡ x → not (is_some x) ≡ true
    unwritten None e = refl
    unwritten (Some c) e =
        let wrote : is_writer h w.object c ≡ true =
        first_below-passes (place h) (λ d. is_writer h w.object d) c e in
        absurd (false≢true (sym (alone h f w.object c w.client wrote).1 ∙ t))

-- so at rest no open call is for a read lock that its client holds
rest : (h : History) → Follows h → forced h ≡ None → (w : WaitingCall) → In w (open_calls h)
    → w.role ≡ ForRead → nat_lt 0 (read_count h w.object w.client) ≡ true → ⊥
rest h f n w i r t = false≢true (sym (none-served h n w i) ∙ holder_served h f w r t)

-- an effect that leaves a call waiting is that this call waits
waits_new : (E : Effect) (w : WaitingCall) → In w (left_by E) → E ≡ Waits w
waits_new (Waits v) w (inl e) = ap Waits (sym e)
waits_new (Waits v) w (inr i) = absurd i
waits_new Idle w i = absurd i
waits_new (Creates n kind) w i = absurd i
waits_new (Removes n s q) w i = absurd i
waits_new (Relocks m) w i = absurd i
waits_new (Frees m) w i = absurd i
waits_new (Mends m) w i = absurd i
waits_new (Returns r) w i = absurd i
waits_new (Wakes n all) w i = absurd i

-- such a call is the caller's own
new_client : (h : History) (c : ℕ) (E : Effect) → Allowed h c E → (w : WaitingCall)
    → In w (left_by E) → w.client ≡ c
new_client h c E a w i =
    ap (λ (u : WaitingCall). u.client) (subst (λ x. Allowed h c x) (waits_new E w i) a).0

fewer : (n : ℕ) (b x : Bool) → nat_lt 0 (cond b (reads_after_unlock x n) n) ≡ true → nat_lt 0 n
    ≡ true
fewer n true true e = e
fewer n true false e = grind (arith, nat_tests)
fewer n false x e = e

come-step : (h : History) (e : Entry) → Follows h → Step h e → (w : WaitingCall) → w.role ≡ ForRead
    → (In w (open_calls h) → nat_lt 0 (read_count h w.object w.client) ≡ true → latest_caller h
    ≡ Some w.client)
    → nat_lt 0 (read_count (h ▷ e) w.object w.client) ≡ true → In w (open_calls (h ▷ e))
    → In w (open_calls h) ⊎ In w (left h e) → latest_caller (h ▷ e) ≡ Some w.client
come-step h _ f (joins p n lt) w r ih t now (inl i) = absurd (rest h f n w i r t)
come-step h _ f (joins p n lt) w r ih t now (inr i) = absurd i
come-step h _ f (dies c n a) w r ih t now (inl i) = absurd (rest h f n w i r t)
come-step h _ f (dies c n a) w r ih t now (inr i) = absurd i
come-step h _ f (ticks z m n) w r ih t now (inl i) = absurd (rest h f n w i r t)
come-step h _ f (ticks z m n) w r ih t now (inr i) = absurd i
come-step h _ f (calls c call n a o) w r ih t now (inl i) =
    absurd (rest h f n w i r (fewer (read_count h w.object w.client)
    (returns_it (effect h c call (reply (verdict h c call))) w.object && (c == w.client))
    (is_writer h w.object w.client)
    (sym (ap (nat_lt 0) (reads-call h c call (reply (verdict h c call)) w.object w.client
    (read_count h w.object w.client))) ∙ t)))
come-step h _ f (calls c call n a o) w r ih t now (inr i) =
    ap Some (sym (new_client h c (effect h c call (reply (verdict h c call))) (allowed h c call) w
    i))
come-step h _ f (trips v s j o) w r ih t now (inl i) = ih i t
come-step h _ f (trips v s j o) w r ih t now (inr i) = absurd i
come-step h _ f (yields m s o) w r ih t now (inl i) = ih i t
come-step h _ f (yields m s o) w r ih t now (inr i) = absurd i
come-step h _ f (expires v s j o) w r ih t now (inl i) = ih i t
come-step h _ f (expires v s j o) w r ih t now (inr i) = absurd i
come-step h _ f (grants v s j g) w r ih t now (inr i) = absurd i
come-step h _ f (grants v s j g) w r ih t now (inl i) = go (v.client == w.client) refl
  where
    after : read_count (h ▷ Grant v.place (grant_outcome h v)) w.object w.client
        ≡ cond (is_reader_here v.role ((v.object == w.object) && (v.client == w.client)))
        (suc (read_count h w.object w.client)) (read_count h w.object w.client)
    after = read_count-grant h v (grant_outcome h v) w.object w.client f j

    p : In w (open_calls h) × (not (w.place == v.place) ≡ true)
    p =
        In-filter (λ u. not (u.place == v.place)) (open_calls h) w
        (subst (λ (ws : List WaitingCall). In w ws) (open-grant h v.place (grant_outcome h v)) now)

    nothing : (b : Bool) → (b && false) ≡ false
    nothing true = refl
    nothing false = refl

    unread : (b : Bool) → b ≡ false → is_reader_here v.role b ≡ false
    unread true e = absurd cc
    unread false e = none v.role
      where
        none : (role : _) → is_reader_here role false ≡ false
        none ForRead = refl
        none _ = refl

    go : (b : Bool) → (v.client == w.client) ≡ b → latest_caller h ≡ Some w.client
    go true e =
        let same : v.client ≡ w.client = grind (arith, nat_tests) in
        let one : v ≡ w = one_each h f v w j i same in
        let at : w.place ≡ v.place = ap (λ (u : WaitingCall). u.place) (sym one) in
        let yes : (w.place == v.place) ≡ true = grind (arith, nat_tests) in
        absurd (false≢true (sym (ap not yes) ∙ p.1))
    go false e =
        ih i (sym (ap (nat_lt 0) (after
        ∙ ap (λ b. cond b (suc (read_count h w.object w.client)) (read_count h w.object w.client))
        (unread ((v.object == w.object) && (v.client == w.client))
        (ap (λ b. (v.object == w.object) && b) e ∙ nothing (v.object == w.object))))) ∙ t)

module _ (h g : History) (a : Agree h g) (f : Follows h) where
  -- two histories that agree have the same read locks at the object of a waiting reader
  read_count-alike : (w : WaitingCall) → In w (open_calls h) → w.role ≡ ForRead
      → read_count h w.object w.client ≡ read_count g w.object w.client
  read_count-alike w i r =
      a.readers w.object w.client
      (subst (λ (role : Role). HousedBy h role (wait_move h w.place) w.object) r (housed h f w i)).0

  -- in both, all calls that ask again for a read lock belong to one client
  come-alike : AllCome h → (w : WaitingCall) → In w (open_calls g) → w.role ≡ ForRead
      → nat_lt 0 (read_count g w.object w.client) ≡ true
      → client_of_found (least (precedes g) (filter (is_read_relock g) (open_calls g)))
      ≡ Some w.client
  come-alike all w i r t = go (least (precedes g) (filter (is_read_relock g) (open_calls g))) refl
    where
      came : (v : WaitingCall) → In v (open_calls g) → v.role ≡ ForRead
          → nat_lt 0 (read_count g v.object v.client) ≡ true → latest_caller h ≡ Some v.client
      came v j q k =
          let old : In v (open_calls h) =
          subst (λ (ws : List WaitingCall). In v ws) (sym a.calls) j in
          all v old q (ap (nat_lt 0) (read_count-alike v old q) ∙ k)

      go : (o : Option WaitingCall)
          → least (precedes g) (filter (is_read_relock g) (open_calls g)) ≡ o
          → client_of_found o ≡ Some w.client
      go None e =
          absurd (least-none (precedes g) (filter (is_read_relock g) (open_calls g)) e w
          (filter-in (is_read_relock g) (open_calls g) w i
          (and_from (is_read_lock w.role) (nat_lt 0 (read_count g w.object w.client))
          (ap is_read_lock r) t)))
      go (Some v) e =
          let p =
          In-filter (is_read_relock g) (open_calls g) v
          (least-in (precedes g) (filter (is_read_relock g) (open_calls g)) v e) in
          let q = and_parts (is_read_lock v.role) (nat_lt 0 (read_count g v.object v.client)) p.1 in
          sym (came v p.0 (read_role v.role q.0) q.1) ∙ came w i r t

-- an open call for a read lock that its client holds has just come
pub all_come : (h : History) → Follows h → AllCome h
all_come h f =
    by_steps AllCome (λ w i r t. absurd i)
    (λ h e f all s w i r t. come-step h e f s w r (λ j k. all w j r k) t i (was_open h e f s w i))
    (λ h f all. come-alike h (Begin (seal h)) (seal_agrees h f) f all) h f

pub has_just_come : HasJustCome
has_just_come h f w i t =
    let p = and_parts (is_read_lock w.role) (nat_lt 0 (read_count h w.object w.client)) t in
    all_come h f w i (read_role w.role p.0) p.1

-- at rest no client asks for a read lock that it holds
pub none_again : (h : History) → Follows h → forced h ≡ None
    → least (precedes h) (filter (is_read_relock h) (open_calls h)) ≡ None
none_again h f n =
    none-least (precedes h) (filter (is_read_relock h) (open_calls h))
    (λ w i. let p = In-filter (is_read_relock h) (open_calls h) w i in
    let q = and_parts (is_read_lock w.role) (nat_lt 0 (read_count h w.object w.client)) p.1 in
    rest h f n w p.0 (read_role w.role q.0) q.1)
