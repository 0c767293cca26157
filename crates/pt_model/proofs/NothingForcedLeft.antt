-- If no entry is forced, nothing that must follow is left.
use Rattle.std.proofs.Common.{◌≡◌, ℕ, ◌<◌, Bool, true, false, cond, ◌==◌, List, [], ◌∷◌, length}
use Rattle.std.proofs.Common.{Option, Some, None, is_some, inl, refl, sym, ap, ◌∙◌, subst, arith}
use Rattle.std.proofs.lemmas.Bool.Decides.{nat_tests}
use Rattle.std.proofs.lemmas.Bool.{and_parts, and_from, false≢true}
use Rattle.pt_types.specs.declared.call.ObjectKind.{ObjectKind}
use Rattle.pt_types.specs.declared.call.ObjectKind.TheVariants.{Barrier}
use Rattle.pt_types.specs.ObjectTable.{is_invalid_kind}
use Rattle.pt_types.specs.Tables.{reply}
use Rattle.pt_model.specs.declared.entry.Entry.{Entry}
use Rattle.pt_model.specs.Searches.{In}
use Rattle.pt_model.specs.Histories.{History, ◌▷◌, place, history_since}
use Rattle.pt_model.specs.Objects.{kind_of, is_robust, barrier_count}
use Rattle.pt_model.specs.declared.waiting_call.WaitingCall.{WaitingCall}
use Rattle.pt_model.specs.WaitingCall.{is_barrier_wait}
use Rattle.pt_model.specs.Answers.{open_calls, at_barrier}
use Rattle.pt_model.specs.Mutexes.{owner}
use Rattle.pt_model.specs.Grants.{is_grantable, is_at_full_barrier}
use Rattle.pt_model.specs.Forced.{is_orphan, is_dead_if, forced}
use Rattle.pt_model.specs.Verdicts.{verdict}
use Rattle.pt_model.specs.Steps.{Step, joins, calls, dies, ticks, grants, trips, yields, expires}
use Rattle.pt_model.specs.Steps.{Follows}
use Rattle.pt_model.specs.GrantLaws.{IsSettled, NothingForcedLeft}
use Rattle.pt_model.proofs.Lists.{In-filter, false_by}
use Rattle.pt_model.proofs.Legality.{history_since-follows, history_since-settled}
use Rattle.pt_model.proofs.Effects.{Effect, Idle, Creates, Removes, Relocks, Frees, Mends, Returns}
use Rattle.pt_model.proofs.Effects.{Wakes, Waits, effect, Allowed}
use Rattle.pt_model.proofs.Allowances.{allowed}
use Rattle.pt_model.proofs.Changes.{kind_effect}
use Rattle.pt_model.proofs.Readings.{kind-call}
use Rattle.pt_model.proofs.Induction.{by_steps}
use Rattle.pt_model.proofs.Sound.{Fresh-follows, kind_below}
use Rattle.pt_model.proofs.Opens.{stands_at_barrier}
use Rattle.pt_model.proofs.Services.{none-served, none-orphan, none-overdue, or_true, or_left_true}

-- an object that exists was made as one that may be made
good_effect : (h : History) (c : ℕ) (E : Effect) (o : ℕ) (k : ObjectKind) → Allowed h c E
    → (kind_of h o ≡ Some k → is_invalid_kind k ≡ false) → kind_effect (place h) E (kind_of h o) o
    ≡ Some k → is_invalid_kind k ≡ false
good_effect h c (Creates n kind) o k a ih e = go (place h == o) e
  where
    go : (b : Bool) → cond b (Some kind) (kind_of h o) ≡ Some k → is_invalid_kind k ≡ false
    go true e = let same : kind ≡ k = cc in ap is_invalid_kind (sym same) ∙ a.0
    go false e = ih e
good_effect h c (Removes n class q) o k a ih e = go (q == o) e
  where
    go : (b : Bool) → cond b None (kind_of h o) ≡ Some k → is_invalid_kind k ≡ false
    go true e = absurd cc
    go false e = ih e
good_effect h c Idle o k a ih e = ih e
good_effect h c (Relocks m) o k a ih e = ih e
good_effect h c (Frees m) o k a ih e = ih e
good_effect h c (Mends m) o k a ih e = ih e
good_effect h c (Returns r) o k a ih e = ih e
good_effect h c (Wakes n all) o k a ih e = ih e
good_effect h c (Waits w) o k a ih e = ih e

good_step : (h : History) (e : Entry) (o : ℕ) (k : ObjectKind) → Step h e
    → (kind_of h o ≡ Some k → is_invalid_kind k ≡ false) → kind_of (h ▷ e) o ≡ Some k
    → is_invalid_kind k
    ≡ false
good_step h _ o k (calls c call n a w) ih e =
    good_effect h c (effect h c call (reply (verdict h c call))) o k (allowed h c call) ih
    (sym (kind-call h c call (reply (verdict h c call)) (kind_of h o) o) ∙ e)
good_step h _ o k (joins p n lt) ih e = ih e
good_step h _ o k (dies c n a) ih e = ih e
good_step h _ o k (ticks z t n) ih e = ih e
good_step h _ o k (grants w s i g) ih e = ih e
good_step h _ o k (trips w s i c) ih e = ih e
good_step h _ o k (yields m s t) ih e = ih e
good_step h _ o k (expires w s i t) ih e = ih e

pub good_kind : (h : History) → Follows h → (o : ℕ) (k : ObjectKind) → kind_of h o ≡ Some k
    → is_invalid_kind k ≡ false
good_kind h f =
    by_steps (λ h. (o : ℕ) (k : ObjectKind) → kind_of h o ≡ Some k → is_invalid_kind k ≡ false)
    (λ o k e. absurd cc) (λ h e f ih s o k. good_step h e o k s (ih o k)) (λ h f ih. ih) h f

-- a call at a full barrier is complete
complete_at : (h : History) (b n : ℕ) (w : WaitingCall) → kind_of h b ≡ Some (Barrier n)
    → length (at_barrier b (open_calls h)) ≡ n → stands_at_barrier b w ≡ true
    → is_at_full_barrier h w
    ≡ true
complete_at h b n w k full t =
    let p = and_parts (is_barrier_wait w.role) (w.object == b) t in
    let same : w.object ≡ b = let q : (w.object == b) ≡ true = p.1 in grind (arith, nat_tests) in
    let count : barrier_count (kind_of h w.object) ≡ n =
    ap (λ o. barrier_count (kind_of h o)) same ∙ ap barrier_count k in
    let long : length (at_barrier w.object (open_calls h)) ≡ n =
    ap (λ o. length (at_barrier o (open_calls h))) same ∙ full in
    let equal : (length (at_barrier w.object (open_calls h)) == barrier_count (kind_of h w.object))
    ≡ true = rw (count, long) (grind (arith, nat_tests)) in
    and_from (is_barrier_wait w.role) (length (at_barrier w.object (open_calls h)) == barrier_count
    (kind_of h w.object)) p.0 equal

not_full : (h : History) → Follows h → forced h ≡ None → (b n : ℕ) → kind_of h b ≡ Some (Barrier n)
    → length (at_barrier b (open_calls h)) ≡ n → ⊥
not_full h f e b n k full = go (at_barrier b (open_calls h)) refl
  where
    go : (ws : List WaitingCall) → at_barrier b (open_calls h) ≡ ws → ⊥
    go [] eq =
        let zero' : n ≡ 0 = sym full ∙ ap length eq in
        let good : is_invalid_kind (Barrier n) ≡ false = good_kind h f b (Barrier n) k in
        let bad : is_invalid_kind (Barrier n) ≡ true = rw zero' refl in
        false≢true (sym good ∙ bad)
    go (w ∷ ws) eq =
        let there =
        In-filter (stands_at_barrier b) (open_calls h) w
        (subst (λ us. In w us) (sym eq) (inl refl)) in
        let done : is_at_full_barrier h w ≡ true = complete_at h b n w k full there.1 in
        false≢true (sym (none-served h e w there.0)
        ∙ or_true (is_grantable h w) (is_at_full_barrier h w) done)

-- a history that follows and forces nothing is settled
pub settled : (h : History) → Follows h → forced h ≡ None → IsSettled h
settled h f e =
    record {
      no_grant =
          λ w i. false_by (is_grantable h w) (λ t. false≢true
          (sym (none-served h e w i) ∙ or_left_true (is_grantable h w) (is_at_full_barrier h w) t));
      no_trip = λ b n k full. not_full h f e b n k full;
      no_yield =
          λ m. false_by (is_orphan h m) (λ t. false≢true (sym (none-orphan h e m (below m t)) ∙ t));
      no_expiry = λ w i. none-overdue h e w i;
    }
  where
    made : (o : Option ObjectKind) → is_robust o ≡ true → is_some o ≡ true
    made None t = absurd cc
    made (Some k) t = refl

    below : (m : ℕ) → is_orphan h m ≡ true → m < place h
    below m t =
        kind_below h m (Fresh-follows h f) (made (kind_of h m)
        (and_parts (is_robust (kind_of h m)) (is_dead_if h (owner h m)) t).0)

pub none_left : NothingForcedLeft
none_left s events es b l = settled (history_since s es) (history_since-follows s es events b l)
    (history_since-settled s es events b l)
