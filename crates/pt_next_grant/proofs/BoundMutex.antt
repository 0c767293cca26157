-- All unmoved waits at a condition wait with one mutex.
use Rattle.std.proofs.Common.{◌≡◌, ℕ, ◌⊎◌, inl, inr, Bool, true, false, cond, not, ◌&&◌, ◌==◌, List}
use Rattle.std.proofs.Common.{[], ◌∷◌, Option, Some, None, is_none, unwrap_or, refl, sym, ap, ◌∙◌}
use Rattle.std.proofs.Common.{subst, arith}
use Rattle.std.proofs.lemmas.Bool.Decides.{nat_tests}
use Rattle.std.proofs.lemmas.Bool.{false≢true}
use Rattle.pt_types.specs.declared.call.Call.{Call as Asked}
use Rattle.pt_types.specs.declared.call.ObjectKind.TheVariants.{Cond}
use Rattle.pt_types.specs.declared.outcome.Outcome.{Outcome}
use Rattle.pt_types.specs.declared.outcome.Outcome.TheVariants.{Eperm, Einval}
use Rattle.pt_types.specs.declared.outcome.Verdict.TheVariants.{Reply, Stands}
use Rattle.pt_types.specs.Times.{Timespec, has_invalid_deadline}
use Rattle.pt_types.specs.declared.time.Clock.{Clock}
use Rattle.pt_types.specs.Operations.{Operation, Inits, Ends, Acquires, Unlocks, Restores}
use Rattle.pt_types.specs.Operations.{Rwunlocks, CondWaits, Signals, Broadcasts, BarrierWaits, operation}
use Rattle.pt_types.specs.Operations.{clock_of}
use Rattle.pt_types.specs.declared.operations.ObjectClass.TheVariants.{Mutex as MutexClass}
use Rattle.pt_types.specs.declared.operations.ObjectClass.TheVariants.{Cond as CondClass}
use Rattle.pt_types.specs.declared.operations.LockKind.{LockKind}
use Rattle.pt_types.specs.declared.operations.LockKind.TheVariants.{MutexLock, ReadLock, WriteLock}
use Rattle.pt_types.specs.MutexTable.{owns}
use Rattle.pt_types.specs.CondTable.{is_bound_elsewhere}
use Rattle.pt_types.specs.Tables.{reply}
use Rattle.pt_model.proofs.Induction.{by_steps}
use Rattle.pt_model.specs.declared.entry.Entry.{Entry}
use Rattle.pt_model.specs.declared.entry.Entry.TheVariants.{Call}
use Rattle.pt_model.specs.declared.entry.Cause.{Cause}
use Rattle.pt_model.specs.Searches.{In}
use Rattle.pt_model.specs.Histories.{History, ◌▷◌, place}
use Rattle.pt_model.specs.Objects.{find_object, kind_of}
use Rattle.pt_model.specs.declared.waiting_call.WaitingCall.{WaitingCall}
use Rattle.pt_model.specs.declared.waiting_call.Move.{Move}
use Rattle.pt_model.specs.declared.waiting_call.Role.{Role}
use Rattle.pt_model.specs.declared.waiting_call.Role.TheVariants.{ForMutex, ForRead, ForWrite}
use Rattle.pt_model.specs.declared.waiting_call.Role.TheVariants.{ForBarrier, ForCond}
use Rattle.pt_model.specs.WaitingCall.{waiting_calls_by_operation, waiting_calls_by, role_of_lock}
use Rattle.pt_model.specs.WaitingCall.{object_or_zero, is_cond_wait}
use Rattle.pt_model.specs.Answers.{open_calls}
use Rattle.pt_model.specs.Moves.{cause_by, move_or, wait_move, wait_object, waiting_at}
use Rattle.pt_model.specs.Mutexes.{mutex_view}
use Rattle.pt_model.specs.Verdicts.{verdict_on, mutex_of_wait, bound_mutex, awaits_verdict}
use Rattle.pt_model.specs.Verdicts.{operation_verdict}
use Rattle.pt_model.specs.Verdicts.{verdict}
use Rattle.pt_model.specs.Steps.{Step, joins, calls, dies, ticks, grants, trips, yields, expires}
use Rattle.pt_model.specs.Steps.{Follows}
use Rattle.pt_model.proofs.Lists.{In-filter, filter-in}
use Rattle.pt_model.proofs.Effects.{Effect, Idle, Creates, Removes, Relocks, Frees, Mends, Returns}
use Rattle.pt_model.proofs.Effects.{Wakes, Waits, effect}
use Rattle.pt_model.proofs.Changes.{left_by}
use Rattle.pt_model.proofs.Readings.{stood-call}
use Rattle.pt_model.proofs.Opens.{open-sealed, left, was_open}
use Rattle.pt_model.proofs.Seats.{move-sealed, seat, exists_as, one_class, housed}

-- all unmoved waits at a condition wait with one mutex
abbrev pub OneMutex : History → Type 0
OneMutex h =
    (v w : WaitingCall) → In v (open_calls h) → In w (open_calls h) → (m k : ℕ) → v.role ≡ ForCond m
    → w.role ≡ ForCond k → wait_move h v.place ≡ None → wait_move h w.place ≡ None → v.object
    ≡ w.object
    → m ≡ k

-- only an unmoved wait is at a condition
cond_seat : (role : Role) (o : Option Move) → seat role o ≡ CondClass → (j : ℕ)
    × ((role ≡ ForCond j) × (o ≡ None))
cond_seat (ForCond j) None e = (j, (refl, refl))
cond_seat (ForCond j) (Some v) e = absurd cc
cond_seat ForMutex o e = absurd cc
cond_seat ForRead o e = absurd cc
cond_seat ForWrite o e = absurd cc
cond_seat ForBarrier o e = absurd cc

-- an unmoved wait waits at the object that it came to
pub stays_put : (h : History) (w : WaitingCall) (m : ℕ) → w.role ≡ ForCond m
    → wait_move h w.place ≡ None
    → wait_object h w ≡ w.object
stays_put h w m r n = rw (r, n) refl

-- a call that waits at a condition is an unmoved wait
pub at_cond : (h : History) (q : ℕ) (w : WaitingCall) → Follows h → exists_as h CondClass q ≡ true
    → In w (waiting_at h q) → In w (open_calls h)
    × ((m : ℕ) × ((w.role ≡ ForCond m) × ((wait_move h w.place ≡ None) × (w.object ≡ q))))
at_cond h q w f t i = (there.0, (seated.0, (seated.1.0, (seated.1.1, object))))
  where
    there : In w (open_calls h) × ((wait_object h w == q) ≡ true)
    there = In-filter (λ (u : WaitingCall). wait_object h u == q) (open_calls h) w i

    here : wait_object h w ≡ q
    here = let b : (wait_object h w == q) ≡ true = there.1 in grind (arith, nat_tests)

    sits : exists_as h (seat w.role (wait_move h w.place)) q ≡ true
    sits =
        ap (exists_as h (seat w.role (wait_move h w.place))) (sym here) ∙ (housed h f w there.0).0

    seated : (m : ℕ) × ((w.role ≡ ForCond m) × (wait_move h w.place ≡ None))
    seated =
        cond_seat w.role (wait_move h w.place)
        (one_class (kind_of h q) (seat w.role (wait_move h w.place)) CondClass sits t)

    object : w.object ≡ q
    object = sym (stays_put h w seated.0 seated.1.0 seated.1.1) ∙ here

-- an unmoved wait is among the calls that wait at its condition
pub stands_there : (h : History) (q : ℕ) (w : WaitingCall) (m : ℕ) → In w (open_calls h)
    → w.role ≡ ForCond m → wait_move h w.place ≡ None → w.object ≡ q → In w (waiting_at h q)
stands_there h q w m i r n e =
    let at : wait_object h w ≡ q = stays_put h w m r n ∙ e in
    let here : (wait_object h w == q) ≡ true = grind (arith, nat_tests) in
    filter-in (λ (u : WaitingCall). wait_object h u == q) (open_calls h) w i here

-- the object that an unmoved wait came to is a condition
cond_there : (h : History) (w : WaitingCall) (m : ℕ) → Follows h → In w (open_calls h)
    → w.role ≡ ForCond m → wait_move h w.place ≡ None → exists_as h CondClass w.object ≡ true
cond_there h w m f i r n =
    let sits = (housed h f w i).0 in
    let class : seat w.role (wait_move h w.place) ≡ CondClass = rw (r, n) refl in
    ap (exists_as h CondClass) (sym (stays_put h w m r n))
    ∙ (ap (λ s. exists_as h s (wait_object h w)) (sym class) ∙ sits)

-- the mutex of a condition is that of any unmoved wait there
bound_by_any : (h : History) → Follows h → OneMutex h → (q : ℕ) (w : WaitingCall) (m : ℕ)
    → In w (open_calls h) → w.object ≡ q → w.role ≡ ForCond m → wait_move h w.place ≡ None
    → bound_mutex (waiting_at h q) ≡ Some m
bound_by_any h f o q w m i e r n =
    go (waiting_at h q) refl (stands_there h q w m i r n e)
  where
    cond_here : exists_as h CondClass q ≡ true
    cond_here = ap (exists_as h CondClass) (sym e) ∙ cond_there h w m f i r n

    go : (ws : List WaitingCall) → waiting_at h q ≡ ws → In w ws → bound_mutex ws ≡ Some m
    go [] s k = absurd k
    go (x ∷ xs) s k =
        let first : In x (waiting_at h q) = subst (λ (us : List WaitingCall). In x us) (sym s)
        (inl refl) in
        let p = at_cond h q x f cond_here first in
        ap mutex_of_wait p.1.1.0
        ∙ ap Some (o x w p.0 i p.1.0 m p.1.1.0 r p.1.1.1.0 n (p.1.1.1.1 ∙ sym e))

-- a wait that is unmoved after an entry was unmoved before it
unmoved : (at : ℕ) (x : Option Cause) (before : Option Move) → move_or at x before ≡ None → before
    ≡ None
unmoved at None before e = e
unmoved at (Some x) before e = absurd cc

-- a call leaves at most one call waiting
one_left : (E : Effect) (v w : WaitingCall) → In v (left_by E) → In w (left_by E) → v ≡ w
one_left (Waits u) v w (inl i) (inl j) = i ∙ sym j
one_left (Waits u) v w (inl i) (inr j) = absurd j
one_left (Waits u) v w (inr i) j = absurd i
one_left Idle v w i j = absurd i
one_left (Creates n kind) v w i j = absurd i
one_left (Removes n s q) v w i j = absurd i
one_left (Relocks m) v w i j = absurd i
one_left (Frees m) v w i j = absurd i
one_left (Mends m) v w i j = absurd i
one_left (Returns r) v w i j = absurd i
one_left (Wakes n all) v w i j = absurd i

-- a wait is left waiting only if its condition has no mutex or the same one
wait_allowed : (h : History) (c : ℕ) (d : Option Timespec) (o p : Option ℕ)
    → reply (verdict_on o (λ q. verdict_on p (λ m. awaits_verdict h c q m d))) ≡ None
    → is_bound_elsewhere (bound_mutex (waiting_at h (unwrap_or o 0))) (unwrap_or p 0) ≡ false
wait_allowed h c d None p e = absurd cc
wait_allowed h c d (Some q) None e = absurd cc
wait_allowed h c d (Some q) (Some m) e =
    go (has_invalid_deadline d) (is_bound_elsewhere (bound_mutex (waiting_at h q)) m)
    (owns (mutex_view h m) c) e
  where
    go : (a b x : Bool) → reply (cond a (Reply Einval)
        (cond b (Reply Einval) (cond (not x) (Reply Eperm) Stands))) ≡ None → b ≡ false
    go true b x e = absurd cc
    go false true x e = absurd cc
    go false false x e = refl

-- a call for a lock is not a wait
no_wait : (lock_kind : LockKind) (k : ℕ) → role_of_lock lock_kind ≡ ForCond k → ⊥
no_wait MutexLock k e = cc
no_wait ReadLock k e = cc
no_wait WriteLock k e = cc

-- the same for the call that an operation leaves waiting
wait_left : (h : History) (c : ℕ) (z : Clock) (d : Operation)
    → reply (operation_verdict h c d) ≡ None
    → (w : WaitingCall) → In w (waiting_calls_by_operation h c z d) → (k : ℕ) → w.role ≡ ForCond k
    → is_bound_elsewhere (bound_mutex (waiting_at h w.object)) k ≡ false
wait_left h c z (CondWaits n m deadline) e w (inl i) k r =
    let object : w.object ≡ object_or_zero h n CondClass = ap (λ (u : WaitingCall). u.object) i in
    let role : w.role ≡ ForCond (object_or_zero h m MutexClass) = ap (λ
    (u : WaitingCall). u.role) i in
    let both : ForCond k ≡ ForCond (object_or_zero h m MutexClass) = sym r ∙ role in
    let mutex : k ≡ object_or_zero h m MutexClass = cc in
    rw (object, mutex) (wait_allowed h c deadline (find_object h n CondClass)
    (find_object h m MutexClass) e)
wait_left h c z (CondWaits n m deadline) e w (inr i) k r = absurd i
wait_left h c z (Acquires n lock_kind how) e w (inl i) k r =
    absurd (no_wait lock_kind k (sym (ap (λ (u : WaitingCall). u.role) i) ∙ r))
wait_left h c z (Acquires n lock_kind how) e w (inr i) k r = absurd i
wait_left h c z (BarrierWaits n) e w (inl i) k r =
    let role : w.role ≡ ForBarrier = ap (λ (u : WaitingCall). u.role) i in
    let no : ForBarrier ≡ ForCond k = sym role ∙ r in
    absurd cc
wait_left h c z (BarrierWaits n) e w (inr i) k r = absurd i
wait_left h c z (Inits n kind) e w i k r = absurd i
wait_left h c z (Ends n class) e w i k r = absurd i
wait_left h c z (Unlocks n) e w i k r = absurd i
wait_left h c z (Restores n) e w i k r = absurd i
wait_left h c z (Rwunlocks n) e w i k r = absurd i
wait_left h c z (Signals n) e w i k r = absurd i
wait_left h c z (Broadcasts n) e w i k r = absurd i

-- the same for the call that a call leaves waiting
wait_new : (h : History) (c : ℕ) (call : Asked) (r : Option Outcome) → reply (verdict h c call) ≡ r
    → (w : WaitingCall) → In w (waiting_calls_by h (Call c call r)) → (k : ℕ) → w.role ≡ ForCond k
    → is_bound_elsewhere (bound_mutex (waiting_at h w.object)) k ≡ false
wait_new h c call None e w i k r = wait_left h c (clock_of call) (operation call) e w i k r
wait_new h c call (Some x) e w i k r = absurd i

-- an entry leaves at most one call waiting
left_one : (h : History) (e : Entry) → Step h e → (v w : WaitingCall) → In v (left h e)
    → In w (left h e) → v ≡ w
left_one h _ (calls c call n a o) v w i j =
    one_left (effect h c call (reply (verdict h c call))) v w i j
left_one h _ (joins p n lt) v w i j = absurd i
left_one h _ (dies c n a) v w i j = absurd i
left_one h _ (ticks k t n) v w i j = absurd i
left_one h _ (grants u s k g) v w i j = absurd i
left_one h _ (trips u s k t) v w i j = absurd i
left_one h _ (yields m s t) v w i j = absurd i
left_one h _ (expires u s k t) v w i j = absurd i

-- if that is a wait, it has the mutex of its condition
left_bound : (h : History) (e : Entry) → Step h e → (w : WaitingCall) → In w (left h e) → (k : ℕ)
    → w.role ≡ ForCond k → is_bound_elsewhere (bound_mutex (waiting_at h w.object)) k ≡ false
left_bound h _ (calls c call n a o) w i k r =
    wait_new h c call (reply (verdict h c call)) refl w
    (subst (λ (us : List WaitingCall). In w us)
    (sym (stood-call h c call (reply (verdict h c call)))) i) k r
left_bound h _ (joins p n lt) w i k r = absurd i
left_bound h _ (dies c n a) w i k r = absurd i
left_bound h _ (ticks z t n) w i k r = absurd i
left_bound h _ (grants u s j g) w i k r = absurd i
left_bound h _ (trips u s j t) w i k r = absurd i
left_bound h _ (yields m s t) w i k r = absurd i
left_bound h _ (expires u s j t) w i k r = absurd i

-- a new wait has the mutex of the unmoved waits at its condition
joins_bound : (h : History) (e : Entry) → Follows h → OneMutex h → Step h e → (v w : WaitingCall)
    → In v (open_calls h) → In w (left h e) → (m k : ℕ) → v.role ≡ ForCond m → w.role ≡ ForCond k
    → wait_move h v.place ≡ None → v.object ≡ w.object → m ≡ k
joins_bound h e f o s v w i j m k r t n same =
    let bound = bound_by_any h f o w.object v m i same r n in
    let no : not (m == k) ≡ false =
    ap (λ b. is_bound_elsewhere b k) (sym bound) ∙ left_bound h e s w j k t in
    grind (arith, nat_tests)

-- each entry preserves this
pub OneMutex-step : (h : History) (e : Entry) → Follows h → OneMutex h → Step h e → OneMutex (h ▷ e)
OneMutex-step h e f o s = λ v w i j m k r t x y same.
    go v w m k r t (before v x) (before w y) same (was_open h e f s v i) (was_open h e f s w j)
  where
    before : (w : WaitingCall) → wait_move (h ▷ e) w.place ≡ None → wait_move h w.place ≡ None
    before w x = unmoved (place h) (cause_by h (wait_move h) e w.place) (wait_move h w.place) x

    go : (v w : WaitingCall) (m k : ℕ) → v.role ≡ ForCond m → w.role ≡ ForCond k
        → wait_move h v.place ≡ None → wait_move h w.place ≡ None → v.object ≡ w.object
        → In v (open_calls h) ⊎ In v (left h e) → In w (open_calls h) ⊎ In w (left h e) → m ≡ k
    go v w m k r t x y same (inl i) (inl j) = o v w i j m k r t x y same
    go v w m k r t x y same (inl i) (inr j) = joins_bound h e f o s v w i j m k r t x same
    go v w m k r t x y same (inr i) (inl j) =
        sym (joins_bound h e f o s w v j i k m t r y (sym same))
    go v w m k r t x y same (inr i) (inr j) =
        let role : v.role ≡ w.role = ap (λ (u : WaitingCall). u.role) (left_one h e s v w i j) in
        let both : ForCond m ≡ ForCond k = sym r ∙ (role ∙ t) in
        cc

-- all unmoved waits at a condition wait with one mutex
pub one-mutex : (h : History) → Follows h → OneMutex h
one-mutex h f =
    by_steps OneMutex (λ v w i j m k r t x y same. absurd i) OneMutex-step
    (λ h f o v w i j m k r t x y same.
    o v w (open-sealed h v i) (open-sealed h w j) m k r t
    (sym (move-sealed h v (open-sealed h v i)) ∙ x)
    (sym (move-sealed h w (open-sealed h w j)) ∙ y) same) h f

-- a condition is bound to the mutex of any unmoved wait there
pub bound-any : (h : History) → Follows h → (q : ℕ) (w : WaitingCall) (m : ℕ) → In w (open_calls h)
    → w.object ≡ q → w.role ≡ ForCond m → wait_move h w.place ≡ None → bound_mutex (waiting_at h q)
    ≡ Some m
bound-any h f q w m i e r n = bound_by_any h f (one-mutex h f) q w m i e r n

-- a condition with no unmoved wait is bound to no mutex
pub bound-none : (h : History) → Follows h → (q : ℕ) → kind_of h q ≡ Some Cond
    → ((w : WaitingCall) → In w (open_calls h)
    → (is_cond_wait w.role && (is_none (wait_move h w.place) && (w.object == q))) ≡ false)
    → bound_mutex (waiting_at h q) ≡ None
bound-none h f q e none = go (waiting_at h q) refl
  where
    cond_here : exists_as h CondClass q ≡ true
    cond_here = rw e refl

    go : (ws : List WaitingCall) → waiting_at h q ≡ ws → bound_mutex ws ≡ None
    go [] s = refl
    go (x ∷ xs) s =
        let first : In x (waiting_at h q) = subst (λ (us : List WaitingCall). In x us) (sym s)
        (inl refl) in
        let p = at_cond h q x f cond_here first in
        let at : x.object ≡ q = p.1.1.1.1 in
        let here : (x.object == q) ≡ true = grind (arith, nat_tests) in
        absurd (false≢true (sym (none x p.0) ∙ rw (p.1.1.0, p.1.1.1.0, here) refl))
