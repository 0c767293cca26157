-- No answer goes to the dead, and nothing happens at the destroyed.
use Rattle.std.proofs.Common.{◌≡◌, ◌≢◌, ℕ, ◌<◌, Bool, true, false, cond, ◌==◌, List, [], ◌∷◌}
use Rattle.std.proofs.Common.{Option, Some, None, is_some, inl, inr, refl, sym, ap, ◌∙◌, arith}
use Rattle.std.proofs.Common.{filter}
use Rattle.std.proofs.lemmas.Bool.Decides.{nat_tests}
use Rattle.std.proofs.lemmas.Bool.{and_parts, false≢true}
use Rattle.pt_types.specs.declared.call.Call.{Call as FunctionCall}
use Rattle.pt_types.specs.declared.call.ObjectKind.{ObjectKind}
use Rattle.pt_types.specs.declared.outcome.Outcome.{Outcome}
use Rattle.pt_types.specs.declared.outcome.Outcome.TheVariants.{Done}
use Rattle.pt_types.specs.Operations.{Operation, Inits, Ends, Acquires, Unlocks, Restores}
use Rattle.pt_types.specs.Operations.{Rwunlocks, CondWaits, Signals, Broadcasts, BarrierWaits, operation}
use Rattle.pt_types.specs.MutexTable.{is_some_number}
use Rattle.pt_types.specs.Tables.{reply}
use Rattle.pt_model.specs.declared.entry.Entry.{Entry}
use Rattle.pt_model.specs.declared.entry.Entry.TheVariants.{Call, Death}
use Rattle.pt_model.specs.Searches.{In, Each}
use Rattle.pt_model.specs.Histories.{History, ◌▷◌, place, append_entries, history_since}
use Rattle.pt_model.specs.Clients.{client_priority, is_alive}
use Rattle.pt_model.specs.Objects.{find_object, destroys_object, kind_by_operation, kind_of}
use Rattle.pt_model.specs.Objects.{is_robust}
use Rattle.pt_model.specs.Records.{ReplyView}
use Rattle.pt_model.specs.declared.waiting_call.WaitingCall.{WaitingCall}
use Rattle.pt_model.specs.declared.waiting_call.Role.{Role}
use Rattle.pt_model.specs.declared.waiting_call.Role.TheVariants.{ForMutex, ForRead, ForWrite}
use Rattle.pt_model.specs.declared.waiting_call.Role.TheVariants.{ForBarrier, ForCond}
use Rattle.pt_model.specs.WaitingCall.{is_barrier_wait}
use Rattle.pt_model.specs.Answers.{at_barrier, trip_replies, expiry_replies, entry_replies}
use Rattle.pt_model.specs.Answers.{open_calls}
use Rattle.pt_model.specs.Answers.{replies_from}
use Rattle.pt_model.specs.Moves.{wait_move, wait_object}
use Rattle.pt_model.specs.Mutexes.{owner}
use Rattle.pt_model.specs.Forced.{is_dead_if}
use Rattle.pt_model.specs.Verdicts.{verdict}
use Rattle.pt_model.specs.Steps.{Step, joins, calls, dies, ticks, grants, trips, yields, expires}
use Rattle.pt_model.specs.Steps.{Follows}
use Rattle.pt_model.specs.EndLaws.{DeadUnanswered, is_of_call, is_of, StaysEmpty}
use Rattle.pt_model.specs.EndLaws.{DestroyedStaysIdle, DeadAndDestroyed}
use Rattle.pt_model.proofs.Lists.{Each-append, Each-weaker, In-filter}
use Rattle.pt_model.proofs.Histories.{follows-part}
use Rattle.pt_model.proofs.Legality.{history_since-part}
use Rattle.pt_model.proofs.Effects.{Effect, Idle, Creates, Removes, Relocks, Frees, Mends, Returns}
use Rattle.pt_model.proofs.Effects.{Wakes, Waits, effect}
use Rattle.pt_model.proofs.Changes.{kind_effect}
use Rattle.pt_model.proofs.Readings.{kind-call}
use Rattle.pt_model.proofs.Sound.{Fresh-follows, alive_below, kind_below}
use Rattle.pt_model.proofs.Found.{found_open, open_alive}
use Rattle.pt_model.proofs.Opens.{stands_at_barrier}
use Rattle.pt_model.proofs.Named.{found_object, Named-follows}
use Rattle.pt_model.proofs.Seats.{seat, housed}
use Rattle.pt_model.proofs.Partition.{class_exists}

-- an answer goes to a living client
abbrev pub ToLiving : History → ReplyView → Type 0
ToLiving h t = is_alive h t.client ≡ true

told_trip : (h : History) (ws : List WaitingCall)
    → ((w : WaitingCall) → In w ws → is_alive h w.client ≡ true)
    → Each (ToLiving h) (trip_replies ws)
told_trip h [] f = tt
told_trip h (w ∷ ws) f = (f w (inl refl), told_trip h ws (λ v i. f v (inr i)))

told_expiry : (h : History) (w : WaitingCall) (b : Bool) → is_alive h w.client ≡ true
    → Each (ToLiving h) (expiry_replies w.place (Some w) b)
told_expiry h w true a = tt
told_expiry h w false a = (a, tt)

told_call : (h : History) (c : ℕ) (call : FunctionCall) (r : Option Outcome) → is_alive h c ≡ true
    → Each (ToLiving h) (entry_replies h (Call c call r))
told_call h c call None a = tt
told_call h c call (Some x) a = (a, tt)

-- all answers of an entry go to living clients
pub entry_replies-alive : (h : History) (e : Entry) → Follows h → Step h e
    → Each (ToLiving h) (entry_replies h e)
entry_replies-alive h _ f (calls c call n a o) = told_call h c call (reply (verdict h c call)) a
entry_replies-alive h _ f (grants w s i g) = (rw (found_open h f w i) (open_alive h w i), tt)
entry_replies-alive h _ f (trips w s i t) =
    told_trip h (at_barrier w.object (open_calls h))
    (λ v j. open_alive h v (In-filter (stands_at_barrier w.object) (open_calls h) v j).0)
entry_replies-alive h _ f (expires w s i t) = rw (found_open h f w i) (told_expiry h w _
    (open_alive h w i))
entry_replies-alive h _ f (joins p n lt) = tt
entry_replies-alive h _ f (dies c n a) = tt
entry_replies-alive h _ f (ticks z t n) = tt
entry_replies-alive h _ f (yields m s t) = tt

-- a client that is dead stays dead
dead_stays : (h : History) (e : Entry) (c : ℕ) → Step h e → c < place h → client_priority h c ≡ None
    → client_priority (h ▷ e) c ≡ None
dead_stays h _ c (joins p n l) lt d =
    let ne : (place h == c) ≡ false = grind (arith, nat_tests) in rw ne d
dead_stays h _ c (dies b n a) lt d = still (b == c) d
  where
    still : (b : Bool) {o : Option ℕ} → o ≡ None → cond b None o ≡ None
    still true e = refl
    still false e = e
dead_stays h _ c (calls b call n a o) lt d = d
dead_stays h _ c (ticks z t n) lt d = d
dead_stays h _ c (grants w s i g) lt d = d
dead_stays h _ c (trips w s i t) lt d = d
dead_stays h _ c (yields m s t) lt d = d
dead_stays h _ c (expires w s i t) lt d = d

pub dead_untold_from : (h : History) (es : List Entry) (c : ℕ) → Follows (append_entries h es)
    → c < place h
    → client_priority h c ≡ None → Each (λ (t : ReplyView). t.client ≢ c) (replies_from h es)
dead_untold_from h [] c f lt d = tt
dead_untold_from h (e ∷ es) c f lt d =
    let s = follows-part (h ▷ e) es f in
    let here =
    Each-weaker (ToLiving h) (λ (t : ReplyView). t.client ≢ c)
    (λ t a same. false≢true (sym (ap is_some d) ∙ (ap (is_alive h) (sym same) ∙ a)))
    (entry_replies h e) (entry_replies-alive h e s.0 s.1) in
    Each-append (λ (t : ReplyView). t.client ≢ c) (entry_replies h e) (replies_from (h ▷ e) es) here
    (dead_untold_from (h ▷ e) es c f (omega (arith, lt)) (dead_stays h e c s.1 lt d))

-- a client that dies was alive, and so joined
died_alive : (h : History) (e : Entry) (c : ℕ) → Step h e → e ≡ Death c → is_alive h c ≡ true
died_alive h _ c (dies d n a) e = let same : d ≡ c = cc in ap (is_alive h) (sym same) ∙ a
died_alive h _ c (joins p n lt) e = absurd cc
died_alive h _ c (calls d call n a o) e = absurd cc
died_alive h _ c (ticks z t n) e = absurd cc
died_alive h _ c (grants w s i g) e = absurd cc
died_alive h _ c (trips w s i t) e = absurd cc
died_alive h _ c (yields m s t) e = absurd cc
died_alive h _ c (expires w s i t) e = absurd cc

pub dead_untold : DeadUnanswered
dead_untold b0 events older newer c b l =
    let whole = history_since-part b0 older (Death c ∷ newer) events b l in
    let s = follows-part (history_since b0 older ▷ Death c) newer whole in
    let a = died_alive (history_since b0 older) (Death c) c s.1 refl in
    let lt = alive_below (history_since b0 older) c (Fresh-follows
    (history_since b0 older) s.0) a in
    let here : (c == c) ≡ true = grind (arith, nat_tests) in
    dead_untold_from (history_since b0 older ▷ Death c) newer c whole (omega (arith, lt))
    (rw here refl)

gone_effect : (at : ℕ) (E : Effect) (before : Option ObjectKind) (o : ℕ) → o < at → before ≡ None
    → kind_effect at E before o ≡ None
gone_effect at (Creates n kind) before o lt e =
    let ne : (at == o) ≡ false = grind (arith, nat_tests) in rw ne e
gone_effect at (Removes n s q) before o lt e = go (q == o)
  where
    go : (b : Bool) → cond b None before ≡ None
    go true = refl
    go false = e
gone_effect at Idle before o lt e = e
gone_effect at (Relocks m) before o lt e = e
gone_effect at (Frees m) before o lt e = e
gone_effect at (Mends m) before o lt e = e
gone_effect at (Returns r) before o lt e = e
gone_effect at (Wakes n all) before o lt e = e
gone_effect at (Waits w) before o lt e = e

-- an object that is destroyed stays destroyed
gone_stays : (h : History) (e : Entry) (o : ℕ) → Step h e → o < place h → kind_of h o ≡ None
    → kind_of (h ▷ e) o ≡ None
gone_stays h _ o (calls c call n a p) lt d =
    kind-call h c call (reply (verdict h c call)) (kind_of h o) o
    ∙ gone_effect (place h) (effect h c call (reply (verdict h c call))) (kind_of h o) o lt d
gone_stays h _ o (joins p n l) lt d = d
gone_stays h _ o (dies c n a) lt d = d
gone_stays h _ o (ticks z t n) lt d = d
gone_stays h _ o (grants w s i g) lt d = d
gone_stays h _ o (trips w s i t) lt d = d
gone_stays h _ o (yields m s t) lt d = d
gone_stays h _ o (expires w s i t) lt d = d

-- an object that exists isn't one that is destroyed
elsewhere : (h : History) (k o : ℕ) → is_some (kind_of h k) ≡ true → kind_of h o ≡ None → (k == o)
    ≡ false
elsewhere h k o t e = go (k == o) refl
  where
    go : (b : Bool) → (k == o) ≡ b → b ≡ false
    go false eb = refl
    go true eb =
        let at : k ≡ o = grind (arith, nat_tests) in
        absurd (false≢true (sym (ap is_some (ap (kind_of h) at ∙ e)) ∙ t))

pub vacant : (h : History) → Follows h → (o : ℕ) → kind_of h o ≡ None → (w : WaitingCall)
    → In w (open_calls h) → (wait_object h w == o) ≡ false
vacant h f o e w i =
    elsewhere h (wait_object h w) o (class_exists (kind_of h (wait_object h w))
    (seat w.role (wait_move h w.place)) (housed h f w i).0) e

none_pass : (p : WaitingCall → Bool) (ws : List WaitingCall)
    → ((w : WaitingCall) → In w ws → p w ≡ false)
    → filter p ws ≡ []
none_pass p [] f = refl
none_pass p (w ∷ ws) f = rw (f w (inl refl)) (none_pass p ws (λ v i. f v (inr i)))

pub arrival_object : (h : History) (w : WaitingCall) (role : Role) → w.role ≡ role
    → is_barrier_wait role
    ≡ true → wait_object h w ≡ w.object
arrival_object h w ForBarrier r b = rw r refl
arrival_object h w ForMutex r b = absurd cc
arrival_object h w ForRead r b = absurd cc
arrival_object h w ForWrite r b = absurd cc
arrival_object h w (ForCond m) r b = absurd cc

-- no entry is of an object that is destroyed
untouched : (h : History) (e : Entry) (o : ℕ) → Follows h → Step h e → kind_of h o ≡ None
    → is_of h e o ≡ false
untouched h _ o f (grants w s i g) e =
    ap (λ x. is_of_call h x o) (found_open h f w i) ∙ vacant h f o e w i
untouched h _ o f (trips w s i t) e =
    ap (λ k. k == o) (sym (arrival_object h w w.role refl (and_parts
    (is_barrier_wait w.role) _ t).0))
    ∙ vacant h f o e w i
untouched h _ o f (yields m s t) e =
    elsewhere h m o (robust_made (kind_of h m)
    (and_parts (is_robust (kind_of h m)) (is_dead_if h (owner h m)) t).0) e
  where
    robust_made : (k : Option ObjectKind) → is_robust k ≡ true → is_some k ≡ true
    robust_made None r = absurd cc
    robust_made (Some x) r = refl
untouched h _ o f (calls c call n a p) e = refl
untouched h _ o f (joins p n lt) e = refl
untouched h _ o f (dies c n a) e = refl
untouched h _ o f (ticks z t n) e = refl
untouched h _ o f (expires w s i t) e = refl

pub stays_empty_from : (h : History) (es : List Entry) (o : ℕ) → Follows (append_entries h es)
    → o < place h
    → kind_of h o ≡ None → StaysEmpty o h es
stays_empty_from h [] o f lt e = none_pass (λ w. wait_object h w == o) (open_calls h)
    (vacant h f o e)
stays_empty_from h (x ∷ xs) o f lt e =
    let s = follows-part (h ▷ x) xs f in (
      none_pass (λ w. wait_object h w == o) (open_calls h) (vacant h s.0 o e),
      untouched h x o s.0 s.1
          e,
      stays_empty_from (h ▷ x) xs o f (omega (arith, lt)) (gone_stays h x o s.1 lt e),
    )

-- an object that a call ends existed before, and doesn't after
ended_was : (h : History) (d : Operation) (o : ℕ) → Follows h → destroys_object h d o ≡ true
    → (o < place h)
    × (kind_by_operation h d (kind_of h o) o ≡ None)
ended_was h (Ends n s) o f t = (go (find_object h n s) refl t, rw t refl)
  where
    go : (x : Option ℕ) → find_object h n s ≡ x → is_some_number x o ≡ true → o < place h
    go None ex k = absurd cc
    go (Some q) ex k =
        let same : q ≡ o = grind (arith, nat_tests) in
        let u = found_object h n s q ex in
        let there : kind_of h u.0.number ≡ Some u.0.kind = (Named-follows h f).made n u.0 u.1.0 in
        let lt : u.0.number < place h =
        kind_below h u.0.number (Fresh-follows h f) (ap is_some there) in
        let at : u.0.number ≡ o = u.1.1.0 ∙ same in
        omega (arith, lt, at)
ended_was h (Inits n kind) o f t = absurd cc
ended_was h (Acquires n lock_kind how) o f t = absurd cc
ended_was h (Unlocks n) o f t = absurd cc
ended_was h (Restores n) o f t = absurd cc
ended_was h (Rwunlocks n) o f t = absurd cc
ended_was h (CondWaits n k deadline) o f t = absurd cc
ended_was h (Signals n) o f t = absurd cc
ended_was h (Broadcasts n) o f t = absurd cc
ended_was h (BarrierWaits n) o f t = absurd cc

pub ended_still : DestroyedStaysIdle
ended_still b0 events older newer c call o b l t =
    let whole = history_since-part b0 older (Call c call (Some Done) ∷ newer) events b l in
    let s = follows-part (history_since b0 older ▷ Call c call (Some Done)) newer whole in
    let e = ended_was (history_since b0 older) (operation call) o s.0 t in
    stays_empty_from (history_since b0 older ▷ Call c call (Some Done)) newer o whole (omega
    (arith, e.0))
    e.1

pub gone : DeadAndDestroyed
gone = (dead_untold, ended_still)
