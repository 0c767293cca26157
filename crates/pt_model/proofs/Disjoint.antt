-- No two calls that were left waiting have the same place, and nobody has locks on what isn't made.
use Rattle.std.proofs.Common.{◌≡◌, ℕ, suc, ◌+◌, ◌<◌, ◌≤◌, ◌==◌, nat_lt, Bool, true, false, cond}
use Rattle.std.proofs.Common.{◌||◌, inl, inr, List, [], ◌∷◌, ◌++◌, length, Some, None, refl, sym}
use Rattle.std.proofs.Common.{ap, ◌∙◌, subst, arith, filter, append-nil}
use Rattle.std.proofs.lemmas.Bool.Decides.{nat_tests}
use Rattle.std.proofs.lemmas.Bool.{false≢true}
use Rattle.pt_types.specs.declared.operations.ObjectClass.TheVariants.{Mutex as MutexClass}
use Rattle.pt_types.specs.MutexTable.{is_some_number, is_acquired}
use Rattle.pt_types.specs.Tables.{reply}
use Rattle.pt_model.specs.declared.entry.Entry.{Entry}
use Rattle.pt_model.specs.Searches.{In, Each}
use Rattle.pt_model.specs.Histories.{History, ◌▷◌, place}
use Rattle.pt_model.specs.Objects.{kind_of}
use Rattle.pt_model.specs.declared.waiting_call.WaitingCall.{WaitingCall}
use Rattle.pt_model.specs.declared.waiting_call.Role.{Role}
use Rattle.pt_model.specs.declared.waiting_call.Role.TheVariants.{ForMutex, ForRead, ForWrite}
use Rattle.pt_model.specs.declared.waiting_call.Role.TheVariants.{ForBarrier, ForCond}
use Rattle.pt_model.specs.WaitingCall.{waiting_calls_by, waiting_calls, final_mutex}
use Rattle.pt_model.specs.Answers.{is_open_by, outcome, open_calls}
use Rattle.pt_model.specs.Moves.{has_place, wait_move}
use Rattle.pt_model.specs.Mutexes.{lock_count, mutex_count, owner}
use Rattle.pt_model.specs.Grants.{grant_outcome}
use Rattle.pt_model.specs.Verdicts.{verdict}
use Rattle.pt_model.specs.Steps.{Step, joins, calls, dies, ticks, grants, trips, yields, expires}
use Rattle.pt_model.specs.Steps.{Follows}
use Rattle.pt_model.proofs.Lists.{In-filter, none-any, any-false, false_by}
use Rattle.pt_model.proofs.Leasts.{first_below-nowhere}
use Rattle.pt_model.proofs.Counting.{total}
use Rattle.pt_model.specs.Seals.{is_mutex}
use Rattle.pt_model.proofs.Induction.{by_steps, kept_zero}
use Rattle.pt_model.proofs.Effects.{Effect, Idle, Creates, Removes, Relocks, Frees, Mends, Returns}
use Rattle.pt_model.proofs.Effects.{Wakes, Waits, effect, Allowed}
use Rattle.pt_model.proofs.Allowances.{allowed}
use Rattle.pt_model.proofs.Changes.{takes_more, left_by}
use Rattle.pt_model.proofs.Readings.{stood-call, lock_count-call}
use Rattle.pt_model.proofs.Rising.{waiting_calls-seal}
use Rattle.pt_model.proofs.Sound.{Below, Fresh-follows, kind_below}
use Rattle.pt_model.proofs.Found.{found_open}
use Rattle.pt_model.proofs.NotOwned.{has, and_false}
use Rattle.pt_model.proofs.Counts.{owning-has}
use Rattle.pt_model.proofs.Owners.{takes_owns, for_mutex}
use Rattle.pt_model.proofs.Seats.{exists_as, HousedBy, housed}
use Rattle.pt_model.proofs.Partition.{class_exists}

-- no two of these calls have the same place
abbrev pub Apart : List WaitingCall → Type 0
Apart [] = Unit {0}
Apart (w ∷ ws) = (has_place ws w.place ≡ false) × Apart ws

Apart-filter : (p : WaitingCall → Bool) (ws : List WaitingCall) → Apart ws → Apart (filter p ws)
Apart-filter p [] a = tt
Apart-filter p (w ∷ ws) a = go (p w) (Apart-filter p ws a.1)
  where
    fewer : has_place (filter p ws) w.place ≡ false
    fewer =
        none-any (λ (v : WaitingCall). v.place == w.place) (filter p ws)
        (λ v i. any-false (λ (u : WaitingCall). u.place == w.place) ws v a.0
        (In-filter p ws v i).0)

    go : (b : Bool) → Apart (filter p ws) → Apart (cond b (w ∷ filter p ws) (filter p ws))
    go true ih = (fewer, ih)
    go false ih = ih

Apart-last : (n : ℕ) (ws : List WaitingCall) (w : WaitingCall) → Apart ws → Each (Below n) ws
    → w.place
    ≡ n → Apart (ws ++ w ∷ [])
Apart-last n [] w a b e = (refl, tt)
Apart-last n (v ∷ vs) w a b e =
    let lt : v.place < n = b.0.0 in
    let ne : (w.place == v.place) ≡ false = grind (arith, nat_tests) in
    (last vs a.0 ne, Apart-last n vs w a.1 b.1 e)
  where
    last : (us : List WaitingCall) → has_place us v.place ≡ false → (w.place == v.place) ≡ false
        → has_place (us ++ w ∷ []) v.place ≡ false
    last [] k ne = rw ne refl
    last (u ∷ us) k ne = go (u.place == v.place) k (λ r. last us r ne)
      where
        go : (b : Bool) → (b || has_place us v.place) ≡ false
            → (has_place us v.place ≡ false → has_place (us ++ w ∷ []) v.place ≡ false)
            → (b || has_place (us ++ w ∷ []) v.place) ≡ false
        go true k ih = absurd cc
        go false k ih = ih k

Apart-nil : (ws : List WaitingCall) → Apart ws → Apart (ws ++ [])
Apart-nil ws a = rw append-nil a

apart_left : (h : History) (c : ℕ) (E : Effect) → Allowed h c E → Apart (waiting_calls h)
    → Each (Below (place h)) (waiting_calls h) → Apart (waiting_calls h ++ left_by E)
apart_left h c (Waits w) l a b =
    Apart-last (place h) (waiting_calls h) w a b (ap (λ (v : WaitingCall). v.place) l.0)
apart_left h c Idle l a b = Apart-nil (waiting_calls h) a
apart_left h c (Creates n kind) l a b = Apart-nil (waiting_calls h) a
apart_left h c (Removes n s q) l a b = Apart-nil (waiting_calls h) a
apart_left h c (Relocks m) l a b = Apart-nil (waiting_calls h) a
apart_left h c (Frees m) l a b = Apart-nil (waiting_calls h) a
apart_left h c (Mends m) l a b = Apart-nil (waiting_calls h) a
apart_left h c (Returns r) l a b = Apart-nil (waiting_calls h) a
apart_left h c (Wakes n all) l a b = Apart-nil (waiting_calls h) a

apart_step : (h : History) (e : Entry) → Follows h → Apart (waiting_calls h) → Step h e
    → Apart (waiting_calls h ++ waiting_calls_by h e)
apart_step h _ f a (calls c call n l o) =
    subst (λ ws. Apart (waiting_calls h
    ++ ws)) (sym (stood-call h c call (reply (verdict h c call))))
    (apart_left h c (effect h c call (reply (verdict h c call))) (allowed h c call) a
    (Fresh-follows h f).stood)
apart_step h _ f a (joins p n lt) = Apart-nil (waiting_calls h) a
apart_step h _ f a (dies c n l) = Apart-nil (waiting_calls h) a
apart_step h _ f a (ticks z t n) = Apart-nil (waiting_calls h) a
apart_step h _ f a (grants w s i g) = Apart-nil (waiting_calls h) a
apart_step h _ f a (trips w s i t) = Apart-nil (waiting_calls h) a
apart_step h _ f a (yields m s t) = Apart-nil (waiting_calls h) a
apart_step h _ f a (expires w s i t) = Apart-nil (waiting_calls h) a

pub stood_apart : (h : History) → Follows h → Apart (waiting_calls h)
stood_apart h f =
    by_steps (λ h. Apart (waiting_calls h)) tt apart_step
    (λ h f a. subst Apart (sym (waiting_calls-seal h)) (Apart-filter (is_open_by h (outcome h))
    (waiting_calls h)
    a)) h f

pub open_apart : (h : History) → Follows h → Apart (open_calls h)
open_apart h f = Apart-filter (is_open_by h (outcome h)) (waiting_calls h) (stood_apart h f)

-- if one call alone counts for one less, the sum is one less
pub total-one : (f g : WaitingCall → ℕ) (ws : List WaitingCall) (u : WaitingCall) → In u ws
    → Apart ws
    → suc (g u) ≡ f u → ((w : WaitingCall) → In w ws → (u.place == w.place) ≡ false → g w ≡ f w)
    → suc (total g ws) ≡ total f ws
total-one f g [] u i a e same = absurd i
total-one f g (x ∷ xs) u (inl i) a e same =
    let gx : g u ≡ g x = ap g i in
    let fx : f u ≡ f x = ap f i in
    let rest : total g xs ≡ total f xs =
    totals xs (λ w j. same w (inr j) (let k : (w.place == x.place)
    ≡ false = any-false (λ (v : WaitingCall). v.place == x.place) xs w a.0 j in
    let at : u.place ≡ x.place = ap (λ (v : WaitingCall). v.place) i in grind
    (arith, nat_tests))) in
    omega (arith, gx, fx, rest, e)
  where
    totals : (ws : List WaitingCall) → ((w : WaitingCall) → In w ws → g w ≡ f w)
        → total g ws ≡ total f ws
    totals [] s = refl
    totals (w ∷ ws) s = omega (arith, s w (inl refl), totals ws (λ v j. s v (inr j)))
total-one f g (x ∷ xs) u (inr i) a e same =
    let k : (u.place == x.place) ≡ false =
    any-false (λ (v : WaitingCall). v.place == x.place) xs u a.0 i in
    omega (arith, same x (inl refl) k, total-one f g xs u i a.1 e (λ w j. same w (inr j)))

-- if each call that passes counts for one less, the sum is less by the number of those that pass
pub total-passed : (f g : WaitingCall → ℕ) (p : WaitingCall → Bool) (ws : List WaitingCall)
    → ((w : WaitingCall) → In w ws → g w + cond (p w) 1 0 ≡ f w) → total g ws + length (filter p ws)
    ≡ total f ws
total-passed f g p [] e = omega arith
total-passed f g p (x ∷ xs) e =
    go (p x) (e x (inl refl)) (total-passed f g p xs (λ w i. e w (inr i)))
  where
    go : (b : Bool) → g x + cond b 1 0 ≡ f x → total g xs + length (filter p xs) ≡ total f xs
        → (g x + total g xs) + length (cond b (x ∷ filter p xs) (filter p xs)) ≡ f x + total f xs
    go true k ih = omega (arith, k, ih)
    go false k ih = omega (arith, k, ih)

-- the mutex of an open call exists
pub mutex-exists : (h : History) → Follows h → (w : WaitingCall) → In w (open_calls h) → (m : ℕ)
    → final_mutex w.role w.object ≡ Some m → exists_as h MutexClass m ≡ true
mutex-exists h f w i m e = go w.role e (housed h f w i)
  where
    go : (role : Role) → final_mutex role w.object ≡ Some m
        → HousedBy h role (wait_move h w.place) w.object → exists_as h MutexClass m ≡ true
    go ForMutex k a = let same : w.object ≡ m = cc in rw (← same) a.0
    go (ForCond n) k a = let same : n ≡ m = cc in rw (← same) a.1
    go ForRead k a = absurd cc
    go ForWrite k a = absurd cc
    go ForBarrier k a = absurd cc

-- nobody has locks on a mutex that isn't made yet
abbrev pub Unmade : History → Type 0
Unmade h = (m c : ℕ) → place h ≤ m → lock_count h m c ≡ 0

unmade_step : (h : History) (e : Entry) → Follows h → Unmade h → Step h e → Unmade (h ▷ e)
unmade_step h _ f u (calls c call n l o) = λ m d le.
    lock_count-call h c call (reply (verdict h c call)) m d (lock_count h m d)
    ∙ rw (untaken m (omega arith)) (u m d (omega arith))
  where
    untaken : (m : ℕ) → place h ≤ m → takes_more (effect h c call (reply (verdict h c call))) m
        ≡ false
    untaken m le =
        let zero' : lock_count h m c ≡ 0 = u m c le in
        let none : mutex_count h m c ≡ 0 = omega (arith, zero') in
        false_by (takes_more (effect h c call (reply (verdict h c call))) m)
        (λ t. false≢true (sym (ap (nat_lt 0) none)
        ∙ owning-has h m c (takes_owns h c (effect h c call (reply (verdict h c call))) m
        (allowed h c call) t)))
unmade_step h _ f u (grants w s i g) = λ m d le.
    rw (
      found_open h f w i,
      other m (omega arith),
      and_false (is_acquired (grant_outcome h w)) false
          refl,
    ) (u m d (omega arith))
  where
    other : (m : ℕ) → place h ≤ m → is_some_number (final_mutex w.role w.object) m ≡ false
    other m le =
        false_by (is_some_number (final_mutex w.role w.object) m)
        (λ t. let lt : m < place h = kind_below h m (Fresh-follows h f)
        (class_exists (kind_of h m) MutexClass
        (mutex-exists h f w i m (for_mutex w.role w.object m t))) in omega (arith, le, lt))
unmade_step h _ f u (yields k s t) = λ m c le. go (k == m) (lock_count h m c) (u m c (omega arith))
  where
    go : (b : Bool) (n : ℕ) → n ≡ 0 → cond b 0 n ≡ 0
    go true n e = refl
    go false n e = e
unmade_step h _ f u (joins p n lt) = λ m c le. u m c (omega arith)
unmade_step h _ f u (dies d n l) = λ m c le. u m c (omega arith)
unmade_step h _ f u (ticks z t n) = λ m c le. u m c (omega arith)
unmade_step h _ f u (trips w s i t) = λ m c le. u m c (omega arith)
unmade_step h _ f u (expires w s i t) = λ m c le. u m c (omega arith)

pub unmade : (h : History) → Follows h → Unmade h
unmade h f =
    by_steps Unmade (λ m c le. refl) unmade_step
    (λ h f u m c le. let none : lock_count h m c ≡ 0 = u m c le in kept_zero (is_mutex h m)
    (mutex_count h m c) (omega (arith, none))) h f

-- so such a mutex has no owner
pub owner-unmade : (h : History) → Follows h → (m : ℕ) → place h ≤ m → owner h m ≡ None
owner-unmade h f m le =
    first_below-nowhere (place h) (λ c. has h m c)
    (λ c lt. let zero' : lock_count h m c ≡ 0 = unmade h f m c le in let none : mutex_count h m c
    ≡ 0 = omega (arith, zero') in ap (nat_lt 0) none)
