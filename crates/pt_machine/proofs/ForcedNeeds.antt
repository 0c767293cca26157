-- ForcedNeeds: the exact need after a forced entry.
use Rattle.std.proofs.Common.{◌≡◌, ℕ, zero, suc, ◌+◌, ◌*◌, ◌<◌, ◌==◌, Bool, true, false, cond, not}
use Rattle.std.proofs.Common.{◌&&◌, ◌||◌, inl, inr, List, [], ◌∷◌, length, Option, Some, None}
use Rattle.std.proofs.Common.{is_some, is_none, filter, refl, ap, ◌∙◌, arith}
use Rattle.std.proofs.lemmas.Bool.Decides.{nat_tests}
use Rattle.std.proofs.lemmas.Bool.{and_parts, and_from}
use Rattle.pt_types.specs.MutexTable.{is_some_number, is_acquired}
use Rattle.pt_types.specs.declared.operations.ObjectClass.TheVariants.{Mutex as MutexClass}
use Rattle.pt_model.specs.declared.entry.Entry.{Entry}
use Rattle.pt_model.specs.declared.entry.Entry.TheVariants.{Grant, Trip, Yield, Expire}
use Rattle.pt_model.specs.Searches.{In, count_below}
use Rattle.pt_model.specs.Histories.{History, ◌▷◌, place}
use Rattle.pt_model.specs.Objects.{kind_of, is_robust}
use Rattle.pt_model.specs.declared.waiting_call.WaitingCall.{WaitingCall}
use Rattle.pt_model.specs.declared.waiting_call.Move.{Move}
use Rattle.pt_model.specs.WaitingCall.{call_at_place, is_barrier_wait, is_cond_wait}
use Rattle.pt_model.specs.WaitingCall.{is_cond_wait_if, final_mutex, waiting_calls}
use Rattle.pt_model.specs.Answers.{at_barrier, open_calls}
use Rattle.pt_model.specs.Moves.{cause_by_expiry, is_moved, move_or, wait_move}
use Rattle.pt_model.specs.Mutexes.{owner}
use Rattle.pt_model.specs.Grants.{grant_outcome}
use Rattle.pt_model.specs.Forced.{is_dead_if, is_orphan}
use Rattle.pt_model.specs.Room.{is_robust_owned, need, reserved_for}
use Rattle.pt_model.specs.Steps.{Step, expires, Follows}
use Rattle.pt_machine.specs.Reserved.{gives_owner}
use Rattle.pt_model.proofs.Disjoint.{Apart, mutex-exists, open_apart, total-one}
use Rattle.pt_model.proofs.Counting.{count_below-same, total}
use Rattle.pt_model.proofs.Found.{found_open}
use Rattle.pt_model.proofs.Holders.{owner-grant, owner-trip, owner-yield, owner-same}
use Rattle.pt_model.proofs.Lists.{any-false, filter-all}
use Rattle.pt_model.proofs.Opens.{stands_at_barrier, open-grant, open-trip, open-yield, open-expire}
use Rattle.pt_model.proofs.Partition.{class_exists}
use Rattle.pt_model.proofs.ReservedCalls.{totals}
use Rattle.pt_model.proofs.Room.{reserved_in, reserved_yields, need-reserved}
use Rattle.pt_model.proofs.Sound.{Fresh-follows, kind_below}

-- if two tests differ at one number at most, their counts differ by that number alone
count_below-turned : (n : ℕ) (s t : ℕ → Bool) (k : ℕ)
    → ((m : ℕ) → (k == m) ≡ false → s m ≡ t m) → k < n
    → count_below n s + cond (t k) 1 0 ≡ count_below n t + cond (s k) 1 0
count_below-turned zero s t k f lt = absurd (omega arith)
count_below-turned (suc n) s t k f lt =
    go (k == n) refl (λ below. count_below-turned n s t k f below)
  where
    apart : (m : ℕ) → m < n → k ≡ n → (k == m) ≡ false
    apart m l same = grind (arith, nat_tests)

    go : (b : Bool) → (k == n) ≡ b
        → (k < n → count_below n s + cond (t k) 1 0 ≡ count_below n t + cond (s k) 1 0)
        → count_below (suc n) s + cond (t k) 1 0 ≡ count_below (suc n) t + cond (s k) 1 0
    go true e ih =
        let same : k ≡ n = grind (arith, nat_tests) in
        let one : ◌≡◌ {A = ℕ} (cond (s k) 1 0) (cond (s n) 1 0) =
        ap (λ m. cond {A = ℕ} (s m) 1 0) same in
        let other : ◌≡◌ {A = ℕ} (cond (t k) 1 0) (cond (t n) 1 0) =
        ap (λ m. cond {A = ℕ} (t m) 1 0) same in
        let rest = count_below-same n s t (λ m l. f m (apart m l same)) in
        omega (arith, one, other, rest)
    go false e ih =
        let below : k < n = grind (arith, nat_tests) in
        let here : ◌≡◌ {A = ℕ} (cond (s n) 1 0) (cond (t n) 1 0) =
        ap (λ b. cond {A = ℕ} b 1 0) (f n e) in
        omega (arith, here, ih below)

-- without the call at a place, the total is less by what that call adds
total-gone : (f : WaitingCall → ℕ) (ws : List WaitingCall) (w : WaitingCall) → In w ws → Apart ws
    → total f (filter (λ v. not (v.place == w.place)) ws) + f w ≡ total f ws
total-gone f [] w i a = absurd i
total-gone f (x ∷ xs) w (inl i) a =
    let at : w.place ≡ x.place = ap (λ (v : WaitingCall). v.place) i in
    let here : (x.place == w.place) ≡ true = grind (arith, nat_tests) in
    let others : filter (λ (v : WaitingCall). not (v.place == w.place)) xs ≡ xs =
    filter-all (λ (v : WaitingCall). not (v.place == w.place)) xs
    (λ v j. ap not (ap (λ p. v.place == p) at
    ∙ any-false (λ (u : WaitingCall). u.place == x.place) xs v a.0 j)) in
    let same : f w ≡ f x = ap f i in
    rw here (let all = ap (total f) others in omega (arith, same, all))
total-gone f (x ∷ xs) w (inr i) a =
    let k : (w.place == x.place) ≡ false =
    any-false (λ (u : WaitingCall). u.place == x.place) xs w a.0 i in
    let ne : (x.place == w.place) ≡ false = grind (arith, nat_tests) in
    rw ne (omega (arith, total-gone f xs w i a.1))

-- without the calls that pass a test, the total is less by three for each, if each adds three
total-thrice : (f : WaitingCall → ℕ) (p : WaitingCall → Bool) (ws : List WaitingCall)
    → ((w : WaitingCall) → In w ws → p w ≡ true → f w ≡ 3)
    → total f (filter (λ w. not (p w)) ws) + 3 * length (filter p ws) ≡ total f ws
total-thrice f p [] e = omega arith
total-thrice f p (x ∷ xs) e = go (p x) refl (total-thrice f p xs (λ w i. e w (inr i)))
  where
    go : (b : Bool) → p x ≡ b
        → total f (filter (λ w. not (p w)) xs) + 3 * length (filter p xs) ≡ total f xs
        → total f (cond (not b) (x ∷ filter (λ w. not (p w)) xs) (filter (λ w. not (p w)) xs))
        + 3 * length (cond b (x ∷ filter p xs) (filter p xs)) ≡ f x + total f xs
    go true t ih = omega (arith, ih, e x (inl refl) t)
    go false t ih = omega (arith, ih)

-- an entry that makes no object adds no mutex for which a Yield is reserved
yields_top : (h : History) (e : Entry) → Follows h → ((m : ℕ) → kind_of (h ▷ e) m ≡ kind_of h m)
    → reserved_yields (h ▷ e) ≡ count_below (place h) (is_robust_owned (h ▷ e))
yields_top h e f same =
    let none : is_robust_owned (h ▷ e) (place h) ≡ false =
    ap (λ k. is_robust k && is_some (owner (h ▷ e) (place h)))
    (same (place h) ∙ (Fresh-follows h f).kinds (place h) (omega arith)) in
    rw none (omega arith)

-- if no owner changes, as many entries are reserved for Yields
yields_same : (h : History) (e : Entry) → Follows h → ((m : ℕ) → kind_of (h ▷ e) m ≡ kind_of h m)
    → ((m : ℕ) → owner (h ▷ e) m ≡ owner h m) → reserved_yields (h ▷ e) ≡ reserved_yields h
yields_same h e f kinds owners =
    yields_top h e f kinds
    ∙ count_below-same (place h) (is_robust_owned (h ▷ e)) (is_robust_owned h)
    (λ m lt. ap (λ k. is_robust k && is_some (owner (h ▷ e) m)) (kinds m)
    ∙ ap (λ o. is_robust (kind_of h m) && is_some o) (owners m))

-- if the owner of one mutex alone may change, the entries reserved for Yields change by it alone
yields_turned : (h : History) (e : Entry) → Follows h
    → ((m : ℕ) → kind_of (h ▷ e) m ≡ kind_of h m) → (k : ℕ) → k < place h
    → ((m : ℕ) → (k == m) ≡ false → owner (h ▷ e) m ≡ owner h m)
    → reserved_yields (h ▷ e) + cond (is_robust_owned h k) 1 0
    ≡ reserved_yields h + cond (is_robust_owned (h ▷ e) k) 1 0
yields_turned h e f kinds k lt owners =
    let top = yields_top h e f kinds in
    let turned = count_below-turned (place h) (is_robust_owned (h ▷ e)) (is_robust_owned h) k
    (λ m ne. ap (λ x. is_robust x && is_some (owner (h ▷ e) m)) (kinds m)
    ∙ ap (λ o. is_robust (kind_of h m) && is_some o) (owners m ne)) lt in
    omega (arith, top, turned)

-- a Grant uses what was reserved for its call, except an entry for the Yield of a mutex that gets
-- an owner
grant_yields : (h : History) (w : WaitingCall) → Follows h → In w (open_calls h)
    → Step h (Grant w.place (grant_outcome h w))
    → reserved_yields (h ▷ Grant w.place (grant_outcome h w))
    ≡ reserved_yields h + cond (gives_owner h w (final_mutex w.role w.object)) 1 0
grant_yields h w f i s = go (final_mutex w.role w.object) refl
  where
    g : History
    g = h ▷ Grant w.place (grant_outcome h w)

    others : (o : Option ℕ) → final_mutex w.role w.object ≡ o → (m : ℕ) → is_some_number o m ≡ false
        → owner g m ≡ owner h m
    others o e m ne =
        owner-grant h w f i s m
        ∙ ap (λ b. cond b (Some w.client) (owner h m))
        (ap (λ x. is_acquired (grant_outcome h w) && is_some_number x m) e
        ∙ never (is_acquired (grant_outcome h w)) (is_some_number o m) ne)
      where
        never : (a b : Bool) → b ≡ false → (a && b) ≡ false
        never true b k = k
        never false b k = refl

    counts : (r a : Bool) (o : Option ℕ)
        → cond {A = ℕ} (r && is_some (cond (a && true) (Some w.client) o)) 1 0
        ≡ cond (r && is_some o) 1 0 + cond ((r && is_none o) && a) 1 0
    counts false a o = refl
    counts true true None = refl
    counts true true (Some c) = refl
    counts true false None = refl
    counts true false (Some c) = refl

    go : (o : Option ℕ) → final_mutex w.role w.object ≡ o
        → reserved_yields g ≡ reserved_yields h + cond (gives_owner h w o) 1 0
    go None e =
        let same = yields_same h (Grant w.place (grant_outcome h w)) f (λ m. refl)
        (λ m. others None e m refl) in
        omega (arith, same)
    go (Some m) e =
        let there = class_exists (kind_of h m) MutexClass (mutex-exists h f w i m e) in
        let lt : m < place h = kind_below h m (Fresh-follows h f) there in
        let here : (m == m) ≡ true = grind (arith, nat_tests) in
        let after : owner g m
        ≡ cond (is_acquired (grant_outcome h w) && true) (Some w.client) (owner h m) =
        owner-grant h w f i s m
        ∙ ap (λ b. cond (is_acquired (grant_outcome h w) && b) (Some w.client) (owner h m))
        (ap (λ x. is_some_number x m) e ∙ here) in
        let one : cond {A = ℕ} (is_robust_owned g m) 1 0
        ≡ cond (is_robust_owned h m) 1 0 + cond (gives_owner h w (Some m)) 1 0 =
        ap (λ o. cond {A = ℕ} (is_robust (kind_of h m) && is_some o) 1 0) after
        ∙ counts (is_robust (kind_of h m)) (is_acquired (grant_outcome h w)) (owner h m) in
        let turned = yields_turned h (Grant w.place (grant_outcome h w)) f (λ k. refl) m lt
        (λ k ne. others (Some m) e k ne) in
        omega (arith, one, turned)

pub need-grant : (h : History) (w : WaitingCall) → Follows h → In w (open_calls h)
    → Step h (Grant w.place (grant_outcome h w))
    → need (h ▷ Grant w.place (grant_outcome h w)) + reserved_for h w
    ≡ need h + cond (gives_owner h w (final_mutex w.role w.object)) 1 0
need-grant h w f i s =
    let gone : reserved_in (h ▷ Grant w.place (grant_outcome h w)) + reserved_for h w
    ≡ reserved_in h =
    rw (open-grant h w.place (grant_outcome h w))
    (total-gone (reserved_for h) (open_calls h) w i (open_apart h f)) in
    omega (
      arith,
      need-reserved h,
      need-reserved (h ▷ Grant w.place (grant_outcome h w)),
      gone,
      grant_yields h w f i s,
    )

-- a Trip uses what was reserved for the calls at its barrier
pub need-trip : (h : History) (b : ℕ) → Follows h
    → ((w : WaitingCall) → In w (open_calls h) → is_barrier_wait w.role ≡ true → is_moved h w
    ≡ false)
    → need (h ▷ Trip b) + 3 * length (at_barrier b (open_calls h)) ≡ need h
need-trip h b f unmoved =
    let gone : reserved_in (h ▷ Trip b) + 3 * length (at_barrier b (open_calls h))
    ≡ reserved_in h =
    rw (open-trip h b f)
    (total-thrice (reserved_for h) (stands_at_barrier b) (open_calls h)
    (λ w i t. ap (λ m. cond {A = ℕ} m 2 3)
    (unmoved w i (and_parts (is_barrier_wait w.role) _ t).0))) in
    omega (
      arith,
      need-reserved h,
      need-reserved (h ▷ Trip b),
      gone,
      yields_same h (Trip b) f (λ m. refl) (λ m. owner-trip h b m f),
    )

-- a Yield uses the entry that was reserved for its mutex
pub need-yield : (h : History) (m : ℕ) → Follows h → is_orphan h m ≡ true
    → need (h ▷ Yield m) + 1 ≡ need h
need-yield h m f t =
    let calls : reserved_in (h ▷ Yield m) ≡ reserved_in h =
    ap (total (reserved_for h)) (open-yield h m) in
    let turned = yields_turned h (Yield m) f (λ k. refl) m below others in
    omega (
      arith,
      need-reserved h,
      need-reserved (h ▷ Yield m),
      calls,
      turned,
      ap (λ b. cond {A = ℕ} b 1 0) before,
      ap (λ b. cond {A = ℕ} b 1 0) after,
    )
  where
    p : (is_robust (kind_of h m) ≡ true) × (is_dead_if h (owner h m) ≡ true)
    p = and_parts (is_robust (kind_of h m)) (is_dead_if h (owner h m)) t

    is_queue : (o : Option _) → is_robust o ≡ true → is_some o ≡ true
    is_queue None e = absurd cc
    is_queue (Some x) e = refl

    below : m < place h
    below = kind_below h m (Fresh-follows h f) (is_queue (kind_of h m) p.0)

    owned : (o : Option ℕ) → is_dead_if h o ≡ true → is_some o ≡ true
    owned None e = absurd cc
    owned (Some c) e = refl

    before : is_robust_owned h m ≡ true
    before = and_from (is_robust (kind_of h m)) (is_some (owner h m)) p.0 (owned (owner h m) p.1)

    others : (k : ℕ) → (m == k) ≡ false → owner (h ▷ Yield m) k ≡ owner h k
    others k ne = owner-yield h m k f ∙ ap (λ b. cond b None (owner h k)) ne

    after : is_robust_owned (h ▷ Yield m) m ≡ false
    after =
        let here : (m == m) ≡ true = grind (arith, nat_tests) in
        ap (λ o. is_robust (kind_of h m) && is_some o)
        (owner-yield h m m f ∙ ap (λ b. cond b None (owner h m)) here)
        ∙ never (is_robust (kind_of h m))
      where
        never : (b : Bool) → (b && false) ≡ false
        never true = refl
        never false = refl

-- an Expire that moves a wait uses one entry
expire_waits : (h : History) (w : WaitingCall) → Follows h → In w (open_calls h)
    → is_moved h w ≡ false → is_cond_wait w.role ≡ true
    → reserved_in (h ▷ Expire w.place) + 1 ≡ reserved_in h
expire_waits h w f i un e =
    let same : (w.place == w.place) ≡ true = grind (arith, nat_tests) in
    let three : reserved_for h w ≡ 3 = ap (λ b. cond {A = ℕ} b 2 3) un in
    let two : reserved_for (h ▷ Expire w.place) w ≡ 2 = rw (found_open h f w i, e, same) refl in
    let all : open_calls (h ▷ Expire w.place) ≡ open_calls h =
    open-expire h w f i ∙ filter-all (λ (v : WaitingCall). is_cond_wait w.role || not
    (v.place == w.place)) (open_calls h) (λ v j. rw e refl) in
    let less =
    total-one (reserved_for h) (reserved_for (h ▷ Expire w.place)) (open_calls h) w i
    (open_apart h f) (omega (arith, two, three))
    (λ v j ne. kept (w.place == v.place) (is_cond_wait_if (call_at_place w.place (waiting_calls h)))
    (wait_move h v.place) ne) in
    rw all (omega (arith, less))
  where
    kept : (b waits : Bool) (o : Option Move) → b ≡ false
        → cond {A = ℕ} (is_some (move_or (place h) (cause_by_expiry b waits) o)) 2 3
        ≡ cond (is_some o) 2 3
    kept true waits o k = absurd cc
    kept false waits o k = refl

-- an Expire that ends another call uses all three entries that were reserved for it
expire_ends : (h : History) (w : WaitingCall) → Follows h → In w (open_calls h)
    → is_moved h w ≡ false → is_cond_wait w.role ≡ false
    → reserved_in (h ▷ Expire w.place) + 3 ≡ reserved_in h
expire_ends h w f i un e =
    let three : reserved_for h w ≡ 3 = ap (λ b. cond {A = ℕ} b 2 3) un in
    let left : open_calls (h ▷ Expire w.place)
    ≡ filter (λ v. not (v.place == w.place)) (open_calls h) =
    open-expire h w f i
    ∙ ap (λ b. filter (λ (v : WaitingCall). b || not (v.place == w.place)) (open_calls h)) e in
    let ws = filter (λ (v : WaitingCall). not (v.place == w.place)) (open_calls h) in
    let same : total (reserved_for (h ▷ Expire w.place)) ws ≡ total (reserved_for h) ws =
    totals (reserved_for h) (reserved_for (h ▷ Expire w.place)) ws
    (λ v j. ap (λ o. cond {A = ℕ}
    (is_some (move_or (place h) (cause_by_expiry (w.place == v.place) (is_cond_wait_if o))
    (wait_move h v.place))) 2 3) (found_open h f w i)
    ∙ kept (w.place == v.place) (is_cond_wait w.role) (wait_move h v.place) e) in
    let gone = total-gone (reserved_for h) (open_calls h) w i (open_apart h f) in
    rw left (omega (arith, same, gone, three))
  where
    kept : (b waits : Bool) (o : Option Move) → waits ≡ false
        → cond {A = ℕ} (is_some (move_or (place h) (cause_by_expiry b waits) o)) 2 3
        ≡ cond (is_some o) 2 3
    kept b true o k = absurd cc
    kept true false o k = refl
    kept false false o k = refl

need_expire : (h : History) (w : WaitingCall) (n : ℕ) → Follows h
    → reserved_in (h ▷ Expire w.place) + n ≡ reserved_in h
    → need (h ▷ Expire w.place) + n ≡ need h
need_expire h w n f e =
    omega (
      arith,
      need-reserved h,
      need-reserved (h ▷ Expire w.place),
      e,
      yields_same h (Expire w.place) f (λ m. refl)
          (λ m. owner-same h (Expire w.place) m f (λ c. refl)),
    )

-- the call of an Expire was not moved
expire_unmoved : (h : History) (j : ℕ) → Step h (Expire j) → is_some (wait_move h j) ≡ false
expire_unmoved h _ (expires w s i t) =
    go (is_moved h w) (and_parts (not (is_moved h w)) _ t).0
  where
    go : (b : Bool) → not b ≡ true → b ≡ false
    go true e = absurd cc
    go false e = refl

pub need-expire_wait : (h : History) (w : WaitingCall) → Follows h → In w (open_calls h)
    → Step h (Expire w.place) → is_cond_wait w.role ≡ true
    → need (h ▷ Expire w.place) + 1 ≡ need h
need-expire_wait h w f i s e =
    need_expire h w 1 f (expire_waits h w f i (expire_unmoved h w.place s) e)

pub need-expire_end : (h : History) (w : WaitingCall) → Follows h → In w (open_calls h)
    → Step h (Expire w.place) → is_cond_wait w.role ≡ false
    → need (h ▷ Expire w.place) + 3 ≡ need h
need-expire_end h w f i s e =
    need_expire h w 3 f (expire_ends h w f i (expire_unmoved h w.place s) e)
