-- The deadlines in their orders, when one is set or taken away.
use Rattle.std.proofs.Common.{◌≡◌, ℕ, ◌<◌, ◌==◌, ◌&&◌, ◌||◌, not, Bool, true, false, cond, List}
use Rattle.std.proofs.Common.{Option, Some, None, inl, inr, refl, sym, ap, ap₂, ◌∙◌, ◌++◌, ◌⊎◌}
use Rattle.std.proofs.Common.{Result, Ok, Err, OnOk, OnErr, subst, arith}
use Rattle.std.proofs.lemmas.Bool.{false≢true, and_parts}
use Rattle.std.proofs.lemmas.Bool.Decides.{nat_tests}
use Rattle.std.specs.List.{list_any}
use Rattle.std.specs.BTreeMap.{is_at}
use Rattle.pt_types.specs.declared.time.Clock.{Clock}
use Rattle.pt_types.specs.declared.time.Clock.TheVariants.{Real, Mono}
use Rattle.pt_types.specs.Operations.{same_clock}
use Rattle.pt_timers.specs.declared.key.TimerKey.{TimerKey}
use Rattle.pt_timers.specs.declared.orders.Orders.{Orders}
use Rattle.pt_timers.specs.Deadlines.{deadline_at, is_set_to, key_cmp, timer_key, same_key}
use Rattle.pt_timers.specs.Deadlines.{max_nanos, AreTimers}
use Rattle.pt_timers.specs.Orders.{by_places, is_due_at, timer_list, order_of}
use Rattle.pt_timers.proofs.PlaceLemmas.{is-due, not-due-at, same-number, same-parts}

-- whether a clock and a key are these
abbrev is_one : Clock → TimerKey → Clock → TimerKey → Bool
is_one k a l b = same_clock k l && same_key a b

same-clock : (k l : Clock) → same_clock k l ≡ true → k ≡ l
same-clock Real Real e = refl
same-clock Mono Mono e = refl
same-clock Real Mono e = absurd cc
same-clock Mono Real e = absurd cc

own-clock : (k : Clock) → same_clock k k ≡ true
own-clock Real = refl
own-clock Mono = refl

one-parts : (k l : Clock) (a b : TimerKey) → is_one k a l b ≡ true
    → (k ≡ l) × (a.nanos ≡ b.nanos) × (a.place ≡ b.place)
one-parts k l a b e =
    let both = and_parts (same_clock k l) _ e in
    let parts = and_parts (a.nanos == b.nanos) _ both.1 in (
      same-clock k l both.0,
      same-number a.nanos b.nanos parts.0,
      same-number a.place b.place parts.1,
    )

one-from : (k l : Clock) (a b : TimerKey) → k ≡ l → a.nanos ≡ b.nanos → a.place ≡ b.place
    → is_one k a l b ≡ true
one-from k l a b c n p =
    let clocks : same_clock k l ≡ true = ap (same_clock k) (sym c) ∙ own-clock k in
    rw clocks (grind (arith, nat_tests))

-- the clock and the nanoseconds of two keys are the same
abbrev Same : Clock → TimerKey → Clock → TimerKey → Type 0
Same k a l b = (k ≡ l) × (a.nanos ≡ b.nanos)

-- at most one deadline is due at each place
abbrev IsOnce : (Clock → TimerKey → Bool) → Type 0
IsOnce is_due =
    (k l : Clock) (a b : TimerKey) → is_due k a ≡ true → is_due l b ≡ true → a.place ≡ b.place
    → Same k a l b

-- each deadline is a time
abbrev AreTimes : (Clock → TimerKey → Bool) → Type 0
AreTimes is_due = (k : Clock) (q : TimerKey) → is_due k q ≡ true → q.nanos < max_nanos

-- the deadlines in their orders are set at their places
pub timers-of : {A : Type 0} (o : Orders A) → IsOnce (is_due_at o) → AreTimes (is_due_at o)
    → AreTimers (timer_list o) (is_due_at o)
timers-of o once times = record {
  placed = λ k q h. (placed k q h (deadline_at (timer_list o) q.place) refl, times k q h);
  ordered = λ p k n e. is-due o p k n e;
}
  where
    placed : (k : Clock) (q : TimerKey) → is_due_at o k q ≡ true
        → (f : Option (Clock × ℕ)) → deadline_at (timer_list o) q.place ≡ f
        → deadline_at (timer_list o) q.place ≡ Some (k, q.nanos)
    placed k q h None e = absurd (not-due-at o q.place e k q refl h)
    placed k q h (Some (l, n)) e =
        let same = once l k (timer_key n q.place) q (is-due o q.place l n e) h refl in
        e ∙ (ap (λ c. Some (c, n)) same.0 ∙ ap (λ m. Some (k, m)) same.1)

module _ (places : List (ℕ × (Clock × ℕ))) (is_due : Clock → TimerKey → Bool)
    (kept : AreTimers places is_due) where
  once : IsOnce is_due
  once k l a b h i at =
      same-parts k l a.nanos b.nanos
      (sym (kept.placed k a h).0 ∙ (ap (deadline_at places) at ∙ (kept.placed l b i).0))

  -- the deadline that is set at a place is what is due there, if anything is
  pub found-at : (p : ℕ) (found : Option (Clock × ℕ))
      → ((k : Clock) (n : ℕ) → found ≡ Some (k, n) → is_due k (timer_key n p) ≡ true)
      → ((k : Clock) (n : ℕ) → is_due k (timer_key n p) ≡ true → found ≡ Some (k, n))
      → deadline_at places p ≡ found
  found-at p (Some (k, n)) some due = (kept.placed k (timer_key n p) (some k n refl)).0
  found-at p None some due = go (deadline_at places p) refl
    where
      go : (x : Option (Clock × ℕ)) → deadline_at places p ≡ x → deadline_at places p ≡ None
      go None e = e
      go (Some (k, n)) e = absurd (let f = due k n (kept.ordered p k n e) in cc)

module _ {A : Type 0} (old new : Orders A) (kept : AreTimers (timer_list old) (is_due_at old))
    (k : Clock) (n p : ℕ) where
  abbrev set_at : ℕ → Option (Clock × ℕ)
  set_at q = deadline_at (timer_list old) q

  module _ (unset : set_at p ≡ None) (few : n < max_nanos)
      (put : (l : Clock) (q : TimerKey)
      → is_due_at new l q ≡ (is_one k (timer_key n p) l q || is_due_at old l q)) where
    -- a key that is due now is the one that was put in, or was due before
    by-put : (l : Clock) (q : TimerKey) → is_due_at new l q ≡ true
        → ((k ≡ l) × (n ≡ q.nanos) × (p ≡ q.place)) ⊎ (is_due_at old l q ≡ true)
    by-put l q h = go (is_one k (timer_key n p) l q) refl (sym (put l q) ∙ h)
      where
        go : (b : Bool) → is_one k (timer_key n p) l q ≡ b → (b || is_due_at old l q) ≡ true
            → ((k ≡ l) × (n ≡ q.nanos) × (p ≡ q.place)) ⊎ (is_due_at old l q ≡ true)
        go true t i = inl (one-parts k l (timer_key n p) q t)
        go false t i = inr i

    none-due : (l : Clock) (q : TimerKey) → p ≡ q.place → is_due_at old l q ≡ true → ⊥
    none-due l q at h =
        let set = (kept.placed l q h).0 in
        let free = ap (deadline_at (timer_list old)) (sym at) ∙ unset in
        absurd (let both = sym set ∙ free in cc)

    set-once : IsOnce (is_due_at new)
    set-once l m a b h i at = go (by-put l a h) (by-put m b i)
      where
        go : ((k ≡ l) × (n ≡ a.nanos) × (p ≡ a.place)) ⊎ (is_due_at old l a ≡ true)
            → ((k ≡ m) × (n ≡ b.nanos) × (p ≡ b.place)) ⊎ (is_due_at old m b ≡ true)
            → Same l a m b
        go (inl x) (inl y) = (sym x.0 ∙ y.0, sym x.1 ∙ y.1)
        go (inl x) (inr y) = absurd (none-due m b (x.2 ∙ at) y)
        go (inr x) (inl y) = absurd (none-due l a (y.2 ∙ sym at) x)
        go (inr x) (inr y) = once (timer_list old) (is_due_at old) kept l m a b x y at

    set-times : AreTimes (is_due_at new)
    set-times l q h = go (by-put l q h)
      where
        go : ((k ≡ l) × (n ≡ q.nanos) × (p ≡ q.place)) ⊎ (is_due_at old l q ≡ true)
            → q.nanos < max_nanos
        go (inl x) = subst (λ m. m < max_nanos) x.1 few
        go (inr x) = (kept.placed l q x).1

    -- the deadlines after one more is set
    one-more : AreTimers (timer_list new) (is_due_at new)
    one-more = timers-of new set-once set-times

    more-at : (q : ℕ) → deadline_at (timer_list new) q ≡ cond (p == q) (Some (k, n)) (set_at q)
    more-at q =
        found-at (timer_list new) (is_due_at new) one-more q
        (cond (p == q) (Some (k, n)) (set_at q))
        (λ l m e. put l (timer_key m q) ∙ some l m (p == q) refl e)
        (λ l m h. due l m (p == q) refl (by-put l (timer_key m q) h))
      where
        some : (l : Clock) (m : ℕ) (b : Bool) → (p == q) ≡ b
            → cond b (Some (k, n)) (set_at q) ≡ Some (l, m)
            → (is_one k (timer_key n p) l (timer_key m q) || is_due_at old l (timer_key m q)) ≡ true
        some l m true t e =
            let parts = same-parts k l n m e in
            ap (λ b. b || is_due_at old l (timer_key m q))
            (one-from k l (timer_key n p) (timer_key m q) parts.0 parts.1 (same-number p q t))
        some l m false t e =
            either (is_one k (timer_key n p) l (timer_key m q)) (kept.ordered q l m e)
          where
            either : (b : Bool) → is_due_at old l (timer_key m q) ≡ true
                → (b || is_due_at old l (timer_key m q)) ≡ true
            either true h = refl
            either false h = h

        due : (l : Clock) (m : ℕ) (b : Bool) → (p == q) ≡ b
            → ((k ≡ l) × (n ≡ m) × (p ≡ q)) ⊎ (is_due_at old l (timer_key m q) ≡ true)
            → cond b (Some (k, n)) (set_at q) ≡ Some (l, m)
        due l m true t (inl x) = ap (λ c. Some (c, n)) x.0 ∙ ap (λ i. Some (l, i)) x.1
        due l m true t (inr x) = absurd (none-due l (timer_key m q) (same-number p q t) x)
        due l m false t (inl x) = absurd (grind (arith, nat_tests, t, x.2))
        due l m false t (inr x) = (kept.placed l (timer_key m q) x).0

  module _ (out : (l : Clock) (q : TimerKey)
      → is_due_at new l q ≡ (not (is_one k (timer_key n p) l q) && is_due_at old l q)) where
    -- a key that is due now was due before, and is not the one that was taken out
    by-out : (l : Clock) (q : TimerKey) → is_due_at new l q ≡ true
        → (not (is_one k (timer_key n p) l q) ≡ true) × (is_due_at old l q ≡ true)
    by-out l q h = and_parts (not (is_one k (timer_key n p) l q)) _ (sym (out l q) ∙ h)

    -- the deadlines after one is taken out, if it was there
    pub one-less : AreTimers (timer_list new) (is_due_at new)
    one-less =
        timers-of new
        (λ l m a b h i at. once (timer_list old) (is_due_at old) kept l m a b (by-out l a h).1
        (by-out m b i).1 at)
        (λ l q h. (kept.placed l q (by-out l q h).1).1)

    -- whether what is set at a place is this
    abbrev is_it : ℕ → Option (Clock × ℕ) → Bool
    is_it q d = (p == q) && is_set_to k n d

    as-one : (q : ℕ) (l : Clock) (m : ℕ)
        → is_one k (timer_key n p) l (timer_key m q) ≡ is_it q (Some (l, m))
    as-one q l m = go (same_clock k l) (n == m) (p == q)
      where
        go : (a b c : Bool) → (a && (b && c)) ≡ (c && (a && b))
        go true true true = refl
        go true true false = refl
        go true false true = refl
        go true false false = refl
        go false b true = refl
        go false b false = refl

    pub less-at : (q : ℕ)
        → deadline_at (timer_list new) q ≡ cond (is_it q (set_at q)) None (set_at q)
    less-at q =
        found-at (timer_list new) (is_due_at new) one-less q (cond (is_it q (set_at q)) None
        (set_at q))
        (λ l m e. out l (timer_key m q) ∙ some l m (is_it q (set_at q)) refl e)
        (λ l m h. due l m (by-out l (timer_key m q) h))
      where
        some : (l : Clock) (m : ℕ) (b : Bool) → is_it q (set_at q) ≡ b
            → cond b None (set_at q) ≡ Some (l, m)
            → (not (is_one k (timer_key n p) l (timer_key m q)) && is_due_at old l (timer_key m q))
            ≡ true
        some l m true t e = absurd cc
        some l m false t e =
            let other : is_one k (timer_key n p) l (timer_key m q) ≡ false =
            as-one q l m ∙ (ap (is_it q) (sym e) ∙ t) in
            ap (λ b. not b && is_due_at old l (timer_key m q)) other ∙ kept.ordered q l m e

        due : (l : Clock) (m : ℕ)
            → (not (is_one k (timer_key n p) l (timer_key m q)) ≡ true)
            × (is_due_at old l (timer_key m q) ≡ true)
            → cond (is_it q (set_at q)) None (set_at q) ≡ Some (l, m)
        due l m h =
            let was = (kept.placed l (timer_key m q) h.1).0 in
            ap (λ (d : Option (Clock × ℕ)). cond (is_it q d) None d) was
            ∙ (ap (λ b. cond {A = Option (Clock × ℕ)} b None (Some (l, m))) (sym (as-one q l m))
            ∙ left (is_one k (timer_key n p) l (timer_key m q)) h.0)
          where
            left : (b : Bool) → not b ≡ true
                → cond {A = Option (Clock × ℕ)} b None (Some (l, m)) ≡ Some (l, m)
            left true f = absurd (false≢true f)
            left false f = refl

-- the same keys are the same deadlines
same-listed : {A : Type 0} (old new : Orders A)
    → ((k : Clock) → order_of new k ≡ order_of old k) → timer_list new ≡ timer_list old
same-listed old new same =
    ap₂ (λ r m. by_places Real r ++ by_places Mono m) (same Real) (same Mono)

same-timers : {A : Type 0} (old new : Orders A)
    → ((k : Clock) → order_of new k ≡ order_of old k)
    → AreTimers (timer_list old) (is_due_at old) → AreTimers (timer_list new) (is_due_at new)
same-timers old new same kept =
    timers-of new
    (λ k l a b h i at. once (timer_list old) (is_due_at old) kept k l a b (was k a h)
    (was l b i) at)
    (λ k q h. (kept.placed k q (was k q h)).1)
  where
    was : (k : Clock) (q : TimerKey) → is_due_at new k q ≡ true → is_due_at old k q ≡ true
    was k q h = ap (λ ks. list_any (is_at (key_cmp q)) ks) (sym (same k)) ∙ h

module _ {A X E : Type 0} (old new : Orders A) (answer : Result X E) (k : Clock) (n p : ℕ) where
  -- this key is put in, and others are as before
  abbrev IsPut : Type 0
  IsPut = (l : Clock) (q : TimerKey)
      → is_due_at new l q ≡ (is_one k (timer_key n p) l q || is_due_at old l q)

  -- the keys are as before
  abbrev IsSame : Type 0
  IsSame = (l : Clock) → order_of new l ≡ order_of old l

  module _ (w : List (ℕ × (Clock × ℕ))) (view : timer_list old ≡ w) where
    -- a deadline that is refused changes nothing
    pub refused : OnErr answer IsSame → OnErr answer (timer_list new ≡ w)
    refused same = go answer same
      where
        go : (r : Result X E) → OnErr r IsSame → OnErr r (timer_list new ≡ w)
        go (Ok x) h = h
        go (Err e) h = same-listed old new h ∙ view

    module _ (kept : AreTimers (timer_list old) (is_due_at old)) (few : n < max_nanos)
        (unset : deadline_at w p ≡ None) (put : OnOk answer IsPut) where
      free : deadline_at (timer_list old) p ≡ None
      free = ap (λ ts. deadline_at ts p) view ∙ unset

      -- the deadlines are right whether one is refused or not
      pub set-timers : OnErr answer IsSame → AreTimers (timer_list new) (is_due_at new)
      set-timers same = go answer put same
        where
          go : (r : Result X E) → OnOk r IsPut → OnErr r IsSame
              → AreTimers (timer_list new) (is_due_at new)
          go (Ok x) h i = one-more old new kept k n p free few h
          go (Err e) h i = same-timers old new i kept

      pub set-in-place : (m : ℕ) → n ≡ m → OnOk answer ((q : ℕ)
          → deadline_at (timer_list new) q ≡ cond (p == q) (Some (k, m)) (deadline_at w q))
      set-in-place m is = go answer put
        where
          go : (r : Result X E) → OnOk r IsPut → OnOk r ((q : ℕ)
              → deadline_at (timer_list new) q ≡ cond (p == q) (Some (k, m)) (deadline_at w q))
          go (Ok x) h = λ q.
              more-at old new kept k n p free few h q
              ∙ (ap (λ ts. cond (p == q) (Some (k, n)) (deadline_at ts q)) view
              ∙ ap (λ i. cond (p == q) (Some (k, i)) (deadline_at w q)) is)
          go (Err e) h = h
