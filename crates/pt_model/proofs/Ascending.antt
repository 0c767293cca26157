-- Lists of waiting calls in ascending order of their places, and searches of them.
use Rattle.std.proofs.Common.{◌≡◌, ℕ, suc, ◌+◌, ◌<◌, ◌≤◌, Bool, true, false, ◌&&◌, ◌||◌, cond, eqb}
use Rattle.std.proofs.Common.{ltb, leb, List, [], ◌∷◌, ◌++◌, Option, Some, None, refl, sym, ap, ◌∙◌}
use Rattle.std.proofs.Common.{arith, filter, inl, inr}
use Rattle.std.proofs.lemmas.Bool.{eq-eqb, ne_eqb, lt-ltb, le-ltb, le-leb, lt-leb, cases_order}
use Rattle.std.proofs.lemmas.Bool.{cases_eq, eqb-true}
use Rattle.std.specs.List.{list_any}
use Rattle.pt_model.specs.Searches.{Each, option_list}
use Rattle.pt_model.specs.declared.waiting_call.WaitingCall.{WaitingCall}
use Rattle.pt_model.specs.WaitingCall.{call_at_place}
use Rattle.pt_model.specs.Found.{is_some_and, option_filter}

-- each place is greater than those before it, and at least n
abbrev pub Ascends : ℕ → List WaitingCall → Type 0
Ascends n [] = Unit {0}
Ascends n (w ∷ ws) = (n ≤ w.place) × Ascends (suc w.place) ws

-- those before a place
abbrev pub upto : ℕ → List WaitingCall → List WaitingCall
upto i ws = filter (λ w. ltb w.place i) ws

-- those at a place or after it
abbrev pub from : ℕ → List WaitingCall → List WaitingCall
from i ws = filter (λ w. leb i w.place) ws

pub Ascends-weaker : (m n : ℕ) (ws : List WaitingCall) → m ≤ n → Ascends n ws → Ascends m ws
Ascends-weaker m n [] le a = tt
Ascends-weaker m n (w ∷ ws) le a = (omega arith, a.1)

pub Ascends-filter :
    (p : WaitingCall → Bool) (n : ℕ) (ws : List WaitingCall) → Ascends n ws
    → Ascends n (filter p ws)
Ascends-filter p n [] a = tt
Ascends-filter p n (w ∷ ws) a = go (p w) (Ascends-filter p (suc w.place) ws a.1)
  where
    go : (b : Bool) → Ascends (suc w.place) (filter p ws)
        → Ascends n (cond b (w ∷ filter p ws) (filter p ws))
    go true ih = (a.0, ih)
    go false ih = Ascends-weaker n (suc w.place) (filter p ws) (omega (arith, a.0)) ih

pub Ascends-push :
    (n : ℕ) (ws : List WaitingCall) (w : WaitingCall) → Ascends n ws → n ≤ w.place
    → Each (λ v. v.place < w.place) ws → Ascends n (ws ++ w ∷ [])
Ascends-push n [] w a le e = (le, tt)
Ascends-push n (v ∷ vs) w a le e =
    (a.0, Ascends-push (suc v.place) vs w a.1 (omega (arith, e.0)) e.1)

pub Each-weaker :
    (P Q : WaitingCall → Type 0) → ((w : WaitingCall) → P w → Q w) → (ws : List WaitingCall)
    → Each P ws → Each Q ws
Each-weaker P Q f [] e = tt
Each-weaker P Q f (w ∷ ws) e = (f w e.0, Each-weaker P Q f ws e.1)

pub Each-filter :
    (P : WaitingCall → Type 0) (p : WaitingCall → Bool) (ws : List WaitingCall)
    → Each P ws → Each P (filter p ws)
Each-filter P p [] e = tt
Each-filter P p (w ∷ ws) e = go (p w) (Each-filter P p ws e.1)
  where
    go : (b : Bool) → Each P (filter p ws) → Each P (cond b (w ∷ filter p ws) (filter p ws))
    go true ih = (e.0, ih)
    go false ih = ih

pub Each-append :
    (P : WaitingCall → Type 0) (vs ws : List WaitingCall) → Each P vs → Each P ws
    → Each P (vs ++ ws)
Each-append P [] ws a b = b
Each-append P (v ∷ vs) ws a b = (a.0, Each-append P vs ws a.1 b)

-- there is none at a place before all of them
pub call_at_place-before :
    (j n : ℕ) (ws : List WaitingCall) → Ascends n ws → j < n → call_at_place j ws ≡ None
call_at_place-before j n [] a lt = refl
call_at_place-before j n (w ∷ ws) a lt =
    let other : eqb w.place j ≡ false = ne_eqb w.place j (λ e. omega (arith, a.0)) in
    rw other (call_at_place-before j (suc w.place) ws a.1 (omega (arith, a.0)))

pub upto-before :
    (i n : ℕ) (ws : List WaitingCall) → Ascends n ws → i ≤ n → upto i ws ≡ []
upto-before i n [] a le = refl
upto-before i n (w ∷ ws) a le =
    let late : ltb w.place i ≡ false = le-ltb w.place i (omega (arith, a.0)) in
    rw late (upto-before i (suc w.place) ws a.1 (omega (arith, a.0)))

pub from-before :
    (i n : ℕ) (ws : List WaitingCall) → Ascends n ws → i ≤ n → from i ws ≡ ws
from-before i n [] a le = refl
from-before i n (w ∷ ws) a le =
    let late : leb i w.place ≡ true = le-leb i w.place (omega (arith, a.0)) in
    rw late (ap (λ vs. w ∷ vs) (from-before i (suc w.place) ws a.1 (omega (arith, a.0))))

-- those before the next place are those before this one, and the one at this place
pub upto_more :
    (i n : ℕ) (ws : List WaitingCall) → Ascends n ws
    → upto (i + 1) ws ≡ upto i ws ++ option_list (call_at_place i ws)
upto_more i n [] a = refl
upto_more i n (w ∷ ws) a =
    elim (cases_order w.place i) [
      | inl same ↦
          rw (lt-ltb w.place (i + 1) (omega (arith, same)), le-ltb w.place i (omega (arith, same)))
          (rw (
            eq-eqb w.place i same,
            upto-before (i + 1) (suc w.place) ws a.1 (omega (arith, same)),
            upto-before i (suc w.place) ws a.1 (omega (arith, same)),
          ) refl)
      | inr (inl before) ↦
          rw (lt-ltb w.place (i + 1) (omega (arith, before)), lt-ltb w.place i before)
          (rw (ne_eqb w.place i (λ e. omega (arith, before)))
          (ap (λ vs. w ∷ vs) (upto_more i (suc w.place) ws a.1)))
      | inr (inr behind) ↦
          rw (
            le-ltb w.place (i + 1) (omega (arith, behind)),
            le-ltb w.place i (omega (arith, behind)),
          )
          (rw (ne_eqb w.place i (λ e. omega (arith, behind))) (upto_more i (suc w.place) ws a.1))
    ]

-- those from a place on are the one at this place, and those from the next place on
pub from_more :
    (i n : ℕ) (ws : List WaitingCall) → Ascends n ws
    → from i ws ≡ option_list (call_at_place i ws) ++ from (i + 1) ws
from_more i n [] a = refl
from_more i n (w ∷ ws) a =
    elim (cases_order w.place i) [
      | inl same ↦
          rw (le-leb i w.place (omega (arith, same)), lt-leb (i + 1) w.place (omega (arith, same)))
          (rw (
            eq-eqb w.place i same,
            from-before (i + 1) (suc w.place) ws a.1 (omega (arith, same)),
            from-before i (suc w.place) ws a.1 (omega (arith, same)),
          ) refl)
      | inr (inl before) ↦
          rw (lt-leb i w.place before, lt-leb (i + 1) w.place (omega (arith, before)))
          (rw (ne_eqb w.place i (λ e. omega (arith, before))) (from_more i (suc w.place) ws a.1))
      | inr (inr behind) ↦
          rw (
            le-leb i w.place (omega (arith, behind)),
            le-leb (i + 1) w.place (omega (arith, behind)),
          )
          (rw (
            ne_eqb w.place i (λ e. omega (arith, behind)),
            call_at_place-before i (suc w.place) ws a.1 (omega (arith, behind)),
            from-before i (suc w.place) ws a.1 (omega (arith, behind)),
            from-before (i + 1) (suc w.place) ws a.1 (omega (arith, behind)),
          ) refl)
    ]

pub upto_all :
    (n : ℕ) (ws : List WaitingCall) → Each (λ w. w.place < n) ws → upto n ws ≡ ws
upto_all n [] e = refl
upto_all n (w ∷ ws) e =
    let early : ltb w.place n ≡ true = lt-ltb w.place n e.0 in
    rw early (ap (λ vs. w ∷ vs) (upto_all n ws e.1))

pub from_all :
    (n : ℕ) (ws : List WaitingCall) → Each (λ w. w.place < n) ws → from n ws ≡ []
from_all n [] e = refl
from_all n (w ∷ ws) e =
    let early : leb n w.place ≡ false = lt-leb n w.place e.0 in
    rw early (from_all n ws e.1)

pub call_at_place-append :
    (j : ℕ) (vs ws : List WaitingCall) → call_at_place j vs ≡ None
    → call_at_place j (vs ++ ws) ≡ call_at_place j ws
call_at_place-append j [] ws none = refl
call_at_place-append j (v ∷ vs) ws none = go (eqb v.place j) none (call_at_place-append j vs ws)
  where
    go : (b : Bool) → cond b (Some v) (call_at_place j vs) ≡ None
        → (call_at_place j vs ≡ None → call_at_place j (vs ++ ws) ≡ call_at_place j ws)
        → cond b (Some v) (call_at_place j (vs ++ ws)) ≡ call_at_place j ws
    go true n ih = absurd cc
    go false n ih = ih n

pub call_at_place-append_right :
    (j : ℕ) (vs ws : List WaitingCall) → call_at_place j ws ≡ None
    → call_at_place j (vs ++ ws) ≡ call_at_place j vs
call_at_place-append_right j [] ws none = none
call_at_place-append_right j (v ∷ vs) ws none =
    ap (λ o. cond (eqb v.place j) (Some v) o) (call_at_place-append_right j vs ws none)

pub call_at_place-below :
    (j : ℕ) (ws : List WaitingCall) → Each (λ w. w.place < j) ws → call_at_place j ws ≡ None
call_at_place-below j [] e = refl
call_at_place-below j (w ∷ ws) e =
    let other : eqb w.place j ≡ false = ne_eqb w.place j (λ k. omega (arith, e.0)) in
    rw other (call_at_place-below j ws e.1)

-- the call at a place, after a filter
pub call_at_place-filter :
    (p : WaitingCall → Bool) (i n : ℕ) (ws : List WaitingCall) → Ascends n ws
    → call_at_place i (filter p ws) ≡ option_filter p (call_at_place i ws)
call_at_place-filter p i n [] a = refl
call_at_place-filter p i n (w ∷ ws) a =
    elim (cases_eq w.place i) [
      | inl e ↦ rw (eq-eqb w.place i e) (same (p w) e)
      | inr ne ↦
          rw (ne_eqb w.place i ne)
          (other (p w) ne (call_at_place-filter p i (suc w.place) ws a.1))
    ]
  where
    same : (b : Bool) → w.place ≡ i
        → call_at_place i (cond b (w ∷ filter p ws) (filter p ws)) ≡ cond b (Some w) None
    same true e = rw (eq-eqb w.place i e) refl
    same false e =
        call_at_place-before i (suc w.place) (filter p ws)
        (Ascends-filter p (suc w.place) ws a.1) (omega (arith, e))

    other : (b : Bool) → (w.place ≡ i → ⊥) → call_at_place i (filter p ws)
        ≡ option_filter p (call_at_place i ws)
        → call_at_place i (cond b (w ∷ filter p ws) (filter p ws))
        ≡ option_filter p (call_at_place i ws)
    other true ne ih = rw (ne_eqb w.place i ne) ih
    other false ne ih = ih

-- the call at a place has that place
pub call_at_place-place :
    (i : ℕ) (ws : List WaitingCall) (w : WaitingCall) → call_at_place i ws ≡ Some w → w.place ≡ i
call_at_place-place i [] w e = absurd cc
call_at_place-place i (v ∷ vs) w e = go (eqb v.place i) refl e (call_at_place-place i vs w)
  where
    go : (b : Bool) → eqb v.place i ≡ b → cond b (Some v) (call_at_place i vs) ≡ Some w
        → (call_at_place i vs ≡ Some w → w.place ≡ i) → w.place ≡ i
    go true t k ih = let same : v ≡ w = cc in ap (λ u. u.place) (sym same) ∙ eqb-true v.place i t
    go false t k ih = ih k

-- a test of the place of a call that is found by its place is a test of that place
pub passes_place :
    (q : WaitingCall → Bool) (j i : ℕ) (ws : List WaitingCall)
    → is_some_and (λ w. q w && ltb j w.place) (call_at_place i ws) ≡ (ltb j i
    && is_some_and q (call_at_place i ws))
passes_place q j i ws = go (call_at_place i ws) refl
  where
    swap : (a b : Bool) → (a && b) ≡ (b && a)
    swap true true = refl
    swap true false = refl
    swap false true = refl
    swap false false = refl

    none : (a : Bool) → false ≡ (a && false)
    none true = refl
    none false = refl

    go : (o : Option WaitingCall) → call_at_place i ws ≡ o
        → is_some_and (λ w. q w && ltb j w.place) o ≡ (ltb j i && is_some_and q o)
    go None e = none (ltb j i)
    go (Some w) e = ap (λ k. q w && ltb j k) (call_at_place-place i ws w e) ∙ swap (q w) (ltb j i)

-- a search of those that pass a filter
pub any-filter :
    {A : Type 0} (p q : A → Bool) (ws : List A)
    → list_any p (filter q ws) ≡ list_any (λ w. q w && p w) ws
any-filter p q [] = refl
any-filter p q (w ∷ ws) = go (q w) (any-filter p q ws)
  where
    go : (b : Bool) → list_any p (filter q ws) ≡ list_any (λ w. q w && p w) ws
        → list_any p (cond b (w ∷ filter q ws) (filter q ws))
        ≡ ((b && p w) || list_any (λ w. q w && p w) ws)
    go true ih = ap (λ b. p w || b) ih
    go false ih = ih

or_true : (a : Bool) → (a || true) ≡ true
or_true true = refl
or_true false = refl

-- what is found at a place is in the list
pub any-at :
    (p : WaitingCall → Bool) (i : ℕ) (ws : List WaitingCall) → is_some_and p (call_at_place i ws)
    ≡ true
    → list_any p ws ≡ true
any-at p i [] e = absurd cc
any-at p i (w ∷ ws) e = go (eqb w.place i) e (any-at p i ws)
  where
    go : (b : Bool) → is_some_and p (cond b (Some w) (call_at_place i ws)) ≡ true
        → (is_some_and p (call_at_place i ws) ≡ true → list_any p ws ≡ true) → (p w
        || list_any p ws) ≡ true
    go true t ih = rw t refl
    go false t ih = rw (ih t) (or_true (p w))

-- what is found at no place is not in the list
pub any-nowhere :
    (p : WaitingCall → Bool) (m n : ℕ) (ws : List WaitingCall) → Ascends m ws
    → Each (λ w. w.place < n) ws
    → ((k : ℕ) → k < n → is_some_and p (call_at_place k ws) ≡ false) → list_any p ws ≡ false
any-nowhere p m n [] a b f = refl
any-nowhere p m n (w ∷ ws) a b f =
    let first : p w ≡ false = rw (eq-eqb w.place w.place refl) at (f w.place b.0) in
    rw first (any-nowhere p (suc w.place) n ws a.1 b.1 rest)
  where
    rest : (k : ℕ) → k < n → is_some_and p (call_at_place k ws) ≡ false
    rest k lt =
        elim (cases_order w.place k) [
          | inl same ↦ rw (call_at_place-before k (suc w.place) ws a.1 (omega (arith, same))) refl
          | inr (inl before) ↦
              rw (ne_eqb w.place k (λ e. omega (arith, before))) at (f k lt)
          | inr (inr behind) ↦
              rw (call_at_place-before k (suc w.place) ws a.1 (omega (arith, behind))) refl
        ]
