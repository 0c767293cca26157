-- Waits: which waits a signal or a broadcast moves.
use Rattle.std.proofs.Common.{◌≡◌, ℕ, Bool, true, false, ◌&&◌, ◌||◌, not, cond, eqb, List, [], ◌∷◌}
use Rattle.std.proofs.Common.{Option, Some, None, is_none, refl, sym, ap, ◌∙◌}
use Rattle.std.specs.List.{list_any}
use Rattle.pt_types.specs.declared.operations.ObjectClass.TheVariants.{Cond as CondClass}
use Rattle.pt_model.specs.Histories.{History}
use Rattle.pt_model.specs.Objects.{names_object}
use Rattle.pt_model.specs.declared.waiting_call.WaitingCall.{WaitingCall}
use Rattle.pt_model.specs.declared.waiting_call.Move.{Move}
use Rattle.pt_model.specs.WaitingCall.{call_at_place, is_cond_wait}
use Rattle.pt_model.specs.Answers.{open_calls}
use Rattle.pt_model.specs.Moves.{has_place, is_at_cond, cond_waits, least_cond_wait, precedes_by}
use Rattle.pt_model.specs.Found.{is_some_and}
use Rattle.pt_readings.specs.Found.{unmoved}
use Rattle.pt_model.proofs.Ascending.{Ascends, Ascends-filter, call_at_place-filter, call_at_place-place}
use Rattle.pt_model.proofs.Ascending.{any-filter}
use Rattle.pt_model.proofs.OpenOrder.{open-ascends}
use Rattle.pt_readings.proofs.Opens.{is_some_and-option_filter}
use Rattle.pt_readings.proofs.Orders.{least-is, precedes-order}

-- whether a wait came to the condition of this name
abbrev pub came : History → List ℕ → WaitingCall → Bool
came h n w = is_cond_wait w.role && names_object h n CondClass w.object

has_place-at :
    (j n : ℕ) (ws : List WaitingCall) → Ascends n ws
    → has_place ws j ≡ is_some_and (λ w. true) (call_at_place j ws)
has_place-at j n [] a = refl
has_place-at j n (w ∷ ws) a = go (eqb w.place j) (has_place-at j _ ws a.1)
  where
    go : (b : Bool) → has_place ws j ≡ is_some_and (λ w. true) (call_at_place j ws)
        → (b || has_place ws j) ≡ is_some_and (λ w. true) (cond b (Some w) (call_at_place j ws))
    go true ih = refl
    go false ih = ih

swap : (x y z b : Bool) → (b && (x && (y && z))) ≡ (y && ((x && z) && b))
swap true true true true = refl
swap true true true false = refl
swap true true false true = refl
swap true true false false = refl
swap true false z true = refl
swap true false z false = refl
swap false true z true = refl
swap false true z false = refl
swap false false z true = refl
swap false false z false = refl

none : (x : Bool) → false ≡ (x && false)
none true = refl
none false = refl

-- a test of the wait at a place, if it still waits at the condition
still :
    (h : History) (moves : ℕ → Option Move) (n : List ℕ) (j : ℕ) (t : WaitingCall → Bool)
    → is_some_and t (call_at_place j (cond_waits h moves n))
    ≡ (is_none (moves j) && is_some_and (λ w. came h n w && t w) (call_at_place j (open_calls h)))
still h moves n j t =
    ap (is_some_and t) (call_at_place-filter (is_at_cond h moves n) j 0 (open_calls h)
    (open-ascends h))
    ∙ is_some_and-option_filter (is_at_cond h moves n) t (call_at_place j (open_calls h))
    ∙ go (call_at_place j (open_calls h)) refl
  where
    go : (o : Option WaitingCall) → call_at_place j (open_calls h) ≡ o
        → is_some_and (λ w. t w && is_at_cond h moves n w) o
        ≡ (is_none (moves j) && is_some_and (λ w. came h n w && t w) o)
    go None e = none (is_none (moves j))
    go (Some w) e =
        ap (λ k. t w && (is_cond_wait w.role && (is_none (moves k)
        && names_object h n CondClass w.object)))
        (call_at_place-place j (open_calls h) w e)
        ∙ swap (is_cond_wait w.role) (is_none (moves j)) (names_object h n CondClass w.object) (t w)

and_true : (b : Bool) → (b && true) ≡ b
and_true true = refl
and_true false = refl

is_some_and-same :
    (p q : WaitingCall → Bool) → ((w : WaitingCall) → p w ≡ q w) → (o : Option WaitingCall)
    → is_some_and p o ≡ is_some_and q o
is_some_and-same p q f None = refl
is_some_and-same p q f (Some w) = f w

-- a broadcast moves the waits that still wait at the condition
pub waiting_is :
    (h : History) (moves : ℕ → Option Move) (n : List ℕ) (j : ℕ)
    → has_place (cond_waits h moves n) j
    ≡ (is_none (moves j) && is_some_and (came h n) (call_at_place j (open_calls h)))
waiting_is h moves n j =
    has_place-at j 0 (cond_waits h moves n)
    (Ascends-filter (is_at_cond h moves n) 0 (open_calls h) (open-ascends h))
    ∙ still h moves n j (λ w. true)
    ∙ ap (λ b. is_none (moves j) && b)
    (is_some_and-same (λ w. came h n w && true) (came h n) (λ w. and_true (came h n w))
    (call_at_place j (open_calls h)))

any-same :
    (p q : WaitingCall → Bool) → ((w : WaitingCall) → p w ≡ q w) → (ws : List WaitingCall)
    → list_any p ws ≡ list_any q ws
any-same p q f [] = refl
any-same p q f (w ∷ ws) = rw (f w, any-same p q f ws) refl

-- waits that aren't moved are in the order in which they came
pub as_they_came :
    (h : History) (moves : ℕ → Option Move) (n : List ℕ) (w : WaitingCall) → moves w.place ≡ None
    → list_any (λ v. precedes_by moves v w) (cond_waits h moves n)
    ≡ list_any (λ v. precedes_by unmoved v w) (cond_waits h moves n)
as_they_came h moves n w e =
    any-filter (λ v. precedes_by moves v w) (is_at_cond h moves n) (open_calls h)
    ∙ any-same (λ v. is_at_cond h moves n v && precedes_by moves v w)
    (λ v. is_at_cond h moves n v && precedes_by unmoved v w) one (open_calls h)
    ∙ sym (any-filter (λ v. precedes_by unmoved v w) (is_at_cond h moves n) (open_calls h))
  where
    one : (v : WaitingCall)
        → (is_at_cond h moves n v && precedes_by moves v w)
        ≡ (is_at_cond h moves n v && precedes_by unmoved v w)
    one v = go (moves v.place) refl
      where
        off : (x y z : Bool) → ((x && false) && y) ≡ ((x && false) && z)
        off true y z = refl
        off false y z = refl

        go : (m : Option Move) → moves v.place ≡ m
            → (is_at_cond h moves n v && precedes_by moves v w)
            ≡ (is_at_cond h moves n v && precedes_by unmoved v w)
        go None k = rw (k, e) refl
        go (Some m) k = rw (k) (off (is_cond_wait v.role) _ _)

-- a signal moves the first of them
pub first_is :
    (h : History) (moves : ℕ → Option Move) (n : List ℕ) (j : ℕ)
    → has_place (least_cond_wait h moves n) j
    ≡ (is_none (moves j)
    && is_some_and
    (λ w. came h n w && not (list_any (λ v. precedes_by unmoved v w) (cond_waits h moves n)))
    (call_at_place j (open_calls h)))
first_is h moves n j =
    least-is (precedes_by moves) (precedes-order moves) 0 (cond_waits h moves n)
    (Ascends-filter (is_at_cond h moves n) 0 (open_calls h) (open-ascends h)) j
    ∙ still h moves n j (λ w. not (list_any (λ v. precedes_by moves v w) (cond_waits h moves n)))
    ∙ go (moves j) refl
  where
    go : (m : Option Move) → moves j ≡ m
        → (is_none m
        && is_some_and
        (λ w. came h n w && not (list_any (λ v. precedes_by moves v w) (cond_waits h moves n)))
        (call_at_place j (open_calls h)))
        ≡ (is_none m
        && is_some_and
        (λ w. came h n w && not (list_any (λ v. precedes_by unmoved v w) (cond_waits h moves n)))
        (call_at_place j (open_calls h)))
    go (Some v) k = refl
    go None k = pick (call_at_place j (open_calls h)) refl
      where
        pick : (o : Option WaitingCall) → call_at_place j (open_calls h) ≡ o
            → is_some_and
            (λ w.
            came h n w && not (list_any (λ v. precedes_by moves v w) (cond_waits h moves n)))
            o
            ≡ is_some_and
            (λ w.
            came h n w && not (list_any (λ v. precedes_by unmoved v w) (cond_waits h moves n)))
            o
        pick None e = refl
        pick (Some w) e =
            ap (λ b. came h n w && not b)
            (as_they_came h moves n w (ap moves (call_at_place-place j (open_calls h) w e) ∙ k))
