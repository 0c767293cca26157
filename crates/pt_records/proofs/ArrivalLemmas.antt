-- The calls that wait at a barrier, as its queue has them.
use Rattle.std.proofs.Common.{◌≡◌, ℕ, suc, ◌≤◌, Bool, true, false, cond, ◌&&◌, ◌==◌, List, [], ◌∷◌}
use Rattle.std.proofs.Common.{map, length, refl, sym, ap, ◌∙◌, subst, arith, inl, inr}
use Rattle.std.proofs.lemmas.Bool.{cases_eq, eq-eqb, ne_eqb}
use Rattle.pt_waitq.specs.declared.waiter.Waiter.{Waiter}
use Rattle.pt_waitq.specs.Queues.{of_client}
use Rattle.pt_model.specs.Searches.{In}
use Rattle.pt_model.specs.Histories.{History}
use Rattle.pt_model.specs.declared.waiting_call.WaitingCall.{WaitingCall}
use Rattle.pt_model.specs.WaitingCall.{is_barrier_wait}
use Rattle.pt_model.specs.Answers.{at_barrier, open_calls}
use Rattle.pt_model.proofs.Counting.{total}
use Rattle.pt_model.proofs.Lists.{filter-in}
use Rattle.pt_model.proofs.Ascending.{Ascends, Ascends-filter}
use Rattle.pt_model.proofs.OpenOrder.{open-ascends}
use Rattle.pt_records.specs.declared.answers.Answered.{Answered}
use Rattle.pt_records.specs.Arrivals.{WaitsAs, answer_to_earlier}
use Rattle.pt_records.specs.Counts.{count_if_passed}

-- whether a call waits at the barrier
abbrev pub arrives_at : ℕ → WaitingCall → Bool
arrives_at b w = is_barrier_wait w.role && (w.object == b)

pub arrivals-ascend : (h : History) (b : ℕ) → Ascends 0 (at_barrier b (open_calls h))
arrivals-ascend h b = Ascends-filter (arrives_at b) 0 (open_calls h) (open-ascends h)

-- how many of these answers are to the call at place n
abbrev pub to_place : ℕ → List Answered → ℕ
to_place n ts = total (λ (a : Answered). count_if_passed (a.place == n)) ts

none-to : (k n : ℕ) (vs : List Waiter) → ((v : Waiter) → In v vs → v.place ≡ n → ⊥)
    → to_place n (map (answer_to_earlier k) vs) ≡ 0
none-to k n [] f = refl
none-to k n (v ∷ vs) f =
    rw (ne_eqb v.place n (f v (inl refl))) (omega (arith, none-to k n vs (λ u i e. f u (inr i) e)))

-- in a list in order of places, no two calls have the same place
pub ascends-late : (n : ℕ) (ws : List WaitingCall) (w : WaitingCall) → Ascends n ws → In w ws
    → n ≤ w.place
ascends-late n [] w a i = absurd i
ascends-late n (v ∷ vs) w a (inl e) = subst (λ (u : WaitingCall). n ≤ u.place) (sym e) a.0
ascends-late n (v ∷ vs) w a (inr i) = omega (arith, a.0, ascends-late (suc v.place) vs w a.1 i)

pub one-place : (n : ℕ) (ws : List WaitingCall) → Ascends n ws → (v w : WaitingCall) → In v ws
    → In w ws → v.place ≡ w.place → v ≡ w
one-place n [] a v w i j e = absurd i
one-place n (u ∷ us) a v w (inl i) (inl j) e = i ∙ sym j
one-place n (u ∷ us) a v w (inl i) (inr j) e =
    absurd (omega (
      arith,
      ascends-late (suc u.place) us w a.1 j,
      e,
      ap (λ (x : WaitingCall). x.place) i,
    ))
one-place n (u ∷ us) a v w (inr i) (inl j) e =
    absurd (omega (
      arith,
      ascends-late (suc u.place) us v a.1 i,
      e,
      ap (λ (x : WaitingCall). x.place) j,
    ))
one-place n (u ∷ us) a v w (inr i) (inr j) e = one-place (suc u.place) us a.1 v w i j e

in-length : (vs : List Waiter) (v : Waiter) → In v vs → 1 ≤ length vs
in-length [] v i = absurd i
in-length (u ∷ us) v i = omega arith

-- two waiters of one client are more than one
not-twice : (v u : Waiter) (vs : List Waiter) → In u vs → u.client ≡ v.client
    → length (of_client v.client (v ∷ vs)) ≤ 1 → ⊥
not-twice v u vs i e le =
    let own : (v.client == v.client) ≡ true = eq-eqb v.client v.client refl in
    let there = in-length (of_client v.client vs) u
    (filter-in (λ (x : Waiter). x.client == v.client) vs u i (eq-eqb u.client v.client e)) in
    go (v.client == v.client) own le there
  where
    go : (b : Bool) → b ≡ true
        → length (cond b (v ∷ of_client v.client vs) (of_client v.client vs)) ≤ 1
        → 1 ≤ length (of_client v.client vs) → ⊥
    go true t few more = absurd (omega (arith, few, more))
    go false t few more = cc

once-rest : (v : Waiter) (vs : List Waiter) → ((c : ℕ) → length (of_client c (v ∷ vs)) ≤ 1)
    → (c : ℕ) → length (of_client c vs) ≤ 1
once-rest v vs once c = go (v.client == c) (once c)
  where
    go : (b : Bool) → length (cond b (v ∷ of_client c vs) (of_client c vs)) ≤ 1
        → length (of_client c vs) ≤ 1
    go true le = omega (arith, le)
    go false le = le

module _ (h : History) (b k n : ℕ) where
  -- no two waiters at a barrier belong to calls with the same place
  pub arrivals-lone : (vs : List Waiter) → ((c : ℕ) → length (of_client c vs) ≤ 1)
      → ((v : Waiter) → In v vs
      → (w : WaitingCall) × (In w (at_barrier b (open_calls h)) × WaitsAs w v))
      → to_place n (map (answer_to_earlier k) vs) ≤ 1
  arrivals-lone [] once has_call = omega arith
  arrivals-lone (v ∷ vs) once has_call = elim (cases_eq v.place n) [
    | inl at ↦
        let nothing = none-to k n vs (other at) in
        rw (eq-eqb v.place n at) (omega (arith, nothing))
    | inr ne ↦
        let rest = arrivals-lone vs (once-rest v vs once) (λ u i. has_call u (inr i)) in
        rw (ne_eqb v.place n ne) (omega (arith, rest))
  ]
    where
      other : v.place ≡ n → (u : Waiter) → In u vs → u.place ≡ n → ⊥
      other at u i e =
          let mine = has_call v (inl refl) in
          let its = has_call u (inr i) in
          let same : its.0 ≡ mine.0 =
          one-place 0 (at_barrier b (open_calls h)) (arrivals-ascend h b) its.0 mine.0 its.1.0
          mine.1.0 (sym its.1.1.1 ∙ (e ∙ (sym at ∙ mine.1.1.1))) in
          not-twice v u vs i
          (its.1.1.0 ∙ (ap (λ (x : WaitingCall). x.client) same ∙ sym mine.1.1.0))
          (once v.client)
