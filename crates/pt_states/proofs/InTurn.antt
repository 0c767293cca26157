-- InTurn: the turns at an object are in order, and none is missing.
use Rattle.std.proofs.Common.{◌≡◌, ℕ, suc, ◌==◌, Bool, true, false, cond, List, [], ◌∷◌, ◌++◌}
use Rattle.std.proofs.Common.{Option, Some, None, take, drop, refl, sym, ap, subst, append_assoc}
use Rattle.std.proofs.lemmas.List.{append-nil}
use Rattle.std.specs.List.{AllByRecursion as Each}
use Rattle.std.specs.List.Sorted.{IsPermutation}
use Rattle.std.proofs.lemmas.List.Sorted.{IsPermutation-append_comm, IsPermutation-append_left}
use Rattle.std.proofs.lemmas.List.Sorted.{IsPermutation-append_right, IsPermutation-insert}
use Rattle.std.proofs.lemmas.List.Sorted.{IsPermutation-refl, IsPermutation-trans}
use Rattle.pt_types.specs.KeyOrder.{goes_before}
use Rattle.pt_types.specs.declared.operations.ObjectClass.{ObjectClass}
use Rattle.pt_waitq.specs.declared.waiter.Waiter.{Waiter}
use Rattle.pt_waitq.specs.OrderLemmas.{before-chain, before-irreflexive}
use Rattle.pt_model.specs.Histories.{History}
use Rattle.pt_readable.specs.declared.waiting.Waiting.{Waiting}
use Rattle.pt_readable.specs.Reading.{waiting_of}
use Rattle.pt_states.specs.declared.turns.Turn.{Turn}
use Rattle.pt_states.specs.Turns.{place_in, turns_at, turns_from, turns_with, with_turn}
use Rattle.pt_states.specs.Laws.{AreInTurn, Turns, turn_if, waiting_there}

-- a turn as a waiter of its key
abbrev pub waiter_of : Turn → Waiter
waiter_of t =
    record {
      client = 0;
      place = t.key.arrival.1;
      prio = t.key.priority;
      writer = t.key.writes;
      moved = t.key.arrival.0;
    }

-- a turn doesn't go before itself, and what doesn't go before a later one doesn't go before it
self : (t : Turn) → goes_before t.key t.key ≡ false
self t = before-irreflexive (waiter_of t)

chain : (t u v : Turn) → goes_before t.key u.key ≡ true → goes_before v.key u.key ≡ false
    → goes_before v.key t.key ≡ false
chain t u v = before-chain (waiter_of t) (waiter_of u) (waiter_of v)

behind : (t u : Turn) → goes_before t.key u.key ≡ true → goes_before u.key t.key ≡ false
behind t u e = chain t u u e (self u)

weaker : (t u : Turn) → goes_before t.key u.key ≡ true → (ts : List Turn)
    → Each (λ v. goes_before v.key u.key ≡ false) ts
    → Each (λ v. goes_before v.key t.key ≡ false) ts
weaker t u e [] a = tt
weaker t u e (v ∷ vs) a = (chain t u v e a.0, weaker t u e vs a.1)

each_with : (t u : Turn) (ts : List Turn) → goes_before t.key u.key ≡ false
    → Each (λ v. goes_before v.key u.key ≡ false) ts
    → Each (λ v. goes_before v.key u.key ≡ false) (with_turn t ts)
each_with t u [] e a = (e, tt)
each_with t u (v ∷ vs) e a = go (goes_before t.key v.key) (each_with t u vs e a.1)
  where
    go : (b : Bool) → Each (λ w. goes_before w.key u.key ≡ false) (with_turn t vs)
        → Each (λ w. goes_before w.key u.key ≡ false)
        (take (cond b 0 (suc (place_in t vs))) (v ∷ vs)
        ++ t ∷ drop (cond b 0 (suc (place_in t vs))) (v ∷ vs))
    go true ih = (e, a)
    go false ih = (a.0, ih)

-- one more turn
with_in_turn : (t : Turn) (ts : List Turn) → AreInTurn ts → AreInTurn (with_turn t ts)
with_in_turn t [] a = (tt, tt)
with_in_turn t (u ∷ us) a = go (goes_before t.key u.key) refl (with_in_turn t us a.1)
  where
    go : (b : Bool) → goes_before t.key u.key ≡ b → AreInTurn (with_turn t us)
        → AreInTurn (take (cond b 0 (suc (place_in t us))) (u ∷ us)
        ++ t ∷ drop (cond b 0 (suc (place_in t us))) (u ∷ us))
    go true e ih = ((behind t u e, weaker t u e us a.0), a)
    go false e ih = (each_with t u us e a.0, ih)

client_in_turn : (class : ObjectClass) (o : ℕ) (name : List ℕ) (w : Option Waiting)
    (ts : List Turn) → AreInTurn ts → AreInTurn (turns_with class o name w ts)
client_in_turn class o name None ts a = a
client_in_turn class o name (Some w) ts a = go _ (w.object == o) (with_in_turn _ ts a)
  where
    go : (xs : List Turn) (b : Bool) → AreInTurn xs → AreInTurn (cond b xs ts)
    go xs true p = p
    go xs false p = a

all_in_turn : (h : History) (class : ObjectClass) (o : ℕ) (ts : List Turn)
    (rows : List (List ℕ × ℕ)) → AreInTurn ts → AreInTurn (turns_from h class o ts rows)
all_in_turn h class o ts [] a = a
all_in_turn h class o ts (row ∷ rows) a =
    all_in_turn h class o (turns_with class o row.0 (waiting_of h row.1) ts) rows
    (client_in_turn class o row.0 (waiting_of h row.1) ts a)

client_there : (class : ObjectClass) (o : ℕ) (name : List ℕ) (w : Option Waiting)
    (ts : List Turn)
    → IsPermutation (turn_if class o name w ++ ts) (turns_with class o name w ts)
client_there class o name None ts = IsPermutation-refl ts
client_there class o name (Some w) ts = go (w.object == o) _ (IsPermutation-insert ts _ _)
  where
    go : (b : Bool) (t : Turn) → IsPermutation (t ∷ ts) (with_turn t ts)
        → IsPermutation (cond b (t ∷ []) [] ++ ts) (cond b (with_turn t ts) ts)
    go true t p = p
    go false t p = IsPermutation-refl ts

all_there : (h : History) (class : ObjectClass) (o : ℕ) (ts : List Turn)
    (rows : List (List ℕ × ℕ))
    → IsPermutation (waiting_there h class o rows ++ ts) (turns_from h class o ts rows)
all_there h class o ts [] = IsPermutation-refl ts
all_there h class o ts (row ∷ rows) =
    let one = turn_if class o row.0 (waiting_of h row.1) in
    let more = waiting_there h class o rows in
    let next = turns_with class o row.0 (waiting_of h row.1) ts in
    let first : IsPermutation ((one ++ more) ++ ts) ((more ++ one) ++ ts) =
    IsPermutation-append_left ts (one ++ more) (more ++ one) (IsPermutation-append_comm one more) in
    let second : IsPermutation ((more ++ one) ++ ts) (more ++ next) =
    subst (λ xs. IsPermutation xs (more ++ next)) (sym (append_assoc more one ts))
    (IsPermutation-append_right more (one ++ ts) next
    (client_there class o row.0 (waiting_of h row.1) ts)) in
    IsPermutation-trans ((one ++ more) ++ ts) ((more ++ one) ++ ts)
    (turns_from h class o next rows) first
    (IsPermutation-trans ((more ++ one) ++ ts) (more ++ next) (turns_from h class o next rows)
    second (all_there h class o next rows))

pub turns_law : Turns
turns_law h class o clients = (
  all_in_turn h class o [] clients tt,
  subst (λ xs. IsPermutation xs (turns_at h class o clients))
      (append-nil (waiting_there h class o clients)) (all_there h class o [] clients),
)
