-- The open calls in the rows of clients are those that are read off the history.
use Rattle.std.proofs.Common.{◌≡◌, ℕ, inl, inr, Bool, true, false, cond, ◌==◌, nat_eq, List, []}
use Rattle.std.proofs.Common.{◌∷◌, Option, Some, None, refl, sym, ap, ◌∙◌, arith}
use Rattle.std.proofs.lemmas.Bool.Decides.{nat_tests}
use Rattle.std.specs.Prelude.{option_map}
use Rattle.std.specs.List.{list_any, cons_option}
use Rattle.pt_table.specs.declared.clients.ClientRow.{ClientRow}
use Rattle.pt_table.specs.ClientRows.{client_at, client_value}
use Rattle.pt_model.specs.Searches.{In}
use Rattle.pt_model.specs.Histories.{History}
use Rattle.pt_model.specs.declared.waiting_call.WaitingCall.{WaitingCall}
use Rattle.pt_model.specs.Answers.{open_calls}
use Rattle.pt_model.specs.Moves.{wait_move}
use Rattle.pt_model.specs.Steps.{Follows}
use Rattle.pt_model.proofs.Lists.{any-in, in-any, any-false}
use Rattle.pt_model.proofs.OneEach.{one_each}
use Rattle.pt_records.specs.declared.clients.Caller.{Caller}
use Rattle.pt_records.specs.declared.clients.Open.{Open}
use Rattle.pt_records.specs.Callers.{AreCallers, HasDistinctNumbers, call_of, call_in, move_in}
use Rattle.pt_records.specs.Callers.{opens_of}

-- a row is found by its number
pub row-look : (rows : List (ClientRow Caller)) → HasDistinctNumbers rows → (row : ClientRow Caller)
    → In row rows
    → client_value rows row.number ≡ Some row.value
row-look [] once row i = absurd i
row-look (x ∷ rows) once row (inl e) =
    let same : row.number ≡ x.number = ap (λ (r : ClientRow Caller). r.number) e in
    let here : nat_eq row.number x.number ≡ true = grind (arith, nat_tests) in
    rw here (ap (λ (r : ClientRow Caller). Some r.value) (sym e))
row-look (x ∷ rows) once row (inr i) =
    let apart : nat_eq row.number x.number ≡ false =
    any-false (λ (r : ClientRow Caller). r.number == x.number) rows row once.0 i in
    rw apart (row-look rows once.1 row i)

-- what is found for a client is in a row with its number
pub look-row : (rows : List (ClientRow Caller)) (c : ℕ) (v : Caller) → client_value rows c ≡ Some v
    → (row : ClientRow Caller) × (In row rows × (row.number ≡ c) × (row.value ≡ v))
look-row [] c v e = absurd cc
look-row (x ∷ rows) c v e = go (nat_eq c x.number) refl e (look-row rows c v)
  where
    go : (b : Bool) → nat_eq c x.number ≡ b
        → option_map (λ (r : ClientRow Caller). r.value) (cond b (Some x) (client_at rows c))
        ≡ Some v
        → (client_value rows c ≡ Some v → (row : ClientRow Caller)
        × (In row rows × (row.number ≡ c) × (row.value ≡ v)))
        → (row : ClientRow Caller) × (In row (x ∷ rows) × (row.number ≡ c) × (row.value ≡ v))
    go true test e ih =
        let same : x.number ≡ c = grind (arith, nat_tests) in
        let value : x.value ≡ v = cc in
        (x, (inl refl, same, value))
    go false test e ih = let found = ih e in (found.0, (inr found.1.0, found.1.1, found.1.2))

-- the open call of a row is one of those in the rows
pub row-open : (rows : List (ClientRow Caller)) (row : ClientRow Caller) (o : Open) → In row rows
    → row.value.open ≡ Some o → In o (opens_of rows)
row-open [] row o i e = absurd i
row-open (x ∷ rows) row o (inl same) e =
    let here : x.value.open ≡ Some o = ap (λ (r : ClientRow Caller). r.value.open) (sym same) ∙ e in
    rw here (inl refl)
row-open (x ∷ rows) row o (inr i) e = go x.value.open (row-open rows row o i e)
  where
    go : (first : Option Open) → In o (opens_of rows) → In o (cons_option first (opens_of rows))
    go None ih = ih
    go (Some first) ih = inr ih

-- each open call in the rows is that of a row
pub open-row : (rows : List (ClientRow Caller)) (o : Open) → In o (opens_of rows)
    → (row : ClientRow Caller) × (In row rows × (row.value.open ≡ Some o))
open-row [] o i = absurd i
open-row (x ∷ rows) o i = go x.value.open refl i (open-row rows o)
  where
    go : (first : Option Open) → x.value.open ≡ first → In o (cons_option first (opens_of rows))
        → (In o (opens_of rows) → (row : ClientRow Caller)
        × (In row rows × (row.value.open ≡ Some o)))
        → (row : ClientRow Caller) × (In row (x ∷ rows) × (row.value.open ≡ Some o))
    go None e i ih = let found = ih i in (found.0, (inr found.1.0, found.1.1))
    go (Some first) e (inl same) ih = (x, (inl refl, e ∙ ap Some (sym same)))
    go (Some first) e (inr i) ih = let found = ih i in (found.0, (inr found.1.0, found.1.1))

-- the first call of a client is one of the calls, and is the client's
pub call_of-in : (ws : List WaitingCall) (c : ℕ) (w : WaitingCall) → call_of ws c ≡ Some w
    → In w ws × (w.client ≡ c)
call_of-in [] c w e = absurd cc
call_of-in (x ∷ xs) c w e = go (x.client == c) refl e (call_of-in xs c w)
  where
    go : (b : Bool) → (x.client == c) ≡ b → cond b (Some x) (call_of xs c) ≡ Some w
        → (call_of xs c ≡ Some w → In w xs × (w.client ≡ c)) → In w (x ∷ xs) × (w.client ≡ c)
    go true test e ih =
        let same : w ≡ x = cc in
        let client : x.client ≡ c = grind (arith, nat_tests) in
        (inl same, ap (λ (u : WaitingCall). u.client) same ∙ client)
    go false test e ih = let found = ih e in (inr found.0, found.1)

-- a call is its client's first if it is the only one
pub in-call_of : (ws : List WaitingCall) (w : WaitingCall) → In w ws
    → ((v : WaitingCall) → In v ws → v.client ≡ w.client → v ≡ w) → call_of ws w.client ≡ Some w
in-call_of [] w i one = absurd i
in-call_of (x ∷ xs) w i one = go (x.client == w.client) refl i (in-call_of xs w)
  where
    go : (b : Bool) → (x.client == w.client) ≡ b → In w (x ∷ xs)
        → (In w xs → ((v : WaitingCall) → In v xs → v.client ≡ w.client → v ≡ w)
        → call_of xs w.client ≡ Some w)
        → cond b (Some x) (call_of xs w.client) ≡ Some w
    go true test i ih =
        let same : x.client ≡ w.client = grind (arith, nat_tests) in
        ap Some (one x (inl refl) same)
    go false test (inl e) ih =
        let same : x.client ≡ w.client = ap (λ (u : WaitingCall). u.client) (sym e) in
        let no : (x.client == w.client) ≡ true = grind (arith, nat_tests) in
        absurd cc
    go false test (inr i) ih = ih i (λ v j e. one v (inr j) e)

-- the open call of a client is the first of its calls
pub call_of-open : (h : History) → Follows h → (w : WaitingCall) → In w (open_calls h)
    → call_of (open_calls h) w.client ≡ Some w
call_of-open h f w i = in-call_of (open_calls h) w i (λ v j e. one_each h f v w j i e)

-- a call that a row shows is the row's open call
pub call_in-some : (kept : Option Caller) (w : WaitingCall) → call_in kept ≡ Some w → (v : Caller)
    × ((o : Open) × ((kept ≡ Some v) × (v.open ≡ Some o) × (o.call ≡ w)))
call_in-some None w e = absurd cc
call_in-some (Some v) w e = go v.open refl e
  where
    go : (call : Option Open) → v.open ≡ call → option_map (λ (o : Open). o.call) call
        ≡ Some w
        → (u : Caller)
        × ((o : Open) × ((Some v ≡ Some u) × (u.open ≡ Some o) × (o.call ≡ w)))
    go None at e = absurd cc
    go (Some o) at e = let same : o.call ≡ w = cc in (v, (o, (refl, at, same)))

-- each open call is in a row
pub found-open : (h : History) (rows : List (ClientRow Caller)) → Follows h → AreCallers h rows
    → (w : WaitingCall) → In w (open_calls h)
    → (o : Open) × (In o (opens_of rows) × (o.call ≡ w))
found-open h rows f a w i =
    let kept = call_in-some (client_value rows w.client) w
    (a.look.calls w.client ∙ call_of-open h f w i) in
    let v = kept.0 in
    let o = kept.1.0 in
    let row = look-row rows w.client v kept.1.1.0 in
    let its_open : row.0.value.open ≡ Some o = ap (λ (u : Caller). u.open) row.1.2 ∙ kept.1.1.1 in
    (o, (row-open rows row.0 o row.1.0 its_open, kept.1.1.2))

-- what is stored of an open call in the rows: its client's call, and its move
pub open-kept : (h : History) (rows : List (ClientRow Caller)) → AreCallers h rows
    → (row : ClientRow Caller) (o : Open) → In row rows → row.value.open ≡ Some o
    → (call_of (open_calls h) row.number ≡ Some o.call)
    × (o.moved ≡ wait_move h o.call.place)
open-kept h rows a row o i e =
    let look = row-look rows a.once row i in
    let call : call_in (client_value rows row.number) ≡ Some o.call = rw (look, e) refl in
    let first = sym (a.look.calls row.number) ∙ call in
    let move : move_in (client_value rows row.number) ≡ o.moved =
    rw (look, e) refl in
    (first, sym move ∙ a.look.moves row.number o.call first)

-- each open call in the rows is open, and is stored with its move
pub open-found : (h : History) (rows : List (ClientRow Caller)) → AreCallers h rows → (o : Open)
    → In o (opens_of rows)
    → In o.call (open_calls h) × (o.moved ≡ wait_move h o.call.place)
open-found h rows a o i =
    let row = open-row rows o i in
    let kept = open-kept h rows a row.0 o row.1.0 row.1.1 in
    ((call_of-in (open_calls h) row.0.number o.call kept.0).0, kept.1)

-- tests that pass alike are equal
bool_same : (a b : Bool) → (a ≡ true → b ≡ true) → (b ≡ true → a ≡ true) → a ≡ b
bool_same true b f g = sym (f refl)
bool_same false true f g = g refl
bool_same false false f g = refl

-- a test of open calls passes in the rows exactly if it passes in the history
pub any-opens : (h : History) (rows : List (ClientRow Caller)) → Follows h → AreCallers h rows
    → (p : WaitingCall → Bool) (q : Open → Bool)
    → ((o : Open) → In o.call (open_calls h)
    → o.moved ≡ wait_move h o.call.place → q o ≡ p o.call)
    → list_any q (opens_of rows) ≡ list_any p (open_calls h)
any-opens h rows f a p q same = bool_same (list_any q (opens_of rows)) (list_any p (open_calls h))
    there back
  where
    there : list_any q (opens_of rows) ≡ true → list_any p (open_calls h) ≡ true
    there e =
        let one = any-in q (opens_of rows) e in
        let kept = open-found h rows a one.0 one.1.0 in
        in-any p (open_calls h) one.0.call kept.0
        (sym (same one.0 kept.0 kept.1) ∙ one.1.1)

    back : list_any p (open_calls h) ≡ true → list_any q (opens_of rows) ≡ true
    back e =
        let one = any-in p (open_calls h) e in
        let found = found-open h rows f a one.0 one.1.0 in
        let kept = open-found h rows a found.0 found.1.0 in
        in-any q (opens_of rows) found.0 found.1.0
        (same found.0 kept.0 kept.1 ∙ ap p found.1.1 ∙ one.1.1)
