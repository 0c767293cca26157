-- Whether a living client holds a read-write lock, by the rows of clients.
use Rattle.std.proofs.Common.{◌≡◌, ℕ, zero, suc, ◌<◌, Bool, true, false, ◌&&◌, ◌||◌, ◌==◌, nat_lt}
use Rattle.std.proofs.Common.{List, [], ◌∷◌, Option, Some, None, is_some, refl, sym, ap, ◌∙◌, arith}
use Rattle.std.proofs.Common.{length}
use Rattle.std.proofs.lemmas.Bool.Decides.{nat_tests}
use Rattle.std.proofs.lemmas.Bool.{and_parts, and_from}
use Rattle.std.specs.Prelude.{option_map}
use Rattle.std.specs.List.{list_any}
use Rattle.pt_table.specs.declared.clients.ClientRow.{ClientRow}
use Rattle.pt_table.specs.ClientRows.{client_value, nth_number}
use Rattle.pt_table.specs.declared.objects.ObjectRow.{ObjectRow}
use Rattle.pt_table.specs.ObjectRows.{object_value}
use Rattle.pt_types.specs.MutexTable.{is_some_number}
use Rattle.pt_types.specs.RwlockTable.{has_lock}
use Rattle.pt_rwlock.specs.RwlockState.{RwlockState, view_for, reads_of}
use Rattle.pt_model.specs.Searches.{first_below}
use Rattle.pt_model.specs.Histories.{History, place}
use Rattle.pt_model.specs.Clients.{is_alive}
use Rattle.pt_model.specs.Rwlocks.{is_writer, write_holder, rwlock_view, has_living_holder}
use Rattle.pt_model.specs.Searches.{In}
use Rattle.pt_model.specs.Steps.{Follows}
use Rattle.pt_model.proofs.Lists.{any-in, in-any}
use Rattle.pt_model.proofs.Leasts.{first_below-passes, first_below-some}
use Rattle.pt_model.proofs.Sound.{Fresh-follows, alive_below}
use Rattle.pt_model.proofs.Rwlocks.{is_writer-write_holder}
use Rattle.pt_model.specs.Found.{is_some_and}
use Rattle.pt_records.specs.declared.clients.Caller.{Caller}
use Rattle.pt_records.specs.Callers.{AreCallers}
use Rattle.pt_records.specs.declared.objects.Object.{Object}
use Rattle.pt_records.specs.declared.objects.Object.TheVariants.{Rwlock}
use Rattle.pt_records.specs.Objects.{IsRwlock, AreObjectRows}
use Rattle.pt_records.proofs.OpenRows.{row-look, look-row}

-- tests that pass alike are equal
bool_same : (a b : Bool) → (a ≡ true → b ≡ true) → (b ≡ true → a ≡ true) → a ≡ b
bool_same true b f g = sym (f refl)
bool_same false true f g = g refl
bool_same false false f g = refl

-- some row's number passes
pub number-at : (t : ℕ → Bool) (rows : List (ClientRow Caller)) (i : ℕ)
    → is_some_and t (nth_number rows i) ≡ true → list_any (λ row. t row.number) rows ≡ true
number-at t [] i e = cc
number-at t (x ∷ rows) zero e = rw e refl
number-at t (x ∷ rows) (suc i) e = go (t x.number) (number-at t rows i e)
  where
    go : (b : Bool) → list_any (λ row. t row.number) rows ≡ true
        → (b || list_any (λ row. t row.number) rows) ≡ true
    go true ih = refl
    go false ih = ih

-- no row's number passes
pub number-nowhere : (t : ℕ → Bool) (rows : List (ClientRow Caller))
    → ((k : ℕ) → k < length rows → is_some_and t (nth_number rows k) ≡ false)
    → list_any (λ row. t row.number) rows ≡ false
number-nowhere t [] f = refl
number-nowhere t (x ∷ rows) f =
    let here : t x.number ≡ false = f 0 (omega arith) in
    rw here (number-nowhere t rows (λ k lt. f (suc k) (omega arith)))

-- the value of an option that has one
some_of : {X : Type 0} (o : Option X) → is_some o ≡ true → (x : X) × (o ≡ Some x)
some_of None e = absurd cc
some_of (Some x) e = (x, refl)

-- an option that is this number has it as its value
number_is : (o : Option ℕ) (c : ℕ) → is_some_number o c ≡ true → o ≡ Some c
number_is None c e = absurd cc
number_is (Some m) c e = ap Some (grind (arith, nat_tests))

-- the writer is the client that holds the lock for writing, and no other
pub is_writer-number : (h : History) → Follows h → (r c : ℕ) → is_some_number (write_holder h r) c
    ≡ is_writer h r c
is_writer-number h f r c = bool_same (is_some_number (write_holder h r) c)
    (is_writer h r c) there back
  where
    there : is_some_number (write_holder h r) c ≡ true → is_writer h r c ≡ true
    there e =
        first_below-passes (place h) (λ d. is_writer h r d) c (number_is (write_holder h r) c e)

    back : is_writer h r c ≡ true → is_some_number (write_holder h r) c ≡ true
    back e =
        let same : (c == c) ≡ true = grind (arith, nat_tests) in
        ap (λ o. is_some_number o c) (is_writer-write_holder h f r c e) ∙ same

-- a client holds the stored lock exactly if it holds the lock of the history
pub has_lock-kept : (h : History) (r c : ℕ) (lock : RwlockState) → Follows h → IsRwlock h r lock
    → has_lock (view_for lock c) ≡ has_lock (rwlock_view h r c)
has_lock-kept h r c lock f kept =
    ap (λ o. is_some_number o c || nat_lt 0 (reads_of lock c)) kept.writer
    ∙ ap (λ b. b || nat_lt 0 (reads_of lock c)) (is_writer-number h f r c)
    ∙ ap (λ n. is_writer h r c || nat_lt 0 n) (kept.reads c)

-- a client that has a row lives
pub alive-row : (h : History) (rows : List (ClientRow Caller)) → AreCallers h rows
    → (row : ClientRow Caller) → In row rows → is_alive h row.number ≡ true
alive-row h rows a row i =
    ap is_some (sym (a.look.living row.number))
    ∙ ap (λ o. is_some (option_map (λ (v : Caller). v.priority) o)) (row-look rows a.once row i)

-- a living client has a row
pub row-alive : (h : History) (rows : List (ClientRow Caller)) → AreCallers h rows → (c : ℕ)
    → is_alive h c ≡ true → (row : ClientRow Caller) × (In row rows × (row.number ≡ c))
row-alive h rows a c e = go (client_value rows c) refl (ap is_some (a.look.living c) ∙ e)
  where
    go : (o : Option Caller) → client_value rows c ≡ o
        → is_some (option_map (λ (v : Caller). v.priority) o) ≡ true
        → (row : ClientRow Caller) × (In row rows × (row.number ≡ c))
    go None k e = absurd cc
    go (Some v) k e = let found = look-row rows c v k in (found.0, (found.1.0, found.1.1))

-- some client with a row holds the lock exactly if a living client does
pub held_alive : (h : History) (rows : List (ClientRow Caller)) (r : ℕ) (lock : RwlockState) → Follows h
    → AreCallers h rows → IsRwlock h r lock
    → list_any (λ row. has_lock (view_for lock row.number)) rows ≡ has_living_holder h r
held_alive h rows r lock f a kept =
    bool_same (list_any (λ row. has_lock (view_for lock row.number)) rows)
    (has_living_holder h r) there
    back
  where
    there : list_any (λ row. has_lock (view_for lock row.number)) rows ≡ true
        → has_living_holder h r ≡ true
    there e =
        let one = any-in (λ (row : ClientRow Caller). has_lock (view_for lock row.number)) rows e in
        let c = one.0.number in
        let alive = alive-row h rows a one.0 one.1.0 in
        first_below-some (place h) (λ d. is_alive h d && has_lock (rwlock_view h r d)) c
        (alive_below h c (Fresh-follows h f) alive)
        (and_from (is_alive h c) (has_lock (rwlock_view h r c)) alive
        (sym (has_lock-kept h r c lock f kept) ∙ one.1.1))

    back : has_living_holder h r ≡ true
        → list_any (λ row. has_lock (view_for lock row.number)) rows ≡ true
    back e =
        let test : ℕ → Bool = λ d. is_alive h d && has_lock (rwlock_view h r d) in
        let first = some_of (first_below (place h) test) e in
        let c = first.0 in
        let both = and_parts (is_alive h c) (has_lock (rwlock_view h r c))
        (first_below-passes (place h) test c first.1) in
        let row = row-alive h rows a c both.0 in
        in-any (λ (u : ClientRow Caller). has_lock (view_for lock u.number)) rows row.0 row.1.0
        (ap (λ d. has_lock (view_for lock d)) row.1.1 ∙ has_lock-kept h r c lock f kept ∙ both.1)

-- a lock that is stored in a row is the lock of the history
pub lock-kept : {A : Type 0} (h : History) (objects : List (ObjectRow (Object A)))
    → AreObjectRows h objects → (o n : ℕ) → n ≡ o → (kept : Object A) (lock : RwlockState)
    → Some kept ≡ object_value objects n → kept ≡ Rwlock lock → IsRwlock h o lock
lock-kept h objects a o n same kept lock e is =
    a.look.rwlocks o lock (ap (object_value objects) (sym same) ∙ (sym e ∙ ap Some is))
