-- Rows as they are seen through a box and through a lock, and what results say about them.
use Rattle.std.proofs.Common.{◌≡◌, ℕ, List, [], Option, Some, None, unwrap_or, Bool, true, Box, sym}
use Rattle.std.proofs.Common.{ap, ◌∙◌, false, ◌&&◌, refl}
use Rattle.std.specs.Prelude.{Result, Ok, Err, OnOk, OnErr, IfSome, IfNone}
use Rattle.std.specs.Option.{option_map}
use Rattle.pt_waitq.specs.declared.waiter.Waiter.{Waiter}
use Rattle.pt_rwlock.specs.RwlockState.{RwlockState, nobody_holds, is_grantable_to, with_row}
use Rattle.pt_rwlock.specs.AwaitedLock.{AwaitedLock, SaysBlocked, with_lock}

-- rows in a box
pub boxed-seen : {A : Type 0} (boxed : Option (Box (List (ℕ × ℕ)) A)) (b : Box (List (ℕ × ℕ)) A)
    (now seen : List (ℕ × ℕ)) → boxed ≡ Some b
    → unwrap_or (option_map (λ (x : Box (List (ℕ × ℕ)) A). x.value) boxed) [] ≡ seen
    → now ≡ b.value → now ≡ seen
boxed-seen {A} boxed b now seen is v e =
    e
    ∙ (ap (λ (o : Option (Box (List (ℕ × ℕ)) A)).
    unwrap_or (option_map (λ (x : Box (List (ℕ × ℕ)) A). x.value) o) []) (sym is)
    ∙ v)

-- what holds in any case holds for a refusal
pub whenever-err : {T E P : Type 0} (answer : Result T E) → P → OnErr answer P
whenever-err (Ok x) p = tt
whenever-err (Err e) p = p

pub none-holds : {X : Type 0} (o : Option X) (P : X → Type 0) → o ≡ None → IfSome o P
none-holds o P e = rw e tt

pub some-holds : {X : Type 0} (o : Option X) (x : X) (P : Type 0) → o ≡ Some x → IfNone o P
some-holds o x P e = rw e tt

and-true : (b : Bool) → b ≡ (b && true)
and-true true = refl
and-true false = refl

-- a lock with its waiting writers, once it has a row or is unchanged
module _ {T E : Type 0} (answer : Result T E) (old new : RwlockState) (waiting : List ℕ)
    (seen : AwaitedLock) (v : record { lock = old; waiting = waiting } ≡ seen) where
  pub row-awaited : (client : ℕ) → OnOk answer (new ≡ with_row old client)
      → OnOk answer (◌≡◌ {A = AwaitedLock} (record { lock = new; waiting = waiting })
      (with_lock seen (with_row seen.lock client)))
  row-awaited client ok = go answer ok
    where
      go : (r : Result T E) → OnOk r (new ≡ with_row old client)
          → OnOk r (◌≡◌ {A = AwaitedLock} (record { lock = new; waiting = waiting })
          (with_lock seen (with_row seen.lock client)))
      go (Ok x) e =
          ap (λ (l : RwlockState). record { lock = l; waiting = waiting }) e
          ∙ ap (λ (s : AwaitedLock). with_lock s (with_row s.lock client)) v
      go (Err x) e = tt

  pub same-awaited : OnErr answer (new ≡ old)
      → OnErr answer (◌≡◌ {A = AwaitedLock} (record { lock = new; waiting = waiting }) seen)
  same-awaited err = go answer err
    where
      go : (r : Result T E) → OnErr r (new ≡ old)
          → OnErr r (◌≡◌ {A = AwaitedLock} (record { lock = new; waiting = waiting }) seen)
      go (Ok x) e = tt
      go (Err x) e = ap (λ (l : RwlockState). record { lock = l; waiting = waiting }) e ∙ v

-- a writer that is first may have the lock exactly if nobody holds it
pub first-writes : (r : AwaitedLock) (first : Option Waiter) (w : Waiter) (free : Bool)
    → first ≡ Some w → w.writer ≡ true → free ≡ nobody_holds r.lock → (blocked : Bool)
    → IfSome first (λ x. SaysBlocked r x.prio blocked → free ≡ is_grantable_to r.lock x blocked)
first-writes r first w free is writes made blocked =
    rw (is, writes) (λ says. made ∙ and-true (nobody_holds r.lock))
