-- Rows that are found by their number: the kind of the object, and what the client's row has.
use Rattle.std.proofs.Common.{◌≡◌, ℕ, List, Option, Some, None, sym, ap, ◌∙◌, subst}
use Rattle.pt_mutex.specs.MutexState.{MutexState}
use Rattle.pt_rwlock.specs.RwlockState.{RwlockState}
use Rattle.pt_table.specs.declared.clients.ClientRow.{ClientRow}
use Rattle.pt_table.specs.declared.objects.ObjectRow.{ObjectRow}
use Rattle.pt_table.specs.ClientRows.{client_value}
use Rattle.pt_table.specs.ObjectRows.{object_value}
use Rattle.pt_table.specs.Linked.{IsInChain}
use Rattle.pt_records.specs.declared.clients.Caller.{Caller}
use Rattle.pt_records.specs.declared.objects.Object.{Object}
use Rattle.pt_records.specs.declared.objects.Object.TheVariants.{Mutex, Rwlock}

some_same : {X : Type 0} (x y : X) → Some x ≡ Some y → x ≡ y
some_same x y e = cc

none_some : {X : Type 0} (x : X) → None ≡ Some x → ⊥
none_some x e = absurd cc

-- a client's row, by either of its numbers
module _ (rows : List (ClientRow Caller)) (n m : ℕ) (same : n ≡ m) where
  pub client-found : (u : Caller) → Some u ≡ client_value rows n → client_value rows m ≡ Some u
  client-found u found = sym (found ∙ ap (client_value rows) same)

  pub no-client : None ≡ client_value rows n → (v : Caller) → client_value rows m ≡ Some v → ⊥
  no-client none v e = none_some v (none ∙ (ap (client_value rows) same ∙ e))

  pub client-one : (u : Caller) → Some u ≡ client_value rows n → (v : Caller)
      → client_value rows m ≡ Some v → u ≡ v
  client-one u found v e = some_same u v (found ∙ (ap (client_value rows) same ∙ e))

  -- the chain of a client that owns no mutex has no head
  pub no-head : (u : Caller) → Some u ≡ client_value rows n → u.owned ≡ None → (v : Caller)
      → client_value rows m ≡ Some v → (head : ℕ) → v.owned ≡ Some head → ⊥
  no-head u found none v e head is =
      none_some head (sym none ∙ (ap (λ (x : Caller). x.owned) (client-one u found v e) ∙ is))

-- an object in the chain of a head, by either of its numbers
pub chain-of : {A : Type 0} (objects : List (ObjectRow (Object A))) (owned : Option ℕ)
    (head n m : ℕ) → owned ≡ Some head → n ≡ m
    → (h : ℕ) × ((owned ≡ Some h) × IsInChain objects h m) → IsInChain objects head n
chain-of objects owned head n m is same w =
    subst (λ k. IsInChain objects head k) (sym same)
    (subst (λ h. IsInChain objects h m) (some_same w.0 head (sym w.1.0 ∙ is)) w.1.1)

-- an object's row, by either of its numbers
module _ {A : Type 0} (rows : List (ObjectRow (Object A))) (n m : ℕ) (same : n ≡ m) where
  pub no-object : None ≡ object_value rows n → (x : Object A) → object_value rows m ≡ Some x → ⊥
  no-object none x e = none_some x (none ∙ (ap (object_value rows) same ∙ e))

  module _ (kept : Object A) (found : Some kept ≡ object_value rows n) where
    one_object : (x : Object A) → object_value rows m ≡ Some x → kept ≡ x
    one_object x e = some_same kept x (found ∙ (ap (object_value rows) same ∙ e))

    pub no-mutex : ((y : MutexState) → kept ≡ Mutex y → ⊥) → (x : MutexState)
        → object_value rows m ≡ Some (Mutex x) → ⊥
    no-mutex other x e = other x (one_object (Mutex x) e)

    pub no-lock : ((y : RwlockState) → kept ≡ Rwlock y → ⊥) → (x : RwlockState)
        → object_value rows m ≡ Some (Rwlock x) → ⊥
    no-lock other x e = other x (one_object (Rwlock x) e)

    pub object-found : (x : Object A) → kept ≡ x → object_value rows m ≡ Some x
    object-found x is = sym (found ∙ ap (object_value rows) same) ∙ ap Some is

    -- what holds of the lock and of the lock that it became
    pub lock-changed : (Q : RwlockState → RwlockState → Type 0) (f : RwlockState → RwlockState)
        (u y : RwlockState) → kept ≡ Rwlock u → y ≡ f u → Q u y → (x : RwlockState)
        → object_value rows m ≡ Some (Rwlock x) → Q x (f x)
    lock-changed Q f u y is is_queue q x e =
        subst (λ v. Q v (f v)) (lock_same u x (sym is ∙ one_object (Rwlock x) e))
        (subst (λ z. Q u z) is_queue q)
      where
        lock_same : (v w : RwlockState) → ◌≡◌ {A = Object A} (Rwlock v) (Rwlock w) → v ≡ w
        lock_same v w e = cc
