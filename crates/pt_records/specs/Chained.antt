-- Chained: the chains of the robust mutexes that each client owns, and of those with dead owners.
use Rattle.std.specs.Prelude.{ℕ, ◌≡◌, ◌==◌, ◌&&◌, ◌||◌, Bool, true, false, not, nat_eq, nat_lt}
use Rattle.std.specs.Prelude.{List, ◌∷◌, map, Option, Some, None, is_none, is_some, if◌then◌else◌}
use Rattle.std.specs.Option.{option_and_then}
use Rattle.pt_table.specs.declared.clients.ClientRow.{ClientRow}
use Rattle.pt_table.specs.ClientRows.{client_value}
use Rattle.pt_table.specs.declared.objects.ObjectRow.{ObjectRow}
use Rattle.pt_table.specs.ObjectRows.{object_value, link_of}
use Rattle.pt_table.specs.Linked.{is_linked, but_number, IsRowChain, IsOneOf, IsRising, KeepsOthers}
use Rattle.pt_model.specs.Found.{is_some_and}
use Rattle.pt_records.specs.declared.clients.Caller.{Caller}
use Rattle.pt_records.specs.declared.objects.Object.{Object}
use Rattle.pt_records.specs.declared.objects.Object.TheVariants.{Mutex}

-- a client's row without the mutexes that the client owns
abbrev pub without_owned : ClientRow Caller → ClientRow Caller
without_owned row = record row { value = record row.value { owned = None } }

-- the rows of clients without the mutexes that the clients own
abbrev pub rows_without_owned : List (ClientRow Caller) → List (ClientRow Caller)
rows_without_owned rows = map without_owned rows

-- whether a client is not one of the living
abbrev pub is_gone : List (ClientRow Caller) → ℕ → Bool
is_gone clients c = is_none (client_value clients c)

module _ {A : Type 0} where
  -- the owner of an object, if it is a robust mutex that has an owner
  -- [XSH pthread_mutexattr_getrobust]
  abbrev pub robust_owner : Object A → Option ℕ
  robust_owner (Mutex m) = if m.view.robust then m.view.owner else None
  robust_owner _ = None

  -- the owner of the object with a number, if it is a robust mutex that has an owner
  abbrev pub robust_owner_at : List (ObjectRow (Object A)) → ℕ → Option ℕ
  robust_owner_at objects m = option_and_then robust_owner (object_value objects m)

  -- whether an object is a robust mutex without an owner  [XSH pthread_mutex_lock]
  abbrev pub is_robust_free : Object A → Bool
  is_robust_free (Mutex m) = m.view.robust && is_none m.view.owner
  is_robust_free _ = false

  -- whether an object is a robust mutex that is locked at most once  [XSH pthread_mutex_unlock]
  abbrev pub is_locked_once : Object A → Bool
  is_locked_once (Mutex m) = m.view.robust && not (nat_lt 1 m.view.count)
  is_locked_once _ = false

  -- each row that was in a chain has the same links as before, and no other row is in a chain
  pub record KeepsChains (old new : List (ObjectRow (Object A))) : Type 0 where
    pub linked : (m : ℕ) → is_linked new m ≡ is_linked old m
    pub links : (m : ℕ) → is_linked old m ≡ true → link_of new m ≡ link_of old m

  -- an object's row enters the chain of `head` as its first row, and the chain's head is `after`
  -- then
  pub record EntersChain (old new : List (ObjectRow (Object A))) (head after : Option ℕ) (m : ℕ) :
      Type 0 where
    pub chain : (numbers : List ℕ) → IsRowChain old head numbers
        → IsRowChain new after (m ∷ numbers)
    pub others : KeepsOthers old new head
    pub linked : (n : ℕ) → is_linked new n ≡ (nat_eq m n || is_linked old n)

  -- an object's row leaves the chain of `head`, and the chain's head is `after` then
  pub record UnlinksFromChain (old new : List (ObjectRow (Object A))) (head after : Option ℕ)
      (m : ℕ) : Type 0 where
    pub chain : (numbers : List ℕ) → IsRowChain old head numbers
        → IsRowChain new after (but_number numbers m)
    pub others : KeepsOthers old new head
    pub linked : (n : ℕ) → is_linked new n ≡ (not (nat_eq m n) && is_linked old n)

  -- the chain of this head has exactly the robust mutexes whose owner passes the test
  pub record HasOwned (objects : List (ObjectRow (Object A))) (head : Option ℕ) (test : ℕ → Bool) :
      Type 0 where
    pub numbers : List ℕ
    pub chain : IsRowChain objects head numbers
    pub listed : (m : ℕ) → IsOneOf numbers m → is_some_and test (robust_owner_at objects m) ≡ true
    pub whole : (m : ℕ) → is_some_and test (robust_owner_at objects m) ≡ true → IsOneOf numbers m

  -- each living client's row has the head of the chain of the robust mutexes that the client owns,
  -- and those with dead owners are in a chain too, in rising order
  -- [XSH pthread_mutex_lock, EOWNERDEAD]
  pub record AreChained (clients : List (ClientRow Caller)) (objects : List (ObjectRow (Object A)))
      (orphans : Option ℕ) : Type 0 where
    pub living : (c : ℕ) (v : Caller) → client_value clients c ≡ Some v
        → HasOwned objects v.owned (λ owner. owner == c)
    pub dead : HasOwned objects orphans (is_gone clients)
    pub rising : (numbers : List ℕ) → IsRowChain objects orphans numbers → IsRising numbers
    pub linked : (m : ℕ) → is_linked objects m ≡ is_some (robust_owner_at objects m)
