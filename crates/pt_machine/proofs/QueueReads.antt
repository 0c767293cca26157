-- QueueReads: the answers of a queue are what the definitions say of the calls that wait there.
use Rattle.std.proofs.Common.{◌≡◌, ℕ, ◌==◌, nat_le, Bool, true, false, cond, ◌&&◌, ◌||◌, List, []}
use Rattle.std.proofs.Common.{◌∷◌, Option, Some, None, is_some, unwrap_or, filter, refl, sym, ap}
use Rattle.std.proofs.Common.{◌∙◌, arith}
use Rattle.std.proofs.lemmas.Bool.Decides.{nat_tests}
use Rattle.std.specs.List.{list_any}
use Rattle.pt_waitq.specs.declared.waiter.Waiter.{Waiter}
use Rattle.pt_waitq.specs.Members.{Members}
use Rattle.pt_waitq.specs.Queues.{head_of, first_writer_of, blocks_readers_from}
use Rattle.pt_waitq.proofs.MemberLemmas.{members-any}
use Rattle.pt_model.specs.Histories.{History}
use Rattle.pt_model.specs.Clients.{client_priority}
use Rattle.pt_model.specs.declared.waiting_call.WaitingCall.{WaitingCall}
use Rattle.pt_model.specs.declared.waiting_call.Role.{Role}
use Rattle.pt_model.specs.declared.waiting_call.Role.TheVariants.{ForMutex, ForRead, ForWrite}
use Rattle.pt_model.specs.declared.waiting_call.Role.TheVariants.{ForBarrier, ForCond}
use Rattle.pt_model.specs.WaitingCall.{is_write_lock}
use Rattle.pt_model.specs.Answers.{open_calls}
use Rattle.pt_model.specs.Moves.{wait_object}
use Rattle.pt_model.specs.Grants.{blocks_readers, is_blocked}
use Rattle.pt_model.specs.Verdicts.{has_waiters}
use Rattle.pt_model.proofs.Ascending.{any-filter}
use Rattle.pt_machine.specs.CallQueues.{queue_priority, waiter}

-- tests that agree on each element pass in the same lists
any-agree : {X : Type 0} (p q : X → Bool) → ((x : X) → p x ≡ q x) → (xs : List X)
    → list_any p xs ≡ list_any q xs
any-agree p q f [] = refl
any-agree p q f (x ∷ xs) = rw (f x, any-agree p q f xs) refl

-- a call holds a reader back exactly if its waiter does: an arrival holds none back
holds-waiter : (h : History) (p : ℕ) (w : WaitingCall)
    → blocks_readers_from p (waiter h w) ≡ blocks_readers w p
holds-waiter h p w = go w.role w.priority
  where
    go : (role : Role) (n : ℕ) → (is_write_lock role && nat_le p (queue_priority role n))
        ≡ (is_write_lock role && nat_le p n)
    go ForMutex n = refl
    go ForRead n = refl
    go ForWrite n = refl
    go ForBarrier n = refl
    go (ForCond m) n = refl

-- there is a first waiter that passes if any passes
filter-some : (p : Waiter → Bool) (vs : List Waiter) → is_some (head_of (filter p vs))
    ≡ list_any p vs
filter-some p [] = refl
filter-some p (v ∷ vs) = go (p v) (filter-some p vs)
  where
    go : (b : Bool) → is_some (head_of (filter p vs)) ≡ list_any p vs
        → is_some (head_of (cond b (v ∷ filter p vs) (filter p vs))) ≡ (b || list_any p vs)
    go true ih = refl
    go false ih = ih

-- there is a first waiter if there is any
head-some : (vs : List Waiter) → is_some (head_of vs) ≡ list_any (λ v. true) vs
head-some [] = refl
head-some (v ∷ vs) = refl

and_true : (b : Bool) → (b && true) ≡ b
and_true true = refl
and_true false = refl

module _ (h : History) (queue : ℕ → List Waiter)
    (m : Members (wait_object h) (waiter h) (open_calls h) queue) where
  -- whether a call waits at an object
  any-stands : (o : ℕ) → is_some (head_of (queue o)) ≡ has_waiters h o
  any-stands o =
      head-some (queue o)
      ∙ (members-any (wait_object h) (waiter h) (open_calls h) queue m (λ v. true) o
      ∙ any-agree (λ w. (wait_object h w == o) && true) (λ w. wait_object h w == o)
      (λ w. and_true (wait_object h w == o)) (open_calls h))

  -- whether a writer of this priority or a higher one waits at a lock
  any-before : (r p : ℕ) → list_any (blocks_readers_from p) (queue r) ≡ is_blocked h r p
  any-before r p =
      members-any (wait_object h) (waiter h) (open_calls h) queue m (blocks_readers_from p) r
      ∙ (any-agree (λ w. (wait_object h w == r) && blocks_readers_from p (waiter h w))
      (λ w. (wait_object h w == r) && blocks_readers w p)
      (λ w. ap (λ b. (wait_object h w == r) && b) (holds-waiter h p w)) (open_calls h)
      ∙ sym (any-filter (λ v. blocks_readers v p) (λ w. wait_object h w == r) (open_calls h)))

  -- whether any writer waits there
  any-writer : (r : ℕ) → is_some (first_writer_of (queue r)) ≡ is_blocked h r 0
  any-writer r =
      filter-some (λ v. v.writer) (queue r)
      ∙ (any-agree (λ v. v.writer) (blocks_readers_from 0) (λ v. lowest v.writer v.prio) (queue r)
      ∙ any-before r 0)
    where
      lowest : (b : Bool) (p : ℕ) → b ≡ (b && nat_le 0 p)
      lowest b p = let le : nat_le 0 p ≡ true = grind (arith, nat_tests) in rw le (sym (and_true b))

  -- the first of a queue shows whether a call waits at its object
  pub awaited : (o : ℕ) (first : Option Waiter) (b : Bool) → first ≡ head_of (queue o)
      → b ≡ is_some first → b ≡ has_waiters h o
  awaited o first b e t = t ∙ (ap is_some e ∙ any-stands o)

  -- the queue shows whether a writer blocks a client of this priority
  pub blocked-living : (r c p : ℕ) (b : Bool) → client_priority h c ≡ Some p
      → b ≡ list_any (blocks_readers_from p) (queue r) → b
      ≡ is_blocked h r (unwrap_or (client_priority h c) 0)
  blocked-living r c p b e t =
      t ∙ (any-before r p ∙ ap (λ o. is_blocked h r (unwrap_or o 0)) (sym e))

  -- and whether one blocks a client that doesn't live
  pub blocked-dead : (r c : ℕ) (first : Option Waiter) (b : Bool) → client_priority h c ≡ None
      → first ≡ first_writer_of (queue r) → b ≡ is_some first
      → b ≡ is_blocked h r (unwrap_or (client_priority h c) 0)
  blocked-dead r c first b e s t =
      t ∙ (ap is_some s ∙ (any-writer r ∙ ap (λ o. is_blocked h r (unwrap_or o 0)) (sym e)))
