-- NeedUses: how many reserved entries a forced entry uses.
use Rattle.std.proofs.Common.{◌≡◌, ℕ, ◌+◌, ◌-◌, ◌*◌, ◌≤◌, Bool, true, false, cond, ◌&&◌, length}
use Rattle.std.proofs.Common.{List, Some, is_some, is_none, refl, sym, ap}
use Rattle.std.proofs.Common.{◌∙◌, subst, arith}
use Rattle.pt_types.specs.declared.outcome.Outcome.{Outcome}
use Rattle.pt_types.specs.MutexTable.{is_acquired}
use Rattle.pt_model.specs.declared.entry.Entry.TheVariants.{Grant, Trip, Yield}
use Rattle.pt_model.specs.Searches.{In}
use Rattle.pt_model.specs.Histories.{History, ◌▷◌}
use Rattle.pt_model.specs.Objects.{is_robust, kind_of}
use Rattle.pt_model.specs.declared.waiting_call.WaitingCall.{WaitingCall}
use Rattle.pt_model.specs.declared.waiting_call.Role.{Role}
use Rattle.pt_model.specs.declared.waiting_call.Role.TheVariants.{ForMutex, ForRead, ForWrite}
use Rattle.pt_model.specs.declared.waiting_call.Role.TheVariants.{ForBarrier, ForCond}
use Rattle.pt_model.specs.WaitingCall.{is_barrier_wait, is_cond_wait, final_mutex}
use Rattle.pt_model.specs.Answers.{at_barrier, open_calls}
use Rattle.pt_model.specs.Moves.{is_moved}
use Rattle.pt_model.specs.Mutexes.{owner}
use Rattle.pt_model.specs.Grants.{grant_outcome}
use Rattle.pt_model.specs.Forced.{is_orphan, service}
use Rattle.pt_model.specs.Room.{need, reserved_for}
use Rattle.pt_model.specs.Steps.{Step, yields, Follows}
use Rattle.pt_table.specs.declared.clients.ClientRow.{ClientRow}
use Rattle.pt_records.specs.declared.clients.Caller.{Caller}
use Rattle.pt_records.specs.declared.clients.Open.{Open}
use Rattle.pt_records.specs.Callers.{AreCallers, opens_of}
use Rattle.pt_records.specs.Counts.{count_if_passed, reserved_open}
use Rattle.pt_state.specs.Serving.{call_of_open}
use Rattle.pt_state.proofs.ServingFinds.{are-open}
use Rattle.pt_machine.specs.Reserved.{gives_owner}
use Rattle.pt_machine.proofs.ForcedNeeds.{need-grant, need-trip, need-yield}
use Rattle.pt_machine.proofs.WaitMoves.{plain-stays}

arrives : (role : Role) → is_barrier_wait role ≡ true → is_cond_wait role ≡ false
arrives ForBarrier e = refl
arrives ForMutex e = absurd cc
arrives ForRead e = absurd cc
arrives ForWrite e = absurd cc
arrives (ForCond m) e = absurd cc

-- a call for a mutex is not an arrival
pub no_arrival : (role : Role) → (object m : ℕ) → final_mutex role object ≡ Some m
    → is_barrier_wait role ≡ false
no_arrival ForMutex object m e = refl
no_arrival (ForCond k) object m e = refl
no_arrival ForRead object m e = absurd cc
no_arrival ForWrite object m e = absurd cc
no_arrival ForBarrier object m e = absurd cc

-- a call for a mutex is served by a Grant
pub serves-mutex : (h : History) (w : WaitingCall) (m : ℕ) → final_mutex w.role w.object ≡ Some m
    → service h w ≡ Grant w.place (grant_outcome h w)
serves-mutex h w m at =
    ap (λ b. cond b (Trip w.object) (Grant w.place (grant_outcome h w)))
    (no_arrival w.role w.object m at)

-- as many entries are reserved for a call as its row says
pub row-reserved : (h : History) (rows : List (ClientRow Caller)) → Follows h → AreCallers h rows
    → (o : Open) → In o (opens_of rows) → reserved_open o ≡ reserved_for h (call_of_open o)
row-reserved h rows f a o i =
    ap (λ m. cond {A = ℕ} (is_some m) 2 3) ((are-open h rows f a).has_call o i).1

-- at least two entries are reserved for a call
pub two-least : (h : History) (w : WaitingCall) → 2 ≤ reserved_for h w
two-least h w = go (is_moved h w)
  where
    go : (b : Bool) → 2 ≤ cond {A = ℕ} b 2 3
    go true = omega arith
    go false = omega arith

module _ (h : History) (w : WaitingCall) (f : Follows h) where
  -- a Trip uses what was reserved for the calls at its barrier
  pub uses-trip : (n : ℕ) → is_barrier_wait w.role ≡ true
      → n ≡ length (at_barrier w.object (open_calls h))
      → need (h ▷ service h w) + 3 * n ≡ need h
  uses-trip n a e =
      let trips : need (h ▷ Trip w.object) + 3 * length (at_barrier w.object (open_calls h))
      ≡ need h =
      need-trip h w.object f
      (λ v i t. ap is_some (plain-stays h f v i (arrives v.role t))) in
      rw a (omega (arith, trips, e))

  -- a Grant uses what was reserved for its call, except an entry for the Yield of a mutex that gets
  -- an owner
  pub uses-grant : In w (open_calls h) → is_barrier_wait w.role ≡ false → Step h (service h w)
      → (used : ℕ)
      → used + count_if_passed (gives_owner h w (final_mutex w.role w.object)) ≡ reserved_for h w
      → need (h ▷ service h w) + used ≡ need h
  uses-grant i a s used e =
      let is : service h w ≡ Grant w.place (grant_outcome h w) =
      ap (λ b. cond b (Trip w.object) (Grant w.place (grant_outcome h w))) a in
      let grants = need-grant h w f i (subst (λ x. Step h x) is s) in
      subst (λ x. need (h ▷ x) + used ≡ need h) (sym is) (omega (arith, grants, e))

  -- the same for a call for a mutex, by the outcome that it gets there
  pub uses-gain : In w (open_calls h) → (m : ℕ) → final_mutex w.role w.object ≡ Some m
      → Step h (service h w) → (robust : Bool)
      → robust ≡ (is_robust (kind_of h m) && is_none (owner h m))
      → (x : Outcome) → x ≡ grant_outcome h w → (reserved : ℕ) → reserved ≡ reserved_for h w
      → (used : ℕ) → used ≡ cond (robust && is_acquired x) (reserved - 1) reserved
      → need (h ▷ service h w) + used ≡ need h
  uses-gain i m at s robust r x o reserved n used u =
      uses-grant i (no_arrival w.role w.object m at) s used
      (ap (λ b. used + count_if_passed b) gives ∙ less (robust && is_acquired x) u)
    where
      gives : gives_owner h w (final_mutex w.role w.object) ≡ (robust && is_acquired x)
      gives =
          ap (gives_owner h w) at
          ∙ (ap (λ b. b && is_acquired (grant_outcome h w)) (sym r)
          ∙ ap (λ y. robust && is_acquired y) (sym o))

      less : (b : Bool) → used ≡ cond b (reserved - 1) reserved
          → used + count_if_passed b ≡ reserved_for h w
      less true e = omega (arith, e, n, two-least h w)
      less false e = omega (arith, e, n)

orphan_taken : (h : History) (m : ℕ) → Step h (Yield m) → is_orphan h m ≡ true
orphan_taken h _ (yields m s o) = o

-- a Yield uses the entry that was reserved for its mutex
pub uses-yield : (h : History) (m : ℕ) → Follows h → Step h (Yield m)
    → need (h ▷ Yield m) + 1 ≡ need h
uses-yield h m f s = need-yield h m f (orphan_taken h m s)
