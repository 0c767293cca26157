-- QueueClasses: the calls that wait at a condition, and those that wait at a barrier.
use Rattle.std.proofs.Common.{◌≡◌, ℕ, ◌==◌, Bool, true, false, ◌&&◌, Option, Some, None, is_none}
use Rattle.std.proofs.Common.{option_map, refl, sym, ap, ◌∙◌, arith}
use Rattle.std.proofs.lemmas.Bool.Decides.{nat_tests}
use Rattle.std.proofs.lemmas.Bool.{false≢true}
use Rattle.pt_types.specs.declared.call.ObjectKind.{ObjectKind}
use Rattle.pt_types.specs.declared.call.ObjectKind.TheVariants as kind
use Rattle.pt_types.specs.Operations.{class_of, same_class}
use Rattle.pt_types.specs.declared.operations.ObjectClass.{ObjectClass}
use Rattle.pt_types.specs.declared.operations.ObjectClass.TheVariants.{Mutex as MutexClass}
use Rattle.pt_types.specs.declared.operations.ObjectClass.TheVariants.{Rwlock as RwlockClass}
use Rattle.pt_types.specs.declared.operations.ObjectClass.TheVariants.{Cond as CondClass}
use Rattle.pt_types.specs.declared.operations.ObjectClass.TheVariants.{Barrier as BarrierClass}
use Rattle.pt_model.specs.Searches.{In}
use Rattle.pt_model.specs.Histories.{History}
use Rattle.pt_model.specs.Objects.{is_class, kind_of}
use Rattle.pt_model.specs.declared.waiting_call.WaitingCall.{WaitingCall}
use Rattle.pt_model.specs.declared.waiting_call.Move.{Move}
use Rattle.pt_model.specs.declared.waiting_call.Role.{Role}
use Rattle.pt_model.specs.declared.waiting_call.Role.TheVariants.{ForMutex, ForRead, ForWrite}
use Rattle.pt_model.specs.declared.waiting_call.Role.TheVariants.{ForBarrier, ForCond}
use Rattle.pt_model.specs.WaitingCall.{is_barrier_wait, is_cond_wait}
use Rattle.pt_model.specs.Answers.{open_calls}
use Rattle.pt_model.specs.Moves.{wait_move, wait_object_by, wait_object}
use Rattle.pt_model.specs.Steps.{Follows}
use Rattle.pt_model.proofs.Seats.{exists_as, HousedBy, housed}
use Rattle.pt_state.specs.Serving.{waits_at_cond}

-- an object of one class is not one of another
other-object : (h : History) (q o : ℕ) (z s : ObjectClass)
    → option_map class_of (kind_of h q) ≡ Some z
    → same_class z s ≡ false → exists_as h s o ≡ true → (o == q) ≡ false
other-object h q o z s e n t = go (o == q) refl
  where
    is-other : (k : Option ObjectKind) → option_map class_of k ≡ Some z → is_class k s ≡ true
        → same_class z s ≡ true
    is-other None a b = absurd cc
    is-other (Some k) a b = let same : class_of k ≡ z = cc in rw (← same) b

    go : (b : Bool) → (o == q) ≡ b → b ≡ false
    go false d = refl
    go true d =
        let same : o ≡ q = grind (arith, nat_tests) in
        absurd (false≢true (
        sym n ∙ is-other (kind_of h q) e (ap (exists_as h s) (sym same) ∙ t)))

module _ (h : History) (q : ℕ) where
  at-cond-by : option_map class_of (kind_of h q) ≡ Some CondClass
      → (role : Role) (move : Option Move) (o : ℕ) → HousedBy h role move o
      → (wait_object_by role move o == q) ≡ (is_cond_wait role && (is_none move && (o == q)))
  at-cond-by e (ForCond m) None o a = refl
  at-cond-by e (ForCond m) (Some v) o a = other-object h q m CondClass MutexClass e refl a.0
  at-cond-by e ForMutex move o a = other-object h q o CondClass MutexClass e refl a.0
  at-cond-by e ForRead move o a = other-object h q o CondClass RwlockClass e refl a.0
  at-cond-by e ForWrite move o a = other-object h q o CondClass RwlockClass e refl a.0
  at-cond-by e ForBarrier move o a = other-object h q o CondClass BarrierClass e refl a.0

  at-barrier-by : option_map class_of (kind_of h q) ≡ Some BarrierClass
      → (role : Role) (move : Option Move) (o : ℕ) → HousedBy h role move o
      → (wait_object_by role move o == q) ≡ (is_barrier_wait role && (o == q))
  at-barrier-by e (ForCond m) None o a = other-object h q o BarrierClass CondClass e refl a.0
  at-barrier-by e (ForCond m) (Some v) o a = other-object h q m BarrierClass MutexClass e refl a.0
  at-barrier-by e ForMutex move o a = other-object h q o BarrierClass MutexClass e refl a.0
  at-barrier-by e ForRead move o a = other-object h q o BarrierClass RwlockClass e refl a.0
  at-barrier-by e ForWrite move o a = other-object h q o BarrierClass RwlockClass e refl a.0
  at-barrier-by e ForBarrier move o a = refl

-- the calls that wait at a condition are the waits there that were not moved
pub at-cond : (h : History) → Follows h → (q : ℕ) → kind_of h q ≡ Some kind.Cond
    → (w : WaitingCall) → In w (open_calls h) → (wait_object h w == q) ≡ waits_at_cond h q w
at-cond h f q e w i =
    at-cond-by h q (ap (option_map class_of) e) w.role (wait_move h w.place) w.object
    (housed h f w i)

-- the calls that wait at a barrier are the arrivals there
pub at-barrier : (h : History) → Follows h → (b : ℕ)
    → option_map class_of (kind_of h b) ≡ Some BarrierClass
    → (w : WaitingCall) → In w (open_calls h)
    → (wait_object h w == b) ≡ (is_barrier_wait w.role && (w.object == b))
at-barrier h f b e w i =
    at-barrier-by h b e w.role (wait_move h w.place) w.object (housed h f w i)

-- no arrival waits at an object that is not a barrier
pub no-arrival : (h : History) → Follows h → (q : ℕ) → exists_as h BarrierClass q ≡ false
    → (w : WaitingCall) → In w (open_calls h) → (wait_object h w == q) ≡ true
    → is_barrier_wait w.role ≡ false
no-arrival h f q other w i = go w.role (wait_move h w.place) w.object (housed h f w i)
  where
    go : (role : Role) (move : Option Move) (o : ℕ) → HousedBy h role move o
        → (wait_object_by role move o == q) ≡ true → is_barrier_wait role ≡ false
    go ForBarrier move o a t =
        let same : o ≡ q = grind (arith, nat_tests) in
        absurd (false≢true (sym other ∙ (ap (exists_as h BarrierClass) (sym same) ∙ a.0)))
    go ForMutex move o a t = refl
    go ForRead move o a t = refl
    go ForWrite move o a t = refl
    go (ForCond m) move o a t = refl

-- a wait at a condition is not an arrival
pub wait-plain : (h : History) (q : ℕ) (w : WaitingCall) → waits_at_cond h q w ≡ true
    → is_barrier_wait w.role ≡ false
wait-plain h q w t = go w.role (is_none (wait_move h w.place) && (w.object == q)) t
  where
    go : (role : Role) (b : Bool) → (is_cond_wait role && b) ≡ true → is_barrier_wait role ≡ false
    go ForBarrier b e = absurd cc
    go ForMutex b e = refl
    go ForRead b e = refl
    go ForWrite b e = refl
    go (ForCond m) b e = refl
