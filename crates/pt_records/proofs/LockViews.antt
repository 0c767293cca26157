-- A stored read-write lock as one client sees it, and the class of the object that a name finds.
use Rattle.std.proofs.Common.{◌≡◌, ℕ, true, Option, Some, None, List, refl, sym, ap, ◌∙◌}
use Rattle.std.specs.Prelude.{option_map}
use Rattle.pt_types.specs.declared.call.ObjectKind.{ObjectKind}
use Rattle.pt_types.specs.declared.call.ObjectKind.TheVariants as kind
use Rattle.pt_types.specs.Operations.{class_of, same_class}
use Rattle.pt_types.specs.declared.operations.ObjectClass.{ObjectClass}
use Rattle.pt_types.specs.declared.operations.ObjectClass.TheVariants.{Mutex as MutexClass}
use Rattle.pt_types.specs.declared.operations.ObjectClass.TheVariants.{Rwlock as RwlockClass}
use Rattle.pt_types.specs.declared.operations.ObjectClass.TheVariants.{Cond as CondClass}
use Rattle.pt_types.specs.declared.operations.ObjectClass.TheVariants.{Barrier as BarrierClass}
use Rattle.pt_rwlock.specs.RwlockState.{RwlockState, view_for}
use Rattle.pt_model.specs.Histories.{History}
use Rattle.pt_model.specs.Objects.{is_class, kind_of, find_object}
use Rattle.pt_model.specs.Rwlocks.{rwlock_view}
use Rattle.pt_model.specs.Steps.{Follows}
use Rattle.pt_model.proofs.Named.{known_exists}
use Rattle.pt_records.specs.declared.objects.Object.{Object}
use Rattle.pt_records.specs.declared.objects.Object.TheVariants.{Mutex, Rwlock, Cond, Barrier}
use Rattle.pt_records.specs.LocksInRows.{rwlock_in}
use Rattle.pt_records.specs.Objects.{IsRwlock, ObjectsLook}
use Rattle.pt_records.proofs.BoundReads.{view-by}

-- what is stored as a lock is a lock
pub lock-in : {A : Type 0} (h : History) (look : ℕ → Option (Object A)) → ObjectsLook h look
    → (o k : ℕ) (r : RwlockState) → k ≡ o → rwlock_in (look k) ≡ Some r → IsRwlock h o r
lock-in {A = A} h look t o k r same e = t.rwlocks o r (ap look (sym same) ∙ go (look k) e)
  where
    go : (x : Option (Object A)) → rwlock_in x ≡ Some r → x ≡ Some (Rwlock r)
    go None e = absurd cc
    go (Some (Rwlock u)) e = let at : u ≡ r = cc in rw at refl
    go (Some (Mutex m)) e = absurd cc
    go (Some (Cond q)) e = absurd cc
    go (Some (Barrier b)) e = absurd cc

-- classes that are the same are equal
class_same : (s t : ObjectClass) → same_class s t ≡ true → s ≡ t
class_same MutexClass MutexClass e = refl
class_same RwlockClass RwlockClass e = refl
class_same CondClass CondClass e = refl
class_same BarrierClass BarrierClass e = refl
class_same MutexClass RwlockClass e = absurd cc
class_same MutexClass CondClass e = absurd cc
class_same MutexClass BarrierClass e = absurd cc
class_same RwlockClass MutexClass e = absurd cc
class_same RwlockClass CondClass e = absurd cc
class_same RwlockClass BarrierClass e = absurd cc
class_same CondClass MutexClass e = absurd cc
class_same CondClass RwlockClass e = absurd cc
class_same CondClass BarrierClass e = absurd cc
class_same BarrierClass MutexClass e = absurd cc
class_same BarrierClass RwlockClass e = absurd cc
class_same BarrierClass CondClass e = absurd cc

-- the object that a name finds has the class
pub class-found : (h : History) → Follows h → (n : List ℕ) (s : ObjectClass) (o : ℕ)
    → find_object h n s ≡ Some o
    → option_map class_of (kind_of h o) ≡ Some s
class-found h f n s o e = go (kind_of h o) (known_exists h f s o (n, e))
  where
    go : (x : Option ObjectKind) → is_class x s ≡ true → option_map class_of x ≡ Some s
    go None e = absurd cc
    go (Some k) e = ap Some (class_same (class_of k) s e)

-- an object that a name finds as a lock is a lock
pub lock-found : (h : History) → Follows h → (n : List ℕ) (r : ℕ) → find_object h n RwlockClass
    ≡ Some r
    → kind_of h r ≡ Some kind.Rwlock
lock-found h f n r e = go (kind_of h r) (known_exists h f RwlockClass r (n, e))
  where
    go : (x : Option ObjectKind) → is_class x RwlockClass ≡ true → x ≡ Some kind.Rwlock
    go None e = absurd cc
    go (Some kind.Rwlock) e = refl
    go (Some (kind.Mutex k robust)) e = absurd cc
    go (Some kind.Cond) e = absurd cc
    go (Some (kind.Barrier n)) e = absurd cc

-- an object that a name finds as a condition is a condition
pub cond-found : (h : History) → Follows h → (n : List ℕ) (q : ℕ) → find_object h n CondClass
    ≡ Some q
    → kind_of h q ≡ Some kind.Cond
cond-found h f n q e = go (kind_of h q) (known_exists h f CondClass q (n, e))
  where
    go : (x : Option ObjectKind) → is_class x CondClass ≡ true → x ≡ Some kind.Cond
    go None e = absurd cc
    go (Some kind.Cond) e = refl
    go (Some (kind.Mutex k robust)) e = absurd cc
    go (Some kind.Rwlock) e = absurd cc
    go (Some (kind.Barrier n)) e = absurd cc

-- a client sees a stored lock as it is read off the history
pub view-kept : (h : History) → Follows h → (o : ℕ) (r : RwlockState) → IsRwlock h o r → (c : ℕ)
    → view_for r c ≡ rwlock_view h o c
view-kept h f o r k c = view-by h f o r k.writer k.reads c
