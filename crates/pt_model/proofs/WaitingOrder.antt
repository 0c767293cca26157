-- Which calls may be left waiting: those for a lock, waits, and arrivals at a barrier.
use Rattle.std.proofs.Common.{◌≡◌, ℕ, nat_le, Bool, true, false, cond, not, ◌&&◌, Option, Some}
use Rattle.std.proofs.Common.{None, is_some, inl, refl}
use Rattle.pt_types.specs.declared.outcome.Outcome.{Outcome}
use Rattle.pt_types.specs.declared.outcome.Outcome.TheVariants.{Done, Eperm, Einval, Ebusy, Eagain}
use Rattle.pt_types.specs.declared.outcome.Verdict.{Verdict}
use Rattle.pt_types.specs.declared.outcome.Verdict.TheVariants.{Reply}
use Rattle.pt_types.specs.declared.time.Clock.{Clock}
use Rattle.pt_types.specs.Operations.{Operation, Inits, Ends, Acquires, Unlocks, Restores}
use Rattle.pt_types.specs.Operations.{Rwunlocks, CondWaits, Signals, Broadcasts, BarrierWaits}
use Rattle.pt_types.specs.declared.operations.ObjectClass.TheVariants.{Mutex as MutexClass}
use Rattle.pt_types.specs.declared.operations.ObjectClass.TheVariants.{Rwlock as RwlockClass}
use Rattle.pt_types.specs.declared.operations.ObjectClass.TheVariants.{Cond as CondClass}
use Rattle.pt_types.specs.Limits.{max_objects}
use Rattle.pt_types.specs.Tables.{reply}
use Rattle.pt_types.specs.ObjectTable.{is_invalid_kind, destroy_verdict}
use Rattle.pt_types.specs.MutexTable.{owns, is_inconsistent, unlock_verdict, consistent_verdict}
use Rattle.pt_types.specs.RwlockTable.{has_lock, rwunlock_verdict}
use Rattle.pt_model.specs.Searches.{In}
use Rattle.pt_model.specs.Histories.{History, place}
use Rattle.pt_model.specs.Objects.{object_named, object_count, find_object, kind_of, is_robust}
use Rattle.pt_model.specs.declared.waiting_call.WaitingCall.{WaitingCall}
use Rattle.pt_model.specs.WaitingCall.{waiting_calls_by_operation}
use Rattle.pt_model.specs.Mutexes.{consistency, mutex_view}
use Rattle.pt_model.specs.Rwlocks.{rwlock_view}
use Rattle.pt_model.specs.Verdicts.{verdict_on, is_busy, operation_verdict}

init_replies : (a b d : Bool) → reply (cond a (Reply Einval)
    (cond b (Reply Ebusy) (cond d (Reply Eagain) (Reply Done)))) ≡ None → ⊥
init_replies true b d e = cc
init_replies false true d e = cc
init_replies false false true e = cc
init_replies false false false e = cc

two_replies : (b : Bool) (x y : Outcome) → reply (cond b (Reply x) (Reply y)) ≡ None → ⊥
two_replies true x y e = cc
two_replies false x y e = cc

three_replies : (a b : Bool) (x y z : Outcome)
    → reply (cond a (Reply x) (cond b (Reply y) (Reply z))) ≡ None → ⊥
three_replies true b x y z e = cc
three_replies false b x y z e = two_replies b y z e

on_replies : (o : Option ℕ) (f : ℕ → Verdict) → ((q : ℕ) → reply (f q) ≡ None → ⊥)
    → reply (verdict_on o f)
    ≡ None → ⊥
on_replies None f none e = cc
on_replies (Some q) f none e = none q e

-- the call that an operation leaves waiting, if the verdict is that it waits
pub stands-operation : (h : History) (c : ℕ) (z : Clock) (d : Operation)
    → reply (operation_verdict h c d) ≡ None
    → (w : WaitingCall) ×
    (In w (waiting_calls_by_operation h c z d) × ((w.place ≡ place h) × (w.client ≡ c)))
stands-operation h c z (Acquires n lock_kind how) e = (_, (inl refl, (refl, refl)))
stands-operation h c z (CondWaits n k deadline) e = (_, (inl refl, (refl, refl)))
stands-operation h c z (BarrierWaits n) e = (_, (inl refl, (refl, refl)))
stands-operation h c z (Inits n kind) e =
    absurd (init_replies (is_invalid_kind kind) (is_some (object_named h n))
    (nat_le max_objects (object_count h)) e)
stands-operation h c z (Ends n class) e =
    absurd (on_replies (find_object h n class) (λ o. destroy_verdict (is_busy h class o))
    (λ o. two_replies (is_busy h class o) Ebusy Done) e)
stands-operation h c z (Unlocks n) e =
    absurd (on_replies (find_object h n MutexClass) (λ m. unlock_verdict (mutex_view h m) c)
    (λ m. two_replies (not (owns (mutex_view h m) c)) Eperm Done) e)
stands-operation h c z (Restores n) e =
    absurd (on_replies (find_object h n MutexClass) (λ m. consistent_verdict (mutex_view h m) c)
    (λ m. three_replies (not (is_robust (kind_of h m) && is_inconsistent (consistency h m)))
    (not (owns (mutex_view h m) c)) Einval Eperm Done) e)
stands-operation h c z (Rwunlocks n) e =
    absurd (on_replies (find_object h n RwlockClass) (λ r. rwunlock_verdict (rwlock_view h r c))
    (λ r. two_replies (not (has_lock (rwlock_view h r c))) Eperm Done) e)
stands-operation h c z (Signals n) e =
    absurd (on_replies (find_object h n CondClass) (λ q. Reply Done)
    (λ q k. let no : ◌≡◌ {A = Option Outcome} (Some Done) None = k in cc) e)
stands-operation h c z (Broadcasts n) e =
    absurd (on_replies (find_object h n CondClass) (λ q. Reply Done)
    (λ q k. let no : ◌≡◌ {A = Option Outcome} (Some Done) None = k in cc) e)
