use Rattle.std.proofs.Common.{◌∙◌, ℕ, List, ap, sym}
use Rattle.pt_types.specs.declared.call.Call.TheVariants as call
use Rattle.pt_types.proofs.call.Call.copied.Goals as goal

pub returns-in-Lock : goal.returns-in-Lock
returns-in-Lock c =
    ap call.Lock c.copied-in-Lock.ensures ∙ sym c.in-Lock.is

pub returns-in-Trylock : goal.returns-in-Trylock
returns-in-Trylock c =
    ap call.Trylock c.copied-in-Trylock.ensures ∙ sym c.in-Trylock.is

pub returns-in-Unlock : goal.returns-in-Unlock
returns-in-Unlock c =
    ap call.Unlock c.copied-in-Unlock.ensures ∙ sym c.in-Unlock.is

pub returns-in-Consistent : goal.returns-in-Consistent
returns-in-Consistent c =
    ap call.Consistent c.copied-in-Consistent.ensures ∙ sym c.in-Consistent.is

pub returns-in-MutexDestroy : goal.returns-in-MutexDestroy
returns-in-MutexDestroy c =
    ap call.MutexDestroy c.copied-in-MutexDestroy.ensures ∙ sym c.in-MutexDestroy.is

pub returns-in-RwlockInit : goal.returns-in-RwlockInit
returns-in-RwlockInit c =
    ap call.RwlockInit c.copied-in-RwlockInit.ensures ∙ sym c.in-RwlockInit.is

pub returns-in-Rdlock : goal.returns-in-Rdlock
returns-in-Rdlock c =
    ap call.Rdlock c.copied-in-Rdlock.ensures ∙ sym c.in-Rdlock.is

pub returns-in-Tryrdlock : goal.returns-in-Tryrdlock
returns-in-Tryrdlock c =
    ap call.Tryrdlock c.copied-in-Tryrdlock.ensures ∙ sym c.in-Tryrdlock.is

pub returns-in-Wrlock : goal.returns-in-Wrlock
returns-in-Wrlock c =
    ap call.Wrlock c.copied-in-Wrlock.ensures ∙ sym c.in-Wrlock.is

pub returns-in-Trywrlock : goal.returns-in-Trywrlock
returns-in-Trywrlock c =
    ap call.Trywrlock c.copied-in-Trywrlock.ensures ∙ sym c.in-Trywrlock.is

pub returns-in-Rwunlock : goal.returns-in-Rwunlock
returns-in-Rwunlock c =
    ap call.Rwunlock c.copied-in-Rwunlock.ensures ∙ sym c.in-Rwunlock.is

pub returns-in-RwlockDestroy : goal.returns-in-RwlockDestroy
returns-in-RwlockDestroy c =
    ap call.RwlockDestroy c.copied-in-RwlockDestroy.ensures ∙ sym c.in-RwlockDestroy.is

pub returns-in-CondInit : goal.returns-in-CondInit
returns-in-CondInit c =
    ap call.CondInit c.copied-in-CondInit.ensures ∙ sym c.in-CondInit.is

pub returns-in-CondDestroy : goal.returns-in-CondDestroy
returns-in-CondDestroy c =
    ap call.CondDestroy c.copied-in-CondDestroy.ensures ∙ sym c.in-CondDestroy.is

pub returns-in-Signal : goal.returns-in-Signal
returns-in-Signal c =
    ap call.Signal c.copied-in-Signal.ensures ∙ sym c.in-Signal.is

pub returns-in-Broadcast : goal.returns-in-Broadcast
returns-in-Broadcast c =
    ap call.Broadcast c.copied-in-Broadcast.ensures ∙ sym c.in-Broadcast.is

pub returns-in-Bwait : goal.returns-in-Bwait
returns-in-Bwait c =
    ap call.Bwait c.copied-in-Bwait.ensures ∙ sym c.in-Bwait.is

pub returns-in-BarrierDestroy : goal.returns-in-BarrierDestroy
returns-in-BarrierDestroy c =
    ap call.BarrierDestroy c.copied-in-BarrierDestroy.ensures ∙ sym c.in-BarrierDestroy.is

pub returns-in-Timedlock : goal.returns-in-Timedlock
returns-in-Timedlock c =
    ap (λ (name : List ℕ). call.Timedlock name c.in-Timedlock.due)
    c.copied-in-Timedlock.ensures
    ∙ sym c.in-Timedlock.is

pub returns-in-Clocklock : goal.returns-in-Clocklock
returns-in-Clocklock c =
    ap (λ (name : List ℕ). call.Clocklock name c.in-Clocklock.clock c.in-Clocklock.due)
    c.copied-in-Clocklock.ensures
    ∙ sym c.in-Clocklock.is

pub returns-in-Timedrdlock : goal.returns-in-Timedrdlock
returns-in-Timedrdlock c =
    ap (λ (name : List ℕ). call.Timedrdlock name c.in-Timedrdlock.due)
    c.copied-in-Timedrdlock.ensures
    ∙ sym c.in-Timedrdlock.is

pub returns-in-Clockrdlock : goal.returns-in-Clockrdlock
returns-in-Clockrdlock c =
    ap (λ (name : List ℕ). call.Clockrdlock name c.in-Clockrdlock.clock c.in-Clockrdlock.due)
    c.copied-in-Clockrdlock.ensures
    ∙ sym c.in-Clockrdlock.is

pub returns-in-Timedwrlock : goal.returns-in-Timedwrlock
returns-in-Timedwrlock c =
    ap (λ (name : List ℕ). call.Timedwrlock name c.in-Timedwrlock.due)
    c.copied-in-Timedwrlock.ensures
    ∙ sym c.in-Timedwrlock.is

pub returns-in-Clockwrlock : goal.returns-in-Clockwrlock
returns-in-Clockwrlock c =
    ap (λ (name : List ℕ). call.Clockwrlock name c.in-Clockwrlock.clock c.in-Clockwrlock.due)
    c.copied-in-Clockwrlock.ensures
    ∙ sym c.in-Clockwrlock.is

pub returns-in-BarrierInit : goal.returns-in-BarrierInit
returns-in-BarrierInit c =
    ap (λ (name : List ℕ). call.BarrierInit name c.in-BarrierInit.count)
    c.copied-in-BarrierInit.ensures
    ∙ sym c.in-BarrierInit.is

pub returns-in-Wait : goal.returns-in-Wait
returns-in-Wait c =
    let made = λ (cond : List ℕ) (mutex : List ℕ). call.Wait cond mutex in
    ap (λ (cond : List ℕ). made cond c.copied-in-Wait-2.result) c.copied-in-Wait.ensures
    ∙ ap (made c.in-Wait.cond) c.copied-in-Wait-2.ensures
    ∙ sym c.in-Wait.is

pub returns-in-Timedwait : goal.returns-in-Timedwait
returns-in-Timedwait c =
    let made = λ (cond : List ℕ) (mutex : List ℕ).
    call.Timedwait cond mutex c.in-Timedwait.due in
    ap (λ (cond : List ℕ). made cond c.copied-in-Timedwait-2.result) c.copied-in-Timedwait.ensures
    ∙ ap (made c.in-Timedwait.cond) c.copied-in-Timedwait-2.ensures
    ∙ sym c.in-Timedwait.is

pub returns-in-Clockwait : goal.returns-in-Clockwait
returns-in-Clockwait c =
    let made = λ (cond : List ℕ) (mutex : List ℕ).
    call.Clockwait cond mutex c.in-Clockwait.clock c.in-Clockwait.due in
    ap (λ (cond : List ℕ). made cond c.copied-in-Clockwait-2.result) c.copied-in-Clockwait.ensures
    ∙ ap (made c.in-Clockwait.cond) c.copied-in-Clockwait-2.ensures
    ∙ sym c.in-Clockwait.is
