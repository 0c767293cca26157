use Rattle.pt_mutex.specs.MutexState.{mutex_after_yield}
use Rattle.pt_records.specs.declared.objects.Object.TheVariants.{Mutex}
use Rattle.pt_records.proofs.ChainsKept.{keeps-written}
use Rattle.pt_records.proofs.ObjectChanges.{writes-mutex}
use Rattle.pt_records.proofs.RowKinds.{no-mutex, no-object}
use Rattle.pt_records.proofs.mutex.free.Goals as goal

pub returns-in-Mutex-clause-mutex : goal.returns-in-Mutex-clause-mutex
returns-in-Mutex-clause-mutex g c =
    rw (← c.m.view_is)
    (writes-mutex (λ x. record x { view = mutex_after_yield x.view }) c.args.objects.now
    c.m.inside.0
    c.in-Some.object.now c.in-Mutex.mutex c.yield_dead.new.self
    c.in-Some.ensures.value c.in-Mutex.is
    c.yield_dead.ensures)

pub returns-in-Mutex-clause-chains : goal.returns-in-Mutex-clause-chains
returns-in-Mutex-clause-chains g c =
    λ x e. keeps-written c.args.objects.now c.m.inside.0 (Mutex c.yield_dead.new.self)

pub returns-in_default-object : goal.returns-in_default-object
returns-in_default-object g c =
    let other = no-mutex c.args.objects.now c.m.inside.0 c.args.m c.m.view_is c.in-Some.object.now
    c.in-Some.ensures.value c.in_default-object.not-Mutex in
    record { mutex = λ x e. absurd (other x e); chains = λ x e. absurd (other x e) }

pub returns-in_default-clause-mutex : goal.returns-in_default-clause-mutex
returns-in_default-clause-mutex g c = λ x e.
    absurd (no-object c.args.objects.now c.m.inside.0 c.args.m c.m.view_is
    c.in_default.ensures.value (Mutex x) e)

pub returns-in_default-clause-chains : goal.returns-in_default-clause-chains
returns-in_default-clause-chains g c = λ x e.
    absurd (no-object c.args.objects.now c.m.inside.0 c.args.m c.m.view_is
    c.in_default.ensures.value (Mutex x) e)
