use Rattle.std.proofs.Common.{Some}
use Rattle.pt_records.specs.declared.objects.Object.TheVariants.{Rwlock}
use Rattle.pt_records.proofs.ChainsKept.{keeps-written}
use Rattle.pt_records.proofs.ObjectChanges.{writes-lock}
use Rattle.pt_records.proofs.RowKinds.{no-lock, no-object, object-found}
use Rattle.pt_records.proofs.rwlock.acquire_write.Goals as goal

pub returns-in-Rwlock-clause-lock : goal.returns-in-Rwlock-clause-lock
returns-in-Rwlock-clause-lock g c =
    rw (← c.r.view_is)
    (writes-lock (λ x. record x { writer = Some c.args.c }) c.args.objects.now c.r.inside.0
    c.in-Some.object.now c.in-Rwlock.lock c.acquire_write.new.self c.in-Some.ensures.value
    c.in-Rwlock.is c.acquire_write.ensures)

pub returns-in-Rwlock-clause-chains : goal.returns-in-Rwlock-clause-chains
returns-in-Rwlock-clause-chains g c =
    λ x e. keeps-written c.args.objects.now c.r.inside.0 (Rwlock c.acquire_write.new.self)

pub acquire_write-requires : goal.acquire_write-requires
acquire_write-requires g c =
    c.requires.free c.in-Rwlock.lock
    (object-found c.args.objects.now c.r.inside.0 c.args.r c.r.view_is c.in-Some.object.now
    c.in-Some.ensures.value (Rwlock c.in-Rwlock.lock) c.in-Rwlock.is)

pub returns-in_default-object : goal.returns-in_default-object
returns-in_default-object g c =
    let other = no-lock c.args.objects.now c.r.inside.0 c.args.r c.r.view_is c.in-Some.object.now
    c.in-Some.ensures.value c.in_default-object.not-Rwlock in
    record { lock = λ x e. absurd (other x e); chains = λ x e. absurd (other x e) }

pub returns-in_default-clause-lock : goal.returns-in_default-clause-lock
returns-in_default-clause-lock g c = λ x e.
    absurd (no-object c.args.objects.now c.r.inside.0 c.args.r c.r.view_is
    c.in_default.ensures.value (Rwlock x) e)

pub returns-in_default-clause-chains : goal.returns-in_default-clause-chains
returns-in_default-clause-chains g c = λ x e.
    absurd (no-object c.args.objects.now c.r.inside.0 c.args.r c.r.view_is
    c.in_default.ensures.value (Rwlock x) e)
