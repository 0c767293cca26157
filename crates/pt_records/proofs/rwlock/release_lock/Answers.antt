use Rattle.std.proofs.Common.{◌≡◌, ◌-◌, Some, false}
use Rattle.pt_rwlock.specs.RwlockState.{rwlock_after_release, ChangesRow, reads_of}
use Rattle.pt_types.specs.MutexTable.{is_some_number}
use Rattle.pt_records.specs.declared.objects.Object.TheVariants.{Rwlock}
use Rattle.pt_records.proofs.ChainsKept.{keeps-written}
use Rattle.pt_records.proofs.ObjectChanges.{writes-lock}
use Rattle.pt_records.proofs.RowKinds.{no-lock, no-object, object-found, lock-changed}
use Rattle.pt_records.proofs.rwlock.release_lock.Goals as goal

pub returns-in-Rwlock-clause-lock : goal.returns-in-Rwlock-clause-lock
returns-in-Rwlock-clause-lock g c =
    rw (← c.r.view_is)
    (writes-lock (λ x. rwlock_after_release x c.args.c) c.args.objects.now c.r.inside.0
    c.in-Some.object.now c.in-Rwlock.lock c.release.new.self c.in-Some.ensures.value
    c.in-Rwlock.is c.release.ensures.change)

pub returns-in-Rwlock-clause-chains : goal.returns-in-Rwlock-clause-chains
returns-in-Rwlock-clause-chains g c =
    λ x e. keeps-written c.args.objects.now c.r.inside.0 (Rwlock c.release.new.self)

pub release-requires : goal.release-requires
release-requires g c =
    c.requires.holder c.in-Rwlock.lock
    (object-found c.args.objects.now c.r.inside.0 c.args.r c.r.view_is c.in-Some.object.now
    c.in-Some.ensures.value (Rwlock c.in-Rwlock.lock) c.in-Rwlock.is)

pub returns-in-Rwlock-clause-row : goal.returns-in-Rwlock-clause-row
returns-in-Rwlock-clause-row g c =
    lock-changed c.args.objects.now c.r.inside.0 c.args.r c.r.view_is c.in-Some.object.now
    c.in-Some.ensures.value
    (λ x z. is_some_number x.writer c.args.c ≡ false
    → ChangesRow x z c.args.c (Some (reads_of x c.args.c - 1)))
    (λ x. rwlock_after_release x c.args.c) c.in-Rwlock.lock c.release.new.self c.in-Rwlock.is
    c.release.ensures.change c.release.ensures.row

pub returns-in_default-object : goal.returns-in_default-object
returns-in_default-object g c =
    let other = no-lock c.args.objects.now c.r.inside.0 c.args.r c.r.view_is c.in-Some.object.now
    c.in-Some.ensures.value c.in_default-object.not-Rwlock in
    record {
      lock = λ x e. absurd (other x e);
      chains = λ x e. absurd (other x e);
      row = λ x e. absurd (other x e);
    }

pub returns-in_default-clause-lock : goal.returns-in_default-clause-lock
returns-in_default-clause-lock g c = λ x e.
    absurd (no-object c.args.objects.now c.r.inside.0 c.args.r c.r.view_is
    c.in_default.ensures.value (Rwlock x) e)

pub returns-in_default-clause-chains : goal.returns-in_default-clause-chains
returns-in_default-clause-chains g c = λ x e.
    absurd (no-object c.args.objects.now c.r.inside.0 c.args.r c.r.view_is
    c.in_default.ensures.value (Rwlock x) e)

pub returns-in_default-clause-row : goal.returns-in_default-clause-row
returns-in_default-clause-row g c = λ x e.
    absurd (no-object c.args.objects.now c.r.inside.0 c.args.r c.r.view_is
    c.in_default.ensures.value (Rwlock x) e)
