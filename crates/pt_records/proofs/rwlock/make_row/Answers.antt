use Rattle.std.proofs.Common.{Some}
use Rattle.pt_rwlock.specs.RwlockState.{with_row, ChangesRow, reads_of}
use Rattle.pt_records.specs.declared.objects.Object.TheVariants.{Rwlock}
use Rattle.pt_records.proofs.ChainsKept.{keeps-written}
use Rattle.pt_records.proofs.ObjectChanges.{writes-lock, whenever-err}
use Rattle.pt_records.proofs.RowKinds.{no-lock, no-object, lock-changed}
use Rattle.pt_records.proofs.rwlock.make_row.Goals as goal

pub returns-in_err-make_row-clause-unchanged : goal.returns-in_err-make_row-clause-unchanged
returns-in_err-make_row-clause-unchanged g c =
    rw (← c.r.view_is)
    (λ x e.
    whenever-err c.from_residual.result
    (writes-lock (λ x. x) c.args.objects.now c.r.inside.0 c.in-Some.object.now c.in-Rwlock.lock
    c.make_row.new.self c.in-Some.ensures.value c.in-Rwlock.is c.in_err-make_row.ensures.unchanged x e))

pub returns-in_ok-make_row-clause-ok : goal.returns-in_ok-make_row-clause-ok
returns-in_ok-make_row-clause-ok g c =
    rw (← c.r.view_is)
    (writes-lock (λ x. with_row x c.args.c) c.args.objects.now c.r.inside.0 c.in-Some.object.now
    c.in-Rwlock.lock c.make_row.new.self c.in-Some.ensures.value c.in-Rwlock.is
    c.in_ok-make_row.ensures.ok)

pub returns-in_err-make_row-clause-chains : goal.returns-in_err-make_row-clause-chains
returns-in_err-make_row-clause-chains g c =
    λ x e. keeps-written c.args.objects.now c.r.inside.0 (Rwlock c.make_row.new.self)

pub returns-in_ok-make_row-clause-chains : goal.returns-in_ok-make_row-clause-chains
returns-in_ok-make_row-clause-chains g c =
    λ x e. keeps-written c.args.objects.now c.r.inside.0 (Rwlock c.make_row.new.self)

pub returns-in_ok-make_row-clause-row : goal.returns-in_ok-make_row-clause-row
returns-in_ok-make_row-clause-row g c =
    lock-changed c.args.objects.now c.r.inside.0 c.args.r c.r.view_is c.in-Some.object.now
    c.in-Some.ensures.value
    (λ x z. ChangesRow x z c.args.c (Some (reads_of x c.args.c)))
    (λ x. with_row x c.args.c) c.in-Rwlock.lock c.make_row.new.self c.in-Rwlock.is
    c.in_ok-make_row.ensures.ok c.in_ok-make_row.ensures.row

pub returns-in_default-object : goal.returns-in_default-object
returns-in_default-object g c =
    let other = no-lock c.args.objects.now c.r.inside.0 c.args.r c.r.view_is c.in-Some.object.now
    c.in-Some.ensures.value c.in_default-object.not-Rwlock in
    record {
      ok = λ x e. absurd (other x e);
      row = λ x e. absurd (other x e);
      relock = λ x e. absurd (other x e);
      unchanged = λ x e. absurd (other x e);
      chains = λ x e. absurd (other x e);
      err = tt;
    }

pub returns-in_default-clause-ok : goal.returns-in_default-clause-ok
returns-in_default-clause-ok g c = λ x e.
    absurd (no-object c.args.objects.now c.r.inside.0 c.args.r c.r.view_is
    c.in_default.ensures.value (Rwlock x) e)

pub returns-in_default-clause-row : goal.returns-in_default-clause-row
returns-in_default-clause-row g c = λ x e.
    absurd (no-object c.args.objects.now c.r.inside.0 c.args.r c.r.view_is
    c.in_default.ensures.value (Rwlock x) e)

pub returns-in_default-clause-chains : goal.returns-in_default-clause-chains
returns-in_default-clause-chains g c = λ x e.
    absurd (no-object c.args.objects.now c.r.inside.0 c.args.r c.r.view_is
    c.in_default.ensures.value (Rwlock x) e)
