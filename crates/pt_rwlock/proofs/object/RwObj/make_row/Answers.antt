use Rattle.std.proofs.Common.{Some, ap, subst}
use Rattle.std.specs.Prelude.{OnOk}
use Rattle.pt_rwlock.specs.RwlockState.{RwlockState, ChangesRow, reads_of}
use Rattle.pt_rwlock.specs.AwaitedLock.{AwaitedLock}
use Rattle.pt_rwlock.proofs.ViewRows.{row-awaited, same-awaited}
use Rattle.pt_rwlock.proofs.object.RwObj.make_row.Goals as goal

pub returns-clause-row : goal.returns-clause-row
returns-clause-row g c =
    subst (λ (l : RwlockState). OnOk c.make_row.result
    (ChangesRow l c.make_row.new.self c.args.client (Some (reads_of l c.args.client))))
    (ap (λ (s : AwaitedLock). s.lock) c.self.view_is) c.make_row.ensures.row

pub returns-clause-ok : goal.returns-clause-ok
returns-clause-ok g c =
    row-awaited c.make_row.result c.self.inside.holders c.make_row.new.self
    c.self.inside.waiting_writers c.args.self.now c.self.view_is c.args.client
    c.make_row.ensures.ok

pub returns-clause-unchanged : goal.returns-clause-unchanged
returns-clause-unchanged g c =
    same-awaited c.make_row.result c.self.inside.holders c.make_row.new.self
    c.self.inside.waiting_writers c.args.self.now c.self.view_is c.make_row.ensures.unchanged
