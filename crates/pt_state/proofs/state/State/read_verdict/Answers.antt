use Rattle.std.proofs.Common.{refl, sym, ap, ◌∙◌}
use Rattle.std.specs.Option.{option_copied}
use Rattle.pt_table.specs.ObjectRows.{object_value}
use Rattle.pt_types.specs.RwlockTable.{read_verdict}
use Rattle.pt_types.specs.declared.views.RwlockView.{RwlockView}
use Rattle.pt_state.specs.Adds.{history_of}
use Rattle.pt_records.proofs.LockViews.{lock-in, view-kept}
use Rattle.pt_state.proofs.state.State.read_verdict.Goals as goal

pub returns : goal.returns
returns g c =
    let h = history_of c.args.self.now in
    let lock = c.unwrap-lock.result.now in
    c.verdict_read_blocked.ensures
    ∙ ap (λ (u : RwlockView). read_verdict u c.args.blocked c.args.how.now)
    (view-kept h c.requires.tables.follows c.args.r lock
    (lock-in h (object_value c.args.self.now.objects) c.requires.tables.object_rows.look c.args.r
    c.args.r lock refl (sym c.rwlock_at.ensures ∙ ap option_copied c.unwrap-lock.ensures))
    c.args.c)
