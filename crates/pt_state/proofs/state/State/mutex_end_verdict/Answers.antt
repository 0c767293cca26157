use Rattle.std.proofs.Common.{sym, ap, ◌∙◌}
use Rattle.std.specs.Option.{option_copied}
use Rattle.pt_table.specs.ObjectRows.{object_value}
use Rattle.pt_types.specs.ObjectTable.{destroy_verdict}
use Rattle.pt_model.specs.Verdicts.{is_alive_if}
use Rattle.pt_state.specs.Adds.{history_of}
use Rattle.pt_state.proofs.JudgeLemmas.{mutex-in, mutex-busy}
use Rattle.pt_state.proofs.state.State.mutex_end_verdict.Goals as goal

pub returns : goal.returns
returns g c =
    let h = history_of c.args.self.now in
    let mutex = c.unwrap-mutex.result.now in
    let kept = mutex-in h c.requires.tables.follows (object_value c.args.self.now.objects)
    c.requires.tables.object_rows.look c.args.m mutex
    (sym c.mutex_at.ensures ∙ ap option_copied c.unwrap-mutex.ensures) in
    c.verdict_destroy.ensures
    ∙ ap destroy_verdict
    (mutex-busy h c.args.m mutex c.is_alive_if-owner_lives.result c.args.awaited kept
    (c.is_alive_if-owner_lives.ensures ∙ ap (is_alive_if h) c.owner.ensures))
