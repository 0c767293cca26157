use Rattle.std.proofs.Common.{◌∙◌}
use Rattle.pt_state.proofs.Requested.{returning}
use Rattle.pt_state.proofs.state.State.returns_to_mutex.Goals as goal
use Rattle.pt_history.specs.Stored.{stored_history}

pub returns : goal.returns
returns g c =
    let tables = c.args.self.now in
    c.any_returns.ensures
    ∙ returning (stored_history tables.stored) tables.clients c.requires.follows
    c.requires.callers c.args.m
