use Rattle.std.proofs.Common.{Some, refl}
use Rattle.pt_state.proofs.CallLemmas.{nearly-told}
use Rattle.pt_state.proofs.state.State.push_answered_call.Goals as goal

pub finish-requires : goal.finish-requires
finish-requires g c =
    nearly-told c.args.self.now c.args.c c.args.call.now (Some c.args.outcome) c.requires.has_room
    c.args.outcome refl c.requires.other
