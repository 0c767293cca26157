use Rattle.std.proofs.Common.{Some, None}
use Rattle.pt_hub.proofs.ViewLemmas.{blocked-read}
use Rattle.pt_hub.proofs.answering_core.AnsweringCore.is_blocked.Goals as goal

pub returns-in-Some : goal.returns-in-Some
returns-in-Some g c =
    blocked-read _ _ c.self.invariant c.self.view_is _ _ c.c.view_is (Some c.in-Some.account)
    c.in-Some.ensures

pub returns-in-None : goal.returns-in-None
returns-in-None g c =
    blocked-read _ _ c.self.invariant c.self.view_is _ _ c.c.view_is None c.in-None.ensures
