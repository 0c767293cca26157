use Rattle.pt_cells.proofs.Applied.{unseen-in}
use Rattle.pt_cells.proofs.celled.Celled.apply.Goals as goal

pub returns-in-None-clause-cells : goal.returns-in-None-clause-cells
returns-in-None-clause-cells g c =
    unseen-in c.apply.result (g.C.LegalHistory.seen c.self.inside.core)
    (g.C.LegalHistory.seen c.apply.new.self) c.args.event.now c.self.inside.slots
    c.args.self.now c.in-None.is c.self.view_is c.apply.ensures.ok
