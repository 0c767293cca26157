use Rattle.pt_cells.proofs.Applied.{none-seen}
use Rattle.pt_cells.proofs.celled.Celled.meet.Goals as goal

pub returns-in-None : goal.returns-in-None
returns-in-None g c =
    none-seen (g.C.LegalHistory.seen c.self.inside.core) c.self.inside.slots c.args.self.now
    c.args.seen.now.place _ c.in-None.is c.self.view_is
