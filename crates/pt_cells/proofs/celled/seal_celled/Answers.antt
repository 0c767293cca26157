use Rattle.pt_legal.specs.Cores.{core_state}
use Rattle.pt_cells.proofs.Applied.{core_after_seal-celled}
use Rattle.pt_cells.proofs.celled.seal_celled.Goals as goal

pub returns-in-Ok-clause-celled : goal.returns-in-Ok-clause-celled
returns-in-Ok-clause-celled g c =
    core_after_seal-celled (core_state (g.C.LegalHistory.seen c.args.core.now))
    (core_state (g.C.LegalHistory.seen c.seal.new.self)) c.in-Ok.at c.args.slots.now.cells
    c.clear.new.self.cells c.args.slots.now.room c.clear.new.self.room c.len.ensures.starts
    c.len.ensures.legal c.in-Ok.ensures.ok c.requires c.clear.ensures.0 c.clear.ensures.1
