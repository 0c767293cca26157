use Rattle.std.proofs.Common.{subst}
use Rattle.pt_legal.specs.Cores.{core_state}
use Rattle.pt_cells.specs.Cells.{AreCells, Celled}
use Rattle.pt_cells.proofs.Applied.{slots-are}
use Rattle.pt_cells.proofs.celled.Celled.law_cells.Goals as goal

pub returns : goal.returns
returns g c =
    subst (λ (w : Celled). AreCells w.core.entries w.cells) c.self.view_is
    (slots-are (core_state (g.C.LegalHistory.seen c.self.inside.core)) c.self.inside.slots
    c.self.invariant)
