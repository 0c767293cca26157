use Rattle.std.proofs.Common.{◌∙◌, ap, arith, length, sym}
use Rattle.pt_chains.specs.OpenQueues.{existing_by}
use Rattle.pt_chains.specs.Rows.{rows_of}
use Rattle.pt_chains.proofs.OpenedLemmas.{length-by}
use Rattle.pt_chains.proofs.queues.Queues.len.Goals as goal

pub returns-clause-len : goal.returns-clause-len
returns-clause-len g c =
    c.self.invariant.count
    ∙ sym (length-by (existing_by c.self.inside.log.items) (rows_of c.self.inside.rows))
    ∙ ap length c.self.view_is

pub returns-clause-within : goal.returns-clause-within
returns-clause-within g c =
    omega (
      arith,
      c.self.invariant.count,
      c.self.invariant.bounded,
      length-by (existing_by c.self.inside.log.items) (rows_of c.self.inside.rows),
      ap length c.self.view_is,
    )
