use Rattle.std.proofs.Common.{◌∙◌, sym}
use Rattle.pt_chains.specs.Rows.{rows_of}
use Rattle.pt_chains.proofs.OpenedRows.{closed-none}
use Rattle.pt_chains.proofs.queues.close.Goals as goal

pub returns-then-not-is_open-clause-rows : goal.returns-then-not-is_open-clause-rows
returns-then-not-is_open-clause-rows g c = λ x.
    closed-none (rows_of c.args.rows.now) c.args.object x
    (c.requires (sym c.is_open.ensures ∙ c.if-not-is_open.true))
