use Rattle.std.proofs.Common.{◌∙◌, ap, nat_eq}
use Rattle.std.specs.Map.{lookup}
use Rattle.pt_chains.specs.OpenQueues.{existing_by}
use Rattle.pt_chains.specs.Rows.{rows_of}
use Rattle.pt_chains.proofs.OpenedLemmas.{unmade-by}
use Rattle.pt_chains.proofs.OpenedRows.{first-by}
use Rattle.pt_chains.proofs.queues.first_in_row.Goals as goal

pub returns-clause-none : goal.returns-clause-none
returns-clause-none g c = λ none.
    c.first_from.ensures.none
    (unmade-by (existing_by c.queues.inside.log.items) (rows_of c.queues.inside.rows) _ _ _
    c.args.object c.queues.invariant (ap (lookup (nat_eq c.args.object)) c.queues.view_is ∙ none))

pub returns-clause-queue : goal.returns-clause-queue
returns-clause-queue g c = λ queue is.
    first-by (existing_by c.queues.inside.log.items) (rows_of c.queues.inside.rows) _ _ _
    c.args.object c.queues.invariant c.first_from.result
    c.first_from.ensures.none c.first_from.ensures.queue queue
    (ap (lookup (nat_eq c.args.object)) c.queues.view_is ∙ is)
