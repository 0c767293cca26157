use Rattle.std.proofs.Common.{◌∙◌, None, ap, refl, sym, nat_eq}
use Rattle.std.specs.Map.{lookup}
use Rattle.pt_chains.specs.OpenQueues.{existing_by}
use Rattle.pt_chains.specs.Rows.{rows_of}
use Rattle.pt_chains.proofs.OpenedLemmas.{unmade-by}
use Rattle.pt_chains.proofs.OpenedRows.{first-by, unnoted}
use Rattle.pt_chains.proofs.queues.first_of.Goals as goal

pub returns-then-not-is_open-clause-queue : goal.returns-then-not-is_open-clause-queue
returns-then-not-is_open-clause-queue g c = λ queue is.
    let os = existing_by c.queues.inside.log.items in
    let rows = rows_of c.queues.inside.rows in
    let off = sym c.is_open.ensures ∙ c.if-not-is_open.true in
    first-by os rows _ _ _ c.args.object c.queues.invariant None (λ n. refl)
    (λ r e. unnoted os rows _ _ _ c.args.object c.queues.invariant off r e) queue
    (ap (lookup (nat_eq c.args.object)) c.queues.view_is ∙ is)

pub returns-clause-none : goal.returns-clause-none
returns-clause-none g c = λ none.
    c.first_of.ensures.none
    (unmade-by (existing_by c.queues.inside.log.items) (rows_of c.queues.inside.rows) _ _ _
    c.args.object c.queues.invariant (ap (lookup (nat_eq c.args.object)) c.queues.view_is ∙ none))

pub returns-clause-queue : goal.returns-clause-queue
returns-clause-queue g c = λ queue is.
    first-by (existing_by c.queues.inside.log.items) (rows_of c.queues.inside.rows) _ _ _
    c.args.object c.queues.invariant c.first_of.result
    c.first_of.ensures.none c.first_of.ensures.queue queue
    (ap (lookup (nat_eq c.args.object)) c.queues.view_is ∙ is)
