use Rattle.std.proofs.Common.{◌∙◌, ap, nat_eq}
use Rattle.std.specs.Prelude.{unwrap_or}
use Rattle.std.specs.Option.{option_map}
use Rattle.std.specs.Map.{lookup}
use Rattle.pt_chains.specs.OpenQueues.{existing_by}
use Rattle.pt_chains.specs.Rows.{rows_of}
use Rattle.pt_chains.proofs.OpenedRows.{len-by}
use Rattle.pt_chains.proofs.queues.len_of.Goals as goal

pub returns-in-Some : goal.returns-in-Some
returns-in-Some g c =
    let os = existing_by c.queues.inside.log.items in
    c.in-Some.ensures
    ∙ len-by os (rows_of c.queues.inside.rows) _ _ _ c.args.object c.queues.invariant
    ∙ ap (λ qs. unwrap_or (option_map (λ q. q.len) (lookup (nat_eq c.args.object) qs)) 0)
    c.queues.view_is
