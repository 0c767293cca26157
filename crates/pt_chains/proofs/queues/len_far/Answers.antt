use Rattle.std.proofs.Common.{◌∙◌, ap, sym, nat_eq}
use Rattle.std.specs.Prelude.{unwrap_or}
use Rattle.std.specs.Option.{option_map}
use Rattle.std.specs.Map.{lookup}
use Rattle.pt_chains.specs.OpenQueues.{existing_by}
use Rattle.pt_chains.specs.Rows.{rows_of}
use Rattle.pt_chains.proofs.OpenedLemmas.{unnoted-none}
use Rattle.pt_chains.proofs.OpenedRows.{len-by}
use Rattle.pt_chains.proofs.queues.len_far.Goals as goal

pub returns-then-not-is_open : goal.returns-then-not-is_open
returns-then-not-is_open g c =
    let os = existing_by c.queues.inside.log.items in
    let rows = rows_of c.queues.inside.rows in
    let off = sym c.is_open.ensures ∙ c.if-not-is_open.true in
    let none = unnoted-none os rows _ _ _ c.args.object c.queues.invariant off in
    ap (λ f. unwrap_or (option_map (λ q. q.len) f) 0) (sym none)
    ∙ len-by os rows _ _ _ c.args.object c.queues.invariant
    ∙ ap (λ qs. unwrap_or (option_map (λ q. q.len) (lookup (nat_eq c.args.object) qs)) 0)
    c.queues.view_is

pub returns : goal.returns
returns g c =
    let os = existing_by c.queues.inside.log.items in
    c.len_of.ensures
    ∙ len-by os (rows_of c.queues.inside.rows) _ _ _ c.args.object c.queues.invariant
    ∙ ap (λ qs. unwrap_or (option_map (λ q. q.len) (lookup (nat_eq c.args.object) qs)) 0)
    c.queues.view_is
