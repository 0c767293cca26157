use Rattle.std.proofs.Common.{◌==◌, ◌-◌, ◌∙◌, false, cond, None, arith, length, ap, sym, subst}
use Rattle.std.proofs.Common.{nat_eq}
use Rattle.std.specs.Prelude.{IsSome}
use Rattle.std.specs.Map.{lookup}
use Rattle.pt_chains.specs.OpenQueues.{existing_by, queues_by, AreQueues}
use Rattle.pt_chains.specs.Rows.{rows_of}
use Rattle.pt_chains.proofs.OpenedLemmas.{made-more, unnoted-none, queues-left, lookup-left}
use Rattle.pt_chains.proofs.OpenedLemmas.{length-left}
use Rattle.pt_chains.proofs.queues.discard.Goals as goal

pub close-requires : goal.close-requires
close-requires g c = λ off.
    unnoted-none (existing_by c.queues.inside.log.items) (rows_of c.queues.inside.rows) _ _ _
    c.args.object c.queues.invariant off

pub invariant_of-queues : goal.invariant_of-queues
invariant_of-queues g c =
    let os = existing_by c.queues.inside.log.items in
    let rows = rows_of c.queues.inside.rows in
    let now = c.close.new.rows in
    let o = c.args.object in
    let there = subst (λ qs. IsSome (lookup (nat_eq o) qs)) (sym c.queues.view_is) c.requires in
    let next = ap existing_by c.and-queues-inside.ensures
    ∙ made-more c.queues.inside.log.items (false, o) in
    subst (λ ns. AreQueues ns (rows_of now) now.room c.queues.inside.open_flags
    (c.queues.inside.len - 1)) (sym next)
    (queues-left os rows (rows_of now) _ now.room _ _ o c.queues.invariant there
    c.close.ensures.rows c.close.ensures.room)

pub returns-clause-queues : goal.returns-clause-queues
returns-clause-queues g c = λ x.
    let os = existing_by c.queues.inside.log.items in
    let rows = rows_of c.queues.inside.rows in
    let now = c.close.new.rows in
    let o = c.args.object in
    let there = subst (λ qs. IsSome (lookup (nat_eq o) qs)) (sym c.queues.view_is) c.requires in
    let next = ap existing_by c.and-queues-inside.ensures
    ∙ made-more c.queues.inside.log.items (false, o) in
    ap (λ ns. lookup (nat_eq x) (queues_by ns (rows_of now))) next
    ∙ (lookup-left os rows (rows_of now) _ now.room _ _ o c.queues.invariant there
    c.close.ensures.rows x
    ∙ ap (λ qs. cond (o == x) None (lookup (nat_eq x) qs)) c.queues.view_is)

pub returns-clause-len : goal.returns-clause-len
returns-clause-len g c =
    let os = existing_by c.queues.inside.log.items in
    let rows = rows_of c.queues.inside.rows in
    let now = c.close.new.rows in
    let o = c.args.object in
    let there = subst (λ qs. IsSome (lookup (nat_eq o) qs)) (sym c.queues.view_is) c.requires in
    let next = ap existing_by c.and-queues-inside.ensures
    ∙ made-more c.queues.inside.log.items (false, o) in
    omega (
      arith,
      ap (λ ns. length (queues_by ns (rows_of now))) next,
      length-left os rows (rows_of now) _ now.room _ _ o c.queues.invariant there
          c.close.ensures.rows,
      ap length c.queues.view_is,
    )
