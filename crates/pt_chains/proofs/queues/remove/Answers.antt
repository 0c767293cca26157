use Rattle.std.proofs.Common.{◌≤◌, ◌∙◌, refl, ap, sym, subst, nat_eq}
use Rattle.std.specs.Prelude.{IsSome, slice_index, unwrap_or}
use Rattle.std.specs.Map.{lookup}
use Rattle.pt_chains.specs.Chains.{numbers, side_of}
use Rattle.pt_chains.specs.Boxes.{no_queue}
use Rattle.pt_chains.specs.OpenQueues.{existing_by}
use Rattle.pt_chains.specs.Rows.{rows_of}
use Rattle.pt_chains.proofs.OpenedLemmas.{listed-by, queues-set, numbers-by, others-by}
use Rattle.pt_chains.proofs.OpenedRows.{row-if, row-of, row-waits, set-there, equal-most}
use Rattle.pt_chains.proofs.queues.remove.Goals as goal

pub remove-requires-clause-exists : goal.remove-requires-clause-exists
remove-requires-clause-exists g c =
    let os = existing_by c.queues.inside.log.items in
    let rows = rows_of c.queues.inside.rows in
    let o = c.args.object in
    let is_queue = listed-by os rows o
    (subst (λ qs. IsSome (lookup (nat_eq o) qs)) (sym c.queues.view_is) c.requires.exists) in
    row-waits os rows _ o is_queue c.queues.view_is c.requires.len

pub remove-requires-clause-counted : goal.remove-requires-clause-counted
remove-requires-clause-counted g c =
    let os = existing_by c.queues.inside.log.items in
    let rows = rows_of c.queues.inside.rows in
    let o = c.args.object in
    let is_queue = listed-by os rows o
    (subst (λ qs. IsSome (lookup (nat_eq o) qs)) (sym c.queues.view_is) c.requires.exists) in
    row-if (λ q. 1 ≤ slice_index (side_of c.args.writer q).counts c.args.p)
    os rows rows _ o is_queue c.queues.view_is c.requires.counted refl

pub remove-requires-clause-len : goal.remove-requires-clause-len
remove-requires-clause-len g c =
    let os = existing_by c.queues.inside.log.items in
    let rows = rows_of c.queues.inside.rows in
    let o = c.args.object in
    let is_queue = listed-by os rows o
    (subst (λ qs. IsSome (lookup (nat_eq o) qs)) (sym c.queues.view_is) c.requires.exists) in
    row-if (λ q. 1 ≤ q.len) os rows rows _ o is_queue c.queues.view_is c.requires.len refl

pub invariant_of-queues : goal.invariant_of-queues
invariant_of-queues g c =
    queues-set (existing_by c.queues.inside.log.items) (rows_of c.queues.inside.rows) _ _ _ _ _
    c.queues.invariant c.remove.ensures.numbers (equal-most _ _ c.remove.ensures.more)

pub returns-clause-numbers : goal.returns-clause-numbers
returns-clause-numbers g c =
    let os = existing_by c.queues.inside.log.items in
    numbers-by os _
    ∙ (sym (numbers-by os (rows_of c.queues.inside.rows)) ∙ ap numbers c.queues.view_is)

pub returns-clause-others : goal.returns-clause-others
returns-clause-others g c = λ x other.
    let os = existing_by c.queues.inside.log.items in
    others-by os (rows_of c.queues.inside.rows) _ c.args.object
    (λ y far. ap (λ f. unwrap_or f no_queue) (c.remove.ensures.others y far)) x other
    ∙ ap (lookup (nat_eq x)) c.queues.view_is

pub returns-clause-queue : goal.returns-clause-queue
returns-clause-queue g c = λ old new was is.
    let os = existing_by c.queues.inside.log.items in
    let rows = rows_of c.queues.inside.rows in
    let o = c.args.object in
    let is_queue = listed-by os rows o
    (subst (λ qs. IsSome (lookup (nat_eq o) qs)) (sym c.queues.view_is) c.requires.exists) in
    let here = row-waits os rows _ o is_queue c.queues.view_is c.requires.len in
    let first = row-of os rows rows o old here refl
    (ap (lookup (nat_eq o)) c.queues.view_is ∙ was) in
    let there = set-there rows _ o c.remove.ensures.numbers here in
    c.remove.ensures.queue old new first (row-of os _ _ o new there refl is)
