use Rattle.std.proofs.Common.{◌+◌, ◌∙◌, ◌++◌, ◌∷◌, [], true, arith, ap, sym, subst, nat_eq}
use Rattle.std.specs.Map.{lookup}
use Rattle.std.proofs.lemmas.Bool.{OnTrue_at}
use Rattle.pt_chains.specs.Chains.{numbers}
use Rattle.pt_chains.specs.OpenQueues.{existing_by, queues_by, AreQueues}
use Rattle.pt_chains.specs.Rows.{rows_of}
use Rattle.pt_chains.proofs.OpenedLemmas.{made-more, queues-kept, queues-made, others-made}
use Rattle.pt_chains.proofs.OpenedLemmas.{queue-made, queues-same, numbers-by}
use Rattle.pt_chains.proofs.RowLemmas.{no-row}
use Rattle.pt_chains.proofs.queues.make.Goals as goal

pub invariant_of-queues-2 : goal.invariant_of-queues-2
invariant_of-queues-2 g c =
    let os = existing_by c.queues.inside.log.items in
    let rows = rows_of c.queues.inside.rows in
    let now = c.reserve.new.self in
    let o = c.args.object in
    let kept = queues-kept os rows (rows_of now) _ now.room _ _ c.queues.invariant
    c.reserve.ensures.unchanged c.reserve.ensures.len c.reserve.ensures.more in
    let new = ap (lookup (nat_eq o)) (queues-same os rows (rows_of now) c.reserve.ensures.unchanged)
    ∙ (ap (lookup (nat_eq o)) c.queues.view_is ∙ c.requires) in
    let next = ap existing_by c.and-queues-inside.ensures
    ∙ made-more c.queues.inside.log.items (true, o) in
    subst (λ ns. AreQueues ns (rows_of now) now.room c.queues.inside.open_flags
    (c.queues.inside.len + 1)) (sym next)
    (queues-made os (rows_of now) now.room now.room _ _ o kept new
    (omega (arith, c.if-queues-ge-MAX_QUEUES.false))
    (OnTrue_at c.if-not-reserve.false c.reserve.ensures.covers))

pub returns-clause-numbers : goal.returns-clause-numbers
returns-clause-numbers g c =
    let os = existing_by c.queues.inside.log.items in
    let rows = rows_of c.queues.inside.rows in
    let now = c.reserve.new.self in
    let o = c.args.object in
    let next = ap existing_by c.and-queues-inside.ensures
    ∙ made-more c.queues.inside.log.items (true, o) in
    numbers-by _ (rows_of now)
    ∙ (next ∙ ap (λ ns. ns ++ o ∷ []) (sym (numbers-by os rows) ∙ ap numbers c.queues.view_is))

pub returns-clause-others : goal.returns-clause-others
returns-clause-others g c = λ x other.
    let os = existing_by c.queues.inside.log.items in
    let rows = rows_of c.queues.inside.rows in
    let now = c.reserve.new.self in
    let o = c.args.object in
    let kept = queues-kept os rows (rows_of now) _ now.room _ _ c.queues.invariant
    c.reserve.ensures.unchanged c.reserve.ensures.len c.reserve.ensures.more in
    let new = ap (lookup (nat_eq o)) (queues-same os rows (rows_of now) c.reserve.ensures.unchanged)
    ∙ (ap (lookup (nat_eq o)) c.queues.view_is ∙ c.requires) in
    let next = ap existing_by c.and-queues-inside.ensures
    ∙ made-more c.queues.inside.log.items (true, o) in
    ap (λ ns. lookup (nat_eq x) (queues_by ns (rows_of now))) next
    ∙ (others-made os (rows_of now) now.room now.room _ _ o kept new x other
    ∙ (ap (lookup (nat_eq x)) (queues-same os rows (rows_of now) c.reserve.ensures.unchanged)
    ∙ ap (lookup (nat_eq x)) c.queues.view_is))

pub returns-clause-queue : goal.returns-clause-queue
returns-clause-queue g c = λ queue is.
    let os = existing_by c.queues.inside.log.items in
    let rows = rows_of c.queues.inside.rows in
    let now = c.reserve.new.self in
    let o = c.args.object in
    let kept = queues-kept os rows (rows_of now) _ now.room _ _ c.queues.invariant
    c.reserve.ensures.unchanged c.reserve.ensures.len c.reserve.ensures.more in
    let new = ap (lookup (nat_eq o)) (queues-same os rows (rows_of now) c.reserve.ensures.unchanged)
    ∙ (ap (lookup (nat_eq o)) c.queues.view_is ∙ c.requires) in
    let next = ap existing_by c.and-queues-inside.ensures
    ∙ made-more c.queues.inside.log.items (true, o) in
    sym (queue-made os (rows_of now) now.room now.room _ _ o kept new queue
    (ap (λ ns. lookup (nat_eq o) (queues_by ns (rows_of now))) (sym next) ∙ is))

pub invariant_of-queues : goal.invariant_of-queues
invariant_of-queues g c =
    let now = c.reserve.new.self in
    queues-kept (existing_by c.queues.inside.log.items) (rows_of c.queues.inside.rows) (rows_of now) _
    now.room _ _ c.queues.invariant c.reserve.ensures.unchanged c.reserve.ensures.len
    c.reserve.ensures.more

pub returns-then-not-reserve-clause-queue : goal.returns-then-not-reserve-clause-queue
returns-then-not-reserve-clause-queue g c = λ queue is.
    let os = existing_by c.queues.inside.log.items in
    let same = queues-same os (rows_of c.queues.inside.rows) (rows_of c.reserve.new.self)
    c.reserve.ensures.unchanged in
    let o = c.args.object in
    no-row _ queue (sym (ap (lookup (nat_eq o)) same
    ∙ (ap (lookup (nat_eq o)) c.queues.view_is ∙ c.requires))) is
