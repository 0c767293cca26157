use Rattle.std.proofs.Common.{◌≡◌, ◌+◌, ◌<◌, ◌^◌, ◌==◌, ◌∙◌, cond, refl, ap, sym, subst, nat_eq}
use Rattle.std.proofs.Common.{is_some, vec_len}
use Rattle.std.specs.Prelude.{IsSome, IfSome, slice_index, unwrap_or}
use Rattle.std.specs.Map.{lookup}
use Rattle.pt_chains.specs.declared.sides.Queue.{Queue}
use Rattle.pt_chains.specs.Chains.{numbers, side_of, IsAppended}
use Rattle.pt_chains.specs.Boxes.{no_queue}
use Rattle.pt_chains.specs.OpenQueues.{existing_by}
use Rattle.pt_chains.specs.Rows.{chains_in, rows_of}
use Rattle.pt_chains.proofs.ChainLemmas.{some_same}
use Rattle.pt_chains.proofs.OpenedLemmas.{listed-by, room-by, queues-opened, queues-set, numbers-by}
use Rattle.pt_chains.proofs.OpenedLemmas.{others-by}
use Rattle.pt_chains.proofs.OpenedRows.{row-if, row-of, equal-most}
use Rattle.pt_chains.proofs.RowLemmas.{placed-row, rows-numbered}
use Rattle.pt_chains.proofs.queues.insert.Goals as goal

pub row_slot-slot-requires-clause-room : goal.row_slot-slot-requires-clause-room
row_slot-slot-requires-clause-room g c = λ none once.
    let os = existing_by c.queues.inside.log.items in
    let rows = rows_of c.queues.inside.rows in
    let o = c.args.object in
    let is_queue = listed-by os rows o
    (subst (λ qs. IsSome (lookup (nat_eq o) qs)) (sym c.queues.view_is) c.requires.exists) in
    room-by os rows _ _ _ o c.queues.invariant is_queue none once

pub row_slot-slot-requires-clause-noted : goal.row_slot-slot-requires-clause-noted
row_slot-slot-requires-clause-noted g c = c.queues.invariant.noted c.args.object

pub put_in-requires-clause-exists : goal.put_in-requires-clause-exists
put_in-requires-clause-exists g c = (c.args.object, c.row_slot-slot.ensures.at)

pub put_in-requires-clause-room : goal.put_in-requires-clause-room
put_in-requires-clause-room g c =
    let os = existing_by c.queues.inside.log.items in
    let rows = rows_of c.queues.inside.rows in
    let o = c.args.object in
    let is_queue = listed-by os rows o
    (subst (λ qs. IsSome (lookup (nat_eq o) qs)) (sym c.queues.view_is) c.requires.exists) in
    let now = c.row_slot-slot.new.rows in
    let here = placed-row now.places now.slots o c.row_slot-slot.result
    c.row_slot-slot.ensures.at in
    let fits = λ (q : Queue). slice_index (side_of c.args.writer q).counts c.args.p + 1 < 2 ^ 32 in
    subst (λ f. IfSome f fits) here
    (row-if fits os rows (rows_of now) _ o is_queue c.queues.view_is c.requires.room
    (c.row_slot-slot.ensures.unchanged o))

pub put_in-requires-clause-len : goal.put_in-requires-clause-len
put_in-requires-clause-len g c =
    let os = existing_by c.queues.inside.log.items in
    let rows = rows_of c.queues.inside.rows in
    let o = c.args.object in
    let is_queue = listed-by os rows o
    (subst (λ qs. IsSome (lookup (nat_eq o) qs)) (sym c.queues.view_is) c.requires.exists) in
    let now = c.row_slot-slot.new.rows in
    let here = placed-row now.places now.slots o c.row_slot-slot.result
    c.row_slot-slot.ensures.at in
    subst (λ f. IfSome f (λ q. q.len + 1 < 2 ^ 64)) here
    (row-if (λ q. q.len + 1 < 2 ^ 64) os rows (rows_of now) _ o is_queue c.queues.view_is
    c.requires.len (c.row_slot-slot.ensures.unchanged o))

pub put_in-requires-clause-spare : goal.put_in-requires-clause-spare
put_in-requires-clause-spare g c =
    let os = existing_by c.queues.inside.log.items in
    let rows = rows_of c.queues.inside.rows in
    let o = c.args.object in
    let is_queue = listed-by os rows o
    (subst (λ qs. IsSome (lookup (nat_eq o) qs)) (sym c.queues.view_is) c.requires.exists) in
    let now = c.row_slot-slot.new.rows in
    let here = placed-row now.places now.slots o c.row_slot-slot.result
    c.row_slot-slot.ensures.at in
    subst (λ f. IfSome f (λ q. q.len ≡ 0 → 0 < vec_len c.args.spares.now)) here
    (row-if (λ q. q.len ≡ 0 → 0 < vec_len c.args.spares.now) os rows (rows_of now) _ o is_queue
    c.queues.view_is c.requires.spare (c.row_slot-slot.ensures.unchanged o))

pub put_in-requires-clause-empty : goal.put_in-requires-clause-empty
put_in-requires-clause-empty g c = c.requires.empty

pub invariant_of-queues : goal.invariant_of-queues
invariant_of-queues g c =
    let os = existing_by c.queues.inside.log.items in
    let rows = rows_of c.queues.inside.rows in
    let o = c.args.object in
    let is_queue = listed-by os rows o
    (subst (λ qs. IsSome (lookup (nat_eq o) qs)) (sym c.queues.view_is) c.requires.exists) in
    let now = c.row_slot-slot.new.rows in
    let open_flags = c.row_slot-slot.ensures in
    queues-set os (rows_of now) _ _ _ _ _
    (queues-opened os rows (rows_of now) _ _ _ _ _ o c.queues.invariant is_queue open_flags.listed
    open_flags.room open_flags.own open_flags.stays_open)
    (rows-numbered now c.put_in.new.self c.put_in.ensures.places)
    (equal-most _ _ c.put_in.ensures.more)

pub returns-clause-numbers : goal.returns-clause-numbers
returns-clause-numbers g c =
    let os = existing_by c.queues.inside.log.items in
    numbers-by os _
    ∙ (sym (numbers-by os (rows_of c.queues.inside.rows)) ∙ ap numbers c.queues.view_is)

pub returns-clause-others : goal.returns-clause-others
returns-clause-others g c = λ x other.
    let os = existing_by c.queues.inside.log.items in
    let o = c.args.object in
    others-by os (rows_of c.queues.inside.rows) _ o
    (λ y far. ap (λ f. unwrap_or f no_queue)
    (c.put_in.ensures.others o y c.row_slot-slot.ensures.at far)
    ∙ c.row_slot-slot.ensures.unchanged y) x other
    ∙ ap (lookup (nat_eq x)) c.queues.view_is

pub returns-clause-queue : goal.returns-clause-queue
returns-clause-queue g c = λ old new was is.
    let os = existing_by c.queues.inside.log.items in
    let rows = rows_of c.queues.inside.rows in
    let o = c.args.object in
    let slot = c.row_slot-slot.result in
    let now = c.row_slot-slot.new.rows in
    let later = c.put_in.new.self in
    let here = placed-row now.places now.slots o slot c.row_slot-slot.ensures.at in
    let first = row-of os rows (rows_of now) o old (ap is_some here)
    (c.row_slot-slot.ensures.unchanged o) (ap (lookup (nat_eq o)) c.queues.view_is ∙ was) in
    let before = some_same (chains_in now.slots slot) old (sym here ∙ first) in
    let there = placed-row later.places later.slots o slot
    (ap (lookup (nat_eq o)) c.put_in.ensures.places ∙ c.row_slot-slot.ensures.at) in
    let second = row-of os _ _ o new (ap is_some there) refl is in
    let after = some_same (chains_in later.slots slot) new (sym there ∙ second) in
    subst (λ q. IsAppended c.args.writer c.args.p c.args.node c.put_in.result q new) before
    (subst (λ q. IsAppended c.args.writer c.args.p c.args.node c.put_in.result
    (chains_in now.slots slot) q) after c.put_in.ensures.queue)

pub returns-clause-spares : goal.returns-clause-spares
returns-clause-spares g c = λ old was.
    let os = existing_by c.queues.inside.log.items in
    let rows = rows_of c.queues.inside.rows in
    let o = c.args.object in
    let slot = c.row_slot-slot.result in
    let now = c.row_slot-slot.new.rows in
    let here = placed-row now.places now.slots o slot c.row_slot-slot.ensures.at in
    let first = row-of os rows (rows_of now) o old (ap is_some here)
    (c.row_slot-slot.ensures.unchanged o) (ap (lookup (nat_eq o)) c.queues.view_is ∙ was) in
    let before = some_same (chains_in now.slots slot) old (sym here ∙ first) in
    subst (λ q. vec_len c.put_in.new.spares + cond (q.len == 0) 1 0 ≡ vec_len c.args.spares.now)
    before c.put_in.ensures.spares
