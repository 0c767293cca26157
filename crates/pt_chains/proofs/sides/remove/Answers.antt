use Rattle.std.proofs.Common.{◌∙◌, ◌≤◌, is_some, nat_eq, ap, sym, subst, slice_index}
use Rattle.std.specs.Prelude.{IfSome}
use Rattle.std.specs.Option.{option_map}
use Rattle.std.specs.Map.{lookup}
use Rattle.pt_chains.specs.Chains.{side_of}
use Rattle.pt_chains.specs.Boxes.{IsEmptied}
use Rattle.pt_chains.specs.Rows.{chains_in}
use Rattle.pt_chains.proofs.ChainLemmas.{some_same}
use Rattle.pt_chains.proofs.RowLemmas.{placed-row, row-placed, rows-numbered}
use Rattle.pt_chains.proofs.sides.remove.Goals as goal

pub unwrap-slot-requires : goal.unwrap-slot-requires
unwrap-slot-requires g c =
    let queues = c.args.queues.now in
    ap is_some c.slot_from.ensures
    ∙ row-placed queues.places queues.slots c.args.object c.requires.exists

pub take_out-requires-clause-exists : goal.take_out-requires-clause-exists
take_out-requires-clause-exists g c =
    (c.args.object, sym c.slot_from.ensures ∙ c.unwrap-slot.ensures)

pub take_out-requires-clause-waits : goal.take_out-requires-clause-waits
take_out-requires-clause-waits g c =
    let queues = c.args.queues.now in
    subst (λ f. IfSome f (λ q. 1 ≤ slice_index (side_of c.args.writer q).counts c.args.p))
    (placed-row queues.places queues.slots c.args.object c.unwrap-slot.result
    (sym c.slot_from.ensures ∙ c.unwrap-slot.ensures)) c.requires.counted

pub take_out-requires-clause-len : goal.take_out-requires-clause-len
take_out-requires-clause-len g c =
    let queues = c.args.queues.now in
    subst (λ f. IfSome f (λ q. 1 ≤ q.len))
    (placed-row queues.places queues.slots c.args.object c.unwrap-slot.result
    (sym c.slot_from.ensures ∙ c.unwrap-slot.ensures)) c.requires.len

pub returns-clause-numbers : goal.returns-clause-numbers
returns-clause-numbers g c =
    rows-numbered c.args.queues.now c.take_out.new.self c.take_out.ensures.places

pub returns-clause-others : goal.returns-clause-others
returns-clause-others g c = λ x other.
    c.take_out.ensures.others c.args.object x (sym c.slot_from.ensures ∙ c.unwrap-slot.ensures)
    other

pub returns-clause-queue : goal.returns-clause-queue
returns-clause-queue g c = λ old new was is.
    let queues = c.args.queues.now in
    let now = c.take_out.new.self in
    let o = c.args.object in
    let slot = c.unwrap-slot.result in
    let at = sym c.slot_from.ensures ∙ c.unwrap-slot.ensures in
    let before = some_same (chains_in queues.slots slot) old
    (sym (placed-row queues.places queues.slots o slot at) ∙ was) in
    let after = some_same (chains_in now.slots slot) new
    (sym (placed-row now.places now.slots o slot
    (ap (lookup (nat_eq o)) c.take_out.ensures.places ∙ at)) ∙ is) in
    let box = option_map (λ b. b.value) c.take_out.result in
    subst (λ q. IsEmptied c.args.writer c.args.p c.args.before c.args.next q new box) before
    (subst (λ q. IsEmptied c.args.writer c.args.p c.args.before c.args.next
    (chains_in queues.slots slot) q box) after c.take_out.ensures.queue)
