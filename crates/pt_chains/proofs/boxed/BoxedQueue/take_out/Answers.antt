use Rattle.std.proofs.Common.{None, Some, ◌-◌, ◌≤◌, cond, refl, sym, ap, ◌∙◌, subst, is_some}
use Rattle.std.specs.Option.{option_map, option_copied_mut}
use Rattle.pt_chains.specs.Boxes.{no_queue, queue_by, IsBoxRule, IsEmptied}
use Rattle.pt_chains.proofs.JoinedLemmas.{joined-same, same-count, emptied-joined, lessened-joined}
use Rattle.pt_chains.proofs.JoinedLemmas.{some-by}
use Rattle.pt_chains.proofs.SeenLemmas.{lone-emptied, lone-less}
use Rattle.pt_chains.proofs.SeenLemmas.{kept-less, lone-waits, one-least}
use Rattle.pt_chains.proofs.boxed.BoxedQueue.take_out.Goals as goal

pub returns-then-is_last : goal.returns-then-is_last
returns-then-is_last g c =
    let own = c.self.inside in
    let last = c.if-is_last.ensures refl in
    let emptied = lone-emptied (λ b. b.value) own.boxed own.head own.tail own.count own.writer own.p
    c.args.self.now c.self.view_is c.self.invariant c.args.writer c.args.p c.args.before c.args.next
    c.requires.index c.if-not-is_none.ensures last.0 last.1 last.2
    c.requires.counted in
    let new = ap (λ b. queue_by (option_map (λ x. x.value) b) None own.tail own.count own.writer
    own.p) (sym c.take.ensures.after)
    ∙ ap (λ l. queue_by (option_map (λ x. x.value) c.take.new.self) l own.tail own.count own.writer
    own.p) (sym c.none-self-inside.ensures) in
    subst (λ q. IsEmptied c.args.writer c.args.p c.args.before c.args.next c.args.self.now q
    (option_map (λ b. b.value) c.take.result)) new
    (subst (λ b. IsEmptied c.args.writer c.args.p c.args.before c.args.next c.args.self.now no_queue
    (option_map (λ x. x.value) b)) (sym c.take.ensures.value) emptied)

pub returns-then-is_of_more : goal.returns-then-is_of_more
returns-then-is_of_more g c =
    let own = c.self.inside in
    let more = c.if-is_of_more.ensures refl in
    let box = option_map (λ b. b.value) own.boxed in
    let head = c.unless_after-self-inside.ensures in
    let tail = c.unless_after-self-inside-then-is_of_more.ensures in
    subst (λ l. IsEmptied c.args.writer c.args.p c.args.before c.args.next c.args.self.now
    (queue_by box c.unless_after-self-inside.result l (own.count - 1) own.writer own.p) None)
    (sym tail)
    (subst (λ l. IsEmptied c.args.writer c.args.p c.args.before c.args.next c.args.self.now
    (queue_by box l (cond (is_some c.args.next) own.tail c.args.before) (own.count - 1) own.writer
    own.p) None) (sym head)
    (lone-less (λ b. b.value) own.boxed own.head own.tail own.count own.writer own.p
    c.args.self.now c.self.view_is c.self.invariant c.args.writer c.args.p c.args.before c.args.next
    c.requires.index c.if-not-is_none.ensures more.0 more.1 c.requires.counted))

pub take_out-requires-clause-counted : goal.take_out-requires-clause-counted
take_out-requires-clause-counted g c =
    let own = c.self.inside in
    let box = sym c.as_mut.ensures.value ∙ ap option_copied_mut c.unwrap-queue.ensures in
    let was = queue_by (option_map (λ b. b.value) own.boxed) own.head own.tail own.count own.writer
    own.p in
    let same = joined-same (λ b. b.value) c.join.new.boxed c.unwrap-queue.result.now box was
    c.args.self.now c.deref_mut.result.now c.self.view_is c.deref_mut.ensures.value
    c.join.ensures.unchanged in
    subst (λ n. 1 ≤ n)
    (same-count c.args.writer c.args.p c.args.self.now c.deref_mut.result.now c.requires.index same)
    c.requires.counted

pub returns-then-take_out : goal.returns-then-take_out
returns-then-take_out g c =
    let own = c.self.inside in
    let box = sym c.as_mut.ensures.value ∙ ap option_copied_mut c.unwrap-queue.ensures in
    let was = queue_by (option_map (λ b. b.value) own.boxed) own.head own.tail own.count own.writer
    own.p in
    let same = joined-same (λ b. b.value) c.join.new.boxed c.unwrap-queue.result.now box was
    c.args.self.now c.deref_mut.result.now c.self.view_is c.deref_mut.ensures.value
    c.join.ensures.unchanged in
    let left = c.take-then-take_out in
    let new = ap (λ b. queue_by (option_map (λ x. x.value) b) None own.tail own.count own.writer
    own.p) (sym left.ensures.after)
    ∙ ap (λ l. queue_by (option_map (λ x. x.value) left.new.self) l own.tail own.count own.writer
    own.p) (sym c.join.ensures.none) in
    subst (λ q. IsEmptied c.args.writer c.args.p c.args.before c.args.next c.args.self.now q
    (option_map (λ b. b.value) left.result)) new
    (subst (λ b. IsEmptied c.args.writer c.args.p c.args.before c.args.next c.args.self.now no_queue
    (option_map (λ x. x.value) b)) (sym left.ensures.value)
    (emptied-joined c.args.writer c.args.p c.args.self.now c.deref_mut.result.now c.requires.index
    same c.args.before c.args.next c.take_out.new.self c.take_out.ensures.taken
    c.if-take_out.ensures.last))

pub returns-else-take_out : goal.returns-else-take_out
returns-else-take_out g c =
    let own = c.self.inside in
    let box = sym c.as_mut.ensures.value ∙ ap option_copied_mut c.unwrap-queue.ensures in
    let was = queue_by (option_map (λ b. b.value) own.boxed) own.head own.tail own.count own.writer
    own.p in
    let same = joined-same (λ b. b.value) c.join.new.boxed c.unwrap-queue.result.now box was
    c.args.self.now c.deref_mut.result.now c.self.view_is c.deref_mut.ensures.value
    c.join.ensures.unchanged in
    subst (λ h. IsEmptied c.args.writer c.args.p c.args.before c.args.next c.args.self.now
    (queue_by (Some c.take_out.new.self) h own.tail own.count own.writer own.p) None)
    (sym c.join.ensures.none)
    (lessened-joined c.args.writer c.args.p c.args.self.now c.deref_mut.result.now c.requires.index
    same c.args.before c.args.next c.take_out.new.self c.take_out.ensures.taken
    c.if-take_out.ensures.last)

pub invariant_of-self-then-take_out : goal.invariant_of-self-then-take_out
invariant_of-self-then-take_out g c =
    let own = c.self.inside in
    subst (λ h. IsBoxRule (option_map (λ x. x.value) c.take-then-take_out.new.self) h own.tail
    own.count own.p) (sym c.join.ensures.none)
    (subst (λ b. IsBoxRule (option_map (λ x. x.value) b) None own.tail own.count own.p)
    (sym c.take-then-take_out.ensures.after) tt)

pub invariant_of-self-else-take_out : goal.invariant_of-self-else-take_out
invariant_of-self-else-take_out g c =
    let own = c.self.inside in
    subst (λ h. IsBoxRule (Some c.take_out.new.self) h own.tail own.count own.p)
    (sym c.join.ensures.none) (some-by c.take_out.new.self.len c.if-take_out.ensures.last)

pub take_out-requires-clause-len : goal.take_out-requires-clause-len
take_out-requires-clause-len g c =
    let own = c.self.inside in
    let box = sym c.as_mut.ensures.value ∙ ap option_copied_mut c.unwrap-queue.ensures in
    let was = queue_by (option_map (λ b. b.value) own.boxed) own.head own.tail own.count own.writer
    own.p in
    let same = joined-same (λ b. b.value) c.join.new.boxed c.unwrap-queue.result.now box was
    c.args.self.now c.deref_mut.result.now c.self.view_is c.deref_mut.ensures.value
    c.join.ensures.unchanged in
    subst (λ n. 1 ≤ n) (sym same.len) c.requires.len

pub overflow_sub-self : goal.overflow_sub-self
overflow_sub-self g c =
    let own = c.self.inside in
    one-least own.count (lone-waits (λ b. b.value) own.boxed own.head own.tail own.count own.writer
    own.p
    c.args.self.now c.self.view_is c.self.invariant c.if-not-is_none.ensures)

pub invariant_of-self : goal.invariant_of-self
invariant_of-self g c =
    let own = c.self.inside in
    subst (λ h. IsBoxRule (option_map (λ x. x.value) c.take.new.self) h own.tail own.count own.p)
    (sym c.none-self-inside.ensures)
    (subst (λ b. IsBoxRule (option_map (λ x. x.value) b) None own.tail own.count own.p)
    (sym c.take.ensures.after) tt)

pub invariant_of-self-then-is_of_more : goal.invariant_of-self-then-is_of_more
invariant_of-self-then-is_of_more g c =
    let own = c.self.inside in
    let more = c.if-is_of_more.ensures refl in
    let box = option_map (λ b. b.value) own.boxed in
    subst (λ t. IsBoxRule box c.unless_after-self-inside.result t (own.count - 1) own.p)
    (sym c.unless_after-self-inside-then-is_of_more.ensures)
    (subst (λ h. IsBoxRule box h (cond (is_some c.args.next) own.tail c.args.before) (own.count - 1)
    own.p) (sym c.unless_after-self-inside.ensures)
    (kept-less (λ b. b.value) own.boxed own.head own.tail own.count own.writer own.p
    c.args.self.now c.self.view_is c.self.invariant c.args.writer c.args.p c.args.before
    c.args.next c.requires.index
    c.if-not-is_none.ensures more.0 more.1 c.requires.counted))
