use Rattle.std.proofs.Common.{◌+◌, ◌<◌, ◌^◌, Some, refl, sym, ap, ◌∙◌, subst, arith}
use Rattle.std.specs.Option.{option_map, option_copied_mut, option_to_list}
use Rattle.pt_chains.specs.declared.sides.Queue.{Queue}
use Rattle.pt_chains.specs.Chains.{HasNone, IsAppended}
use Rattle.pt_chains.specs.Boxes.{no_queue, lone_queue, queue_by, IsBoxRule}
use Rattle.pt_chains.proofs.LoneLemmas.{put-first, put-same}
use Rattle.pt_chains.proofs.SeenLemmas.{lone-count, lone-put, lone-waits, seen-lone, unboxed}
use Rattle.pt_chains.proofs.JoinedLemmas.{popped-empty, each-front, one-popped, none-popped}
use Rattle.pt_chains.proofs.JoinedLemmas.{one-more, joined-same, joined-waits, same-count}
use Rattle.std.specs.Prelude.{◌≢◌, IfSome}
use Rattle.pt_chains.proofs.SeenLemmas.{kept-lone}
use Rattle.pt_chains.proofs.boxed.BoxedQueue.put_in.Goals as goal

pub returns-then-is_none-clause-put : goal.returns-then-is_none-clause-put
returns-then-is_none-clause-put g c =
    let own = c.self.inside in
    let k = c.args.writer in
    let p = c.args.p in
    let n = c.args.node in
    let box = option_map (λ b. b.value) c.pop.result in
    subst (λ q. IsAppended k p n c.none.result q
    (queue_by box c.to-self-inside.result c.to-self-inside-then-is_none.result 1 k p))
    (unboxed (λ b. b.value) own.boxed own.head own.tail own.count own.writer own.p c.args.self.now
    c.self.view_is c.self.invariant c.if-is_none.ensures)
    (subst (λ l. IsAppended k p n c.none.result no_queue
    (queue_by box l c.to-self-inside-then-is_none.result 1 k p)) (sym c.to-self-inside.ensures)
    (subst (λ l. IsAppended k p n c.none.result no_queue (queue_by box (Some n) l 1 k p))
    (sym c.to-self-inside-then-is_none.ensures)
    (subst (λ l. IsAppended k p n l no_queue (lone_queue (Some n) (Some n) 1 k p))
    (sym c.none.ensures)
    (put-first k p n c.requires.index))))

pub overflow_add-self : goal.overflow_add-self
overflow_add-self g c =
    let own = c.self.inside in
    let some = c.if-not-is_none.ensures in
    let same = c.if-is_chain.ensures refl in
    let count = lone-count (λ b. b.value) own.boxed own.head own.tail own.count own.writer own.p
    c.args.self.now c.self.view_is c.self.invariant c.args.writer c.args.p some same.0 same.1 in
    let room = c.requires.room in
    omega (arith, count, room)

pub returns-then-is_chain-clause-put : goal.returns-then-is_chain-clause-put
returns-then-is_chain-clause-put g c =
    let own = c.self.inside in
    let some = c.if-not-is_none.ensures in
    let same = c.if-is_chain.ensures refl in
    subst (λ l. IsAppended c.args.writer c.args.p c.args.node own.tail c.args.self.now
    (queue_by (option_map (λ b. b.value) own.boxed) own.head l (own.count + 1) own.writer own.p))
    (sym c.to-self-inside-then-is_chain.ensures)
    (lone-put (λ b. b.value) own.boxed own.head own.tail own.count own.writer own.p
    c.args.self.now c.self.view_is c.self.invariant c.args.writer c.args.p c.args.node some same.0
    same.1)

pub invariant_of-self : goal.invariant_of-self
invariant_of-self g c =
    let node = Some c.args.node in
    let box = option_map (λ b. b.value) c.pop.result in
    let own = c.self.inside in
    let none = unboxed (λ b. b.value) own.boxed own.head own.tail own.count own.writer own.p
    c.args.self.now c.self.view_is c.self.invariant c.if-is_none.ensures in
    let spare = c.requires.spare (ap (λ (q : Queue). q.len) (sym none)) in
    let empty = popped-empty (λ b. b.value) c.pop.new.self.items c.args.spares.now.items
    c.pop.result c.pop.ensures.items (c.pop.ensures.variant.1 spare) c.requires.empty in
    subst (λ h. IsBoxRule box h c.to-self-inside-then-is_none.result 1 c.args.p)
    (sym c.to-self-inside.ensures)
    (subst (λ t. IsBoxRule box node t 1 c.args.p) (sym c.to-self-inside-then-is_none.ensures)
    (c.requires.index, one-more 1 0 refl, refl, empty))

pub returns-then-is_none-clause-empty : goal.returns-then-is_none-clause-empty
returns-then-is_none-clause-empty g c =
    each-front (λ b. HasNone b.value) c.pop.new.self.items (option_to_list c.pop.result)
    c.args.spares.now.items c.pop.ensures.items c.requires.empty

pub returns-then-is_none-clause-len : goal.returns-then-is_none-clause-len
returns-then-is_none-clause-len g c =
    let own = c.self.inside in
    let none = ap (λ (q : Queue). q.len) (sym (unboxed (λ b. b.value) own.boxed own.head own.tail
    own.count own.writer own.p c.args.self.now c.self.view_is c.self.invariant
    c.if-is_none.ensures)) in
    one-popped c.pop.result _ _ c.args.self.now.len
    (c.pop.ensures.variant.1 (c.requires.spare none)) none c.pop.ensures.len

pub returns-then-is_chain-clause-len : goal.returns-then-is_chain-clause-len
returns-then-is_chain-clause-len g c =
    let own = c.self.inside in
    let some = c.if-not-is_none.ensures in
    let waits = lone-waits (λ b. b.value) own.boxed own.head own.tail own.count own.writer own.p
    c.args.self.now c.self.view_is c.self.invariant some in
    let lone = seen-lone (λ b. b.value) own.boxed own.head own.tail own.count own.writer own.p
    c.args.self.now c.self.view_is c.self.invariant some in
    none-popped _ c.args.self.now.len (λ z. waits (sym lone.len ∙ z))

pub put_in-requires-clause-room : goal.put_in-requires-clause-room
put_in-requires-clause-room g c =
    let own = c.self.inside in
    let box = sym c.as_mut.ensures.value ∙ ap option_copied_mut c.unwrap.ensures in
    let was = queue_by (option_map (λ b. b.value) own.boxed) own.head own.tail own.count own.writer
    own.p in
    let same = joined-same (λ b. b.value) c.join.new.boxed c.unwrap.result.now box was
    c.args.self.now c.deref_mut.result.now c.self.view_is c.deref_mut.ensures.value
    c.join.ensures.unchanged in
    subst (λ n. n + 1 < 2 ^ 32)
    (same-count c.args.writer c.args.p c.args.self.now c.deref_mut.result.now c.requires.index same)
    c.requires.room

pub put_in-requires-clause-len : goal.put_in-requires-clause-len
put_in-requires-clause-len g c =
    let own = c.self.inside in
    let box = sym c.as_mut.ensures.value ∙ ap option_copied_mut c.unwrap.ensures in
    let was = queue_by (option_map (λ b. b.value) own.boxed) own.head own.tail own.count own.writer
    own.p in
    let same = joined-same (λ b. b.value) c.join.new.boxed c.unwrap.result.now box was
    c.args.self.now c.deref_mut.result.now c.self.view_is c.deref_mut.ensures.value
    c.join.ensures.unchanged in
    subst (λ n. n + 1 < 2 ^ 64) (sym same.len) c.requires.len

pub returns-clause-put : goal.returns-clause-put
returns-clause-put g c =
    let own = c.self.inside in
    let box = sym c.as_mut.ensures.value ∙ ap option_copied_mut c.unwrap.ensures in
    let was = queue_by (option_map (λ b. b.value) own.boxed) own.head own.tail own.count own.writer
    own.p in
    let same = joined-same (λ b. b.value) c.join.new.boxed c.unwrap.result.now box was
    c.args.self.now c.deref_mut.result.now c.self.view_is c.deref_mut.ensures.value
    c.join.ensures.unchanged in
    subst (λ h. IsAppended c.args.writer c.args.p c.args.node c.put_in.result c.args.self.now
    (queue_by (Some c.put_in.new.self) h own.tail own.count own.writer own.p))
    (sym c.join.ensures.none)
    (put-same c.args.writer c.args.p c.args.node c.args.self.now c.deref_mut.result.now
    c.put_in.new.self c.requires.index same c.put_in.result c.put_in.ensures)

pub invariant_of-self-2 : goal.invariant_of-self-2
invariant_of-self-2 g c =
    let own = c.self.inside in
    subst (λ h. IsBoxRule (Some c.put_in.new.self) h own.tail own.count own.p)
    (sym c.join.ensures.none)
    (one-more c.put_in.new.self.len c.deref_mut.result.now.len c.put_in.ensures.len)

pub returns-clause-len : goal.returns-clause-len
returns-clause-len g c =
    let own = c.self.inside in
    let box = sym c.as_mut.ensures.value ∙ ap option_copied_mut c.unwrap.ensures in
    let was = queue_by (option_map (λ b. b.value) own.boxed) own.head own.tail own.count own.writer
    own.p in
    none-popped _ c.args.self.now.len
    (joined-waits (λ b. b.value) c.join.new.boxed c.unwrap.result.now box was
    c.args.self.now c.deref_mut.result.now c.self.view_is c.deref_mut.ensures.value
    c.join.ensures.unchanged c.join.ensures.some)

pub invariant_of-self-then-is_chain : goal.invariant_of-self-then-is_chain
invariant_of-self-then-is_chain g c =
    let own = c.self.inside in
    let box = option_map (λ b. b.value) own.boxed in
    subst (λ t. IsBoxRule box own.head t (own.count + 1) own.p)
    (sym c.to-self-inside-then-is_chain.ensures)
    (kept-lone (λ b. b.value) own.boxed own.head own.tail own.count own.writer own.p
    c.args.self.now c.self.view_is c.self.invariant (Some c.args.node) (own.count + 1)
    c.if-not-is_none.ensures refl
    (one-more (own.count + 1) own.count refl))

pub returns-clause-empty : goal.returns-clause-empty
returns-clause-empty g c = c.requires.empty

pub put_in-requires-clause-index : goal.put_in-requires-clause-index
put_in-requires-clause-index g c = c.requires.index

pub put_in-requires-clause-empty : goal.put_in-requires-clause-empty
put_in-requires-clause-empty g c = λ z.
    let own = c.self.inside in
    let box = sym c.as_mut.ensures.value ∙ ap option_copied_mut c.unwrap.ensures in
    let some = subst (λ o. IfSome o (λ b. b.value.len ≢ 0)) box c.join.ensures.some in
    absurd (some (ap (λ (q : Queue). q.len) (sym c.deref_mut.ensures.value) ∙ z))
