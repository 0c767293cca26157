use Rattle.std.proofs.Common.{length, vec_len, vec_capacity, sym, refl, ap, ◌∙◌, subst}
use Rattle.pt_waitq.specs.Waits.{is_admitted, has_queue, queue_in}
use Rattle.pt_chains.specs.Chains.{numbers, queued_waiters, HasNone}
use Rattle.pt_chains.specs.Boxes.{busy_queue_count}
use Rattle.pt_waitq.proofs.ChangeLemmas.{queue-change}
use Rattle.pt_chains.proofs.ChainLemmas.{not-listed}
use Rattle.pt_chains.proofs.InsertLemmas.{length-numbers}
use Rattle.pt_chains.proofs.BoxLemmas.{none-without, length-made, boxes-grown}
use Rattle.pt_chains.proofs.MadeLemmas.{made-absent, made-stand, chains-made}
use Rattle.pt_chains.proofs.GrowthLemmas.{boxes-same, spares-few, few-objects, enough-objects}
use Rattle.std.proofs.Common.{◌==◌, ◌||◌, ◌++◌, ◌∷◌, [], cond}
use Rattle.pt_waitq.specs.Waits.{is_listed}
use Rattle.pt_waitq.proofs.ChangeLemmas.{listed-more}
use Rattle.pt_chains.proofs.GrowthLemmas.{on-ok, on-err, ok-not, err-not}
use Rattle.pt_chains.proofs.chains.ChainsWaitList.make.Goals.{then-make, else-make}
use Rattle.pt_chains.proofs.chains.ChainsWaitList.make.Goals as goal

pub make-requires : goal.make-requires
make-requires g c =
    not-listed c.self.inside.queues c.object.inside.0
    (ap (λ w. has_queue w c.object.inside.0) c.self.view_is
    ∙ (ap (has_queue c.args.self.now) c.object.view_is ∙ c.requires))

pub invariant_of-self-2 : goal.invariant_of-self-2
invariant_of-self-2 g c =
    let homes = c.self.inside.homes.map.entries in
    let queues = c.self.inside.queues in
    let o = c.object.inside.0 in
    let none = not-listed queues o (ap (λ w. has_queue w o) c.self.view_is
    ∙ (ap (has_queue c.args.self.now) c.object.view_is ∙ c.requires)) in
    let is_queue = c.make.ensures in
    let grown = c.in-Ok.ensures in
    let longer = length-made c.make.result (numbers queues) _ o is_queue.numbers in
    let enough = enough-objects (length homes) (length (numbers queues))
    (length (numbers c.make.new.queues)) c.in-Ok.boxes c.len.result c.len-2.result
    c.min-wanted.result grown.covers c.len.ensures.len
    (c.len-2.ensures.len ∙ sym (length-numbers queues)) c.min-wanted.ensures longer in (
      chains-made _ _ queues _ _ o c.make.result c.self.invariant.0
          (made-absent _ _ queues _ o c.self.invariant.0 none) is_queue.numbers is_queue.others
          (λ q h. subst HasNone (sym (is_queue.queue q h)) none-without),
      boxes-grown (length homes) _ (length (numbers queues)) _ _ _ _ _ _ c.self.inside.boxes
          c.self.invariant.1 c.in-Ok.boxes enough grown.len grown.room,
      c.grow.ensures.empty,
    )

pub returns-clause-queues : goal.returns-clause-queues
returns-clause-queues g c = λ q.
    let es = queued_waiters c.self.inside.log.items in
    let queues = c.self.inside.queues in
    let o = c.object.inside.0 in
    let none = not-listed queues o (ap (λ w. has_queue w o) c.self.view_is
    ∙ (ap (has_queue c.args.self.now) c.object.view_is ∙ c.requires)) in
    let is_queue = c.make.ensures in
    let now = made-stand _ _ queues _ es o c.make.result c.self.invariant.0
    (made-absent _ _ queues es o c.self.invariant.0 none) is_queue.numbers is_queue.others
    (λ r h. subst HasNone (sym (is_queue.queue r h)) none-without) in
    queue-change _ _ _ es es _ c.self.view_is c.self.invariant.0.queued now (λ ws. ws) q refl

pub returns-clause-admitted : goal.returns-clause-admitted
returns-clause-admitted g c = λ d. ap (λ w. is_admitted w d) c.self.view_is

pub invariant_of-self : goal.invariant_of-self
invariant_of-self g c =
    let homes = c.self.inside.homes.map.entries in
    let old = c.self.inside.spares in
    let new = c.grow.new.spares in (
      c.self.invariant.0,
      boxes-same (length homes) (length homes) (length (numbers c.self.inside.queues))
          (queued_waiters c.self.inside.log.items) (vec_len old) (vec_len new)
          (vec_capacity old) (vec_capacity new) c.self.inside.boxes refl
          c.in_default.ensures.unchanged c.grow.ensures.capacity c.self.invariant.1,
      c.grow.ensures.empty,
    )

pub returns-in_default-clause-unchanged : goal.returns-in_default-clause-unchanged
returns-in_default-clause-unchanged g c = λ q. ap (λ w. has_queue w q) c.self.view_is

pub returns-in_default-clause-queues : goal.returns-in_default-clause-queues
returns-in_default-clause-queues g c = λ q. ap (λ w. queue_in w q) c.self.view_is

pub returns-in_default-clause-admitted : goal.returns-in_default-clause-admitted
returns-in_default-clause-admitted g c = λ d. ap (λ w. is_admitted w d) c.self.view_is

pub grow-requires-clause-wanted : goal.grow-requires-clause-wanted
grow-requires-clause-wanted g c =
    let queues = c.self.inside.queues in
    few-objects (length c.self.inside.homes.map.entries) (length (numbers queues))
    c.self.inside.boxes c.len.result c.len-2.result c.min-wanted.result
    c.self.invariant.1.enough c.len.ensures.len
    (c.len-2.ensures.len ∙ sym (length-numbers queues)) c.min-wanted.ensures

pub grow-requires-clause-room : goal.grow-requires-clause-room
grow-requires-clause-room g c = c.self.invariant.1.fit

pub grow-requires-clause-len : goal.grow-requires-clause-len
grow-requires-clause-len g c =
    spares-few c.self.inside.boxes (busy_queue_count (queued_waiters c.self.inside.log.items))
    (vec_len c.self.inside.spares) c.self.invariant.1.count

pub grow-requires-clause-empty : goal.grow-requires-clause-empty
grow-requires-clause-empty g c = c.self.invariant.2

pub returns-clause-ok : goal.returns-clause-ok
returns-clause-ok g c =
    let old = numbers c.self.inside.queues in
    let o = c.object.inside.0 in
    elim c.if-make.branch [
      | then-make w ↦ on-ok c.if-make.result _ (λ q.
          ap (is_listed q) (c.make.ensures.numbers
          ∙ ap (λ b. cond b (old ++ o ∷ []) old) w.if-make.true)
          ∙ (listed-more o q old
          ∙ (ap (λ x. (x == q) || is_listed q old) c.object.view_is
          ∙ ap (λ v. (c.args.object == q) || has_queue v q) c.self.view_is)))
      | else-make w ↦ ok-not c.if-make.result _ _ w.result-is
    ]

pub returns-clause-unchanged : goal.returns-clause-unchanged
returns-clause-unchanged g c =
    let old = numbers c.self.inside.queues in
    let o = c.object.inside.0 in
    elim c.if-make.branch [
      | then-make w ↦ err-not c.if-make.result _ _ w.result-is
      | else-make w ↦ on-err c.if-make.result _ (λ q.
          ap (is_listed q) (c.make.ensures.numbers
          ∙ ap (λ b. cond b (old ++ o ∷ []) old) w.if-make.false)
          ∙ ap (λ v. has_queue v q) c.self.view_is)
    ]
