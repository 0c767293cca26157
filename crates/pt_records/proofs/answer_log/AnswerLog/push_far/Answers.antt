use Rattle.std.proofs.Common.{◌≡◌, ◌++◌, ◌∷◌, [], ap, ◌∙◌, subst, sym}
use Rattle.pt_records.specs.AnswerLogs.{AreReadable, answers_of_shorts}
use Rattle.pt_records.proofs.Shortened.{answer_of_short-push, readable-push}
use Rattle.pt_records.proofs.LogRoom.{room-left, room-less, room-after, shorts-left, wholes-left}
use Rattle.pt_records.proofs.answer_log.AnswerLog.push_far.Goals as goal

pub returns-clause-items : goal.returns-clause-items
returns-clause-items g c =
    let i = c.self.inside in
    let ws = i.wholes.items in
    let vs = c.shortened-short.new.wholes.items in
    let shorts = i.shorts.items in
    let b = c.base_with-self-inside.result in
    let one = c.shortened-short.ensures in
    let same : answers_of_shorts b ws shorts ≡ answers_of_shorts i.base ws shorts =
    subst (λ ss. answers_of_shorts b ws ss
    ≡ answers_of_shorts i.base ws ss) c.as_slice.ensures.value
    (c.base_with-self-inside.ensures.unchanged ws) in
    let readable : AreReadable b ws shorts = record {
      base = c.base_with-self-inside.ensures.base;
      there = c.self.invariant.0.there;
    } in
    ap (λ ss. answers_of_shorts b vs ss) c.push_reserved.ensures.items
    ∙ (answer_of_short-push b ws vs one.more shorts c.shortened-short.result c.args.answer one.grown
    readable one.same
    ∙ ap (λ xs. xs ++ c.args.answer ∷ []) (same ∙ ap (λ s. s.items) c.self.view_is))

pub shortened-short-requires-clause-room : goal.shortened-short-requires-clause-room
shortened-short-requires-clause-room g c =
    let i = c.self.inside in
    wholes-left i.base i.room i.wholes i.shorts c.args.self.now c.self.view_is c.requires
    c.self.invariant.1

pub push_reserved-requires : goal.push_reserved-requires
push_reserved-requires g c =
    let i = c.self.inside in
    shorts-left i.base i.room i.wholes i.shorts c.args.self.now c.self.view_is c.requires
    c.self.invariant.1

pub overflow_sub-self : goal.overflow_sub-self
overflow_sub-self g c =
    let i = c.self.inside in
    room-left i.base i.room i.wholes i.shorts c.args.self.now c.self.view_is c.requires

pub invariant_of-self : goal.invariant_of-self
invariant_of-self g c =
    let i = c.self.inside in
    let b = c.base_with-self-inside.result in
    let one = c.shortened-short.ensures in
    let vs = c.shortened-short.new.wholes in (
      subst (λ ss. AreReadable b vs.items ss) (sym c.push_reserved.ensures.items)
          (readable-push b i.wholes.items vs.items one.more i.shorts.items
          c.shortened-short.result one.grown
          (record {
            base = c.base_with-self-inside.ensures.base;
            there = c.self.invariant.0.there;
          })
          one.there),
      room-less i.shorts c.push_reserved.new.self i.wholes vs i.room c.self.invariant.1
          (room-left i.base i.room i.wholes i.shorts c.args.self.now c.self.view_is c.requires)
          c.push_reserved.ensures.len c.push_reserved.ensures.capacity one.len one.capacity,
    )

pub returns-clause-capacity : goal.returns-clause-capacity
returns-clause-capacity g c =
    let i = c.self.inside in
    room-after i.base i.room i.wholes i.shorts c.args.self.now c.self.view_is
    c.push_reserved.new.self c.push_reserved.ensures.len
    (room-left i.base i.room i.wholes i.shorts c.args.self.now c.self.view_is c.requires)
