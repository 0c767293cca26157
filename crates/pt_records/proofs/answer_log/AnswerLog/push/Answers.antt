use Rattle.std.proofs.Common.{refl, sym, subst}
use Rattle.pt_records.specs.AnswerLogs.{AreReadable}
use Rattle.pt_records.proofs.Shortened.{readable_alone}
use Rattle.pt_records.proofs.LogRoom.{one-more, room-left, room-less, room-after, shorts-left}
use Rattle.pt_records.proofs.LogRoom.{seen-push}
use Rattle.pt_records.proofs.answer_log.AnswerLog.push.Goals as goal

pub invariant_of-self : goal.invariant_of-self
invariant_of-self g c =
    let i = c.self.inside in (
      subst (λ ss. AreReadable i.base i.wholes.items ss) (sym c.push_reserved.ensures.items)
          (readable_alone i.base i.wholes.items i.shorts.items _ c.args.answer
          c.self.invariant.0 c.in-Some.ensures),
      room-less i.shorts c.push_reserved.new.self i.wholes i.wholes i.room c.self.invariant.1
          (room-left i.base i.room i.wholes i.shorts c.args.self.now c.self.view_is c.requires)
          c.push_reserved.ensures.len c.push_reserved.ensures.capacity
          (one-more i.wholes.len) refl,
    )

pub push_reserved-requires : goal.push_reserved-requires
push_reserved-requires g c =
    let i = c.self.inside in
    shorts-left i.base i.room i.wholes i.shorts c.args.self.now c.self.view_is c.requires
    c.self.invariant.1

pub overflow_sub-self : goal.overflow_sub-self
overflow_sub-self g c =
    let i = c.self.inside in
    room-left i.base i.room i.wholes i.shorts c.args.self.now c.self.view_is c.requires

pub returns-clause-capacity : goal.returns-clause-capacity
returns-clause-capacity g c =
    let i = c.self.inside in
    room-after i.base i.room i.wholes i.shorts c.args.self.now c.self.view_is
    c.push_reserved.new.self c.push_reserved.ensures.len
    (room-left i.base i.room i.wholes i.shorts c.args.self.now c.self.view_is c.requires)

pub returns-clause-items : goal.returns-clause-items
returns-clause-items g c =
    let i = c.self.inside in
    seen-push i.base i.room i.wholes i.shorts c.args.self.now c.self.view_is
    c.push_reserved.new.self.items c.in-Some.short c.args.answer c.push_reserved.ensures.items
    c.self.invariant.0 c.in-Some.ensures
