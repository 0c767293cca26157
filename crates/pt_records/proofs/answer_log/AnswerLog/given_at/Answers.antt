use Rattle.pt_records.proofs.LogRoom.{index-within, place-at, there-at}
use Rattle.pt_records.proofs.answer_log.AnswerLog.given_at.Goals as goal

pub index-requires : goal.index-requires
index-requires g c =
    let i = c.self.inside in
    index-within i.base i.room i.wholes i.shorts c.args.self.now c.self.view_is c.args.i c.requires

pub answer_of-requires-clause-exists : goal.answer_of-requires-clause-exists
answer_of-requires-clause-exists g c =
    let i = c.self.inside in
    there-at i.base i.wholes.items c.as_slice.result.now i.shorts c.index.result.now c.args.i
    c.as_slice.ensures.value c.index.ensures
    (index-within i.base i.room i.wholes i.shorts c.args.self.now c.self.view_is c.args.i
    c.requires)
    c.self.invariant.0

pub returns : goal.returns
returns g c =
    let i = c.self.inside in
    place-at i.base i.room i.wholes i.shorts c.args.self.now c.self.view_is c.as_slice.result.now
    c.index.result.now c.answer_of.result c.args.i c.as_slice.ensures.value c.index.ensures
    c.requires c.answer_of.ensures
