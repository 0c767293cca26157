use Rattle.std.proofs.Common.{ap}
use Rattle.pt_records.proofs.Shortened.{slice-from}
use Rattle.pt_records.proofs.LogRoom.{readable-from, start-within}
use Rattle.pt_records.proofs.answer_log.AnswerLog.from.Goals as goal

pub returns : goal.returns
returns g c =
    let i = c.self.inside in
    slice-from i.base i.wholes.items c.as_slice.result.now i.shorts.items c.deref.result.now
    c.args.self.now.items c.args.i c.as_slice.ensures.value c.deref.ensures.value
    (ap (λ s. s.items) c.self.view_is)

pub slice_bounds-result-count : goal.slice_bounds-result-count
slice_bounds-result-count g c =
    let i = c.self.inside in
    start-within i.base i.room i.wholes i.shorts c.args.self.now c.self.view_is c.args.i
    c.deref.result.now c.requires c.deref.ensures.len

pub slice_bounds-result-start : goal.slice_bounds-result-start
slice_bounds-result-start g c =
    let i = c.self.inside in
    start-within i.base i.room i.wholes i.shorts c.args.self.now c.self.view_is c.args.i
    c.deref.result.now c.requires c.deref.ensures.len

pub invariant_of-result : goal.invariant_of-result
invariant_of-result g c =
    let i = c.self.inside in
    readable-from i.base i.wholes.items c.as_slice.result.now i.shorts.items c.deref.result.now
    c.args.i c.as_slice.ensures.value c.deref.ensures.value c.self.invariant.0
