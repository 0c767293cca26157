use Rattle.std.proofs.Common.{subst}
use Rattle.pt_records.specs.AnswerLogs.{AreReadable}
use Rattle.pt_records.proofs.Shortened.{readable-tail}
use Rattle.pt_records.proofs.LogRoom.{there-first, read-first, read-none}
use Rattle.pt_records.proofs.answer_log.LoggedAnswers.next.Goals as goal

pub invariant_of-self : goal.invariant_of-self
invariant_of-self c =
    readable-tail c.self.inside.base c.self.inside.wholes.now c.in_ok-first.first.now
    c.in_ok-first.rest.now
    (subst (λ ss. AreReadable c.self.inside.base c.self.inside.wholes.now ss)
    c.in_ok-first.ensures.cases.0 c.self.invariant)

pub answer_of-requires-clause-base : goal.answer_of-requires-clause-base
answer_of-requires-clause-base c = c.self.invariant.base

pub answer_of-requires-clause-exists : goal.answer_of-requires-clause-exists
answer_of-requires-clause-exists c =
    let i = c.self.inside in
    there-first i.base i.wholes.now i.shorts.now c.in_ok-first.rest.now c.in_ok-first.first.now
    c.in_ok-first.ensures.cases.0 c.self.invariant

pub returns : goal.returns
returns c =
    let i = c.self.inside in
    read-first i.base i.wholes.now i.shorts.now c.in_ok-first.rest.now c.in_ok-first.first.now
    c.answer_of.result c.args.self.now c.self.view_is c.in_ok-first.ensures.cases.0
    c.answer_of.ensures

pub returns-in_err-first : goal.returns-in_err-first
returns-in_err-first c =
    let i = c.self.inside in
    read-none i.base i.wholes.now i.shorts.now c.args.self.now c.from_residual.result
    c.self.view_is c.in_err-first.ensures.cases c.from_residual.ensures
