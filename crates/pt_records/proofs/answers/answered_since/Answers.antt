use Rattle.std.proofs.Common.{◌-◌, ◌<◌, ◌≤◌, arith, subst}
use Rattle.pt_records.specs.AnswerLogs.{no_answer}
use Rattle.pt_records.proofs.LogParts.{log_since-found, all-log_since, log_since-end, end-within}
use Rattle.pt_records.proofs.answers.answered_since.Goals as goal

pub returns-then-given_at-place-clause-rest : goal.returns-then-given_at-place-clause-rest
returns-then-given_at-place-clause-rest g c =
    log_since-found c.args.place c.loop-i.i c.args.answers.now.items no_answer c.requires
    c.loop-i-test.true c.loop-i.invariant.within
    (subst (λ k. k < c.args.place) c.given_at.ensures
    c.if-given_at-place.true)
    c.loop-i.invariant.rest

pub loop-i-preserved : goal.loop-i-preserved
loop-i-preserved g c =
    let xs = c.args.answers.now.items in
    record {
      within = omega (arith, c.loop-i.invariant.within);
      rest = all-log_since c.args.place (c.loop-i.i - 1) xs no_answer c.requires
          (omega (arith, c.loop-i-test.true, c.loop-i.invariant.within))
          (subst (λ k. c.args.place ≤ k) c.given_at.ensures
          c.if-given_at-place.false);
    }

pub loop-i-init : goal.loop-i-init
loop-i-init g c =
    let xs = c.args.answers.now.items in
    record {
      within = end-within c.len-i.result xs c.len-i.ensures;
      rest = log_since-end c.args.place c.len-i.result xs c.len-i.ensures;
    }
