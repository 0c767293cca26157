use Rattle.std.proofs.Common.{◌≡◌, ◌+◌, ◌-◌, ◌/◌, ◌<◌, ◌≤◌, [], suc, subst, refl, arith, length}
use Rattle.std.proofs.Common.{take, drop}
use Rattle.std.proofs.Math.ListN.{drop_of_length-le}
use Rattle.pt_records.specs.AnswerLogs.{no_answer}
use Rattle.pt_records.proofs.LogParts.{AllSince, NoneSince, none-log_since, all-log_since, log_since-between}
use Rattle.pt_records.proofs.answers.halved_since.Goals as goal

pub loop-low-init : goal.loop-low-init
loop-low-init g c =
    let xs = c.args.answers.now.items in
    let past : drop (length xs) xs ≡ [] = drop_of_length-le xs (omega arith) in
    record {
      order = omega arith;
      within = omega (arith, c.len-high.ensures);
      none = refl;
      all = rw (c.len-high.ensures, past) refl;
    }

pub loop-low-preserved-then-given_at-place : goal.loop-low-preserved-then-given_at-place
loop-low-preserved-then-given_at-place g c =
    let xs = c.args.answers.now.items in
    let i = c.loop-low.low + (c.loop-low.high - c.loop-low.low) / 2 in
    let same : suc i ≡ i + 1 = omega arith in
    record {
      order = omega (arith, c.loop-low-test.true);
      within = c.loop-low.invariant.within;
      none = subst (λ k. NoneSince c.args.place (take k xs)) same
          (none-log_since c.args.place i xs no_answer c.requires
          (omega (arith, c.loop-low-test.true, c.loop-low.invariant.within))
          (subst (λ k. k < c.args.place) c.given_at.ensures
          c.if-given_at-place.true));
      all = c.loop-low.invariant.all;
    }

pub loop-low-preserved : goal.loop-low-preserved
loop-low-preserved g c =
    let xs = c.args.answers.now.items in
    let i = c.loop-low.low + (c.loop-low.high - c.loop-low.low) / 2 in
    record {
      order = omega arith;
      within = omega (arith, c.loop-low-test.true, c.loop-low.invariant.within);
      none = c.loop-low.invariant.none;
      all = all-log_since c.args.place i xs no_answer c.requires
          (omega (arith, c.loop-low-test.true, c.loop-low.invariant.within))
          (subst (λ k. c.args.place ≤ k) c.given_at.ensures
          c.if-given_at-place.false);
    }

pub returns-clause-rest : goal.returns-clause-rest
returns-clause-rest g c =
    let xs = c.args.answers.now.items in
    let same : c.loop-low.high ≡ c.loop-low.low
    = omega (arith, c.loop-low-test.false, c.loop-low.invariant.order) in
    log_since-between c.args.place c.loop-low.low xs c.loop-low.invariant.none
    (subst (λ k. AllSince c.args.place (drop k xs)) same c.loop-low.invariant.all)
