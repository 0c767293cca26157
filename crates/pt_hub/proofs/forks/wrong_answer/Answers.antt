use Rattle.std.proofs.Common.{◌≡◌, ◌+◌, ◌-◌, ◌<◌, arith, drop, length, sym, subst}
use Rattle.pt_client_events.specs.OwnEvents.{Finds}
use Rattle.pt_hub.specs.AnsweringCores.{hub_core}
use Rattle.pt_hub.specs.Closing.{HasRecordedAnswer, HasWrongAnswer}
use Rattle.pt_hub.proofs.FindLemmas.{FindsAny, any-more, any-none}
use Rattle.pt_hub.proofs.forks.wrong_answer.Goals as goal

pub loop-i-init : goal.loop-i-init
loop-i-init g c =
    record {
      within = omega arith;
      found = any-none (HasWrongAnswer (hub_core c.args.inner.now)) (HasRecordedAnswer
          (hub_core c.args.inner.now))
          c.args.receipts.now (length c.args.receipts.now) (omega arith);
    }

pub loop-i-preserved : goal.loop-i-preserved
loop-i-preserved g c =
    let ks = hub_core c.args.inner.now in
    let xs = c.args.receipts.now in
    let i = c.loop-i.i - 1 in
    let next : i + 1 ≡ c.loop-i.i = omega (arith, c.loop-i-test.true) in
    let lies : i < length xs = omega (arith, c.loop-i-test.true, c.loop-i.invariant.within) in
    record {
      within = omega (arith, c.loop-i.invariant.within);
      found = rw c.min_place-found.ensures
          (any-more (HasWrongAnswer ks) (HasRecordedAnswer ks) xs i c.index-receipts-i.result
          c.wrong_answer_place.result c.loop-i.found lies
          (subst (λ r. Finds (HasWrongAnswer ks r)
          (HasRecordedAnswer ks r) c.wrong_answer_place.result)
          c.index-receipts-i.is c.wrong_answer_place.ensures)
          (subst (λ k. FindsAny (HasWrongAnswer ks) (HasRecordedAnswer ks)
          (drop k xs) c.loop-i.found)
          (sym next) c.loop-i.invariant.found));
    }

pub returns : goal.returns
returns g c =
    let ks = hub_core c.args.inner.now in
    let xs = c.args.receipts.now in
    let none : c.loop-i.i ≡ 0 = omega (arith, c.loop-i-test.false) in
    subst (λ k. FindsAny (HasWrongAnswer ks) (HasRecordedAnswer ks) (drop k xs) c.loop-i.found) none
    c.loop-i.invariant.found
