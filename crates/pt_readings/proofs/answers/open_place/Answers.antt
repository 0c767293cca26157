use Rattle.std.proofs.Common.{◌≡◌, sym, ap, ◌∙◌, arith}
use Rattle.pt_model.specs.Histories.{history}
use Rattle.pt_model.specs.Answers.{open_calls, place_of_client}
use Rattle.pt_model.proofs.Ascending.{from}
use Rattle.pt_readings.proofs.Opens.{open_from_all, open_from_none, place_of_client-less}
use Rattle.pt_readings.proofs.answers.open_place.Goals as goal

pub loop-i-init : goal.loop-i-init
loop-i-init c = record {
  within = omega arith;
  value = sym (ap (λ ws. place_of_client ws c.args.c) (open_from_all c.args.entries.now));
}

pub loop-i-preserved : goal.loop-i-preserved
loop-i-preserved c =
    let less =
    place_of_client-less (history c.args.entries.now) c.loop-i.i c.args.c c.loop-i-test.true
    in
    record {
      within = omega arith;
      value = cc;
    }

pub returns : goal.returns
returns c =
    let h = history c.args.entries.now in
    let first : c.loop-i.i ≡ 0 = omega arith in
    c.loop-i.invariant.value ∙ ap (λ k. place_of_client (from k (open_calls h)) c.args.c) first
    ∙ ap (λ ws. place_of_client ws c.args.c) (open_from_none h)
