use Rattle.std.proofs.Common.{◌≡◌, sym, ap, filter, ◌∙◌, arith}
use Rattle.pt_model.specs.Searches.{least}
use Rattle.pt_model.specs.Forced.{is_served_before, can_be_served}
use Rattle.pt_model.specs.Histories.{history}
use Rattle.pt_model.specs.Answers.{open_calls}
use Rattle.pt_model.proofs.Ascending.{from}
use Rattle.pt_readings.proofs.Opens.{open_from_all, open_from_none}
use Rattle.pt_reference.specs.Best.{best_of}
use Rattle.pt_reference.proofs.Ends.{least-less, both}
use Rattle.pt_reference.proofs.forced.first_served.Goals as goal

pub loop-i-init : goal.loop-i-init
loop-i-init c =
    let h = history c.args.entries.now in
    record {
      within = omega arith;
      value = sym (ap
          (λ ws. least (is_served_before h) (filter (can_be_served h) ws))
          (open_from_all c.args.entries.now));
    }

pub loop-i-preserved : goal.loop-i-preserved
loop-i-preserved c =
    let h = history c.args.entries.now in
    let less = least-less h (is_served_before h) (can_be_served h) c.loop-i.i c.loop-i-test.true in
    record {
      within = omega arith;
      value = c.better_served-best.ensures
          ∙ both (best_of (is_served_before h)) c.served_call.ensures c.loop-i.invariant.value
          ∙ sym less;
    }

pub returns : goal.returns
returns c =
    let h = history c.args.entries.now in
    let first : c.loop-i.i ≡ 0 = omega arith in
    c.loop-i.invariant.value
    ∙ ap (λ k. least (is_served_before h) (filter (can_be_served h) (from k (open_calls h)))) first
    ∙ ap (λ ws. least (is_served_before h) (filter (can_be_served h) ws)) (open_from_none h)
