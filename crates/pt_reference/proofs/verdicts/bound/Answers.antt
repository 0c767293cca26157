use Rattle.std.proofs.Common.{◌≡◌, ◌-◌, sym, ap, filter, ◌∙◌, arith}
use Rattle.std.specs.Prelude.{◌==◌}
use Rattle.pt_model.specs.Moves.{wait_object}
use Rattle.pt_model.specs.Verdicts.{bound_mutex}
use Rattle.pt_model.specs.Histories.{history}
use Rattle.pt_model.specs.Answers.{open_calls}
use Rattle.pt_model.proofs.Ascending.{from}
use Rattle.pt_readings.proofs.Opens.{open_from_all, open_from_none}
use Rattle.pt_reference.specs.Best.{awaited_or}
use Rattle.pt_model.specs.Found.{option_filter}
use Rattle.pt_model.specs.WaitingCall.{call_at_place}
use Rattle.pt_reference.proofs.Ends.{bound-less}
use Rattle.pt_reference.proofs.verdicts.bound.Goals as goal

pub loop-i-init : goal.loop-i-init
loop-i-init c =
    let h = history c.args.entries.now in
    record {
      within = omega arith;
      value = sym (ap
          (λ ws. bound_mutex (filter (λ w. wait_object h w == c.args.q) ws))
          (open_from_all c.args.entries.now));
    }

pub loop-i-preserved : goal.loop-i-preserved
loop-i-preserved c =
    let h = history c.args.entries.now in
    let less = bound-less h (λ w. wait_object h w == c.args.q) c.loop-i.i c.loop-i-test.true in
    record {
      within = omega arith;
      value = c.awaited_at-found.ensures
          ∙ ap
          (awaited_or
          (option_filter (λ w. wait_object h w == c.args.q) (call_at_place (c.loop-i.i - 1)
          (open_calls h))))
          c.loop-i.invariant.value
          ∙ sym less;
    }

pub returns : goal.returns
returns c =
    let h = history c.args.entries.now in
    let first : c.loop-i.i ≡ 0 = omega arith in
    c.loop-i.invariant.value
    ∙ ap (λ k. bound_mutex (filter (λ w. wait_object h w == c.args.q) (from k
    (open_calls h)))) first
    ∙ ap (λ ws. bound_mutex (filter (λ w. wait_object h w == c.args.q) ws)) (open_from_none h)
