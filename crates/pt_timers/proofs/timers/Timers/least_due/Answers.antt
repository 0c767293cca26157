use Rattle.std.proofs.Common.{subst, sym, ◌∙◌, Option, Some}
use Rattle.pt_types.specs.declared.time.Clock.TheVariants.{Real, Mono}
use Rattle.pt_timers.specs.declared.key.TimerKey.{TimerKey}
use Rattle.pt_timers.specs.Deadlines.{moments, IsFirstDue, IsLeastDue}
use Rattle.pt_timers.proofs.DueLemmas.{real-alone, sooner-due}
use Rattle.pt_timers.proofs.timers.Timers.least_due.Goals as goal
use Rattle.pt_timers.proofs.timers.Timers.least_due.Goals.{in-Some, in-None+in_ok-due-in-None}

-- the sooner of the two that are due, or the one that is due by the real clock
pub returns : goal.returns
returns g c =
    let w = c.args.self.now in
    elim c.match-first_due.branch [
      | in-Some r ↦
          subst
          (λ (key : TimerKey). IsLeastDue w (moments c.args.real c.args.mono) (Some key.place))
          (sym (r.due-is ∙ r.sooner-due.ensures))
          (sooner-due w c.args.real c.args.mono c.first_due-by_real.result r.in-Some.key
          c.first_due-by_real.ensures
          (subst (λ (found : Option TimerKey). IsFirstDue w Mono c.args.mono found) r.in-Some.is
          c.first_due.ensures))
      | in-None+in_ok-due-in-None r ↦
          subst
          (λ (key : TimerKey). IsLeastDue w (moments c.args.real c.args.mono) (Some key.place))
          (sym r.due-is)
          (real-alone w c.args.real c.args.mono r.in_ok-due-in-None.due
          (subst (λ (found : Option TimerKey). IsFirstDue w Real c.args.real found)
          r.in_ok-due-in-None.was c.first_due-by_real.ensures)
          (subst (λ (found : Option TimerKey). IsFirstDue w Mono c.args.mono found) r.in-None.is
          c.first_due.ensures))
    ]
