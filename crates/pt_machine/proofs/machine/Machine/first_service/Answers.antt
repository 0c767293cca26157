use Rattle.std.proofs.Common.{◌≡◌, Some, None, sym, ap, ◌∙◌, subst}
use Rattle.pt_next_grant.specs.Candidates.{candidate_if}
use Rattle.pt_next_grant.specs.Touched.{service_object}
use Rattle.pt_next_grant.proofs.Candidates.{served_candidate}
use Rattle.pt_state.specs.Adds.{history_of}
use Rattle.pt_machine.specs.Services.{IsService}
use Rattle.pt_machine.proofs.machine.Machine.first_service.Goals as goal

-- no object is touched, so no call can be served
pub returns-in_err-self : goal.returns-in_err-self
returns-in_err-self g c =
    let h = history_of c.args.self.now in
    let last : None ≡ service_object h =
    rw (← c.self.view_is) (sym c.in_err-self.was ∙ c.self.invariant.2.touches) in
    subst (IsService h _) (sym c.from_residual.ensures)
    (served_candidate h c.requires.follows ∙ ap (candidate_if h) (sym last))

-- a call that can be served waits at the object that is touched
pub returns : goal.returns
returns g c =
    let h = history_of c.args.self.now in
    let last : Some c.in_ok-self.field-0 ≡ service_object h =
    rw (← c.self.view_is) (sym c.in_ok-self.was ∙ c.self.invariant.2.touches) in
    subst (λ first. IsService h first c.service_at.result)
    (ap (candidate_if h) last ∙ sym (served_candidate h c.requires.follows)) c.service_at.ensures
