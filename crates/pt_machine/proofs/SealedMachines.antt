-- The object touched and the entries reserved after a seal, if nothing must follow.
use Rattle.std.proofs.Common.{◌≡◌, ℕ, None, sym, ◌∙◌}
use Rattle.pt_model.specs.Histories.{History, Begin}
use Rattle.pt_model.specs.Forced.{forced}
use Rattle.pt_model.specs.Seals.{seal}
use Rattle.pt_model.specs.SealLaws.{ContinuesAlike}
use Rattle.pt_model.specs.Steps.{Follows}
use Rattle.pt_model.proofs.Agreeing.{seal_agrees}
use Rattle.pt_model.proofs.ContinuesAlike.{agrees_on}
use Rattle.pt_model.proofs.Induction.{start-seal}
use Rattle.pt_next_grant.proofs.Candidates.{begins_untouched}
use Rattle.pt_machine.specs.LastTouched.{IsTouched}
use Rattle.pt_machine.specs.Reserved.{IsReserved}

module _ (h : History) (f : Follows h) (quiet : forced h ≡ None) where
  pub alike : ContinuesAlike h (Begin (seal h))
  alike = agrees_on h (Begin (seal h)) f (start-seal h f) (seal_agrees h f)

  -- no object is touched
  pub touched-seal : IsTouched (Begin (seal h)) None None
  touched-seal =
      let law = begins_untouched (seal h) (start-seal h f) (sym alike.forces ∙ quiet) in
      record { touches = sym law.0; enters = sym law.1 }

  -- as many entries are reserved
  pub reserved-seal : (reserved : ℕ) → IsReserved h reserved → IsReserved (Begin (seal h)) reserved
  reserved-seal reserved r = record { needs = r.needs ∙ alike.needs }
