use Rattle.std.proofs.Common.{◌≡◌, None, IfSome, sym, ap, ◌∙◌, subst}
use Rattle.pt_chains.specs.Chains.{node_in}
use Rattle.pt_chains.proofs.nodes.dismiss.Goals as goal

pub returns-in-Some-clause-gone : goal.returns-in-Some-clause-gone
returns-in-Some-clause-gone g c =
    subst (λ o. IfSome o (λ n. node_in c.try_remove.new.self.slots n ≡ None))
    (sym c.in-Some.is ∙ c.remove.ensures.value)
    (ap (node_in c.try_remove.new.self.slots) (sym c.get.ensures)
    ∙ c.try_remove.ensures.updates.changed)

pub returns-in_default-clause-gone : goal.returns-in_default-clause-gone
returns-in_default-clause-gone g c =
    subst (λ o. IfSome o (λ n. node_in c.args.nodes.now.slots n ≡ None))
    (sym c.in_default.is ∙ c.remove.ensures.value) tt
