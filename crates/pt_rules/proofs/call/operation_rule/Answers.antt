use Rattle.pt_rules.proofs.call.operation_rule.Goals as goal

pub returns-in-Ends : goal.returns-in-Ends
returns-in-Ends g c = rw c.in-Ends.is c.destroy_rule_on.ensures
