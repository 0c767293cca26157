use Rattle.std.proofs.Common.{sym, ◌∙◌, subst}
use Rattle.std.specs.Prelude.{IfSome}
use Rattle.std.specs.Option.{option_map}
use Rattle.pt_chains.specs.Boxes.{queue_by, IsSame}
use Rattle.pt_chains.proofs.boxed.join.Goals as goal

pub returns-in-Some-clause-unchanged : goal.returns-in-Some-clause-unchanged
returns-in-Some-clause-unchanged g c =
    let box = option_map (λ x. x.value) c.args.boxed.now in
    subst (λ h. IfSome c.put_lone.new.boxed (λ b.
    IsSame (queue_by box h c.args.tail c.args.count c.args.writer c.args.p) b.value))
    (sym c.in-Some.is ∙ c.get.ensures) c.put_lone.ensures.put
