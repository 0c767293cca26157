use Rattle.std.proofs.Common.{◌∙◌, ap, sym}
use Rattle.pt_types.specs.declared.operations.ObjectClass.TheVariants.{Cond}
use Rattle.pt_model.specs.Objects.{find_object}
use Rattle.pt_records.proofs.LockViews.{cond-found}
use Rattle.pt_state.specs.Adds.{history_of}
use Rattle.pt_core.proofs.reading.bound.Goals as goal

pub bound-requires-clause-cond : goal.bound-requires-clause-cond
bound-requires-clause-cond g c =
    cond-found (history_of c.args.body.now) c.requires.follows c.args.n.now c.in-Some.q
    (sym (c.in-Some.ensures ∙ ap (λ s. find_object
    (history_of s) c.args.n.now Cond) c.state.ensures))
