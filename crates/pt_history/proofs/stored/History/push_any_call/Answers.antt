use Rattle.std.proofs.Common.{◌<◌, ap, sym, ◌∙◌, subst}
use Rattle.pt_model.specs.declared.entry.Entry.TheVariants.{Call as CallEntry}
use Rattle.pt_history.specs.Stored.{Stored, stored_with}
use Rattle.pt_history.proofs.stored.History.push_any_call.Goals as goal

pub push_other_call-requires : goal.push_other_call-requires
push_other_call-requires g c =
    subst (λ (s : Stored). 0 < s.room) (sym c.if-not-push_timed.ensures) c.requires

pub returns-then-not-push_timed : goal.returns-then-not-push_timed
returns-then-not-push_timed g c =
    c.push_other_call.ensures
    ∙ ap (stored_with (CallEntry c.args.client c.args.call.now c.args.outcome))
    c.if-not-push_timed.ensures
