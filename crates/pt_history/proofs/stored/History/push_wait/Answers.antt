use Rattle.std.proofs.Common.{◌<◌, ap, sym, ◌∙◌, subst}
use Rattle.pt_model.specs.declared.entry.Entry.TheVariants.{Call as CallEntry}
use Rattle.pt_history.specs.Stored.{Stored, stored_with}
use Rattle.pt_history.proofs.stored.History.push_wait.Goals as goal

pub push_any_call-requires : goal.push_any_call-requires
push_any_call-requires g c =
    subst (λ (s : Stored). 0 < s.room) (sym c.if-not-push_interned_wait.ensures) c.requires

pub returns-then-not-push_interned_wait : goal.returns-then-not-push_interned_wait
returns-then-not-push_interned_wait g c =
    c.push_any_call.ensures
    ∙ ap (stored_with (CallEntry c.args.client c.args.call.now c.args.outcome))
    c.if-not-push_interned_wait.ensures
