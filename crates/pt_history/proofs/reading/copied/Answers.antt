use Rattle.std.proofs.Common.{ap, sym, ◌∙◌}
use Rattle.pt_types.specs.declared.call.Call.{Call as CallWords}
use Rattle.pt_model.specs.declared.entry.Entry.TheVariants.{Call as CallEntry}
use Rattle.pt_history.proofs.reading.copied.Goals as goal

pub returns-in-Call : goal.returns-in-Call
returns-in-Call c =
    ap (λ (x : CallWords). CallEntry c.in-Call.client x c.in-Call.answer) c.copied.ensures
    ∙ sym c.in-Call.is
