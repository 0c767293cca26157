use Rattle.std.proofs.Common.{◌∙◌, ap, sym}
use Rattle.std.specs.Prelude.{option_map}
use Rattle.std.specs.Option.{option_copied}
use Rattle.pt_state.specs.Adds.{history_of}
use Rattle.pt_state.specs.Serving.{call_of_open}
use Rattle.pt_machine.proofs.OpenPlaces.{none-came, client-came, kept-in}
use Rattle.pt_machine.proofs.machine.Machine.open_stored_at.Goals as goal

pub returns-in_err-caller_at-clause-value : goal.returns-in_err-caller_at-clause-value
returns-in_err-caller_at-clause-value g c =
    ap (λ r. option_map call_of_open (option_copied r)) c.from_residual.ensures
    ∙ sym (none-came (history_of c.args.self.now) c.requires.follows c.args.place
    c.in_err-caller_at.ensures)

pub returns : goal.returns
returns g c = record {
  value = let s = c.args.self.now in
      ap (option_map call_of_open) c.open_if_at.ensures
      ∙ client-came (history_of s) c.requires.follows s.clients c.requires.callers c.args.place
      c.in_ok-caller_at.field-0 c.in_ok-caller_at.ensures;
  has_call = kept-in c.args.self.now.clients c.in_ok-caller_at.field-0 c.args.place
      (option_copied c.open_if_at.result)
      c.open_if_at.ensures;
}
