use Rattle.std.proofs.Common.{Some, ap, sym, ◌∙◌}
use Rattle.std.specs.Option.{option_copied}
use Rattle.pt_state.specs.Adds.{history_of}
use Rattle.pt_machine.proofs.OpenPlaces.{kept-in, open-there}
use Rattle.pt_machine.proofs.machine.Machine.open_at.Goals as goal

pub returns-in-Some : goal.returns-in-Some
returns-in-Some g c = record {
  value = let s = c.args.self.now in
      open-there (history_of s) c.requires.follows s.clients c.requires.callers c.args.place
      c.args.c
      c.in-Some.open.now (sym (ap option_copied c.in-Some.is) ∙ c.open_if_at.ensures);
  has_call = kept-in c.args.self.now.clients c.args.c c.args.place (Some c.in-Some.open.now)
      (sym (ap option_copied c.in-Some.is) ∙ c.open_if_at.ensures);
}
