use Rattle.std.proofs.Common.{◌≡◌, Some, None, sym, ap, ◌∙◌}
use Rattle.std.specs.Option.{option_copied}
use Rattle.pt_table.specs.ClientRows.{client_value}
use Rattle.pt_records.specs.Callers.{open_in}
use Rattle.pt_state.specs.Adds.{history_of}
use Rattle.pt_machine.proofs.OpenRowCalls.{row-waits}
use Rattle.pt_machine.proofs.machine.Machine.object_of.Goals as goal

pub returns-in-Some : goal.returns-in-Some
returns-in-Some g c =
    let s = c.args.self.now in
    let found : Some c.in-Some.open.now ≡ open_in (client_value s.clients c.args.c) =
    rw (← c.self.view_is) (ap option_copied (sym c.in-Some.is) ∙ c.open_of.ensures) in
    ap Some c.wait_object.ensures
    ∙ row-waits (history_of s) s.clients c.requires.follows c.requires.callers c.args.c _ found

pub returns-in-None : goal.returns-in-None
returns-in-None g c =
    let s = c.args.self.now in
    let found : None ≡ open_in (client_value s.clients c.args.c) =
    rw (← c.self.view_is) (ap option_copied (sym c.in-None.is) ∙ c.open_of.ensures) in
    row-waits (history_of s) s.clients c.requires.follows c.requires.callers c.args.c _ found

pub open_of-requires : goal.open_of-requires
open_of-requires g c = rw c.self.view_is c.requires
