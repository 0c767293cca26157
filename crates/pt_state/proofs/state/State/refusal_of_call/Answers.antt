use Rattle.std.proofs.Common.{cond, Some, None, sym, ap, ◌∙◌}
use Rattle.pt_types.specs.declared.outcome.Refusal.TheVariants.{Blocked}
use Rattle.pt_table.specs.ClientRows.{client_value}
use Rattle.pt_state.specs.Adds.{history_of}
use Rattle.pt_state.proofs.Requested.{refused-by}
use Rattle.pt_state.proofs.state.State.refusal_of_call.Goals as goal

pub returns-in-Some : goal.returns-in-Some
returns-in-Some g c =
    let s = c.args.self.now in
    let caller = c.in-Some.caller.now in
    ap (λ b. cond b (Some Blocked) None) c.if-is_some.ensures
    ∙ refused-by (history_of s) s.clients c.requires.callers c.args.c caller
    (ap (client_value s.clients) (sym c.c.view_is) ∙ sym c.in-Some.ensures)

pub returns-in-Some-2 : goal.returns-in-Some-2
returns-in-Some-2 g c =
    let s = c.args.self.now in
    let caller = c.in-Some.caller.now in
    ap (λ b. cond b (Some Blocked) None) c.if-is_some.ensures
    ∙ refused-by (history_of s) s.clients c.requires.callers c.args.c caller
    (ap (client_value s.clients) (sym c.c.view_is) ∙ sym c.in-Some.ensures)
