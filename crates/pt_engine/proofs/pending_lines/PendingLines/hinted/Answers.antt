use Rattle.std.proofs.Common.{ap, ◌∙◌}
use Rattle.std.specs.Option.{option_map}
use Rattle.pt_engine.proofs.Keys.{row_read}
use Rattle.pt_engine.proofs.pending_lines.PendingLines.hinted.Goals as goal

pub returns-in-Some : goal.returns-in-Some
returns-in-Some g c =
    let found = rw c.deref.ensures.value at c.in-Some.ensures.lookup in
    rw (← c.self.view_is)
    (ap (option_map (λ e. e.0))
    (row_read c.self.inside.lines.items c.unwrap_or-index.result c.in-Some.field-0.now
    c.args.client found.3.0 found.1 (c.if-number-client.true ∙ c.client.view_is)))
