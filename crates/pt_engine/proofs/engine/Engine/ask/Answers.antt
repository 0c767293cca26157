use Rattle.std.proofs.Common.{ap}
use Rattle.pt_types.specs.declared.outcome.Refusal.TheVariants.{Nohello}
use Rattle.pt_model.specs.declared.entry.Event.TheVariants as event
use Rattle.pt_engine.specs.Scripts.{line_of_client}
use Rattle.pt_engine.specs.Engines.{as_script}
use Rattle.pt_engine.proofs.Lines.{refused_as}
use Rattle.pt_engine.proofs.engine.Engine.ask.Goals as goal

pub returns-in-Some-clause-ok : goal.returns-in-Some-clause-ok
returns-in-Some-clause-ok g c = rw c.in-Some.is c.run_call.ensures.ok

pub returns-in-None-clause-ok : goal.returns-in-None-clause-ok
returns-in-None-clause-ok g c =
    refused_as c.refuse.result (as_script c.args.self.now) c.args.line.now
    (line_of_client (λ d. event.Call d c.args.call) c.args.client) Nohello c.args.out.now.items
    c.refuse.new.out.items (ap (line_of_client (λ d. event.Call d c.args.call)) c.in-None.is)
    c.refuse.ensures.ok
