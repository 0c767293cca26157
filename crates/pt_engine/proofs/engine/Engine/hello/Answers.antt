use Rattle.std.proofs.Common.{Err, sym, ap, ◌∙◌}
use Rattle.pt_legal.specs.Cores.{history_of}
use Rattle.pt_engine.specs.Scripts.{core_of, join_for}
use Rattle.pt_engine.specs.Engines.{as_script}
use Rattle.pt_engine.proofs.Lines.{refused_as}
use Rattle.pt_engine.proofs.engine.Engine.hello.Goals as goal

pub returns-in-None-clause-ok : goal.returns-in-None-clause-ok
returns-in-None-clause-ok g c = rw c.in-None.is c.run.ensures.ok

pub returns-in-Some-clause-ok : goal.returns-in-Some-clause-ok
returns-in-Some-clause-ok g c =
    let s = as_script c.args.self.now in
    let asks = join_for (history_of (core_of s)) c.args.priority in
    refused_as c.refuse.result s c.args.line.now (asks c.args.client) c.refusal_of_hello.result
    c.args.out.now.items c.refuse.new.out.items
    (ap asks c.in-Some.is ∙ ap Err (sym c.refusal_of_hello.ensures)) c.refuse.ensures.ok
