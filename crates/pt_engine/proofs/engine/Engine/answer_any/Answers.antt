use Rattle.std.proofs.Common.{OnOk, sym, ap, ◌∙◌, subst}
use Rattle.pt_model.specs.declared.entry.Event.TheVariants as event
use Rattle.pt_grammar.specs.declared.client.Who.TheVariants.{Named, Star}
use Rattle.pt_grammar.specs.Script.{body_read}
use Rattle.pt_engine.specs.Scripts.{event_of_body, number_of_who, line_of_client}
use Rattle.pt_engine.specs.LineAnswers.{AnswersRequest}
use Rattle.pt_engine.specs.Engines.{Appends, as_script}
use Rattle.pt_engine.proofs.Lines.{refused_as}
use Rattle.pt_engine.proofs.engine.Engine.answer_any.Goals as goal

pub returns-clause-ok : goal.returns-clause-ok
returns-clause-ok g c =
    let s = as_script c.args.self.now in
    let who = c.in-Named.is in
    let client = Named c.in-Named.field-0 in
    let call = c.in-Some.call in
    let asks =
    ap (λ w. event_of_body s w (body_read w c.args.rest.now)) who
    ∙ ap (event_of_body s client) (c.in-Some.ensures c.in-Named.field-0)
    ∙ ap (line_of_client (λ d. event.Call d call))
    (sym (c.requires.client ∙ ap (number_of_who s.clients) who)) in
    subst
    (λ v. OnOk c.ask.result (Appends (AnswersRequest s c.args.line.now v (as_script c.ask.new.self))
    c.args.out.now.items c.ask.new.out.items))
    (sym asks) c.ask.ensures.ok

pub returns-2-clause-ok : goal.returns-2-clause-ok
returns-2-clause-ok g c =
    let s = as_script c.args.self.now in
    let asks =
    ap (λ w. event_of_body s w (body_read w c.args.rest.now)) c.in-Star.is
    ∙ ap (event_of_body s Star) c.in-Some-moment_at_start.ensures in
    subst
    (λ v. OnOk c.tick.result (Appends (AnswersRequest s c.args.line.now v
    (as_script c.tick.new.self))
    c.args.out.now.items c.tick.new.out.items))
    (sym asks) c.tick.ensures.ok

pub returns-in-Ok-clause-ok : goal.returns-in-Ok-clause-ok
returns-in-Ok-clause-ok g c =
    let s = as_script c.args.self.now in
    let who = c.args.line.now.who in
    subst
    (λ v. OnOk c.answer_body.result
    (Appends (AnswersRequest s c.args.line.now v
    (as_script c.answer_body.new.self)) c.args.out.now.items
    c.answer_body.new.out.items))
    (sym (ap (event_of_body s who) (sym c.read_script_body.ensures ∙ c.in-Ok.is)))
    c.answer_body.ensures.ok

pub returns-in-Err-clause-ok : goal.returns-in-Err-clause-ok
returns-in-Err-clause-ok g c =
    let s = as_script c.args.self.now in
    let who = c.args.line.now.who in
    refused_as c.refuse.result s c.args.line.now
    (event_of_body s who (body_read who c.args.rest.now)) c.in-Err.refusal c.args.out.now.items
    c.refuse.new.out.items
    (ap (event_of_body s who) (sym c.read_script_body.ensures ∙ c.in-Err.is)) c.refuse.ensures.ok
