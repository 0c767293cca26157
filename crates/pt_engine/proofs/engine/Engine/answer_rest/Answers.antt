use Rattle.std.proofs.Common.{rules, OnOk, refl, sym, ap, ◌∙◌, subst}
use Rattle.std.specs.Option.{option_copied}
use Rattle.pt_types.specs.declared.outcome.Refusal.TheVariants.{Syntax}
use Rattle.pt_types.specs.NamedVerbs.{call_on}
use Rattle.pt_model.specs.declared.entry.Event.TheVariants as event
use Rattle.pt_grammar.specs.declared.client.Who.TheVariants.{Named}
use Rattle.pt_grammar.specs.Script.{body_after, body_read}
use Rattle.pt_engine.specs.Scripts.{event_of_body, number_of_who, line_of_client}
use Rattle.pt_engine.specs.LineAnswers.{AnswersRequest}
use Rattle.pt_engine.specs.Engines.{Appends, as_script}
use Rattle.pt_engine.proofs.Lines.{refused_as}
use Rattle.pt_engine.proofs.engine.Engine.answer_rest.Goals as goal

pub returns-in-Some-new-clause-ok : goal.returns-in-Some-new-clause-ok
returns-in-Some-new-clause-ok g c =
    let s = as_script c.args.self.now in
    let here = c.args.line.now.who in
    let rest = c.in-Some.rest.now in
    let who = c.in-Named.is in
    let client = Named c.in-Named.field-0 in
    let said = c.in-Some-named_at_start in
    let asks =
    ap (λ o. event_of_body s here (body_after here (option_copied o))) c.in-Some.is
    ∙ ap (λ w. event_of_body s w (body_read w rest)) who
    ∙ ap (event_of_body s client)
    (said.ensures.called c.in-Named.field-0 (c.in-Some-new.ensures.valid.0 refl))
    ∙ ap (λ call. line_of_client (λ d. event.Call d call) (number_of_who s.clients client))
    (ap (call_on said.verb) (sym c.in-Some-new.ensures.value) ∙ sym c.call.ensures)
    ∙ ap (line_of_client (λ d. event.Call d c.call.result))
    (sym (c.requires.client ∙ ap (number_of_who s.clients) who)) in
    subst
    (λ v. OnOk c.ask.result (Appends (AnswersRequest s c.args.line.now v (as_script c.ask.new.self))
    c.args.out.now.items c.ask.new.out.items))
    (sym asks) c.ask.ensures.ok

pub returns-clause-ok : goal.returns-clause-ok
returns-clause-ok g c =
    let s = as_script c.args.self.now in
    let here = c.args.line.now.who in
    let asks = ap (λ o. event_of_body s here (body_after here (option_copied o))) c.in-Some.is in
    subst
    (λ v. OnOk c.answer_any.result (Appends (AnswersRequest s c.args.line.now v
    (as_script c.answer_any.new.self)) c.args.out.now.items c.answer_any.new.out.items))
    (sym asks) c.answer_any.ensures.ok

pub returns-then-rest-le-MAX_LINE_LENGTH-clause-ok :
    goal.returns-then-rest-le-MAX_LINE_LENGTH-clause-ok
returns-then-rest-le-MAX_LINE_LENGTH-clause-ok g c =
    let s = as_script c.args.self.now in
    let here = c.args.line.now.who in
    let rest = c.in-Some.rest.now in
    let asks =
    ap (λ o. event_of_body s here (body_after here (option_copied o))) c.in-Some.is
    ∙ ap (λ w. event_of_body s w (body_read w rest)) c.in-Named.is
    ∙ ap (event_of_body s (Named c.in-Named.field-0))
    (c.in-Some-named_at_start.ensures.refused c.in-Named.field-0 (search rules)
    c.if-rest-le-MAX_LINE_LENGTH.true) in
    let refuse = c.refuse-then-rest-le-MAX_LINE_LENGTH in
    refused_as refuse.result s c.args.line.now
    (event_of_body s here (body_after here (option_copied c.args.rest))) Syntax
    c.args.out.now.items refuse.new.out.items asks refuse.ensures.ok

pub returns-in_default-clause-ok : goal.returns-in_default-clause-ok
returns-in_default-clause-ok g c =
    let s = as_script c.args.self.now in
    let here = c.args.line.now.who in
    refused_as c.refuse.result s c.args.line.now
    (event_of_body s here (body_after here (option_copied c.args.rest))) Syntax
    c.args.out.now.items c.refuse.new.out.items
    (ap (λ o. event_of_body s here (body_after here (option_copied o))) c.in_default.is)
    c.refuse.ensures.ok
