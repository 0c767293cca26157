use Rattle.std.proofs.Common.{rules, OnOk, sym, ap, ◌∙◌, subst}
use Rattle.pt_types.specs.declared.outcome.Refusal.TheVariants.{Syntax}
use Rattle.pt_grammar.specs.declared.client.Who.TheVariants.{Named, Star}
use Rattle.pt_model.specs.declared.entry.Event.TheVariants as event
use Rattle.pt_engine.specs.Scripts.{event_for, number_of_who, line_of_client, core_of, join_for}
use Rattle.pt_engine.specs.LineAnswers.{AnswersRequest}
use Rattle.pt_engine.specs.Engines.{Appends, as_script}
use Rattle.pt_engine.proofs.Lines.{refused_as}
use Rattle.pt_legal.specs.Cores.{history_of}
use Rattle.pt_engine.proofs.engine.Engine.answer_body.Goals as goal

pub returns-in-Named-Ask-clause-ok : goal.returns-in-Named-Ask-clause-ok
returns-in-Named-Ask-clause-ok g c =
    let s = as_script c.args.self.now in
    let i = c.in-Named-Ask in
    let asks = ap (λ w. event_for s w c.args.body) i.is-0
    ∙ ap (event_for s (Named i.field-0-0)) i.is-1
    ∙ ap (line_of_client (λ d. event.Call d i.call))
    (sym (c.requires.client ∙ ap (number_of_who s.clients) i.is-0)) in
    subst
    (λ v. OnOk c.ask.result (Appends (AnswersRequest s c.args.line.now v (as_script c.ask.new.self))
    c.args.out.now.items c.ask.new.out.items))
    (sym asks) c.ask.ensures.ok

pub returns-in-Named-Die-clause-ok : goal.returns-in-Named-Die-clause-ok
returns-in-Named-Die-clause-ok g c =
    let s = as_script c.args.self.now in
    let i = c.in-Named-Die in
    let asks = ap (λ w. event_for s w c.args.body) i.is-0
    ∙ ap (event_for s (Named i.field-0-0)) i.is-1
    ∙ ap (line_of_client (λ d. event.Death d))
    (sym (c.requires.client ∙ ap (number_of_who s.clients) i.is-0)) in
    subst
    (λ v. OnOk c.die.result (Appends (AnswersRequest s c.args.line.now v (as_script c.die.new.self))
    c.args.out.now.items c.die.new.out.items))
    (sym asks) c.die.ensures.ok

pub returns-in-Star-Tick-clause-ok : goal.returns-in-Star-Tick-clause-ok
returns-in-Star-Tick-clause-ok g c =
    let s = as_script c.args.self.now in
    let i = c.in-Star-Tick in
    let asks = ap (λ w. event_for s w c.args.body) i.is-0 ∙ ap (event_for s Star) i.is-1 in
    subst
    (λ v. OnOk c.run.result (Appends (AnswersRequest s c.args.line.now v (as_script c.run.new.self))
    c.args.out.now.items c.run.new.out.items))
    (sym asks) c.run.ensures.ok

pub returns-in_default-clause-ok : goal.returns-in_default-clause-ok
returns-in_default-clause-ok g c =
    let s = as_script c.args.self.now in
    refused_as c.refuse.result s c.args.line.now (event_for s c.args.line.now.who c.args.body)
    Syntax c.args.out.now.items c.refuse.new.out.items (search rules) c.refuse.ensures.ok

pub returns-in-Named-Hello-clause-ok : goal.returns-in-Named-Hello-clause-ok
returns-in-Named-Hello-clause-ok g c =
    let s = as_script c.args.self.now in
    let i = c.in-Named-Hello in
    let asks = ap (λ w. event_for s w c.args.body) i.is-0
    ∙ ap (event_for s (Named i.field-0-0)) i.is-1
    ∙ ap (join_for (history_of (core_of s)) i.priority)
    (sym (c.requires.client ∙ ap (number_of_who s.clients) i.is-0)) in
    subst
    (λ v. OnOk c.hello.result (Appends (AnswersRequest s c.args.line.now v
    (as_script c.hello.new.self))
    c.args.out.now.items c.hello.new.out.items))
    (sym asks) c.hello.ensures.ok
