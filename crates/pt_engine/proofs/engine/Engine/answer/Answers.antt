use Rattle.std.proofs.Common.{◌≡◌, ◌<◌, ◌∙◌, suc, Err, sym, ap, subst}
use Rattle.pt_engine.specs.Scripts.{event_for, event_of_body, lines_of_who, number_of_who}
use Rattle.pt_engine.specs.Names.{NamesView}
use Rattle.pt_engine.specs.LineAnswers.{count_line}
use Rattle.pt_engine.specs.Engines.{EngineView, as_script}
use Rattle.pt_engine.proofs.Accepted.{some_seen}
use Rattle.pt_engine.proofs.Lines.{on_ok, says_counted, says_refused}
use Rattle.pt_engine.proofs.engine.Engine.answer.Goals as goal

pub answer_body-requires-clause-counted : goal.answer_body-requires-clause-counted
answer_body-requires-clause-counted g c =
    subst (λ k. 0 < lines_of_who k.seen c.args.line.who) (sym c.in_ok-number.ensures.ok)
    (some_seen c.self.inside.names.seen c.args.line.who)

pub returns-in-Ok-clause-ok : goal.returns-in-Ok-clause-ok
returns-in-Ok-clause-ok g c =
    let i = c.self.inside in
    let who = c.args.line.who in
    let core = g.C.LegalHistory.seen i.core in
    let heard : NamesView → EngineView =
    λ k. record { core = core; seen = k.seen; clients = k.clients; calls = i.calls.items } in
    let is : as_script (heard c.count.new.self) ≡ count_line (as_script c.args.self.now) who =
    ap (λ (k : NamesView). as_script (heard k)) c.in_ok-number.ensures.ok
    ∙ ap (λ (h : EngineView). count_line (as_script h) who) c.self.view_is in
    on_ok c.answer_body.result
    (says_counted (as_script c.args.self.now) (as_script (heard c.count.new.self))
    (as_script c.answer_body.new.self) c.args.line c.in_ok-number.field-0.number
    (event_for (as_script (heard c.count.new.self)) who c.in-Ok.body)
    c.args.out.now.items c.answer_body.new.out.items is
    (c.in_ok-number.ensures.number
    ∙ ap (λ (h : EngineView). suc (lines_of_who h.seen who)) c.self.view_is)
    (ap (event_of_body (as_script (heard c.count.new.self)) who) (sym c.in-Ok.is)))
    c.answer_body.ensures.ok

pub returns-in-Err-clause-ok : goal.returns-in-Err-clause-ok
returns-in-Err-clause-ok g c =
    let i = c.self.inside in
    let who = c.args.line.who in
    let core = g.C.LegalHistory.seen i.core in
    let heard : NamesView → EngineView =
    λ k. record { core = core; seen = k.seen; clients = k.clients; calls = i.calls.items } in
    let is : as_script (heard c.count.new.self) ≡ count_line (as_script c.args.self.now) who =
    ap (λ (k : NamesView). as_script (heard k)) c.in_ok-number.ensures.ok
    ∙ ap (λ (h : EngineView). count_line (as_script h) who) c.self.view_is in
    on_ok c.refuse.result
    (λ grows. says_counted (as_script c.args.self.now) (as_script (heard c.count.new.self))
    (as_script (heard c.count.new.self)) c.args.line c.in_ok-number.field-0.number
    (Err c.in-Err.refusal) c.args.out.now.items c.refuse.new.out.items is
    (c.in_ok-number.ensures.number
    ∙ ap (λ (h : EngineView). suc (lines_of_who h.seen who)) c.self.view_is)
    (ap (event_of_body (as_script (heard c.count.new.self)) who) (sym c.in-Err.is))
    (says_refused (as_script (heard c.count.new.self))
    (record { who = who; number = c.in_ok-number.field-0.number }) c.in-Err.refusal
    c.args.out.now.items c.refuse.new.out.items grows))
    c.refuse.ensures.ok

pub answer_body-requires-clause-client : goal.answer_body-requires-clause-client
answer_body-requires-clause-client g c =
    c.in_ok-number.ensures.client
    ∙ sym (ap (λ (k : NamesView). number_of_who k.clients c.args.line.who)
    c.in_ok-number.ensures.ok)
