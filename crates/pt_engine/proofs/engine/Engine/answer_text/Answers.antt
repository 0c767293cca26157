use Rattle.std.proofs.Common.{◌≡◌, ◌<◌, ◌∙◌, suc, refl, sym, ap, subst}
use Rattle.std.specs.Option.{option_copied}
use Rattle.pt_grammar.specs.Script.{body_after}
use Rattle.pt_engine.specs.Scripts.{event_of_body, lines_of_who, number_of_who}
use Rattle.pt_engine.specs.Names.{NamesView}
use Rattle.pt_engine.specs.LineAnswers.{count_line}
use Rattle.pt_engine.specs.Engines.{EngineView, as_script}
use Rattle.pt_engine.proofs.Accepted.{some_seen}
use Rattle.pt_engine.proofs.Lines.{says_text}
use Rattle.pt_engine.proofs.engine.Engine.answer_text.Goals as goal

pub answer_rest-requires-clause-counted : goal.answer_rest-requires-clause-counted
answer_rest-requires-clause-counted g c =
    subst (λ k. 0 < lines_of_who k.seen c.read_client-who.result.0)
    (sym c.in_ok-number.ensures.ok)
    (some_seen c.self.inside.names.seen c.read_client-who.result.0)

pub answer_rest-requires-clause-client : goal.answer_rest-requires-clause-client
answer_rest-requires-clause-client g c =
    c.in_ok-number.ensures.client
    ∙ sym (ap (λ (k : NamesView). number_of_who k.clients c.read_client-who.result.0)
    c.in_ok-number.ensures.ok)

pub returns-clause-ok : goal.returns-clause-ok
returns-clause-ok g c =
    let i = c.self.inside in
    let s = as_script c.args.self.now in
    let read = c.read_client-who in
    let who = read.result.0 in
    let behind = option_copied read.result.1 in
    let core = g.C.LegalHistory.seen i.core in
    let heard : NamesView → EngineView =
    λ k. record { core = core; seen = k.seen; clients = k.clients; calls = i.calls.items } in
    let mid = as_script (heard c.count.new.self) in
    let is : mid ≡ count_line s who =
    ap (λ (k : NamesView). as_script (heard k)) c.in_ok-number.ensures.ok
    ∙ ap (λ (h : EngineView). count_line (as_script h) who) c.self.view_is in
    says_text c.answer_rest.result s mid (as_script c.answer_rest.new.self) c.args.text.now who
    behind c.in_ok-number.field-0.number (event_of_body mid who (body_after who behind))
    c.args.out.now.items c.answer_rest.new.out.items read.ensures.who read.ensures.rest is
    (c.in_ok-number.ensures.number
    ∙ ap (λ (h : EngineView). suc (lines_of_who h.seen who)) c.self.view_is)
    refl c.answer_rest.ensures.ok
