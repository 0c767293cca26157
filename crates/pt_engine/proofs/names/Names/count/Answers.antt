use Rattle.std.proofs.Common.{◌∙◌, ap, map}
use Rattle.std.proofs.Common.{suc, ◌<◌, ◌^◌, List, [], ◌∷◌, ◌++◌, length, sym, subst}
use Rattle.pt_engine.specs.Scripts.{number_of_who, lines_of_who}
use Rattle.pt_engine.specs.Names.{NamesView}
use Rattle.pt_engine.proofs.Rows.{client_known}
use Rattle.std.proofs.lemmas.List.{map-append}
use Rattle.pt_grammar.specs.declared.client.Who.{Who}
use Rattle.pt_engine.proofs.Raised.{few_counted, raised_counted, one_more_fits}
use Rattle.pt_engine.proofs.names.Names.count.Goals as goal

pub returns-clause-client : goal.returns-clause-client
returns-clause-client g c =
    let who = c.args.who.now in
    let known : NamesView =
    record {
      seen = map (λ p. p.0) c.self.inside.seen.items;
      clients = c.self.inside.joined.items;
    } in
    c.in_ok-counted.ensures.client
    ∙ client_known c.self.inside.counts c.self.inside.total known c.self.invariant who
    ∙ ap (λ (k : NamesView). number_of_who k.clients who) c.self.view_is

pub raise-requires : goal.raise-requires
raise-requires g c =
    let known : NamesView =
    record {
      seen = map (λ p. p.0) c.self.inside.seen.items;
      clients = c.self.inside.joined.items;
    } in
    few_counted c.self.inside.counts c.self.inside.total known c.args.who.now (2 ^ 53)
    c.self.invariant
    (subst (λ (k : NamesView). length k.seen < 2 ^ 53) (sym c.self.view_is) c.requires)

pub invariant_of-self-2 : goal.invariant_of-self-2
invariant_of-self-2 g c =
    let who = c.args.who.now in
    let known : NamesView =
    record {
      seen = map (λ p. p.0) c.self.inside.seen.items;
      clients = c.self.inside.joined.items;
    } in
    let seen =
    ap (map (λ p. p.0)) c.and-self-inside.ensures
    ∙ map-append (λ p. p.0) c.self.inside.seen.items ((who, tt) ∷ []) in
    raised_counted c.self.inside.counts c.raise.new.self c.self.inside.total known who
    (map (λ p. p.0) c.and-self-inside.result.items) c.self.invariant c.in_ok-counted.ensures.ok seen

pub returns-clause-ok : goal.returns-clause-ok
returns-clause-ok g c =
    let who = c.args.who.now in
    let seen =
    ap (map (λ p. p.0)) c.and-self-inside.ensures
    ∙ map-append (λ p. p.0) c.self.inside.seen.items ((who, tt) ∷ []) in
    let known : List Who → NamesView =
    λ ws. record { seen = ws; clients = c.self.inside.joined.items } in
    ap known seen
    ∙ ap (λ (k : NamesView). record k { seen = k.seen ++ who ∷ [] }) c.self.view_is

pub returns-clause-number : goal.returns-clause-number
returns-clause-number g c =
    let who = c.args.who.now in
    c.in_ok-counted.ensures.number
    ∙ ap suc (c.self.invariant.lines who)
    ∙ ap (λ (k : NamesView). suc (lines_of_who k.seen who)) c.self.view_is

pub overflow_add-self : goal.overflow_add-self
overflow_add-self g c =
    let known : NamesView =
    record {
      seen = map (λ p. p.0) c.self.inside.seen.items;
      clients = c.self.inside.joined.items;
    } in
    one_more_fits c.self.inside.total (length known.seen) (sym c.self.invariant.all)
    (subst (λ (k : NamesView). length k.seen < 2 ^ 53) (sym c.self.view_is) c.requires)
