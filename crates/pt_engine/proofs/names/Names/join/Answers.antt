use Rattle.std.proofs.Common.{ℕ, ◌<◌, List, ◌∙◌, sym, ap, subst, map}
use Rattle.pt_grammar.specs.declared.client.Who.TheVariants.{Named}
use Rattle.pt_engine.specs.Scripts.{lines_of_who, number_named}
use Rattle.pt_engine.specs.Names.{NamesView, row_of_name, AreCounted}
use Rattle.pt_engine.proofs.Rows.{has_row, joined_counted}
use Rattle.pt_engine.proofs.names.Names.join.Goals as goal

pub give-requires : goal.give-requires
give-requires g c =
    let counted = c.self.invariant.lines (Named c.in-Named.name) in
    let seen = ap (λ k. lines_of_who k.seen (Named c.in-Named.name)) c.self.view_is in
    let came = rw c.in-Named.is at c.requires.counted in
    has_row (row_of_name c.self.inside.counts.rows c.in-Named.name)
    (subst (λ n. 0 < n) (sym (counted ∙ seen)) came)

pub invariant_of-self-in-Named : goal.invariant_of-self-in-Named
invariant_of-self-in-Named g c =
    let first = rw c.in-Named.is at c.requires.first in
    let known : NamesView =
    record {
      seen = map (λ p. p.0) c.self.inside.seen.items;
      clients = c.self.inside.joined.items;
    } in
    let unknown = ap (λ k. number_named k.clients c.in-Named.name) c.self.view_is ∙ first in
    subst
    (λ (rows : List (List ℕ × ℕ)).
    AreCounted c.give.new.self c.self.inside.total (record known { clients = rows }))
    (sym c.in_ok-push_client.ensures.ok)
    (joined_counted c.self.inside.counts c.give.new.self c.self.inside.total known
    c.in-Named.name c.args.client c.self.invariant c.give.ensures unknown)
