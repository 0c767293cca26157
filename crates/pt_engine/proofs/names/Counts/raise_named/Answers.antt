use Rattle.std.proofs.Common.{◌<◌, ◌∙◌, ◌^◌, suc, sym, ap, subst}
use Rattle.pt_grammar.specs.declared.client.Who.TheVariants.{Named}
use Rattle.pt_engine.proofs.names.Counts.raise_named.Goals as goal

pub count_at-requires-2-clause-within : goal.count_at-requires-2-clause-within
count_at-requires-2-clause-within g c =
    subst (λ n. n < 2 ^ 53) (sym (c.in_ok-index.ensures.alike.lines (Named c.args.name.now)))
    c.requires

pub returns-clause-number : goal.returns-clause-number
returns-clause-number g c =
    c.count_at-2.ensures.number
    ∙ ap suc (c.in_ok-index.ensures.alike.lines (Named c.args.name.now))
