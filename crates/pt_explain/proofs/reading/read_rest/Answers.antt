use Rattle.std.proofs.Common.{◌∙◌, sym, ap}
use Rattle.pt_grammar.specs.Script.{body_read}
use Rattle.pt_explain.proofs.reading.read_rest.Goals as goal

pub returns : goal.returns
returns c =
    sym (ap (λ w. body_read w c.args.rest.now) c.in-Named.is
    ∙ c.in-Some.ensures c.in-Named.field-0)
