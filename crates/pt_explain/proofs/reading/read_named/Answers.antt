use Rattle.std.proofs.Common.{◌∙◌, refl, sym, ap, Ok}
use Rattle.pt_types.specs.NamedVerbs.{call_on}
use Rattle.pt_grammar.specs.declared.script_line.ScriptBody.TheVariants.{Ask}
use Rattle.pt_explain.proofs.reading.read_named.Goals as goal

pub returns : goal.returns
returns c =
    λ client.
    c.in-Some.ensures.called client (c.in-Some-new.ensures.valid.0 refl)
    ∙ ap (λ n. Ok (Ask (call_on c.in-Some.verb n))) (sym c.in-Some-new.ensures.value)
    ∙ ap (λ call. Ok (Ask call)) (sym c.call.ensures)
