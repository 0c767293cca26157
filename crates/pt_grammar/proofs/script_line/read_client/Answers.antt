use Rattle.pt_grammar.proofs.StartLemmas.{who_at_start, rest_at_start}
use Rattle.pt_grammar.proofs.script_line.read_client.Goals as goal

pub returns-in-Some-clause-who : goal.returns-in-Some-clause-who
returns-in-Some-clause-who c =
    who_at_start c.args.text.now c.in-Some.name c.in-Some.rest.now c.in-Some.ensures.name
    c.in-Some.ensures.text

pub returns-in-Some-clause-rest : goal.returns-in-Some-clause-rest
returns-in-Some-clause-rest c =
    rest_at_start c.args.text.now c.in-Some.name c.in-Some.rest.now c.in-Some.ensures.name
    c.in-Some.ensures.text
