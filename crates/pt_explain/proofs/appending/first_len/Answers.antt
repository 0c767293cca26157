use Rattle.pt_explain.proofs.Quotes.{first_alone, first_found}
use Rattle.pt_explain.proofs.appending.first_len.Goals as goal

pub returns-in-Some-clause-line : goal.returns-in-Some-clause-line
returns-in-Some-clause-line c = first_found c.args.answers.now c.in-Some.end c.in-Some.ensures

pub returns-in-None-clause-line : goal.returns-in-None-clause-line
returns-in-None-clause-line c = first_alone c.args.answers.now c.in-None.ensures
