use Rattle.std.proofs.Common.{◌∙◌, ap}
use Rattle.pt_grammar.specs.Verbs.{verb_of}
use Rattle.pt_grammar.proofs.VerbLemmas.{verb_of-word, word_of-found}
use Rattle.pt_grammar.proofs.verb.Verb.read.Goals as goal

pub returns-clause-found : goal.returns-clause-found
returns-clause-found c = word_of-found c.args.text.now c.find_verb.result c.find_verb.ensures

pub returns-clause-exact : goal.returns-clause-exact
returns-clause-exact c = λ verb is. c.find_verb.ensures ∙ ap verb_of is ∙ verb_of-word verb
