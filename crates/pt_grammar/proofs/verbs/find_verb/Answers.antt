use Rattle.std.proofs.Common.{◌∙◌, ap, find}
use Rattle.std.specs.Str.{bytes_eq}
use Rattle.pt_grammar.specs.Verbs.{word_of}
use Rattle.pt_grammar.proofs.VerbLemmas.{found-by-length}
use Rattle.pt_grammar.proofs.verbs.find_verb.Goals as goal

pub returns : goal.returns
returns c =
    c.find_in.ensures
    ∙ ap (find (λ verb. bytes_eq (word_of verb) c.args.text.now)) c.verbs_of_length.ensures
    ∙ found-by-length c.args.text.now
