use Rattle.std.proofs.Common.{subst}
use Rattle.pt_fields.specs.Fields.{fields}
use Rattle.pt_grammar.specs.Reading.{IsCallOfVerb}
use Rattle.pt_grammar.proofs.CallLineLemmas.{is_long, said_if_asked, said_or_refused}
use Rattle.pt_grammar.proofs.WordLemmas.{read_by_word}
use Rattle.pt_grammar.proofs.named_start.parse_call_of.Goals as goal

pub returns-clause-read : goal.returns-clause-read
returns-clause-read c =
    let text = c.args.text.now in
    let start = c.args.start.now in
    let args = c.in_ok-args.args.now in
    let o = c.read_call_word.result in
    said_or_refused text (fields args) c.args.verb o
    (is_long text start args c.in_ok-args.ensures c.requires.long)
    (read_by_word text args start c.args.verb c.requires.is c.in_ok-args.ensures)
    (c.requires.request (fields args) o
    (subst (λ fs. IsCallOfVerb c.args.verb fs o) c.new.ensures c.read_call_word.ensures))

pub returns-clause-called : goal.returns-clause-called
returns-clause-called c =
    let text = c.args.text.now in
    let args = c.in_ok-args.args.now in
    let o = c.read_call_word.result in
    said_if_asked text (fields args) c.args.verb o
    (read_by_word text args c.args.start.now c.args.verb c.requires.is c.in_ok-args.ensures)
    (c.requires.request (fields args) o
    (subst (λ fs. IsCallOfVerb c.args.verb fs o) c.new.ensures c.read_call_word.ensures))
