use Rattle.std.proofs.Common.{◌∙◌, ap, sym, length, take}
use Rattle.std.proofs.lemmas.List.{length-take-le}
use Rattle.pt_grammar.proofs.StartLemmas.{at_space, by_start}
use Rattle.pt_grammar.proofs.client.client_at_start.Goals as goal

pub returns-clause-text : goal.returns-clause-text
returns-clause-text c =
    let text = c.args.text.now in
    let len = c.name_len-len.result in
    let within = c.name_len-len.ensures.within in
    let same = c.block_of.ensures in
    let long = ap length same ∙ length-take-le len text within in
    at_space text (take len c.block_of.result) len (sym long)
    (by_start text (take len c.block_of.result) len same within)
    c.if-len-text.false c.if-text-len-ne32.false
