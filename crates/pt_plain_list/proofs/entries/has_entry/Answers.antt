use Rattle.std.proofs.Common.{◌∙◌}
use Rattle.pt_plain_list.proofs.AdmittedLemmas.{found-test}
use Rattle.pt_plain_list.proofs.entries.has_entry.Goals as goal

pub returns : goal.returns
returns c =
    let found = c.entry_of in
    c.is_some.ensures
    ∙ found-test c.args.client c.args.entries.now found.result found.ensures.found
    found.ensures.unlisted
