use Rattle.std.proofs.Common.{◌∙◌, ap, arith, take}
use Rattle.pt_lines.proofs.DigitLemmas.{take-appended}
use Rattle.pt_lines.proofs.appending.append_filled.Goals as goal

pub returns-clause-items : goal.returns-clause-items
returns-clause-items g c =
    let out = c.args.out.now.items in
    c.truncate.ensures.items
    ∙ ap (take _) c.append_block.ensures.items
    ∙ take-appended out c.args.block _ c.args.len (omega (arith, c.len.ensures))
