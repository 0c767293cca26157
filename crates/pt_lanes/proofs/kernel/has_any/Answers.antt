use Rattle.std.proofs.Common.{◌/◌, length, arith}
use Rattle.std.proofs.lemmas.Grind.{common_steps}
use Rattle.std.proofs.lemmas.List.Folds.{list_any_at}
use Rattle.pt_lanes.specs.Counts.{is_set}
use Rattle.pt_lanes.proofs.BlockLemmas.{list_any-first_chunks}
use Rattle.pt_lanes.proofs.kernel.has_any.Goals as goal

pub returns-then-block_has_any : goal.returns-then-block_has_any
returns-then-block_has_any c =
    let counts = c.args.counts.now in
    let whole = list_any-first_chunks is_set 8 (length counts / 8) counts in
    grind (arith, common_steps, list_any_at)

pub returns : goal.returns
returns c =
    let counts = c.args.counts.now in
    let whole = list_any-first_chunks is_set 8 (length counts / 8) counts in
    grind (arith, common_steps)
