use Rattle.std.proofs.Common.{◌≡◌, drop, arith}
use Rattle.std.specs.List.{list_any}
use Rattle.std.proofs.lemmas.Grind.{common_steps}
use Rattle.std.proofs.lemmas.List.{take-append-drop}
use Rattle.std.proofs.lemmas.List.Folds.{list_any-append}
use Rattle.pt_lanes.specs.Counts.{is_set}
use Rattle.pt_lanes.proofs.SetLemmas.{any_from_test}
use Rattle.pt_lanes.proofs.kernel.any_from.Goals as goal

pub returns-then-has_any : goal.returns-then-has_any
returns-then-has_any c =
    let e : c.has_any.result ≡ list_any is_set (drop c.args.p c.args.counts.now) =
    grind (arith, common_steps, list_any-append, take-append-drop) in
    rw e (any_from_test c.args.counts.now c.args.p)

pub returns-else-has_any : goal.returns-else-has_any
returns-else-has_any c =
    let e : c.has_any-else-has_any.result ≡ list_any is_set (drop c.args.p c.args.counts.now) =
    grind (arith, common_steps, list_any-append, take-append-drop) in
    rw e (any_from_test c.args.counts.now c.args.p)
