use Rattle.std.proofs.Common.{◌∙◌, ap}
use Rattle.pt_core.specs.Stores.{store_core}
use Rattle.pt_core.proofs.Emptiness.{is-empty}
use Rattle.pt_core.proofs.OpenLemmas.{store_core-empty_store, whole-begin}
use Rattle.pt_core.proofs.core_type.Core.with_limit.Goals as goal

pub invariant_of-result : goal.invariant_of-result
invariant_of-result g c =
    rw c.in-Ok.ensures.ok
    (whole-begin c.new-2.result c.args.limit c.new-2.ensures.stored c.new-2.ensures.read
    c.new-2.ensures.answers c.requires)

pub returns-in-Ok-clause-ok : goal.returns-in-Ok-clause-ok
returns-in-Ok-clause-ok g c =
    ap (λ s. store_core s.stored) c.in-Ok.ensures.ok
    ∙ store_core-empty_store c.new-2.result.stored c.args.limit c.new-2.ensures.stored

pub returns-in-Ok-clause-empty : goal.returns-in-Ok-clause-empty
returns-in-Ok-clause-empty g c =
    is-empty _ c.args.limit (ap (λ s. store_core s.stored) c.in-Ok.ensures.ok
    ∙ store_core-empty_store c.new-2.result.stored c.args.limit c.new-2.ensures.stored) c.requires
