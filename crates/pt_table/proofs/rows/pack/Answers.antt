use Rattle.std.proofs.Common.{rules}
use Rattle.indexmap.proofs.CallerLemmas.{filter-RetainsPairs}
use Rattle.pt_table.proofs.rows.pack.Goals as goal

pub returns : goal.returns
returns g c =
    filter-RetainsPairs _ _ _ (λ k v b w f call. search rules) _ _ c.retain.ensures.filtered
