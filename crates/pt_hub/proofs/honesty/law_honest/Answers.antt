use Rattle.std.proofs.Common.{subst}
use Rattle.pt_model.specs.Searches.{Each}
use Rattle.pt_hub.specs.Closing.{HasMet, IsMet}
use Rattle.pt_hub.proofs.HonestLemmas.{honest}
use Rattle.pt_hub.proofs.honesty.law_honest.Goals as goal

pub returns : goal.returns
returns g c =
    let d = c.args.inner.now in
    honest d c.args.left.now c.law_cells.ensures
    (subst (λ o. HasMet d o) c.joined.ensures c.law_met.ensures)
    (subst (λ rs. Each (IsMet d) rs) c.receipts.ensures c.law_all_met.ensures)
    (subst (λ o. HasMet d o) c.seen.ensures c.law_met-2.ensures)
    c.law_own.ensures.receipts c.law_own.ensures.join c.law_own.ensures.death
