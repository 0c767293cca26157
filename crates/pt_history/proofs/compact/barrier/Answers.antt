use Rattle.std.proofs.Common.{ap, sym, ◌∙◌}
use Rattle.pt_types.specs.declared.call.Call.TheVariants.{BarrierInit}
use Rattle.pt_history.proofs.Views.{from-zero}
use Rattle.pt_history.proofs.compact.barrier.Goals as goal

pub returns-in_ok-near-in-BarrierInit : goal.returns-in_ok-near-in-BarrierInit
returns-in_ok-near-in-BarrierInit c =
    let n = c.in_ok-near-in-BarrierInit.field-0 in
    ap (BarrierInit c.in-BarrierInit.name)
    (from-zero n c.in-BarrierInit.count c.in_ok-near-in-BarrierInit.ensures)
    ∙ sym c.in-BarrierInit.is
