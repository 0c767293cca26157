use Rattle.std.proofs.Common.{sym, subst}
use Rattle.pt_rwlock.specs.RowPlaces.{IsInOrder}
use Rattle.pt_rwlock.proofs.rows.Rows.get.Goals as goal

pub scan_reads-requires : goal.scan_reads-requires
scan_reads-requires g c =
    subst IsInOrder (sym c.as_slice-rows.ensures.value) c.self.invariant
