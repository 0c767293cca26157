use Rattle.std.proofs.Common.{sym, subst}
use Rattle.pt_rwlock.specs.RowPlaces.{IsInOrder}
use Rattle.pt_rwlock.proofs.rows.Rows.has.Goals as goal

pub reads_hinted-requires : goal.reads_hinted-requires
reads_hinted-requires g c =
    subst IsInOrder (sym c.as_slice.ensures.value) c.self.invariant
