-- Lends: the table of objects after a `&mut` into one of its rows has ended.
use Rattle.std.specs.Prelude.{ℕ, List, Option}
use Rattle.std.specs.Borrow.{Lends, LendsIf, Fml, RattleType, MutBor}
use Rattle.std.specs.declared.alloc.Allocator.{Ghosts}
use Rattle.pt_table.specs.declared.objects.ObjectRow.{ObjectRow}
use Rattle.pt_table.specs.contracts.objects.ObjectRow.{the_row as row_of_type}
use Rattle.pt_table.specs.contracts.objects.Objects.{the_row}
use Rattle.pt_table.specs.ObjectRows.{with_object}

module _ (T : RattleType) where
  -- once the borrow r ends, the row has the last value written through r
  abbrev pub lends_value : MutBor (ObjectRow T.Denot) → MutBor T.Denot → Fml
  lends_value s r = Lends (row_of_type T) T s r (λ w. record s.now { value = w })

module _ (T A : RattleType) (alloc : Ghosts A.Denot)
    (s : MutBor (List (ObjectRow T.Denot))) (number : ℕ) where
  -- the table of objects after a `&mut` into an object's value has ended, or unchanged if there is
  -- no such object
  abbrev pub lends_if_at : Option (MutBor T.Denot) → Fml
  lends_if_at r = LendsIf (the_row T A alloc) T s r (with_object s.now number) s.now
