use Rattle.std.proofs.Common.{◌≡◌, ◌+◌, Bool, true, false, Some, None, is_some, refl, sym, ap}
use Rattle.std.proofs.Common.{subst}
use Rattle.pt_table.specs.declared.fault.TableFault.{TableFault}
use Rattle.pt_table.specs.ObjectRows.{is_in_use}
use Rattle.pt_parts_tests.specs.Linking.{AreFree}
use Rattle.pt_parts_tests.proofs.LinkLemmas.{one-more}
use Rattle.pt_parts_tests.proofs.tests.table.fill_objects.Goals as goal

pub loop-number-preserved : goal.loop-number-preserved
loop-number-preserved c =
    subst (λ rows. AreFree rows (c.loop-number.number + 1)) (sym c.in-Ok.ensures.ok)
    (one-more c.loop-number.objects c.loop-number.number c.in-Some.name c.loop-number.number
    (not-taken (is_in_use c.loop-number.objects c.loop-number.number c.in-Some.name) _
    c.in-Ok.ensures.taken.1) c.loop-number.invariant)
  where
    not-taken : (b : Bool) (fault : TableFault)
        → (b ≡ true → None ≡ Some fault) → b ≡ false
    not-taken true fault f = sym (ap is_some (f refl))
    not-taken false fault f = refl
