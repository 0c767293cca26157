use Rattle.pt_parts_tests.specs.Linking.{AreFree}
use Rattle.pt_parts_tests.proofs.tests.table.fill_objects.Given as goal

abbrev pub invariant-loop-number : goal.invariant-loop-number
invariant-loop-number l = AreFree l.objects l.number
