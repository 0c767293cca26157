use Rattle.std.proofs.Common.{ap}
use Rattle.std.specs.Option.{option_map}
use Rattle.pt_table.proofs.Named.{row_found, row_here, row_missing}
use Rattle.pt_table.proofs.objects.Objects.named.Goals as goal

pub returns-in-Some-clause-number : goal.returns-in-Some-clause-number
returns-in-Some-clause-number g c =
    ap (option_map (λ row. row.number))
    (row_found c.self.invariant.0 c.self.invariant.2 c.args.self.now c.self.view_is
    c.args.name.now _ c.in-Some.ensures.0 c.in-Some.ensures.1 c.in-Some.ensures.2)

pub returns-in-Some-clause-value : goal.returns-in-Some-clause-value
returns-in-Some-clause-value g c =
    ap (option_map (λ row. row.value))
    (row_here c.self.invariant.0 c.self.invariant.2 c.args.self.now c.self.view_is _
    c.in-Some.ensures.0 c.in-Some.ensures.1)

pub returns-in-None-clause-number : goal.returns-in-None-clause-number
returns-in-None-clause-number g c =
    ap (option_map (λ row. row.number))
    (row_missing c.self.invariant.0 c.self.invariant.2 c.args.self.now c.self.view_is
    c.args.name.now c.in-None.ensures)
