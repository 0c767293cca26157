-- OperationViews: what a call does, in the form of the definitions: with the bytes of each name.
use Rattle.pt_types.specs.Operations.{Operation, Inits, Ends, Acquires, Unlocks, Restores}
use Rattle.pt_types.specs.Operations.{Rwunlocks, CondWaits, Signals, Broadcasts, BarrierWaits}
use Rattle.pt_types.specs.declared.operations.Operation.{Operation as PlainOperation}
use Rattle.pt_types.specs.declared.operations.Operation.TheVariants as operations

-- what a call does, with the bytes of each name
abbrev pub operation_view : PlainOperation → Operation
operation_view (operations.Inits n kind) = Inits n.now kind
operation_view (operations.Ends n class) = Ends n.now class
operation_view (operations.Acquires n lock_kind how) =
    Acquires n.now lock_kind how
operation_view (operations.Unlocks n) = Unlocks n.now
operation_view (operations.Restores n) = Restores n.now
operation_view (operations.Rwunlocks n) = Rwunlocks n.now
operation_view (operations.CondWaits n m deadline) = CondWaits n.now m.now deadline
operation_view (operations.Signals n) = Signals n.now
operation_view (operations.Broadcasts n) = Broadcasts n.now
operation_view (operations.BarrierWaits n) = BarrierWaits n.now
