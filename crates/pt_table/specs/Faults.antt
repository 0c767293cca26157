-- Faults: the reasons why a table refuses a row.
use Rattle.std.specs.Prelude.{◌≡◌, Option, Some, None, Result, Ok, Err}
use Rattle.pt_table.specs.declared.fault.TableFault.{TableFault}

-- the fault with which a row was returned, if it was
abbrev pub fault_of : {T : Type 0} → Result (Unit {0}) (T × TableFault) → Option TableFault
fault_of (Ok _) = None
fault_of (Err handed) = Some handed.1

-- the row was returned with this fault
abbrev pub IsFault : {T : Type 0} → TableFault → Result (Unit {0}) (T × TableFault) → Type 0
IsFault fault answer = fault_of answer ≡ Some fault
