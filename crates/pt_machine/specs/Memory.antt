-- Memory: which outer entries need memory when they are pushed, in room that was made for them.
use Rattle.std.specs.Prelude.{Bool, true, false, ◌||◌, Some, None, is_some}
use Rattle.pt_types.specs.Operations.{Operation, operation}
use Rattle.pt_model.specs.declared.entry.Entry.{Entry}
use Rattle.pt_model.specs.declared.entry.Entry.TheVariants.{Join, Call}
use Rattle.pt_state.specs.Outer.{makes_object, is_read_call}
use Rattle.pt_machine.specs.CallDeadlines.{operation_deadline, valid_deadline}

-- whether a waiting call needs memory: for its row in a read-write lock, or for its deadline
abbrev pub needs_memory_to_wait : Operation → Bool
needs_memory_to_wait o = is_read_call o || is_some (valid_deadline (operation_deadline o))

-- whether an outer entry needs memory: for the row of a client or of an object, or for what a
-- waiting call needs
abbrev pub needs_memory : Entry → Bool
needs_memory (Join c p) = true
needs_memory (Call c call None) = needs_memory_to_wait (operation call)
needs_memory (Call c call (Some answer)) = makes_object (operation call)
needs_memory _ = false
