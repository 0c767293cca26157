-- ObjectRows: the rows of the objects that a line's call names.
use Rattle.std.specs.Prelude.{ℕ, List, [], Option, Some, None, length, nat_le, if◌then◌else◌}
use Rattle.pt_types.specs.declared.call.Call.{Call}
use Rattle.pt_types.specs.Operations.{operation}
use Rattle.pt_legal.specs.Cores.{CoreState, history_of}
use Rattle.pt_states.specs.States.{states}
use Rattle.pt_explain.specs.Entries.{call_at}

-- the rows of the objects that a call names, if there is a call, with these names of clients
abbrev pub rows_of_call : CoreState → List (List ℕ × ℕ) → Option Call → List ℕ
rows_of_call k clients None = []
rows_of_call k clients (Some call) = states (history_of k) clients (operation call)

-- the rows of the objects that the call at a place names, if its entry came since the Start; none
-- once more than 32 clients have joined  [profile]
abbrev pub object_rows : CoreState → List (List ℕ × ℕ) → ℕ → List ℕ
object_rows k clients place =
    if nat_le (length clients) 32 then rows_of_call k clients (call_at k place) else []
