-- OpenRows: what is read off a stored open call.
use Rattle.std.specs.Prelude.{ℕ, Bool, not, ◌&&◌, is_some}
use Rattle.pt_types.specs.MutexTable.{is_some_number}
use Rattle.pt_model.specs.Moves.{wait_object_by}
use Rattle.pt_model.specs.Verdicts.{mutex_of_wait}
use Rattle.pt_records.specs.declared.clients.Open.{Open}

-- the object at which an open call waits  [XSH pthread_cond_broadcast]
abbrev pub object_of : Open → ℕ
object_of o = wait_object_by o.call.role o.moved o.call.object

-- whether an open call is a wait that has not been moved and will return to this mutex
-- [XSH pthread_mutex_destroy]
abbrev pub returns_to : ℕ → Open → Bool
returns_to m o = is_some_number (mutex_of_wait o.call.role) m && not (is_some o.moved)
