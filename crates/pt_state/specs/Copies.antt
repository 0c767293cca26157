-- Copies: the rows of a Start, each as it is copied from a row of the tables.
use Rattle.std.specs.Prelude.{ℕ, List, [], ◌++◌, ◌∷◌, map}
use Rattle.pt_table.specs.declared.clients.ClientRow.{ClientRow}
use Rattle.pt_table.specs.declared.objects.ObjectRow.{ObjectRow}
use Rattle.pt_model.specs.declared.start.StartClient.{StartClient}
use Rattle.pt_model.specs.declared.start.StartCall.{StartCall}
use Rattle.pt_model.specs.declared.start.StartHolders.{StartHolders}
use Rattle.pt_model.specs.declared.start.StartHolders.TheVariants as holds
use Rattle.pt_model.specs.declared.start.StartObject.{StartObject}
use Rattle.pt_model.specs.declared.start.StartReader.{StartReader}
use Rattle.pt_records.specs.declared.clients.Caller.{Caller}
use Rattle.pt_records.specs.declared.clients.Open.{Open}
use Rattle.pt_records.specs.declared.objects.Object.{Object}
use Rattle.pt_records.specs.declared.objects.Object.TheVariants.{Mutex, Rwlock}
use Rattle.pt_records.specs.Objects.{kind_in_row}

-- a living client, with its priority, its latest call and the answer to that call
abbrev pub client_start : ClientRow Caller → StartClient
client_start row =
    record {
      client = row.number;
      priority = row.value.priority;
      latest = row.value.latest;
      answer = row.value.answer;
    }

-- an open call, with its move
abbrev pub call_start : Open → StartCall
call_start o = record { call = o.call; moved = o.moved }

-- a client's row at a lock, with the number of its read locks  [XSH pthread_rwlock_rdlock]
abbrev pub reader_start : ℕ → ℕ × ℕ → StartReader
reader_start o row = record { lock = o; client = row.0; count = row.1 }

-- the rows of a lock's readers
abbrev pub readers_of : ℕ → List (ℕ × ℕ) → List StartReader
readers_of o rows = map (reader_start o) rows

module _ {A : Type 0} where
  -- the holders of an object, except for the readers of a lock  [XSH 2.9]
  abbrev pub holders_start : Object A → StartHolders
  holders_start (Mutex m) = holds.Mutex m.view.consistency m.view.owner m.view.count
  holders_start (Rwlock r) = holds.Rwlock r.writer
  holders_start _ = holds.Others

  -- an object, with its name, its kind and its holders
  abbrev pub object_start : ObjectRow (Object A) → StartObject
  object_start row =
      record {
        number = row.number;
        name = row.name;
        kind = kind_in_row row.value;
        holders = holders_start row.value;
      }

  -- the rows of an object's readers, if it is a lock
  abbrev pub readers_at : ℕ → Object A → List StartReader
  readers_at o (Rwlock r) = readers_of o r.rows
  readers_at o _ = []

  -- the rows of the readers of all locks, in the order of the locks' rows
  abbrev pub readers_in : List (ObjectRow (Object A)) → List StartReader
  readers_in [] = []
  readers_in (row ∷ rows) = readers_at row.number row.value ++ readers_in rows
