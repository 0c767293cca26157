-- States: the text of what an object is doing: who holds it, and which calls wait there.
use Rattle.std.specs.Prelude.{ℕ, ◌==◌, ◌++◌, Bool, true, false, nat_le, List, [], ◌∷◌, length}
use Rattle.std.specs.Prelude.{Option, Some, None, codes, decimal, unwrap_or, if◌then◌else◌}
use Rattle.pt_types.specs.declared.key_order.Key.{Key}
use Rattle.pt_types.specs.declared.outcome.Consistency.{Consistency}
use Rattle.pt_types.specs.declared.outcome.Consistency.TheVariants as consistency
use Rattle.pt_types.specs.declared.operations.ObjectClass.{ObjectClass}
use Rattle.pt_types.specs.declared.operations.ObjectClass.TheVariants as class
use Rattle.pt_types.specs.declared.views.MutexView.{MutexView}
use Rattle.pt_types.specs.declared.views.RwlockView.{RwlockView}
use Rattle.pt_types.specs.Operations.{Operation, Inits, Ends, Acquires, Unlocks, Restores}
use Rattle.pt_types.specs.Operations.{Rwunlocks, CondWaits, Signals, Broadcasts, BarrierWaits}
use Rattle.pt_types.specs.Operations.{class_needed}
use Rattle.pt_types.specs.RwlockTable.{has_lock}
use Rattle.pt_model.specs.Histories.{History}
use Rattle.pt_model.specs.Clients.{is_alive}
use Rattle.pt_model.specs.Objects.{find_object}
use Rattle.pt_readable.specs.Reading.{count_at, mutex_named, rwlock_named}
use Rattle.pt_states.specs.declared.turns.Turn.{Turn}
use Rattle.pt_states.specs.Turns.{turns_at}

-- the name under which the client with this number joined
abbrev pub name_of : List (List ℕ × ℕ) → ℕ → List ℕ
name_of [] c = []
name_of (row ∷ rows) c = if row.1 == c then row.0 else name_of rows c

-- this text if the client is dead, else nothing
abbrev pub if_dead : History → ℕ → List ℕ → List ℕ
if_dead h c text = if is_alive h c then [] else text

-- a number of locks with what follows it, if it is more than one
abbrev pub if_many : ℕ → List ℕ → List ℕ
if_many n end = if nat_le n 1 then [] else codes " (" ++ decimal n ++ end

-- the owner of a mutex, and how often it has locked it  [XSH pthread_mutex_lock]
abbrev pub owner_words : History → List (List ℕ × ℕ) → Option ℕ → ℕ → List ℕ
owner_words h clients None count = codes "free"
owner_words h clients (Some c) count =
    codes "owned by " ++ name_of clients c ++ if_dead h c (codes ", which is dead")
    ++ if_many count (codes " locks)")

-- a mutex of this consistency, with the words for its owner  [XSH pthread_mutex_consistent]
abbrev pub mutex_by : Consistency → (owner : List ℕ) → List ℕ
mutex_by consistency.Consistent owner = owner
mutex_by consistency.Inconsistent owner = owner ++ codes "; inconsistent"
mutex_by consistency.NotRecoverable owner = codes "not recoverable"

-- who owns a mutex, and its consistency  [XSH 2.9.3]
abbrev pub mutex_words : History → List (List ℕ × ℕ) → Option MutexView → List ℕ
mutex_words h clients None = []
mutex_words h clients (Some m) = mutex_by m.consistency (owner_words h clients m.owner m.count)

-- a read-write lock as a client sees it, or one that nobody holds if no lock has the name
-- [XSH 2.9]
abbrev pub lock_seen : History → List ℕ → ℕ → RwlockView
lock_seen h n c =
    unwrap_or (rwlock_named h n c)
    (record { writes = false; reads = 0; is_written = false; is_read = false })

-- what is said of a dead client that holds a lock
abbrev pub dead_words : (writes : Bool) → List ℕ
dead_words true = codes ", which is dead"
dead_words false = codes " (dead)"

-- a client that holds a lock, and how many read locks it has  [XSH pthread_rwlock_rdlock]
abbrev pub holder : History → List ℕ × ℕ → RwlockView → List ℕ
holder h row r = row.0 ++ if_many r.reads (codes ")") ++ if_dead h row.1 (dead_words r.writes)

-- the clients that hold the lock, each after a text: the first after this one, and each other after
-- a comma  [XSH 2.9]
abbrev pub holders : History → List ℕ → (lead : List ℕ) → List (List ℕ × ℕ) → List ℕ
holders h n lead [] = []
holders h n lead (row ∷ rows) =
    if has_lock (lock_seen h n row.1)
    then lead ++ holder h row (lock_seen h n row.1) ++ holders h n (codes ", ") rows
    else holders h n lead rows

-- what is said of a lock before its holders
abbrev pub hold_words : (is_written is_read : Bool) → List ℕ
hold_words true is_read = codes "written by "
hold_words false true = codes "read by "
hold_words false false = codes "free"

-- who holds a read-write lock  [XSH 2.9]
abbrev pub rwlock_words : History → List (List ℕ × ℕ) → List ℕ → List ℕ
rwlock_words h clients n =
    hold_words (lock_seen h n 0).is_written (lock_seen h n 0).is_read ++ holders h n [] clients

-- what a call at a read-write lock waits for  [XSH pthread_rwlock_wrlock]
abbrev pub aim_words : (writes : Bool) → List ℕ
aim_words true = codes " writes"
aim_words false = codes " reads"

-- what decides a call's turn at an object of this class, besides its arrival  [XSH 2.8.4]
abbrev pub key_words : ObjectClass → Key → List ℕ
key_words class.Barrier k = []
key_words class.Rwlock k = 32 ∷ decimal k.priority ++ aim_words k.writes
key_words _ k = 32 ∷ decimal k.priority

-- turns in order, each after a text: the first after this one, and each other after a comma
abbrev pub turn_words : (lead : List ℕ) → ObjectClass → List Turn → List ℕ
turn_words lead class [] = []
turn_words lead class (t ∷ ts) =
    lead ++ t.name ++ key_words class t.key ++ turn_words (codes ", ") class ts

-- the calls that wait at a condition  [XSH pthread_cond_wait]
abbrev pub cond_words : List Turn → List ℕ
cond_words [] = codes "nobody waits"
cond_words (t ∷ ts) = turn_words (codes "waiting: ") class.Cond (t ∷ ts)

-- how many calls of this count wait at a barrier, and which  [XSH pthread_barrier_wait]
abbrev pub barrier_words : ℕ → List Turn → List ℕ
barrier_words count ts =
    decimal (length ts) ++ codes " of " ++ decimal count ++ turn_words (codes ": ") class.Barrier ts

-- what the object of this class with this name does, at which these calls wait
abbrev pub object_words : History → List (List ℕ × ℕ) → List ℕ → ObjectClass → List Turn → List ℕ
object_words h clients n class.Mutex ts =
    mutex_words h clients (mutex_named h n) ++ turn_words (codes "; next: ") class.Mutex ts
object_words h clients n class.Rwlock ts =
    rwlock_words h clients n ++ turn_words (codes "; next: ") class.Rwlock ts
object_words h clients n class.Cond ts = cond_words ts
object_words h clients n class.Barrier ts = barrier_words (unwrap_or (count_at h n) 0) ts

-- the row of the object of this class with this name and this number, if there is one. A trace
-- reads a line that begins with a space as a remark  [profile]
abbrev pub state_by : History → List (List ℕ × ℕ) → List ℕ → ObjectClass → Option ℕ → List ℕ
state_by h clients n class None = []
state_by h clients n class (Some o) =
    codes "       " ++ n ++ codes ": "
    ++ object_words h clients n class (turns_at h class o clients) ++ 10 ∷ []

-- the row of the object of this class that bears the name, if one does  [profile]
abbrev pub state : History → List (List ℕ × ℕ) → List ℕ → ObjectClass → List ℕ
state h clients n class = state_by h clients n class (find_object h n class)

-- the rows of the objects that a call names, except one that it makes, in the order of its
-- arguments  [profile]
abbrev pub states : History → List (List ℕ × ℕ) → Operation → List ℕ
states h clients (Inits n kind) = []
states h clients (Ends n class) = state h clients n class
states h clients (Acquires n lock_kind how) = state h clients n (class_needed lock_kind)
states h clients (Unlocks n) = state h clients n class.Mutex
states h clients (Restores n) = state h clients n class.Mutex
states h clients (Rwunlocks n) = state h clients n class.Rwlock
states h clients (CondWaits n k deadline) =
    state h clients n class.Cond ++ state h clients k class.Mutex
states h clients (Signals n) = state h clients n class.Cond
states h clients (Broadcasts n) = state h clients n class.Cond
states h clients (BarrierWaits n) = state h clients n class.Barrier
