-- Reading: what is read of a core besides its entries and answers.
use Rattle.std.specs.Prelude.{ℕ, ◌==◌, not, ◌&&◌, Bool, List, [], ◌∷◌, Option, Some, None}
use Rattle.std.specs.Prelude.{option_map, unwrap_or, if◌then◌else◌}
use Rattle.pt_types.specs.declared.operations.ObjectClass.{ObjectClass}
use Rattle.pt_types.specs.declared.operations.ObjectClass.TheVariants as class
use Rattle.pt_types.specs.declared.views.MutexView.{MutexView}
use Rattle.pt_types.specs.declared.views.RwlockView.{RwlockView}
use Rattle.pt_model.specs.Histories.{History}
use Rattle.pt_model.specs.Clients.{client_priority}
use Rattle.pt_model.specs.Objects.{find_object, kind_of, barrier_count}
use Rattle.pt_model.specs.Mutexes.{mutex_view}
use Rattle.pt_model.specs.Rwlocks.{rwlock_view}
use Rattle.pt_model.specs.Grants.{is_blocked}
use Rattle.pt_model.specs.declared.waiting_call.WaitingCall.{WaitingCall}
use Rattle.pt_model.specs.Answers.{open_calls}
use Rattle.pt_model.specs.Moves.{wait_object, call_key, waiting_at}
use Rattle.pt_model.specs.Verdicts.{bound_mutex, is_busy}
use Rattle.pt_readable.specs.declared.waiting.Waiting.{Waiting}

-- the mutex that a name means, as its verdict tables see it  [XSH 2.9.3]
abbrev pub mutex_named : History → List ℕ → Option MutexView
mutex_named h n = option_map (mutex_view h) (find_object h n class.Mutex)

-- a read-write lock as it is reported: one that is written counts as read by nobody
abbrev pub reported : RwlockView → RwlockView
reported r = record r {
  reads = if r.writes then 0 else r.reads;
  is_read = not r.is_written && r.is_read;
}

-- the read-write lock that a name means, as it is reported to a client  [XSH 2.9]
abbrev pub rwlock_named : History → List ℕ → ℕ → Option RwlockView
rwlock_named h n c = option_map (λ r. reported (rwlock_view h r c)) (find_object h n class.Rwlock)

-- whether a writer of the client's priority or a higher one waits at the read-write lock that a
-- name means  [XSH pthread_rwlock_rdlock]
abbrev pub blocked_at : History → List ℕ → ℕ → Option Bool
blocked_at h n c =
    option_map (λ r. is_blocked h r (unwrap_or (client_priority h c) 0))
    (find_object h n class.Rwlock)

-- the mutex with which calls wait at the condition that a name means, if some do
-- [XSH pthread_cond_wait]
abbrev pub bound_at : History → List ℕ → Option (Option ℕ)
bound_at h n = option_map (λ q. bound_mutex (waiting_at h q)) (find_object h n class.Cond)

-- whether the object of this class that a name means is in use  [XSH pthread_mutex_destroy]
abbrev pub busy_at : History → List ℕ → ObjectClass → Option Bool
busy_at h n class = option_map (is_busy h class) (find_object h n class)

-- the count of the barrier that a name means  [XSH pthread_barrier_init]
abbrev pub count_at : History → List ℕ → Option ℕ
count_at h n = option_map (λ b. barrier_count (kind_of h b)) (find_object h n class.Barrier)

-- the first of these calls that the client made
abbrev pub call_by : List WaitingCall → ℕ → Option WaitingCall
call_by [] c = None
call_by (w ∷ ws) c = if w.client == c then Some w else call_by ws c

-- the object at which an open call waits, and the key that decides its turn there
-- [XSH 2.8.4, pthread_cond_broadcast]
abbrev pub turn_of : History → WaitingCall → Waiting
turn_of h w = record { object = wait_object h w; key = call_key h w }

-- where a client's open call waits, if it has one, and the key that decides its turn there
-- [XSH 2.8.4]
abbrev pub waiting_of : History → ℕ → Option Waiting
waiting_of h c = option_map (turn_of h) (call_by (open_calls h) c)
