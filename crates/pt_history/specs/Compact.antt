-- Compact: how entries are read back from their stored form.
use Rattle.std.specs.Prelude.{ℕ, ◌+◌, ◌-◌, ◌<◌, ◌≤◌, ◌≡◌, List, length, take, drop, Option, Some}
use Rattle.std.specs.Prelude.{None, slice_index_or}
use Rattle.pt_types.specs.Names.{IsName}
use Rattle.pt_types.specs.Times.{Timespec}
use Rattle.pt_types.specs.declared.time.Clock.{Clock}
use Rattle.pt_types.specs.declared.outcome.Outcome.{Outcome}
use Rattle.pt_types.specs.declared.outcome.Outcome.TheVariants.{Done as DoneOutcome}
use Rattle.pt_types.specs.declared.outcome.Outcome.TheVariants.{Serial as SerialOutcome}
use Rattle.pt_types.specs.declared.outcome.Outcome.TheVariants.{Eperm as EpermOutcome}
use Rattle.pt_types.specs.declared.outcome.Outcome.TheVariants.{Einval as EinvalOutcome}
use Rattle.pt_types.specs.declared.outcome.Outcome.TheVariants.{Ebusy as EbusyOutcome}
use Rattle.pt_types.specs.declared.outcome.Outcome.TheVariants.{Eagain as EagainOutcome}
use Rattle.pt_types.specs.declared.outcome.Outcome.TheVariants.{Edeadlk as EdeadlkOutcome}
use Rattle.pt_types.specs.declared.outcome.Outcome.TheVariants.{Etimedout as EtimedoutOutcome}
use Rattle.pt_types.specs.declared.outcome.Outcome.TheVariants.{Eownerdead as EownerdeadOutcome}
use Rattle.pt_types.specs.declared.outcome.Outcome.TheVariants.{
  Enotrecoverable as EnotrecoverableOutcome,
}
use Rattle.pt_types.specs.declared.operations.LockKind.{LockKind}
use Rattle.pt_types.specs.declared.operations.LockKind.TheVariants.{MutexLock, ReadLock, WriteLock}
use Rattle.pt_types.specs.declared.call.Call.{Call}
use Rattle.pt_types.specs.declared.call.Call.TheVariants.{MutexInit, Timedlock, Clocklock}
use Rattle.pt_types.specs.declared.call.Call.TheVariants.{Timedrdlock, Clockrdlock, Timedwrlock}
use Rattle.pt_types.specs.declared.call.Call.TheVariants.{Clockwrlock, BarrierInit}
use Rattle.pt_types.specs.declared.call.Call.TheVariants.{Wait as WaitCall, Timedwait, Clockwait}
use Rattle.pt_types.specs.NamedVerbs.{call_on}
use Rattle.pt_model.specs.declared.entry.Entry.{Entry}
use Rattle.pt_model.specs.declared.entry.Entry.TheVariants.{Join as JoinEntry, Call as CallEntry}
use Rattle.pt_model.specs.declared.entry.Entry.TheVariants.{Death as DeathEntry}
use Rattle.pt_model.specs.declared.entry.Entry.TheVariants.{Moment as MomentEntry}
use Rattle.pt_model.specs.declared.entry.Entry.TheVariants.{Grant as GrantEntry, Trip as TripEntry}
use Rattle.pt_model.specs.declared.entry.Entry.TheVariants.{Yield as YieldEntry}
use Rattle.pt_model.specs.declared.entry.Entry.TheVariants.{Expire as ExpireEntry}
use Rattle.pt_history.specs.declared.compact.Word.{Word}
use Rattle.pt_history.specs.declared.compact.Word.TheVariants.{MutexInit as MutexInitWord}
use Rattle.pt_history.specs.declared.compact.Word.TheVariants.{Named as NamedWord}
use Rattle.pt_history.specs.declared.compact.Answer.{Answer}
use Rattle.pt_history.specs.declared.compact.Answer.TheVariants.{Waits, Done, Serial, Eperm, Einval}
use Rattle.pt_history.specs.declared.compact.Answer.TheVariants.{Ebusy, Eagain, Edeadlk, Etimedout}
use Rattle.pt_history.specs.declared.compact.Answer.TheVariants.{Eownerdead, Enotrecoverable}
use Rattle.pt_history.specs.declared.compact.TimeLimit.{TimeLimit}
use Rattle.pt_history.specs.declared.compact.ForcedEntry.{ForcedEntry}
use Rattle.pt_history.specs.declared.compact.ForcedEntry.TheVariants.{Grant as GrantForced}
use Rattle.pt_history.specs.declared.compact.ForcedEntry.TheVariants.{Trip as TripForced}
use Rattle.pt_history.specs.declared.compact.ForcedEntry.TheVariants.{Yield as YieldForced}
use Rattle.pt_history.specs.declared.compact.ForcedEntry.TheVariants.{Expire as ExpireForced}
use Rattle.pt_history.specs.declared.compact.Compact.{Compact}
use Rattle.pt_history.specs.declared.compact.Compact.TheVariants.{Join, Named, Barrier, Timed, Wait}
use Rattle.pt_history.specs.declared.compact.Compact.TheVariants.{TimedWait, Death, Moment, Grant}
use Rattle.pt_history.specs.declared.compact.Compact.TheVariants.{Trip, Yield, Expire, Whole}

-- a forced entry as an entry of any kind
abbrev pub forced_entry : ForcedEntry → Entry
forced_entry (GrantForced j x) = GrantEntry j x
forced_entry (TripForced b) = TripEntry b
forced_entry (YieldForced m) = YieldEntry m
forced_entry (ExpireForced j) = ExpireEntry j

-- the call of a word and a name
abbrev pub call_of_word : Word → List ℕ → Call
call_of_word (MutexInitWord kind robust) n = MutexInit n kind robust
call_of_word (NamedWord verb) n = call_on verb n

-- the base from which numbers are counted in a history that begins at a place
abbrev pub base_of : ℕ → ℕ
base_of at = at - 2147483648

-- the text of this length that begins at an index
abbrev pub text_at : List ℕ → ℕ → ℕ → List ℕ
text_at texts from count = take count (drop from texts)

-- the outcome of an answer, or none if the call waits
abbrev pub outcome_of_answer : Answer → Option Outcome
outcome_of_answer Waits = None
outcome_of_answer Done = Some DoneOutcome
outcome_of_answer Serial = Some SerialOutcome
outcome_of_answer Eperm = Some EpermOutcome
outcome_of_answer Einval = Some EinvalOutcome
outcome_of_answer Ebusy = Some EbusyOutcome
outcome_of_answer Eagain = Some EagainOutcome
outcome_of_answer Edeadlk = Some EdeadlkOutcome
outcome_of_answer Etimedout = Some EtimedoutOutcome
outcome_of_answer Eownerdead = Some EownerdeadOutcome
outcome_of_answer Enotrecoverable = Some EnotrecoverableOutcome

-- the call for a lock with a deadline, and perhaps a clock
abbrev pub with_limit : LockKind → List ℕ → Timespec → Option Clock → Call
with_limit MutexLock n d None = Timedlock n d
with_limit MutexLock n d (Some k) = Clocklock n k d
with_limit ReadLock n d None = Timedrdlock n d
with_limit ReadLock n d (Some k) = Clockrdlock n k d
with_limit WriteLock n d None = Timedwrlock n d
with_limit WriteLock n d (Some k) = Clockwrlock n k d

-- the wait with a deadline, and perhaps a clock
abbrev pub wait_until : List ℕ → List ℕ → Timespec → Option Clock → Call
wait_until n m d None = Timedwait n m d
wait_until n m d (Some k) = Clockwait n m k d

-- what stored entries refer to: texts, limits, readings, and entries that are stored whole
pub record Parts : Type 0 where
  pub texts : List ℕ
  pub limits : List TimeLimit
  pub moments : List ℕ
  pub wholes : List Entry

-- the limit at an index
abbrev pub limit_at : Parts → ℕ → TimeLimit
limit_at p l =
    slice_index_or p.limits l
    (record { deadline = record { sec = 0; nsec = 0 }; clock = None })

-- the entry that is read back from a stored one, by a base and the parts
abbrev pub read_compact : ℕ → Parts → Compact → Entry
read_compact b p (Join k c) = JoinEntry (b + c) k
read_compact b p (Named w a n c i) = CallEntry (b + c) (call_of_word w (text_at p.texts i n))
    (outcome_of_answer a)
read_compact b p (Barrier a n c i k) =
    CallEntry (b + c) (BarrierInit (text_at p.texts i n) k) (outcome_of_answer a)
read_compact b p (Timed k a n c i l) =
    CallEntry (b + c)
    (with_limit k (text_at p.texts i n) (limit_at p l).deadline (limit_at p l).clock)
    (outcome_of_answer a)
read_compact b p (Wait a n m c i) =
    CallEntry (b + c) (WaitCall (text_at p.texts i n) (text_at p.texts (i + n) m))
    (outcome_of_answer a)
read_compact b p (TimedWait a n m c i l) =
    CallEntry (b + c)
    (wait_until (text_at p.texts i n) (text_at p.texts (i + n) m)
    (limit_at p l).deadline (limit_at p l).clock)
    (outcome_of_answer a)
read_compact b p (Death c) = DeathEntry (b + c)
read_compact b p (Moment k i) = MomentEntry k (slice_index_or p.moments i 0)
read_compact b p (Grant x j) = GrantEntry (b + j) x
read_compact b p (Trip o) = TripEntry (b + o)
read_compact b p (Yield o) = YieldEntry (b + o)
read_compact b p (Expire j) = ExpireEntry (b + j)
read_compact b p (Whole i) = slice_index_or p.wholes i (TripEntry 0)

-- a name of this length begins at an index
pub record IsText (texts : List ℕ) (from count : ℕ) : Type 0 where
  pub within : from + count ≤ length texts
  pub name : IsName (text_at texts from count)

-- two names of these lengths begin at an index, one after the other
pub record AreTexts (texts : List ℕ) (from first second : ℕ) : Type 0 where
  pub one : IsText texts from first
  pub other : IsText texts (from + first) second

-- a name of this length begins at an index, and there is a limit at another index
pub record HasLimit (p : Parts) (from count l : ℕ) : Type 0 where
  pub text : IsText p.texts from count
  pub limit : l < length p.limits

-- two names of these lengths begin at an index, and there is a limit at another index
pub record HaveLimit (p : Parts) (from first second l : ℕ) : Type 0 where
  pub texts : AreTexts p.texts from first second
  pub limit : l < length p.limits

-- everything that a stored entry refers to is stored
abbrev pub IsStored : Parts → Compact → Type 0
IsStored p (Named w a n c i) = IsText p.texts i n
IsStored p (Barrier a n c i k) = IsText p.texts i n
IsStored p (Timed k a n c i l) = HasLimit p i n l
IsStored p (Wait a n m c i) = AreTexts p.texts i n m
IsStored p (TimedWait a n m c i l) = HaveLimit p i n m l
IsStored p (Moment k i) = i < length p.moments
IsStored p (Whole i) = i < length p.wholes
IsStored p _ = Unit {0}

-- the stored entry is read back as this one, whatever else is stored
pub record ShowsSingle (b : ℕ) (c : Compact) (e : Entry) : Type 0 where
  pub same : (p : Parts) → read_compact b p c ≡ e
  pub stored : (p : Parts) → IsStored p c
