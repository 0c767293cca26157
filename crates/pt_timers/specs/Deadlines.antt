-- Deadlines: a finite map from places to deadlines, each with its clock and in nanoseconds.
use Rattle.std.specs.Prelude.{ℕ, ◌≡◌, ◌≤◌, ◌<◌, ◌*◌, ◌==◌, ◌&&◌, not, Bool, true, false, nat_le}
use Rattle.std.specs.Prelude.{if◌then◌else◌, List, [], ◌∷◌, Option, Some, None, MatchOption}
use Rattle.std.specs.declared.cmp.Ordering.{Ordering}
use Rattle.std.specs.Ordering.{ordering_then, nat_cmp}
use Rattle.std.specs.BTreeMap.{is_at}
use Rattle.std.specs.BinaryHeap.{IsHeap}
use Rattle.std.specs.List.{list_any, filter}
use Rattle.pt_types.specs.declared.time.Clock.{Clock}
use Rattle.pt_types.specs.declared.time.Clock.TheVariants.{Real, Mono}
use Rattle.pt_types.specs.Operations.{same_clock}
use Rattle.pt_types.specs.Limits.{nanoseconds_per_second}
use Rattle.pt_types.specs.Times.{Timespec, deadline_nanos, is_invalid_deadline, pair_before}
use Rattle.pt_timers.specs.declared.key.TimerKey.{TimerKey}

-- the deadline that is set at a place: its clock, and its nanoseconds
abbrev pub deadline_at : List (ℕ × (Clock × ℕ)) → ℕ → Option (Clock × ℕ)
deadline_at [] p = None
deadline_at (t ∷ ts) p = if t.0 == p then Some t.1 else deadline_at ts p

-- whether the deadline that is set at a place is this one
abbrev pub is_set_to : Clock → ℕ → Option (Clock × ℕ) → Bool
is_set_to k n None = false
is_set_to k n (Some d) = same_clock k d.0 && (n == d.1)

-- what each clock shows, which is nothing before its first moment
abbrev pub moments : Option ℕ → Option ℕ → Clock → Option ℕ
moments real mono Real = real
moments real mono Mono = mono

-- whether a clock that shows this has reached a deadline  [XSH pthread_mutex_timedlock]
abbrev pub is_reached : Option ℕ → ℕ → Bool
is_reached None n = false
is_reached (Some now) n = nat_le n now

-- the pair that decides which key is due first: the deadline, then the place
abbrev pub pair_of : TimerKey → ℕ × ℕ
pair_of k = (k.nanos, k.place)

-- it is the least of a clock's deadlines by (deadline, place), and the clock has reached it, or
-- none if the clock has reached none
abbrev pub IsFirstDue : List (ℕ × (Clock × ℕ)) → Clock → Option ℕ → Option TimerKey → Type 0
IsFirstDue ts k now found =
    MatchOption found
    ((q m : ℕ) → deadline_at ts q ≡ Some (k, m) → is_reached now m ≡ false)
    (λ t. (deadline_at ts t.place ≡ Some (k, t.nanos))
    × (is_reached now t.nanos ≡ true)
    × ((q m : ℕ) → deadline_at ts q ≡ Some (k, m) → pair_before (m, q) (pair_of t) ≡ false))

-- it is the place of the least deadline, by (deadline, place), of those that their own clocks have
-- reached, whichever the clock, or none if none is reached
-- [XSH pthread_mutex_clocklock; the order is profile]
abbrev pub IsLeastDue : List (ℕ × (Clock × ℕ)) → (Clock → Option ℕ) → Option ℕ → Type 0
IsLeastDue ts now found =
    MatchOption found
    ((q : ℕ) (k : Clock) (m : ℕ) → deadline_at ts q ≡ Some (k, m) → is_reached (now k) m ≡ false)
    (λ p. (k : Clock) × (n : ℕ) × (deadline_at ts p ≡ Some (k, n)) × (is_reached (now k) n ≡ true)
    × ((q : ℕ) (l : Clock) (m : ℕ) → deadline_at ts q ≡ Some (l, m)
    → is_reached (now l) m ≡ true → pair_before (m, q) (n, p) ≡ false))

-- it is the least deadline that is set of this clock, as a time, or none if none is set
abbrev pub IsLeast : List (ℕ × (Clock × ℕ)) → Clock → Option Timespec → Type 0
IsLeast ts k found =
    MatchOption found
    ((q m : ℕ) → deadline_at ts q ≡ Some (k, m) → ⊥)
    (λ d. (p : ℕ) × (deadline_at ts p ≡ Some (k, deadline_nanos d)) × (is_invalid_deadline d
    ≡ false)
    × ((q m : ℕ) → deadline_at ts q ≡ Some (k, m) → deadline_nanos d ≤ m))

-- the sooner of the two keys, or the second if there is no first
abbrev pub sooner_of : Option TimerKey → TimerKey → TimerKey
sooner_of None t = t
sooner_of (Some b) t = if pair_before (pair_of t) (pair_of b) then t else b

-- a key with these nanoseconds and this place
abbrev pub timer_key : ℕ → ℕ → TimerKey
timer_key n p = record { nanos = n; place = p; client = 0 }

-- whether two keys have the same deadline and place
abbrev pub same_key : TimerKey → TimerKey → Bool
same_key a b = (a.nanos == b.nanos) && (a.place == b.place)

-- whether a key was found and equals this one
abbrev pub is_found : Option TimerKey → TimerKey → Bool
is_found None key = false
is_found (Some f) key = same_key f key

-- the order of the keys, by nanoseconds and then by place, in which the later key is the lesser
abbrev pub key_cmp : TimerKey → TimerKey → Ordering
key_cmp a b = ordering_then (nat_cmp b.nanos a.nanos) (nat_cmp b.place a.place)

-- whether one of these keys has this deadline and place
abbrev pub is_in : List TimerKey → TimerKey → Bool
is_in keys q = list_any (is_at (key_cmp q)) keys

-- it is one of these keys, and none of them is due before it, or none if there are no keys
abbrev pub IsFirstKey : List TimerKey → Option TimerKey → Type 0
IsFirstKey keys found =
    MatchOption found
    ((q : TimerKey) → is_in keys q ≡ false)
    (λ k. (is_in keys k ≡ true)
    × ((q : TimerKey) → is_in keys q ≡ true → pair_before (pair_of q) (pair_of k) ≡ false))

-- the keys that are not canceled
abbrev pub live_keys : List TimerKey → List TimerKey → List TimerKey
live_keys keys canceled = filter (λ k. not (is_in canceled k)) keys

-- whether a key is among these and is not canceled
abbrev pub is_live : List TimerKey → List TimerKey → TimerKey → Bool
is_live keys canceled q = not (is_in canceled q) && is_in keys q

-- the first of the keys is not canceled
abbrev pub HasLiveFirst : List TimerKey → List TimerKey → Type 0
HasLiveFirst keys canceled = (t : TimerKey) → IsFirstKey keys (Some t) → is_in canceled t ≡ false

-- no key has a place after this one
abbrev pub ComeBefore : List TimerKey → ℕ → Type 0
ComeBefore keys last = (q : TimerKey) → is_in keys q ≡ true → q.place ≤ last

-- both lists are heaps, the first of the keys is not canceled, and no canceled key has a place
-- after `last`
pub record IsOrder (keys canceled : List TimerKey) (last : ℕ) : Type 0 where
  pub heap : IsHeap key_cmp keys
  pub canceled_heap : IsHeap key_cmp canceled
  pub live_first : HasLiveFirst keys canceled
  pub before : ComeBefore canceled last

-- the limit below which the nanoseconds of a deadline that is a time are  [profile]
abbrev pub max_nanos : ℕ
max_nanos = 10000000000 * nanoseconds_per_second

-- the deadlines in the orders are those that are set at their places, and each is a time
-- [XSH pthread_mutex_timedlock, EINVAL]
pub record AreTimers (places : List (ℕ × (Clock × ℕ)))
    (is_due : Clock → TimerKey → Bool) : Type 0 where
  pub placed : (k : Clock) (q : TimerKey) → is_due k q ≡ true
      → (deadline_at places q.place ≡ Some (k, q.nanos)) × (q.nanos < max_nanos)
  pub ordered : (p : ℕ) (k : Clock) (n : ℕ) → deadline_at places p ≡ Some (k, n)
      → is_due k (timer_key n p) ≡ true
