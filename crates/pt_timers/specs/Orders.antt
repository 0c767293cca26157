-- Orders: the deadlines of each clock, by their keys.
use Rattle.std.specs.Prelude.{ℕ, Bool, List, [], ◌∷◌, ◌++◌}
use Rattle.pt_types.specs.declared.time.Clock.{Clock}
use Rattle.pt_types.specs.declared.time.Clock.TheVariants.{Real, Mono}
use Rattle.pt_timers.specs.declared.key.TimerKey.{TimerKey}
use Rattle.pt_timers.specs.declared.orders.Orders.{Orders}
use Rattle.pt_timers.specs.Deadlines.{is_in}

-- the deadlines of a clock  [XSH pthread_mutex_clocklock]
abbrev pub order_of : {A : Type 0} → Orders A → Clock → List TimerKey
order_of o Real = o.real
order_of o Mono = o.mono

-- whether a deadline of a clock has this key  [XSH pthread_mutex_clocklock]
abbrev pub is_due_at : {A : Type 0} → Orders A → Clock → TimerKey → Bool
is_due_at o k key = is_in (order_of o k) key

-- the deadlines of a clock that have these keys, by their places
abbrev pub by_places : Clock → List TimerKey → List (ℕ × (Clock × ℕ))
by_places k [] = []
by_places k (q ∷ qs) = (q.place, (k, q.nanos)) ∷ by_places k qs

-- the deadlines of both clocks, by their places
abbrev pub timer_list : {A : Type 0} → Orders A → List (ℕ × (Clock × ℕ))
timer_list o = by_places Real o.real ++ by_places Mono o.mono
