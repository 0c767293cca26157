-- DueLemmas: the sooner of the deadlines that are due by one clock and by the other
mod DueLemmas
-- FirstLemmas: the first deadline in the order of a clock
mod FirstLemmas
-- KeyLemmas: the keys of a heap, when one is put in or taken away, and its first key
mod KeyLemmas
-- PlaceLemmas: the deadline that is set at a place, as the orders of the clocks have it
mod PlaceLemmas
-- StaleLemmas: the keys that aren't canceled, when a key is put in or taken away, here or among the
-- canceled ones
mod StaleLemmas
-- TimerLemmas: the deadlines in their orders, when one is set or taken away
mod TimerLemmas
-- OrderLemmas: what a step on the keys of an order, or on its canceled keys, leaves of both
mod OrderLemmas
