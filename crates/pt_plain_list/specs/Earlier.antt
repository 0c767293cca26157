-- Earlier: the first of some waiters after one more is looked at.
use Rattle.std.specs.Prelude.{if◌then◌else◌, Option, Some, None}
use Rattle.pt_waitq.specs.declared.waiter.Waiter.{Waiter}
use Rattle.pt_waitq.specs.Queues.{comes_before}

-- the first of some waiters after one more is put in
abbrev pub earlier_of : Option Waiter → Waiter → Waiter
earlier_of None w = w
earlier_of (Some v) w = if comes_before w v then w else v
