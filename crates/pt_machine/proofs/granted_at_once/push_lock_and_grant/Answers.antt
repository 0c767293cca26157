use Rattle.pt_types.specs.declared.operations.LockKind.TheVariants.{MutexLock}
use Rattle.pt_state.specs.Adds.{history_of}
use Rattle.pt_machine.proofs.GrantedLocks.{for-mutex, is_had, mutex-granted, waits}
use Rattle.pt_machine.proofs.granted_at_once.push_lock_and_grant.Goals as goal

pub push_lock_and_grant-acquisition-requires-clause-granted :
    goal.push_lock_and_grant-acquisition-requires-clause-granted
push_lock_and_grant-acquisition-requires-clause-granted g c =
    let s = c.args.state.now in
    let is = for-mutex (history_of s) c.args.c c.args.call.now c.requires.granted c.requires.mutex
    in (
      waits s c.args.c c.args.call.now c.args.m MutexLock c.requires.has_room c.requires.granted is
          c.requires.object c.requires.next,
      is_had s c.args.c c.args.call.now c.args.m MutexLock c.requires.has_room c.requires.granted is
          c.requires.object c.requires.next,
    )

pub returns : goal.returns
returns g c =
    let s = c.args.state.now in
    let is = for-mutex (history_of s) c.args.c c.args.call.now c.requires.granted c.requires.mutex
    in
    let acquisition = is_had s c.args.c c.args.call.now c.args.m MutexLock c.requires.has_room
    c.requires.granted is c.requires.object c.requires.next in
    mutex-granted s c.args.c c.args.call.now c.args.m c.requires.has_room c.requires.granted is
    c.requires.object c.requires.next c.push_lock_and_grant-acquisition.result.outcome
    c.push_lock_and_grant-acquisition.new.self
    (c.push_lock_and_grant-acquisition.ensures.adds _ acquisition) c.push_lock_and_grant-acquisition.result.robust
    c.push_lock_and_grant-acquisition.ensures.robust c.unreserved_by_lock.result
    c.unreserved_by_lock.ensures
