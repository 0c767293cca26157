use Rattle.std.proofs.Common.{ap, sym, ◌∙◌}
use Rattle.pt_types.specs.declared.operations.LockKind.{LockKind}
use Rattle.pt_types.specs.declared.operations.LockKind.TheVariants.{MutexLock, ReadLock, WriteLock}
use Rattle.pt_history.specs.Compact.{with_limit}
use Rattle.pt_history.proofs.compact.timed_call.Goals as goal

pub returns-in-MutexLock-None : goal.returns-in-MutexLock-None
returns-in-MutexLock-None c =
    let d = c.args.limit.deadline in
    sym (ap (λ (k : LockKind). with_limit k c.args.name d c.args.limit.clock)
    c.in-MutexLock-None.is-0
    ∙ ap (with_limit MutexLock c.args.name d) c.in-MutexLock-None.is-1)

pub returns-in-MutexLock-Some : goal.returns-in-MutexLock-Some
returns-in-MutexLock-Some c =
    let d = c.args.limit.deadline in
    sym (ap (λ (k : LockKind). with_limit k c.args.name d c.args.limit.clock)
    c.in-MutexLock-Some.is-0
    ∙ ap (with_limit MutexLock c.args.name d) c.in-MutexLock-Some.is-1)

pub returns-in-ReadLock-None : goal.returns-in-ReadLock-None
returns-in-ReadLock-None c =
    let d = c.args.limit.deadline in
    sym (ap (λ (k : LockKind). with_limit k c.args.name d c.args.limit.clock)
    c.in-ReadLock-None.is-0
    ∙ ap (with_limit ReadLock c.args.name d) c.in-ReadLock-None.is-1)

pub returns-in-ReadLock-Some : goal.returns-in-ReadLock-Some
returns-in-ReadLock-Some c =
    let d = c.args.limit.deadline in
    sym (ap (λ (k : LockKind). with_limit k c.args.name d c.args.limit.clock)
    c.in-ReadLock-Some.is-0
    ∙ ap (with_limit ReadLock c.args.name d) c.in-ReadLock-Some.is-1)

pub returns-in-WriteLock-None : goal.returns-in-WriteLock-None
returns-in-WriteLock-None c =
    let d = c.args.limit.deadline in
    sym (ap (λ (k : LockKind). with_limit k c.args.name d c.args.limit.clock)
    c.in-WriteLock-None.is-0
    ∙ ap (with_limit WriteLock c.args.name d) c.in-WriteLock-None.is-1)

pub returns-in-WriteLock-Some : goal.returns-in-WriteLock-Some
returns-in-WriteLock-Some c =
    let d = c.args.limit.deadline in
    sym (ap (λ (k : LockKind). with_limit k c.args.name d c.args.limit.clock)
    c.in-WriteLock-Some.is-0
    ∙ ap (with_limit WriteLock c.args.name d) c.in-WriteLock-Some.is-1)
