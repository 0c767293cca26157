use Rattle.pt_state.specs.Adds.{history_of}
use Rattle.pt_machine.proofs.GrantedLocks.{asks-for}
use Rattle.std.proofs.Common.{sym, ◌∙◌, refl}
use Rattle.pt_machine.proofs.granted_at_once.push_both.Goals as goal

pub unwrap-o-requires : goal.unwrap-o-requires
unwrap-o-requires g c =
    asks-for (history_of c.args.state.now) c.args.c c.args.call.now c.requires.granted
    c.args.request.now c.requires.request

pub push_lock_and_grant-requires-clause-object : goal.push_lock_and_grant-requires-clause-object
push_lock_and_grant-requires-clause-object g c = sym c.requires.request.object ∙ c.unwrap-o.ensures

pub push_lock_and_grant-requires-clause-mutex : goal.push_lock_and_grant-requires-clause-mutex
push_lock_and_grant-requires-clause-mutex g c = sym c.is_mutex_call.ensures
    ∙ c.if-is_mutex_call.true

pub push_rwlock_and_grant-requires-clause-object : goal.push_rwlock_and_grant-requires-clause-object
push_rwlock_and_grant-requires-clause-object g c = sym c.requires.request.object
    ∙ c.unwrap-o.ensures

pub push_rwlock_and_grant-requires-clause-lock : goal.push_rwlock_and_grant-requires-clause-lock
push_rwlock_and_grant-requires-clause-lock g c = sym c.is_mutex_call.ensures
    ∙ c.if-is_mutex_call.false

pub returns-then-is_mutex_call : goal.returns-then-is_mutex_call
returns-then-is_mutex_call g c = record {
  ok = c.push_lock_and_grant.ensures;
  unchanged = tt;
  err = tt;
  succeeds_if = λ other. refl;
}

pub returns : goal.returns
returns g c = record {
  ok = c.in_ok-push_rwlock_and_grant.ensures.ok;
  unchanged = tt;
  err = tt;
  succeeds_if = λ other. refl;
}
