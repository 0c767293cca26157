use Rattle.std.proofs.Common.{refl, sym, ◌∙◌}
use Rattle.pt_types.specs.declared.operations.LockKind.TheVariants.{ReadLock, WriteLock}
use Rattle.pt_types.specs.declared.outcome.Outcome.TheVariants.{Done}
use Rattle.pt_state.specs.Adds.{history_of}
use Rattle.pt_machine.proofs.GrantedLocks.{adds-lock, for-read, for-write, is_had, waits}
use Rattle.pt_machine.proofs.granted_at_once.push_rwlock_and_grant.Goals as goal

pub push_read_and_grant-requires-clause-granted : goal.push_read_and_grant-requires-clause-granted
push_read_and_grant-requires-clause-granted g c =
    let s = c.args.state.now in
    let is = for-read (history_of s) c.args.c c.args.call.now c.requires.granted
    (sym c.is_read_call.ensures ∙ c.if-is_read_call.true) in (
      waits s c.args.c c.args.call.now c.args.r ReadLock c.requires.has_room c.requires.granted is
          c.requires.object c.requires.next,
      is_had s c.args.c c.args.call.now c.args.r ReadLock c.requires.has_room c.requires.granted is
          c.requires.object c.requires.next,
    )

pub push_write_and_grant-requires-clause-granted : goal.push_write_and_grant-requires-clause-granted
push_write_and_grant-requires-clause-granted g c =
    let s = c.args.state.now in
    let is = for-write (history_of s) c.args.c c.args.call.now c.requires.granted c.requires.lock
    (sym c.is_read_call.ensures ∙ c.if-is_read_call.false) in (
      waits s c.args.c c.args.call.now c.args.r WriteLock c.requires.has_room c.requires.granted is
          c.requires.object c.requires.next,
      is_had s c.args.c c.args.call.now c.args.r WriteLock c.requires.has_room c.requires.granted is
          c.requires.object c.requires.next,
    )

pub returns-then-is_read_call : goal.returns-then-is_read_call
returns-then-is_read_call g c = record {
  ok = let s = c.args.state.now in
      let is = for-read (history_of s) c.args.c c.args.call.now c.requires.granted
      (sym c.is_read_call.ensures ∙ c.if-is_read_call.true) in
      let acquisition = is_had s c.args.c c.args.call.now c.args.r ReadLock c.requires.has_room
      c.requires.granted is c.requires.object c.requires.next in
      adds-lock s c.args.c c.args.call.now c.args.r ReadLock c.requires.has_room c.requires.granted
      is
      c.requires.object c.requires.next Done c.push_read_and_grant.new.self
      (c.in_ok-push_read_and_grant.ensures.ok _ acquisition) (λ q. refl);
  unchanged = tt;
  err = tt;
  succeeds_if = λ other. refl;
}

pub returns : goal.returns
returns g c = record {
  ok = let s = c.args.state.now in
      let is = for-write (history_of s) c.args.c c.args.call.now c.requires.granted c.requires.lock
      (sym c.is_read_call.ensures ∙ c.if-is_read_call.false) in
      let acquisition = is_had s c.args.c c.args.call.now c.args.r WriteLock c.requires.has_room
      c.requires.granted is c.requires.object c.requires.next in
      adds-lock s c.args.c c.args.call.now c.args.r WriteLock c.requires.has_room c.requires.granted
      is
      c.requires.object c.requires.next Done c.push_write_and_grant.new.self
      (c.push_write_and_grant.ensures _ acquisition) (λ q. refl);
  unchanged = tt;
  err = tt;
  succeeds_if = λ other. refl;
}
