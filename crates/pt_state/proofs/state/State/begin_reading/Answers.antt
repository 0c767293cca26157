use Rattle.std.proofs.Common.{refl, Result, Ok, Err, OnOk, OnErr}
use Rattle.pt_records.specs.declared.objects.Object.TheVariants.{Rwlock}
use Rattle.pt_rwlock.specs.RwlockState.{with_row}
use Rattle.pt_records.proofs.Chaining.{chained-written}
use Rattle.pt_state.proofs.WaitingLemmas.{nearly-left}
use Rattle.pt_state.proofs.WaitingObjects.{lock-there, object_rows-reading, stayed-again}
use Rattle.pt_state.proofs.state.State.begin_reading.Goals as goal

-- what follows from two promises about an Ok
of-both : {T E A B P : Type 0} (answer : Result T E) → OnOk answer A → OnOk answer B
    → (A → B → P) → OnOk answer P
of-both (Ok v) a b f = f a b
of-both (Err e) a b f = tt

-- what follows from a promise about an Err
of-err : {T E A P : Type 0} (answer : Result T E) → OnErr answer A → (A → P) → OnErr answer P
of-err (Ok v) a f = tt
of-err (Err e) a f = f a

pub make_row-requires : goal.make_row-requires
make_row-requires g c =
    let lock = lock-there c.args.self.now c.args.c c.args.call.now c.requires.has_room
    c.args.open.now
    c.requires.new_waiting c.requires.role in
    rw lock.1 refl

pub returns-clause-ok : goal.returns-clause-ok
returns-clause-ok g c =
    let lock = lock-there c.args.self.now c.args.c c.args.call.now c.requires.has_room
    c.args.open.now
    c.requires.new_waiting c.requires.role in
    of-both c.make_row.result (c.make_row.ensures.ok lock.0 lock.1)
    (c.make_row.ensures.row lock.0 lock.1) (λ written changed.
    nearly-left c.args.self.now c.args.c c.args.call.now c.requires.has_room c.args.open.now
    c.requires.new_waiting c.args.self.now.clients refl c.make_row.new.objects
    (object_rows-reading c.args.self.now c.args.c c.args.call.now c.requires.has_room
    c.args.open.now
    c.requires.new_waiting c.make_row.new.objects lock.0 c.requires.role lock.1 written changed)
    (chained-written c.args.self.now.clients c.args.self.now.objects c.make_row.new.objects
    c.args.self.now.orphans c.requires.has_room.read.chained c.args.open.now.call.object
    (Rwlock lock.0) (Rwlock (with_row lock.0 c.args.c)) lock.1 written refl
    (c.make_row.ensures.chains lock.0 lock.1)))

pub returns-clause-unchanged : goal.returns-clause-unchanged
returns-clause-unchanged g c =
    let lock = lock-there c.args.self.now c.args.c c.args.call.now c.requires.has_room
    c.args.open.now
    c.requires.new_waiting c.requires.role in
    of-err c.make_row.result (c.make_row.ensures.unchanged lock.0 lock.1) (λ written.
    stayed-again c.args.self.now c.make_row.new.objects c.args.open.now.call.object (Rwlock lock.0)
    c.requires.has_room.read lock.1 written (c.make_row.ensures.chains lock.0 lock.1))
