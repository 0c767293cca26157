use Rattle.std.proofs.Common.{◌≡◌, Option, Some, ℕ, refl, ◌∙◌}
use Rattle.pt_types.specs.declared.operations.ObjectClass.TheVariants.{Mutex as MutexClass}
use Rattle.pt_model.specs.WaitingCall.{object_or_zero}
use Rattle.pt_state.specs.Adds.{history_of}
use Rattle.pt_machine.proofs.LastTouches.{awaited-there}
use Rattle.pt_machine.proofs.machine.Machine.change_by_wait.Goals as goal

pub unwrap-mutex-requires : goal.unwrap-mutex-requires
unwrap-mutex-requires g c =
    let h = history_of c.args.self.now in
    let there : ◌≡◌ {A = Option ℕ} c.args.object (Some (object_or_zero h c.args.m.now MutexClass)) =
    c.requires.found
    ∙ awaited-there h c.args.c c.args.call.now c.args.n.now c.args.m.now c.args.deadline
    c.requires.step c.requires.operation in
    rw there refl
