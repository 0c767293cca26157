use Rattle.std.proofs.Common.{◌≡◌, Some, false, option_map, sym, ap, ◌∙◌, subst}
use Rattle.pt_types.specs.declared.operations.ObjectClass.TheVariants.{Barrier as BarrierClass}
use Rattle.pt_model.specs.Objects.{is_class, kind_of}
use Rattle.pt_model.specs.Queries.{client_of_found}
use Rattle.pt_table.specs.ObjectRows.{object_value}
use Rattle.pt_records.specs.Objects.{kind_in_row}
use Rattle.pt_records.specs.declared.objects.Object.TheVariants as row
use Rattle.pt_state.specs.Adds.{history_of}
use Rattle.pt_next_grant.specs.Candidates.{candidate, candidate_by, mutex_candidate, rwlock_candidate}
use Rattle.pt_machine.specs.Services.{IsService}
use Rattle.pt_machine.proofs.ServiceLemmas.{call-service}
use Rattle.std.specs.Option.{option_copied}
use Rattle.pt_machine.proofs.machine.Machine.service_at.Goals as goal

pub returns-in-Mutex : goal.returns-in-Mutex
returns-in-Mutex g c =
    let s = c.args.self.now in
    let h = history_of s in
    let o = c.args.o in
    let stored : object_value s.objects o ≡ Some (row.Mutex c.in-Mutex.mutex) =
    ap (object_value c.args.self.now.objects) (sym c.o.view_is)
    ∙ ap (λ t. object_value t.objects c.o.inside.0) (sym c.self.view_is)
    ∙ sym c.at.ensures
    ∙ ap option_copied c.in_ok-mutex.was
    ∙ ap Some c.in-Mutex.is in
    let other : is_class (kind_of h o) BarrierClass ≡ false =
    ap (λ k. is_class k BarrierClass)
    (sym (c.requires.object_rows.look.kinds o) ∙ ap (option_map kind_in_row) stored) in
    let same : candidate h o ≡ mutex_candidate h o =
    ap (candidate_by h o)
    (sym (c.requires.object_rows.look.kinds o) ∙ ap (option_map kind_in_row) stored) in
    subst (IsService h (candidate h o)) (sym c.call_served.ensures)
    (call-service h c.requires.follows o other c.mutex_candidate.result
    (c.mutex_candidate.ensures ∙ ap client_of_found (sym same)))

pub returns-in-Rwlock : goal.returns-in-Rwlock
returns-in-Rwlock g c =
    let s = c.args.self.now in
    let h = history_of s in
    let o = c.args.o in
    let stored : object_value s.objects o ≡ Some (row.Rwlock c.in-Rwlock.lock) =
    ap (object_value c.args.self.now.objects) (sym c.o.view_is)
    ∙ ap (λ t. object_value t.objects c.o.inside.0) (sym c.self.view_is)
    ∙ sym c.at.ensures
    ∙ ap option_copied c.in_ok-mutex.was
    ∙ ap Some c.in-Rwlock.is in
    let other : is_class (kind_of h o) BarrierClass ≡ false =
    ap (λ k. is_class k BarrierClass)
    (sym (c.requires.object_rows.look.kinds o) ∙ ap (option_map kind_in_row) stored) in
    let same : candidate h o ≡ rwlock_candidate h o =
    ap (candidate_by h o)
    (sym (c.requires.object_rows.look.kinds o) ∙ ap (option_map kind_in_row) stored) in
    subst (IsService h (candidate h o)) (sym c.call_served-in-Rwlock.ensures)
    (call-service h c.requires.follows o other c.rwlock_candidate.result
    (c.rwlock_candidate.ensures ∙ ap client_of_found (sym same)))

pub mutex_candidate-requires-clause-stored : goal.mutex_candidate-requires-clause-stored
mutex_candidate-requires-clause-stored g c =
    ap (object_value c.args.self.now.objects) (sym c.o.view_is)
    ∙ ap (λ t. object_value t.objects c.o.inside.0) (sym c.self.view_is)
    ∙ sym c.at.ensures
    ∙ ap option_copied c.in_ok-mutex.was
    ∙ ap Some c.in-Mutex.is

pub rwlock_candidate-requires-clause-stored : goal.rwlock_candidate-requires-clause-stored
rwlock_candidate-requires-clause-stored g c =
    ap (object_value c.args.self.now.objects) (sym c.o.view_is)
    ∙ ap (λ t. object_value t.objects c.o.inside.0) (sym c.self.view_is)
    ∙ sym c.at.ensures
    ∙ ap option_copied c.in_ok-mutex.was
    ∙ ap Some c.in-Rwlock.is

pub barrier_service-requires-clause-stored : goal.barrier_service-requires-clause-stored
barrier_service-requires-clause-stored g c =
    ap (object_value c.args.self.now.objects) (sym c.o.view_is)
    ∙ ap (λ t. object_value t.objects c.o.inside.0) (sym c.self.view_is)
    ∙ sym c.at.ensures
    ∙ ap option_copied c.in_ok-mutex.was
    ∙ ap Some c.in-Barrier.is
