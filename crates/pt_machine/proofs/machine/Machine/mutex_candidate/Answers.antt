use Rattle.std.proofs.Common.{◌≡◌, Some, None, option_map, sym, ap, ◌∙◌}
use Rattle.std.specs.Option.{option_copied}
use Rattle.pt_table.specs.ClientRows.{client_value}
use Rattle.pt_records.specs.Callers.{open_in}
use Rattle.pt_types.specs.declared.operations.ObjectClass.TheVariants.{Barrier as BarrierClass}
use Rattle.pt_model.specs.Objects.{is_class}
use Rattle.pt_model.specs.Queries.{client_of_found}
use Rattle.pt_records.specs.Objects.{kind_in_row}
use Rattle.pt_state.specs.Adds.{history_of}
use Rattle.pt_state.specs.Serving.{call_of_open}
use Rattle.pt_machine.proofs.CandidateRows.{if_left, if_taken, mutex-served, mutex-idle}
use Rattle.pt_machine.proofs.CandidateRows.{mutex-free, mutex-plain}
use Rattle.pt_machine.proofs.machine.Machine.mutex_candidate.Goals as goal

pub open_of-requires : goal.open_of-requires
open_of-requires g c = rw c.self.view_is c.requires.tables

pub returns-then-can_grant_mutex : goal.returns-then-can_grant_mutex
returns-then-can_grant_mutex g c =
    let s = c.args.self.now in
    let read = c.requires.tables in
    c.first_at.ensures
    ∙ ap client_of_found
    (mutex-free (history_of s) s.clients s.objects read.follows read.callers read.object_rows.look
    c.args.m c.args.mutex.now c.requires.stored (sym c.can_grant_mutex.ensures
    ∙ c.if-can_grant_mutex.true))

pub first_at-requires-clause-other : goal.first_at-requires-clause-other
first_at-requires-clause-other g c =
    ap (λ k. is_class k BarrierClass)
    (sym (c.requires.tables.object_rows.look.kinds c.args.m)
    ∙ ap (option_map kind_in_row) c.requires.stored)

pub returns-then-is_back_at_mutex : goal.returns-then-is_back_at_mutex
returns-then-is_back_at_mutex g c =
    let s = c.args.self.now in
    let read = c.requires.tables in
    let wait = c.in_ok-wait.wait.now in
    let found : Some wait ≡ open_in (client_value s.clients c.in_ok-owner.field-0) =
    rw (← c.self.view_is) (ap option_copied (sym c.in_ok-wait.was) ∙ c.open_of.ensures) in
    ap client_of_found
    (if_taken c.is_back_at_mutex.result (call_of_open wait) _ c.if-is_back_at_mutex.true
    (mutex-served (history_of s) s.clients s.objects read.follows read.callers read.object_rows.look
    c.args.m c.args.mutex.now c.requires.stored c.in_ok-owner.field-0
    (sym c.can_grant_mutex.ensures ∙ c.if-can_grant_mutex.false)
    (sym c.is_recursive.ensures ∙ c.if-not-is_recursive.false)
    (sym c.owner.ensures ∙ c.in_ok-owner.was) wait found c.is_back_at_mutex.result
    c.is_back_at_mutex.ensures))

pub returns-else-is_back_at_mutex : goal.returns-else-is_back_at_mutex
returns-else-is_back_at_mutex g c =
    let s = c.args.self.now in
    let read = c.requires.tables in
    let wait = c.in_ok-wait.wait.now in
    let found : Some wait ≡ open_in (client_value s.clients c.in_ok-owner.field-0) =
    rw (← c.self.view_is) (ap option_copied (sym c.in_ok-wait.was) ∙ c.open_of.ensures) in
    ap client_of_found
    (if_left c.is_back_at_mutex.result (call_of_open wait) _ c.if-is_back_at_mutex.false
    (mutex-served (history_of s) s.clients s.objects read.follows read.callers read.object_rows.look
    c.args.m c.args.mutex.now c.requires.stored c.in_ok-owner.field-0
    (sym c.can_grant_mutex.ensures ∙ c.if-can_grant_mutex.false)
    (sym c.is_recursive.ensures ∙ c.if-not-is_recursive.false)
    (sym c.owner.ensures ∙ c.in_ok-owner.was) wait found c.is_back_at_mutex.result
    c.is_back_at_mutex.ensures))

pub returns-in_err-wait : goal.returns-in_err-wait
returns-in_err-wait g c =
    let s = c.args.self.now in
    let read = c.requires.tables in
    let found : None ≡ open_in (client_value s.clients c.in_ok-owner.field-0) =
    rw (← c.self.view_is) (ap option_copied (sym c.in_err-wait.was) ∙ c.open_of.ensures) in
    c.from_residual-in_err-wait.ensures
    ∙ ap client_of_found
    (mutex-idle (history_of s) s.clients s.objects read.follows read.callers read.object_rows.look
    c.args.m c.args.mutex.now c.requires.stored c.in_ok-owner.field-0
    (sym c.can_grant_mutex.ensures ∙ c.if-can_grant_mutex.false) (sym c.owner.ensures
    ∙ c.in_ok-owner.was) found)

pub returns-then-not-is_recursive : goal.returns-then-not-is_recursive
returns-then-not-is_recursive g c =
    let s = c.args.self.now in
    let read = c.requires.tables in
    ap client_of_found
    (mutex-plain (history_of s) s.clients s.objects read.follows read.callers read.object_rows.look
    c.args.m c.args.mutex.now c.requires.stored
    (sym c.can_grant_mutex.ensures ∙ c.if-can_grant_mutex.false)
    (sym c.is_recursive.ensures ∙ c.if-not-is_recursive.true))
