use Rattle.std.proofs.Common.{◌≡◌, Some, None, sym, ap, ◌∙◌}
use Rattle.std.specs.Option.{option_copied}
use Rattle.pt_table.specs.ClientRows.{client_value}
use Rattle.pt_model.specs.Queries.{client_of_found}
use Rattle.pt_next_grant.specs.Candidates.{latest_caller}
use Rattle.pt_records.specs.Callers.{open_in}
use Rattle.pt_state.specs.Adds.{history_of}
use Rattle.pt_state.specs.Serving.{call_of_open}
use Rattle.pt_machine.proofs.CandidateRows.{again-served, again-idle, if_left, if_taken}
use Rattle.pt_machine.proofs.machine.Machine.relocking_reader.Goals as goal

pub open_of-requires : goal.open_of-requires
open_of-requires g c = rw c.self.view_is c.requires.tables

pub returns-then-reads_more : goal.returns-then-reads_more
returns-then-reads_more g c =
    let s = c.args.self.now in
    let read = c.requires.tables in
    let come : Some c.in_ok-self.field-0 ≡ latest_caller (history_of s) =
    rw (← c.self.view_is) (sym c.in_ok-self.was ∙ c.self.invariant.2.enters) in
    let found : Some c.in_ok-open.«open».now
    ≡ open_in (client_value s.clients c.in_ok-self.field-0) =
    rw (← c.self.view_is) (ap option_copied (sym c.in_ok-open.was) ∙ c.open_of.ensures) in
    ap client_of_found
    (if_taken c.reads_more.result (call_of_open c.in_ok-open.«open».now) _ c.if-reads_more.true
    (again-served (history_of s) s.clients s.objects read.follows read.callers read.object_rows.look
    c.args.r c.args.lock.now c.requires.stored c.requires.unwritten c.in_ok-self.field-0 come
    c.in_ok-open.«open».now found c.reads_more.result c.reads_more.ensures))

pub returns-else-reads_more : goal.returns-else-reads_more
returns-else-reads_more g c =
    let s = c.args.self.now in
    let read = c.requires.tables in
    let come : Some c.in_ok-self.field-0 ≡ latest_caller (history_of s) =
    rw (← c.self.view_is) (sym c.in_ok-self.was ∙ c.self.invariant.2.enters) in
    let found : Some c.in_ok-open.«open».now
    ≡ open_in (client_value s.clients c.in_ok-self.field-0) =
    rw (← c.self.view_is) (ap option_copied (sym c.in_ok-open.was) ∙ c.open_of.ensures) in
    ap client_of_found
    (if_left c.reads_more.result (call_of_open c.in_ok-open.«open».now) _ c.if-reads_more.false
    (again-served (history_of s) s.clients s.objects read.follows read.callers read.object_rows.look
    c.args.r c.args.lock.now c.requires.stored c.requires.unwritten c.in_ok-self.field-0 come
    c.in_ok-open.«open».now found c.reads_more.result c.reads_more.ensures))

pub returns-in_err-open : goal.returns-in_err-open
returns-in_err-open g c =
    let s = c.args.self.now in
    let read = c.requires.tables in
    let come : Some c.in_ok-self.field-0 ≡ latest_caller (history_of s) =
    rw (← c.self.view_is) (sym c.in_ok-self.was ∙ c.self.invariant.2.enters) in
    let found : None ≡ open_in (client_value s.clients c.in_ok-self.field-0) =
    rw (← c.self.view_is) (ap option_copied (sym c.in_err-open.was) ∙ c.open_of.ensures) in
    c.from_residual-in_err-open.ensures
    ∙ ap client_of_found
    (again-idle (history_of s) s.clients s.objects read.follows read.callers read.object_rows.look
    c.args.r c.args.lock.now c.requires.stored c.requires.unwritten c.in_ok-self.field-0 come
    found)
