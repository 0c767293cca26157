use Rattle.std.proofs.Common.{◌≡◌, Some, option_map, sym, ap, ◌∙◌, subst, unwrap_or}
use Rattle.std.specs.Option.{option_copied}
use Rattle.pt_table.specs.ClientRows.{client_value}
use Rattle.pt_records.specs.Callers.{open_in}
use Rattle.pt_model.specs.declared.waiting_call.WaitingCall.{WaitingCall}
use Rattle.pt_model.specs.Forced.{service}
use Rattle.pt_state.specs.Adds.{Adds, history_of}
use Rattle.pt_state.specs.Serving.{call_of_open}
use Rattle.pt_machine.proofs.QueueFirsts.{found-known}
use Rattle.pt_machine.proofs.machine.Machine.push_service.Goals as goal

pub push_mutex_grant-requires-clause-is_open : goal.push_mutex_grant-requires-clause-is_open
push_mutex_grant-requires-clause-is_open g c =
    let s = c.args.self.now in
    let o = c.unwrap-open.result.now in
    let its : Some o ≡ open_in (client_value s.clients c.args.c) =
    rw (← c.self.view_is) (ap option_copied (sym c.unwrap-open.ensures) ∙ c.open_of.ensures) in
    found-known s.clients c.args.c (Some o) its

pub push_other_grant-requires-clause-is_open : goal.push_other_grant-requires-clause-is_open
push_other_grant-requires-clause-is_open g c =
    let s = c.args.self.now in
    let o = c.unwrap-open.result.now in
    let its : Some o ≡ open_in (client_value s.clients c.args.c) =
    rw (← c.self.view_is) (ap option_copied (sym c.unwrap-open.ensures) ∙ c.open_of.ensures) in
    found-known s.clients c.args.c (Some o) its

pub push_other_grant-requires-clause-other : goal.push_other_grant-requires-clause-other
push_other_grant-requires-clause-other g c =
    let s = c.args.self.now in
    let o = c.unwrap-open.result.now in
    let its : Some o ≡ open_in (client_value s.clients c.args.c) =
    rw (← c.self.view_is) (ap option_copied (sym c.unwrap-open.ensures) ∙ c.open_of.ensures) in
    c.requires.other (call_of_open o)
    (sym (c.requires.tables.callers.look.calls c.args.c) ∙ ap (option_map call_of_open) (sym its))

pub push_other_grant-requires-clause-plain : goal.push_other_grant-requires-clause-plain
push_other_grant-requires-clause-plain g c = sym c.mutex_of.ensures ∙ c.in-None.is

pub push_mutex_grant-requires-clause-has_room : goal.push_mutex_grant-requires-clause-has_room
push_mutex_grant-requires-clause-has_room g c =
    let s = c.args.self.now in
    let o = c.unwrap-open.result.now in
    let its : Some o ≡ open_in (client_value s.clients c.args.c) =
    rw (← c.self.view_is) (ap option_copied (sym c.unwrap-open.ensures) ∙ c.open_of.ensures) in
    c.requires.has_room (call_of_open o)
    (sym (c.requires.tables.callers.look.calls c.args.c) ∙ ap (option_map call_of_open) (sym its))

pub push_other_grant-requires-clause-has_room : goal.push_other_grant-requires-clause-has_room
push_other_grant-requires-clause-has_room g c =
    let s = c.args.self.now in
    let o = c.unwrap-open.result.now in
    let its : Some o ≡ open_in (client_value s.clients c.args.c) =
    rw (← c.self.view_is) (ap option_copied (sym c.unwrap-open.ensures) ∙ c.open_of.ensures) in
    c.requires.has_room (call_of_open o)
    (sym (c.requires.tables.callers.look.calls c.args.c) ∙ ap (option_map call_of_open) (sym its))

pub returns-in-Some : goal.returns-in-Some
returns-in-Some g c = λ w given.
    let s = c.args.self.now in
    let o = c.unwrap-open.result.now in
    let its : Some o ≡ open_in (client_value s.clients c.args.c) =
    rw (← c.self.view_is) (ap option_copied (sym c.unwrap-open.ensures) ∙ c.open_of.ensures) in
    let same : Some (call_of_open o) ≡ Some w =
    sym (sym (c.requires.tables.callers.look.calls c.args.c)
    ∙ ap (option_map call_of_open) (sym its))
    ∙ given in
    let one : call_of_open o ≡ w = ap (λ x. unwrap_or x w) same in
    subst (λ (v : WaitingCall). Adds s (service (history_of s) v) c.push_mutex_grant.new.self) one
    c.push_mutex_grant.ensures

pub returns-in-None : goal.returns-in-None
returns-in-None g c = λ w given.
    let s = c.args.self.now in
    let o = c.unwrap-open.result.now in
    let its : Some o ≡ open_in (client_value s.clients c.args.c) =
    rw (← c.self.view_is) (ap option_copied (sym c.unwrap-open.ensures) ∙ c.open_of.ensures) in
    let same : Some (call_of_open o) ≡ Some w =
    sym (sym (c.requires.tables.callers.look.calls c.args.c)
    ∙ ap (option_map call_of_open) (sym its))
    ∙ given in
    let one : call_of_open o ≡ w = ap (λ x. unwrap_or x w) same in
    subst (λ (v : WaitingCall). Adds s (service (history_of s) v) c.push_other_grant.new.self) one
    c.push_other_grant.ensures

pub open_of-requires : goal.open_of-requires
open_of-requires g c = rw c.self.view_is c.requires.tables
