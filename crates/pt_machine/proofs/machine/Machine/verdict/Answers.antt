use Rattle.std.proofs.Common.{ℕ, sym, ap, ◌∙◌}
use Rattle.pt_types.specs.OperationViews.{operation_view}
use Rattle.pt_types.specs.declared.outcome.Outcome.TheVariants.{Done}
use Rattle.pt_types.specs.declared.outcome.Verdict.TheVariants.{Reply, Stands}
use Rattle.pt_model.specs.Verdicts.{verdict_on, operation_verdict}
use Rattle.pt_state.specs.Adds.{history_of}
use Rattle.pt_state.specs.Requests.{object_meant, mutex_meant}
use Rattle.pt_machine.proofs.machine.Machine.verdict.Goals as goal

pub makes_verdict-requires : goal.makes_verdict-requires
makes_verdict-requires g c = rw c.self.view_is c.requires.tables

pub destroys_verdict-requires-clause-found : goal.destroys_verdict-requires-clause-found
destroys_verdict-requires-clause-found g c =
    c.requires.request.object
    ∙ ap (λ d. object_meant (history_of c.args.self.now) (operation_view d)) c.in-Ends.is

pub mutex_verdict-requires-clause-tables : goal.mutex_verdict-requires-clause-tables
mutex_verdict-requires-clause-tables g c = rw c.self.view_is c.requires.tables

pub write_verdict-requires-clause-tables : goal.write_verdict-requires-clause-tables
write_verdict-requires-clause-tables g c = rw c.self.view_is c.requires.tables

pub unlocks_verdict-requires-clause-tables : goal.unlocks_verdict-requires-clause-tables
unlocks_verdict-requires-clause-tables g c = rw c.self.view_is c.requires.tables

pub unlocks_verdict-requires-clause-found : goal.unlocks_verdict-requires-clause-found
unlocks_verdict-requires-clause-found g c =
    rw c.self.view_is
    (c.requires.request.object
    ∙ ap (λ d. object_meant (history_of c.args.self.now) (operation_view d)) c.in-Unlocks.is)

pub restores_verdict-requires-clause-tables : goal.restores_verdict-requires-clause-tables
restores_verdict-requires-clause-tables g c = rw c.self.view_is c.requires.tables

pub restores_verdict-requires-clause-found : goal.restores_verdict-requires-clause-found
restores_verdict-requires-clause-found g c =
    rw c.self.view_is
    (c.requires.request.object
    ∙ ap (λ d. object_meant (history_of c.args.self.now) (operation_view d)) c.in-Restores.is)

pub rwunlocks_verdict-requires-clause-tables : goal.rwunlocks_verdict-requires-clause-tables
rwunlocks_verdict-requires-clause-tables g c = rw c.self.view_is c.requires.tables

pub rwunlocks_verdict-requires-clause-found : goal.rwunlocks_verdict-requires-clause-found
rwunlocks_verdict-requires-clause-found g c =
    rw c.self.view_is
    (c.requires.request.object
    ∙ ap (λ d. object_meant (history_of c.args.self.now) (operation_view d)) c.in-Rwunlocks.is)

pub awaits_verdict-requires-clause-object : goal.awaits_verdict-requires-clause-object
awaits_verdict-requires-clause-object g c =
    c.requires.request.object
    ∙ ap (λ d. object_meant (history_of c.args.self.now) (operation_view d)) c.in-CondWaits.is

pub awaits_verdict-requires-clause-mutex : goal.awaits_verdict-requires-clause-mutex
awaits_verdict-requires-clause-mutex g c =
    c.requires.request.mutex
    ∙ ap (λ d. mutex_meant (history_of c.args.self.now) (operation_view d)) c.in-CondWaits.is

pub returns-in-Inits : goal.returns-in-Inits
returns-in-Inits g c =
    let s = c.self.inside.state in
    c.makes_verdict.ensures
    ∙ ap (λ d. operation_verdict (history_of s) c.args.c (operation_view d)) (sym c.in-Inits.is)
    ∙ ap (λ t. operation_verdict (history_of t) c.args.c (operation_view c.args.operation.now))
    c.self.view_is

pub returns-in-Ends : goal.returns-in-Ends
returns-in-Ends g c =
    c.destroys_verdict.ensures
    ∙ ap (λ d. operation_verdict (history_of c.args.self.now) c.args.c (operation_view d))
    (sym c.in-Ends.is)

pub returns-in-Unlocks : goal.returns-in-Unlocks
returns-in-Unlocks g c =
    let s = c.self.inside.state in
    c.unlocks_verdict.ensures
    ∙ ap (λ d. operation_verdict (history_of s) c.args.c (operation_view d)) (sym c.in-Unlocks.is)
    ∙ ap (λ t. operation_verdict (history_of t) c.args.c (operation_view c.args.operation.now))
    c.self.view_is

pub returns-in-Restores : goal.returns-in-Restores
returns-in-Restores g c =
    let s = c.self.inside.state in
    c.restores_verdict.ensures
    ∙ ap (λ d. operation_verdict (history_of s) c.args.c (operation_view d)) (sym c.in-Restores.is)
    ∙ ap (λ t. operation_verdict (history_of t) c.args.c (operation_view c.args.operation.now))
    c.self.view_is

pub returns-in-Rwunlocks : goal.returns-in-Rwunlocks
returns-in-Rwunlocks g c =
    let s = c.self.inside.state in
    c.rwunlocks_verdict.ensures
    ∙ ap (λ d. operation_verdict (history_of s) c.args.c (operation_view d)) (sym c.in-Rwunlocks.is)
    ∙ ap (λ t. operation_verdict (history_of t) c.args.c (operation_view c.args.operation.now))
    c.self.view_is

pub returns-in-CondWaits : goal.returns-in-CondWaits
returns-in-CondWaits g c =
    c.awaits_verdict.ensures
    ∙ ap (λ d. operation_verdict (history_of c.args.self.now) c.args.c (operation_view d))
    (sym c.in-CondWaits.is)

pub returns-in-Signals : goal.returns-in-Signals
returns-in-Signals g c =
    let h = history_of c.args.self.now in
    c.verdict_if_object.ensures
    ∙ ap (λ o. verdict_on o (λ (x : ℕ). Reply Done)) (c.requires.request.object
    ∙ ap (λ d. object_meant h (operation_view d)) c.in-Signals.is)
    ∙ ap (λ d. operation_verdict h c.args.c (operation_view d)) (sym c.in-Signals.is)

pub returns-in-Broadcasts : goal.returns-in-Broadcasts
returns-in-Broadcasts g c =
    let h = history_of c.args.self.now in
    c.verdict_if_object-in-Broadcasts.ensures
    ∙ ap (λ o. verdict_on o (λ (x : ℕ). Reply Done)) (c.requires.request.object
    ∙ ap (λ d. object_meant h (operation_view d)) c.in-Broadcasts.is)
    ∙ ap (λ d. operation_verdict h c.args.c (operation_view d)) (sym c.in-Broadcasts.is)

pub returns-in-BarrierWaits : goal.returns-in-BarrierWaits
returns-in-BarrierWaits g c =
    let h = history_of c.args.self.now in
    c.verdict_if_object-in-BarrierWaits.ensures
    ∙ ap (λ o. verdict_on o (λ (x : ℕ). Stands)) (c.requires.request.object
    ∙ ap (λ d. object_meant h (operation_view d)) c.in-BarrierWaits.is)
    ∙ ap (λ d. operation_verdict h c.args.c (operation_view d)) (sym c.in-BarrierWaits.is)
