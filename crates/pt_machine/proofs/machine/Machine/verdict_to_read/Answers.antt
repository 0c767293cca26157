use Rattle.std.proofs.Common.{◌≡◌, Some, ap, sym, ◌∙◌}
use Rattle.pt_types.specs.declared.operations.ObjectClass.TheVariants.{Rwlock as RwlockClass}
use Rattle.pt_types.specs.declared.operations.LockKind.TheVariants.{ReadLock}
use Rattle.pt_model.specs.Objects.{find_object}
use Rattle.pt_model.specs.Rwlocks.{rwlock_view}
use Rattle.pt_model.specs.Verdicts.{lock_kind_verdict, verdict_on}
use Rattle.pt_state.specs.Adds.{history_of}
use Rattle.pt_records.proofs.LockViews.{lock-found}
use Rattle.pt_machine.proofs.machine.Machine.verdict_to_read.Goals as goal

pub read_verdict-requires-clause-lock : goal.read_verdict-requires-clause-lock
read_verdict-requires-clause-lock g c =
    rw c.self.view_is
    (lock-found (history_of c.args.self.now) c.requires.tables.follows c.args.n.now c.in-Some.r
    (sym c.requires.found ∙ c.in-Some.is))

pub returns-in-Some : goal.returns-in-Some
returns-in-Some g c =
    let h = history_of c.args.self.now in
    let found : Some c.in-Some.r ≡ find_object h c.args.n.now RwlockClass =
    sym c.in-Some.is ∙ c.requires.found in
    rw (← c.self.view_is) c.read_verdict.ensures
    ∙ (c.is_read_blocked-blocked.ensures (rwlock_view h c.in-Some.r c.args.c)
    ∙ ap (λ r. verdict_on r (λ q. lock_kind_verdict h c.args.c q ReadLock c.args.how.now)) found)

pub read_verdict-requires-clause-tables : goal.read_verdict-requires-clause-tables
read_verdict-requires-clause-tables g c = rw c.self.view_is c.requires.tables
