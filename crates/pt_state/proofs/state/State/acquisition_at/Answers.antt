use Rattle.std.proofs.Common.{◌≡◌, ◌&&◌, is_none, sym, ap, ◌∙◌}
use Rattle.std.specs.Option.{option_copied}
use Rattle.pt_types.specs.declared.outcome.Consistency.{Consistency}
use Rattle.pt_types.specs.declared.outcome.Consistency.TheVariants.{Consistent}
use Rattle.pt_types.specs.MutexTable.{lock_outcome}
use Rattle.pt_table.specs.ObjectRows.{object_value}
use Rattle.pt_model.specs.Found.{is_some_and}
use Rattle.pt_model.specs.Grants.{is_expired}
use Rattle.pt_records.specs.Chained.{is_robust_free}
use Rattle.pt_state.specs.Adds.{history_of}
use Rattle.pt_state.specs.Granting.{consistency_in_row}
use Rattle.pt_state.proofs.RobustLemmas.{consistent-in, consistent-none, free-in, free-none}
use Rattle.pt_state.proofs.RobustLemmas.{free-unowned, robust-free, robust-not}
use Rattle.pt_state.proofs.state.State.acquisition_at.Given.{Over}
use Rattle.pt_state.proofs.state.State.acquisition_at.Goals.{then-is_robust, else-is_robust}
use Rattle.pt_state.proofs.state.State.acquisition_at.Goals as goal

-- what the two tests say is what the row says
tested : (g : Over) → (c : goal.After-lock_outcome g)
    → c.if-is_robust.result
    ≡ is_some_and is_robust_free (object_value c.args.self.now.objects c.args.m)
tested g c =
    let seen = c.in-Some.mutex.now.view in
    let free : c.if-is_robust.result ≡ (seen.robust && is_none seen.owner) =
    elim c.if-is_robust.branch [
      | then-is_robust w ↦ w.result-is
          ∙ robust-free c.is_robust.result seen.robust w.is_none.result w.owner.result seen.owner
          c.is_robust.ensures w.if-is_robust.true w.owner.ensures w.is_none.ensures
      | else-is_robust w ↦ w.result-is
          ∙ robust-not c.is_robust.result seen.robust seen.owner c.is_robust.ensures
          w.if-is_robust.false
    ] in
    free ∙ free-in (object_value c.args.self.now.objects c.args.m) c.in-Some.mutex.now
    (sym c.mutex_at.ensures ∙ ap option_copied c.in-Some.is)

pub returns-after-is_robust-clause-row : goal.returns-after-is_robust-clause-row
returns-after-is_robust-clause-row g c = tested g c

pub returns-after-is_robust-clause-robust : goal.returns-after-is_robust-clause-robust
returns-after-is_robust-clause-robust g c =
    tested g c
    ∙ free-unowned (history_of c.args.self.now) (object_value c.args.self.now.objects)
    c.requires.tables.object_rows.look c.args.m

pub returns-after-is_robust-clause-outcome : goal.returns-after-is_robust-clause-outcome
returns-after-is_robust-clause-outcome g c =
    let row = object_value c.args.self.now.objects c.args.m in
    c.lock_outcome.ensures
    ∙ (ap (λ (k : Consistency). lock_outcome k c.is_expired.result)
    (c.consistency.ensures ∙ consistent-in row c.in-Some.mutex.now
    (sym c.mutex_at.ensures ∙ ap option_copied c.in-Some.is))
    ∙ ap (lock_outcome (consistency_in_row row)) c.is_expired.ensures)

pub returns-in-None-clause-row : goal.returns-in-None-clause-row
returns-in-None-clause-row g c =
    free-none (object_value c.args.self.now.objects c.args.m)
    (sym c.mutex_at.ensures ∙ ap option_copied c.in-None.is)

pub returns-in-None-clause-robust : goal.returns-in-None-clause-robust
returns-in-None-clause-robust g c =
    free-none (object_value c.args.self.now.objects c.args.m)
    (sym c.mutex_at.ensures ∙ ap option_copied c.in-None.is)
    ∙ free-unowned (history_of c.args.self.now) (object_value c.args.self.now.objects)
    c.requires.tables.object_rows.look c.args.m

pub returns-in-None-clause-outcome : goal.returns-in-None-clause-outcome
returns-in-None-clause-outcome g c =
    c.lock_outcome-in-None.ensures
    ∙ (ap (lock_outcome Consistent) c.is_expired-in-None.ensures
    ∙ ap (λ (k : Consistency). lock_outcome k (is_expired c.args.moved))
    (consistent-none (object_value c.args.self.now.objects c.args.m)
    (sym c.mutex_at.ensures ∙ ap option_copied c.in-None.is)))
