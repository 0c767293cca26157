use Rattle.std.proofs.Common.{refl, sym, ap, ◌∙◌}
use Rattle.std.specs.Option.{option_copied}
use Rattle.pt_table.specs.ObjectRows.{object_value}
use Rattle.pt_state.specs.Adds.{history_of}
use Rattle.pt_state.proofs.JudgeLemmas.{rwlock-in, rwlock-missed}
use Rattle.pt_state.proofs.state.State.rwlock_found.Goals as goal

pub returns-in-None-clause-number : goal.returns-in-None-clause-number
returns-in-None-clause-number g c =
    rwlock-missed (history_of c.args.self.now) c.requires.tables.follows
    (object_value c.args.self.now.objects) c.requires.tables.object_rows.look c.args.n.now
    c.in_ok-r.r c.in_ok-r.r c.args.object c.requires.found c.in_ok-r.was refl
    (sym c.rwlock_at.ensures ∙ ap option_copied c.in-None.is)

pub returns-in-Some-clause-number : goal.returns-in-Some-clause-number
returns-in-Some-clause-number g c = sym c.in_ok-r.was ∙ c.requires.found

pub returns-in-Some-clause-lock : goal.returns-in-Some-clause-lock
returns-in-Some-clause-lock g c =
    rwlock-in (history_of c.args.self.now) c.requires.tables.follows
    (object_value c.args.self.now.objects) c.requires.tables.object_rows.look c.in_ok-r.r
    c.in-Some.lock.now (sym c.rwlock_at.ensures ∙ ap option_copied c.in-Some.is)
