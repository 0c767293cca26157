use Rattle.std.proofs.Common.{refl, sym, ap, ◌∙◌}
use Rattle.std.specs.Option.{option_copied}
use Rattle.pt_table.specs.ObjectRows.{object_value}
use Rattle.pt_state.specs.Adds.{history_of}
use Rattle.pt_state.proofs.JudgeLemmas.{mutex-in, mutex-missed}
use Rattle.pt_state.proofs.state.State.mutex_found.Goals as goal

pub returns-in-Some-clause-view : goal.returns-in-Some-clause-view
returns-in-Some-clause-view g c =
    (mutex-in (history_of c.args.self.now) c.requires.tables.follows
    (object_value c.args.self.now.objects) c.requires.tables.object_rows.look c.in_ok-m.m
    c.in-Some.mutex.now (sym c.mutex_at.ensures ∙ ap option_copied c.in-Some.is)).0

pub returns-in-None-clause-number : goal.returns-in-None-clause-number
returns-in-None-clause-number g c =
    mutex-missed (history_of c.args.self.now) c.requires.tables.follows
    (object_value c.args.self.now.objects) c.requires.tables.object_rows.look c.args.n.now
    c.in_ok-m.m c.in_ok-m.m c.args.object c.requires.found c.in_ok-m.was refl
    (sym c.mutex_at.ensures ∙ ap option_copied c.in-None.is)

pub returns-in-Some-clause-number : goal.returns-in-Some-clause-number
returns-in-Some-clause-number g c = sym c.in_ok-m.was ∙ c.requires.found
